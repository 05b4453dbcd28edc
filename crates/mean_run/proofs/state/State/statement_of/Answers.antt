use Rattle.mean_run.proofs.Stating.{in_block, in_for}
use Rattle.mean_run.proofs.state.State.statement_of.Goals as goal

pub returns-in-Block-clause-does : goal.returns-in-Block-clause-does
returns-in-Block-clause-does g c = λ order.
    let ops = g.B.Operations.meaning c.args.m.now in
    let held = g.B.Operations.held c.args.m.now in
    let p = c.args.s.now.p.now in
    let left = g.B.Operations.held c.enter_block.new.m in
    let entered = rw c.as_slice.ensures at c.enter_block.ensures.did in
    rw c.in-Block.is (λ node. in_block ops p c.args.f c.args.k c.args.a.now.pos held left c.args.self.now
    c.block_entered.new.self c.block_entered.result c.enter_block.new.state _ _ node entered c.block_entered.ensures)

pub returns-in-For-clause-does : goal.returns-in-For-clause-does
returns-in-For-clause-does g c = λ order.
    let ops = g.B.Operations.meaning c.args.m.now in
    let held = g.B.Operations.held c.args.m.now in
    let p = c.args.s.now.p.now in
    let left = g.B.Operations.held c.enter_block-in-For.new.m in
    let entered = rw c.as_slice-in-For.ensures at c.enter_block-in-For.ensures.did in
    rw c.in-For.is (λ node. in_for ops p c.args.f c.args.k c.args.a.now.pos held left c.args.self.now
    c.for_entered.new.self c.for_entered.result c.enter_block-in-For.new.state _ _ _ _ _ node entered
    c.for_entered.ensures)
