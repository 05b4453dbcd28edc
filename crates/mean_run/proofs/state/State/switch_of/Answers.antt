use Rattle.std.proofs.Common.{Ok, Err, refl, subst}
use Rattle.obj_mem.specs.Values.{value_of}
use Rattle.cheri_c_sem.specs.Expressions.{kind_at}
use Rattle.mean_run.specs.Parts.{Gives}
use Rattle.mean_run.specs.Views.{moment_of, now_of, vars_at}
use Rattle.mean_run.proofs.Stating.{same_finds, switch_lands, switch_over}
use Rattle.mean_run.proofs.state.State.switch_of.Goals as goal

pub returns-in-Err-clause-does : goal.returns-in-Err-clause-does
returns-in-Err-clause-does g c =
    let ops = g.B.Operations.meaning c.args.m.now in
    let held = g.B.Operations.held c.args.m.now in
    let p = c.args.s.now.p.now in
    let f = c.args.f in
    let k = c.args.k in
    let old = c.args.self.now in
    let s = c.take-v.new.self in
    let t = c.enter_block.new.state in
    let left = g.B.Operations.held c.enter_block.new.m in
    let vars = vars_at p f in
    let v = c.take-v.result in
    let entered = rw c.as_slice.ensures at c.enter_block.ensures.did in
    let finds = same_finds _ ops _ (kind_at p vars c.in-Switch.on) _ _ c.args.a.now.pos (value_of v) (now_of t left)
    c.enter_block.ensures.same (c.kind_at.ensures vars) c.as_slice-in-Switch.ensures in
    rw c.in-Switch.is (λ node. switch_over ops p f k held left old s t t c.args.a.now.pos _ _ _ _ _ node
    c.take-v.ensures.state entered v c.take-v.ensures.value c.in-Err.stop (moment_of p t left)
    (subst (λ x. Gives x (λ o. o) (now_of t left) (Err c.in-Err.stop)) finds (c.in-Err.ensures (now_of t left) refl)))

pub returns-in-Ok-clause-does : goal.returns-in-Ok-clause-does
returns-in-Ok-clause-does g c =
    let ops = g.B.Operations.meaning c.args.m.now in
    let held = g.B.Operations.held c.args.m.now in
    let p = c.args.s.now.p.now in
    let f = c.args.f in
    let k = c.args.k in
    let old = c.args.self.now in
    let s = c.take-v.new.self in
    let t = c.enter_block.new.state in
    let left = g.B.Operations.held c.enter_block.new.m in
    let vars = vars_at p f in
    let v = c.take-v.result in
    let entered = rw c.as_slice.ensures at c.enter_block.ensures.did in
    let finds = same_finds _ ops _ (kind_at p vars c.in-Switch.on) _ _ c.args.a.now.pos (value_of v) (now_of t left)
    c.enter_block.ensures.same (c.kind_at.ensures vars) c.as_slice-in-Switch.ensures in
    rw c.in-Switch.is (λ node. switch_lands ops p f k held left old s t c.goes_to.new.self c.args.a.now.pos _ _
    _ _ _ node c.take-v.ensures.state entered v c.take-v.ensures.value c.in-Ok.to c.goes_to.result
    (subst (λ x. Gives x (λ o. o) (now_of t left) (Ok c.in-Ok.to)) finds (c.in-Ok.ensures (now_of t left) refl))
    c.goes_to.ensures)
