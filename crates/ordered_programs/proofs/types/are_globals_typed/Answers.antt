use Rattle.std.proofs.Common.{ℕ, ◌<◌, arith}
use Rattle.c_tree.specs.declared.typed.GlobalDef.{GlobalDef}
use Rattle.ordered_programs.proofs.Each.{item_read, one_more, all_come}
use Rattle.ordered_programs.proofs.types.are_globals_typed.Goals as goal

pub loop-g-preserved : goal.loop-g-preserved
loop-g-preserved c =
    let xs = c.args.globals.now in
    let i = c.loop-g.g-index in
    let x = c.g-item.result in
    one_more (λ (j : ℕ) (x : GlobalDef). x.of < c.args.n) xs i x (item_read xs i x c.loop-g-test.true c.g-item.is)
    c.loop-g.invariant (omega arith)

pub returns : goal.returns
returns c = λ e.
    all_come (λ (j : ℕ) (x : GlobalDef). x.of < c.args.n) c.args.globals.now c.loop-g.g-index
    c.loop-g-test.false c.loop-g.invariant
