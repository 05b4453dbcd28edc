use Rattle.std.proofs.Common.{ℕ}
use Rattle.c_tree.specs.declared.typed.FunDef.{FunDef}
use Rattle.ordered_programs.proofs.Each.{item_read, one_more, all_come}
use Rattle.plain_programs.specs.Plain.{ParamsPlain}
use Rattle.plain_programs.proofs.program.are_functions_plain.Goals as goal

pub loop-f-preserved : goal.loop-f-preserved
loop-f-preserved c =
    let xs = c.args.funs.now in
    let i = c.loop-f.f-index in
    let x = c.f-item.result in
    one_more (λ (j : ℕ) (x : FunDef). ParamsPlain c.args.types.now x) xs i x
    (item_read xs i x c.loop-f-test.true c.f-item.is)
    c.loop-f.invariant (c.are_params_plain.ensures c.if-not-are_params_plain.false)

pub returns : goal.returns
returns c = λ e. all_come (λ (j : ℕ) (x : FunDef). ParamsPlain c.args.types.now x) c.args.funs.now c.loop-f.f-index
    c.loop-f-test.false c.loop-f.invariant
