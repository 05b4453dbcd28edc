use Rattle.std.proofs.Common.{ℕ}
use Rattle.c_tree.specs.declared.typed.CType.{CType}
use Rattle.ordered_programs.proofs.Each.{item_read, one_more, all_come}
use Rattle.plain_programs.specs.Plain.{TypePlain}
use Rattle.plain_programs.proofs.types.are_types_plain.Goals as goal

pub loop-c-preserved : goal.loop-c-preserved
loop-c-preserved c =
    let xs = c.args.types.now in
    let i = c.loop-c.c-index in
    let x = c.c-item.result in
    one_more (λ (j : ℕ) (x : CType). TypePlain c.args.types.now x) xs i x
    (item_read xs i x c.loop-c-test.true c.c-item.is)
    c.loop-c.invariant (c.is_type_plain.ensures c.if-not-is_type_plain.false)

pub returns : goal.returns
returns c = λ e. all_come (λ (j : ℕ) (x : CType). TypePlain c.args.types.now x) c.args.types.now c.loop-c.c-index
    c.loop-c-test.false c.loop-c.invariant
