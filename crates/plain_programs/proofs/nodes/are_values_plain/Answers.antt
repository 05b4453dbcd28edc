use Rattle.std.proofs.Common.{ℕ, get_or}
use Rattle.std.proofs.lemmas.Option.{slice_get-get_or}
use Rattle.ordered_programs.proofs.Each.{one_more, all_come}
use Rattle.plain_programs.specs.Plain.{ValuePlain}
use Rattle.plain_programs.proofs.nodes.are_values_plain.Goals as goal

pub loop-x-preserved : goal.loop-x-preserved
loop-x-preserved c =
    let xs = c.args.xs.now in
    let i = c.loop-x.x-index in
    one_more (λ (j a : ℕ). ValuePlain c.args.p.now a) xs i (get_or xs i 0)
    (slice_get-get_or xs i 0 c.loop-x-test.true) c.loop-x.invariant
    (c.is_value_plain.ensures c.if-not-is_value_plain.false)

pub returns : goal.returns
returns c = λ e. all_come (λ (j a : ℕ). ValuePlain c.args.p.now a) c.args.xs.now c.loop-x.x-index c.loop-x-test.false
    c.loop-x.invariant
