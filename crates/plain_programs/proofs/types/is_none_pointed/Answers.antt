use Rattle.std.proofs.Common.{◌≡◌, ℕ, false, get_or, sym, ◌∙◌}
use Rattle.std.proofs.lemmas.Option.{slice_get-get_or}
use Rattle.c_tree.specs.Passed.{by_pointer}
use Rattle.passing_steps.specs.Numbered.{type_in}
use Rattle.ordered_programs.proofs.Each.{one_more, all_come}
use Rattle.plain_programs.proofs.types.is_none_pointed.Goals as goal

pub loop-t-preserved : goal.loop-t-preserved
loop-t-preserved c =
    let ts = c.args.ts.now in
    let i = c.loop-t.t-index in
    one_more (λ (j t : ℕ). by_pointer (type_in c.args.types.now t) ≡ false) ts i (get_or ts i 0)
    (slice_get-get_or ts i 0 c.loop-t-test.true) c.loop-t.invariant
    (sym c.by_pointer.ensures ∙ c.if-by_pointer.false)

pub returns : goal.returns
returns c = λ e.
    all_come (λ (j t : ℕ). by_pointer (type_in c.args.types.now t) ≡ false) c.args.ts.now c.loop-t.t-index
    c.loop-t-test.false c.loop-t.invariant
