use Rattle.std.proofs.Common.{Bool, List, false, ap, sym, ◌∙◌}
use Rattle.std.specs.Prelude.{slice_get}
use Rattle.std.proofs.lemmas.Option.{slice_get_within}
use Rattle.ordered_programs.proofs.Marking.{marks_one}
use Rattle.ordered_programs.proofs.marks.mark.Goals as goal

pub set-requires : goal.set-requires
set-requires c =
    slice_get_within c.args.marks.now.items c.args.k false
    (ap (λ (ms : List Bool). slice_get ms c.args.k) (sym c.as_slice.ensures.value)
    ∙ c.is_free.ensures.free c.if-not-is_free.false)

pub returns : goal.returns
returns c = λ e.
    marks_one c.args.limit c.args.marks.now.items c.set.new.marks.items c.args.k
    (c.is_free.ensures.below c.if-not-is_free.false)
    (ap (λ (ms : List Bool). slice_get ms c.args.k) (sym c.as_slice.ensures.value)
    ∙ c.is_free.ensures.free c.if-not-is_free.false) c.set.ensures
