use Rattle.std.proofs.Common.{refl, ◌∙◌}
use Rattle.c_passing.proofs.Programs.{object_made}
use Rattle.c_passing.proofs.program.object.Goals as goal

pub returns : goal.returns
returns c =
    object_made c.args.numbers.now c.args.g.now _ c.number_in-of.ensures refl refl
    (c.from_vec.ensures ∙ c.in_ok-bytes.ensures.items ∙ c.as_slice.ensures)
    (c.from_vec-2.ensures ∙ c.in_ok-links.ensures.items ∙ c.as_slice-2.ensures)
