use Rattle.std.proofs.Common.{◌≡◌, ℕ, ◌<◌, Some}
use Rattle.std.specs.Prelude.{slice_get}
use Rattle.plain_programs.specs.Plain.{ValuePlain}
use Rattle.plain_programs.proofs.nodes.are_values_plain.Given as goal

abbrev pub invariant-loop-x : goal.invariant-loop-x
invariant-loop-x l = (j a : ℕ) → j < l.x-index → slice_get l.xs j ≡ Some a → ValuePlain l.p a
