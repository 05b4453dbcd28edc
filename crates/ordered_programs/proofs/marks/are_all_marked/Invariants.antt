use Rattle.std.proofs.Common.{◌≡◌, ℕ, ◌<◌, Bool, true, Some}
use Rattle.std.specs.Prelude.{slice_get}
use Rattle.ordered_programs.proofs.marks.are_all_marked.Given as goal

abbrev pub invariant-loop-b : goal.invariant-loop-b
invariant-loop-b l = (j : ℕ) (x : Bool) → j < l.b-index → slice_get l.marks j ≡ Some x → x ≡ true
