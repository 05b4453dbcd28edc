use Rattle.std.proofs.Common.{◌≡◌, ℕ, ◌<◌, Some}
use Rattle.std.specs.Prelude.{slice_get}
use Rattle.c_tree.specs.declared.typed.Member.{Member}
use Rattle.ordered_programs.proofs.types.are_members_typed.Given as goal

abbrev pub invariant-loop-m : goal.invariant-loop-m
invariant-loop-m l = (j : ℕ) (x : Member) → j < l.m-index → slice_get l.members j ≡ Some x → x.of < l.n
