use Rattle.std.proofs.Common.{◌≡◌, ℕ, ◌≤◌, length, Some}
use Rattle.std.specs.Prelude.{slice_get}
use Rattle.c_tree.specs.Scopes.{State}
use Rattle.c_tree.specs.Programs.{numbers_of}
use Rattle.c_elaborator.specs.Work.{Shows}
use Rattle.c_finish.proofs.numbering.numbers_of_objects.Given as goal

abbrev pub invariant-loop-k : goal.invariant-loop-k
invariant-loop-k l = record {
  filled : (s : State) → Shows l.work s → (j v : ℕ) → slice_get l.table.items j ≡ Some v → (numbers_of s).0 j ≡ v;
  next : (s : State) → Shows l.work s → (numbers_of s).0 l.k ≡ l.next;
  count : length l.table.items ≡ l.k;
  low : l.next ≤ l.k;
}
