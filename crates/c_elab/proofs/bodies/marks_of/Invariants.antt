use Rattle.std.proofs.Common.{◌≡◌, length, take}
use Rattle.c_elab.specs.Functions.{AreMarked}
use Rattle.c_elab.proofs.bodies.marks_of.Given as goal

abbrev pub invariant-loop-k : goal.invariant-loop-k
invariant-loop-k l = record {
  marks : AreMarked (take l.k-index l.work.addressed.items) l.marks.items;
  count :
      length l.marks.items ≡ l.fn.n;
}
