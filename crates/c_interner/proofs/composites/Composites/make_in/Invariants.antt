use Rattle.std.proofs.Common.{◌≡◌, ◌<◌, false, length}
use Rattle.c_interner.specs.Known.{has_answer}
use Rattle.c_interner.specs.Levels.{rank, AreBelow}
use Rattle.c_interner.proofs.composites.Composites.make_in.Given as goal

abbrev pub invariant-parts : goal.invariant-parts
invariant-parts l = record {
  same : l.p ≡ l.fn.p;
  first : l.part.0 < length l.fn.p.types;
  second : l.part.1 < length l.fn.p.types;
  waiting : AreBelow (length l.fn.p.types) l.waiting.items;
  unknown : has_answer l.self.known.entries l.part ≡ false;
}

abbrev pub decreases-parts : goal.decreases-parts
decreases-parts l = rank l.self.void l.part.0
