use Rattle.std.proofs.Common.{length}
use Rattle.c_interner.specs.Levels.{AreBelow}
use Rattle.c_interner.specs.Known.{AreComposites, answers_left}
use Rattle.c_interner.specs.Numbers.{AddsTypes}
use Rattle.c_interner.proofs.composites.Composites.find.Given as goal

abbrev pub invariant-steps : goal.invariant-steps
invariant-steps l = record {
  known : AreComposites l.p.types l.self;
  adds : AddsTypes l.fn.p l.p;
  waiting :
      AreBelow (length l.p.types) l.waiting.items;
}

abbrev pub decreases-steps : goal.decreases-steps
decreases-steps l = answers_left l.self.known.entries
