use Rattle.c_tree.specs.Scopes.{State}
use Rattle.c_elaborator.specs.Work.{Shows}
use Rattle.c_finish.specs.Finished.{AreRoutines, BodiesThere}
use Rattle.c_finish.proofs.routines.routines.Given as goal

abbrev pub invariant-loop-k : goal.invariant-loop-k
invariant-loop-k l = record {
  are : (s : State) → Shows l.work s → AreRoutines l.work s l.k l.list.items;
  bodies : BodiesThere l.work l.list.items;
}
