use Rattle.std.proofs.Common.{◌≡◌, ◌-◌, drop}
use Rattle.std.specs.Prelude.{flat_map}
use Rattle.c_tree.specs.Scopes.{State}
use Rattle.c_tree.specs.Programs.{routine_faults}
use Rattle.c_elaborator.specs.Work.{Shows}
use Rattle.c_plain_parts.specs.Faults.{found, onto}
use Rattle.c_plain_parts.proofs.faults.function_faults.Given as goal

abbrev pub invariant-loop-i : goal.invariant-loop-i
invariant-loop-i l = (s : State) → Shows l.work s →
    found l.best ≡ onto (flat_map (routine_faults) (drop (l.n - l.i) s.routines)) (found l.fn.rest)
