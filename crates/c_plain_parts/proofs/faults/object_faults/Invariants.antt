use Rattle.std.proofs.Common.{◌≡◌, ◌-◌, drop}
use Rattle.std.specs.Prelude.{flat_map}
use Rattle.c_tree.specs.Scopes.{State}
use Rattle.c_tree.specs.Programs.{static_faults}
use Rattle.c_elaborator.specs.Work.{Shows}
use Rattle.c_plain_parts.specs.Faults.{found, onto}
use Rattle.c_plain_parts.proofs.faults.object_faults.Given as goal

abbrev pub invariant-loop-i : goal.invariant-loop-i
invariant-loop-i l = (s : State) → Shows l.work s →
    found l.best ≡ onto (flat_map (static_faults s) (drop (l.n - l.i) s.statics)) (found l.fn.rest)
