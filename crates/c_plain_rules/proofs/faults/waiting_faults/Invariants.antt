use Rattle.std.proofs.Common.{◌≡◌, ◌-◌, drop}
use Rattle.std.specs.Prelude.{flat_map}
use Rattle.c_tree.specs.Scopes.{State}
use Rattle.c_tree.specs.Programs.{pending_faults}
use Rattle.c_elaborator.specs.Work.{Shows}
use Rattle.c_plain_parts.specs.Faults.{found, onto}
use Rattle.c_plain_rules.proofs.faults.waiting_faults.Given as goal

abbrev pub invariant-loop-i : goal.invariant-loop-i
invariant-loop-i l = (s : State) → Shows l.work s →
    found l.best ≡ onto (flat_map (pending_faults s) (drop (l.n - l.i) s.pending)) (found l.fn.rest)
