use Rattle.std.proofs.Common.{◌-◌, drop}
use Rattle.c_tree.specs.Scopes.{State}
use Rattle.c_elaborator.specs.Work.{Shows}
use Rattle.c_plain_parts.proofs.MainFunction.{MainFrom}
use Rattle.c_plain_rules.proofs.main_function.main_of.Given as goal

abbrev pub invariant-loop-i : goal.invariant-loop-i
invariant-loop-i l = (s : State) → Shows l.work s → MainFrom (drop (l.n - l.i) s.routines) (l.n - l.i) l.found
