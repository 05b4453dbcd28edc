use Rattle.std.proofs.Common.{◌≡◌, take, map}
use Rattle.c_tree.specs.Scopes.{State}
use Rattle.c_tree.specs.Views as views
use Rattle.c_tree.specs.Programs.{pointing_of}
use Rattle.c_elaborator.specs.Work.{Shows, aiming_of}
use Rattle.c_finish.proofs.objects.links_of.Given as goal

abbrev pub invariant-loop-i : goal.invariant-loop-i
invariant-loop-i l = (s : State) → Shows l.work s →
    map views.pointing_of l.links.items ≡ map (pointing_of s) (map aiming_of (take l.i l.starts))
