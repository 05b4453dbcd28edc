use Rattle.std.proofs.Common.{◌≡◌, take, map}
use Rattle.std.specs.Prelude.{flat_map}
use Rattle.c_tree.specs.Scopes.{State}
use Rattle.c_tree.specs.Views.{types_of}
use Rattle.c_tree.specs.Views as views
use Rattle.c_tree.specs.Programs.{object_of}
use Rattle.c_elaborator.specs.Work.{Shows}
use Rattle.c_finish.proofs.objects.objects.Given as goal

abbrev pub invariant-loop-k : goal.invariant-loop-k
invariant-loop-k l = (s : State) → Shows l.work s →
    map (views.object_of (types_of l.work.nodes.p.types)) l.list.items ≡ flat_map (object_of s) (take l.k s.statics)
