use Rattle.std.proofs.Common.{◌≡◌, drop, map}
use Rattle.c_tree.specs.Expressions.{all_complete}
use Rattle.c_tree.specs.Scopes.{State}
use Rattle.c_tree.specs.Views.{tys}
use Rattle.c_expressions.specs.Nodes.{type_in}
use Rattle.c_elaborator.specs.Work.{Shows}
use Rattle.c_elaborator.proofs.work.Work.all_complete.Given as goal

abbrev pub invariant-loop-of : goal.invariant-loop-of
invariant-loop-of l =
    (s : State) → Shows l.self s →
    all_complete s (tys (map (type_in l.self.nodes) l.params))
    ≡ all_complete s (tys (map (type_in l.self.nodes) (drop l.of-index l.params)))
