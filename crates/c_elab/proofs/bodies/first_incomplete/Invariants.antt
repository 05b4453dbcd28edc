use Rattle.std.proofs.Common.{◌≡◌, drop, map}
use Rattle.c_tree.specs.Programs.{first_incomplete}
use Rattle.c_tree.specs.Scopes.{State}
use Rattle.c_elaborator.specs.Work.{Shows}
use Rattle.c_declarators.specs.Parts.{param_in}
use Rattle.c_elab.proofs.bodies.first_incomplete.Given as goal

abbrev pub invariant-loop-param : goal.invariant-loop-param
invariant-loop-param l =
    (s : State) → Shows l.work s →
    first_incomplete s.tags (map (param_in l.work) l.params)
    ≡ first_incomplete s.tags (map (param_in l.work) (drop l.param-index l.params))
