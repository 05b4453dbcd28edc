-- The trees of statements do what the lowering asks: those of a function's body, where its parameters are in scope.
use Rattle.std.specs.Prelude.{◌≡◌, ℕ, length, Some, slice_get}
use Rattle.c_tree.specs.WellTyped.{outside}
use Rattle.c_tree.specs.declared.typed.FunDef.{FunDef}
use Rattle.c_tree.specs.declared.typed.Typed.{Typed}
use Rattle.cheri_c_sem.specs.Programs.{stmt_tree}
use Rattle.lower_runs.specs.States.{Scene}
use Rattle.lower_runs.specs.Trees.{Does}
use Rattle.value_trees.specs.Standing.{HaveSpots}

abbrev pub BodiesDo : Typed → Type 0
BodiesDo p = (n : ℕ) (d : FunDef) → slice_get p.funs n ≡ Some d → (g : Scene) → HaveSpots d.vars g d.params →
    Does d.vars (length d.params) outside g (stmt_tree p d.vars d.body)
