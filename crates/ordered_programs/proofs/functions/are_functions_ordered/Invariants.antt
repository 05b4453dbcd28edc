use Rattle.std.proofs.Common.{◌≡◌, ℕ, ◌<◌, [], ◌∷◌, Some, take}
use Rattle.std.specs.Prelude.{slice_get}
use Rattle.c_tree.specs.declared.typed.FunDef.{FunDef}
use Rattle.ordered_programs.specs.Uses.{MarksEach}
use Rattle.ordered_programs.specs.Ordered.{FunctionTyped}
use Rattle.ordered_programs.proofs.functions.are_functions_ordered.Given as goal

abbrev pub invariant-loop-k : goal.invariant-loop-k
invariant-loop-k l = record {
  typed : (j : ℕ) (f : FunDef) → j < l.k → slice_get l.funs j ≡ Some f → FunctionTyped l.types f;
  bodies : MarksEach (λ (f : FunDef). f.body ∷ []) (λ k. l.count) (take l.k l.funs) l.initial.stmts.items l.stmts.items;
}
