-- The operands that are pointers.
use Rattle.std.specs.Prelude.{◌≡◌, ℕ, ◌⊎◌, Some, slice_get}
use Rattle.c_tree.specs.Types.{Ty, Pointer, Function, Tys}
use Rattle.c_tree.specs.Terms as tree
use Rattle.c_tree.specs.Terms.{Shape, Term, term, Terms, no_terms, with_term, type_of, Action, action, Actions}
use Rattle.c_tree.specs.Terms.{no_actions, with_action, Routine, Program}
use Rattle.same_programs.specs.Types.{peeled}

abbrev pub PointsTo : Ty → Type 0
PointsTo t = (u : Ty) × (peeled t ≡ Pointer u)

-- one operand of a sum, the operands of a difference and what is called are pointers
abbrev pub ShapePoints : Shape → Terms → Type 0
ShapePoints (tree.Plus minus) (with_term a (with_term b no_terms)) = PointsTo (type_of a) ⊎ PointsTo (type_of b)
ShapePoints tree.Difference (with_term a (with_term b no_terms)) = PointsTo (type_of a)
ShapePoints tree.Call (with_term a xs) = PointsTo (type_of a)
ShapePoints n xs = Unit {0}

abbrev mutual
  pub TermPoints : Term → Type 0
  TermPoints (term n xs t p) = TermsPoint xs × ShapePoints n xs

  pub TermsPoint : Terms → Type 0
  TermsPoint no_terms = Unit {0}
  TermsPoint (with_term x xs) = TermPoints x × TermsPoint xs

abbrev mutual
  pub ActionPoints : Action → Type 0
  ActionPoints (action f xs ys p) = TermsPoint xs × ActionsPoint ys

  pub ActionsPoint : Actions → Type 0
  ActionsPoint no_actions = Unit {0}
  ActionsPoint (with_action x xs) = ActionPoints x × ActionsPoint xs

-- what is called and what is defined is a function
pub record RoutinePoints (r : Routine) : Type 0 where
  pub result : Ty
  pub takes : Tys
  pub of : peeled r.of ≡ Function result takes
  pub body : ActionPoints r.body

abbrev pub ProgramPoints : Program → Type 0
ProgramPoints q = (k : ℕ) (r : Routine) → slice_get q.routines k ≡ Some r → RoutinePoints r
