-- What a state has to be so that the program that it stands for is well typed.
use Rattle.std.specs.Prelude.{◌≡◌, ℕ, ℤ, true, length, Some, slice_get}
use Rattle.c_tree.specs.Types.{Ty, Function, Tys, bare, count}
use Rattle.c_tree.specs.Terms.{To_global, numbers_from}
use Rattle.c_tree.specs.Scopes.{LocalState, StaticState, RoutineState, Body, State}
use Rattle.c_tree.specs.Statics.{aim_length}
use Rattle.c_tree.specs.Views.{times_in}
use Rattle.c_tree.specs.Programs.{is_there, has_main, reaches}
use Rattle.c_tree.specs.WellTyped.{holds, declared, outside}
use Rattle.typing_laws.proofs.Agreeing.{refines}
use Rattle.typing_laws.proofs.Facts.{Complete, Sized, IsUsed, Inv}
use Rattle.typing_laws.proofs.Acts.{between, ActionOk}
use Rattle.typing_laws.proofs.Placed.{IsWaiting, Begins}
use Rattle.typing_laws.proofs.Wholes.{ParamsFit, with_locals}

-- the body of a function of a type: no parameter is declared, and each other variable once
pub record BodyStands (s : State) (t : Ty) (b : Body) : Type 0 where
  pub result : Ty
  pub takes : Tys
  pub is : t ≡ Function result takes
  pub params : b.params ≡ numbers_from 0 (count takes)
  pub fit : ParamsFit takes b.vars
  pub sized : (k : ℕ) (v : LocalState) → slice_get b.vars k ≡ Some v → Sized s.tags v.of
  pub once : (k : ℕ) → times_in k (declared b.action) ≡ between (count takes) (length b.vars) k
  pub gives : Ty
  pub refined : holds (refines gives (bare result))
  pub body : ActionOk (with_locals s b.vars) gives outside b.action

-- nothing is used that is not defined, and each object is complete
pub record Standing (s : State) : Type 0 where
  pub inv : Inv true s
  pub bodies : (k : ℕ) (f : RoutineState) (b : Body) → slice_get s.routines k ≡ Some f → f.body ≡ Some b →
      BodyStands s f.of b
  pub begins : Begins s
  pub statics : (k : ℕ) (g : StaticState) → slice_get s.statics k ≡ Some g →
      Complete s.tags g.of × (IsUsed g.used → g.defined ≡ true)
  pub routines : (k : ℕ) (f : RoutineState) → slice_get s.routines k ≡ Some f → IsUsed f.used → is_there f.body ≡ true
  pub reached : (k : ℕ) (z : ℤ) → IsWaiting s.pending k z → reaches (aim_length s (To_global k)) z ≡ true
  pub main : has_main s.routines ≡ true
