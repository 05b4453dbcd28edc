-- What a node of a program whose place is wanted asks for first.
use Rattle.std.specs.Prelude.{◌≡◌, ℕ, ◌+◌, ◌^◌, ◌<◌, Bool, true, false, ◌∷◌, Result, length, slice_get}
use Rattle.ck_base.specs.Runs.{Goes}
use Rattle.ck_base.specs.declared.positions.Pos.{Pos}
use Rattle.cap_ops.specs.Permissions.{const_permissions}
use Rattle.c_tree.specs.Layout.{bare}
use Rattle.c_tree.specs.declared.typed.ExprKind.{ExprKind}
use Rattle.c_tree.specs.declared.typed.ExprKind.TheVariants as exprs
use Rattle.c_tree.specs.declared.typed.Typed.{Typed}
use Rattle.obj_mem.specs.declared.value.Value.TheVariants as value
use Rattle.cheri_c_sem.specs.Expressions.{assignment, permissions_of, type_of, variable}
use Rattle.cheri_c_sem.specs.Modes.{Store}
use Rattle.cheri_c_sem.specs.Operations.{Operations}
use Rattle.cheri_c_sem.specs.Tree.{Ex, Object}
use Rattle.cheri_c_sem.specs.Tree as tree
use Rattle.cheri_c_sem.specs.Types.{is_record, offset_in}
use Rattle.mean_steps.specs.Machine.{designate, finish_place}
use Rattle.mean_run.specs.Offsets.{HasMember}
use Rattle.mean_run.specs.Parts.{Does, Unless_wanting}
use Rattle.mean_work.specs.declared.work.Stop.{Stop}
use Rattle.mean_run.specs.declared.state.State.{State}
use Rattle.mean_work.specs.declared.work.Place.TheVariants as place
use Rattle.mean_work.specs.declared.work.Work.TheVariants as work
use Rattle.mean_work.specs.declared.work.TheConstants.{NOWHERE}
use Rattle.mean_run.specs.Sizes.{IsSmall}
use Rattle.mean_run.specs.Views.{vars_at, moment_of, funs_of}

-- the place that a tree designates at once
abbrev pub Designates : Operations Store → Store → Typed → Ex → State → State → Type 0
Designates ops held p e old new = designate ops (funs_of p) e (moment_of p old held) ≡ Goes (moment_of p new held)

abbrev pub nowhere : State → State
nowhere s = record s { places = NOWHERE ∷ s.places }

-- a struct or union stands for the object that it is taken from, or for the one that is assigned to
abbrev pub taken_from : (f a : ℕ) → Bool → State → State
taken_from f a true s = record s { work = work.Place f a ∷ s.work }
taken_from f a false s = nowhere s

abbrev pub assigned_to : (f k a b : ℕ) → Bool → State → State
assigned_to f k a b true s = record s { work = work.Place f a ∷ work.Place f b ∷ work.FinishPlace f k ∷ s.work }
assigned_to f k a b false s = nowhere s

-- expression k of function f, of a type, at a position and of a kind
abbrev pub Placed : Operations Store → Store → Typed → (f k of : ℕ) → Pos → ExprKind → State → State → Type 0
Placed ops held p f k of pos (exprs.Var x) old new = Designates ops held p (variable p (vars_at p f) pos x) old new
Placed ops held p f k of pos (exprs.Global g) old new =
    Designates ops held p (Object pos g (permissions_of p (vars_at p f) (slice_get p.globals g))) old new
Placed ops held p f k of pos (exprs.Literal n) old new =
    length p.globals < 2 ^ 32 → Designates ops held p (Object pos (length p.globals + n) const_permissions) old new
Placed ops held p f k of pos (exprs.Fun g) old new =
    new ≡ record old { places = place.At pos (value.Fun g) ∷ old.places }
Placed ops held p f k of pos (exprs.Deref a) old new =
    new ≡ record old { work = work.Value f a ∷ work.FinishPlace f k ∷ old.work }
Placed ops held p f k of pos (exprs.Member a m) old new =
    new ≡ record old { work = work.Place f a ∷ work.FinishPlace f k ∷ old.work }
Placed ops held p f k of pos (exprs.Conditional c a b) old new =
    new ≡ record old { work = work.Value f c ∷ work.ChoosePlace f k ∷ old.work }
Placed ops held p f k of pos (exprs.Comma a b) old new =
    new ≡ record old { work = work.Value f a ∷ work.Drop ∷ work.Place f b ∷ old.work }
Placed ops held p f k of pos (exprs.Load a) old new = new ≡ taken_from f a (is_record (bare p.types of)) old
Placed ops held p f k of pos (exprs.Assign a b) old new = new ≡ assigned_to f k a b (is_record (bare p.types of)) old
Placed ops held p f k of pos e old new = new ≡ nowhere old

-- what the operation of a node does that gives a place: of a type, at a position and of a kind
module _ (ops : Operations Store) (p : Typed) (f : ℕ) (held left : Store) (old new : State)
    (r : Result (Unit {0}) Stop) where
  abbrev PlaceFinishes : Ex → Type 0
  PlaceFinishes e = Does (finish_place ops (funs_of p) e (moment_of p old held)) (moment_of p new left) r

  abbrev pub PlaceFinishedBy : ℕ → Pos → ExprKind → Type 0
  PlaceFinishedBy of pos (exprs.Deref a) = (x : Ex) → PlaceFinishes (tree.Deref pos x)
  PlaceFinishedBy of pos (exprs.Member a n) =
      HasMember p.types (type_of (slice_get p.exprs a)) n → (x : Ex) →
      PlaceFinishes (tree.Member pos (offset_in p.types (type_of (slice_get p.exprs a)) n) x)
  PlaceFinishedBy of pos (exprs.Assign a b) =
      IsSmall p of → (x y : Ex) → PlaceFinishes (assignment p (vars_at p f) pos of a x y)
  PlaceFinishedBy of pos e = Unless_wanting r ((new ≡ nowhere old) × (left ≡ held))
