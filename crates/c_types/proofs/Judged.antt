-- Tests come before a step.
use Rattle.std.proofs.Common.{◌≡◌, ℕ, zero, suc, Bool, true, false, Result, Ok, Err, refl, sym, ap, subst, ◌∙◌}
use Rattle.std.proofs.Common.{◌<◌, ◌≤◌, length, Some, None, arith}
use Rattle.std.specs.Prelude.{nat_eq, ◌||◌, ◌&&◌}
use Rattle.std.proofs.Math.Dec.{eqb-suc-zero}
use Rattle.std.proofs.lemmas.Option.{slice_get-get_or, slice_get_past}
use Rattle.ck_base.specs.declared.positions.Pos.{Pos}
use Rattle.ck_base.specs.declared.refusal.Refusal.{Refusal}
use Rattle.ck_base.specs.declared.refusal.Refusal.TheVariants.{Code, NoMemory}
use Rattle.c_tree.specs.declared.typed.Typed.{Typed}
use Rattle.c_tree.specs.Types.{Ty, Void, Array}
use Rattle.c_tree.specs.Declarators.{Formed, judge}
use Rattle.c_tree.specs.Declarations.{is_open}
use Rattle.c_tree.specs.Views.{types_of}
use Rattle.c_tree.specs.Scopes.{Entity, State, Doing, Fault, continued, give, ◌>>=◌, ◌>>◌}
use Rattle.c_types.specs.declared.scopes.Scopes.{Scopes}
use Rattle.c_types.specs.Calls.{Given, Answers, IsEntity, IsDeclared}
use Rattle.c_types.specs.Declares.{giving}
use Rattle.c_types.specs.declared.entries.Entry.{Entry}
use Rattle.c_types.specs.Naming.{IsNumber}
use Rattle.c_types.specs.Judging.{IsJudged, admits}
use Rattle.c_interner.specs.Numbers.{type_named}
use Rattle.c_types.specs.Stands.{Stands, named}
use Rattle.c_interner.proofs.Growing.{length-types_of}

-- ---- the tests

pub admits_not : (fits : Bool) (f : Formed) (lacks misfits : Bool) (place : Pos) → fits ≡ false →
    IsJudged (admits fits f lacks misfits place) (Err (Code 131 place))
admits_not fits f lacks misfits place e s = rw e refl

pub admits_then : (fits : Bool) (f : Formed) (lacks misfits : Bool) (place : Pos) (r : Result Unit Refusal) →
    fits ≡ true → IsJudged (judge f lacks misfits place) r → IsJudged (admits fits f lacks misfits place) r
admits_then fits f lacks misfits place (Ok x) e h = λ s. rw e (h s)
admits_then fits f lacks misfits place (Err (Code code at)) e h = λ s. rw e (h s)
admits_then fits f lacks misfits place (Err NoMemory) e h = h

pub steps_after : {A B : Type 0} (d : Doing Unit) (k : Doing A) (f : A → Doing B) (s : State) →
    ((d >> k) >>= f) s ≡ (d >> (k >>= f)) s
steps_after {A} {B} d k f s = by_result (d s)
  where
    by_result : (r : Result (Unit × State) Fault) → continued (continued r (λ a. k)) f ≡ continued r (λ a. k >>= f)
    by_result (Ok x) = refl
    by_result (Err e) = refl

-- a step that goes on only where the tests pass
pub admitted : {A : Type 0} (sd : Scopes) (q : Typed) (s : State) (d k : Doing A) (f : Formed)
    (fits lacks misfits b l m : Bool) (place : Pos) (x : Unit {0}) (Fits : State → A → Type 0) →
    d s ≡ (admits b f l m place >> k) s → fits ≡ b → lacks ≡ l → misfits ≡ m →
    IsJudged (admits fits f lacks misfits place) (Ok x) → Given sd q (k s) Fits → Given sd q (d s) Fits
admitted sd q s d k f fits lacks misfits b l m place x Fits i u v w h o =
    let e : admits b f l m place s ≡ Ok (tt, s) = rw (← u, ← v, ← w) (h s) in
    record {
      value = o.value;
      state = o.state;
      is = i ∙ ap (λ r. continued r (λ a. k)) e ∙ o.is;
      stands = o.stands;
      fits = o.fits;
    }

pub not_admitted : {A X : Type 0} (sc : Scopes) (p : Typed) (d : Doing A) (k : State → Doing A) (f : Formed)
    (fits lacks misfits : Bool) (b l m : State → Bool) (place : Pos) (Fits : X → State → A → Type 0) (e : Refusal) →
    ((s : State) → d s ≡ (admits (b s) f (l s) (m s) place >> k s) s) → ((s : State) → Stands sc p s → fits ≡ b s) →
    ((s : State) → Stands sc p s → lacks ≡ l s) → ((s : State) → Stands sc p s → misfits ≡ m s) →
    IsJudged (admits fits f lacks misfits place) (Err e) → Answers sc p sc p d Fits (Err e)
not_admitted sc p d k f fits lacks misfits b l m place Fits (Code code at) i u v w h = record {
  refused = λ s g. i s ∙ ap (λ r. continued r (λ a. k s))
      (let e : admits (b s) f (l s) (m s) place s ≡ Err (record { code = code; place = at }) =
      rw (← u s g, ← v s g, ← w s g) (h s) in e);
  program = refl;
  keeps = λ s g. g;
}
not_admitted sc p d k f fits lacks misfits b l m place Fits NoMemory i u v w h = absurd h

-- a step that gives a number gives the entity with that number
pub entity_given : (sd : Scopes) (q : Typed) (s : State) (d : Doing ℕ) (of : ℕ → Entity) (k : ℕ) (x : Entry) →
    IsEntity q x (of k) → Given sd q (d s) (IsNumber k) → Given sd q (giving of d s) (IsDeclared q x)
entity_given sd q s d of k x e g = record {
  value = of g.value;
  state = g.state;
  is = ap (λ r. continued r (λ j. give (of j))) g.is;
  stands = g.stands;
  fits = subst (λ j. IsEntity q x (of j)) (sym g.fits) e;
}

pub named_there : (p : Typed) (k : ℕ) → k < length p.types → named (types_of p.types) k ≡ Some (type_named p k)
named_there p k lt = slice_get-get_or (types_of p.types) k Void (omega (arith, length-types_of p.types))

pub named_past : (p : Typed) (k : ℕ) → length p.types ≤ k → named (types_of p.types) k ≡ None
named_past p k le = slice_get_past (types_of p.types) k (omega (arith, length-types_of p.types))

pub open_is : (t : Ty) (n : ℕ) → is_open (Array t n) ≡ nat_eq n 0
open_is t zero = refl
open_is t (suc n) = sym (eqb-suc-zero n)

pub ready_alike : (a b o u d : Bool) → a ≡ b → o ≡ u → (a || (o && d)) ≡ (b || (u && d))
ready_alike a b o u d e f = cc
