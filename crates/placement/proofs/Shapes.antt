-- Objects as a run goes on.
use Rattle.std.proofs.Common.{◌≡◌, ◌⊎◌, ℕ, zero, suc, ◌+◌, ◌-◌, ◌≤◌, List, [], ◌∷◌, Option, Some, None, refl, sym, ap}
use Rattle.std.proofs.Common.{◌∙◌, subst, inl, inr, arith}
use Rattle.std.specs.Prelude.{slice_get, slice_set}
use Rattle.obj_mem.specs.Values.{Value, Int, Live, Fun, Raw, Addresses}
use Rattle.obj_mem.specs.Objects.{Life, Shape, with_life_by}
use Rattle.obj_mem.specs.Legal.{Apart}
use Rattle.obj_mem.specs.Agreement.{IsNotReturned}
use Rattle.obj_mem.specs.Standing.{IsBased, IsFitted, IsGood, IsSpread}
use Rattle.placement.specs.Memories.{Kept, KeepsShapes, KeepsStack, IsClear, IsThere, IsAlive}
use Rattle.placement.proofs.Lists.{some_same}

-- ---- extents

pub swap : (b n c k : ℕ) → Apart b n c k → Apart c k b n
swap b n c k (inl x) = inr x
swap b n c k (inr x) = inl x

pub smaller : (b n c k d j : ℕ) → c ≤ d → d + j ≤ c + k → Apart b n c k → Apart b n d j
smaller b n c k d j l h (inl x) = inl (omega arith)
smaller b n c k d j l h (inr x) = inr (omega arith)

pub apart_as : (b n c k b' n' : ℕ) → b' ≡ b → n' ≡ n → Apart b n c k → Apart b' n' c k
apart_as b n c k b' n' e f (inl x) = inl (omega arith)
apart_as b n c k b' n' e f (inr x) = inr (omega arith)

-- ---- kept objects

-- an object is where it was, and has not come to life again
pub record IsFrom (g h : Shape) : Type 0 where
  pub base : h.base ≡ g.base
  pub owned : h.owned ≡ g.owned
  pub length : h.length ≡ g.length
  pub stayed : IsNotReturned h.life → IsNotReturned g.life

pub from_kept : (g h : Shape) → Kept g h → IsFrom g h
from_kept g h k = record { base = k.base; owned = k.owned; length = k.length; stayed = k.stayed }

-- objects own what they owned
abbrev pub KeepsOwned : List Shape → List Shape → Type 0
KeepsOwned s t = (i : ℕ) (g : Shape) → slice_get s i ≡ Some g → (h : Shape) × (slice_get t i ≡ Some h)
    × (h.owned ≡ g.owned)

pub kept_same : (g : Shape) → Kept g g
kept_same g = record { base = refl; owned = refl; length = refl; stays = λ x. x; stayed = λ x. x }

kept_twice : (g h k : Shape) → Kept g h → Kept h k → Kept g k
kept_twice g h k a b = record {
  base = b.base ∙ a.base;
  owned = b.owned ∙ a.owned;
  length = b.length ∙ a.length;
  stays = λ x. b.stays (a.stays x);
  stayed = λ x. a.stayed (b.stayed x);
}

pub keeps_same : (s : List Shape) → KeepsShapes s s
keeps_same s = record { kept = λ i g e. (g, e, kept_same g) }

pub keeps_twice : (s t u : List Shape) → KeepsShapes s t → KeepsShapes t u → KeepsShapes s u
keeps_twice s t u a b = record {
  kept = λ i g e. let x = a.kept i g e in let y = b.kept i x.0 x.1 in
      (y.0, y.1, kept_twice g x.0 y.0 x.2 y.2);
}

pub some_not_none : {A : Type 0} (o : Option A) (x : A) → o ≡ Some x → o ≡ None → ⊥
some_not_none o x e f = cc

pub stack_same : (stack size : ℕ) (s : List Shape) → KeepsStack stack size s s
stack_same stack size s = record { fresh = λ i h e f x. absurd (some_not_none (slice_get s i) h f e) }

pub stack_twice : (stack size : ℕ) (s t u : List Shape) → KeepsStack stack size s t → KeepsShapes t u
    → KeepsStack stack size t u → KeepsStack stack size s u
stack_twice stack size s t u a k b = record { fresh = λ i h e f x. go i h e f x (slice_get t i) refl }
  where
    go : (i : ℕ) (h : Shape) → slice_get s i ≡ None → slice_get u i ≡ Some h → IsNotReturned h.life
        → (o : Option Shape) → slice_get t i ≡ o → Apart h.base h.owned stack size
    go i h e f x None q = b.fresh i h q f x
    go i h e f x (Some g) q =
        let y = k.kept i g q in
        let r : y.0 ≡ h = some_same (slice_get u i) y.0 h y.1 f in
        let kept : Kept g h = subst (Kept g) r y.2 in
        apart_as g.base g.owned stack size h.base h.owned kept.base kept.owned (a.fresh i g e q (kept.stayed x))

-- ---- goodness

pub good_owned : (s t : List Shape) (functions : ℕ) → KeepsOwned s t → (v : Value) → IsGood s functions v
    → IsGood t functions v
good_owned s t functions l (Int n) g = g
good_owned s t functions l (Raw a u) g = g
good_owned s t functions l (Fun f) g = g
good_owned s t functions l (Live o low high at p) g =
    let y = l o g.shape g.there in
    record {
      shape = y.0;
      there = y.1;
      fitted = subst (λ n. IsFitted n low high) (sym y.2) g.fitted;
      near = g.near;
      word = g.word;
      twelve_bits = g.twelve_bits;
    }

pub owned_kept : (s t : List Shape) → KeepsShapes s t → KeepsOwned s t
owned_kept s t l i g e = let y = l.kept i g e in (y.0, y.1, y.2.owned)

pub good_later : (s t : List Shape) (functions : ℕ) → KeepsShapes s t → (v : Value) → IsGood s functions v
    → IsGood t functions v
good_later s t functions l v g = good_owned s t functions (owned_kept s t l) v g

pub there_later : (s t : List Shape) → KeepsShapes s t → (i : ℕ) → IsThere s i → IsThere t i
there_later s t l i e = let y = l.kept i e.0 e.1 in (y.0, y.1)

pub alive_later : (s t : List Shape) → KeepsShapes s t → (i : ℕ) → IsAlive s i → IsAlive t i
alive_later s t l i e = let y = l.kept i e.0 e.1 in (y.0, y.1, y.2.stays e.2)

-- ---- clear extents

pub clear_part : (t : List Shape) (c k d j : ℕ) → c ≤ d → d + j ≤ c + k → IsClear t c k → IsClear t d j
clear_part t c k d j l h a = record { clear = λ i g e x. smaller g.base g.owned c k d j l h (a.clear i g e x) }

-- the objects of t are where those of s were
abbrev pub AreFrom : List Shape → List Shape → Type 0
AreFrom s t = (i : ℕ) (h : Shape) → slice_get t i ≡ Some h → (g : Shape) × (slice_get s i ≡ Some g) × IsFrom g h

pub clear_same : (s t : List Shape) → AreFrom s t → (from n : ℕ) → IsClear s from n → IsClear t from n
clear_same s t back from n c =
    record {
      clear = λ i h e x. let y = back i h e in apart_as y.0.base y.0.owned from n h.base h.owned y.2.base
          y.2.owned (c.clear i y.0 y.1 (y.2.stayed x));
    }

pub clear_later : (stack size n : ℕ) (s t : List Shape) → KeepsShapes s t → KeepsStack stack size s t → n ≤ size
    → IsClear s stack n → IsClear t stack n
clear_later stack size n s t l f le c = record { clear = λ i h e x. go i h e x (slice_get s i) refl }
  where
    go : (i : ℕ) (h : Shape) → slice_get t i ≡ Some h → IsNotReturned h.life → (o : Option Shape) → slice_get s i ≡ o
        → Apart h.base h.owned stack n
    go i h e x None q = smaller h.base h.owned stack size stack n (omega arith) (omega arith) (f.fresh i h q e x)
    go i h e x (Some g) q =
        let y = l.kept i g q in
        let r : y.0 ≡ h = some_same (slice_get t i) y.0 h y.1 e in
        let kept : Kept g h = subst (Kept g) r y.2 in
        apart_as g.base g.owned stack n h.base h.owned kept.base kept.owned (c.clear i g q (kept.stayed x))

-- ---- the same objects, of which some may have another life

based_as : (g h : Shape) → IsFrom g h → IsBased g.base g.owned g.length → IsBased h.base h.owned h.length
based_as g h k p =
    subst (λ b. IsBased b h.owned h.length) (sym k.base)
    (subst (λ n. IsBased g.base n h.length) (sym k.owned) (subst (λ n. IsBased g.base g.owned n) (sym k.length) p))

pub spread_same : (s t : List Shape) (functions : ℕ) (a : Addresses) → AreFrom s t → IsSpread s functions a
    → IsSpread t functions a
spread_same s t functions a back sp = record {
  placed = λ i h e. let y = back i h e in based_as y.0 h y.2 (sp.placed i y.0 y.1);
  apart = λ i j g h e f d x z.
      let u = back i g e in
      let v = back j h f in
      let w = apart_as u.0.base u.0.owned v.0.base v.0.owned g.base g.owned u.2.base u.2.owned
      (sp.apart i j u.0 v.0 u.1 v.1 d (u.2.stayed x) (v.2.stayed z)) in
      swap h.base h.owned g.base g.owned
      (apart_as v.0.base v.0.owned g.base g.owned h.base h.owned v.2.base v.2.owned
      (swap g.base g.owned v.0.base v.0.owned w));
  off_text = λ i h e. let y = back i h e in apart_as y.0.base y.0.owned a.text (a.text_end - a.text) h.base h.owned
      y.2.base y.2.owned (sp.off_text i y.0 y.1);
  in_text = sp.in_text;
  text_from = sp.text_from;
  text_to = sp.text_to;
  distinct = sp.distinct;
}

-- ---- one object gets another life

-- the object at a place, and the others
pub get_set : (t : List Shape) (k : ℕ) (g h : Shape) → slice_get t k ≡ Some g → (i : ℕ) (x : Shape)
    → slice_get (slice_set t k h) i ≡ Some x → ((i ≡ k) × (x ≡ h)) ⊎ ((i ≡ k → ⊥) × (slice_get t i ≡ Some x))
get_set [] k g h e i x f = absurd cc
get_set (y ∷ t) zero g h e zero x f = let q : h ≡ x = cc in inl (refl, sym q)
get_set (y ∷ t) zero g h e (suc i) x f = inr (λ z. absurd (omega arith), f)
get_set (y ∷ t) (suc k) g h e zero x f = inr (λ z. absurd (omega arith), f)
get_set (y ∷ t) (suc k) g h e (suc i) x f = go (get_set t k g h e i x f)
  where
    go : ((i ≡ k) × (x ≡ h)) ⊎ ((i ≡ k → ⊥) × (slice_get t i ≡ Some x))
        → ((suc i ≡ suc k) × (x ≡ h)) ⊎ ((suc i ≡ suc k → ⊥) × (slice_get t i ≡ Some x))
    go (inl p) = inl (ap suc p.0, p.1)
    go (inr p) = inr (λ z. p.0 (omega arith), p.1)

pub set_is : (t : List Shape) (k : ℕ) (g h : Shape) → slice_get t k ≡ Some g → slice_get (slice_set t k h) k ≡ Some h
set_is [] k g h e = absurd cc
set_is (y ∷ t) zero g h e = refl
set_is (y ∷ t) (suc k) g h e = set_is t k g h e

pub set_other : (t : List Shape) (k i : ℕ) (h : Shape) → (i ≡ k → ⊥) → slice_get (slice_set t k h) i ≡ slice_get t i
set_other [] k i h d = refl
set_other (y ∷ t) zero zero h d = absurd (d refl)
set_other (y ∷ t) zero (suc i) h d = refl
set_other (y ∷ t) (suc k) zero h d = refl
set_other (y ∷ t) (suc k) (suc i) h d = set_other t k i h (λ z. d (ap suc z))

-- the objects of t are those of s
pub record Alters (s t : List Shape) : Type 0 where
  pub forward : KeepsShapes s t
  pub back : AreFrom s t

pub alters_same : (s t : List Shape) → t ≡ s → Alters s t
alters_same s t q = subst (λ x. Alters s x) (sym q)
    (record { forward = keeps_same s; back = λ i h e. (h, e, from_kept h h (kept_same h)) })

with_life_kept : (g : Shape) (l : Life) → IsNotReturned g.life → IsNotReturned l → Kept g (record g { life = l })
with_life_kept g l x y = record { base = refl; owned = refl; length = refl; stays = λ z. y; stayed = λ z. x }

pub same_place : (i k : ℕ) → ((i ≡ k) ⊎ (i ≡ k → ⊥))
same_place zero zero = inl refl
same_place zero (suc k) = inr (λ z. absurd (omega arith))
same_place (suc i) zero = inr (λ z. absurd (omega arith))
same_place (suc i) (suc k) = go (same_place i k)
  where
    go : (i ≡ k) ⊎ (i ≡ k → ⊥) → (suc i ≡ suc k) ⊎ (suc i ≡ suc k → ⊥)
    go (inl p) = inl (ap suc p)
    go (inr p) = inr (λ z. p (omega arith))

-- an object gets another life, of those that have not returned
pub alters_life : (l : Life) → IsNotReturned l → (t : List Shape) (k : ℕ) (o : Option Shape) → slice_get t k ≡ o
    → ((g : Shape) → o ≡ Some g → IsNotReturned g.life) → Alters t (with_life_by l t k o)
alters_life l y t k None is x = alters_same t t refl
alters_life l y t k (Some g) is x = record { forward = record { kept = forth }; back = back }
  where
    h : Shape
    h = record g { life = l }

    here : Kept g h
    here = with_life_kept g l (x g refl) y

    forth : (i : ℕ) (u : Shape) → slice_get t i ≡ Some u → (v : Shape) × (slice_get (slice_set t k h) i ≡ Some v)
        × Kept u v
    forth i u e = go (same_place i k)
      where
        go : (i ≡ k) ⊎ (i ≡ k → ⊥) → (v : Shape) × (slice_get (slice_set t k h) i ≡ Some v) × Kept u v
        go (inl q) =
            let r : g ≡ u = some_same (slice_get t k) g u is (subst (λ j. slice_get t j ≡ Some u) q e) in (
              h,
              subst (λ j. slice_get (slice_set t k h) j ≡ Some h) (sym q) (set_is t k g h is),
              subst
                  (λ z. Kept z h) r here,
            )
        go (inr d) = (u, set_other t k i h d ∙ e, kept_same u)

    back : AreFrom t (slice_set t k h)
    back i v e = go (get_set t k g h is i v e)
      where
        go : ((i ≡ k) × (v ≡ h)) ⊎ ((i ≡ k → ⊥) × (slice_get t i ≡ Some v)) → (u : Shape) × (slice_get t i ≡ Some u)
            × IsFrom u v
        go (inl q) = (
          g,
          subst (λ j. slice_get t j ≡ Some g) (sym q.0) is,
          subst (IsFrom g) (sym q.1)
              (from_kept g h here),
        )
        go (inr q) = (v, q.1, from_kept v v (kept_same v))

pub stack_altered : (stack size : ℕ) (s t : List Shape) → AreFrom s t → KeepsStack stack size s t
stack_altered stack size s t back =
    record { fresh = λ i h e f x. let y = back i h f in absurd (some_not_none (slice_get s i) y.0 y.1 e) }
