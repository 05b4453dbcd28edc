-- Each variable has a home of its own.
use Rattle.std.proofs.Common.{◌≡◌, ℕ, zero, suc, ◌+◌, ◌<◌, ◌≤◌, Bool, true, false, List, [], ◌∷◌, ◌++◌, length, take}
use Rattle.std.proofs.Common.{Option, Some, refl, sym, ap, ◌∙◌, subst, arith, inl, inr, if◌then◌else◌}
use Rattle.std.specs.Prelude.{slice_get, nat_lt, ◌⊎◌}
use Rattle.std.proofs.lemmas.Bool.{ltb-true, ltb-false}
use Rattle.std.proofs.lemmas.Option.{slice_get_within}
use Rattle.c_tree.specs.WellTyped.{type_in}
use Rattle.c_tree.specs.declared.typed.FunDef.{FunDef}
use Rattle.c_tree.specs.declared.typed.Typed.{Typed}
use Rattle.c_tree.specs.declared.typed.VarDef.{VarDef}
use Rattle.cheri_c_sem.specs.Programs.{lengths_of}
use Rattle.cheri_c_sem.specs.Types.{is_simple, objects_before, size_in}
use Rattle.tac_ir.specs.declared.code.TacKind.{TacKind}
use Rattle.tac_lower.specs.declared.context.Home.{Home}
use Rattle.tac_lower.specs.declared.context.Home.TheVariants as home
use Rattle.tac_emit.specs.declared.emitter.Emitter.{Emitter}
use Rattle.tac_lower.specs.Nodes.{kept_as, or_int}
use Rattle.tac_lower.specs.Programs.{temp_of, IsNext, IsPlaced, AreHomes}
use Rattle.tac_lower.specs.Scenes.{HomeFits}

-- the number of an object among a function's
pub before_is : (p : Typed) (vs : List VarDef) (i : ℕ) → objects_before vs i ≡ length (lengths_of p (take i vs))
before_is p [] zero = refl
before_is p [] (suc i) = refl
before_is p (v ∷ vs) zero = refl
before_is p (v ∷ vs) (suc i) = by v.simple (before_is p vs i)
  where
    by : (b : Bool) → objects_before vs i ≡ length (lengths_of p (take i vs)) →
        (if b then 0 else 1) + objects_before vs i
        ≡ length (if b then lengths_of p (take i vs) else size_in p.types v.of ∷ lengths_of p (take i vs))
    by true h = omega (arith, h)
    by false h = omega (arith, h)

-- an item of a list, or the one behind it
pushed : (hs : List Home) (h : Home) (x : ℕ) (f : Home) → slice_get (hs ++ h ∷ []) x ≡ Some f →
    (slice_get hs x ≡ Some f) ⊎ ((x ≡ length hs) × (h ≡ f))
pushed [] h zero f e = inr (refl, let q : Some h ≡ Some f = e in cc)
pushed [] h (suc x) f e = absurd cc
pushed (g ∷ hs) h zero f e = inl e
pushed (g ∷ hs) h (suc x) f e = by (pushed hs h x f e)
  where
    by : (slice_get hs x ≡ Some f) ⊎ ((x ≡ length hs) × (h ≡ f)) →
        (slice_get (g ∷ hs) (suc x) ≡ Some f) ⊎ ((suc x ≡ length (g ∷ hs)) × (h ≡ f))
    by (inl q) = inl q
    by (inr q) = inr (ap suc q.0, q.1)

same_var : (v u : VarDef) → ◌≡◌ {A = Option VarDef} (Some v) (Some u) → v ≡ u
same_var v u e = cc

-- a home that is found behind others
record IsFound (p : Typed) (d : FunDef) (i top : ℕ) (h : Home) : Type 0 where
  value : (t : ℕ) (k : TacKind) → h ≡ home.Temp t k → (is_simple (slice_get d.vars i) ≡ true) ×
      ((v : VarDef) → slice_get d.vars i ≡ Some v → or_int (kept_as (type_in p v.of)) ≡ k)
  object : (n t : ℕ) → h ≡ home.Object n t →
      (is_simple (slice_get d.vars i) ≡ false) × (objects_before d.vars i ≡ n)
  placed : IsPlaced (length d.params) i h
  fresh : ((i < length d.params) × (temp_of h ≡ i)) ⊎ (temp_of h ≡ top)

module _ (p : Typed) (d : FunDef) where
  found : (i n top : ℕ) (v : VarDef) (h : Home) (e : Emitter) → slice_get d.vars i ≡ Some v →
      n ≡ objects_before d.vars i → length d.params ≤ top → IsNext (length d.params) i n top v h →
      HomeFits p d e v h → IsFound p d i top h
  found i n top v (home.Temp t k) e there is few next fits = record {
    value = λ u j same.
        let kind : k ≡ j = cc in (
          ap is_simple there ∙ next.0,
          λ w at. ap (λ (z : VarDef). or_int (kept_as (type_in p z.of))) (sym (same_var v w (sym there ∙ at)))
              ∙ fits.1 ∙ kind,
        );
    object = λ m u same. absurd cc;
    placed = place (nat_lt i (length d.params)) refl next.1;
    fresh = new (nat_lt i (length d.params)) refl next.1;
  }
    where
      place : (b : Bool) → nat_lt i (length d.params) ≡ b → t ≡ (if b then i else top) →
          ((i < length d.params) × (t ≡ i)) ⊎ ((length d.params ≤ i) × (length d.params ≤ t))
      place true e q = inl (ltb-true i (length d.params) e, q)
      place false e q = inr (ltb-false i (length d.params) e, omega (arith, q, few))

      new : (b : Bool) → nat_lt i (length d.params) ≡ b → t ≡ (if b then i else top) →
          ((i < length d.params) × (t ≡ i)) ⊎ (t ≡ top)
      new true e q = inl (ltb-true i (length d.params) e, q)
      new false e q = inr q
  found i n top v (home.Object m t) e there is few next fits = record {
    value = λ u j same. absurd cc;
    object = λ o u same. let number : m ≡ o = cc in (ap is_simple there ∙ next.0, sym is ∙ sym next.1 ∙ number);
    placed = omega (arith, next.2, few);
    fresh = inr next.2;
  }

  -- no home so far has the temp of the next one
  apart : (i x top : ℕ) (h f : Home) → x < i → IsFound p d i top h → IsPlaced (length d.params) x f →
      temp_of f < top → temp_of f ≡ temp_of h → ⊥
  apart i x top h (home.Temp t k) lt new there below same = by new.fresh there
    where
      by : ((i < length d.params) × (temp_of h ≡ i)) ⊎ (temp_of h ≡ top) →
          ((x < length d.params) × (t ≡ x)) ⊎ ((length d.params ≤ x) × (length d.params ≤ t)) → ⊥
      by (inl a) (inl b) = omega (arith, a.1, b.1, same)
      by (inl a) (inr b) = omega (arith, a.0, a.1, b.1, same)
      by (inr a) b = omega (arith, a, same)
  apart i x top h (home.Object n t) lt new there below same = by new.fresh
    where
      by : ((i < length d.params) × (temp_of h ≡ i)) ⊎ (temp_of h ≡ top) → ⊥
      by (inl a) = omega (arith, a.0, a.1, there, same)
      by (inr a) = omega (arith, a, same)

  pub homed_none : (top : ℕ) → AreHomes p d [] top
  homed_none top = record {
    value = λ x t k e. absurd cc;
    object = λ x n t e. absurd cc;
    below = λ x h e. absurd cc;
    placed = λ x h e. absurd cc;
    differ = λ x y h i e f s. absurd cc;
  }

  pub homed_more : (hs : List Home) (i n top next : ℕ) (v : VarDef) (h : Home) (e : Emitter) → AreHomes p d hs top →
      length hs ≡ i → slice_get d.vars i ≡ Some v → n ≡ objects_before d.vars i → length d.params ≤ top →
      IsNext (length d.params) i n top v h → HomeFits p d e v h → temp_of h < next → top ≤ next →
      AreHomes p d (hs ++ h ∷ []) next
  homed_more hs i n top next v h e so_far many there is few new fits lt le =
      let one = found i n top v h e there is few new fits in record {
        value = λ x t k q. value x t k (pushed hs h x (home.Temp t k) q) one;
        object = λ x m t q. object x m t (pushed hs h x (home.Object m t) q) one;
        below = λ x f q. below x f (pushed hs h x f q);
        placed = λ x f q. placed x f (pushed hs h x f q) one;
        differ = λ x y f g q r s. differ x y f g (pushed hs h x f q) (pushed hs h y g r) s one;
      }
    where
      value : (x t : ℕ) (k : TacKind) →
          (slice_get hs x ≡ Some (home.Temp t k)) ⊎ ((x ≡ length hs) × (h ≡ home.Temp t k)) → IsFound p d i top h →
          (is_simple (slice_get d.vars x) ≡ true) ×
          ((u : VarDef) → slice_get d.vars x ≡ Some u → or_int (kept_as (type_in p u.of)) ≡ k)
      value x t k (inl q) one = so_far.value x t k q
      value x t k (inr q) one =
          let at : i ≡ x = sym (q.0 ∙ many) in
          subst (λ z. (is_simple (slice_get d.vars z) ≡ true) ×
          ((u : VarDef) → slice_get d.vars z ≡ Some u → or_int (kept_as (type_in p u.of)) ≡ k)) at (one.value t k q.1)

      object : (x m t : ℕ) →
          (slice_get hs x ≡ Some (home.Object m t)) ⊎ ((x ≡ length hs) × (h ≡ home.Object m t)) →
          IsFound p d i top h → (is_simple (slice_get d.vars x) ≡ false) × (objects_before d.vars x ≡ m)
      object x m t (inl q) one = so_far.object x m t q
      object x m t (inr q) one =
          let at : i ≡ x = sym (q.0 ∙ many) in
          subst (λ z. (is_simple (slice_get d.vars z) ≡ false) × (objects_before d.vars z ≡ m)) at (one.object m t q.1)

      below : (x : ℕ) (f : Home) → (slice_get hs x ≡ Some f) ⊎ ((x ≡ length hs) × (h ≡ f)) → temp_of f < next
      below x f (inl q) = let l = so_far.below x f q in omega (arith, l, le)
      below x f (inr q) = subst (λ z. temp_of z < next) q.1 lt

      placed : (x : ℕ) (f : Home) → (slice_get hs x ≡ Some f) ⊎ ((x ≡ length hs) × (h ≡ f)) →
          IsFound p d i top h → IsPlaced (length d.params) x f
      placed x f (inl q) one = so_far.placed x f q
      placed x f (inr q) one =
          subst (λ z. IsPlaced (length d.params) z f) (sym (q.0 ∙ many))
          (subst (λ z. IsPlaced (length d.params) i z) q.1 one.placed)

      early : (x : ℕ) (f : Home) → slice_get hs x ≡ Some f → IsFound p d i top h → temp_of f ≡ temp_of h → ⊥
      early x f q one s =
          let l = slice_get_within hs x f q in
          apart i x top h f (omega (arith, l, many)) one (so_far.placed x f q) (so_far.below x f q) s

      differ : (x y : ℕ) (f g : Home) → (slice_get hs x ≡ Some f) ⊎ ((x ≡ length hs) × (h ≡ f)) →
          (slice_get hs y ≡ Some g) ⊎ ((y ≡ length hs) × (h ≡ g)) → temp_of f ≡ temp_of g → IsFound p d i top h → x ≡ y
      differ x y f g (inl q) (inl r) s one = so_far.differ x y f g q r s
      differ x y f g (inl q) (inr r) s one = absurd (early x f q one (s ∙ ap temp_of (sym r.1)))
      differ x y f g (inr q) (inl r) s one = absurd (early y g r one (sym s ∙ ap temp_of (sym q.1)))
      differ x y f g (inr q) (inr r) s one = q.0 ∙ sym r.0

  -- a home fits where its temp is
  pub home_below : (v : VarDef) (h : Home) (e : Emitter) → HomeFits p d e v h → temp_of h < length e.kinds.items
  home_below v (home.Temp t k) e fits = slice_get_within e.kinds.items t k fits.0.there
  home_below v (home.Object n t) e fits = slice_get_within e.kinds.items t _ fits.0.there
