-- The objects of a call end.
use Rattle.std.proofs.Common.{◌≡◌, ◌⊎◌, ℕ, zero, suc, ◌+◌, ◌<◌, ◌≤◌, List, [], ◌∷◌, length, Option, Some, None, refl}
use Rattle.std.proofs.Common.{sym, ap, ◌∙◌, subst, inl, inr, arith}
use Rattle.std.specs.Prelude.{slice_get, slice_set}
use Rattle.obj_mem.specs.Values.{Addresses}
use Rattle.obj_mem.specs.Objects.{Returned, Shape, with_life_by, end}
use Rattle.obj_mem.specs.Agreement.{IsNotReturned, SameMemory}
use Rattle.obj_mem.proofs.Units.{memory_agrees_law}
use Rattle.cheri_c_sem.specs.Modes.{Store, Plan, with_memory, operations}
use Rattle.cheri_c_sem.specs.Calls.{end_locals}
use Rattle.placement.proofs.Lists.{some_same}
use Rattle.placement.proofs.Shapes.{IsFrom, KeepsOwned, from_kept, kept_same, get_set, set_is, set_other, same_place}

-- count objects from number k on end
pub record Ended (k count : ℕ) (t u : List Shape) : Type 0 where
  pub back : (i : ℕ) (h : Shape) → slice_get u i ≡ Some h → (g : Shape) × (slice_get t i ≡ Some g) × IsFrom g h
      × (IsNotReturned h.life → (i < k) ⊎ (k + count ≤ i))
  pub forth : KeepsOwned t u
  pub below : (i : ℕ) → i < k → slice_get u i ≡ slice_get t i

none_ended : (k : ℕ) (t : List Shape) → Ended k 0 t t
none_ended k t = record {
  back = λ i h e. (h, e, from_kept h h (kept_same h), λ x. either i k);
  forth = λ i g e. (g, e, refl);
  below = λ i l. refl;
}
  where
    either : (i k : ℕ) → (i < k) ⊎ (k + 0 ≤ i)
    either i zero = inr (omega arith)
    either zero (suc k) = inl (omega arith)
    either (suc i) (suc k) = go (either i k)
      where
        go : (i < k) ⊎ (k + 0 ≤ i) → (suc i < suc k) ⊎ (suc k + 0 ≤ suc i)
        go (inl x) = inl (omega arith)
        go (inr x) = inr (omega arith)

apart_places : (i k : ℕ) → (i ≡ k → ⊥) → (i < k) ⊎ (k + 1 ≤ i)
apart_places zero zero d = absurd (d refl)
apart_places zero (suc k) d = inl (omega arith)
apart_places (suc i) zero d = inr (omega arith)
apart_places (suc i) (suc k) d = go (apart_places i k (λ z. d (ap suc z)))
  where
    go : (i < k) ⊎ (k + 1 ≤ i) → (suc i < suc k) ⊎ (suc k + 1 ≤ suc i)
    go (inl x) = inl (omega arith)
    go (inr x) = inr (omega arith)

not_equal : (i k : ℕ) → i < k → i ≡ k → ⊥
not_equal i k l e = omega arith

-- one object ends
one_ended : (k : ℕ) (t : List Shape) (o : Option Shape) → slice_get t k ≡ o → Ended k 1 t (with_life_by Returned t k o)
one_ended k t None is = record {
  back = λ i h e. (h, e, from_kept h h (kept_same h), λ x. apart_places i k (λ q. no i h e q));
  forth = λ i g e. (g, e, refl);
  below = λ i l. refl;
}
  where
    no : (i : ℕ) (h : Shape) → slice_get t i ≡ Some h → i ≡ k → ⊥
    no i h e q = let f : slice_get t k ≡ Some h = subst (λ j. slice_get t j ≡ Some h) q e in absurd cc
one_ended k t (Some g) is =
    record {
      back = back;
      forth = forth;
      below = λ i l. set_other t k i (record g { life = Returned })
          (not_equal i k l);
    }
  where
    h : Shape
    h = record g { life = Returned }

    back : (i : ℕ) (v : Shape) → slice_get (slice_set t k h) i ≡ Some v → (u : Shape) × (slice_get t i ≡ Some u)
        × IsFrom u v × (IsNotReturned v.life → (i < k) ⊎ (k + 1 ≤ i))
    back i v e = go (get_set t k g h is i v e)
      where
        go : ((i ≡ k) × (v ≡ h)) ⊎ ((i ≡ k → ⊥) × (slice_get t i ≡ Some v)) → (u : Shape) × (slice_get t i ≡ Some u)
            × IsFrom u v × (IsNotReturned v.life → (i < k) ⊎ (k + 1 ≤ i))
        go (inl q) =
            let r : Returned ≡ v.life = sym (ap (λ z. z.life) q.1) in (
              g,
              subst (λ j. slice_get t j ≡ Some g) (sym q.0) is,
              subst (IsFrom g) (sym q.1) (record { base = refl; owned = refl; length = refl; stayed = λ x. absurd x }),
              λ x. absurd (subst IsNotReturned (sym r) x),
            )
        go (inr q) = (v, q.1, from_kept v v (kept_same v), λ x. apart_places i k q.0)

    forth : KeepsOwned t (slice_set t k h)
    forth i u e = go (same_place i k)
      where
        go : (i ≡ k) ⊎ (i ≡ k → ⊥) → (v : Shape) × (slice_get (slice_set t k h) i ≡ Some v) × (v.owned ≡ u.owned)
        go (inl q) =
            let r : g ≡ u = some_same (slice_get t k) g u is (subst (λ j. slice_get t j ≡ Some u) q e) in
            (h, subst (λ j. slice_get (slice_set t k h) j ≡ Some h) (sym q) (set_is t k g h is), ap (λ z. z.owned) r)
        go (inr d) = (u, set_other t k i h d ∙ e, refl)

from_twice : (f g h : Shape) → IsFrom f g → IsFrom g h → IsFrom f h
from_twice f g h a b = record {
  base = b.base ∙ a.base;
  owned = b.owned ∙ a.owned;
  length = b.length ∙ a.length;
  stayed = λ x. a.stayed (b.stayed x);
}

more_ended : (k count : ℕ) (t u v : List Shape) → Ended k 1 t u → Ended (suc k) count u v → Ended k (suc count) t v
more_ended k count t u v a b = record {
  back = λ i h e.
      let y = b.back i h e in
      let x = a.back i y.0 y.1 in
      (x.0, x.1, from_twice x.0 y.0 h x.2 y.2, λ z. both i (x.3 (y.2.stayed z)) (y.3 z));
  forth = λ i g e. let x = a.forth i g e in let y = b.forth i x.0 x.1 in (y.0, y.1, y.2 ∙ x.2);
  below = λ i l. b.below i (omega arith) ∙ a.below i l;
}
  where
    both : (i : ℕ) → (i < k) ⊎ (k + 1 ≤ i) → (i < suc k) ⊎ (suc k + count ≤ i) → (i < k) ⊎ (k + suc count ≤ i)
    both i (inl x) y = inl x
    both i (inr x) (inl y) = absurd (omega arith)
    both i (inr x) (inr y) = inr (omega arith)

-- ---- in a memory

module _ (d : Plan) where
  -- what does not change
  pub record Ends (k count : ℕ) (s t : Store) : Type 0 where
    pub shapes : Ended k count s.memory.shapes t.memory.shapes
    pub contents : t.memory.contents ≡ s.memory.contents
    pub heap : t.heap ≡ s.heap

  pub ends : (lengths : List ℕ) (s : Store) (k : ℕ) → Ends k (length lengths) s (end_locals (operations d) s k lengths)
  unfolding operations
  ends [] s k = record { shapes = none_ended k s.memory.shapes; contents = refl; heap = refl }
  ends (l ∷ ls) s k =
      let t : Store = with_memory s (end s.memory k) in
      let r = ends ls t (suc k) in
      record {
        shapes = more_ended k (length ls) s.memory.shapes t.memory.shapes _
            (one_ended k s.memory.shapes (slice_get s.memory.shapes k) refl) r.shapes;
        contents = r.contents;
        heap = r.heap;
      }

module _ (a : Addresses) (d d' : Plan) where
  pub ends_same : (lengths : List ℕ) (s p : Store) (k : ℕ) → SameMemory s.memory p.memory
      → SameMemory (end_locals (operations d) s k lengths).memory (end_locals (operations d') p k lengths).memory
  unfolding operations
  ends_same [] s p k e = e
  ends_same (l ∷ ls) s p k e = ends_same ls (with_memory s (end s.memory k)) (with_memory p (end p.memory k)) (suc k)
      ((memory_agrees_law a).ends s.memory p.memory e k)
