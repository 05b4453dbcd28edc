-- A legal frame has slots of its function's locals alone, and each begins in the frame.
use Rattle.std.proofs.Common.{◌≡◌, ℕ, zero, suc, ◌<◌, ◌≤◌, ◌==◌, Bool, true, false, List, [], ◌∷◌, length, Option}
use Rattle.std.proofs.Common.{Some, None, refl, sym, ap, ◌∙◌, subst, arith, ◌⊎◌, inl, inr}
use Rattle.std.specs.Prelude.{find, slice_get, if◌then◌else◌}
use Rattle.std.proofs.lemmas.Bool.{eqb-true}
use Rattle.std.proofs.lemmas.Option.{none-some}
use Rattle.obj_mem.specs.declared.map.Frame.{Frame}
use Rattle.obj_mem.specs.declared.map.Slot.{Slot}
use Rattle.obj_mem.specs.Legal.{ObjectNeed, FunctionNeed, IsFrame, AreFrames, slot_of}
use Rattle.cheri_c_sem.specs.Modes.{local_offset, slot_offset}

abbrev slot_in : List Slot → ℕ → Option Slot
slot_in ss k = find (λ (s : Slot). s.var == k) ss

-- without the first slot of a local
abbrev without : ℕ → List Slot → List Slot
without k [] = []
without k (s ∷ ss) = if s.var == k then ss else s ∷ without k ss

-- the slots of another local are the same
others : (k j : ℕ) (ss : List Slot) → (j ≡ k → ⊥) → slot_in (without k ss) j ≡ slot_in ss j
others k j [] d = refl
others k j (s ∷ ss) d = by (s.var == k) (s.var == j) refl refl (others k j ss d)
  where
    by : (b c : Bool) → (s.var == k) ≡ b → (s.var == j) ≡ c → slot_in (without k ss) j ≡ slot_in ss j
        → slot_in (if b then ss else s ∷ without k ss) j ≡ (if c then Some s else slot_in ss j)
    by true true e f h = absurd (d (sym (eqb-true s.var j f) ∙ eqb-true s.var k e))
    by true false e f h = refl
    by false true e f h = ap (λ c. if c then Some s else slot_in (without k ss) j) f
    by false false e f h = ap (λ c. if c then Some s else slot_in (without k ss) j) f ∙ h

fewer : (k : ℕ) (ss : List Slot) (t : Slot) → slot_in ss k ≡ Some t → length ss ≡ suc (length (without k ss))
fewer k [] t e = absurd (none-some t e)
fewer k (s ∷ ss) t e = by (s.var == k) refl e (fewer k ss t)
  where
    by : (b : Bool) → (s.var == k) ≡ b → (if b then Some s else slot_in ss k) ≡ Some t
        → (slot_in ss k ≡ Some t → length ss ≡ suc (length (without k ss)))
        → suc (length ss) ≡ suc (length (if b then ss else s ∷ without k ss))
    by true z q h = refl
    by false z q h = ap suc (h q)

-- with slots of the first n locals and one of another there are more than n
more : (n : ℕ) (ss : List Slot) (v : ℕ) (t : Slot) → ((k : ℕ) → k < n → (s : Slot) × (slot_in ss k ≡ Some s)) → n ≤ v
    → slot_in ss v ≡ Some t → n < length ss
more zero [] v t h l e = absurd (none-some t e)
more zero (s ∷ ss) v t h l e = omega arith
more (suc n) ss v t h l e =
    let here = h n (omega arith) in
    let rest = more n (without n ss) v t
    (λ k less. let there = h k (omega arith) in (there.0, others n k ss (λ same. omega (arith, same)) ∙ there.1))
    (omega arith) (others n v ss (λ same. omega (arith, same)) ∙ e) in
    let one = fewer n ss here.0 here.1 in
    omega arith

module _ (n : FunctionNeed) (f : Frame) (frame : IsFrame n f) where
  need_at : (ls : List ObjectNeed) (k : ℕ) → k < length ls → (o : ObjectNeed) × (slice_get ls k ≡ Some o)
  need_at [] k l = absurd (omega arith)
  need_at (o ∷ ls) zero l = (o, refl)
  need_at (o ∷ ls) (suc k) l = need_at ls k (omega arith)

  slot_at : (k : ℕ) → k < length n.locals → (s : Slot) × (slot_in f.slots k ≡ Some s)
  slot_at k l = let o = need_at n.locals k l in let s = frame.has_slot k o.0 o.1 in (s.0, s.1)

  begins : (var : ℕ) (s : Slot) → slot_of f var ≡ Some s → s.at ≤ f.size
  begins var s e = by (split (length n.locals) var)
    where
      split : (k v : ℕ) → (v < k) ⊎ (k ≤ v)
      split k v = grind arith

      by : (var < length n.locals) ⊎ (length n.locals ≤ var) → s.at ≤ f.size
      by (inl l) =
          let o = need_at n.locals var l in
          let there = frame.has_slot var o.0 o.1 in
          let same : there.0 ≡ s = let both : Some there.0 ≡ Some s = sym there.1 ∙ e in cc in
          let within = there.2.within in
          subst (λ (t : Slot). t.at ≤ f.size) same (omega (arith, within))
      by (inr l) =
          let many = more (length n.locals) f.slots var s slot_at l e in
          let long = frame.slots in
          absurd (omega arith)

  pub place_begins : (var : ℕ) → local_offset (Some f) var ≤ f.size
  place_begins var = by (slot_of f var) refl
    where
      by : (o : Option Slot) → slot_of f var ≡ o → slot_offset o ≤ f.size
      by None e = omega arith
      by (Some s) e = begins var s e

pub places_begin : (ns : List FunctionNeed) (fs : List Frame) → AreFrames ns fs → (f var : ℕ) (r : Frame) →
    slice_get fs f ≡ Some r → local_offset (Some r) var ≤ r.size
places_begin [] [] a f var r e = absurd (none-some r e)
places_begin [] (x ∷ fs) a f var r e = absurd a
places_begin (n ∷ ns) [] a f var r e = absurd (none-some r e)
places_begin (n ∷ ns) (x ∷ fs) a zero var r e =
    let same : x ≡ r = cc in
    subst (λ (z : Frame). local_offset (Some z) var ≤ z.size) same (place_begins n x a.0 var)
places_begin (n ∷ ns) (x ∷ fs) a (suc f) var r e = places_begin ns fs a.1 f var r e
