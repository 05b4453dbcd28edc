-- Where no rule fails at the end of a file, initial pointers are near what they point to.
use Rattle.std.proofs.Common.{◌≡◌, ℕ, zero, suc, ◌+◌, ◌≤◌, ◌^◌, Bool, true, false, not, List, [], ◌∷◌, ◌++◌, length}
use Rattle.std.proofs.Common.{Option, Some, None, refl, sym, ap, subst, ◌∙◌, ⊎_elim, arith}
use Rattle.std.specs.Prelude.{ℤ, pos, neg_ℤ, ◌+ℤ◌, ◌-ℤ◌, ◌≤ℤ◌, int_lt, slice_get, flat_map, if◌then◌else◌}
use Rattle.std.proofs.lemmas.Bool.{and_parts, not-true}
use Rattle.std.proofs.lemmas.Int.{ints}
use Rattle.std.proofs.lemmas.Option.{none-some, same_Some}
use Rattle.cap_concentrate.specs.Rounding.{owned}
use Rattle.cap_concentrate.proofs.Laws.{owned_small}
use Rattle.c_tree.specs.Layout.{Extent, fitting, size_of}
use Rattle.c_tree.proofs.Sizes.{fitting_limit}
use Rattle.c_tree.specs.Terms.{Aim, To_global, To_literal, To_function}
use Rattle.c_tree.specs.Scopes.{Reach, All, Within, StaticState, Pending, State, Fault, is_complete, type_extent}
use Rattle.c_tree.specs.Scopes.{has_extent}
use Rattle.c_tree.specs.Statics.{aim_length, static_length, text_length, is_near}
use Rattle.c_tree.specs.Programs.{static_faults, routine_faults, pending_faults, last_faults, earlier, earliest}
use Rattle.c_tree.specs.Programs.{reaches, fault, undefined_use, stands_before}
use Rattle.typing_laws.proofs.Placed.{IsWaiting, Awaits, Reaches, Aims}
use Rattle.typing_laws.proofs.Started.{IsThere}
use Rattle.c_finish.specs.Finished.{IsNear}

-- ---- no rule fails

earliest_none : (fs : List Fault) → earliest fs ≡ None → fs ≡ []
earliest_none [] e = refl
earliest_none (f ∷ fs) e = absurd (some f (earliest fs) e)
  where
    some : (f : Fault) (o : Option Fault) → earlier f o ≡ None → ⊥
    some f None e = none-some f (sym e)
    some f (Some g) e = branch (stands_before g.place f.place) e
      where
        branch : (b : Bool) → (if b then Some g else Some f) ≡ None → ⊥
        branch true e = none-some g (sym e)
        branch false e = none-some f (sym e)

empty_both : {A : Type 0} (xs ys : List A) → xs ++ ys ≡ [] → (xs ≡ []) × (ys ≡ [])
empty_both [] ys e = (refl, e)
empty_both (x ∷ xs) ys e = absurd cc

none_flat : {A B : Type 0} (f : A → List B) (xs : List A) → flat_map f xs ≡ [] → (k : ℕ) (x : A) →
    slice_get xs k ≡ Some x → f x ≡ []
none_flat f [] e k x q = absurd cc
none_flat f (y ∷ ys) e zero x q = ap f (sym (same_Some y x q)) ∙ (empty_both (f y) (flat_map f ys) e).0
none_flat f (y ∷ ys) e (suc k) x q = none_flat f ys (empty_both (f y) (flat_map f ys) e).1 k x q

holds_if : (b : Bool) (f : Fault) → (if b then [] else f ∷ []) ≡ [] → b ≡ true
holds_if true f e = refl
holds_if false f e = absurd cc

reached : (s : State) (ps : List Pending) → flat_map (pending_faults s) ps ≡ [] → (k : ℕ) (z : ℤ) → IsWaiting ps k z →
    reaches (aim_length s (To_global k)) z ≡ true
reached s [] e k z h = absurd h
reached s (p ∷ ps) e k z h =
    let w = empty_both (pending_faults s p) (flat_map (pending_faults s) ps) e in
    let r = holds_if (reaches (aim_length s (To_global p.static)) p.least) (fault 134 p.place) w.0 in
    ⊎_elim (λ a. subst (λ k. reaches (aim_length s (To_global k)) z ≡ true) a.0
    (subst (λ z. reaches (aim_length s (To_global p.static)) z ≡ true) a.1 r)) (reached s ps w.1 k z) h

-- ---- what is pointed to has at most 2 ^ 26 bytes

owned_within : (k n : ℕ) → Some (owned (fitting k)) ≡ Some n → n ≤ 2 ^ 26
owned_within k n e =
    subst (λ m. m ≤ 2 ^ 26) (same_Some (owned (fitting k)) n e) (owned_small (fitting k) (fitting_limit k))

object_within : (o : Option Extent) (n : ℕ) → (if has_extent o then Some (owned (size_of o)) else None) ≡ Some n →
    n ≤ 2 ^ 26
object_within None n e = absurd (none-some n e)
object_within (Some x) n e = owned_within x.size n e

length_within : (s : State) (a : Aim) (n : ℕ) → IsThere s a → aim_length s a ≡ Some n → n ≤ 2 ^ 26
length_within s (To_global k) n h e =
    object_within (type_extent s.tags h.0.of) n (sym (ap (static_length s) h.1) ∙ e)
length_within s (To_literal k) n h e = owned_within (length h.0.bytes) n (sym (ap text_length h.1) ∙ e)
length_within s (To_function k) n h e = absurd h

-- where no rule fails, each object that is used has a length
complete_length : (s : State) (k : ℕ) (g : StaticState) → flat_map (static_faults s) s.statics ≡ [] →
    slice_get s.statics k ≡ Some g → (n : ℕ) × (aim_length s (To_global k) ≡ Some n)
complete_length s k g e h =
    let f = none_flat (static_faults s) s.statics e k g h in
    let c = holds_if (is_complete s g.of) (fault 132 g.name.pos)
    (empty_both (if is_complete s g.of then [] else fault 132 g.name.pos ∷ [])
    (undefined_use g.defined g.used) f).0 in (
      owned (size_of (type_extent s.tags g.of)),
      ap (static_length s) h
          ∙ ap (λ (b : Bool). if b then Some (owned (size_of (type_extent s.tags g.of))) else None) c,
    )

-- ---- near

below : (n : ℕ) (z : ℤ) → not (int_lt (pos n) z) ≡ true → z ≤ℤ pos n
below n z e = let f = not-true (int_lt (pos n) z) e in grind (arith, ints, f)

near_close : (low n : ℕ) (z : ℤ) → low ≤ 2 ^ 26 → n ≤ 2 ^ 26 → is_near low n z ≡ true →
    (neg_ℤ (pos (2 ^ 32)) ≤ℤ z) × (z ≤ℤ pos (2 ^ 32))
near_close low n z l h e =
    let p = and_parts (int_lt (pos low) (z +ℤ pos 1024)) (int_lt z (pos (low + n + 1024))) e in
    let a = p.0 in
    let b = p.1 in
    (grind (arith, ints, a), grind (arith, ints, b))

asked_close : (n : ℕ) (z : ℤ) → n ≤ 2 ^ 26 → int_lt (pos 0) (z +ℤ pos 1024) ≡ true → (z -ℤ pos 1023) ≤ℤ pos n →
    (neg_ℤ (pos (2 ^ 32)) ≤ℤ z) × (z ≤ℤ pos (2 ^ 32))
asked_close n z l a b = (grind (arith, ints, a), grind (arith, ints, b))

small_pos : (m n : ℕ) → pos m ≤ℤ pos n → n ≤ 2 ^ 26 → m ≤ 2 ^ 26
small_pos m n h l = grind (arith, ints, h)

module _ (s : State) (e : earliest (last_faults s) ≡ None) where
  all : last_faults s ≡ []
  all = earliest_none (last_faults s) e

  waits : (flat_map (static_faults s) s.statics ++ flat_map routine_faults s.routines ≡ [])
      × (flat_map (pending_faults s) s.pending ≡ [])
  waits = empty_both (flat_map (static_faults s) s.statics ++ flat_map routine_faults s.routines)
      (flat_map (pending_faults s) s.pending) all

  statics : flat_map (static_faults s) s.statics ≡ []
  statics = (empty_both (flat_map (static_faults s) s.statics) (flat_map routine_faults s.routines) waits.0).0

  -- what was asked for is no more than the length
  asked_below : (a : Aim) (z : ℤ) → IsThere s a → Awaits s.pending a z → (n : ℕ) × (n ≤ 2 ^ 26) × (z ≤ℤ pos n)
  asked_below (To_global k) z h w =
      let c = complete_length s k h.0 statics h.1 in
      let r = reached s s.pending waits.1 k z w in (
        c.0,
        length_within s (To_global k) c.0 h c.1,
        below c.0 z (ap (λ l. reaches l z) (sym c.1) ∙ r),
      )
  asked_below (To_literal k) z h w = absurd w
  asked_below (To_function k) z h w = absurd w

  reach_close : (a : Aim) (r : Reach) (z : ℤ) → IsThere s a → Reaches s a r z → IsNear r z
  reach_close a All z t h =
      let c : (neg_ℤ (pos (2 ^ 32)) ≤ℤ z) × (z ≤ℤ pos (2 ^ 32)) =
      ⊎_elim (λ w. near_close 0 0 z (omega arith) (omega arith) w) (λ k. ⊎_elim
      (λ w. near_close 0 w.0 z (omega arith) (length_within s a w.0 t w.1) w.2)
      (λ w. let b = asked_below a (z -ℤ pos 1023) t w.1 in asked_close b.0 z b.1 w.0 b.2) k) h in
      (tt, c.0, c.1)
  reach_close a (Within low n) z t h =
      let m = h.2.0 in
      let l : m ≤ 2 ^ 26 = ⊎_elim (λ w. length_within s a m t w)
      (λ w. let b = asked_below a (pos m) t w in small_pos m b.0 b.2 b.1) h.2.2 in
      let low_small : low ≤ 2 ^ 26 = omega (arith, h.2.1, l) in
      let n_small : n ≤ 2 ^ 26 = omega (arith, h.2.1, l) in
      let c = near_close low n z low_small n_small h.1 in
      (omega (arith, low_small), c.0, c.1)

  pub aims_near : (a : Aim) (r : Reach) (z : ℤ) → Aims s a r z → IsNear r z
  aims_near (To_function k) r z h = subst (λ (w : Reach). IsNear w z) (sym h.0)
      (subst (λ (y : ℤ). IsNear All y) (sym h.1) (tt, grind (arith, ints), grind (arith, ints)))
  aims_near (To_global k) r z h = reach_close (To_global k) r z h.0 h.1
  aims_near (To_literal k) r z h = reach_close (To_literal k) r z h.0 h.1
