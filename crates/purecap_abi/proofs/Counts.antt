-- Counts of homes, as far as a loop has come.
use Rattle.std.proofs.Common.{◌≡◌, ℕ, zero, suc, ◌+◌, ◌<◌, ◌≤◌, max, List, [], ◌∷◌, length, take, get_or, Option, Some}
use Rattle.std.proofs.Common.{None, refl, ap, arith, Bool, true, false, if◌then◌else◌}
use Rattle.std.specs.Prelude.{slice_get}
use Rattle.std.specs.List.{All, filter}
use Rattle.std.proofs.lemmas.Option.{same_Some}
use Rattle.reg_alloc.specs.declared.places.Home.{Home}
use Rattle.reg_alloc.specs.declared.places.Home.TheVariants.{Register, Slot}
use Rattle.purecap_abi.specs.Saving.{slots_to, slot_count, IsSlotBelow, is_home, kept_homes, kept_registers}

pub slot_count_more : (hs : List Home) (i : ℕ) (d : Home) → i < length hs →
    slot_count (take (i + 1) hs) ≡ max (slot_count (take i hs)) (slots_to (get_or hs i d))
unfolding slot_count
slot_count_more [] i d h = absurd (omega arith)
slot_count_more (x ∷ hs) zero d h = omega arith
slot_count_more (x ∷ hs) (suc i) d h =
    let r = slot_count_more hs i d (omega arith) in let e : suc i + 1 ≡ suc (i + 1) = omega arith in
    rw e (omega (arith, r))

pub slot_count_none : slot_count [] ≡ 0
unfolding slot_count
slot_count_none = refl

-- no slot is above the number of homes
pub slot_count_most : (n : ℕ) (hs : List Home) → All (IsSlotBelow n) hs → slot_count hs ≤ n
unfolding slot_count
slot_count_most n [] h = omega arith
slot_count_most n (x ∷ hs) h = by x (h zero x (omega arith)) (slot_count_most n hs (λ k d j. h (suc k) d (omega arith)))
  where
    by : (y : Home) → IsSlotBelow n y → slot_count hs ≤ n → max (slots_to y) (slot_count hs) ≤ n
    by (Register k) j r = omega (arith, r)
    by (Slot s) j r = omega (arith, r)

-- each slot that is a home is counted
pub slot_count_each : (hs : List Home) (k s : ℕ) → slice_get hs k ≡ Some (Slot s) → s < slot_count hs
unfolding slot_count
slot_count_each [] k s e = let f : ◌≡◌ {A = Option Home} None (Some (Slot s)) = e in absurd cc
slot_count_each (x ∷ hs) zero s e =
    let f : x ≡ Slot s = same_Some x (Slot s) e in let g : slots_to x ≡ s + 1 = ap (λ h. slots_to h) f in omega arith
slot_count_each (x ∷ hs) (suc k) s e = let r = slot_count_each hs k s e in omega arith

-- ---- kept registers

pub length_filter : (p : ℕ → Bool) (xs : List ℕ) → length (filter p xs) ≤ length xs
length_filter p [] = omega arith
length_filter p (x ∷ xs) = by (p x) (length_filter p xs)
  where
    by : (b : Bool) → length (filter p xs) ≤ length xs →
        length (if b then x ∷ filter p xs else filter p xs) ≤ suc (length xs)
    by true r = omega arith
    by false r = omega arith

pub kept_most : (homes : List Home) → length (kept_homes homes) ≤ 12
unfolding kept_homes
kept_most homes = length_filter (is_home homes) kept_registers
