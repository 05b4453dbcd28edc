-- Homes that keep live intervals apart.
use Rattle.std.specs.Prelude.{ℕ, ◌≡◌, ◌≢◌, ◌+◌, ◌<◌, ◌≤◌, ◌⊎◌, Bool, ◌&&◌, nat_le, List, length, slice_get, Some}
use Rattle.std.specs.Prelude.{Contains, count_by}
pub use Rattle.reg_alloc.specs.declared.intervals.Interval.{Interval}
pub use Rattle.reg_alloc.specs.Crossing.{IsCrossed, IsPassed}
use Rattle.reg_alloc.specs.declared.places.Home.{Home}
use Rattle.reg_alloc.specs.declared.places.Home.TheVariants.{Register, Slot}

-- ---- intervals

-- two intervals hold a common instruction
abbrev pub Meet : Interval → Interval → Type 0
Meet v w = (n : ℕ) × (v.first ≤ n) × (n ≤ v.last) × (w.first ≤ n) × (n ≤ w.last)

-- ---- registers

-- c5 to c27
abbrev pub IsUsable : ℕ → Type 0
IsUsable r = (5 ≤ r) × (r ≤ 27)

-- the callee keeps c8, c9 and c18 to c27
abbrev pub IsKept : ℕ → Type 0
IsKept r = (r ≡ 8) ⊎ ((r ≡ 9) ⊎ ((18 ≤ r) × (r ≤ 27)))

-- ---- homes

-- an interval may stand in a home
abbrev pub Fits : List ℕ → Interval → Home → Type 0
Fits calls v (Register r) = IsUsable r × (IsCrossed calls v → IsKept r)
Fits calls v (Slot s) = Unit {0}

abbrev pub FitsAt : List Interval → List ℕ → List Home → ℕ → Type 0
FitsAt live calls homes i =
    (v : Interval) (h : Home) → slice_get live i ≡ Some v → slice_get homes i ≡ Some h → Fits calls v h

-- two intervals that hold a common instruction have different homes
abbrev pub ApartAt : List Interval → List Home → ℕ → ℕ → Type 0
ApartAt live homes i j = (v w : Interval) → slice_get live i ≡ Some v → slice_get live j ≡ Some w → Meet v w →
    slice_get homes i ≢ slice_get homes j

-- one home for each interval, in which it may stand, and which it shares with none that holds a common instruction
pub record IsPlaced (live : List Interval) (calls : List ℕ) (homes : List Home) : Type 0 where
  pub one_each : length homes ≡ length live
  pub fit : (i : ℕ) → FitsAt live calls homes i
  pub apart : (i j : ℕ) → i ≢ j → ApartAt live homes i j

-- ---- what else holds of the homes that are given

abbrev pub IsSlotBelow : ℕ → Home → Type 0
IsSlotBelow n (Register r) = Unit {0}
IsSlotBelow n (Slot s) = s < n

abbrev pub IsRegister : Home → Type 0
IsRegister (Register r) = Unit {0}
IsRegister (Slot s) = ⊥

-- an interval holds an instruction
abbrev pub holds : ℕ → Interval → Bool
holds n v = nat_le v.first n && nat_le n v.last

-- at most ten intervals hold each instruction, and no call crosses any of them
pub record IsRelaxed (live : List Interval) (calls : List ℕ) : Type 0 where
  pub few : (n : ℕ) → count_by (holds n) live ≤ 10
  pub uncrossed : (i : ℕ) (v : Interval) → slice_get live i ≡ Some v → IsCrossed calls v → ⊥

-- interval i, if it begins at the entry or ends at a call, is in the register of an argument only as the parameter
-- that arrives there and does not end at a call
abbrev pub StaysClear : List ℕ → ℕ → Interval → Home → Type 0
StaysClear calls i v (Register r) =
    IsPassed calls v → 10 ≤ r → r ≤ 17 → (r ≡ 10 + i) × (v.first ≡ 0) × (Contains calls v.last → ⊥)
StaysClear calls i v (Slot s) = Unit {0}

abbrev pub StaysClearAt : List Interval → List ℕ → List Home → ℕ → Type 0
StaysClearAt live calls homes i =
    (v : Interval) (h : Home) → slice_get live i ≡ Some v → slice_get homes i ≡ Some h → StaysClear calls i v h
