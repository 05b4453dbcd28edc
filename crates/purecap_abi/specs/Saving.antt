-- What stands in the saved bytes of a frame.
use Rattle.std.specs.Prelude.{ℕ, ◌≡◌, ◌+◌, ◌-◌, ◌*◌, ◌%◌, ◌^◌, ◌<◌, ◌≤◌, ◌==◌, nat_lt, max, Bool, false, List, [], ◌∷◌}
use Rattle.std.specs.Prelude.{length, if◌then◌else◌, Option, Some, None}
use Rattle.std.specs.List.{All, filter, list_any}
use Rattle.reg_alloc.specs.declared.places.Home.{Home}
use Rattle.reg_alloc.specs.declared.places.Home.TheVariants.{Register, Slot}
use Rattle.obj_mem.specs.declared.map.Frame.{Frame}

-- ---- homes

-- the registers that the callee keeps, where it uses them
abbrev pub kept_registers : List ℕ
kept_registers = 8 ∷ 9 ∷ 18 ∷ 19 ∷ 20 ∷ 21 ∷ 22 ∷ 23 ∷ 24 ∷ 25 ∷ 26 ∷ 27 ∷ []

abbrev pub is_register : ℕ → Home → Bool
is_register r (Register n) = n == r
is_register r (Slot s) = false

abbrev pub is_home : List Home → ℕ → Bool
is_home homes r = list_any (is_register r) homes

-- a register alone, where it is a home
abbrev pub kept_here : List Home → ℕ → List ℕ
kept_here homes r = if is_home homes r then r ∷ [] else []

-- the kept registers that are homes
unfoldable pub kept_homes : List Home → List ℕ
kept_homes homes = filter (is_home homes) kept_registers

-- the slots up to the last that is a home
abbrev pub slots_to : Home → ℕ
slots_to (Register n) = 0
slots_to (Slot s) = s + 1

unfoldable pub slot_count : List Home → ℕ
slot_count [] = 0
slot_count (h ∷ hs) = max (slots_to h) (slot_count hs)

abbrev pub IsSlotBelow : ℕ → Home → Type 0
IsSlotBelow n (Register r) = Unit {0}
IsSlotBelow n (Slot s) = s < n

-- homes for which there can be a frame: each slot's number is below their number, and they are not too many
pub record AreHomes (homes : List Home) : Type 0 where
  pub slots : All (IsSlotBelow (length homes)) homes
  pub few : length homes ≤ 67108864

-- ---- the saved bytes

-- A frame whose alignment is above 16 keeps the caller's stack
abbrev pub keeps_stack : ℕ → Bool
keeps_stack align = nat_lt 16 align

abbrev pub stack_bytes : ℕ → ℕ
stack_bytes align = if keeps_stack align then 16 else 0

-- the places of 16 bytes behind the outgoing arguments
abbrev pub kept_bytes : ℕ → List Home → ℕ
kept_bytes align homes = 16 * length (kept_homes homes) + stack_bytes align + 16 * slot_count homes

-- the link and so many outgoing arguments, and then those places
abbrev pub saved_bytes : ℕ → ℕ → List Home → ℕ
saved_bytes outgoing align homes = 16 + 16 * outgoing + kept_bytes align homes

abbrev pub most_outgoing : ℕ
most_outgoing = 4194304

-- A frame for these homes: what it saves, a size that `lui` and a word behind it reach, and an alignment that is a
-- power of two
pub record IsFor (homes : List Home) (f : Frame) : Type 0 where
  pub outgoing : ℕ
  pub few : outgoing ≤ most_outgoing
  pub saved : f.saved ≡ saved_bytes outgoing f.align homes
  pub inside : f.saved ≤ f.size
  pub small : f.size < 2 ^ 31 - 2048
  pub multiple : f.size % f.align ≡ 0
  pub least : 16 ≤ f.align
  pub most : f.align ≤ 67108864
  pub power : (k : ℕ) × (f.align ≡ 2 ^ k)

-- ---- where it stands

abbrev pub registers_at : List Home → Frame → ℕ
registers_at homes f = f.saved - kept_bytes f.align homes

abbrev pub behind_registers : List Home → Frame → ℕ
behind_registers homes f = registers_at homes f + 16 * length (kept_homes homes)

abbrev pub stack_at : List Home → Frame → Option ℕ
stack_at homes f = if keeps_stack f.align then Some (behind_registers homes f) else None

abbrev pub slots_at : List Home → Frame → ℕ
slots_at homes f = behind_registers homes f + stack_bytes f.align
