-- How objects are placed in a frame, one alignment after the other.
use Rattle.std.specs.Prelude.{ℕ, ◌≡◌, ◌+◌, ◌%◌, ◌<◌, ◌≤◌, max, List, [], ◌∷◌, length, slice_get, slice_index}
use Rattle.std.specs.Prelude.{slice_index_or, Some}
use Rattle.cap_layout.specs.declared.answers.Owned.{Owned}
use Rattle.obj_mem.specs.declared.map.Slot.{Slot}
use Rattle.obj_mem.specs.Legal.{Apart}

-- the greatest of 16 and the alignments
unfoldable pub greatest_of : List Owned → ℕ
greatest_of [] = 16
greatest_of (o ∷ os) = max o.align (greatest_of os)

-- the object with this number
abbrev pub object : List Owned → ℕ → Owned
object os k = slice_index_or os k (record { length = 0; align = 0 })

-- an object that begins and lies in the bytes from one offset up to another, at a multiple of its alignment
pub record Lies (o : Owned) (at from to : ℕ) : Type 0 where
  pub aligned : at % o.align ≡ 0
  pub past : from ≤ at
  pub inside : at < to
  pub within : at + o.length ≤ to

-- The objects of those numbers are placed: each lies in those bytes, and no two have a byte in common
pub record ArePlaced (placed : ℕ → Type 0) (os : List Owned) (starts : List ℕ) (from to : ℕ) : Type 0 where
  pub lies : (k : ℕ) → k < length os → placed k → Lies (object os k) (slice_index starts k) from to
  pub apart : (j k : ℕ) → j < length os → k < length os → placed j → placed k → (j ≡ k → ⊥)
      → Apart (slice_index starts j) (object os j).length (slice_index starts k) (object os k).length

abbrev pub IsAny : ℕ → Type 0
IsAny k = Unit {0}

-- the slots of objects at their starts
abbrev pub slot_at : List Owned → List ℕ → ℕ → Slot
slot_at os starts k = record { var = k; at = slice_index starts k; length = (object os k).length }

pub record AreSlots (os : List Owned) (starts : List ℕ) (slots : List Slot) : Type 0 where
  pub count : length slots ≡ length os
  pub each : (k : ℕ) → k < length os → slice_get slots k ≡ Some (slot_at os starts k)
