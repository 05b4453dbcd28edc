-- Which of some values stands at a place.
use Rattle.std.specs.Prelude.{◌≡◌, ℕ, ◌<◌, ◌≤◌, Bool, true, ◌&&◌, nat_lt, nat_le, List, length, slice_index_or}
use Rattle.c_initializers.specs.declared.covering.Extent.{Extent}
use Rattle.c_initializers.specs.declared.covering.Cursor.{Cursor}

abbrev pub covers_place : ℕ → Extent → Bool
covers_place at e = nat_le e.from at && nat_lt at e.to

-- each begins where the one before it ends, or later, and none ends before it begins
pub record IsOrdered (es : List Extent) : Type 0 where
  pub apart : (j k : ℕ) (d : Extent) → j < k → k < length es → (slice_index_or es j d).to ≤ (slice_index_or es k d).from
  pub forward : (k : ℕ) (d : Extent) → k < length es → (slice_index_or es k d).from ≤ (slice_index_or es k d).to

-- the first so many end at a place or before it
abbrev pub EndBefore : List Extent → ℕ → ℕ → Type 0
EndBefore es n at = (j : ℕ) (d : Extent) → j < n → (slice_index_or es j d).to ≤ at

pub record IsCursor (c : Cursor) : Type 0 where
  pub ordered : c.ordered ≡ true → IsOrdered c.extents.now
  pub next : c.next ≤ length c.extents.now
  pub passed : EndBefore c.extents.now c.next c.passed

-- it is a cursor of the same values
pub record StaysCursor (old new : Cursor) : Type 0 where
  pub is : IsCursor new
  pub of : new.extents.now ≡ old.extents.now
