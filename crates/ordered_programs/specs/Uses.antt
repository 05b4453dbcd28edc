-- Marks of the numbers that are used.
use Rattle.std.specs.Prelude.{◌≡◌, ℕ, ◌<◌, Bool, true, List, ◌++◌, length, flat_map, Some, slice_get, if◌then◌else◌}
use Rattle.c_tree.specs.Views.{times_in}
use Rattle.c_copy.specs.Copying.{AllBelow}

-- what is marked is used once, and what is not is not used
pub record HasMarks (marks : List Bool) (uses : List ℕ) : Type 0 where
  pub is : (k : ℕ) (b : Bool) → slice_get marks k ≡ Some b → times_in k uses ≡ (if b then 1 else 0)

abbrev pub AllMarked : List Bool → Type 0
AllMarked marks = (k : ℕ) (b : Bool) → slice_get marks k ≡ Some b → b ≡ true

-- these numbers, each below a limit, are used and marked too
pub record Marks (limit : ℕ) (old new : List Bool) (us : List ℕ) : Type 0 where
  pub below : AllBelow limit us
  pub count : length new ≡ length old
  pub adds : (uses : List ℕ) → HasMarks old uses → HasMarks new (uses ++ us)

-- the numbers that each item of a list names, below the limit of its place
pub record MarksEach {A : Type 0} (names : A → List ℕ) (limit : ℕ → ℕ) (xs : List A) (old new : List Bool) : Type 0
  where
    pub below : (k j a : ℕ) (x : A) → slice_get xs k ≡ Some x → slice_get (names x) j ≡ Some a → a < limit k
    pub count : length new ≡ length old
    pub adds : (uses : List ℕ) → HasMarks old uses → HasMarks new (uses ++ flat_map names xs)
