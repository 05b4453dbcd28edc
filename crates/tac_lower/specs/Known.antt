-- What lowering finds out of a program.
use Rattle.std.specs.Prelude.{◌≡◌, ℕ, ◌<◌, List, Some, slice_get}

-- all numbers of a list are below a number
pub record AreBelow (k : ℕ) (xs : List ℕ) : Type 0 where
  pub all : (i c : ℕ) → slice_get xs i ≡ Some c → c < k
