-- Lines of text, one behind the other.
use Rattle.std.specs.Prelude.{ℕ, zero, suc, List, [], ◌++◌}

-- lines 0 to n - 1, each with its line feed
unfoldable pub lines : (ℕ → List ℕ) → ℕ → List ℕ
lines line zero = []
lines line (suc n) = lines line n ++ line n
