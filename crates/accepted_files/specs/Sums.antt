-- Weights of the nodes of a program, summed from the nodes that they name.
use Rattle.std.specs.Prelude.{◌≡◌, ℕ, ◌<◌, List, length, slice_index, sum_by, All}
use Rattle.c_tree.specs.Weight.{counted}

-- each number of a list names one of the sums
abbrev pub AreThere : List ℕ → List ℕ → Type 0
AreThere sums nodes = All (λ k. k < length sums) nodes

-- what the sums say of some nodes together
abbrev pub sum_of : List ℕ → List ℕ → ℕ
sum_of sums nodes = counted (sum_by (slice_index sums) nodes)

-- each sum is that node's weight
abbrev pub AreSums : (ℕ → ℕ) → List ℕ → Type 0
AreSums weight sums = (k : ℕ) → k < length sums → slice_index sums k ≡ counted (weight k)
