-- Types and pairs of them by their numbers, over a list in which each number names a type.
use Rattle.std.specs.Prelude.{ℕ, ◌+◌, ◌<◌, Bool, true, ◌&&◌, ◌==◌, nat_lt, if◌then◌else◌, List, [], ◌∷◌, All}
use Rattle.c_tree.specs.Types.{Ty, agree}

-- A part of the type with a number, which stands before that; any other is void
abbrev pub part_of : ℕ → ℕ → ℕ → ℕ
part_of void k j = if nat_lt j k then j else void

-- how many types nest in that of a number, at most; `void` is the number of a type that is void
abbrev pub rank : ℕ → ℕ → ℕ
rank void k = if k == void then 0 else k + 1

abbrev pub pairs_agree : (ℕ → ℕ → Bool) → (ℕ → Ty) → List (ℕ × ℕ) → Bool
pairs_agree lengths go [] = true
pairs_agree lengths go (q ∷ qs) = agree lengths (go q.0) (go q.1) && pairs_agree lengths go qs

-- pairs of numbers below another
abbrev pub AreBelow : ℕ → List (ℕ × ℕ) → Type 0
AreBelow n qs = All (λ q. (q.0 < n) × (q.1 < n)) qs

-- types that nest less deep than a number says, the first ones of pairs
abbrev pub RankBelow : ℕ → ℕ → List (ℕ × ℕ) → Type 0
RankBelow void n qs = All (λ q. rank void q.0 < n) qs

abbrev pub same_pair : ℕ × ℕ → ℕ × ℕ → Bool
same_pair p q = p.0 == q.0 && p.1 == q.1
