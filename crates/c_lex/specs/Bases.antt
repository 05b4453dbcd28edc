-- The base of an integer constant.
use Rattle.std.specs.Prelude.{ℕ, ◌||◌, if◌then◌else◌, ◌==◌, List, [], ◌∷◌, drop}
use Rattle.std.specs.Str.{byte}

-- the base that the first bytes of an integer constant choose
unfoldable pub base_at : List ℕ → ℕ
base_at [] = 10
base_at (b ∷ []) = if b == byte "0" then 8 else 10
base_at (b ∷ x ∷ bs) = if b == byte "0" then (if x == byte "x" || x == byte "X" then 16 else 8) else 10

-- the digits in that base, and the suffix behind them
abbrev pub digits_at : List ℕ → List ℕ
digits_at text = if base_at text == 16 then drop 2 text else text
