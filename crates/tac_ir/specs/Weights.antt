-- Weights of single nodes of a program, and how 128 bits count them.
use Rattle.std.specs.Prelude.{ℕ, ◌-◌, ◌^◌, min, nat_lt, if◌then◌else◌}
use Rattle.c_tree.specs.TreeWeight.{term_weight, action_weight}
use Rattle.c_tree.specs.Views.{terms_of, term_at, actions_of, action_at}
use Rattle.c_tree.specs.declared.typed.Typed.{Typed}

-- a weight as 128 bits count it: it stops at their greatest number
abbrev pub capped : ℕ → ℕ
capped n = min n (2 ^ 128 - 1)

-- the weight of expression k, with its operands
unfoldable pub expression_weight : Typed → ℕ → ℕ
expression_weight p k = term_weight (term_at (terms_of p) k)

-- and of statement k, with its expressions and parts
unfoldable pub statement_weight : Typed → ℕ → ℕ
statement_weight p k = action_weight (action_at (actions_of p) k)

-- An operand or a part stands before what names it. Where a number names what does not, it stands for nothing, which
-- weighs 1
abbrev pub before : (ℕ → ℕ) → (limit k : ℕ) → ℕ
before weight limit k = if nat_lt k limit then weight k else 1
