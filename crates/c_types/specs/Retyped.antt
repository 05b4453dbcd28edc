-- Locals whose types change.
use Rattle.std.specs.Prelude.{ℕ, List}
use Rattle.c_tree.specs.Types.{Ty}
use Rattle.c_tree.specs.Scopes.{LocalState, changed_at}

-- the local with a number has another type
abbrev pub retyped : Ty → List LocalState → ℕ → List LocalState
retyped u vs k = changed_at (λ (v : LocalState). record v { of = u }) vs k
