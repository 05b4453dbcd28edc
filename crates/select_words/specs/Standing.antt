-- Words that stand in a code.
use Rattle.std.specs.Prelude.{◌≡◌, ℕ, ◌+◌, List, [], ◌∷◌, Some, slice_get}
use Rattle.rv_instr.specs.declared.instr.Instr.{Instr}

-- from a word of it on
abbrev pub HasAt : List Instr → (at : ℕ) → List Instr → Type 0
HasAt code at [] = Unit {0}
HasAt code at (i ∷ is) = (slice_get code at ≡ Some i) × HasAt code (at + 1) is
