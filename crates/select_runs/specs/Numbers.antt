-- Words that make a number.
use Rattle.std.specs.Prelude.{ℕ, ◌+◌, ◌<◌, List, length}
use Rattle.cap_ops.specs.Capability.{null_at}
use Rattle.rv_instr.specs.declared.instr.Instr.{Instr}
use Rattle.cap_machine.specs.declared.machine.Machine.{Machine}
use Rattle.select_words.specs.Standing.{HasAt}
use Rattle.select_words.specs.Numbers.{MakesNumber}
use Rattle.select_runs.specs.Acts.{Ground, Laid, Holds, IsThere}

-- where they stand, the machine goes past them, and the register is null with that address
abbrev pub NumbersAreMade : Type 0
NumbersAreMade = (g : Ground) → Laid g → (m : Machine) (at : ℕ) → IsThere g m at
    → (to value : ℕ) → 0 < to → to < 32
    → (words : List Instr) → MakesNumber to value words → HasAt g.code at words
    → Holds g m (length words) (at + length words) to to (null_at value)
