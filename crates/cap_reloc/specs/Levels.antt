-- What one level of a type says of whether it is const.
use Rattle.std.specs.Prelude.{ℕ, Bool, true, false}
use Rattle.cap_reloc.specs.declared.pointers.Level.{Level}
use Rattle.cap_reloc.specs.declared.pointers.Level.TheVariants as level

abbrev pub const_by : Level → (ℕ → Bool) → Bool
const_by level.Const go = true
const_by (level.Array t) go = go t
const_by level.Other go = false
