-- What is known of the values of a placed run.
use Rattle.std.specs.Prelude.{◌≡◌, ℕ, ◌+◌, ◌%◌, ◌^◌, ◌<◌, ◌≤◌, true, List, Some, slice_get}
use Rattle.cap_ops.specs.declared.capability.TheConstants.{EXECUTE}
use Rattle.cap_ops.specs.Capability.{lacks}
use Rattle.obj_mem.specs.Values.{Value, Int, Live, Fun, Raw}
use Rattle.obj_mem.specs.Objects.{Shape}
use Rattle.obj_mem.specs.Pointers.{keeps}

-- A pointer: its bounds lie in its object, and the canonical fields of these bounds give them at its address
pub record IsHeld (shapes : List Shape) (object low high offset permissions : ℕ) : Type 0 where
  pub shape : Shape
  pub there : slice_get shapes object ≡ Some shape
  pub ordered : low ≤ high
  pub inside : high ≤ shape.owned
  pub kept : keeps (shape.base + low) (shape.base + high) ((shape.base + offset) % 2 ^ 64) ≡ true
  pub word : offset < 2 ^ 64
  pub twelve_bits : permissions < 4096
  -- none that is a function's
  pub no_execute : lacks permissions EXECUTE ≡ true

-- a value of a run of a program with so many functions
abbrev pub IsKnown : List Shape → ℕ → Value → Type 0
IsKnown shapes functions (Int n) = n < 2 ^ 64
IsKnown shapes functions (Live object low high offset permissions) = IsHeld shapes object low high offset permissions
IsKnown shapes functions (Fun f) = f < functions
IsKnown shapes functions (Raw address upper) = (address < 2 ^ 64) × (upper < 2 ^ 64)
