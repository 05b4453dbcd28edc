-- Temps are of their kinds.
use Rattle.std.specs.Prelude.{◌≡◌, ℕ, ◌<◌, false, List, length, Option, Some, slice_get}
use Rattle.ck_int.specs.Kinds.{IsKept}
use Rattle.obj_mem.specs.Values.{Value, Int}
use Rattle.cheri_c_sem.specs.Kinds.{Kind, Plain, Capability}
use Rattle.tac_ir.specs.Effects.{held, kind_at}
use Rattle.tac_ir.specs.declared.code.TacKind.{TacKind}
use Rattle.place_inject.specs.Steps.{is_integer}

-- an integer kind keeps a number of it, and a capability's kind any other value
abbrev pub IsOfKind : Kind → Value → Type 0
IsOfKind (Plain k) (Int n) = IsKept k n
IsOfKind (Plain k) v = ⊥
IsOfKind (Capability signed) v = is_integer v ≡ false

-- each temp of a function has a value of its kind
pub record AreOfKinds (kinds : List TacKind) (temps : List (Option Value)) : Type 0 where
  pub one_each : length temps ≡ length kinds
  pub given : (t : ℕ) → t < length kinds → slice_get temps t ≡ Some (Some (held (slice_get temps t)))
  pub each : (t : ℕ) → t < length kinds → IsOfKind (kind_at kinds t) (held (slice_get temps t))
