-- Why an access through a capability fails.
use Rattle.std.specs.Prelude.{ℕ, ◌≡◌, ◌+◌, ◌%◌, ◌⊎◌, Bool, true, false, not, ◌&&◌, ◌||◌, ◌==◌, nat_lt, List, [], ◌∷◌}
use Rattle.std.specs.Prelude.{find, Option, Some, None, Result, Ok, Err}
use Rattle.cap_ops.specs.declared.capability.Cap.{Cap}
use Rattle.cap_ops.specs.declared.capability.TheConstants.{UNSEALED, EXECUTE, LOAD, STORE, STORE_CAPABILITY}
use Rattle.cap_ops.specs.declared.access.Access.{Access}
use Rattle.cap_ops.specs.declared.access.Access.TheVariants as A
use Rattle.cap_ops.specs.declared.access.Cause.{Cause}
use Rattle.cap_ops.specs.declared.access.Cause.TheVariants as C
use Rattle.cap_ops.specs.Capability.{base, top, lacks}

-- the number of bytes, to whose multiples the access is aligned
abbrev pub size : Access → ℕ
size (A.Load n) = n
size (A.Store n) = n
size A.LoadCap = 16
size (A.StoreCap tagged) = 16
size A.Jump = 4

-- plain bytes are loaded and stored 1, 2, 4 or 8 at a time
abbrev pub IsAccess : Access → Type 0
IsAccess (A.Load n) = (n ≡ 1) ⊎ ((n ≡ 2) ⊎ ((n ≡ 4) ⊎ (n ≡ 8)))
IsAccess (A.Store n) = (n ≡ 1) ⊎ ((n ≡ 2) ⊎ ((n ≡ 4) ⊎ (n ≡ 8)))
IsAccess _ = Unit {0}

abbrev pub loads : Access → Bool
loads (A.Load n) = true
loads A.LoadCap = true
loads _ = false

abbrev pub stores : Access → Bool
stores (A.Store n) = true
stores (A.StoreCap tagged) = true
stores _ = false

abbrev pub stores_tagged : Access → Bool
stores_tagged (A.StoreCap tagged) = tagged
stores_tagged _ = false

abbrev pub jumps : Access → Bool
jumps A.Jump = true
jumps _ = false

-- whether the access at this address fails by the cause
abbrev pub fails : Cap → ℕ → Access → Cause → Bool
fails c at a C.Tag = not c.tag
fails c at a C.Sealed = not (c.fields.otype == UNSEALED)
fails c at a C.Load = loads a && lacks c.fields.perms LOAD
fails c at a C.Store = stores a && lacks c.fields.perms STORE
fails c at a C.StoreCap = stores_tagged a && lacks c.fields.perms STORE_CAPABILITY
fails c at a C.Execute = jumps a && lacks c.fields.perms EXECUTE
fails c at a C.Bounds = nat_lt at (base c) || nat_lt (top c) (at + size a)
fails c at a C.Align = not (at % size a == 0)

-- the order in which the causes are tested
abbrev pub in_order : List Cause
in_order = C.Tag ∷ C.Sealed ∷ C.Load ∷ C.Store ∷ C.StoreCap ∷ C.Execute ∷ C.Bounds ∷ C.Align ∷ []

abbrev pub answer : ℕ → Option Cause → Result ℕ Cause
answer at None = Ok at
answer at (Some cause) = Err cause

-- the address, or the first cause by which the access fails
unfoldable pub checked : Cap → ℕ → Access → Result ℕ Cause
checked c at a = answer at (find (fails c at a) in_order)
