-- Accesses that memory is asked for.
use Rattle.std.specs.Prelude.{◌<◌}
use Rattle.cap_ops.specs.declared.access.Access.{Access}
use Rattle.cap_ops.specs.declared.access.Access.TheVariants as A

-- a load or a store of a byte at least
abbrev pub IsPlain : Access → Type 0
IsPlain (A.Load n) = 0 < n
IsPlain (A.Store n) = 0 < n
IsPlain A.LoadCap = Unit {0}
IsPlain (A.StoreCap tagged) = Unit {0}
IsPlain A.Jump = ⊥
