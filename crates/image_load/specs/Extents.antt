-- Extents, their capabilities, and the registers with which a machine begins.
use Rattle.std.specs.Prelude.{ℕ, ◌+◌, ◌^◌, ◌&&◌, nat_le, nat_eq, Bool, List, replicate, slice_set}
use Rattle.cap_concentrate.specs.Rounding.{least_base, least_top}
use Rattle.cap_ops.specs.declared.capability.Cap.{Cap}
use Rattle.cap_ops.specs.declared.capability.TheConstants.{UNSEALED}
use Rattle.cap_ops.specs.Capability.{null_at}
use Rattle.cap_ops.specs.Bounded.{bounded}
use Rattle.cap_ops.specs.Permissions.{data_permissions}

-- a base and a length
abbrev pub Extent : Type 0
Extent = ℕ × ℕ

abbrev pub end_of : Extent → ℕ
end_of e = e.0 + e.1

-- the bounds can be encoded as they are: they are the least bounds of themselves
unfoldable pub is_encodable : Extent → Bool
is_encodable e = nat_le (end_of e) (2 ^ 64) && nat_eq (least_base e.0 (end_of e)) e.0
    && nat_eq (least_top e.0 (end_of e)) (end_of e)

-- a capability of an extent at an address
abbrev pub of_extent : Extent → ℕ → ℕ → Cap
of_extent e perms at = bounded e.0 (end_of e) perms UNSEALED at

-- c2 has the stack, with its top as address, c3 the table, with its base as address, and the others null
abbrev pub registers : (stack table : Extent) → List Cap
registers stack table = slice_set (slice_set (replicate 32 (null_at 0)) 2
    (of_extent stack data_permissions (end_of stack))) 3 (of_extent table data_permissions table.0)
