-- The bounds of a pointer to a member of a struct or union.
use Rattle.std.specs.Prelude.{◌≡◌, ℕ, ◌+◌, ◌%◌, ◌^◌, ◌<◌, ◌≤◌, true, List, Some, Ok, slice_get}
use Rattle.c_tree.specs.Layout.{Extent, extent, bare, members_of, member_at}
use Rattle.c_tree.specs.declared.typed.CType.{CType}
use Rattle.c_tree.specs.declared.typed.Member.{Member}
use Rattle.obj_mem.specs.Objects.{Shape, Placed, base_in}
use Rattle.obj_mem.specs.Pointers.{narrow}
use Rattle.obj_mem.specs.Values.{Addresses, Live}
use Rattle.cheri_c_sem.specs.Types.{narrowing_to}

-- member k of type t begins at an offset; the extents of the type and of the member
pub record IsMember (types : List CType) (t k at : ℕ) (all own : Extent) : Type 0 where
  pub member : Member
  pub there : slice_get (members_of (bare types t)) k ≡ Some member
  pub begins : member_at types t k ≡ Some at
  pub own_is : extent types member.of ≡ Some own
  pub all_is : extent types t ≡ Some all

-- A struct at an offset of an object at a base is properly aligned: its address is a multiple of its type's alignment.
-- These bounds hold it
pub record IsProperlyAligned (base low high offset : ℕ) (all : Extent) : Type 0 where
  pub multiple : (base + offset) % all.align ≡ 0
  pub from : low ≤ offset
  pub to : offset + all.size ≤ high
  pub within : base + high < 2 ^ 64

-- A pointer to the place of a member, narrowed to it, keeps its tag and has exactly the bytes that the member owns
abbrev pub MembersAreExact : Type 0
MembersAreExact = (types : List CType) (t k at : ℕ) (all own : Extent) → IsMember types t k at all own
    → (a : Addresses) (shapes : List Shape) (object low high offset permissions : ℕ)
    → IsProperlyAligned (base_in shapes object) low high offset all
    → narrow (Placed a) shapes (Live object low high (offset + at) permissions) (narrowing_to own.size).owned true
    ≡ Ok (Live object (offset + at) (offset + at + (narrowing_to own.size).owned) (offset + at) permissions)
