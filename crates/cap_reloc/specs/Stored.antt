-- What holds of each relocation under a legal map: a machine can store it as it is, and it gives no way into the text
-- but an entry.
use Rattle.std.specs.Prelude.{ℕ, ◌≡◌, ◌+◌, ◌%◌, ◌^◌, ◌<◌, ◌≤◌, ◌⊎◌, Some, slice_get}
use Rattle.cap_concentrate.specs.Rounding.{Encodable}
use Rattle.cap_ops.specs.Permissions.{data_permissions, const_permissions, code_permissions}
use Rattle.elf_file.specs.declared.image.Reloc.{Reloc}
use Rattle.obj_mem.specs.declared.map.Map.{Map}
use Rattle.obj_mem.specs.Legal.{AreApart, IsEntry}

-- the address of its capability
abbrev pub address_in : Reloc → ℕ
address_in r = (r.base + r.offset) % 2 ^ 64

-- Bounds that have an encoding, between 65,536 and 2 ^ 40, and an address less than 1024 bytes outside them
pub record IsStorable (r : Reloc) : Type 0 where
  pub exact : Encodable r.base (r.base + r.length)
  pub from : 65536 ≤ r.base
  pub to : r.base + r.length ≤ 2 ^ 40
  pub above : r.base < address_in r + 1024
  pub below : address_in r < r.base + r.length + 1024

-- the sentry of a function: it has the text's bounds, and the address of the function's entry
pub record IsSentry (m : Map) (r : Reloc) : Type 0 where
  pub word : r.perms ≡ 2 ^ 63 + code_permissions
  pub base : r.base ≡ m.text.0
  pub length : r.length ≡ m.text.1
  pub entry : IsEntry m.text (address_in r)
  pub function : ℕ
  pub entered : slice_get m.entries function ≡ Some (address_in r)

-- no sentry, and without Execute
abbrev pub IsDataWord : ℕ → Type 0
IsDataWord word = (word ≡ data_permissions) ⊎ (word ≡ const_permissions)

-- a pointer to data: no byte of the text is in its bounds
pub record IsData (m : Map) (r : Reloc) : Type 0 where
  pub word : IsDataWord r.perms
  pub apart : AreApart (r.base, r.length) m.text

pub record IsPointer (m : Map) (r : Reloc) : Type 0 where
  pub storable : IsStorable r
  pub kind : IsSentry m r ⊎ IsData m r
