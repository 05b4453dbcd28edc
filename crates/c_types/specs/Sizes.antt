-- Structs and unions as they are completed, and where their members begin.
use Rattle.std.specs.Prelude.{◌≡◌, ℕ, List, Bool, true, false, Option, Some, slice_get, map, nat_eq}
use Rattle.c_tree.specs.declared.typed.CType.{CType}
use Rattle.c_tree.specs.Scopes.{Part, TagState}
use Rattle.c_tree.specs.Initializers.{record_places}
use Rattle.c_tree.specs.Types.{Ty}
use Rattle.c_tree.specs.declared.syntax.RecordKind.{RecordKind}
use Rattle.c_tree.specs.declared.syntax.RecordKind.TheVariants as records
use Rattle.c_tree.specs.declared.typed.CType.TheVariants as ctypes
use Rattle.c_tree.specs.declared.typed.Member.{Member}

abbrev pub is_union : RecordKind → Bool
is_union records.Struct = false
is_union records.Union = true

-- the type with its members
abbrev pub completed_type : RecordKind → ℕ → List Member → CType
completed_type records.Struct tag ms = ctypes.Struct tag ms
completed_type records.Union tag ms = ctypes.Union tag ms

-- whether a type of the list is that of a tag
abbrev pub has_tag : Option CType → ℕ → Bool
has_tag (Some (ctypes.Struct n ms)) tag = nat_eq n tag
has_tag (Some (ctypes.Union n ms)) tag = nat_eq n tag
has_tag (Some (ctypes.Incomplete n)) tag = nat_eq n tag
has_tag c tag = false

-- the members of a struct or union of this kind begin there, as far as that is known
abbrev pub AreStarts : List TagState → RecordKind → List Part → List ℕ → Type 0
AreStarts tags kind parts starts = (k z : ℕ) → slice_get starts k ≡ Some z →
    slice_get (map (λ (x : ℕ × Ty). x.0) (record_places tags kind parts)) k ≡ Some z
