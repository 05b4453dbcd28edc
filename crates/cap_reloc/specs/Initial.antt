-- The bytes with which the table, the globals and the literals of a program begin.
use Rattle.std.specs.Prelude.{ℕ, ◌≡◌, ◌+◌, ◌-◌, ◌<◌, ◌≤◌, ◌&&◌, nat_le, nat_lt, min, max, List, [], ◌∷◌, ◌++◌, length}
use Rattle.std.specs.Prelude.{◌⊎◌, map, Some, slice_get, slice_index, if◌then◌else◌}
use Rattle.std.specs.List.{All, zip}
use Rattle.cap_concentrate.specs.Rounding.{rounded_up}
use Rattle.c_tree.specs.declared.typed.Typed.{Typed}
use Rattle.c_tree.specs.declared.typed.GlobalDef.{GlobalDef}
use Rattle.c_tree.specs.declared.typed.Literal.{Literal}
use Rattle.obj_mem.specs.declared.map.Map.{Map}
use Rattle.obj_mem.specs.Legal.{owned_of, objects_of}
use Rattle.obj_mem.specs.Needs.{global_need, literal_need}
use Rattle.cap_reloc.specs.Begins.{asked_by}

-- ---- which bytes are not zero

-- bytes, and the address of the first of them
abbrev pub Content : Type 0
Content = ℕ × List ℕ

abbrev pub global_content : GlobalDef × ℕ → Content
global_content g = (g.1, g.0.bytes)

abbrev pub literal_content : Literal × ℕ → Content
literal_content l = (l.1, l.0.bytes)

abbrev pub global_contents : Typed → Map → List Content
global_contents p m = map global_content (zip p.globals m.globals)

abbrev pub literal_contents : Typed → Map → List Content
literal_contents p m = map literal_content (zip p.literals m.literals)

-- The bytes of the globals and of the literals at their bases. In a legal map no two of them have a byte in common
abbrev pub contents : Typed → Map → List Content
contents p m = global_contents p m ++ literal_contents p m

-- the byte at an address, where it is `under` without these bytes
abbrev pub byte_in : ℕ → Content → ℕ → ℕ
byte_in under c a = if nat_le c.0 a && nat_lt a (c.0 + length c.1) then slice_index c.1 (a - c.0) else under

unfoldable pub byte_of : ℕ → List Content → ℕ → ℕ
byte_of under [] a = under
byte_of under (c ∷ cs) a = byte_of (byte_in under c a) cs a

-- ---- from where to where

-- the lowest of a base and those of extents, and the highest of an end and theirs
unfoldable pub lowest : ℕ → List (ℕ × ℕ) → ℕ
lowest base [] = base
lowest base (e ∷ es) = lowest (min base e.0) es

unfoldable pub highest : ℕ → List (ℕ × ℕ) → ℕ
highest end [] = end
highest end (e ∷ es) = highest (max end (e.0 + e.1)) es

-- The bytes from the lowest base of the table, the globals and the literals up to their highest end, filled to whole
-- granules: those of the globals and literals at their places, and else zeros
pub record AreInitial (p : Typed) (m : Map) (base : ℕ) (bytes : List ℕ) : Type 0 where
  pub from : base ≡ lowest m.table.0 (objects_of (asked_by p) m)
  pub to : base + length bytes ≡ rounded_up (highest (m.table.0 + m.table.1) (objects_of (asked_by p) m)) 16
  pub each : (k : ℕ) → k < length bytes → slice_index bytes k ≡ byte_of 0 (contents p m) (base + k)

-- ---- each object

-- The owned bytes of an object lie in the bytes from an address on, and are those with which it begins, and behind
-- these zeros
pub record BeginsAs (from : ℕ) (all : List ℕ) (base owns : ℕ) (bytes : List ℕ) : Type 0 where
  pub above : from ≤ base
  pub below : base + owns ≤ from + length all
  pub each : (i : ℕ) → i < owns → slice_index all (base + i - from) ≡ slice_index bytes i

-- an address is none of an extent's
abbrev pub IsOff : ℕ → ℕ × ℕ → Type 0
IsOff a e = (a < e.0) ⊎ (e.0 + e.1 ≤ a)

-- With these bytes from a base on the objects of a program begin. They reach from the lowest base of the table, the
-- globals and the literals to their highest end, filled to whole granules
pub record ObjectsBegin (p : Typed) (m : Map) (base : ℕ) (all : List ℕ) : Type 0 where
  pub from : base ≡ lowest m.table.0 (objects_of (asked_by p) m)
  pub to : base + length all ≡ rounded_up (highest (m.table.0 + m.table.1) (objects_of (asked_by p) m)) 16
  -- each global and each literal begins with its bytes
  pub globals : (k : ℕ) (g : GlobalDef) → slice_get p.globals k ≡ Some g →
      BeginsAs base all (slice_index m.globals k) (owned_of (global_need p.types g)) g.bytes
  pub literals : (k : ℕ) (l : Literal) → slice_get p.literals k ≡ Some l →
      BeginsAs base all (slice_index m.literals k) (owned_of (literal_need l)) l.bytes
  -- the table begins with zeros, to which its relocations come
  pub table : BeginsAs base all m.table.0 m.table.1 []
  -- and what belongs to none of them is zero
  pub between : (k : ℕ) → k < length all → All (IsOff (base + k)) (m.table ∷ objects_of (asked_by p) m) →
      slice_index all k ≡ 0
