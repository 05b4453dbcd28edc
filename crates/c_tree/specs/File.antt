-- A C file as a whole: its tokens, its syntax, and the room of its objects.
use Rattle.std.specs.Prelude.{◌≡◌, ℕ, ◌+◌, ◌≤◌, if◌then◌else◌, List, length, sum_by, slice_get, Option, Some}
use Rattle.std.specs.Prelude.{None, ◌⊎◌}
use Rattle.ck_base.specs.declared.positions.Pos.{Pos}
use Rattle.ck_base.specs.Tokens.{Lexeme}
use Rattle.ck_base.specs.Lexes.{Lexes, position_after}
use Rattle.cap_concentrate.specs.Rounding.{owned}
use Rattle.c_tree.specs.declared.typed.CType.{CType}
use Rattle.c_tree.specs.declared.typed.GlobalDef.{GlobalDef}
use Rattle.c_tree.specs.declared.typed.Literal.{Literal}
use Rattle.c_tree.specs.declared.typed.VarDef.{VarDef}
use Rattle.c_tree.specs.declared.typed.FunDef.{FunDef}
use Rattle.c_tree.specs.declared.typed.Typed.{Typed}
use Rattle.c_tree.specs.Brackets.{height_limit, excess}
use Rattle.c_tree.specs.Syntax.{Syn, height}
use Rattle.c_tree.specs.Parses.{DerivesFile}
use Rattle.c_tree.specs.Layout.{Extent, extent, object_alignment}

-- ---- limits

abbrev pub file_limit : ℕ
file_limit = 4194304

abbrev pub room_limit : ℕ
room_limit = 67108864

-- ---- the room of objects

-- an object's owned length and its alignment
abbrev pub object_room : Option Extent → ℕ
object_room None = 0
object_room (Some x) = owned x.size + object_alignment x.align x.size

abbrev pub global_room : List CType → GlobalDef → ℕ
global_room types g = object_room (extent types g.of)

abbrev pub literal_room : Literal → ℕ
literal_room l = object_room (Some (record { size = length l.bytes; align = 1 }))

-- the globals and the literals together
abbrev pub static_room : Typed → ℕ
static_room p = sum_by (global_room p.types) p.globals + sum_by literal_room p.literals

abbrev pub var_room : List CType → VarDef → ℕ
var_room types v = (if v.simple then 0 else object_room (extent types v.of))

-- the objects among the locals of one function
abbrev pub local_room : List CType → FunDef → ℕ
local_room types f = sum_by (var_room types) f.vars

pub record HasRoom (p : Typed) : Type 0 where
  pub statics : static_room p ≤ room_limit
  pub locals : (f : FunDef) → (k : ℕ) → slice_get p.funs k ≡ Some f → local_room p.types f ≤ room_limit

-- ---- what is read of a file

-- the file is these tokens, whose brackets are within the limit
pub record IsCut (bytes : List ℕ) (tokens : List Lexeme) : Type 0 where
  pub short : length bytes ≤ file_limit
  pub lexes : Lexes bytes tokens
  pub brackets : excess tokens ≡ None

-- and this is its syntax
pub record IsRead (bytes : List ℕ) (tokens : List Lexeme) (x : Syn) : Type 0 where
  pub cut : IsCut bytes tokens
  pub derives : DerivesFile tokens x
  pub low : height x ≤ height_limit

-- the position of a token, or the end
abbrev pub IsTokenPlace : List ℕ → List Lexeme → Pos → Type 0
IsTokenPlace bytes tokens place =
    ((k : ℕ) × (t : Lexeme) × (slice_get tokens k ≡ Some t) × (place ≡ t.pos)) ⊎ (place ≡ position_after bytes)
