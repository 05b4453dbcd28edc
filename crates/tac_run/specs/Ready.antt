-- What a run asks of a program and of its map.
use Rattle.std.specs.Prelude.{◌≡◌, ℕ, ◌+◌, ◌^◌, ◌<◌, ◌≤◌, List, length, Some, slice_get, slice_index_or}
use Rattle.c_tree.specs.Layout.{size_limit}
use Rattle.c_tree.specs.declared.typed.CType.{CType}
use Rattle.c_tree.specs.declared.typed.GlobalDef.{GlobalDef}
use Rattle.c_tree.specs.declared.typed.Link.{Link}
use Rattle.c_tree.specs.declared.typed.Literal.{Literal}
use Rattle.c_tree.specs.declared.typed.Target.{Target}
use Rattle.c_tree.specs.declared.typed.Target.TheVariants as target
use Rattle.c_tree.specs.declared.typed.Typed.{Typed}
use Rattle.c_tree.specs.declared.typed.VarDef.{VarDef}
use Rattle.obj_mem.specs.declared.map.Frame.{Frame}
use Rattle.obj_mem.specs.declared.map.Map.{Map}
use Rattle.cheri_c_sem.specs.Modes.{local_offset}
use Rattle.cheri_c_sem.specs.Programs.{program_tree}
use Rattle.cheri_c_sem.specs.Types.{size_in}
use Rattle.tac_ir.specs.Meaning.{objects_in}
use Rattle.tac_run.specs.Lists.{vars_of}

-- the lengths of the objects of a program's functions
abbrev pub objects_by : Typed → ℕ → List ℕ
objects_by p = objects_in (program_tree p)

-- Heap and stack end within their words, and the place of each local lies in its frame
pub record IsRoomy (p : Typed) (m : Map) : Type 0 where
  pub heap : m.heap.0 + m.heap.1 < 2 ^ 63
  pub stack : m.stack.0 + m.stack.1 < 2 ^ 64
  pub frames : (f k : ℕ) (g : Frame) → slice_get m.frames f ≡ Some g → k < length (objects_by p f) →
      local_offset (Some g) k ≤ g.size

-- variables of sizes within the limit
abbrev pub AreSmall : List CType → List VarDef → Type 0
AreSmall types vars = (k : ℕ) (v : VarDef) → slice_get vars k ≡ Some v → size_in types v.of ≤ size_limit

-- literals no longer than all addresses
abbrev pub AreShort : List Literal → Type 0
AreShort literals = (k : ℕ) (l : Literal) → slice_get literals k ≡ Some l → length l.bytes ≤ 2 ^ 40

-- bounds of links end within 64 bits
abbrev pub AreBounded : List Link → Type 0
AreBounded links = (k : ℕ) (l : Link) → slice_get links k ≡ Some l → l.low + l.length < 2 ^ 64

-- a link's object is there, and the base of its bounds is a number of 64 bits
abbrev pub IsLinkBased : Typed → Map → ℕ → Target → Type 0
IsLinkBased p m low (target.Global k) = (k < length p.globals) × (slice_index_or m.globals k 0 + low < 2 ^ 64)
IsLinkBased p m low (target.Literal k) = (k < length p.literals) × (slice_index_or m.literals k 0 + low < 2 ^ 64)
IsLinkBased p m low (target.Fun f) = Unit {0}

pub record IsGlobalReady (p : Typed) (m : Map) (g : GlobalDef) : Type 0 where
  pub small : size_in p.types g.of ≤ size_limit
  pub bounded : AreBounded g.links
  pub based : (k : ℕ) (l : Link) → slice_get g.links k ≡ Some l → IsLinkBased p m l.low l.target

pub record IsReady (p : Typed) (m : Map) : Type 0 where
  pub roomy : IsRoomy p m
  pub locals : (f : ℕ) → AreSmall p.types (vars_of (slice_get p.funs f))
  pub globals : (k : ℕ) (g : GlobalDef) → slice_get p.globals k ≡ Some g → IsGlobalReady p m g
  pub literals : AreShort p.literals
  pub global_bases : (k : ℕ) → slice_index_or m.globals k 0 < 2 ^ 64
  pub literal_bases : (k : ℕ) → slice_index_or m.literals k 0 < 2 ^ 64
