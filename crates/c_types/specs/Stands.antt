-- What the scopes and the lists of a program stand for: the state of the typing of a file.
use Rattle.std.specs.Prelude.{◌≡◌, ℕ, ℤ, ◌<◌, Bool, false, List, [], ◌∷◌, length, min, map, reverse, Option, Some, None}
use Rattle.std.specs.Prelude.{◌+◌, ◌^◌, ◌≤◌, if◌then◌else◌, option_map, slice_get, slice_range, bytes_eq, nat_eq}
use Rattle.std.specs.Map.{lookup}
use Rattle.ck_base.specs.declared.positions.Pos.{Pos}
use Rattle.ck_base.specs.declared.positions.Span.{Span}
use Rattle.ck_base.specs.Tokens.{Lexeme}
use Rattle.c_tree.specs.declared.syntax.RecordKind.{RecordKind}
use Rattle.c_tree.specs.declared.syntax.RecordKind.TheVariants as records
use Rattle.c_tree.specs.declared.typed.CType.{CType}
use Rattle.c_tree.specs.declared.typed.CType.TheVariants as ctypes
use Rattle.c_tree.specs.declared.typed.Member.{Member}
use Rattle.c_tree.specs.declared.typed.GlobalDef.{GlobalDef}
use Rattle.c_tree.specs.declared.typed.VarDef.{VarDef}
use Rattle.c_tree.specs.declared.typed.FunDef.{FunDef}
use Rattle.c_tree.specs.declared.typed.Typed.{Typed}
use Rattle.c_tree.specs.Layout.{Extent}
use Rattle.c_tree.specs.Types.{Ty, Tagged, int}
use Rattle.c_tree.specs.Views.{types_of}
use Rattle.c_tree.specs.Scopes as meant
use Rattle.c_tree.specs.Scopes.{Part, TagState, StaticState, LocalState, RoutineState, State, find_in}
use Rattle.c_tree.specs.Declarations.{is_there, linked}
use Rattle.c_tree.specs.Initializers.{tag_places}
use Rattle.c_types.specs.declared.entries.Entity.{Entity}
use Rattle.c_types.specs.declared.entries.Entity.TheVariants.{Local, Static, Routine, Alias, Enumerator, Library}
use Rattle.c_types.specs.declared.entries.Tagging.{Tagging}
use Rattle.c_types.specs.declared.entries.Tagging.TheVariants.{Recorded, Enumerated}
use Rattle.c_type_sizes.specs.Sizes.{room_extent}
use Rattle.c_types.specs.declared.scopes.Scope.{Scope}
use Rattle.c_types.specs.declared.scopes.TagInfo.{TagInfo}
use Rattle.c_types.specs.declared.scopes.MemberTable.{MemberTable}
use Rattle.c_types.specs.declared.scopes.ObjectInfo.{ObjectInfo}
use Rattle.c_types.specs.Members.{parts_of}
use Rattle.c_types.specs.declared.scopes.Scopes.{Scopes}

-- the type that a number of a list names, if it is in the list
abbrev pub named : List Ty → ℕ → Option Ty
named ts k = slice_get ts k

-- the bytes at a span, as far as they stand in the file
abbrev pub text_at : List ℕ → Span → List ℕ
text_at file s = (let end = min s.end (length file) in slice_range file (min s.start end) end)

-- ---- what names denote

-- what is seen of an entity, with the type that a number names
pub data Seen : Type 0 where
  local : ℕ → Option Ty → Seen
  static : ℕ → Seen
  routine : ℕ → Seen
  alias : Option Ty → Seen
  enumerator : ℤ → Seen
  library : ℕ → Option (Option Ty) → Seen

abbrev pub entity_kept : List Ty → Entity → Seen
entity_kept ts (Local k t) = local k (named ts t)
entity_kept ts (Static k) = static k
entity_kept ts (Routine k) = routine k
entity_kept ts (Alias t) = alias (named ts t)
entity_kept ts (Enumerator z) = enumerator z
entity_kept ts (Library k of) = library k (option_map (named ts) of)

abbrev pub entity_seen : meant.Entity → Seen
entity_seen (meant.Local k t) = local k (Some t)
entity_seen (meant.Static k) = static k
entity_seen (meant.Routine k) = routine k
entity_seen (meant.Alias t) = alias (Some t)
entity_seen (meant.Enumerator z) = enumerator z
entity_seen (meant.Library k of) = library k (option_map (λ t. Some t) of)

abbrev pub tagging_of : Tagging → meant.Tagging
tagging_of (Recorded n) = meant.Recorded n
tagging_of Enumerated = meant.Enumerated

-- what a scope keeps of a name, and of a tag
abbrev pub name_in : Scope → List ℕ → Option Entity
name_in c n = lookup (λ k. bytes_eq n k.bytes.now) c.names.entries

abbrev pub tag_in : Scope → List ℕ → Option Tagging
tag_in c n = lookup (λ k. bytes_eq n k.bytes.now) c.tags.entries

-- A scope has the names of a scope of the typing, where there are so many structs and unions
pub record ShowsScope (ts : List Ty) (count : ℕ) (c : Scope) (m : meant.Scope) : Type 0 where
  pub names : (n : List ℕ) → option_map (entity_kept ts) (name_in c n) ≡ option_map entity_seen (find_in m.names n)
  pub tags : (n : List ℕ) → option_map tagging_of (tag_in c n) ≡ find_in m.tags n
  pub there : (n : List ℕ) (k : ℕ) → tag_in c n ≡ Some (Recorded k) → k < count

-- both lists have the innermost first
abbrev pub ShowScopes : List Ty → ℕ → List Scope → List meant.Scope → Type 0
ShowScopes ts count [] [] = Unit {0}
ShowScopes ts count (c ∷ cs) (m ∷ ms) = ShowsScope ts count c m × ShowScopes ts count cs ms
ShowScopes ts count cs ms = ⊥

-- ---- tags

pub record SeenTag : Type 0 where
  pub kind : RecordKind
  pub begun : Bool
  pub members : Option (List (Span × Option Ty))
  pub extent : Option Extent

abbrev pub part_seen : Part → Span × Option Ty
part_seen m = (m.name.span, Some m.of)

abbrev pub member_kept : List Ty → Member → Span × Option Ty
member_kept ts m = (m.name, named ts m.of)

abbrev pub members_kept : List Ty → Option CType → Option (List (Span × Option Ty))
members_kept ts (Some (ctypes.Struct n ms)) = Some (map (member_kept ts) ms)
members_kept ts (Some (ctypes.Union n ms)) = Some (map (member_kept ts) ms)
members_kept ts c = None

abbrev pub tag_seen : TagState → SeenTag
tag_seen t = record {
  kind = t.kind;
  begun = t.begun;
  members = option_map (map part_seen) t.members;
  extent = t.extent;
}

abbrev pub tag_kept : List CType → List Ty → TagInfo → SeenTag
tag_kept types ts i = record {
  kind = i.kind;
  begun = i.begun;
  members = members_kept ts (slice_get types i.of);
  extent = option_map room_extent i.room;
}

-- a struct or union that is complete is of this kind
abbrev pub IsOfKind : RecordKind → Option CType → Type 0
IsOfKind k (Some (ctypes.Struct n ms)) = k ≡ records.Struct
IsOfKind k (Some (ctypes.Union n ms)) = k ≡ records.Union
IsOfKind k c = Unit {0}

-- the types of tags are of their kinds
abbrev pub AreOfKinds : List CType → List TagInfo → Type 0
AreOfKinds types is = (n : ℕ) (i : TagInfo) → slice_get is n ≡ Some i → IsOfKind i.kind (slice_get types i.of)

-- each struct or union among the types is that of a tag
abbrev pub AreTagged : List Ty → List TagInfo → Type 0
AreTagged ts is = (k n : ℕ) → named ts k ≡ Some (Tagged n) → (i : TagInfo) × (slice_get is n ≡ Some i) × (i.of ≡ k)

-- ---- members by their names

-- the number of the first of the places whose text in a file is a name
abbrev pub first_named : List ℕ → ℕ → List Span → List ℕ → Option ℕ
first_named file k [] name = None
first_named file k (x ∷ xs) name =
    (if bytes_eq (text_at file x) name then Some k else first_named file (k + 1) xs name)

-- the number of the first member of a name, once the members are there
abbrev pub first_part : List ℕ → Option (List Part) → List ℕ → Option ℕ
first_part file None name = None
first_part file (Some ms) name = first_named file 0 (map (λ m. m.name.span) ms) name

-- what a table has of a name
abbrev pub number_among : Option MemberTable → List ℕ → Option ℕ
number_among None name = None
number_among (Some t) name = lookup (λ k. bytes_eq name k.bytes.now) t.numbers.entries

abbrev pub offset_among : Option MemberTable → ℕ → Option ℕ
offset_among None k = None
offset_among (Some t) k = slice_get t.offsets.items k

-- where the members of a struct or union begin
abbrev pub starts_in : List TagState → Option TagState → List ℕ
starts_in tags t = map (λ (x : ℕ × Ty). x.0) (tag_places tags t)

-- The tables of the structs and unions by the numbers of their tags, which have 32 bits; the offsets hold unless they
-- are stale. What has no members has no size
pub record ShowsMembers (file : List ℕ) (stale : Bool) (tables : List (ℕ × MemberTable)) (tags : List TagState) :
    Type 0 where
  pub numbers : (n : ℕ) (name : List ℕ) →
      number_among (lookup (nat_eq n) tables) name ≡ first_part file (parts_of (slice_get tags n)) name
  pub offsets : stale ≡ false → (n k z : ℕ) → offset_among (lookup (nat_eq n) tables) k ≡ Some z →
      slice_get (starts_in tags (slice_get tags n)) k ≡ Some z
  pub sizes : (n : ℕ) (t : TagState) → slice_get tags n ≡ Some t → t.members ≡ None → t.extent ≡ None
  pub few : length tags ≤ 2 ^ 32

-- ---- objects and functions

-- a name with its place, its text and its type
pub record Declared : Type 0 where
  pub text : List ℕ
  pub span : Span
  pub place : Pos
  pub of : Option Ty

abbrev pub declared_as : Lexeme → Ty → Declared
declared_as t of = record { text = t.text; span = t.span; place = t.pos; of = Some of }

abbrev pub declared_at : List ℕ → List Ty → Span → Pos → ℕ → Declared
declared_at file ts s p of = record { text = text_at file s; span = s; place = p; of = named ts of }

abbrev pub static_seen : StaticState → Declared
static_seen g = declared_as g.name g.of

abbrev pub global_kept : List ℕ → List Ty → GlobalDef → Declared
global_kept file ts g = declared_at file ts g.name g.pos g.of

abbrev pub object_of : StaticState → ObjectInfo
object_of g = record { linked = g.linked; defined = g.defined; given = is_there g.initial }

abbrev pub routine_seen : RoutineState → Declared
routine_seen f = declared_as f.name f.of

abbrev pub fun_kept : List ℕ → List Ty → FunDef → Declared
fun_kept file ts f = declared_at file ts f.name f.pos f.of

abbrev pub local_seen : LocalState → Declared
local_seen v = declared_as v.name v.of

abbrev pub var_kept : List ℕ → List Ty → VarDef → Declared
var_kept file ts v = declared_at file ts v.name v.pos v.of

-- ---- all of it

-- The scopes and the program stand for the state. The places of the uses, the bodies, the addresses that were taken,
-- the string literals and what waits for the end of the file are no part of it
pub record Stands (sc : Scopes) (p : Typed) (s : State) : Type 0 where
  pub scopes : ShowScopes (types_of p.types) (length sc.tags.items) (reverse sc.scopes.items) s.scopes
  pub tags : map (tag_kept p.types (types_of p.types)) sc.tags.items ≡ map tag_seen s.tags
  pub tag_types : (n : ℕ) (i : TagInfo) → slice_get sc.tags.items n ≡ Some i →
      named (types_of p.types) i.of ≡ Some (Tagged n)
  pub kinds : AreOfKinds p.types sc.tags.items
  pub tagged : AreTagged (types_of p.types) sc.tags.items
  pub members : ShowsMembers sc.file.now sc.stale sc.named.entries s.tags
  pub objects : sc.objects.items ≡ map object_of s.statics
  pub globals : map (global_kept sc.file.now (types_of p.types)) p.globals ≡ map static_seen s.statics
  pub begun : sc.begun.items ≡ map (λ (f : RoutineState). f.begun) s.routines
  pub routines : map (fun_kept sc.file.now (types_of p.types)) p.funs ≡ map routine_seen s.routines
  pub locals : map (var_kept sc.file.now (types_of p.types)) sc.locals.items ≡ map local_seen s.locals
  pub int : named (types_of p.types) sc.int ≡ Some int
  pub linked : (n : List ℕ) → lookup (λ k. bytes_eq n k.bytes.now) sc.linked.entries ≡ linked s n
