-- What is found.
use Rattle.std.specs.Prelude.{◌≡◌, ℕ, ◌<◌, List, [], ◌∷◌, length, Option, Some, None}
use Rattle.c_tree.specs.declared.syntax.RecordKind.{RecordKind}
use Rattle.c_tree.specs.declared.syntax.RecordKind.TheVariants as records
use Rattle.c_tree.specs.Types.{Ty}
use Rattle.c_tree.specs.Scopes as meant
use Rattle.c_tree.specs.Scopes.{State, or_else}
use Rattle.c_types.specs.declared.entries.Entity.{Entity}
use Rattle.c_types.specs.declared.entries.Entity.TheVariants.{Local, Static, Routine, Alias, Enumerator, Library}
use Rattle.c_types.specs.declared.entries.Entry.{Entry}
use Rattle.c_types.specs.declared.entries.Entry.TheVariants as entries
use Rattle.c_types.specs.declared.entries.TagKind.{TagKind}
use Rattle.c_types.specs.declared.entries.TagKind.TheVariants as tag_kinds
use Rattle.c_types.specs.declared.scopes.Scope.{Scope}
use Rattle.c_types.specs.declared.entries.Tagging.{Tagging}
use Rattle.c_types.specs.Stands.{ShowsScope, name_in, tag_in}

-- what was closed is the innermost scope
abbrev pub ShowsInnermost : List Ty → ℕ → Option Scope → List meant.Scope → Type 0
ShowsInnermost ts count None ms = ms ≡ []
ShowsInnermost ts count (Some c) [] = ⊥
ShowsInnermost ts count (Some c) (m ∷ ms) = ShowsScope ts count c m

-- a struct or union has a number of the tags
abbrev pub Numbered : ℕ → meant.Tagging → Type 0
Numbered k (meant.Recorded n) = n < k
Numbered k meant.Enumerated = Unit {0}

abbrev pub IsThere : State → meant.Tagging → Type 0
IsThere s t = Numbered (length s.tags) t

abbrev pub entry_of : Entity → Entry
entry_of (Local k t) = entries.Var k
entry_of (Static k) = entries.Global k
entry_of (Routine k) = entries.Fun k
entry_of (Alias t) = entries.Typedef t
entry_of (Enumerator z) = entries.Constant z
entry_of (Library k of) = entries.Library k

abbrev pub tag_kind_of : RecordKind → TagKind
tag_kind_of records.Struct = tag_kinds.Struct
tag_kind_of records.Union = tag_kinds.Union

-- what the first of the scopes that has a name says of it
abbrev pub name_among : List Scope → List ℕ → Option Entity
name_among [] n = None
name_among (c ∷ cs) n = or_else (name_in c n) (name_among cs n)

abbrev pub tag_among : List Scope → List ℕ → Option Tagging
tag_among [] n = None
tag_among (c ∷ cs) n = or_else (tag_in c n) (tag_among cs n)
