-- What a declaration gives.
use Rattle.std.specs.Prelude.{◌≡◌, ℕ, pos, Bool, true, false, [], Option, Some, None, slice_get, if◌then◌else◌}
use Rattle.ck_base.specs.Tokens.{Lexeme}
use Rattle.c_tree.specs.declared.syntax.RecordKind.{RecordKind}
use Rattle.c_tree.specs.Scopes.{State, Doing, Tagging, give, change, change_routine, ◌>>=◌, ◌>>◌}
use Rattle.c_tree.specs.Declarators.{kind_at, is_begun, as_record, begin_tag}
use Rattle.c_types.specs.declared.entries.Entry.{Entry}
use Rattle.c_types.specs.declared.entries.Entry.TheVariants as entries
use Rattle.c_types.specs.declared.entries.Entity.{Entity}
use Rattle.c_types.specs.declared.entries.Entity.TheVariants as kept
use Rattle.c_types.specs.declared.entries.DeclKind.{DeclKind}
use Rattle.c_types.specs.declared.entries.DeclKind.TheVariants as kinds
use Rattle.c_types.specs.declared.scopes.ObjectInfo.{ObjectInfo}

-- the result is the number of a struct or union of this kind
abbrev pub IsTagOf : RecordKind → ℕ → State → ℕ → Type 0
IsTagOf k n s m = (m ≡ n) × (kind_at s n k ≡ true)

-- and its braces were not opened
abbrev pub IsNewTag : RecordKind → ℕ → State → ℕ → Type 0
IsNewTag k n s m = (m ≡ n) × (kind_at s n k ≡ true) × (is_begun (slice_get s.tags n) ≡ false)

-- a tag that is in force here is named, perhaps with braces
abbrev pub names_record : RecordKind → Lexeme → Bool → Tagging → Doing ℕ
names_record k t defines g = as_record k t (Some g) >>= λ m. (if defines then begin_tag m t.pos else give tt) >> give m

-- the result is this number
abbrev pub IsNumber : ℕ → State → ℕ → Type 0
IsNumber k s j = j ≡ k

-- whether an object has an initialiser, and whether the definition of a function was begun
abbrev pub given_at : Option ObjectInfo → Bool
given_at None = false
given_at (Some o) = o.given

abbrev pub begun_at : Option Bool → Bool
begun_at None = false
begun_at (Some b) = b

-- what the name of a function denotes once it is declared: a library function, or the function with a number
abbrev pub function_entry : Option Entity → ℕ → Entry
function_entry (Some (kept.Library j of)) k = entries.Library j
function_entry o k = entries.Fun k

-- the definition of a function is begun: it has the name and the place of that, and no locals yet
abbrev pub begins : Lexeme → ℕ → Doing ℕ
begins t k = change (λ s. change_routine k (λ r. record r { name = t; begun = true }) (record s { locals = [] }))
    >> give k

-- the enumeration constant that a declaration is of
abbrev pub constant_of : DeclKind → Entity
constant_of (kinds.Constant z) = kept.Enumerator z
constant_of k = kept.Enumerator (pos 0)
