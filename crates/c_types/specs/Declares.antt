-- What a declaration does before its initialiser, its body or its members (C11 6.7, 6.9).
use Rattle.std.specs.Prelude.{ℕ, ℤ, Bool, true, false, not, ◌&&◌, ◌||◌, if◌then◌else◌, List, [], Option, Some, None}
use Rattle.ck_base.specs.Tokens.{Lexeme}
use Rattle.ck_base.specs.declared.tokens.TokenKind.TheVariants.{Word}
use Rattle.c_tree.specs.declared.syntax.RecordKind.{RecordKind}
use Rattle.c_tree.specs.declared.syntax.RecordKind.TheVariants as records
use Rattle.c_tree.specs.declared.typed.Typed.{Typed}
use Rattle.c_tree.specs.Types.{Ty, is_function}
use Rattle.c_tree.specs.Scopes as meant
use Rattle.c_tree.specs.Scopes.{Entity, State, Doing, give, need, look, change, ◌>>=◌, ◌>>◌, find_in, find_tag}
use Rattle.c_tree.specs.Scopes.{innermost, at_file_scope, bind_name, change_routine, is_complete}
use Rattle.c_tree.specs.Readings.{Storage, Plain, Internal, External, Defining_type}
use Rattle.c_tree.specs.Declarators.{Formed, judge, is_new, named_tag, begin_tag, new_enumeration, named_enumeration}
use Rattle.c_tree.specs.Declarations.{linked, named_function, may_be_external, object_agrees, function_agrees}
use Rattle.c_tree.specs.Declarations.{definition_agrees, alias_agrees, new_static, linked_static, linked_routine}
use Rattle.c_tree.specs.Declarations.{new_local, is_open, is_external}
use Rattle.c_tree.specs.Programs.{is_typedef}
use Rattle.c_types.specs.declared.entries.Decl.{Decl}
use Rattle.c_types.specs.declared.entries.Storage.TheVariants as storages
use Rattle.c_types.specs.declared.entries.Storage.{Storage as Stored}
use Rattle.c_types.specs.declared.entries.TagKind.{TagKind}
use Rattle.c_types.specs.declared.entries.TagKind.TheVariants as tags
use Rattle.c_interner.specs.Numbers.{type_named}
use Rattle.c_types.specs.Stands.{text_at}

-- ---- what stands in a declaration

abbrev pub storage_of : Stored → Storage
storage_of storages.Plain = Plain
storage_of storages.Static = Internal
storage_of storages.Extern = External
storage_of storages.Typedef = Defining_type

-- the name that is declared
abbrev pub name_of : List ℕ → Decl → Lexeme
name_of file d = record { kind = Word; text = text_at file d.name; span = d.name; pos = d.pos }

-- the type that its declarator makes, and the rules that it breaks
abbrev pub formed_of : Typed → Decl → Formed
formed_of p d = record {
  of = type_named p d.of;
  lacks = d.faults.lacks;
  misfits = d.faults.misfits;
  too_large = d.faults.too_large;
}

-- ---- ordinary names. Each gives what the name denotes from here on. The truth value says whether an initialiser
-- stands with the name

abbrev pub giving : (ℕ → Entity) → Doing ℕ → Doing Entity
giving of d = d >>= λ k. give (of k)

abbrev pub declares_alias : Lexeme → Formed → Bool → Doing Entity
declares_alias t f defines = look >>= λ s.
    need (if at_file_scope s then alias_agrees (find_in (innermost s.scopes).names t.text) f.of else is_new s t.text)
    131 t.pos >>
    judge f false defines t.pos >> (change (bind_name t.text (meant.Alias f.of)) >> give (meant.Alias f.of))

-- a library function, or the function with a number
abbrev pub function_of : Option Entity → ℕ → Entity
function_of (Some (meant.Library k of)) j = meant.Library k of
function_of o j = meant.Routine j

-- a function at file scope; in a block none is declared
abbrev pub declares_function : Lexeme → Formed → Bool → Doing Entity
declares_function t f defines = look >>= λ s.
    need (if at_file_scope s then function_agrees s (find_in (innermost s.scopes).names t.text) t.text f.of false
    else is_new s t.text) 131 t.pos >>
    judge f false (defines || not (at_file_scope s)) t.pos >>
    giving (function_of (find_in (innermost s.scopes).names t.text))
    (linked_routine t f.of (find_in (innermost s.scopes).names t.text))

-- a function with its body, whose place is that of the definition from here on. It has no locals yet. The function's
-- number is given
abbrev pub declares_definition : Storage → Lexeme → Formed → Doing ℕ
declares_definition storage t f = look >>= λ s.
    need (definition_agrees s (find_in (innermost s.scopes).names t.text) t.text f.of) 131 t.pos >>
    judge f false (is_typedef storage || not (is_function f.of)) t.pos >>
    linked_routine t f.of (find_in (innermost s.scopes).names t.text) >>= λ k.
    change (λ s. change_routine k (λ r. record r { name = t; begun = true }) (record s { locals = [] })) >> give k

abbrev pub may_wait : State → Ty → Bool → Bool
may_wait s of defines = is_complete s of || is_open of || not defines

abbrev pub declares_global : Storage → Lexeme → Formed → Bool → Doing Entity
declares_global storage t f defines = look >>= λ s.
    need (object_agrees s (find_in (innermost s.scopes).names t.text) t.text f.of defines) 131 t.pos >>
    judge f (not (may_wait s f.of defines)) false t.pos >>
    giving meant.Static (linked_static t f.of (defines || not (is_external storage)) (linked s t.text))

abbrev pub declares_external : Lexeme → Formed → Bool → Doing Entity
declares_external t f defines = look >>= λ s.
    need (may_be_external s (find_in (innermost s.scopes).names t.text) && not (named_function s t.text)
    && object_agrees s None t.text f.of false) 131 t.pos >>
    judge f false defines t.pos >> giving meant.Static (linked_static t f.of false (linked s t.text))

abbrev pub is_ready : State → Ty → Bool → Bool
is_ready s of defines = is_complete s of || (is_open of && defines)

abbrev pub declares_internal : Lexeme → Formed → Bool → Doing Entity
declares_internal t f defines = look >>= λ s.
    need (is_new s t.text) 131 t.pos >> judge f (not (is_ready s f.of defines)) false t.pos
    >> giving meant.Static (new_static t f.of false true)

abbrev pub declares_local : Lexeme → Formed → Bool → Doing Entity
declares_local t f defines = look >>= λ s.
    need (is_new s t.text) 131 t.pos >> judge f (not (is_ready s f.of defines)) false t.pos
    >> giving (λ k. meant.Local k f.of) (new_local t f.of)

abbrev pub declares_in_block : Storage → Lexeme → Formed → Bool → Doing Entity
declares_in_block External t f defines = declares_external t f defines
declares_in_block Internal t f defines = declares_internal t f defines
declares_in_block storage t f defines = declares_local t f defines

abbrev pub declares_object : Storage → Lexeme → Formed → Bool → Doing Entity
declares_object storage t f defines = look >>= λ s.
    (if is_function f.of then declares_function t f defines
    else (if at_file_scope s then declares_global storage t f defines else declares_in_block storage t f defines))

abbrev pub declares_constant : Lexeme → ℤ → Doing Entity
declares_constant t z = look >>= λ s. need (is_new s t.text) 131 t.pos
    >> (change (bind_name t.text (meant.Enumerator z)) >> give (meant.Enumerator z))

abbrev pub declares_named : Storage → Lexeme → Formed → Bool → Doing Entity
declares_named Defining_type t f defines = declares_alias t f defines
declares_named storage t f defines = declares_object storage t f defines

-- ---- tags. The truth value says whether braces stand with the name

abbrev pub declares_record : RecordKind → Lexeme → Bool → Doing ℕ
declares_record k t defines = named_tag true k t >>= λ n. (if defines then begin_tag n t.pos else give tt) >> give n

abbrev pub declares_enumeration : Lexeme → Bool → Doing Unit
declares_enumeration t defines = look >>= λ s.
    (if defines then new_enumeration t (find_in (innermost s.scopes).tags t.text)
    else named_enumeration t (find_tag s.scopes t.text))

-- what the tag denotes then: the number of the struct or union, or an enumeration
abbrev pub declares_tag : TagKind → Lexeme → Bool → Doing meant.Tagging
declares_tag tags.Struct t defines = declares_record records.Struct t defines >>= λ n. give (meant.Recorded n)
declares_tag tags.Union t defines = declares_record records.Union t defines >>= λ n. give (meant.Recorded n)
declares_tag tags.Enum t defines = declares_enumeration t defines >> give meant.Enumerated
