-- Which declarations agree with what their names denote (C11 6.2.7p2, 6.7p3), by what is seen of that.
use Rattle.std.specs.Prelude.{ℕ, Bool, true, false, not, ◌&&◌, if◌then◌else◌, List, Option, Some, None, slice_get}
use Rattle.ck_base.specs.Tokens.{Lexeme}
use Rattle.c_tree.specs.Types.{Ty, agree, same, is_function}
use Rattle.c_tree.specs.Scopes.{State, Doing, give, find_in, innermost, at_file_scope}
use Rattle.c_tree.specs.Declarators.{is_new}
use Rattle.c_tree.specs.Declarations.{agrees_static, agrees_routine, agrees_library, agrees_linked, linked, has_number}
use Rattle.c_tree.specs.Declarations.{known_routine, new_routine, alias_agrees, function_agrees, object_agrees}
use Rattle.c_tree.specs.Declarations.{named_function, has_linkage, may_be_external}
use Rattle.c_types.specs.Stands.{Seen, static, routine, alias, library}

-- two types that are there agree up to the lengths of arrays
abbrev pub both_agree : (ℕ → ℕ → Bool) → Option Ty → Option Ty → Bool
both_agree lengths (Some t) (Some u) = agree lengths t u
both_agree lengths (Some t) None = false
both_agree lengths None u = false

-- ---- what is seen of an entity

abbrev pub seen_alias : Seen → Option (Option Ty)
seen_alias (alias t) = Some t
seen_alias x = None

abbrev pub seen_static : Seen → Option ℕ
seen_static (static k) = Some k
seen_static x = None

abbrev pub seen_routine : Seen → Option ℕ
seen_routine (routine k) = Some k
seen_routine x = None

-- the type of a library function, if it has one
abbrev pub joined : {A : Type 0} → Option (Option A) → Option A
joined None = None
joined (Some o) = o

abbrev pub seen_library : Seen → Option Ty
seen_library (library k of) = joined of
seen_library x = None

-- ---- typedef names

abbrev pub same_alias : Option (Option Ty) → Ty → Bool
same_alias (Some (Some u)) t = same u t
same_alias (Some None) t = false
same_alias None t = false

abbrev pub alias_seen : Option Seen → Ty → Bool
alias_seen None t = true
alias_seen (Some x) t = same_alias (seen_alias x) t

abbrev pub alias_fits : State → List ℕ → Ty → Bool
alias_fits s name t = (if at_file_scope s then alias_agrees (find_in (innermost s.scopes).names name) t
    else is_new s name)

-- ---- objects

abbrev pub static_or_none : State → Option ℕ → Ty → Bool → Bool
static_or_none s None t defines = false
static_or_none s (Some k) t defines = agrees_static (slice_get s.statics k) t defines

abbrev pub object_seen : State → Option Seen → List ℕ → Ty → Bool → Bool
object_seen s None name t defines = agrees_linked s (linked s name) t defines
object_seen s (Some x) name t defines = static_or_none s (seen_static x) t defines

abbrev pub linked_or_none : State → Option ℕ → Bool
linked_or_none s None = false
linked_or_none s (Some k) = has_linkage (slice_get s.statics k)

abbrev pub external_seen : State → Option Seen → Bool
external_seen s None = true
external_seen s (Some x) = linked_or_none s (seen_static x)

abbrev pub external_fits : State → List ℕ → Ty → Bool
external_fits s name t =
    may_be_external s (find_in (innermost s.scopes).names name) && not (named_function s name)
    && object_agrees s None name t false

abbrev pub is_callee : Seen → Bool
is_callee (routine k) = true
is_callee (library k of) = true
is_callee x = false

abbrev pub callee_seen : Option Seen → Bool
callee_seen None = false
callee_seen (Some x) = is_callee x

-- ---- functions

abbrev pub routine_or_library : State → Option ℕ → Option Ty → Ty → Bool → Bool
routine_or_library s (Some k) of t defines = agrees_routine (slice_get s.routines k) t defines
routine_or_library s None of t defines = agrees_library of t defines

abbrev pub function_seen : State → Option Seen → List ℕ → Ty → Bool → Bool
function_seen s None name t defines = not (has_number (linked s name))
function_seen s (Some x) name t defines = routine_or_library s (seen_routine x) (seen_library x) t defines

abbrev pub definition_seen : State → Option Seen → List ℕ → Ty → Bool
definition_seen s o name t = (if is_function t then function_seen s o name t true else object_seen s o name t true)

abbrev pub function_fits : State → List ℕ → Ty → Bool
function_fits s name t = (if at_file_scope s
    then function_agrees s (find_in (innermost s.scopes).names name) name t false else is_new s name)

abbrev pub known_or_none : Option ℕ → Ty → Doing ℕ
known_or_none (Some k) of = known_routine k of
known_or_none None of = give 0

abbrev pub routine_seen_by : Lexeme → Ty → Option Seen → Doing ℕ
routine_seen_by t of None = new_routine t of
routine_seen_by t of (Some x) = known_or_none (seen_routine x) of
