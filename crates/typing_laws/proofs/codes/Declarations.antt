-- Declarations, statements and definitions (C11 6.7 to 6.9) are refused by codes of typing.
use Rattle.std.proofs.Common.{◌≡◌, ℕ, Bool, true, false, List, [], ◌∷◌, Option, Some, None, refl}
use Rattle.std.specs.Prelude.{slice_get, if◌then◌else◌, ◌||◌, ◌&&◌, not, nat_le}
use Rattle.std.proofs.lemmas.Bool.{false≢true}
use Rattle.ck_base.specs.declared.positions.Pos.{Pos}
use Rattle.ck_base.specs.Tokens.{Lexeme}
use Rattle.c_tree.specs.Syntax.{Syn, nil, more, first_token}
use Rattle.c_tree.specs.Types.{Ty, is_function}
use Rattle.c_tree.specs.Scopes.{Entity, Routine, Alias, State, Doing, give, need}
use Rattle.c_tree.specs.Scopes.{◌>>◌, ◌>>=◌}
use Rattle.c_tree.specs.Scopes.{find_in, innermost, bind_name, at_file_scope, is_complete}
use Rattle.c_tree.specs.Expressions.{routine_type}
use Rattle.c_tree.specs.Initializers.{with_count}
use Rattle.c_tree.specs.Statics.{is_start}
use Rattle.c_tree.specs.Scopes.{extent_size, type_extent}
use Rattle.c_tree.specs.Layout.{size_limit}
use Rattle.c_tree.specs.Readings.{Storage, Internal, External, Defining_type, Specified, Prototype, Derived}
use Rattle.c_tree.specs.Readings.{Context}
use Rattle.c_tree.specs.Readings.{Items, Reading}
use Rattle.c_tree.specs.Declarators.{Formed, formed, judge, is_new}
use Rattle.c_tree.specs.Declarations.{linked, new_static, linked_static, linked_routine}
use Rattle.c_tree.specs.Declarations.{new_local, Behind, complete_now, init_static, init_local}
use Rattle.c_tree.specs.Declarations.{declare_alias, declare_function, declare_global, declare_external}
use Rattle.c_tree.specs.Declarations.{declare_internal, declare_local, declare_in_block, declare_object, declare}
use Rattle.c_tree.specs.Declarations.{declare_named, init_declarator, declare_all, declaration, is_alone}
use Rattle.c_tree.specs.Declarations.{static_of, alias_agrees, has_any, function_agrees, object_agrees, waits}
use Rattle.c_tree.specs.Declarations.{is_external, may_be_external, named_function, ready, no_items}
use Rattle.c_tree.specs.Declarations.{definition_agrees}
use Rattle.c_tree.specs.Programs.{is_there, is_typedef, gives_complete, params_of, body_context, first_incomplete}
use Rattle.c_tree.specs.Programs.{refused_at}
use Rattle.c_tree.specs.Programs.{define_body, define_named, function_definition, own_prototype}
use Rattle.typing_laws.proofs.codes.Stepping.{AllOf, Coded, Any, give_coded, refuse_coded, change_coded, then_coded}
use Rattle.typing_laws.proofs.codes.Stepping.{next_coded}
use Rattle.typing_laws.proofs.codes.Stepping.{looks, need_coded, if_coded, going, Fine, fine_give, fine_then, fine_next}
use Rattle.typing_laws.proofs.codes.Declarators.{IsSpecified, IsDeclarator, IsInitializer, judge_coded, is_start_coded}
use Rattle.typing_laws.proofs.codes.Declarators.{start_slots_coded}

-- ---- declaring

new_static_coded : (t : Lexeme) (of : Ty) (linkage defined : Bool) → Coded Any (new_static t of linkage defined)
new_static_coded t of linkage defined = going λ s. fine_give tt

linked_static_coded : (t : Lexeme) (of : Ty) (defined : Bool) (o : Option ℕ) →
    Coded Any (linked_static t of defined o)
linked_static_coded t of defined (Some k) = going λ s. fine_give tt
linked_static_coded t of defined None = new_static_coded t of true defined

pub linked_routine_coded : (t : Lexeme) (of : Ty) (o : Option Entity) → Coded Any (linked_routine t of o)
linked_routine_coded t of (Some (Routine k)) = going λ s. fine_give tt
linked_routine_coded t of (Some e) = give_coded tt
linked_routine_coded t of None = going λ s. fine_give tt

new_local_coded : (t : Lexeme) (of : Ty) → Coded Any (new_local t of)
new_local_coded t of = going λ s. fine_give tt

-- ---- initializers of declared objects

abbrev pub IsBehind : Behind → Type 0
IsBehind None = Unit {0}
IsBehind (Some r) = IsInitializer r.0

complete_coded : (of : Ty) (p : Pos) → Coded Any (complete_now of p)
complete_coded of p =
    going λ s. fine_next ((need_coded (is_complete s of) 132 p refl).at s)
    (need_coded (nat_le (extent_size (type_extent s.tags of)) size_limit) 140 p refl).at

init_static_coded : (k : ℕ) (t : Lexeme) (b : Behind) → IsBehind b → Coded Any (init_static k t b)
init_static_coded k t None h = give_coded tt
init_static_coded k t (Some r) h =
    going λ s. fine_then ((h is_start r.1 (static_of (slice_get s.statics k)) 0 is_start_coded).at s) λ f q u.
    fine_then ((start_slots_coded f.slots).at _) λ found q u.
    fine_next ((complete_coded (static_of (slice_get q.statics k)) t.pos).at q) λ q. fine_give tt

init_local_coded : (k : ℕ) (t : Lexeme) (of : Ty) (b : Behind) → IsBehind b → Coded Any (init_local k t of b)
init_local_coded k t of None h = give_coded tt
init_local_coded k t of (Some r) h =
    then_coded (h (λ x. give tt) r.1 of 0 (λ x. give_coded tt)) λ f u. going λ s.
    fine_then (fine_then ((complete_coded (with_count of f.count) t.pos).at _) λ u q v. looks.at q) λ s q u.
    fine_give tt

-- ---- declarators with their initializers

-- what each declaration is tested for first
checked : {B : Type 0} {Q : B → Type 0} (q : State) (c : Bool) (p : Pos) (f : Formed) (lacks misfits : Bool)
    (d : Doing B) → Coded Q d → Fine Q ((need c 131 p >> judge f lacks misfits p >> d) q)
checked q c p f lacks misfits d h =
    fine_next (fine_next ((need_coded c 131 p refl).at q) (judge_coded f lacks misfits p).at) h.at

abbrev there : Lexeme → State → Option Entity
there t s = find_in (innermost s.scopes).names t.text

alias_declared : (t : Lexeme) (f : Formed) (b : Behind) → Coded Any (declare_alias t f b)
alias_declared t f b =
    going λ s. fine_next (checked s (if at_file_scope s then alias_agrees (there t s) f.of else is_new s t.text) t.pos f
    false (has_any b) _ (change_coded {f = bind_name t.text (Alias f.of)})) λ q. fine_give tt

function_declared : (t : Lexeme) (f : Formed) (b : Behind) → Coded Any (declare_function t f b)
function_declared t f b =
    going λ s. fine_then (checked s (if at_file_scope s then function_agrees s (there t s) t.text f.of false
    else is_new s t.text) t.pos f false (has_any b || not (at_file_scope s)) _
    (linked_routine_coded t f.of (there t s))) λ k q u. fine_give tt

initialised_coded : (k : ℕ) (t : Lexeme) (b : Behind) → IsBehind b → Coded Any (init_static k t b >> give no_items)
initialised_coded k t b h = next_coded (init_static_coded k t b h) (give_coded tt)

global_declared : (storage : Storage) (t : Lexeme) (f : Formed) (b : Behind) → IsBehind b →
    Coded Any (declare_global storage t f b)
global_declared storage t f b h =
    going λ s. fine_then (checked s (object_agrees s (there t s) t.text f.of (has_any b)) t.pos f
    (not (waits s f.of b)) false _ (linked_static_coded t f.of (has_any b || not (is_external storage))
    (linked s t.text))) λ k q u. (initialised_coded k t b h).at q

external_declared : (t : Lexeme) (f : Formed) (b : Behind) → Coded Any (declare_external t f b)
external_declared t f b =
    going λ s. fine_then (checked s (may_be_external s (there t s) && not (named_function s t.text)
    && object_agrees s None t.text f.of false) t.pos f false (has_any b) _
    (linked_static_coded t f.of false (linked s t.text))) λ k q u. fine_give tt

internal_declared : (t : Lexeme) (f : Formed) (b : Behind) → IsBehind b → Coded Any (declare_internal t f b)
internal_declared t f b h =
    going λ s. fine_then (checked s (is_new s t.text) t.pos f (not (ready s f.of b)) false _
    (new_static_coded t f.of false true)) λ k q u. (initialised_coded k t b h).at q

with_local_coded : (k : ℕ) (t : Lexeme) (of : Ty) (b : Behind) → IsBehind b →
    Coded {A = Items} Any (init_local k t of b >>= λ xs. give (record { vars = k ∷ []; actions = xs }))
with_local_coded k t of b h = then_coded (init_local_coded k t of b h) λ xs u. give_coded tt

local_declared : (t : Lexeme) (f : Formed) (b : Behind) → IsBehind b → Coded Any (declare_local t f b)
local_declared t f b h =
    going λ s. fine_then (checked s (is_new s t.text) t.pos f (not (ready s f.of b)) false _ (new_local_coded t f.of))
    λ k q u. (with_local_coded k t f.of b h).at q

block_declared : (storage : Storage) (t : Lexeme) (f : Formed) (b : Behind) → IsBehind b →
    Coded Any (declare_in_block storage t f b)
block_declared External t f b h = external_declared t f b
block_declared Internal t f b h = internal_declared t f b h
block_declared storage t f b h = local_declared t f b h

object_declared : (s : State) (storage : Storage) (t : Lexeme) (f : Formed) (b : Behind) → IsBehind b →
    Coded Any (declare_object s storage t f b)
object_declared s storage t f b h =
    if_coded (is_function f.of) _ _ (function_declared t f b)
    (if_coded (at_file_scope s) _ _ (global_declared storage t f b h) (block_declared storage t f b h))

declared : (s : State) (storage : Storage) (t : Lexeme) (f : Formed) (b : Behind) → IsBehind b →
    Coded Any (declare s storage t f b)
declared s Defining_type t f b h = alias_declared t f b
declared s storage t f b h = object_declared s storage t f b h

named_declared : (s : Specified) (d : Derived) (o : Option Lexeme) (b : Behind) → is_there o ≡ true → IsBehind b →
    Coded Any (declare_named s d o b)
named_declared s d None b e h = absurd (false≢true e)
named_declared s d (Some t) b e h = going λ st. (declared st s.storage t (formed st s.of d.wraps) b h).at st

pub uninitialized_coded : (x : Syn) (r : Reading) (s : Specified) → IsDeclarator false r →
    Coded Any (init_declarator (more x nil) (r ∷ []) s)
unfolding init_declarator
uninitialized_coded x r s h = then_coded h λ d e. named_declared s d d.name None e tt

pub initialized_coded : (x y : Syn) (r q : Reading) (s : Specified) → IsDeclarator false r → IsInitializer q →
    Coded Any (init_declarator (more x (more y nil)) (r ∷ q ∷ []) s)
unfolding init_declarator
initialized_coded x y r q s h g =
    then_coded h λ d e. named_declared s d d.name (Some (q, (first_token y).pos)) e g

abbrev pub IsDeclared : Reading → Type 0
IsDeclared r = (s : Specified) → Coded Any (r.declared s)

declare_all_coded : (s : Specified) (rs : List Reading) → AllOf IsDeclared rs → Coded Any (declare_all s rs)
declare_all_coded s [] h = give_coded tt
declare_all_coded s (r ∷ rs) h =
    then_coded (h.0 s) λ a u. then_coded (declare_all_coded s rs h.1) λ b u. give_coded tt

pub declaration_coded : (p : Pos) (r : Reading) (rs : List Reading) → IsSpecified r → AllOf IsDeclared rs →
    Coded Any (declaration p (r ∷ rs))
unfolding declaration
declaration_coded p r rs h g = then_coded (h (is_alone rs)) λ s u. declare_all_coded s rs g

-- ---- function definitions

refused_coded : (o : Option Pos) → Coded Any (refused_at 132 o)
refused_coded None = give_coded tt
refused_coded (Some p) = refuse_coded refl

abbrev pub HasItems : Reading → Type 0
HasItems r = (c : Context) → Coded Any (r.body c)

body_coded : (k : ℕ) (t : Lexeme) (of : Ty) (p : Option Prototype) (block : Syn) (r : Reading) → HasItems r →
    Coded Any (define_body k t of p block r)
body_coded k t of p block r h =
    going λ s. fine_then (fine_next ((refused_coded (first_incomplete s.tags (params_of p))).at _)
    (h (body_context of)).at) λ i q u. fine_give tt

define_named_coded : (s : Specified) (d : Derived) (o : Option Lexeme) (block : Syn) (r : Reading) →
    is_there o ≡ true → HasItems r → Coded Any (define_named s d o block r)
define_named_coded s d None block r e h = absurd (false≢true e)
define_named_coded s d (Some t) block r e h =
    going λ st.
    let f = formed st s.of d.wraps in
    let p = own_prototype d.wraps in
    fine_then (checked st (definition_agrees st (there t st) t.text f.of) t.pos f (not (gives_complete st f.of))
    (is_typedef s.storage || (not (is_function f.of) || not (is_there p))) _
    (linked_routine_coded t f.of (there t st))) λ k now u.
    (body_coded k t (routine_type (slice_get now.routines k)) p block r h).at now

pub function_coded : (t : Lexeme) (x y z : Syn) (r q p : Reading) → IsSpecified r → IsDeclarator false q →
    HasItems p → Coded Any (function_definition t (more x (more y (more z nil))) (r ∷ q ∷ p ∷ []))
unfolding function_definition
function_coded t x y z r q p h g f =
    then_coded (h false) λ s u. then_coded g λ d e. define_named_coded s d d.name z p e f
