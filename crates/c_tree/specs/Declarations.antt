-- The typing of declarations (C11 6.7, 6.9): what a name denotes from its declarator on, and its initializer.
use Rattle.std.specs.Prelude.{ℕ, zero, ◌+◌, Bool, true, false, not, ◌&&◌, ◌||◌, nat_le, if◌then◌else◌, List, [], ◌∷◌}
use Rattle.std.specs.Prelude.{◌++◌, length, map, Option, Some, None, bytes_eq, slice_get}
use Rattle.ck_base.specs.declared.positions.Pos.{Pos}
use Rattle.ck_base.specs.Tokens.{Lexeme}
use Rattle.c_tree.specs.Layout.{size_limit}
use Rattle.c_tree.specs.Syntax.{Syns, nil, more, first_token}
use Rattle.c_tree.specs.Types.{Ty, Void, Array, compatible, composite, is_function, same}
use Rattle.c_tree.specs.Terms.{no_terms, with_term, Init, Action, action, no_actions}
use Rattle.c_tree.specs.Scopes.{Entity, Local, Static, Routine, Alias, Library, Named, Scope, StaticState, RoutineState}
use Rattle.c_tree.specs.Scopes.{State, Doing, give, refuse, need, look, change, ◌>>=◌, ◌>>◌, find_in, innermost}
use Rattle.c_tree.specs.Scopes.{at_file_scope, bind_name, changed_at, change_static, change_routine, is_complete}
use Rattle.c_tree.specs.Scopes.{type_extent, extent_size}
use Rattle.c_tree.specs.Readings.{Storage, Internal, External, Defining_type, Specified, Derived, Slot, Items, Reading}
use Rattle.c_tree.specs.Declarators.{Formed, formed, judge, is_new}
use Rattle.c_tree.specs.Initializers.{every_slot, with_count}
use Rattle.c_tree.specs.Statics.{is_start, start_slots, initial_bytes}

-- ---- names with linkage (6.2.2)

-- the number of the object with linkage that has a name, and of the function
abbrev pub linked_from : ℕ → List StaticState → List ℕ → Option ℕ
linked_from k [] name = None
linked_from k (g ∷ gs) name = (if g.linked && bytes_eq g.name.text name then Some k else linked_from (k + 1) gs name)

abbrev pub linked : State → List ℕ → Option ℕ
linked s name = linked_from 0 s.statics name

abbrev pub routine_from : ℕ → List RoutineState → List ℕ → Option ℕ
routine_from k [] name = None
routine_from k (f ∷ fs) name = (if bytes_eq f.name.text name then Some k else routine_from (k + 1) fs name)

abbrev pub has_number : Option ℕ → Bool
has_number None = false
has_number (Some k) = true

-- the scope of the file
abbrev pub file_names : List Scope → List (Named Entity)
file_names [] = []
file_names (s ∷ []) = s.names
file_names (s ∷ t ∷ ss) = file_names (t ∷ ss)

-- a function or a library function has the name
abbrev pub is_routine : Option Entity → Bool
is_routine (Some (Routine k)) = true
is_routine (Some (Library k of)) = true
is_routine e = false

abbrev pub named_function : State → List ℕ → Bool
named_function s name = is_routine (find_in (file_names s.scopes) name)

-- ---- which declarations agree (6.2.7p2, 6.7p3, 6.9p3)

-- what stands with a declarator: an initializer or a body
abbrev pub is_there : {A : Type 0} → Option A → Bool
is_there None = false
is_there (Some x) = true

abbrev pub agrees_static : Option StaticState → Ty → Bool → Bool
agrees_static None t defines = false
agrees_static (Some g) t defines = compatible g.of t && not (defines && is_there g.initial)

abbrev pub agrees_routine : Option RoutineState → Ty → Bool → Bool
agrees_routine None t defines = false
agrees_routine (Some f) t defines = compatible f.of t && not (defines && f.begun)

abbrev pub agrees_library : Option Ty → Ty → Bool → Bool
agrees_library None t defines = false
agrees_library (Some u) t defines = compatible u t && not defines

-- 131 of an object: a name of its scope, or one with linkage, that denotes something else or has another type
abbrev pub agrees_linked : State → Option ℕ → Ty → Bool → Bool
agrees_linked s None t defines = true
agrees_linked s (Some k) t defines = agrees_static (slice_get s.statics k) t defines

abbrev pub object_agrees : State → Option Entity → List ℕ → Ty → Bool → Bool
object_agrees s (Some (Static k)) name t defines = agrees_static (slice_get s.statics k) t defines
object_agrees s (Some e) name t defines = false
object_agrees s None name t defines = agrees_linked s (linked s name) t defines

abbrev pub function_agrees : State → Option Entity → List ℕ → Ty → Bool → Bool
function_agrees s (Some (Routine k)) name t defines = agrees_routine (slice_get s.routines k) t defines
function_agrees s (Some (Library k of)) name t defines = agrees_library of t defines
function_agrees s (Some e) name t defines = false
function_agrees s None name t defines = not (has_number (linked s name))

-- 131 of what has a body: it agrees as a function or, where its type is none, as an object
abbrev pub definition_agrees : State → Option Entity → List ℕ → Ty → Bool
definition_agrees s e name t =
    (if is_function t then function_agrees s e name t true else object_agrees s e name t true)

-- 6.7p3: a typedef name may be declared again for the same type
abbrev pub alias_agrees : Option Entity → Ty → Bool
alias_agrees (Some (Alias u)) t = same u t
alias_agrees (Some e) t = false
alias_agrees None t = true

-- ---- declaring

-- a new object: its name denotes it, with linkage or without
abbrev pub new_static : Lexeme → Ty → Bool → Bool → Doing ℕ
new_static t of linkage defined = look >>= λ s.
    change (λ s. bind_name t.text (Static (length s.statics))
    (record s {
      statics = s.statics ++ record {
        name = t;
        of = of;
        linked = linkage;
        defined = defined;
        initial = None;
        used = None;
      } ∷ [];
    })) >>
    give (length s.statics)

-- one that is known: its type is the composite one, and its name denotes it here too
abbrev pub known_static : Lexeme → ℕ → Ty → Bool → Doing ℕ
known_static t k of defined =
    change (change_static k (λ g. record g { of = composite g.of of; defined = g.defined || defined }))
    >> change (bind_name t.text (Static k)) >> give k

abbrev pub linked_static : Lexeme → Ty → Bool → Option ℕ → Doing ℕ
linked_static t of defined (Some k) = known_static t k of defined
linked_static t of defined None = new_static t of true defined

abbrev pub new_routine : Lexeme → Ty → Doing ℕ
new_routine t of = look >>= λ s.
    change (λ s. bind_name t.text (Routine (length s.routines))
    (record s {
      routines = s.routines ++ record { name = t; of = of; begun = false; body = None; used = None }
          ∷ [];
    })) >>
    give (length s.routines)

abbrev pub known_routine : ℕ → Ty → Doing ℕ
known_routine k of = change (change_routine k (λ f. record f { of = composite f.of of })) >> give k

abbrev pub linked_routine : Lexeme → Ty → Option Entity → Doing ℕ
linked_routine t of (Some (Routine k)) = known_routine k of
linked_routine t of (Some e) = give 0
linked_routine t of None = new_routine t of

abbrev pub new_local : Lexeme → Ty → Doing ℕ
new_local t of = look >>= λ s.
    change (λ s. bind_name t.text (Local (length s.locals) of)
    (record s { locals = s.locals ++ record { name = t; of = of; addressed = false } ∷ [] })) >>
    give (length s.locals)

-- ---- initializers of declared objects

abbrev pub no_items : Items
no_items = record { vars = []; actions = [] }

-- what stands behind a declarator: the initializer, if there is one, and its first byte
abbrev pub Behind : Type 0
Behind = Option (Reading × Pos)

abbrev pub has_any : Behind → Bool
has_any None = false
has_any (Some r) = true

-- the type is complete once the initializer is there, and within the limit
abbrev pub complete_now : Ty → Pos → Doing Unit
complete_now of p = look >>= λ s. need (is_complete s of) 132 p
    >> need (nat_le (extent_size (type_extent s.tags of)) size_limit) 140 p

abbrev pub static_of : Option StaticState → Ty
static_of None = Void
static_of (Some g) = g.of

abbrev pub fill_static : ℕ → Lexeme → Reading × Pos → Doing Unit
fill_static k t r = look >>= λ s.
    r.0.initializer is_start r.1 (static_of (slice_get s.statics k)) 0 >>= λ f.
    change (change_static k (λ g. record g { of = with_count g.of f.count })) >>
    start_slots f.slots >>= λ found. look >>= λ s.
    complete_now (static_of (slice_get s.statics k)) t.pos >>
    change (change_static k (λ g. record g { initial = Some (initial_bytes found.0 found.1, found.1) }))

abbrev pub init_static : ℕ → Lexeme → Behind → Doing Unit
init_static k t None = give tt
init_static k t (Some r) = fill_static k t r

abbrev pub init_action : ℕ → Pos → Slot → Action
init_action k p x = action (Init k x.at) (with_term x.value no_terms) no_actions p

-- a local gets the type with its length, and its initialisations have the place of its name
abbrev pub fill_local : ℕ → Lexeme → Ty → Reading × Pos → Doing (List Action)
fill_local k t of r =
    r.0.initializer (λ x. give tt) r.1 of 0 >>= λ f.
    let u = with_count of f.count in
    change (λ s. bind_name t.text (Local k u) (record s { locals = changed_at (λ v. record v { of = u }) s.locals k }))
    >>
    complete_now u t.pos >> look >>= λ s.
    give (map (init_action k t.pos) (every_slot s r.1 u f.slots))

abbrev pub init_local : ℕ → Lexeme → Ty → Behind → Doing (List Action)
init_local k t of None = give []
init_local k t of (Some r) = fill_local k t of r

-- ---- declarators with their initializers

-- whether a type may wait for its initializer: an array whose length is not known
abbrev pub is_open : Ty → Bool
is_open (Array t zero) = true
is_open t = false

abbrev pub declare_alias : Lexeme → Formed → Behind → Doing Items
declare_alias t f b = look >>= λ s.
    need (if at_file_scope s then alias_agrees (find_in (innermost s.scopes).names t.text) f.of else is_new s t.text)
    131 t.pos >>
    judge f false (has_any b) t.pos >> change (bind_name t.text (Alias f.of)) >> give no_items

-- a function at file scope; in a block none is declared
abbrev pub declare_function : Lexeme → Formed → Behind → Doing Items
declare_function t f b = look >>= λ s.
    need (if at_file_scope s then function_agrees s (find_in (innermost s.scopes).names t.text) t.text f.of false
    else is_new s t.text) 131 t.pos >>
    judge f false (has_any b || not (at_file_scope s)) t.pos >>
    linked_routine t f.of (find_in (innermost s.scopes).names t.text) >>= λ k. give no_items

-- An object at file scope may be completed later, unless it has an initializer
abbrev pub waits : State → Ty → Behind → Bool
waits s of b = is_complete s of || is_open of || not (has_any b)

abbrev pub is_external : Storage → Bool
is_external External = true
is_external s = false

abbrev pub declare_global : Storage → Lexeme → Formed → Behind → Doing Items
declare_global storage t f b = look >>= λ s.
    need (object_agrees s (find_in (innermost s.scopes).names t.text) t.text f.of (has_any b)) 131 t.pos >>
    judge f (not (waits s f.of b)) false t.pos >>
    linked_static t f.of (has_any b || not (is_external storage)) (linked s t.text) >>= λ k. init_static k t b
    >> give no_items

abbrev pub has_linkage : Option StaticState → Bool
has_linkage None = false
has_linkage (Some g) = g.linked

-- what a name of the block's scope may denote before: nothing, or an object with linkage, which may be declared again
-- (6.7p3)
abbrev pub may_be_external : State → Option Entity → Bool
may_be_external s None = true
may_be_external s (Some (Static k)) = has_linkage (slice_get s.statics k)
may_be_external s (Some e) = false

-- in a block, `extern` names an object of the file
abbrev pub declare_external : Lexeme → Formed → Behind → Doing Items
declare_external t f b = look >>= λ s.
    need (may_be_external s (find_in (innermost s.scopes).names t.text) && not (named_function s t.text)
    && object_agrees s None t.text f.of false) 131 t.pos >>
    judge f false (has_any b) t.pos >> linked_static t f.of false (linked s t.text) >>= λ k. give no_items

abbrev pub ready : State → Ty → Behind → Bool
ready s of b = is_complete s of || (is_open of && has_any b)

abbrev pub declare_internal : Lexeme → Formed → Behind → Doing Items
declare_internal t f b = look >>= λ s.
    need (is_new s t.text) 131 t.pos >> judge f (not (ready s f.of b)) false t.pos >>
    new_static t f.of false true >>= λ k. init_static k t b >> give no_items

abbrev pub declare_local : Lexeme → Formed → Behind → Doing Items
declare_local t f b = look >>= λ s.
    need (is_new s t.text) 131 t.pos >> judge f (not (ready s f.of b)) false t.pos >>
    new_local t f.of >>= λ k. init_local k t f.of b >>= λ xs. give (record { vars = k ∷ []; actions = xs })

abbrev pub declare_in_block : Storage → Lexeme → Formed → Behind → Doing Items
declare_in_block External t f b = declare_external t f b
declare_in_block Internal t f b = declare_internal t f b
declare_in_block storage t f b = declare_local t f b

abbrev pub declare_object : State → Storage → Lexeme → Formed → Behind → Doing Items
declare_object s storage t f b =
    (if is_function f.of then declare_function t f b
    else (if at_file_scope s then declare_global storage t f b else declare_in_block storage t f b))

abbrev pub declare : State → Storage → Lexeme → Formed → Behind → Doing Items
declare s Defining_type t f b = declare_alias t f b
declare s storage t f b = declare_object s storage t f b

abbrev pub declare_named : Specified → Derived → Option Lexeme → Behind → Doing Items
declare_named s d None b = refuse 120 s.first.pos
declare_named s d (Some t) b = look >>= λ st. declare st s.storage t (formed st s.of d.wraps) b

-- The name is in force in its own initializer (6.2.1p7)
unfoldable pub init_declarator : Syns → List Reading → Specified → Doing Items
init_declarator (more x nil) (r ∷ rs) s = r.derived >>= λ d. declare_named s d d.name None
init_declarator (more x (more y ys)) (r ∷ q ∷ rs) s =
    r.derived >>= λ d. declare_named s d d.name (Some (q, (first_token y).pos))
init_declarator xs rs s = refuse 120 s.first.pos

abbrev pub both : Items → Items → Items
both a b = record { vars = a.vars ++ b.vars; actions = a.actions ++ b.actions }

abbrev pub declare_all : Specified → List Reading → Doing Items
declare_all s [] = give no_items
declare_all s (r ∷ rs) = r.declared s >>= λ a. declare_all s rs >>= λ b. give (both a b)

abbrev pub is_alone : List Reading → Bool
is_alone [] = true
is_alone (r ∷ rs) = false

-- specifiers, and then declarators
unfoldable pub declaration : Pos → List Reading → Doing Items
declaration p [] = refuse 120 p
declaration p (r ∷ rs) = r.specified (is_alone rs) >>= λ s. declare_all s rs
