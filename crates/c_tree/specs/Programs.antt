-- The typing of a whole file (C11 6.9): from its syntax to a program, or to the first rule that fails.
use Rattle.std.specs.Prelude.{ℕ, zero, suc, ◌+◌, ℤ, pos, int_lt, Bool, true, false, not, ◌&&◌, ◌||◌, ◌==◌, nat_lt}
use Rattle.std.specs.Prelude.{if◌then◌else◌, List, [], ◌∷◌, ◌++◌, length, map, flat_map, Option, Some, None, Result, Ok}
use Rattle.std.specs.Prelude.{Err, codes, bytes_eq, slice_get}
use Rattle.std.specs.List.{position_or_len}
use Rattle.ck_base.specs.declared.positions.Pos.{Pos}
use Rattle.ck_base.specs.declared.positions.Span.{Span}
use Rattle.ck_base.specs.Tokens.{Lexeme}
use Rattle.c_tree.specs.declared.syntax.NodeKind.{NodeKind}
use Rattle.c_tree.specs.declared.syntax.NodeKind.TheVariants as Kinds
use Rattle.c_tree.specs.Syntax.{Syn, Syns, node, nil, more, first_token}
use Rattle.c_tree.specs.Types.{Ty, Function, no_types, int, bare, same, is_scalar, is_function, given_by}
use Rattle.c_tree.specs.Terms.{Shape, Global, Fun, Term, term, Terms, no_terms, with_term, Action, action, Actions}
use Rattle.c_tree.specs.Terms.{no_actions, with_action, Pointing, Object, Variable, Routine, Tag, Program, To_global}
use Rattle.c_tree.specs.Terms.{To_literal, To_function, Aim, numbers_from}
use Rattle.c_tree.specs.Scopes.{Entity, Alias, Library, Named, Part, Scope, Reach, All, Within, Aiming, Pending}
use Rattle.c_tree.specs.Scopes.{StaticState, LocalState, Body, RoutineState, TagState, State, Fault, Doing, give}
use Rattle.c_tree.specs.Scopes.{refuse, need, look, change, ◌>>=◌, ◌>>◌, find_in, innermost, leave, change_routine}
use Rattle.c_tree.specs.Scopes.{is_complete, has_extent, type_extent}
use Rattle.c_tree.specs.Libraries.{Service, services, builtin_name, signature, aliases}
use Rattle.c_tree.specs.Readings.{Specified, Storage, Defining_type, Param, Prototype, Wrap, Gives, Derived, Context}
use Rattle.c_tree.specs.Readings.{Slot, Filled, Reading}
use Rattle.c_tree.specs.Expressions.{expression_of, routine_type, may_be_given}
use Rattle.c_tree.specs.Declarators.{specifiers, typedef_name, record_specifier, enum_specifier, enumerator}
use Rattle.c_tree.specs.Declarators.{declarator_of, type_name, member_of, parameter_of, prototype_of, formed, judge}
use Rattle.c_tree.specs.Initializers.{takes_string, string_initializer, plain_initializer, braced_initializer}
use Rattle.c_tree.specs.Statics.{aim_length}
use Rattle.c_tree.specs.Declarations.{declaration, init_declarator, definition_agrees, linked_routine}
use Rattle.c_tree.specs.Statements.{all_items, block_action, case_label, statement_of}
use Rattle.c_tree.specs.Passed.{Names, passed_program, call_name, calls_in}

-- ---- function definitions (6.9.1)

-- the parameters, where the declarator itself is that of a function
abbrev pub own_prototype : List Wrap → Option Prototype
own_prototype [] = None
own_prototype (Gives p ∷ []) = Some p
own_prototype (w ∷ []) = None
own_prototype (w ∷ v ∷ ws) = own_prototype (v ∷ ws)

abbrev pub is_typedef : Storage → Bool
is_typedef Defining_type = true
is_typedef s = false

abbrev pub is_there : {A : Type 0} → Option A → Bool
is_there None = false
is_there (Some x) = true

-- a parameter without a name has an empty one at its first byte
abbrev pub parameter_name : Param → Option Lexeme → Lexeme
parameter_name p (Some t) = t
parameter_name p None = (let t = p.at in
    record t { text = []; span = record { start = t.span.start; end = t.span.start } })

abbrev pub parameter_local : Param → LocalState
parameter_local p = record { name = parameter_name p p.name; of = p.of; addressed = false }

abbrev pub params_of : Option Prototype → List Param
params_of None = []
params_of (Some p) = p.params

abbrev pub scope_of : Option Prototype → Scope
scope_of None = record { names = []; tags = [] }
scope_of (Some p) = p.scope

abbrev pub body_context : Ty → Context
body_context t = record { gives = given_by t; in_loop = false; breakable = false }

-- p3: a function that is defined gives void or what is complete
abbrev pub gives_complete : State → Ty → Bool
gives_complete s (Function r ps) = may_be_given s r
gives_complete s t = true

-- 6.7.6.3p4: and its parameters are complete
abbrev pub first_incomplete : List TagState → List Param → Option Pos
first_incomplete tags [] = None
first_incomplete tags (p ∷ ps) =
    (if has_extent (type_extent tags p.of) then first_incomplete tags ps else Some p.at.pos)

abbrev pub refused_at : ℕ → Option Pos → Doing Unit
refused_at code None = give tt
refused_at code (Some p) = refuse code p

-- The parameters and the outermost block of the body are one scope (6.2.1p4)
abbrev pub define_body : ℕ → Lexeme → Ty → Option Prototype → Syn → Reading → Doing Unit
define_body k t of p block r =
    change (λ s. change_routine k (λ f. record f { name = t; begun = true })
    (record s { locals = map parameter_local (params_of p); scopes = scope_of p ∷ s.scopes })) >>
    look >>= λ s. refused_at 132 (first_incomplete s.tags (params_of p)) >>
    r.body (body_context of) >>= λ i. look >>= λ s.
    let body : Body = record {
      params = numbers_from 0 (length (params_of p));
      vars = s.locals;
      action = block_action i (first_token block).pos;
    } in
    leave >> change (λ s. change_routine k (λ f. record f { body = Some body }) (record s { locals = [] }))

abbrev pub define_named : Specified → Derived → Option Lexeme → Syn → Reading → Doing Unit
define_named s d None block r = refuse 120 s.first.pos
define_named s d (Some t) block r = look >>= λ st.
    let f = formed st s.of d.wraps in
    let e = find_in (innermost st.scopes).names t.text in
    let p = own_prototype d.wraps in
    need (definition_agrees st e t.text f.of) 131 t.pos >>
    judge f (not (gives_complete st f.of)) (is_typedef s.storage || (not (is_function f.of) || not (is_there p))) t.pos
    >>
    linked_routine t f.of e >>= λ k. look >>= λ now.
    define_body k t (routine_type (slice_get now.routines k)) p block r

unfoldable pub function_definition : Lexeme → Syns → List Reading → Doing Unit
function_definition t (more x (more y (more z nil))) (r ∷ q ∷ p ∷ []) =
    r.specified false >>= λ s. q.derived >>= λ d. define_named s d d.name z p
function_definition t xs rs = refuse 120 t.pos

-- ---- the parts of the syntax

abbrev pub is_text : Syns → Bool
is_text (more (node Kinds.Text t ys) nil) = true
is_text xs = false

abbrev pub type_of_kind : NodeKind → Lexeme → Syns → List Reading → Bool → Doing Ty
type_of_kind Kinds.TypedefName t xs rs alone = typedef_name t
type_of_kind (Kinds.Record k) t xs rs alone = record_specifier k alone t xs rs
type_of_kind Kinds.Enum t xs rs alone = enum_specifier xs rs
type_of_kind Kinds.TypeName t xs rs alone = type_name t xs rs
type_of_kind k t xs rs alone = refuse 120 t.pos

abbrev pub external_of : NodeKind → Lexeme → Syns → List Reading → Doing Unit
external_of Kinds.FunctionDefinition t xs rs = function_definition t xs rs
external_of Kinds.Declaration t xs rs = declaration t.pos rs >>= λ i. give tt
external_of k t xs rs = give tt

-- a string that fills an array of characters, braces, or one expression
abbrev pub initializer_of : NodeKind → Lexeme → Syns → List Reading → (Slot → Doing Unit) → Pos → Ty → ℕ → Doing Filled
initializer_of Kinds.BracedInitializer t xs rs asked whole of at =
    braced_initializer t (is_text xs) rs asked whole of at
initializer_of Kinds.Text t xs rs asked whole of at =
    (if takes_string of then string_initializer t xs whole of at
    else plain_initializer (expression_of Kinds.Text t xs rs) asked whole of at)
initializer_of k t xs rs asked whole of at = plain_initializer (expression_of k t xs rs) asked whole of at

abbrev pub reading_of : NodeKind → Lexeme → Syns → List Reading → Reading
reading_of k t xs rs = record {
  operand = expression_of k t xs rs;
  type = type_of_kind k t xs rs;
  specified = λ alone. specifiers alone t xs rs;
  derived = declarator_of k t xs rs;
  prototype = prototype_of rs;
  parameter = parameter_of t rs;
  members = member_of t xs rs;
  enumerator = enumerator t rs;
  initializer = initializer_of k t xs rs;
  declared = init_declarator xs rs;
  item = statement_of k t xs rs;
  body = λ c. all_items c rs;
  label = case_label rs;
  external = external_of k t xs rs;
}

-- Each part of the syntax by its kind, its token and its parts
unfoldable mutual
  pub reading : Syn → Reading
  reading (node k t xs) = reading_of k t xs (readings xs)

  pub readings : Syns → List Reading
  readings nil = []
  readings (more x xs) = reading x ∷ readings xs

-- ---- what is declared before the file

abbrev pub alias_name : List ℕ × Ty → Named Entity
alias_name a = record { name = a.0; is = Alias a.1 }

-- an intrinsic has two names, and a library function one
abbrev pub service_names : ℕ → Service → List (Named Entity)
service_names k f =
    record { name = f.name; is = Library k (signature f) }
    ∷ (if nat_lt k 4 then [] else record { name = builtin_name f.name; is = Library k (signature f) } ∷ [])

abbrev pub names_of_services : ℕ → List Service → List (Named Entity)
names_of_services k [] = []
names_of_services k (f ∷ fs) = service_names k f ++ names_of_services (k + 1) fs

unfoldable pub file_scope : Scope
file_scope = record { names = map alias_name aliases ++ names_of_services 0 services; tags = [] }

abbrev pub beginning : State
beginning = record {
  scopes = file_scope ∷ [];
  tags = [];
  statics = [];
  routines = [];
  texts = [];
  locals = [];
  pending = [];
}

-- ---- the end of the file (6.9.2, 6.9p5)

abbrev pub fault : ℕ → Pos → Fault
fault code place = record { code = code; place = place }

-- used and never defined
abbrev pub undefined_use : Bool → Option Pos → List Fault
undefined_use true p = []
undefined_use false None = []
undefined_use false (Some p) = fault 130 p ∷ []

abbrev pub static_faults : State → StaticState → List Fault
static_faults s g = (if is_complete s g.of then [] else fault 132 g.name.pos ∷ []) ++ undefined_use g.defined g.used

abbrev pub routine_faults : RoutineState → List Fault
routine_faults f = undefined_use (is_there f.body) f.used

-- an address that was outside an array whose length was not known then
abbrev pub reaches : Option ℕ → ℤ → Bool
reaches None z = true
reaches (Some n) z = not (int_lt (pos n) z)

abbrev pub pending_faults : State → Pending → List Fault
pending_faults s p = (if reaches (aim_length s (To_global p.static)) p.least then [] else fault 134 p.place ∷ [])

abbrev pub last_faults : State → List Fault
last_faults s = flat_map (static_faults s) s.statics ++ flat_map routine_faults s.routines
    ++ flat_map (pending_faults s) s.pending

abbrev pub stands_before : Pos → Pos → Bool
stands_before p q = nat_lt p.line q.line || (p.line == q.line && nat_lt p.col q.col)

abbrev pub earlier : Fault → Option Fault → Option Fault
earlier f None = Some f
earlier f (Some g) = (if stands_before g.place f.place then Some g else Some f)

-- the one whose place is the first in the file
abbrev pub earliest : List Fault → Option Fault
earliest [] = None
earliest (f ∷ fs) = earlier f (earliest fs)

-- ---- the program

-- Objects and functions that are not defined, and so are not used, have no number: the others are counted
abbrev pub count_before : {A : Type 0} → (A → Bool) → List A → ℕ → ℕ
count_before test [] k = 0
count_before test (x ∷ xs) zero = 0
count_before test (x ∷ xs) (suc k) = (if test x then count_before test xs k + 1 else count_before test xs k)

abbrev pub Numbers : Type 0
Numbers = (ℕ → ℕ) × (ℕ → ℕ)

abbrev pub numbers_of : State → Numbers
numbers_of s = (
  count_before (λ (g : StaticState). g.defined) s.statics,
  count_before (λ (f : RoutineState). is_there f.body) s.routines,
)

abbrev pub shape_with : Numbers → Shape → Shape
shape_with n (Global k) = Global (n.0 k)
shape_with n (Fun k) = Fun (n.1 k)
shape_with n x = x

abbrev mutual
  pub term_with : Numbers → Term → Term
  term_with n (term x xs t p) = term (shape_with n x) (terms_with n xs) t p

  pub terms_with : Numbers → Terms → Terms
  terms_with n no_terms = no_terms
  terms_with n (with_term x xs) = with_term (term_with n x) (terms_with n xs)

abbrev mutual
  pub action_with : Numbers → Action → Action
  action_with n (action f xs ys p) = action f (terms_with n xs) (actions_with n ys) p

  pub actions_with : Numbers → Actions → Actions
  actions_with n no_actions = no_actions
  actions_with n (with_action x xs) = with_action (action_with n x) (actions_with n xs)

abbrev pub aim_with : Numbers → Aim → Aim
aim_with n (To_global k) = To_global (n.0 k)
aim_with n (To_function k) = To_function (n.1 k)
aim_with n (To_literal k) = To_literal k

-- the bounds of an initial pointer. Those of a function are the text's, and have no length here
abbrev pub reach_of : Option ℕ → Reach → ℕ × ℕ
reach_of (Some n) All = (0, n)
reach_of None All = (0, 0)
reach_of n (Within low length) = (low, length)

abbrev pub pointing_of : State → Aiming → Pointing
pointing_of s a =
    let r = reach_of (aim_length s a.aim) a.reach in
    record { at = a.at; aim = aim_with (numbers_of s) a.aim; low = r.0; length = r.1; offset = a.offset }

abbrev pub initial_of : State → Option (List ℕ × List Aiming) → List ℕ × List Pointing
initial_of s None = ([], [])
initial_of s (Some i) = (i.0, map (pointing_of s) i.1)

abbrev pub object_of : State → StaticState → List Object
object_of s g =
    (if g.defined then (let i = initial_of s g.initial in
    record { name = g.name.span; place = g.name.pos; of = g.of; bytes = i.0; links = i.1 } ∷ []) else [])

-- a local is no object where it is a scalar whose address is never taken
abbrev pub variable_of : LocalState → Variable
variable_of v = record {
  name = v.name.span;
  place = v.name.pos;
  of = v.of;
  simple = is_scalar (bare v.of) && not v.addressed;
}

abbrev pub with_body : State → RoutineState → Option Body → List Routine
with_body s f None = []
with_body s f (Some b) =
    record {
      name = f.name.span;
      place = f.name.pos;
      of = f.of;
      params = b.params;
      vars = map variable_of b.vars;
      body = action_with (numbers_of s) b.action;
    } ∷ []

abbrev pub routine_of : State → RoutineState → List Routine
routine_of s f = with_body s f f.body

abbrev pub member_of_tag : Part → Span × Ty
member_of_tag m = (m.name.span, m.of)

abbrev pub members_of_tag : Option (List Part) → Option (List (Span × Ty))
members_of_tag None = None
members_of_tag (Some ms) = Some (map member_of_tag ms)

abbrev pub tag_of : TagState → Tag
tag_of t = record { kind = t.kind; members = members_of_tag t.members }

-- 5.1.2.2.1: `main` is defined, as a function of type `int(void)`
abbrev pub is_main : RoutineState → Bool
is_main f = is_there f.body && bytes_eq f.name.text (codes "main") && same f.of (Function int no_types)

unfoldable pub program_of : State → Program
program_of s = record {
  tags = map tag_of s.tags;
  objects = flat_map (object_of s) s.statics;
  texts = s.texts;
  routines = flat_map (routine_of s) s.routines;
  main = (numbers_of s).1 (position_or_len is_main s.routines);
}

abbrev pub has_main : List RoutineState → Bool
has_main [] = false
has_main (f ∷ fs) = is_main f || has_main fs

abbrev pub file_begins : Pos
file_begins = record { line = 1; col = 1 }

-- Structs and unions go by pointers in the end
abbrev pub ended : Names → Option Fault → State → Result Program Fault
ended names (Some f) s = Err f
ended names None s = (if has_main s.routines then Ok (passed_program names (program_of s))
    else Err (fault 135 file_begins))

abbrev pub all_externals : List Reading → Doing Unit
all_externals [] = give tt
all_externals (r ∷ rs) = r.external >> all_externals rs

abbrev pub finished : Names → Result (Unit × State) Fault → Result Program Fault
finished names (Ok x) = ended names (earliest (last_faults x.1)) x.1
finished names (Err f) = Err f

abbrev pub parts : Syn → Syns
parts (node k t xs) = xs

-- The program that a file is, or the first rule that fails
unfoldable pub typing : Syn → Result Program Fault
typing x = finished (call_name (calls_in x)) (all_externals (readings (parts x)) beginning)
