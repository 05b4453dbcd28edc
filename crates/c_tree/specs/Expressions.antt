-- The typing of expressions (C11 6.5): what each construct asks of its operands, and the typed expression that it
-- gives. The operands are typed before, from left to right. Where a construct fails several rules, the lowest code
-- decides: it is asked for first.
use Rattle.std.specs.Prelude.{ℕ, ◌+◌, Bool, true, false, not, ◌&&◌, ◌||◌, ◌==◌, nat_le, if◌then◌else◌, List, [], ◌∷◌}
use Rattle.std.specs.Prelude.{◌++◌, length, Option, Some, None, bytes_eq, slice_get}
use Rattle.ck_base.specs.declared.positions.Pos.{Pos}
use Rattle.ck_base.specs.Tokens.{Lexeme}
use Rattle.ck_int.specs.declared.kinds.IntOp.{IntOp}
use Rattle.ck_int.specs.declared.kinds.IntOp.TheVariants.{Add, Sub, Shl, Shr}
use Rattle.ck_int.specs.declared.kinds.CmpOp.{CmpOp}
use Rattle.ck_int.specs.Kinds.{kept_of}
use Rattle.c_tree.specs.declared.typed.UnaryOp.{UnaryOp}
use Rattle.c_tree.specs.declared.typed.UnaryOp.TheVariants as unary
use Rattle.c_tree.specs.declared.syntax.NodeKind.{NodeKind}
use Rattle.c_tree.specs.declared.syntax.NodeKind.TheVariants as Kinds
use Rattle.c_tree.specs.declared.syntax.InfixOperator.{InfixOperator}
use Rattle.c_tree.specs.declared.syntax.InfixOperator.TheVariants as infixes
use Rattle.c_tree.specs.declared.syntax.PrefixOperator.{PrefixOperator}
use Rattle.c_tree.specs.declared.syntax.PrefixOperator.TheVariants as prefixes
use Rattle.c_tree.specs.declared.syntax.StepOperator.{StepOperator}
use Rattle.c_tree.specs.declared.syntax.StepOperator.TheVariants.{Increment, Decrement}
use Rattle.c_tree.specs.declared.syntax.Selection.{Selection}
use Rattle.c_tree.specs.declared.syntax.Selection.TheVariants.{Direct, Indirect}
use Rattle.c_tree.specs.Layout.{size_limit}
use Rattle.c_tree.specs.Syntax.{Syn, Syns, node, nil, more, first_token}
use Rattle.c_tree.specs.Types.{Ty, Void, Int, Cap, Pointer, Array, Tagged, Function, Tys, no_types, also, char, int}
use Rattle.c_tree.specs.Types.{long, unsigned_long, qualified, bare, bare_elements, is_const, is_integer, is_pointer}
use Rattle.c_tree.specs.Types.{is_scalar, is_void, is_array, is_function, is_tagged, is_capability, same}
use Rattle.c_tree.specs.Types.{compatible_bare, composite, common, promoted}
use Rattle.c_tree.specs.Terms.{Shape, Constant, Literal, Var, Global, Fun, Deref, Member, Address, Convert, Unary, Step}
use Rattle.c_tree.specs.Terms.{Arithmetic, Capability, Plus, Difference, Compare, And, Or, Comma, Assign, Compound}
use Rattle.c_tree.specs.Terms.{Conditional, Call, Library, Term, term, no_terms, with_term, terms, type_of, leaf, step}
use Rattle.c_tree.specs.Terms.{join, join_three}
use Rattle.c_tree.specs.Scopes.{Entity, Local, Static, Routine, Alias, Enumerator, Part, TagState, StaticState}
use Rattle.c_tree.specs.Scopes.{RoutineState, State, Doing, give, refuse, need, look, change, some_or, ◌>>=◌, ◌>>◌}
use Rattle.c_tree.specs.Scopes.{find_name, use_static, use_routine, take_address, is_complete, size}
use Rattle.c_tree.specs.Scopes as scopes
use Rattle.c_tree.specs.Values.{integer_of, number_type, characters_of, character_value}
use Rattle.c_tree.specs.Constants.{is_null_constant}
use Rattle.c_tree.specs.Conversions.{Operand, operand_type, is_place, value, converted_term, assigned}
use Rattle.c_tree.specs.Readings.{Reading}
use Rattle.c_tree.specs.Libraries.{Asked, Any_capability, A, Given, Of, As_argument, Service, services}

-- what a construct gives, from its first byte on
abbrev pub gives : Term → Pos → Doing Operand
gives x first = give (record { is = x; first = first })

-- ---- names and literals (6.5.1)

abbrev pub static_type : Option StaticState → Ty
static_type None = Void
static_type (Some g) = g.of

abbrev pub routine_type : Option RoutineState → Ty
routine_type None = Void
routine_type (Some f) = f.of

-- A library function or intrinsic stands in a direct call only
abbrev pub denoted : Option Entity → Lexeme → Doing Operand
denoted None t = refuse 130 t.pos
denoted (Some (Local k of)) t = gives (leaf (Var k) of t.pos) t.pos
denoted (Some (Static k)) t =
    change (use_static k t.pos) >> look
    >>= λ s. gives (leaf (Global k) (static_type (slice_get s.statics k)) t.pos) t.pos
denoted (Some (Routine k)) t =
    change (use_routine k t.pos) >> look
    >>= λ s. gives (leaf (Fun k) (routine_type (slice_get s.routines k)) t.pos) t.pos
denoted (Some (Alias of)) t = refuse 133 t.pos
denoted (Some (Enumerator n)) t = gives (leaf (Constant (kept_of n)) int t.pos) t.pos
denoted (Some (scopes.Library k of)) t = refuse 133 t.pos

unfoldable pub named : Lexeme → Doing Operand
named t = look >>= λ s. denoted (find_name s.scopes t.text) t

abbrev pub number : Lexeme → Doing Operand
number t = gives (leaf (Constant (integer_of t.text).value) (number_type t.text) t.pos) t.pos

abbrev pub character : Lexeme → Doing Operand
character t = gives (leaf (Constant (character_value t.text)) int t.pos) t.pos

-- 6.4.5p5, p6: adjacent literals are one, and a zero byte follows
abbrev pub pieces : Syns → List ℕ
pieces nil = []
pieces (more (node k t ys) xs) = characters_of t.text ++ pieces xs

abbrev pub text_bytes : Lexeme → Syns → List ℕ
text_bytes t xs = characters_of t.text ++ pieces xs ++ 0 ∷ []

-- Each literal is an object of its own, with an array type, which is not over the limit
unfoldable pub text : Lexeme → Syns → Doing Operand
text t xs = look >>= λ s.
    need (nat_le (length (text_bytes t xs)) size_limit) 140 t.pos >>
    change (λ s. record s { texts = s.texts ++ record { place = t.pos; bytes = text_bytes t xs } ∷ [] }) >>
    gives (leaf (Literal (length s.texts)) (Array char (length (text_bytes t xs))) t.pos) t.pos

-- ---- integers (6.5.3.3, 6.5.5, 6.5.7, 6.5.10 to 6.5.12)

-- whether a capability integer was converted from a plain integer, perhaps through capability integers
abbrev pub plain_source : Ty → Bool → Bool
plain_source (Int k n) deeper = true
plain_source (Cap s) deeper = deeper
plain_source t deeper = false

abbrev pub from_plain : Term → Bool
from_plain (term Convert (with_term x no_terms) (Cap s) p) = plain_source (bare (type_of x)) (from_plain x)
from_plain x = false

-- the result of an operation on capability integers derives from the operand that was not converted from a plain
-- integer; where both or neither were, from the left one
abbrev pub from_right : Term → Term → Bool
from_right a b = from_plain a && not (from_plain b)

abbrev pub integer_join : IntOp → Term → Term → Ty → Pos → Term
integer_join o a b (Cap s) p = join (Capability o (from_right a b)) a b (Cap s) p
integer_join o a b t p = join (Arithmetic o) a b t p

-- two operands of the common type
abbrev pub arithmetic : IntOp → Operand → Operand → Pos → Doing Operand
arithmetic o a b p =
    let t = common (operand_type a) (operand_type b) in
    need (is_integer (operand_type a) && is_integer (operand_type b)) 133 a.first >>
    gives (integer_join o (converted_term t a.is) (converted_term t b.is) t p) a.first

-- 6.5.7p3: each operand of a shift is promoted on its own, and the result has the type of the left one, from which it
-- derives
abbrev pub shift_join : IntOp → Term → Term → Ty → Pos → Term
shift_join o a b (Cap s) p = join (Capability o false) a b (Cap s) p
shift_join o a b t p = join (Arithmetic o) a b t p

abbrev pub shift : IntOp → Operand → Operand → Pos → Doing Operand
shift o a b p =
    let t = promoted (operand_type a) in
    need (is_integer (operand_type a) && is_integer (operand_type b)) 133 a.first >>
    gives (shift_join o (converted_term t a.is) (converted_term (promoted (operand_type b)) b.is) t p) a.first

abbrev pub unary_on : UnaryOp → Operand → Pos → Doing Operand
unary_on unary.LogicalNot a p =
    need (is_scalar (operand_type a)) 133 p >> gives (step (Unary unary.LogicalNot) a.is int p) p
unary_on o a p =
    let t = promoted (operand_type a) in
    need (is_integer (operand_type a)) 133 p >> gives (step (Unary o) (converted_term t a.is) t p) p

-- ---- pointers (6.5.6)

-- what a pointer is moved over: a complete object type; a function is none, and of others the size is not known
abbrev pub is_counted : State → Ty → Bool
is_counted s (Pointer t) = is_function t || is_complete s t
is_counted s t = true

abbrev pub points_to_function : Ty → Bool
points_to_function (Pointer t) = is_function t
points_to_function t = false

abbrev pub moves : Ty → Ty → Bool
moves (Pointer t) u = not (is_function t) && is_integer u
moves t u = false

-- a pointer and an integer, which is promoted
abbrev pub promoted_term : Term → Term
promoted_term x = converted_term (promoted (type_of x)) x

abbrev pub sum_of : Operand → Operand → Pos → Doing Operand
sum_of a b p =
    (if moves (operand_type a) (operand_type b)
    then gives (join (Plus false) a.is (promoted_term b.is) (operand_type a) p) a.first
    else (if moves (operand_type b) (operand_type a)
    then gives (join (Plus false) (promoted_term a.is) b.is (operand_type b) p) a.first
    else arithmetic Add a b p))

abbrev pub sum : Operand → Operand → Pos → Doing Operand
sum a b p = look >>= λ s.
    need (not (is_pointer (operand_type a) && is_integer (operand_type b)) || is_counted s (operand_type a)) 132 a.first
    >>
    need (not (is_integer (operand_type a) && is_pointer (operand_type b)) || is_counted s (operand_type b)) 132 a.first
    >>
    sum_of a b p

-- 6.5.6p3: pointers to compatible complete objects
abbrev pub differ : Ty → Ty → Bool
differ (Pointer s) (Pointer t) = not (is_function s) && compatible_bare s t
differ s t = false

abbrev pub difference_of : Operand → Operand → Pos → Doing Operand
difference_of a b p =
    (if moves (operand_type a) (operand_type b)
    then gives (join (Plus true) a.is (promoted_term b.is) (operand_type a) p) a.first
    else (if differ (operand_type a) (operand_type b) then gives (join Difference a.is b.is long p) a.first
    else arithmetic Sub a b p))

abbrev pub difference : Operand → Operand → Pos → Doing Operand
difference a b p = look >>= λ s.
    need (not (is_pointer (operand_type a) && is_scalar (operand_type b)) || is_counted s (operand_type a)) 132 a.first
    >>
    need (not (is_pointer (operand_type a) && is_pointer (operand_type b)) || is_counted s (operand_type b)) 132 a.first
    >>
    difference_of a b p

abbrev pub int_join : IntOp → Operand → Operand → Pos → Doing Operand
int_join Add a b p = sum a b p
int_join Sub a b p = difference a b p
int_join Shl a b p = shift Shl a b p
int_join Shr a b p = shift Shr a b p
int_join o a b p = arithmetic o a b p

-- ---- comparison (6.5.8, 6.5.9)

abbrev pub is_void_pointer : Ty → Bool
is_void_pointer (Pointer t) = is_void (bare t)
is_void_pointer t = false

abbrev pub both_agree : Ty → Ty → Bool
both_agree (Pointer s) (Pointer t) = compatible_bare s t
both_agree s t = false

-- Two integers; a null pointer constant, which is converted to the other pointer's type; two pointers to compatible
-- types; or a pointer to void, to whose type the other pointer is converted
abbrev pub compared : CmpOp → Operand → Operand → Pos → Doing Operand
compared o a b p =
    let s = operand_type a in
    let t = operand_type b in
    let with : Term → Term → Doing Operand = λ x y. gives (join (Compare o) x y int p) a.first in
    (if is_integer s && is_integer t then with (converted_term (common s t) a.is) (converted_term (common s t) b.is)
    else (if is_pointer s && is_null_constant b.is then with a.is (converted_term s b.is)
    else (if is_pointer t && is_null_constant a.is then with (converted_term t a.is) b.is
    else (if both_agree s t then with a.is b.is
    else (if is_pointer s && is_void_pointer t then with (converted_term t a.is) b.is
    else (if is_void_pointer s && is_pointer t then with a.is (converted_term s b.is)
    else refuse 133 a.first))))))

-- ---- logic (6.5.13, 6.5.14)

abbrev pub logical : Shape → Operand → Operand → Pos → Doing Operand
logical n a b p = need (is_scalar (operand_type a) && is_scalar (operand_type b)) 133 a.first
    >> gives (join n a.is b.is int p) a.first

-- a condition (6.8.4.1p1)
abbrev pub condition : Operand → Doing Term
condition a = need (is_scalar (operand_type a)) 133 a.first >> give a.is

abbrev pub infix_join : InfixOperator → Operand → Operand → Pos → Doing Operand
infix_join (infixes.Int o) a b p = int_join o a b p
infix_join (infixes.Compare o) a b p = compared o a b p
infix_join infixes.And a b p = logical And a b p
infix_join infixes.Or a b p = logical Or a b p
infix_join infixes.Comma a b p = gives (join Comma a.is b.is (operand_type b) p) a.first

-- ---- the conditional operator (6.5.15)

-- p6: what two pointers point to has the qualifiers of both
abbrev pub with_const_of : Ty → Ty → Ty → Ty
with_const_of s t u = (if is_const s || is_const t then qualified u else u)

-- the type of two pointers that agree, and where one of them points to void
abbrev pub pointer_arms : Ty → Ty → Option Ty
pointer_arms (Pointer s) (Pointer t) =
    (if compatible_bare s t then Some (Pointer (with_const_of s t (composite (bare_elements s) (bare_elements t))))
    else (if is_void (bare s) || is_void (bare t) then Some (Pointer (with_const_of s t Void)) else None))
pointer_arms s t = None

abbrev pub arms_type : Operand → Operand → Option Ty
arms_type b c =
    let s = operand_type b in
    let t = operand_type c in
    (if is_integer s && is_integer t then Some (common s t)
    else (if is_void s && is_void t then Some Void
    else (if is_tagged s && same s t then Some s
    else (if is_pointer s && is_null_constant c.is then Some s
    else (if is_pointer t && is_null_constant b.is then Some t
    else pointer_arms s t)))))

abbrev pub conditional : Operand → Operand → Operand → Pos → Doing Operand
conditional a b c p =
    need (is_scalar (operand_type a)) 133 a.first >>
    some_or (arms_type b c) 133 a.first >>= λ t.
    gives (join_three Conditional a.is (converted_term t b.is) (converted_term t c.is) t p) a.first

-- ---- assignment (6.5.16)

-- 6.3.2.1p1: a place that may be written
abbrev pub is_modifiable : Term → Bool
is_modifiable x = is_place x && not (is_const (type_of x)) && not (is_array (type_of x))
    && not (is_function (type_of x))

abbrev pub assign : Operand → Operand → Pos → Doing Operand
assign a b p =
    need (is_modifiable a.is) 133 a.first >>
    assigned (operand_type a) b >>= λ y.
    gives (join Assign a.is y (bare (operand_type a)) p) a.first

-- The type in which `a op= b` is computed, and its right operand (6.5.16.2)
abbrev pub is_additive : IntOp → Bool
is_additive Add = true
is_additive Sub = true
is_additive o = false

abbrev pub is_shift : IntOp → Bool
is_shift Shl = true
is_shift Shr = true
is_shift o = false

abbrev pub computed_in : IntOp → Ty → Ty → Ty
computed_in o (Pointer s) t = Pointer s
computed_in o s t = (if is_shift o then promoted s else common s t)

abbrev pub right_of : IntOp → Ty → Term → Term
right_of o (Pointer s) x = promoted_term x
right_of o s x = (if is_shift o then promoted_term x else converted_term (common s (type_of x)) x)

abbrev pub compounds : IntOp → Ty → Ty → Bool
compounds o s t = (is_additive o && moves s t) || (is_integer s && is_integer t)

abbrev pub compound : IntOp → Operand → Operand → Pos → Doing Operand
compound o a b p = look >>= λ st.
    let s = bare (operand_type a) in
    let t = operand_type b in
    need (not (is_additive o && is_pointer s && is_integer t) || is_counted st s) 132 a.first >>
    need (is_modifiable a.is && compounds o s t) 133 a.first >>
    gives (join (Compound o (computed_in o s t)) a.is (right_of o s b.is) s p) a.first

-- 6.5.2.4, 6.5.3.1: a step, by one up or down
abbrev pub increments : StepOperator → Bool
increments Increment = true
increments Decrement = false

abbrev pub stepped : StepOperator → Bool → Operand → Pos → Pos → Doing Operand
stepped o in_front a p first = look >>= λ s.
    let t = bare (operand_type a) in
    need (is_counted s t) 132 first >>
    need (is_modifiable a.is && is_scalar t && not (points_to_function t)) 133 first >>
    gives (step (Step (increments o) in_front) a.is t p) first

-- ---- addresses and places (6.5.3.2, 6.5.2.1, 6.5.2.3)

abbrev pub taken : Term → State → State
taken (term (Var k) xs t p) s = take_address k s
taken x s = s

abbrev pub address : Operand → Pos → Doing Operand
address a p =
    need (is_place a.is || is_function (operand_type a)) 133 p >>
    change (taken a.is) >>
    gives (step Address a.is (Pointer (operand_type a)) p) p

-- what a pointer points to: a complete object or a function
abbrev pub pointed : Ty → Pos → Doing Ty
pointed (Pointer t) first = look >>= λ s. need (is_function t || is_complete s t) 132 first >> give t
pointed t first = refuse 133 first

abbrev pub dereference : Operand → Pos → Pos → Doing Operand
dereference a p first = pointed (operand_type a) first >>= λ t. gives (step Deref a.is t p) first

-- 6.5.2.1p2: `a[b]` is `*(a + b)`
abbrev pub index : Operand → Operand → Pos → Doing Operand
index a b p = sum a b p >>= λ x. dereference x p a.first

-- the number and the type of a member
abbrev pub member_from : ℕ → List Part → List ℕ → Option (ℕ × Ty)
member_from k [] name = None
member_from k (m ∷ ms) name = (if bytes_eq m.name.text name then Some (k, m.of) else member_from (k + 1) ms name)

abbrev pub parts_of : Option TagState → Option (List Part)
parts_of None = None
parts_of (Some t) = t.members

-- the members of a complete struct or union
abbrev pub members_in : State → Ty → Pos → Doing (List Part)
members_in s (Tagged n) first = some_or (parts_of (slice_get s.tags n)) 132 first
members_in s t first = refuse 133 first

-- 6.5.2.3p3: a member of a qualified struct or union is so qualified
abbrev pub as_qualified : Ty → Ty → Ty
as_qualified s t = (if is_const s then qualified t else t)

abbrev pub member : Operand → List ℕ → Pos → Doing Operand
member a name p = look >>= λ s.
    members_in s (bare (operand_type a)) a.first >>= λ ms.
    some_or (member_from 0 ms name) 133 a.first >>= λ m.
    gives (step (Member m.0) a.is (as_qualified (operand_type a) m.1) p) a.first

-- `p->m` is `(*p).m`
abbrev pub member_behind : Operand → List ℕ → Pos → Doing Operand
member_behind a name p = dereference a p a.first >>= λ x. member x name p

-- ---- casts (6.5.4)

abbrev pub casts : Ty → Ty → Bool
casts t s = is_void t || (is_scalar t && is_scalar s)

abbrev pub cast : Ty → Operand → Pos → Doing Operand
cast t a p = need (casts (bare t) (operand_type a)) 133 p >> gives (step Convert a.is (bare t) p) p

-- ---- sizeof (6.5.3.4)

abbrev pub sized : Ty → Pos → Doing Operand
sized t p = look >>= λ s.
    need (is_complete s t) 132 p >>
    gives (leaf (Constant (size s t)) unsigned_long p) p

-- The operand is not evaluated: it makes no literal, uses nothing and takes no address. What it declares stays
abbrev pub unevaluated : {B : Type 0} → Doing B → Doing B
unevaluated d = look >>= λ old. d >>= λ a.
    change (λ s. record s { texts = old.texts; statics = old.statics; routines = old.routines; locals = old.locals })
    >> give a

-- ---- calls (6.5.2.2)

-- Each argument as by assignment to its parameter's type, as far as there are both; then there must be as many of both
abbrev pub arguments : Tys → List Operand → Doing (List Term)
arguments (also t ts) (x ∷ xs) = assigned t x >>= λ y. arguments ts xs >>= λ ys. give (y ∷ ys)
arguments ts xs = give []

abbrev pub many : Tys → ℕ
many no_types = 0
many (also t ts) = many ts + 1

abbrev pub call_of : Ty → Operand → List Operand → Pos → Doing Operand
call_of (Pointer (Function r ps)) f xs p =
    arguments ps xs >>= λ ys.
    need (length xs == many ps) 136 f.first >>
    gives (term Call (with_term f.is (terms ys)) (bare r) p) f.first
call_of t f xs p = refuse 133 f.first

-- p1, p4: what a function gives is void or complete, and what it takes is complete
abbrev pub may_be_given : State → Ty → Bool
may_be_given s t = is_void (bare t) || is_complete s t

abbrev pub all_complete : State → Tys → Bool
all_complete s no_types = true
all_complete s (also t ts) = is_complete s t && all_complete s ts

abbrev pub is_callable : State → Ty → Bool
is_callable s (Pointer (Function r ps)) = may_be_given s r && all_complete s ps
is_callable s t = true

abbrev pub call : Operand → List Operand → Pos → Doing Operand
call f xs p = look >>= λ s. need (is_callable s (operand_type f)) 132 f.first >> call_of (operand_type f) f xs p

abbrev pub asked : Asked → Operand → Doing Term
asked Any_capability x = need (is_capability (operand_type x)) 133 x.first >> give x.is
asked (A t) x = assigned t x

abbrev pub all_asked : List Asked → List Operand → Doing (List Term)
all_asked (a ∷ rest) (x ∷ xs) = asked a x >>= λ y. all_asked rest xs >>= λ ys. give (y ∷ ys)
all_asked rest xs = give []

abbrev pub first_type : List Term → Ty
first_type [] = Void
first_type (x ∷ xs) = type_of x

abbrev pub given_type : Given → List Term → Ty
given_type (Of t) ys = t
given_type As_argument ys = first_type ys

abbrev pub library_call : Option Service → ℕ → List Operand → Pos → Pos → Doing Operand
library_call None k xs p first = refuse 133 first
library_call (Some f) k xs p first =
    all_asked f.takes xs >>= λ ys.
    need (length xs == length f.takes) 136 first >>
    gives (term (Library k) (terms ys) (given_type f.gives ys) p) first

-- the name before the `(` of a direct call, with or without parentheses around it
abbrev pub called_name : Syn → Option Lexeme
called_name (node Kinds.Name t nil) = Some t
called_name (node Kinds.Parenthesized t (more x nil)) = called_name x
called_name x = None

abbrev pub library_number : Option Entity → Option ℕ
library_number (Some (scopes.Library k of)) = Some k
library_number e = None

-- the library function or intrinsic that is called directly
abbrev pub called_library : State → Option Lexeme → Option ℕ
called_library s None = None
called_library s (Some t) = library_number (find_name s.scopes t.text)

-- ---- all of them

abbrev pub read_value : Reading → Doing Operand
read_value r = r.operand >>= value

abbrev pub read_values : List Reading → Doing (List Operand)
read_values [] = give []
read_values (r ∷ rs) = read_value r >>= λ x. read_values rs >>= λ xs. give (x ∷ xs)

abbrev pub first_of : Syn → Pos
first_of x = (first_token x).pos

abbrev pub called : Option ℕ → Syn → Lexeme → Reading → List Reading → Doing Operand
called (Some k) x t f rs = read_values rs >>= λ xs. library_call (slice_get services k) k xs t.pos (first_of x)
called None x t f rs = read_value f >>= λ g. read_values rs >>= λ xs. call g xs t.pos

abbrev pub prefixed : PrefixOperator → Lexeme → Reading → Doing Operand
prefixed (prefixes.Step o) t r = r.operand >>= λ a. stepped o true a t.pos t.pos
prefixed prefixes.Address t r = r.operand >>= λ a. address a t.pos
prefixed prefixes.Indirection t r = read_value r >>= λ a. dereference a t.pos t.pos
prefixed (prefixes.Unary o) t r = read_value r >>= λ a. unary_on o a t.pos

abbrev pub assignment : Option IntOp → Lexeme → Reading → Reading → Doing Operand
assignment None t r q = r.operand >>= λ a. read_value q >>= λ b. assign a b t.pos
assignment (Some o) t r q = r.operand >>= λ a. read_value q >>= λ b. compound o a b t.pos

abbrev pub selected : Selection → Lexeme → Lexeme → Reading → Doing Operand
selected Direct t name r = r.operand >>= λ a. member a name.text t.pos
selected Indirect t name r = read_value r >>= λ a. member_behind a name.text t.pos

-- The construct of a kind, with its token, its parts and what they are
abbrev pub expression_of : NodeKind → Lexeme → Syns → List Reading → Doing Operand
expression_of Kinds.Name t xs rs = named t
expression_of Kinds.Number t xs rs = number t
expression_of Kinds.Character t xs rs = character t
expression_of Kinds.Text t xs rs = text t xs
expression_of Kinds.Parenthesized t xs (r ∷ []) = r.operand >>= λ a. gives a.is t.pos
expression_of Kinds.Index t xs (r ∷ q ∷ []) = read_value r >>= λ a. read_value q >>= λ b. index a b t.pos
expression_of Kinds.Call t (more x xs) (r ∷ rs) = look >>= λ s. called (called_library s (called_name x)) x t r rs
expression_of (Kinds.Select o) t (more x (more (node k name ys) nil)) (r ∷ rs) = selected o t name r
expression_of (Kinds.Postfix o) t xs (r ∷ []) = r.operand >>= λ a. stepped o false a t.pos a.first
expression_of (Kinds.Prefix o) t xs (r ∷ []) = prefixed o t r
expression_of Kinds.SizeofExpression t xs (r ∷ []) = unevaluated r.operand >>= λ a. sized (operand_type a) t.pos
expression_of Kinds.SizeofType t xs (r ∷ []) = unevaluated (r.type false) >>= λ of. sized of t.pos
expression_of Kinds.Cast t xs (r ∷ q ∷ []) = r.type false >>= λ of. read_value q >>= λ a. cast of a t.pos
expression_of (Kinds.Infix o) t xs (r ∷ q ∷ []) = read_value r >>= λ a. read_value q >>= λ b. infix_join o a b t.pos
expression_of Kinds.Conditional t xs (r ∷ q ∷ p ∷ []) =
    read_value r >>= λ a. read_value q >>= λ b. read_value p >>= λ c. conditional a b c t.pos
expression_of (Kinds.Assignment o) t xs (r ∷ q ∷ []) = assignment o t r q
expression_of k t xs rs = refuse 120 t.pos
