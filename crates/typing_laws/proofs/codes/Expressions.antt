-- Expressions (C11 6.5) are refused by codes of typing.
use Rattle.std.proofs.Common.{ℕ, Bool, true, false, List, [], ◌∷◌, Option, Some, None, refl}
use Rattle.std.specs.Prelude.{◌&&◌}
use Rattle.ck_base.specs.declared.positions.Pos.{Pos}
use Rattle.ck_base.specs.Tokens.{Lexeme}
use Rattle.ck_int.specs.declared.kinds.IntOp.{IntOp}
use Rattle.ck_int.specs.declared.kinds.IntOp.TheVariants.{Add, Sub, Shl, Shr}
use Rattle.ck_int.specs.declared.kinds.CmpOp.{CmpOp}
use Rattle.c_tree.specs.declared.typed.UnaryOp.{UnaryOp}
use Rattle.c_tree.specs.declared.typed.UnaryOp.TheVariants as unary
use Rattle.c_tree.specs.declared.syntax.InfixOperator.{InfixOperator}
use Rattle.c_tree.specs.declared.syntax.InfixOperator.TheVariants as infixes
use Rattle.c_tree.specs.declared.syntax.PrefixOperator.{PrefixOperator}
use Rattle.c_tree.specs.declared.syntax.PrefixOperator.TheVariants as prefixes
use Rattle.c_tree.specs.declared.syntax.StepOperator.{StepOperator}
use Rattle.c_tree.specs.declared.syntax.Selection.{Selection}
use Rattle.c_tree.specs.declared.syntax.Selection.TheVariants.{Direct, Indirect}
use Rattle.c_tree.specs.Syntax.{Syn, Syns}
use Rattle.c_tree.specs.Types.{Ty, Pointer, Tagged, Function, Tys, no_types, also, bare}
use Rattle.c_tree.specs.Types.{is_integer, is_pointer}
use Rattle.c_tree.specs.Terms.{Shape, And, Or}
use Rattle.c_tree.specs.Scopes.{Entity, Local, Static, Routine, Alias, Enumerator, State, Doing, find_name}
use Rattle.c_tree.specs.Scopes.{◌>>=◌}
use Rattle.c_tree.specs.Scopes as scopes
use Rattle.c_tree.specs.Conversions.{Operand, operand_type, value, assigned}
use Rattle.c_tree.specs.Libraries.{Asked, Any_capability, A, Service}
use Rattle.c_tree.specs.Readings.{Reading}
use Rattle.c_tree.specs.Expressions.{denoted, named, text, arithmetic, shift, unary_on, sum_of, sum, difference_of}
use Rattle.c_tree.specs.Expressions.{difference, int_join, compared, logical, condition, infix_join, arms_type}
use Rattle.c_tree.specs.Expressions.{conditional, assign, compound, stepped, address, pointed, dereference, index}
use Rattle.c_tree.specs.Expressions.{members_in, member, member_behind, cast, sized, unevaluated, arguments, call_of}
use Rattle.c_tree.specs.Expressions.{call, asked, all_asked, library_call, read_value, read_values, called, prefixed}
use Rattle.c_tree.specs.Expressions.{assignment, selected, moves, differ, both_agree, is_void_pointer, member_from}
use Rattle.c_tree.specs.Constants.{is_null_constant}
use Rattle.typing_laws.proofs.codes.Stepping.{AllOf, Coded, Any, give_coded, refuse_coded, change_coded, then_coded}
use Rattle.typing_laws.proofs.codes.Stepping.{next_coded}
use Rattle.typing_laws.proofs.codes.Stepping.{going, fine_give, fine_then, look_coded, need_coded, some_coded, if_coded}
use Rattle.typing_laws.proofs.codes.Stepping.{needs}

pub value_coded : (a : Operand) → Coded Any (value a)
value_coded a = look_coded λ s. needs _ _ _ refl (give_coded tt)

pub assigned_coded : (t : Ty) (a : Operand) → Coded Any (assigned t a)
assigned_coded t a = needs _ _ _ refl (give_coded tt)

denoted_coded : (o : Option Entity) (t : Lexeme) → Coded Any (denoted o t)
denoted_coded None t = refuse_coded refl
denoted_coded (Some (Local k of)) t = give_coded tt
denoted_coded (Some (Static k)) t = going λ s. fine_give tt
denoted_coded (Some (Routine k)) t = going λ s. fine_give tt
denoted_coded (Some (Alias of)) t = refuse_coded refl
denoted_coded (Some (Enumerator n)) t = give_coded tt
denoted_coded (Some (scopes.Library k of)) t = refuse_coded refl

pub named_coded : (t : Lexeme) → Coded Any (named t)
unfolding named
named_coded t = look_coded λ s. denoted_coded (find_name s.scopes t.text) t

pub text_coded : (t : Lexeme) (xs : Syns) → Coded Any (text t xs)
unfolding text
text_coded t xs = look_coded λ s. next_coded (needs _ _ _ refl change_coded) (give_coded tt)

arithmetic_coded : (o : IntOp) (a b : Operand) (p : Pos) → Coded Any (arithmetic o a b p)
arithmetic_coded o a b p = needs _ _ _ refl (give_coded tt)

shift_coded : (o : IntOp) (a b : Operand) (p : Pos) → Coded Any (shift o a b p)
shift_coded o a b p = needs _ _ _ refl (give_coded tt)

unary_coded : (o : UnaryOp) (a : Operand) (p : Pos) → Coded Any (unary_on o a p)
unary_coded unary.LogicalNot a p = needs _ _ _ refl (give_coded tt)
unary_coded o a p = needs _ _ _ refl (give_coded tt)

-- ---- pointers

sum_of_coded : (a b : Operand) (p : Pos) → Coded Any (sum_of a b p)
sum_of_coded a b p =
    if_coded (moves (operand_type a) (operand_type b)) _ _ (give_coded tt)
    (if_coded (moves (operand_type b) (operand_type a)) _ _ (give_coded tt) (arithmetic_coded Add a b p))

sum_coded : (a b : Operand) (p : Pos) → Coded Any (sum a b p)
sum_coded a b p = look_coded λ s. next_coded (needs _ _ _ refl (need_coded _ _ _ refl)) (sum_of_coded a b p)

difference_of_coded : (a b : Operand) (p : Pos) → Coded Any (difference_of a b p)
difference_of_coded a b p =
    if_coded (moves (operand_type a) (operand_type b)) _ _ (give_coded tt)
    (if_coded (differ (operand_type a) (operand_type b)) _ _ (give_coded tt) (arithmetic_coded Sub a b p))

difference_coded : (a b : Operand) (p : Pos) → Coded Any (difference a b p)
difference_coded a b p =
    look_coded λ s. next_coded (needs _ _ _ refl (need_coded _ _ _ refl)) (difference_of_coded a b p)

int_join_coded : (o : IntOp) (a b : Operand) (p : Pos) → Coded Any (int_join o a b p)
int_join_coded Add a b p = sum_coded a b p
int_join_coded Sub a b p = difference_coded a b p
int_join_coded Shl a b p = shift_coded Shl a b p
int_join_coded Shr a b p = shift_coded Shr a b p
int_join_coded o a b p = arithmetic_coded o a b p

-- ---- comparison, logic, the conditional operator, assignment

compared_coded : (o : CmpOp) (a b : Operand) (p : Pos) → Coded Any (compared o a b p)
compared_coded o a b p =
    let s = operand_type a in
    let t = operand_type b in
    if_coded (is_integer s && is_integer t) _ _ (give_coded tt)
    (if_coded (is_pointer s && is_null_constant b.is) _ _ (give_coded tt)
    (if_coded (is_pointer t && is_null_constant a.is) _ _ (give_coded tt)
    (if_coded (both_agree s t) _ _ (give_coded tt)
    (if_coded (is_pointer s && is_void_pointer t) _ _ (give_coded tt)
    (if_coded (is_void_pointer s && is_pointer t) _ _ (give_coded tt) (refuse_coded refl))))))

logical_coded : (n : Shape) (a b : Operand) (p : Pos) → Coded Any (logical n a b p)
logical_coded n a b p = needs _ _ _ refl (give_coded tt)

pub condition_coded : (a : Operand) → Coded Any (condition a)
condition_coded a = needs _ _ _ refl (give_coded tt)

infix_coded : (o : InfixOperator) (a b : Operand) (p : Pos) → Coded Any (infix_join o a b p)
infix_coded (infixes.Int o) a b p = int_join_coded o a b p
infix_coded (infixes.Compare o) a b p = compared_coded o a b p
infix_coded infixes.And a b p = logical_coded And a b p
infix_coded infixes.Or a b p = logical_coded Or a b p
infix_coded infixes.Comma a b p = give_coded tt

conditional_coded : (a b c : Operand) (p : Pos) → Coded Any (conditional a b c p)
conditional_coded a b c p =
    then_coded (needs _ _ _ refl (some_coded (arms_type b c) 133 a.first refl)) λ t u. give_coded tt

assign_coded : (a b : Operand) (p : Pos) → Coded Any (assign a b p)
assign_coded a b p = then_coded (needs _ _ _ refl (assigned_coded (operand_type a) b)) λ y u. give_coded tt

compound_coded : (o : IntOp) (a b : Operand) (p : Pos) → Coded Any (compound o a b p)
compound_coded o a b p = look_coded λ s. next_coded (needs _ _ _ refl (need_coded _ _ _ refl)) (give_coded tt)

stepped_coded : (o : StepOperator) (in_front : Bool) (a : Operand) (p first : Pos) →
    Coded Any (stepped o in_front a p first)
stepped_coded o in_front a p first =
    look_coded λ s. next_coded (needs _ _ _ refl (need_coded _ _ _ refl)) (give_coded tt)

-- ---- addresses and places

address_coded : (a : Operand) (p : Pos) → Coded Any (address a p)
address_coded a p = next_coded (needs _ _ _ refl change_coded) (give_coded tt)

pointed_coded : (t : Ty) (p : Pos) → Coded Any (pointed t p)
pointed_coded (Pointer t) p = look_coded λ s. needs _ _ _ refl (give_coded tt)
pointed_coded t p = refuse_coded refl

dereference_coded : (a : Operand) (p first : Pos) → Coded Any (dereference a p first)
dereference_coded a p first = then_coded (pointed_coded (operand_type a) first) λ t u. give_coded tt

index_coded : (a b : Operand) (p : Pos) → Coded Any (index a b p)
index_coded a b p = then_coded (sum_coded a b p) λ x u. dereference_coded x p a.first

members_coded : (s : State) (t : Ty) (p : Pos) → Coded Any (members_in s t p)
members_coded s (Tagged n) p = some_coded _ _ _ refl
members_coded s t p = refuse_coded refl

member_coded : (a : Operand) (name : List ℕ) (p : Pos) → Coded Any (member a name p)
member_coded a name p =
    going λ s. fine_then ((members_coded s (bare (operand_type a)) a.first).at s) λ ms q u.
    fine_then ((some_coded (member_from 0 ms name) 133 a.first refl).at q) λ m q u. fine_give tt

member_behind_coded : (a : Operand) (name : List ℕ) (p : Pos) → Coded Any (member_behind a name p)
member_behind_coded a name p = then_coded (dereference_coded a p a.first) λ x u. member_coded x name p

-- ---- casts, sizes, calls

cast_coded : (t : Ty) (a : Operand) (p : Pos) → Coded Any (cast t a p)
cast_coded t a p = needs _ _ _ refl (give_coded tt)

sized_coded : (t : Ty) (p : Pos) → Coded Any (sized t p)
sized_coded t p = look_coded λ s. needs _ _ _ refl (give_coded tt)

pub unevaluated_coded : {B : Type 0} {d : Doing B} → Coded Any d → Coded Any (unevaluated d)
unevaluated_coded h = look_coded λ s. then_coded h λ a u. next_coded change_coded (give_coded tt)

arguments_coded : (ts : Tys) (xs : List Operand) → Coded Any (arguments ts xs)
arguments_coded (also t ts) (x ∷ xs) =
    then_coded (assigned_coded t x) λ y u. then_coded (arguments_coded ts xs) λ ys u. give_coded tt
arguments_coded no_types xs = give_coded tt
arguments_coded (also t ts) [] = give_coded tt

call_of_coded : (t : Ty) (f : Operand) (xs : List Operand) (p : Pos) → Coded Any (call_of t f xs p)
call_of_coded (Pointer (Function r ps)) f xs p =
    then_coded (arguments_coded ps xs) λ ys u. needs _ _ _ refl (give_coded tt)
call_of_coded t f xs p = refuse_coded refl

call_coded : (f : Operand) (xs : List Operand) (p : Pos) → Coded Any (call f xs p)
call_coded f xs p = look_coded λ s. needs _ _ _ refl (call_of_coded (operand_type f) f xs p)

asked_coded : (a : Asked) (x : Operand) → Coded Any (asked a x)
asked_coded Any_capability x = needs _ _ _ refl (give_coded tt)
asked_coded (A t) x = assigned_coded t x

all_asked_coded : (asks : List Asked) (xs : List Operand) → Coded Any (all_asked asks xs)
all_asked_coded (a ∷ rest) (x ∷ xs) =
    then_coded (asked_coded a x) λ y u. then_coded (all_asked_coded rest xs) λ ys u. give_coded tt
all_asked_coded [] xs = give_coded tt
all_asked_coded (a ∷ rest) [] = give_coded tt

library_coded : (f : Option Service) (k : ℕ) (xs : List Operand) (p first : Pos) →
    Coded Any (library_call f k xs p first)
library_coded None k xs p first = refuse_coded refl
library_coded (Some f) k xs p first =
    then_coded (all_asked_coded f.takes xs) λ ys u. needs _ _ _ refl (give_coded tt)

-- ---- the parts of an expression

abbrev pub IsOperand : Reading → Type 0
IsOperand r = Coded Any r.operand

pub read_coded : (r : Reading) → IsOperand r → Coded Any (read_value r)
read_coded r h = then_coded h λ a u. value_coded a

reads_coded : (rs : List Reading) → AllOf IsOperand rs → Coded Any (read_values rs)
reads_coded [] h = give_coded tt
reads_coded (r ∷ rs) h =
    then_coded (read_coded r h.0) λ x u. then_coded (reads_coded rs h.1) λ xs u. give_coded tt

pub called_coded : (o : Option ℕ) (x : Syn) (t : Lexeme) (r : Reading) (rs : List Reading) → IsOperand r →
    AllOf IsOperand rs → Coded Any (called o x t r rs)
called_coded (Some k) x t r rs h g = then_coded (reads_coded rs g) λ xs u. library_coded _ k xs t.pos _
called_coded None x t r rs h g =
    then_coded (read_coded r h) λ f u. then_coded (reads_coded rs g) λ xs u. call_coded f xs t.pos

pub prefixed_coded : (o : PrefixOperator) (t : Lexeme) (r : Reading) → IsOperand r → Coded Any (prefixed o t r)
prefixed_coded (prefixes.Step o) t r h = then_coded h λ a u. stepped_coded o true a t.pos t.pos
prefixed_coded prefixes.Address t r h = then_coded h λ a u. address_coded a t.pos
prefixed_coded prefixes.Indirection t r h = then_coded (read_coded r h) λ a u. dereference_coded a t.pos t.pos
prefixed_coded (prefixes.Unary o) t r h = then_coded (read_coded r h) λ a u. unary_coded o a t.pos

pub postfixed_coded : (o : StepOperator) (t : Lexeme) (r : Reading) → IsOperand r →
    Coded Any (r.operand >>= λ a. stepped o false a t.pos a.first)
postfixed_coded o t r h = then_coded h λ a u. stepped_coded o false a t.pos a.first

pub assignment_coded : (o : Option IntOp) (t : Lexeme) (r q : Reading) → IsOperand r → IsOperand q →
    Coded Any (assignment o t r q)
assignment_coded None t r q h g =
    then_coded h λ a u. then_coded (read_coded q g) λ b u. assign_coded a b t.pos
assignment_coded (Some o) t r q h g =
    then_coded h λ a u. then_coded (read_coded q g) λ b u. compound_coded o a b t.pos

pub selected_coded : (o : Selection) (t name : Lexeme) (r : Reading) → IsOperand r → Coded Any (selected o t name r)
selected_coded Direct t name r h = then_coded h λ a u. member_coded a name.text t.pos
selected_coded Indirect t name r h = then_coded (read_coded r h) λ a u. member_behind_coded a name.text t.pos

pub binary_coded : (o : InfixOperator) (t : Lexeme) (r q : Reading) → IsOperand r → IsOperand q →
    Coded Any (read_value r >>= λ a. read_value q >>= λ b. infix_join o a b t.pos)
binary_coded o t r q h g =
    then_coded (read_coded r h) λ a u. then_coded (read_coded q g) λ b u. infix_coded o a b t.pos

pub indexed_coded : (t : Lexeme) (r q : Reading) → IsOperand r → IsOperand q →
    Coded Any (read_value r >>= λ a. read_value q >>= λ b. index a b t.pos)
indexed_coded t r q h g =
    then_coded (read_coded r h) λ a u. then_coded (read_coded q g) λ b u. index_coded a b t.pos

pub chosen_coded : (t : Lexeme) (r q p : Reading) → IsOperand r → IsOperand q → IsOperand p →
    Coded Any (read_value r >>= λ a. read_value q >>= λ b. read_value p >>= λ c. conditional a b c t.pos)
chosen_coded t r q p h g f =
    then_coded (read_coded r h) λ a u. then_coded (read_coded q g) λ b u.
    then_coded (read_coded p f) λ c u. conditional_coded a b c t.pos

pub size_coded : (t : Lexeme) (r : Reading) → IsOperand r →
    Coded Any (unevaluated r.operand >>= λ a. sized (operand_type a) t.pos)
size_coded t r h = then_coded (unevaluated_coded h) λ a u. sized_coded (operand_type a) t.pos

pub type_size_coded : (t : Lexeme) (r : Reading) → ((alone : Bool) → Coded Any (r.type alone)) →
    Coded Any (unevaluated (r.type false) >>= λ of. sized of t.pos)
type_size_coded t r h = then_coded (unevaluated_coded (h false)) λ of u. sized_coded of t.pos

pub casts_coded : (t : Lexeme) (r q : Reading) → ((alone : Bool) → Coded Any (r.type alone)) → IsOperand q →
    Coded Any (r.type false >>= λ of. read_value q >>= λ a. cast of a t.pos)
casts_coded t r q h g =
    then_coded (h false) λ of u. then_coded (read_coded q g) λ a u. cast_coded of a t.pos
