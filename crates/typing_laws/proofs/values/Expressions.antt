-- Expressions as typing makes them (C11 6.5).
use Rattle.std.proofs.Common.{true, Result, Ok, Err, ◌≡◌, ℕ, Bool, false, List, [], ◌∷◌, Option, Some, None, refl, sym}
use Rattle.std.proofs.Common.{◌∙◌, ⊎_elim, if◌then◌else◌}
use Rattle.std.proofs.lemmas.Bool.{false≢true, and_parts, or_cases}
use Rattle.std.specs.Prelude.{not, nat_le, length, ◌&&◌, ◌||◌}
use Rattle.ck_base.specs.Tokens.{Lexeme}
use Rattle.ck_base.specs.declared.positions.Pos.{Pos}
use Rattle.ck_int.specs.declared.kinds.CmpOp.{CmpOp}
use Rattle.ck_int.specs.declared.kinds.IntOp.{IntOp}
use Rattle.ck_int.specs.declared.kinds.IntOp.TheVariants.{Add, Sub, Shl, Shr}
use Rattle.c_tree.specs.Constants.{is_null_constant}
use Rattle.c_tree.specs.Conversions.{Operand, value, assigned}
use Rattle.c_tree.specs.Expressions.{denoted, text_bytes, named, text, integer_join, arithmetic, shift_join, shift}
use Rattle.c_tree.specs.Expressions.{unary_on, promoted_term, sum_of, sum, difference_of, difference, int_join}
use Rattle.c_tree.specs.Expressions.{compared, condition, infix_join, conditional, assign, right_of, compound, stepped}
use Rattle.c_tree.specs.Expressions.{taken, address, pointed, dereference, index, members_in, member, member_behind}
use Rattle.c_tree.specs.Expressions.{cast, sized, unevaluated, arguments, call_of, call, asked, all_asked, library_call}
use Rattle.c_tree.specs.Expressions.{is_shift, moves, differ, both_agree, is_void_pointer, is_counted, arms_type}
use Rattle.c_tree.specs.Expressions.{is_additive, is_modifiable, compounds, computed_in, points_to_function}
use Rattle.c_tree.specs.Layout.{size_limit}
use Rattle.c_tree.specs.Libraries.{Asked, Any_capability, A, Service}
use Rattle.c_tree.specs.Scopes.{Fault, continued, change, give, ◌>>◌, Entity, Local, Static, Routine, Alias, Enumerator}
use Rattle.c_tree.specs.Scopes.{State, Doing, find_name, is_complete}
use Rattle.c_tree.specs.Scopes as scopes
use Rattle.c_tree.specs.Syntax.{Syns}
use Rattle.c_tree.specs.Terms as tree
use Rattle.c_tree.specs.Terms.{Shape, Term, Terms, term, terms, no_terms, with_term, type_of, pos_of, step, join}
use Rattle.c_tree.specs.Types.{Ty, Cap, Pointer, Tagged, Function, Tys, no_types, also, bare, promoted, is_integer}
use Rattle.c_tree.specs.Types.{is_pointer, is_scalar, is_function, common}
use Rattle.c_tree.specs.declared.syntax.InfixOperator.{InfixOperator}
use Rattle.c_tree.specs.declared.syntax.InfixOperator.TheVariants as infixes
use Rattle.c_tree.specs.declared.syntax.StepOperator.{StepOperator}
use Rattle.c_tree.specs.declared.typed.UnaryOp.{UnaryOp}
use Rattle.c_tree.specs.declared.typed.UnaryOp.TheVariants as unary
use Rattle.typing_laws.proofs.Scalars.{promoted_self, common_is_promoted}
use Rattle.typing_laws.specs.Valued.{IsComputed}
use Rattle.typing_laws.proofs.values.Made.{TermMade, TermsMade, TermWorth, if_worth, value_made, converted_made}
use Rattle.typing_laws.proofs.values.Stepping.{LocalsKept, Runs, run_refuse, changed_locals, still, BodiesMade, Keeps}
use Rattle.typing_laws.proofs.values.Stepping.{Any, going}
use Rattle.typing_laws.proofs.values.Stepping.{run_give, run_kept, run_need, run_then, run_next, less, give_keeps}
use Rattle.typing_laws.proofs.values.Stepping.{refuse_goes}
use Rattle.typing_laws.proofs.values.Stepping.{goes_then, goes_next, need_keeps, need_true, some_keeps, if_goes}
use Rattle.typing_laws.proofs.values.Stepping.{bodies_changed}

abbrev pub Made : Operand → Type 0
Made a = TermMade a.is

-- and one that has been read
abbrev pub Worth : Operand → Type 0
Worth a = TermWorth a.is

abbrev pub AllWorth : List Operand → Type 0
AllWorth [] = Unit {0}
AllWorth (x ∷ xs) = Worth x × AllWorth xs

-- typed expressions, one after the other
abbrev pub ListWorth : List Term → Type 0
ListWorth xs = TermsMade false (terms xs)

pub worth_made : {d : Doing Operand} → Keeps Worth d → Keeps Made d
worth_made h = less (λ a w. w.0) h

-- ---- what is made of expressions

-- a node with one to three operands
pub three_made : {B C D : Type 0} → B → C → D → Unit {0} × (B × (C × (D × Unit {0})))
three_made h g i = (tt, (h, (g, (i, tt))))

pub one_made : {B : Type 0} → B → Unit {0} × (B × Unit {0})
one_made h = (tt, (h, tt))

pub two_made : {B C : Type 0} → B → C → Unit {0} × (B × (C × Unit {0}))
two_made h g = (tt, (h, (g, tt)))

pub value_keeps : (a : Operand) → Made a → Keeps Worth (value a)
value_keeps a h = going λ s at. run_next (run_need _ _ _ _ at) λ q at. run_give still at (value_made a.is h)

pub assigned_keeps : (t : Ty) (a : Operand) → Worth a → Keeps TermWorth (assigned t a)
assigned_keeps t a h = goes_next (need_keeps _ _ _) (give_keeps (converted_made (bare t) a.is h))

-- ---- names and literals

denoted_keeps : (o : Option Entity) (t : Lexeme) → Keeps Made (denoted o t)
denoted_keeps None t = refuse_goes
denoted_keeps (Some (Local k of)) t = give_keeps (tt, tt)
denoted_keeps (Some (Static k)) t =
    going λ s at. run_give still at (tt, tt)
denoted_keeps (Some (Routine k)) t =
    going λ s at. run_give still (bodies_changed _ (λ r. refl) s.routines k at) (tt, tt)
denoted_keeps (Some (Alias of)) t = refuse_goes
denoted_keeps (Some (Enumerator n)) t = give_keeps (tt, tt)
denoted_keeps (Some (scopes.Library k of)) t = refuse_goes

pub named_keeps : (t : Lexeme) → Keeps Made (named t)
unfolding named
named_keeps t = going λ s at. (denoted_keeps (find_name s.scopes t.text) t).run s at

pub text_keeps : (t : Lexeme) (xs : Syns) → Keeps Made (text t xs)
unfolding text
text_keeps t xs =
    going λ s at. run_next (run_next (run_need _ (nat_le (length (text_bytes t xs)) size_limit) 140 t.pos at) λ q at.
    run_kept still at) λ q at. run_give still at (tt, tt)

-- ---- integers

integer_join_made : (o : IntOp) (a b : Term) (t : Ty) (p : Pos) → is_shift o ≡ false → TermWorth a → TermWorth b →
    TermWorth (integer_join o a b t p)
integer_join_made o a b (Cap s) p e h g = ((λ _. e, (h, (g, tt))), refl)
integer_join_made o a b t p e h g = (two_made h g, refl)

shift_join_made : (o : IntOp) (a b : Term) (t : Ty) (p : Pos) → TermWorth a → TermWorth b →
    TermWorth (shift_join o a b t p)
shift_join_made o a b (Cap s) p h g = ((λ e. absurd (false≢true e), (h, (g, tt))), refl)
shift_join_made o a b t p h g = (two_made h g, refl)

arithmetic_keeps : (o : IntOp) (a b : Operand) (p : Pos) → is_shift o ≡ false → Worth a → Worth b →
    Keeps Worth (arithmetic o a b p)
arithmetic_keeps o a b p e h g =
    goes_next (need_keeps _ _ _)
    (give_keeps (integer_join_made o _ _ _ p e (converted_made _ a.is h) (converted_made _ b.is g)))

shift_keeps : (o : IntOp) (a b : Operand) (p : Pos) → Worth a → Worth b →
    Keeps Worth (shift o a b p)
shift_keeps o a b p h g =
    goes_next (need_keeps _ _ _)
    (give_keeps (shift_join_made o _ _ _ p (converted_made _ a.is h) (converted_made _ b.is g)))

pub unary_keeps : (o : UnaryOp) (a : Operand) (p : Pos) → Worth a → Keeps Made (unary_on o a p)
unary_keeps unary.LogicalNot a p h = goes_next (need_keeps _ _ _) (give_keeps (tt, (h, tt)))
unary_keeps o a p h = goes_next (need_keeps _ _ _) (give_keeps (tt, (converted_made _ a.is h, tt)))

-- ---- pointers

promoted_made : (x : Term) → TermWorth x → TermWorth (promoted_term x)
promoted_made x h = converted_made (promoted (type_of x)) x h

sum_of_keeps : (a b : Operand) (p : Pos) → Worth a → Worth b → Keeps Worth (sum_of a b p)
sum_of_keeps a b p h g =
    if_goes (moves (type_of a.is) (type_of b.is)) _ _ (give_keeps (two_made h (promoted_made b.is g), refl))
    (if_goes (moves (type_of b.is) (type_of a.is)) _ _ (give_keeps (two_made (promoted_made a.is h) g, refl))
    (arithmetic_keeps Add a b p refl h g))

pub sum_keeps : (a b : Operand) (p : Pos) → Worth a → Worth b → Keeps Worth (sum a b p)
sum_keeps a b p h g =
    let t = type_of a.is in
    let u = type_of b.is in
    going λ s at. run_next (run_next
    (run_need _ (not (is_pointer t && is_integer u) || is_counted s t) 132 a.first at) λ q at.
    run_need _ (not (is_integer t && is_pointer u) || is_counted s u) 132 a.first at) λ q at.
    (sum_of_keeps a b p h g).run q at

difference_of_keeps : (a b : Operand) (p : Pos) → Worth a → Worth b →
    Keeps Worth (difference_of a b p)
difference_of_keeps a b p h g =
    if_goes (moves (type_of a.is) (type_of b.is)) _ _ (give_keeps (two_made h (promoted_made b.is g), refl))
    (if_goes (differ (type_of a.is) (type_of b.is)) _ _ (give_keeps (two_made h g, refl))
    (arithmetic_keeps Sub a b p refl h g))

difference_keeps : (a b : Operand) (p : Pos) → Worth a → Worth b → Keeps Worth (difference a b p)
difference_keeps a b p h g =
    let t = type_of a.is in
    let u = type_of b.is in
    going λ s at. run_next (run_next
    (run_need _ (not (is_pointer t && is_scalar u) || is_counted s t) 132 a.first at) λ q at.
    run_need _ (not (is_pointer t && is_pointer u) || is_counted s u) 132 a.first at) λ q at.
    (difference_of_keeps a b p h g).run q at

int_join_keeps : (o : IntOp) (a b : Operand) (p : Pos) → Worth a → Worth b →
    Keeps Worth (int_join o a b p)
int_join_keeps Add a b p h g = sum_keeps a b p h g
int_join_keeps Sub a b p h g = difference_keeps a b p h g
int_join_keeps Shl a b p h g = shift_keeps Shl a b p h g
int_join_keeps Shr a b p h g = shift_keeps Shr a b p h g
int_join_keeps o a b p h g = arithmetic_keeps o a b p refl h g

-- ---- comparison, logic, the conditional operator

compared_keeps : (o : CmpOp) (a b : Operand) (p : Pos) → Worth a → Worth b →
    Keeps Made (compared o a b p)
compared_keeps o a b p h g =
    let s = type_of a.is in
    let t = type_of b.is in
    if_goes (is_integer s && is_integer t) _ _
    (give_keeps (two_made (converted_made _ a.is h) (converted_made _ b.is g)))
    (if_goes (is_pointer s && is_null_constant b.is) _ _ (give_keeps (two_made h (converted_made _ b.is g)))
    (if_goes (is_pointer t && is_null_constant a.is) _ _ (give_keeps (two_made (converted_made _ a.is h) g))
    (if_goes (both_agree s t) _ _ (give_keeps (two_made h g))
    (if_goes (is_pointer s && is_void_pointer t) _ _ (give_keeps (two_made (converted_made _ a.is h) g))
    (if_goes (is_void_pointer s && is_pointer t) _ _ (give_keeps (two_made h (converted_made _ b.is g)))
    refuse_goes)))))

pub condition_keeps : (a : Operand) → Worth a → Keeps TermWorth (condition a)
condition_keeps a h = goes_next (need_keeps _ _ _) (give_keeps h)

pub infix_keeps : (o : InfixOperator) (a b : Operand) (p : Pos) → Worth a → Worth b →
    Keeps Made (infix_join o a b p)
infix_keeps (infixes.Int o) a b p h g = worth_made (int_join_keeps o a b p h g)
infix_keeps (infixes.Compare o) a b p h g = compared_keeps o a b p h g
infix_keeps infixes.And a b p h g = goes_next (need_keeps _ _ _) (give_keeps (two_made h g))
infix_keeps infixes.Or a b p h g = goes_next (need_keeps _ _ _) (give_keeps (two_made h g))
infix_keeps infixes.Comma a b p h g = give_keeps (tt, (h, (g, tt)))

pub conditional_keeps : (a b c : Operand) (p : Pos) → Worth a → Worth b → Worth c →
    Keeps Made (conditional a b c p)
conditional_keeps a b c p h g i =
    goes_then (goes_next (need_keeps _ _ _) (some_keeps (arms_type b c) 133 a.first)) λ t u.
    give_keeps (three_made h (converted_made t b.is g) (converted_made t c.is i))

-- ---- assignment

pub assign_keeps : (a b : Operand) (p : Pos) → Made a → Worth b → Keeps Made (assign a b p)
assign_keeps a b p h g =
    goes_then (goes_next (need_keeps (is_modifiable a.is) 133 a.first) (assigned_keeps (type_of a.is) b g)) λ y i.
    give_keeps (two_made h i)

right_made : (o : IntOp) (s : Ty) (x : Term) → TermWorth x → TermWorth (right_of o s x)
right_made o (Pointer s) x h = promoted_made x h
right_made o s x h = if_worth (is_shift o) _ _ (promoted_made x h) (converted_made _ x h)

integers_of : (o : IntOp) (t u : Ty) → moves t u ≡ false → compounds o t u ≡ true →
    (is_integer t ≡ true) × (is_integer u ≡ true)
integers_of o t u m c = ⊎_elim (λ e. absurd (false≢true (sym m ∙ (and_parts (is_additive o) (moves t u) e).1)))
    (λ e. and_parts (is_integer t) (is_integer u) e)
    (or_cases (is_additive o && moves t u) (is_integer t && is_integer u) c)

promoted_by : (b : Bool) (t u : Ty) → (is_integer t ≡ true) × (is_integer u ≡ true) →
    promoted (if b then promoted t else common t u) ≡ (if b then promoted t else common t u)
promoted_by true t u h = promoted_self t
promoted_by false t u h = common_is_promoted t u h.0 h.1

-- the type in which it is computed
computed : (o : IntOp) (t u : Ty) → compounds o t u ≡ true → IsComputed (computed_in o t u)
computed o (Pointer t) u c e = absurd (false≢true e)
computed o t u c e = promoted_by (is_shift o) t u (integers_of o t u refl c)

pub compound_keeps : (o : IntOp) (a b : Operand) (p : Pos) → Made a → Worth b →
    Keeps Made (compound o a b p)
compound_keeps o a b p h g =
    let t = bare (type_of a.is) in
    let u = type_of b.is in
    going λ s at. run_then (run_next
    (run_need _ (not (is_additive o && is_pointer t && is_integer u) || is_counted s t) 132 a.first at) λ q at.
    (need_true (is_modifiable a.is && compounds o t u) 133 a.first).run q at) λ v q at c.
    run_give still at (
      computed o t u (and_parts (is_modifiable a.is) (compounds o t u) c).1,
      (h, (right_made o t b.is g, tt)),
    )

pub stepped_keeps : (o : StepOperator) (in_front : Bool) (a : Operand) (p first : Pos) → Made a →
    Keeps Made (stepped o in_front a p first)
stepped_keeps o in_front a p first h =
    let t = bare (type_of a.is) in
    going λ s at. run_next (run_next (run_need _ (is_counted s t) 132 first at) λ q at.
    run_need _ (is_modifiable a.is && is_scalar t && not (points_to_function t)) 133 first at) λ q at.
    run_give still at (one_made h)

-- ---- addresses and places

taken_bodies : (x : Term) (s : State) → BodiesMade s.routines → BodiesMade (taken x s).routines
taken_bodies (term (tree.Var k) xs t p) s b = b
taken_bodies x s b = b

taken_locals : (x : Term) (s : State) → LocalsKept s.locals (taken x s).locals
taken_locals (term (tree.Var k) xs t p) s =
    changed_locals (λ v. record v { addressed = true }) s.locals k (λ v e. refl)
taken_locals x s = still

pub address_keeps : (a : Operand) (p : Pos) → Made a → Keeps Made (address a p)
address_keeps a p h =
    going λ s at. run_next (run_next (run_need _ _ _ _ at) λ q at.
    run_kept (taken_locals a.is q) (taken_bodies a.is q at)) λ q at. run_give still at (one_made h)

pointed_keeps : (t : Ty) (p : Pos) → Keeps Any (pointed t p)
pointed_keeps (Pointer t) p =
    going λ s at. run_next (run_need _ (is_function t || is_complete s t) 132 p at) λ q at. run_give still at tt
pointed_keeps t p = refuse_goes

pub dereference_keeps : (a : Operand) (p first : Pos) → Worth a → Keeps Made (dereference a p first)
dereference_keeps a p first h =
    goes_then (pointed_keeps (type_of a.is) first) λ t u. give_keeps (one_made h)

pub index_keeps : (a b : Operand) (p : Pos) → Worth a → Worth b → Keeps Made (index a b p)
index_keeps a b p h g = goes_then (sum_keeps a b p h g) λ x i. dereference_keeps x p a.first i

members_keeps : (s : State) (t : Ty) (p : Pos) → Keeps Any (members_in s t p)
members_keeps s (Tagged n) p = some_keeps _ _ _
members_keeps s t p = refuse_goes

pub member_keeps : (a : Operand) (name : List ℕ) (p : Pos) → Made a → Keeps Made (member a name p)
member_keeps a name p h =
    going λ s at. run_then ((members_keeps s (bare (type_of a.is)) a.first).run s at) λ ms q at u.
    (goes_then (some_keeps _ _ _) λ m v. give_keeps (one_made h)).run q at

pub member_behind_keeps : (a : Operand) (name : List ℕ) (p : Pos) → Worth a →
    Keeps Made (member_behind a name p)
member_behind_keeps a name p h = goes_then (dereference_keeps a p a.first h) λ x i. member_keeps x name p i

-- ---- casts, sizes

pub cast_keeps : (t : Ty) (a : Operand) (p : Pos) → Worth a → Keeps Made (cast t a p)
cast_keeps t a p h = goes_next (need_keeps _ _ _) (give_keeps (tt, (h, tt)))

pub sized_keeps : (t : Ty) (p : Pos) → Keeps Made (sized t p)
sized_keeps t p =
    going λ s at. run_next (run_need _ (is_complete s t) 132 p at) λ q at. run_give still at (tt, tt)

unevaluated_runs : {B : Type 0} {P : B → Type 0} (s : State) (r : Result (B × State) Fault) → BodiesMade s.routines →
    Runs P s.locals r
    → Runs P s.locals (continued r (λ a. change (λ q.
    record q { texts = s.texts; statics = s.statics; routines = s.routines; locals = s.locals })
    >> give a))
unevaluated_runs s (Ok y) old h = run_give still old (h.post y refl)
unevaluated_runs s (Err f) old h = run_refuse

pub unevaluated_keeps : {B : Type 0} {P : B → Type 0} {d : Doing B} → Keeps P d → Keeps P (unevaluated d)
unevaluated_keeps h =
    going λ s old. unevaluated_runs s _ old (h.run s old)

-- ---- calls

arguments_keeps : (ts : Tys) (xs : List Operand) → AllWorth xs → Keeps ListWorth (arguments ts xs)
arguments_keeps (also t ts) (x ∷ xs) h =
    goes_then (assigned_keeps t x h.0) λ y i. goes_then (arguments_keeps ts xs h.1) λ ys j. give_keeps (i, j)
arguments_keeps no_types xs h = give_keeps tt
arguments_keeps (also t ts) [] h = give_keeps tt

call_of_keeps : (t : Ty) (f : Operand) (xs : List Operand) (p : Pos) → Worth f → AllWorth xs →
    Keeps Made (call_of t f xs p)
call_of_keeps (Pointer (Function r ps)) f xs p h g =
    goes_then (arguments_keeps ps xs g) λ ys i. goes_next (need_keeps _ _ _) (give_keeps (tt, (h, i)))
call_of_keeps t f xs p h g = refuse_goes

pub call_keeps : (f : Operand) (xs : List Operand) (p : Pos) → Worth f → AllWorth xs →
    Keeps Made (call f xs p)
call_keeps f xs p h g =
    going λ s at. run_next (run_need _ _ _ _ at) λ q at. (call_of_keeps (type_of f.is) f xs p h g).run q at

asked_keeps : (a : Asked) (x : Operand) → Worth x → Keeps TermWorth (asked a x)
asked_keeps Any_capability x h = goes_next (need_keeps _ _ _) (give_keeps h)
asked_keeps (A t) x h = assigned_keeps t x h

all_asked_keeps : (asks : List Asked) (xs : List Operand) → AllWorth xs →
    Keeps ListWorth (all_asked asks xs)
all_asked_keeps (a ∷ rest) (x ∷ xs) h =
    goes_then (asked_keeps a x h.0) λ y i. goes_then (all_asked_keeps rest xs h.1) λ ys j. give_keeps (i, j)
all_asked_keeps [] xs h = give_keeps tt
all_asked_keeps (a ∷ rest) [] h = give_keeps tt

pub library_keeps : (f : Option Service) (k : ℕ) (xs : List Operand) (p first : Pos) → AllWorth xs →
    Keeps Made (library_call f k xs p first)
library_keeps None k xs p first h = refuse_goes
library_keeps (Some f) k xs p first h =
    goes_then (all_asked_keeps f.takes xs h) λ ys i. goes_next (need_keeps _ _ _) (give_keeps (tt, i))
