-- Typed expressions name what is in scope (C11 6.5).
use Rattle.std.proofs.Common.{◌≡◌, ℕ, Bool, true, false, List, [], ◌∷◌, Option, Some, None, refl}
use Rattle.std.specs.Prelude.{if◌then◌else◌, not, nat_le, length, ◌&&◌, ◌||◌}
use Rattle.c_tree.specs.Layout.{size_limit}
use Rattle.ck_base.specs.declared.positions.Pos.{Pos}
use Rattle.ck_base.specs.Tokens.{Lexeme}
use Rattle.ck_int.specs.declared.kinds.IntOp.{IntOp}
use Rattle.ck_int.specs.declared.kinds.IntOp.TheVariants.{Add, Sub, Shl, Shr}
use Rattle.ck_int.specs.declared.kinds.CmpOp.{CmpOp}
use Rattle.c_tree.specs.declared.typed.UnaryOp.{UnaryOp}
use Rattle.c_tree.specs.declared.typed.UnaryOp.TheVariants as unary
use Rattle.c_tree.specs.declared.syntax.InfixOperator.{InfixOperator}
use Rattle.c_tree.specs.declared.syntax.InfixOperator.TheVariants as infixes
use Rattle.c_tree.specs.declared.syntax.StepOperator.{StepOperator}
use Rattle.c_tree.specs.Syntax.{Syns}
use Rattle.c_tree.specs.Types.{Ty, Cap, Pointer, Array, Tagged, Function, Tys, no_types, also, bare}
use Rattle.c_tree.specs.Types.{promoted, same, is_integer, is_pointer, is_scalar, is_function}
use Rattle.c_tree.specs.Constants.{is_null_constant}
use Rattle.c_tree.specs.Terms as tree
use Rattle.c_tree.specs.Terms.{Shape, Term, Terms, term, terms, no_terms, with_term, type_of, pos_of, step, join}
use Rattle.c_tree.specs.Scopes.{Entity, Local, Static, Routine, Alias, Enumerator, State, Doing, find_name}
use Rattle.c_tree.specs.Scopes.{is_complete}
use Rattle.c_tree.specs.Scopes as scopes
use Rattle.c_tree.specs.Conversions.{Operand, value_at, value, converted_term, assigned, designates}
use Rattle.c_tree.specs.Libraries.{Asked, Any_capability, A, Service}
use Rattle.c_tree.specs.Expressions.{denoted, text_bytes, named, text, integer_join, arithmetic}
use Rattle.c_tree.specs.Expressions.{shift_join}
use Rattle.c_tree.specs.Expressions.{shift, unary_on, promoted_term, sum_of, sum, difference_of, difference, int_join}
use Rattle.c_tree.specs.Expressions.{compared, logical, condition, infix_join, conditional, assign, right_of, compound}
use Rattle.c_tree.specs.Expressions.{stepped, taken, address, pointed, dereference, index, members_in, member}
use Rattle.c_tree.specs.Expressions.{member_behind, cast, sized, unevaluated, arguments, call_of, call, asked}
use Rattle.c_tree.specs.Expressions.{all_asked}
use Rattle.c_tree.specs.Expressions.{library_call, is_shift}
use Rattle.c_tree.specs.Expressions.{moves, differ, both_agree, is_void_pointer, is_counted}
use Rattle.c_tree.specs.Expressions.{arms_type, is_additive, is_modifiable, compounds, points_to_function}
use Rattle.typing_laws.proofs.Places.{find_name_ok}
use Rattle.typing_laws.specs.Scoping.{ShapeScoped, TermScoped, TermsScoped}
use Rattle.typing_laws.proofs.scopes.Stepping.{EntityOpen, BodiesScoped, moved, Keeps, Any, going, on, run_give}
use Rattle.typing_laws.proofs.scopes.Stepping.{run_kept}
use Rattle.typing_laws.proofs.scopes.Stepping.{run_need, run_then, run_next, give_keeps, refuse_goes, goes_then}
use Rattle.typing_laws.proofs.scopes.Stepping.{goes_next}
use Rattle.typing_laws.proofs.scopes.Stepping.{need_keeps, some_keeps, if_goes, bodies_changed}

abbrev pub Scoped : List ℕ → Operand → Type 0
Scoped js a = TermScoped js a.is

abbrev pub AllScoped : List ℕ → List Operand → Type 0
AllScoped js [] = Unit {0}
AllScoped js (x ∷ xs) = Scoped js x × AllScoped js xs

-- typed expressions, one after the other
abbrev pub ListScoped : List ℕ → List Term → Type 0
ListScoped js xs = TermsScoped js (terms xs)

-- ---- what is made of expressions

-- a node that names nothing itself: a leaf, and with one to three operands
pub leaf_scoped : Unit {0} × Unit {0}
leaf_scoped = (tt, tt)

pub three_scoped : {B C D : Type 0} → B → C → D → Unit {0} × (B × (C × (D × Unit {0})))
three_scoped h g i = (tt, (h, (g, (i, tt))))

pub one_scoped : {B : Type 0} → B → Unit {0} × (B × Unit {0})
one_scoped h = (tt, (h, tt))

pub two_scoped : {B C : Type 0} → B → C → Unit {0} × (B × (C × Unit {0}))
two_scoped h g = (tt, (h, (g, tt)))

module _ (js : List ℕ) where
  pub if_scoped : (b : Bool) (x y : Term) → TermScoped js x → TermScoped js y → TermScoped js (if b then x else y)
  if_scoped true x y h g = h
  if_scoped false x y h g = g

  pub value_scoped : (t : Ty) (x : Term) → TermScoped js x → TermScoped js (value_at t x)
  value_scoped (Array e n) x h = (tt, (h, tt))
  value_scoped (Function r ps) x h = (tt, (h, tt))
  value_scoped t x h = if_scoped (designates x) _ x (one_scoped h) h

  pub converted_scoped : (t : Ty) (x : Term) → TermScoped js x → TermScoped js (converted_term t x)
  converted_scoped t x h = if_scoped (same (type_of x) t) x _ h (one_scoped h)

  pub value_keeps : (a : Operand) → Scoped js a → Keeps js (Scoped js) (value a)
  value_keeps a h =
      going λ b s at. run_next (run_need _ _ _ at) λ q at. run_give at (value_scoped (type_of a.is) a.is h)

  pub assigned_keeps : (t : Ty) (a : Operand) → Scoped js a → Keeps js (TermScoped js) (assigned t a)
  assigned_keeps t a h = goes_next (need_keeps _ _ _) (give_keeps (converted_scoped (bare t) a.is h))

  -- ---- names and literals

  denoted_keeps : (o : Option Entity) (t : Lexeme) → ((e : Entity) → o ≡ Some e → EntityOpen js e) →
      Keeps js (Scoped js) (denoted o t)
  denoted_keeps None t h = refuse_goes
  denoted_keeps (Some (Local k of)) t h = give_keeps (h (Local k of) refl, tt)
  denoted_keeps (Some (Static k)) t h =
      going λ b s at. run_give (moved at refl (λ c. c)) (tt, tt)
  denoted_keeps (Some (Routine k)) t h =
      going λ b s at. run_give (moved at refl (bodies_changed _ (λ r. refl) s.routines k)) (tt, tt)
  denoted_keeps (Some (Alias of)) t h = refuse_goes
  denoted_keeps (Some (Enumerator n)) t h = give_keeps (tt, tt)
  denoted_keeps (Some (scopes.Library k of)) t h = refuse_goes

  pub named_keeps : (t : Lexeme) → Keeps js (Scoped js) (named t)
  unfolding named
  named_keeps t =
      going λ b s at. (denoted_keeps (find_name s.scopes t.text) t
      (λ e q. find_name_ok (EntityOpen js) s.scopes t.text e at.opened.names q)).run b s at

  pub text_keeps : (t : Lexeme) (xs : Syns) → Keeps js (Scoped js) (text t xs)
  unfolding text
  text_keeps t xs =
      going λ b s at. run_next (run_next (run_need (nat_le (length (text_bytes t xs)) size_limit) 140 t.pos at) λ q at.
      run_kept (moved at refl (λ c. c))) λ q at. run_give at leaf_scoped

  -- ---- integers

  integer_join_scoped : (o : IntOp) (a b : Term) (t : Ty) (p : Pos) → TermScoped js a → TermScoped js b →
      TermScoped js (integer_join o a b t p)
  integer_join_scoped o a b (Cap s) p h g = (tt, (h, (g, tt)))
  integer_join_scoped o a b t p h g = (tt, (h, (g, tt)))

  shift_join_scoped : (o : IntOp) (a b : Term) (t : Ty) (p : Pos) → TermScoped js a → TermScoped js b →
      TermScoped js (shift_join o a b t p)
  shift_join_scoped o a b (Cap s) p h g = (tt, (h, (g, tt)))
  shift_join_scoped o a b t p h g = (tt, (h, (g, tt)))

  arithmetic_keeps : (o : IntOp) (a b : Operand) (p : Pos) → Scoped js a → Scoped js b →
      Keeps js (Scoped js) (arithmetic o a b p)
  arithmetic_keeps o a b p h g =
      goes_next (need_keeps _ _ _)
      (give_keeps (integer_join_scoped o _ _ _ p (converted_scoped _ a.is h) (converted_scoped _ b.is g)))

  shift_keeps : (o : IntOp) (a b : Operand) (p : Pos) → Scoped js a → Scoped js b →
      Keeps js (Scoped js) (shift o a b p)
  shift_keeps o a b p h g =
      goes_next (need_keeps _ _ _)
      (give_keeps (shift_join_scoped o _ _ _ p (converted_scoped _ a.is h) (converted_scoped _ b.is g)))

  pub unary_keeps : (o : UnaryOp) (a : Operand) (p : Pos) → Scoped js a → Keeps js (Scoped js) (unary_on o a p)
  unary_keeps unary.LogicalNot a p h = goes_next (need_keeps _ _ _) (give_keeps (tt, (h, tt)))
  unary_keeps o a p h = goes_next (need_keeps _ _ _) (give_keeps (tt, (converted_scoped _ a.is h, tt)))

  -- ---- pointers

  promoted_scoped : (x : Term) → TermScoped js x → TermScoped js (promoted_term x)
  promoted_scoped x h = converted_scoped (promoted (type_of x)) x h

  sum_of_keeps : (a b : Operand) (p : Pos) → Scoped js a → Scoped js b → Keeps js (Scoped js) (sum_of a b p)
  sum_of_keeps a b p h g =
      if_goes (moves (type_of a.is) (type_of b.is)) _ _ (give_keeps (two_scoped h (promoted_scoped b.is g)))
      (if_goes (moves (type_of b.is) (type_of a.is)) _ _ (give_keeps (two_scoped (promoted_scoped a.is h) g))
      (arithmetic_keeps Add a b p h g))

  pub sum_keeps : (a b : Operand) (p : Pos) → Scoped js a → Scoped js b → Keeps js (Scoped js) (sum a b p)
  sum_keeps a b p h g =
      let t = type_of a.is in
      let u = type_of b.is in
      going λ c s at. run_next (run_next
      (run_need (not (is_pointer t && is_integer u) || is_counted s t) 132 a.first at) λ q at.
      run_need (not (is_integer t && is_pointer u) || is_counted s u) 132 a.first at) λ q at.
      (sum_of_keeps a b p h g).run c q at

  difference_of_keeps : (a b : Operand) (p : Pos) → Scoped js a → Scoped js b →
      Keeps js (Scoped js) (difference_of a b p)
  difference_of_keeps a b p h g =
      if_goes (moves (type_of a.is) (type_of b.is)) _ _ (give_keeps (two_scoped h (promoted_scoped b.is g)))
      (if_goes (differ (type_of a.is) (type_of b.is)) _ _ (give_keeps (two_scoped h g))
      (arithmetic_keeps Sub a b p h g))

  difference_keeps : (a b : Operand) (p : Pos) → Scoped js a → Scoped js b → Keeps js (Scoped js) (difference a b p)
  difference_keeps a b p h g =
      let t = type_of a.is in
      let u = type_of b.is in
      going λ c s at. run_next (run_next
      (run_need (not (is_pointer t && is_scalar u) || is_counted s t) 132 a.first at) λ q at.
      run_need (not (is_pointer t && is_pointer u) || is_counted s u) 132 a.first at) λ q at.
      (difference_of_keeps a b p h g).run c q at

  int_join_keeps : (o : IntOp) (a b : Operand) (p : Pos) → Scoped js a → Scoped js b →
      Keeps js (Scoped js) (int_join o a b p)
  int_join_keeps Add a b p h g = sum_keeps a b p h g
  int_join_keeps Sub a b p h g = difference_keeps a b p h g
  int_join_keeps Shl a b p h g = shift_keeps Shl a b p h g
  int_join_keeps Shr a b p h g = shift_keeps Shr a b p h g
  int_join_keeps o a b p h g = arithmetic_keeps o a b p h g

  -- ---- comparison, logic, the conditional operator

  compared_keeps : (o : CmpOp) (a b : Operand) (p : Pos) → Scoped js a → Scoped js b →
      Keeps js (Scoped js) (compared o a b p)
  compared_keeps o a b p h g =
      let s = type_of a.is in
      let t = type_of b.is in
      if_goes (is_integer s && is_integer t) _ _
      (give_keeps (two_scoped (converted_scoped _ a.is h) (converted_scoped _ b.is g)))
      (if_goes (is_pointer s && is_null_constant b.is) _ _ (give_keeps (two_scoped h (converted_scoped _ b.is g)))
      (if_goes (is_pointer t && is_null_constant a.is) _ _ (give_keeps (two_scoped (converted_scoped _ a.is h) g))
      (if_goes (both_agree s t) _ _ (give_keeps (two_scoped h g))
      (if_goes (is_pointer s && is_void_pointer t) _ _ (give_keeps (two_scoped (converted_scoped _ a.is h) g))
      (if_goes (is_void_pointer s && is_pointer t) _ _ (give_keeps (two_scoped h (converted_scoped _ b.is g)))
      refuse_goes)))))

  logical_keeps : (n : Shape) (a b : Operand) (p : Pos) → ShapeScoped js n → Scoped js a → Scoped js b →
      Keeps js (Scoped js) (logical n a b p)
  logical_keeps n a b p c h g = goes_next (need_keeps _ _ _) (give_keeps (c, (h, (g, tt))))

  pub condition_keeps : (a : Operand) → Scoped js a → Keeps js (TermScoped js) (condition a)
  condition_keeps a h = goes_next (need_keeps _ _ _) (give_keeps h)

  pub infix_keeps : (o : InfixOperator) (a b : Operand) (p : Pos) → Scoped js a → Scoped js b →
      Keeps js (Scoped js) (infix_join o a b p)
  infix_keeps (infixes.Int o) a b p h g = int_join_keeps o a b p h g
  infix_keeps (infixes.Compare o) a b p h g = compared_keeps o a b p h g
  infix_keeps infixes.And a b p h g = logical_keeps tree.And a b p tt h g
  infix_keeps infixes.Or a b p h g = logical_keeps tree.Or a b p tt h g
  infix_keeps infixes.Comma a b p h g = give_keeps (tt, (h, (g, tt)))

  pub conditional_keeps : (a b c : Operand) (p : Pos) → Scoped js a → Scoped js b → Scoped js c →
      Keeps js (Scoped js) (conditional a b c p)
  conditional_keeps a b c p h g i =
      goes_then (goes_next (need_keeps _ _ _) (some_keeps (arms_type b c) 133 a.first)) λ t u.
      give_keeps (three_scoped h (converted_scoped t b.is g) (converted_scoped t c.is i))

  -- ---- assignment

  pub assign_keeps : (a b : Operand) (p : Pos) → Scoped js a → Scoped js b → Keeps js (Scoped js) (assign a b p)
  assign_keeps a b p h g =
      goes_then (goes_next (need_keeps (is_modifiable a.is) 133 a.first) (assigned_keeps (type_of a.is) b g)) λ y i.
      give_keeps (two_scoped h i)

  right_scoped : (o : IntOp) (s : Ty) (x : Term) → TermScoped js x → TermScoped js (right_of o s x)
  right_scoped o (Pointer s) x h = promoted_scoped x h
  right_scoped o s x h = if_scoped (is_shift o) _ _ (promoted_scoped x h) (converted_scoped _ x h)

  pub compound_keeps : (o : IntOp) (a b : Operand) (p : Pos) → Scoped js a → Scoped js b →
      Keeps js (Scoped js) (compound o a b p)
  compound_keeps o a b p h g =
      let t = bare (type_of a.is) in
      let u = type_of b.is in
      going λ c s at. run_next (run_next
      (run_need (not (is_additive o && is_pointer t && is_integer u) || is_counted s t) 132 a.first at) λ q at.
      run_need (is_modifiable a.is && compounds o t u) 133 a.first at) λ q at.
      run_give at (two_scoped h (right_scoped o t b.is g))

  pub stepped_keeps : (o : StepOperator) (in_front : Bool) (a : Operand) (p first : Pos) → Scoped js a →
      Keeps js (Scoped js) (stepped o in_front a p first)
  stepped_keeps o in_front a p first h =
      let t = bare (type_of a.is) in
      going λ b s at. run_next (run_next (run_need (is_counted s t) 132 first at) λ q at.
      run_need (is_modifiable a.is && is_scalar t && not (points_to_function t)) 133 first at) λ q at.
      run_give at (one_scoped h)

  -- ---- addresses and places

  taken_scopes : (x : Term) (s : State) → (taken x s).scopes ≡ s.scopes
  taken_scopes (term (tree.Var k) xs t p) s = refl
  taken_scopes x s = refl

  taken_bodies : (x : Term) (s : State) → BodiesScoped s.routines → BodiesScoped (taken x s).routines
  taken_bodies (term (tree.Var k) xs t p) s b = b
  taken_bodies x s b = b

  pub address_keeps : (a : Operand) (p : Pos) → Scoped js a → Keeps js (Scoped js) (address a p)
  address_keeps a p h =
      going λ b s at. run_next (run_next (run_need _ _ _ at) λ q at.
      run_kept (moved at (taken_scopes a.is q) (taken_bodies a.is q))) λ q at. run_give at (one_scoped h)

  pointed_keeps : (t : Ty) (p : Pos) → Keeps js Any (pointed t p)
  pointed_keeps (Pointer t) p =
      going λ b s at. run_next (run_need (is_function t || is_complete s t) 132 p at) λ q at. run_give at tt
  pointed_keeps t p = refuse_goes

  pub dereference_keeps : (a : Operand) (p first : Pos) → Scoped js a → Keeps js (Scoped js) (dereference a p first)
  dereference_keeps a p first h =
      goes_then (pointed_keeps (type_of a.is) first) λ t u. give_keeps (one_scoped h)

  pub index_keeps : (a b : Operand) (p : Pos) → Scoped js a → Scoped js b → Keeps js (Scoped js) (index a b p)
  index_keeps a b p h g = goes_then (sum_keeps a b p h g) λ x i. dereference_keeps x p a.first i

  members_keeps : (s : State) (t : Ty) (p : Pos) → Keeps js Any (members_in s t p)
  members_keeps s (Tagged n) p = some_keeps _ _ _
  members_keeps s t p = refuse_goes

  pub member_keeps : (a : Operand) (name : List ℕ) (p : Pos) → Scoped js a → Keeps js (Scoped js) (member a name p)
  member_keeps a name p h =
      going λ b s at. run_then ((members_keeps s (bare (type_of a.is)) a.first).run b s at) λ ms q at u.
      on (goes_then (some_keeps _ _ _) λ m v. give_keeps (one_scoped h)) at

  pub member_behind_keeps : (a : Operand) (name : List ℕ) (p : Pos) → Scoped js a →
      Keeps js (Scoped js) (member_behind a name p)
  member_behind_keeps a name p h = goes_then (dereference_keeps a p a.first h) λ x i. member_keeps x name p i

  -- ---- casts, sizes

  pub cast_keeps : (t : Ty) (a : Operand) (p : Pos) → Scoped js a → Keeps js (Scoped js) (cast t a p)
  cast_keeps t a p h = goes_next (need_keeps _ _ _) (give_keeps (tt, (h, tt)))

  pub sized_keeps : (t : Ty) (p : Pos) → Keeps js (Scoped js) (sized t p)
  sized_keeps t p =
      going λ b s at. run_next (run_need (is_complete s t) 132 p at) λ q at. run_give at leaf_scoped

  pub unevaluated_keeps : {B : Type 0} {P : B → Type 0} {d : Doing B} → Keeps js P d → Keeps js P (unevaluated d)
  unevaluated_keeps h =
      going λ b s at. let old = at.opened.bodies in
      run_then (h.run b s at) λ a q at i. run_give (moved at refl (λ c. old)) i

  -- ---- calls

  arguments_keeps : (ts : Tys) (xs : List Operand) → AllScoped js xs → Keeps js (ListScoped js) (arguments ts xs)
  arguments_keeps (also t ts) (x ∷ xs) h =
      goes_then (assigned_keeps t x h.0) λ y i. goes_then (arguments_keeps ts xs h.1) λ ys j. give_keeps (i, j)
  arguments_keeps no_types xs h = give_keeps tt
  arguments_keeps (also t ts) [] h = give_keeps tt

  call_of_keeps : (t : Ty) (f : Operand) (xs : List Operand) (p : Pos) → Scoped js f → AllScoped js xs →
      Keeps js (Scoped js) (call_of t f xs p)
  call_of_keeps (Pointer (Function r ps)) f xs p h g =
      goes_then (arguments_keeps ps xs g) λ ys i. goes_next (need_keeps _ _ _) (give_keeps (tt, (h, i)))
  call_of_keeps t f xs p h g = refuse_goes

  pub call_keeps : (f : Operand) (xs : List Operand) (p : Pos) → Scoped js f → AllScoped js xs →
      Keeps js (Scoped js) (call f xs p)
  call_keeps f xs p h g =
      going λ b s at. run_next (run_need _ _ _ at) λ q at. on (call_of_keeps (type_of f.is) f xs p h g) at

  asked_keeps : (a : Asked) (x : Operand) → Scoped js x → Keeps js (TermScoped js) (asked a x)
  asked_keeps Any_capability x h = goes_next (need_keeps _ _ _) (give_keeps h)
  asked_keeps (A t) x h = assigned_keeps t x h

  all_asked_keeps : (asks : List Asked) (xs : List Operand) → AllScoped js xs →
      Keeps js (ListScoped js) (all_asked asks xs)
  all_asked_keeps (a ∷ rest) (x ∷ xs) h =
      goes_then (asked_keeps a x h.0) λ y i. goes_then (all_asked_keeps rest xs h.1) λ ys j. give_keeps (i, j)
  all_asked_keeps [] xs h = give_keeps tt
  all_asked_keeps (a ∷ rest) [] h = give_keeps tt

  pub library_keeps : (f : Option Service) (k : ℕ) (xs : List Operand) (p first : Pos) → AllScoped js xs →
      Keeps js (Scoped js) (library_call f k xs p first)
  library_keeps None k xs p first h = refuse_goes
  library_keeps (Some f) k xs p first h =
      goes_then (all_asked_keeps f.takes xs h) λ ys i. goes_next (need_keeps _ _ _) (give_keeps (tt, i))
