-- The operators: what each gives has the facts of its node.
use Rattle.std.proofs.Common.{◌≡◌, Bool, true, false, List, Option, Some, None, Ok, refl, sym, ap, subst, ◌∙◌, inl, inr}
use Rattle.std.proofs.Common.{◌⊎◌, ⊎_elim}
use Rattle.std.specs.Prelude.{◌&&◌, ◌||◌, not, if◌then◌else◌}
use Rattle.std.proofs.lemmas.Bool.{false≢true, and_parts, and_from, or_cases, or_left, or_right, not-true}
use Rattle.std.proofs.lemmas.Option.{none-some, same_Some}
use Rattle.ck_base.specs.declared.positions.Pos.{Pos}
use Rattle.ck_int.specs.declared.kinds.IntOp.{IntOp}
use Rattle.ck_int.specs.declared.kinds.IntOp.TheVariants as op
use Rattle.ck_int.specs.declared.kinds.CmpOp.{CmpOp}
use Rattle.c_tree.specs.declared.typed.UnaryOp.{UnaryOp}
use Rattle.c_tree.specs.declared.typed.UnaryOp.TheVariants as unary
use Rattle.c_tree.specs.declared.syntax.InfixOperator.{InfixOperator}
use Rattle.c_tree.specs.declared.syntax.InfixOperator.TheVariants as infixes
use Rattle.c_tree.specs.declared.syntax.StepOperator.{StepOperator}
use Rattle.c_tree.specs.Types.{Ty, Void, Int, Cap, Pointer, Array, Tagged, Function, Const, Tys, int, long, bare}
use Rattle.c_tree.specs.Types.{bare_elements, is_const, is_integer, is_pointer, is_scalar, is_void, is_function}
use Rattle.c_tree.specs.Types.{is_tagged, same, compatible, compatible_bare, composite, promoted, common, qualified}
use Rattle.c_tree.specs.Terms.{Shape, Convert, Unary, Step, Plus, Difference, Compare, And, Or, Assign, Compound}
use Rattle.c_tree.specs.Terms.{Conditional, Term, term, no_terms, with_term, type_of, step, join, join_three}
use Rattle.c_tree.specs.Scopes.{TagState, State, Doing, is_complete, need, some_or, refuse, ◌>>◌}
use Rattle.c_tree.specs.Conversions.{Operand, operand_type, designates, converted_term, assigned}
use Rattle.c_tree.specs.Constants.{is_null_constant, is_zero, constant_of, is_constant, value_of, is_pointer_to_void}
use Rattle.c_tree.specs.Expressions.{gives, integer_join, arithmetic, shift_join, shift, unary_on, is_counted, moves}
use Rattle.c_tree.specs.Expressions.{promoted_term, sum_of, sum, differ, difference_of, difference, int_join}
use Rattle.c_tree.specs.Expressions.{is_void_pointer, both_agree, compared, logical, condition, infix_join}
use Rattle.c_tree.specs.Expressions.{with_const_of, pointer_arms, arms_type, conditional, is_modifiable, assign}
use Rattle.c_tree.specs.Expressions.{is_additive, is_shift, computed_in, right_of, compounds, compound, increments}
use Rattle.c_tree.specs.Expressions.{points_to_function, stepped}
use Rattle.c_tree.specs.WellTyped.{holds, OperandsFit, ArePromoted, UnaryFits}
use Rattle.typing_laws.proofs.Agreeing.{same_is, agree_self}
use Rattle.typing_laws.proofs.Facts.{Complete, TypeOk, IsValue, scalar, nothing, PointsTo, ComparesOk, OperandOk}
use Rattle.typing_laws.proofs.Facts.{ValueOk}
use Rattle.typing_laws.proofs.Facts.{Inv, Kept}
use Rattle.typing_laws.proofs.Growing.{grows_self, grows_on, operand_kept}
use Rattle.typing_laws.proofs.Steps.{given, needed, found, refused, first_then, needed_in, either}
use Rattle.typing_laws.proofs.Scalars.{implied, branched, void_is, integer_scalar, pointer_scalar, integer_ok}
use Rattle.typing_laws.proofs.Scalars.{integer_value, promoted_integer, promoted_self, common_integer}
use Rattle.typing_laws.proofs.Scalars.{common_is_promoted}
use Rattle.typing_laws.proofs.Scalars.{bare_ok, qualified_ok, bare_elements_ok, composite_ok, value_bare}
use Rattle.typing_laws.proofs.Numbers.{sized_is}
use Rattle.typing_laws.proofs.Converted.{Operands, IsConverted, gave, made, to_scalar, to_integer, to_same, to_promoted}
use Rattle.typing_laws.proofs.Converted.{assigned_ok}

same_self : (t : Ty) → same t t ≡ true
same_self t = agree_self _ (λ n. Rattle.std.proofs.lemmas.Bool.eq-eqb n n refl) t

-- a pointer that is moved over a complete type
counted : (m : Bool) (s : State) → Inv m s → (t : Ty) → TypeOk s.tags t → is_counted s (Pointer t) ≡ true →
    is_function t ≡ false → PointsTo s.tags (Pointer t)
counted m s i t o c f = ⊎_elim (λ g. absurd (false≢true (sym f ∙ g))) (λ k. (t, refl, sized_is s i.tags t o k))
    (or_cases (is_function t) (is_complete s t) c)

pub record Moves (t u : Ty) : Type 0 where
  pub target : Ty
  pub is : t ≡ Pointer target
  pub moved : is_function target ≡ false
  pub by : is_integer u ≡ true

moves_parts : (t u : Ty) → moves t u ≡ true → Moves t u
moves_parts (Pointer t) u e =
    let p = and_parts (not (is_function t)) (is_integer u) e in
    record { target = t; is = refl; moved = not-true (is_function t) p.0; by = p.1 }
moves_parts t u e = absurd (false≢true e)

moved_over : (m : Bool) (s : State) → Inv m s → (t u : Ty) → TypeOk s.tags t → Moves t u → is_counted s t ≡ true →
    PointsTo s.tags t
moved_over m s i t u o v c =
    let h = counted m s i v.target (subst (TypeOk s.tags) v.is o) (ap (is_counted s) (sym v.is) ∙ c) v.moved in
    (h.0, v.is ∙ h.1, h.2)

pointer_of : (t u : Ty) → Moves t u → is_pointer t ≡ true
pointer_of t u m = ap is_pointer m.is

-- what is compatible with a function, up to qualifiers, is not complete
function_of : (ts : List TagState) (t r : Ty) (ps : Tys) → compatible (bare_elements t) (Function r ps) ≡ true →
    Complete ts t → ⊥
function_of ts (Function q qs) r ps e c = none-some c.0 c.1
function_of ts (Const (Function q qs)) r ps e c = none-some c.0 c.1
function_of ts (Const Void) r ps e c = none-some c.0 c.1
function_of ts (Const (Int k n)) r ps e c = false≢true e
function_of ts (Const (Cap b)) r ps e c = false≢true e
function_of ts (Const (Pointer t)) r ps e c = false≢true e
function_of ts (Const (Array t n)) r ps e c = false≢true e
function_of ts (Const (Tagged n)) r ps e c = false≢true e
function_of ts (Const (Const t)) r ps e c = false≢true e
function_of ts Void r ps e c = false≢true e
function_of ts (Int k n) r ps e c = false≢true e
function_of ts (Cap b) r ps e c = false≢true e
function_of ts (Pointer t) r ps e c = false≢true e
function_of ts (Array t n) r ps e c = false≢true e
function_of ts (Tagged n) r ps e c = false≢true e

no_function : (ts : List TagState) (t u : Ty) → compatible_bare t u ≡ true → Complete ts t → is_function u ≡ false
no_function ts t (Function r ps) e c = absurd (function_of ts t r ps e c)
no_function ts t Void e c = refl
no_function ts t (Int k n) e c = refl
no_function ts t (Cap b) e c = refl
no_function ts t (Pointer u) e c = refl
no_function ts t (Array u n) e c = refl
no_function ts t (Tagged n) e c = refl
no_function ts t (Const u) e c = refl

differ_parts : (m : Bool) (s : State) → Inv m s → (t u : Ty) → TypeOk s.tags t → TypeOk s.tags u → differ t u ≡ true →
    is_counted s t ≡ true → is_counted s u ≡ true → PointsTo s.tags t × PointsTo s.tags u
differ_parts m s i (Pointer t) (Pointer u) o p d c k =
    let q = and_parts (not (is_function t)) (compatible_bare t u) d in
    let f = not-true (is_function t) q.0 in
    let a = ⊎_elim (λ g. absurd (false≢true (sym f ∙ g))) (λ k. sized_is s i.tags t o k)
    (or_cases (is_function t) (is_complete s t) c) in
    ((t, refl, a), counted m s i u p k (no_function s.tags t u q.1 (a.0, a.1)))
differ_parts m s i t u o p d c k = absurd (false≢true d)

differ_pointers : (t u : Ty) → differ t u ≡ true → (is_pointer t ≡ true) × (is_pointer u ≡ true)
differ_pointers (Pointer t) (Pointer u) d = (refl, refl)
differ_pointers t u d = absurd (false≢true d)

agree_pointers : (t u : Ty) → both_agree t u ≡ true → (is_pointer t ≡ true) × (is_pointer u ≡ true)
agree_pointers (Pointer t) (Pointer u) d = (refl, refl)
agree_pointers t u d = absurd (false≢true d)

void_pointer : (t : Ty) → is_void_pointer t ≡ true → is_pointer t ≡ true
void_pointer (Pointer t) e = refl
void_pointer t e = absurd (false≢true e)

pointer_ok : (ts : List TagState) (t : Ty) → is_pointer t ≡ true → is_scalar t ≡ true
pointer_ok ts t e = pointer_scalar t e

-- a null pointer constant is a scalar
constant_integer : (x : Term) → is_zero (constant_of x) ≡ true → is_integer (bare (type_of x)) ≡ true
unfolding constant_of
constant_integer x e =
    let b = is_constant x && is_integer (bare (type_of x)) in
    zero_of b refl e
  where
    zero_of : (b : Bool) → (is_constant x && is_integer (bare (type_of x))) ≡ b →
        is_zero (if b then value_of x else None) ≡ true → is_integer (bare (type_of x)) ≡ true
    zero_of true i z = (and_parts (is_constant x) (is_integer (bare (type_of x))) i).1
    zero_of false i z = absurd (false≢true z)

to_void_pointer : (t : Ty) → is_pointer_to_void t ≡ true → is_pointer t ≡ true
to_void_pointer (Pointer t) e = refl
to_void_pointer t e = absurd (false≢true e)

plain_null : (ts : List TagState) (x : Term) → is_zero (constant_of x) ≡ true → IsValue ts (type_of x) →
    is_scalar (type_of x) ≡ true
plain_null ts x e v = integer_scalar (type_of x)
    (ap is_integer (sym (value_bare ts (type_of x) v)) ∙ constant_integer x e)

pub null_scalar : (ts : List TagState) (x : Term) → is_null_constant x ≡ true → IsValue ts (type_of x) →
    is_scalar (type_of x) ≡ true
unfolding is_null_constant
null_scalar ts (term Convert (with_term x no_terms) t p) e v =
    ⊎_elim (λ z. plain_null ts (term Convert (with_term x no_terms) t p) z v)
    (λ z. pointer_scalar t (to_void_pointer t (and_parts (is_pointer_to_void t) (is_zero (constant_of x)) z).0))
    (or_cases (is_zero (constant_of (term Convert (with_term x no_terms) t p)))
    (is_pointer_to_void t && is_zero (constant_of x)) e)
null_scalar ts x e v = plain_null ts x e v

pub if_some : {A : Type 0} (b : Bool) (o r : Option A) (t : A) (P : Type 0) → (b ≡ true → o ≡ Some t → P) →
    (b ≡ false → r ≡ Some t → P) → (if b then o else r) ≡ Some t → P
if_some true o r t P f g e = f refl e
if_some false o r t P f g e = g refl e

-- ---- the type of two pointers in a conditional

with_const_ok : (ts : List TagState) (s t u : Ty) → TypeOk ts u → TypeOk ts (with_const_of s t u)
with_const_ok ts s t u h =
    branched (TypeOk ts) (is_const s || is_const t) (qualified u) u (λ _. qualified_ok ts u h) (λ _. h)

PointerArms : List TagState → Ty → Ty → Ty → Type 0
PointerArms ts s t v = (is_pointer s ≡ true) × (is_pointer t ≡ true) × (is_pointer v ≡ true) × TypeOk ts v

pointer_arms_ok : (ts : List TagState) (s t v : Ty) → TypeOk ts s → TypeOk ts t → pointer_arms s t ≡ Some v →
    PointerArms ts s t v
unfolding PointerArms
pointer_arms_ok ts (Pointer s) (Pointer t) v h k e =
    let c : Ty = Pointer (with_const_of s t (composite (bare_elements s) (bare_elements t))) in
    let d : Ty = Pointer (with_const_of s t Void) in
    if_some (compatible_bare s t) (Some c) (if is_void (bare s) || is_void (bare t) then Some d else None) v
    (PointerArms ts (Pointer s) (Pointer t) v)
    (λ b q. subst (PointerArms ts (Pointer s) (Pointer t)) (same_Some c v q) (
      refl,
      refl,
      refl,
      with_const_ok ts s t _
          (composite_ok ts (bare_elements s) (bare_elements t) b (bare_elements_ok ts s h) (bare_elements_ok ts t k)),
    ))
    (λ _ q. if_some (is_void (bare s) || is_void (bare t)) (Some d) None v (PointerArms ts (Pointer s) (Pointer t) v)
    (λ _ r. subst (PointerArms ts (Pointer s) (Pointer t)) (same_Some d v r)
    (refl, refl, refl, with_const_ok ts s t Void tt))
    (λ _ r. absurd (none-some v r)) q) e
pointer_arms_ok ts s t v h k e = absurd (none-some v e)

-- one step behind another
pub onward : {A B : Type 0} {Q : State → A → Type 0} {R : State → B → Type 0} (m e : Bool) (s : State) (y : A × State)
    (x : B × State) → Kept m e s Q y → Kept m e y.1 R x → Kept m e s R x
onward m e s y x k l = record { inv = l.inv; grown = grows_on e s y.1 x.1 k.grown l.grown; post = l.post }

module _ (m : Bool) (s : State) (i : Inv m s) where
  gives_value : (t : Term) (p : Pos) → designates t ≡ false → ValueOk m s t → (x : Operand × State) →
      gives t p s ≡ Ok x → Operands m s x
  gives_value t p d h x e = gave m s i t p (made m s t d h) x e

  -- ---- integers

  integer_join_ok : (o : IntOp) (a b : Term) (t : Ty) (p : Pos) → ValueOk m s a → ValueOk m s b → is_integer t ≡ true →
      OperandsFit o (type_of a) (type_of b) t → ArePromoted (type_of a) (type_of b) →
      OperandOk m s (integer_join o a b t p)
  integer_join_ok o a b (Int k n) p h j e f g =
      made m s _ refl (record { fits = ((h.fits, (j.fits, tt)), ((k, n, refl), f, g)); type = tt; value = scalar refl })
  integer_join_ok o a b (Cap c) p h j e f g =
      made m s _ refl (record { fits = ((h.fits, (j.fits, tt)), ((c, refl), f, g)); type = tt; value = scalar refl })
  integer_join_ok o a b t p h j e f g = absurd (false≢true e)

  shift_join_ok : (o : IntOp) (a b : Term) (t : Ty) (p : Pos) → ValueOk m s a → ValueOk m s b → is_integer t ≡ true →
      OperandsFit o (type_of a) (type_of b) t → ArePromoted (type_of a) (type_of b) →
      OperandOk m s (shift_join o a b t p)
  shift_join_ok o a b (Int k n) p h j e f g =
      made m s _ refl (record { fits = ((h.fits, (j.fits, tt)), ((k, n, refl), f, g)); type = tt; value = scalar refl })
  shift_join_ok o a b (Cap c) p h j e f g =
      made m s _ refl (record { fits = ((h.fits, (j.fits, tt)), ((c, refl), f, g)); type = tt; value = scalar refl })
  shift_join_ok o a b t p h j e f g = absurd (false≢true e)

  promoted_to : (t u : Ty) → promoted u ≡ u → t ≡ u → promoted t ≡ t
  promoted_to t u p e = ap promoted e ∙ p ∙ sym e

  arithmetic_ok : (o : IntOp) (a b : Operand) (p : Pos) → ValueOk m s a.is → ValueOk m s b.is → (x : Operand × State) →
      arithmetic o a b p s ≡ Ok x → Operands m s x
  arithmetic_ok o a b p h j x e =
      let t = common (operand_type a) (operand_type b) in
      let n = needed _ 133 a.first (gives (integer_join o (converted_term t a.is) (converted_term t b.is) t p) a.first)
      s x e in
      let q = and_parts (is_integer (operand_type a)) (is_integer (operand_type b)) n.0 in
      let k = common_integer (operand_type a) (operand_type b) q.0 q.1 in
      let c = to_integer m s t a.is h k q.0 in
      let d = to_integer m s t b.is j k q.1 in
      let l = common_is_promoted (operand_type a) (operand_type b) q.0 q.1 in
      gave m s i _ a.first (integer_join_ok o _ _ t p c.0 d.0 k (c.1, ap is_integer d.1 ∙ k, inl d.1)
      (promoted_to _ t l c.1, promoted_to _ t l d.1)) x n.1

  shift_ok : (o : IntOp) → is_shift o ≡ true → (a b : Operand) (p : Pos) → ValueOk m s a.is → ValueOk m s b.is →
      (x : Operand × State) → shift o a b p s ≡ Ok x → Operands m s x
  shift_ok o z a b p h j x e =
      let t = promoted (operand_type a) in
      let u = promoted (operand_type b) in
      let n = needed _ 133 a.first (gives (shift_join o (converted_term t a.is) (converted_term u b.is) t p) a.first) s
      x e in
      let q = and_parts (is_integer (operand_type a)) (is_integer (operand_type b)) n.0 in
      let k = promoted_integer (operand_type a) q.0 in
      let l = promoted_integer (operand_type b) q.1 in
      let c = to_integer m s t a.is h k q.0 in
      let d = to_integer m s u b.is j l q.1 in
      gave m s i _ a.first (shift_join_ok o _ _ t p c.0 d.0 k (c.1, ap is_integer d.1 ∙ l, inr z) (
        promoted_to _ t (promoted_self (operand_type a)) c.1,
        promoted_to _ u (promoted_self (operand_type b)) d.1,
      )) x n.1

  plain_unary : (o : UnaryOp) (a : Operand) (p : Pos) →
      ((t : Ty) → is_integer t ≡ true → promoted t ≡ t → (y : Ty) → y ≡ t → UnaryFits o y t) → ValueOk m s a.is →
      (x : Operand × State) →
      (need (is_integer (operand_type a)) 133 p
      >> gives (step (Unary o) (converted_term (promoted (operand_type a)) a.is) (promoted (operand_type a)) p) p)
      s ≡ Ok x → Operands m s x
  plain_unary o a p f h x e =
      let t = promoted (operand_type a) in
      let n = needed (is_integer (operand_type a)) 133 p (gives (step (Unary o) (converted_term t a.is) t p) p) s x e in
      let k = promoted_integer (operand_type a) n.0 in
      let c = to_integer m s t a.is h k n.0 in
      gives_value _ p refl (record {
        fits = ((c.0.fits, tt), f t k (promoted_self (operand_type a)) _ c.1);
        type = integer_ok s.tags t k;
        value = integer_value s.tags t k;
      }) x n.1

  pub unary_ok : (o : UnaryOp) (a : Operand) (p : Pos) → ValueOk m s a.is → (x : Operand × State) →
      unary_on o a p s ≡ Ok x → Operands m s x
  unary_ok unary.LogicalNot a p h x e =
      let n = needed _ 133 p (gives (step (Unary unary.LogicalNot) a.is int p) p) s x e in
      gives_value _ p refl (record { fits = ((h.fits, tt), (n.0, refl)); type = tt; value = scalar refl }) x n.1
  unary_ok unary.Plus a p h x e = plain_unary unary.Plus a p (λ t k q y i. (k, i, q)) h x e
  unary_ok unary.Minus a p h x e = plain_unary unary.Minus a p (λ t k q y i. (k, i, q)) h x e
  unary_ok unary.Complement a p h x e = plain_unary unary.Complement a p (λ t k q y i. (k, i, q)) h x e

  -- ---- pointers

  plus_ok : (minus : Bool) (a b : Term) (p : Pos) → ValueOk m s a → ValueOk m s b → Moves (type_of a) (type_of b) →
      is_counted s (type_of a) ≡ true → OperandOk m s (join (Plus minus) a (promoted_term b) (type_of a) p)
  plus_ok minus a b p h j v c =
      let d = to_promoted m s b j v.by in
      made m s _ refl (record {
        fits = (
          (h.fits, (d.0.fits, tt)),
          (
            moved_over m s i (type_of a) (type_of b) h.type v c,
            inl (refl, ap is_integer d.1 ∙ promoted_integer (type_of b) v.by),
          ),
        );
        type = h.type;
        value = scalar (pointer_scalar (type_of a) (pointer_of (type_of a) (type_of b) v));
      })

  plus_back_ok : (a b : Term) (p : Pos) → ValueOk m s a → ValueOk m s b → Moves (type_of b) (type_of a) →
      is_counted s (type_of b) ≡ true → OperandOk m s (join (Plus false) (promoted_term a) b (type_of b) p)
  plus_back_ok a b p h j v c =
      let d = to_promoted m s a h v.by in
      made m s _ refl (record {
        fits = (
          (d.0.fits, (j.fits, tt)),
          (
            moved_over m s i (type_of b) (type_of a) j.type v c,
            inr (refl, ap is_integer d.1 ∙ promoted_integer (type_of a) v.by, refl),
          ),
        );
        type = j.type;
        value = scalar (pointer_scalar (type_of b) (pointer_of (type_of b) (type_of a) v));
      })

  pub sum_ok : (a b : Operand) (p : Pos) → ValueOk m s a.is → ValueOk m s b.is → (x : Operand × State) →
      sum a b p s ≡ Ok x → Operands m s x
  sum_ok a b p h j x e =
      let t = operand_type a in let u = operand_type b in
      let n = needed_in (not (is_pointer t && is_integer u) || is_counted s t) 132 a.first
      (need (not (is_integer t && is_pointer u) || is_counted s u) 132 a.first) (λ _. sum_of a b p) s x e in
      let k = needed (not (is_integer t && is_pointer u) || is_counted s u) 132 a.first (sum_of a b p) s x n.1 in
      either (moves t u) (gives (join (Plus false) a.is (promoted_term b.is) t p) a.first)
      (if moves u t then gives (join (Plus false) (promoted_term a.is) b.is u p) a.first else arithmetic op.Add a b p) s
      x (Operands m s x)
      (λ v g. let w = moves_parts t u v in
      gave m s i _ a.first (plus_ok false a.is b.is p h j w
      (implied _ _ n.0 (and_from (is_pointer t) (is_integer u) (pointer_of t u w) w.by))) x g)
      (λ _ g. either (moves u t) (gives (join (Plus false) (promoted_term a.is) b.is u p) a.first)
      (arithmetic op.Add a b p) s x (Operands m s x)
      (λ v g. let w = moves_parts u t v in
      gave m s i _ a.first (plus_back_ok a.is b.is p h j w
      (implied _ _ k.0 (and_from (is_integer t) (is_pointer u) w.by (pointer_of u t w)))) x g)
      (λ _ g. arithmetic_ok op.Add a b p h j x g) g) k.1

  pub difference_ok : (a b : Operand) (p : Pos) → ValueOk m s a.is → ValueOk m s b.is → (x : Operand × State) →
      difference a b p s ≡ Ok x → Operands m s x
  difference_ok a b p h j x e =
      let t = operand_type a in let u = operand_type b in
      let n = needed_in (not (is_pointer t && is_scalar u) || is_counted s t) 132 a.first
      (need (not (is_pointer t && is_pointer u) || is_counted s u) 132 a.first)
      (λ _. difference_of a b p) s x e in
      let k = needed (not (is_pointer t && is_pointer u) || is_counted s u) 132 a.first (difference_of a b p) s x n.1 in
      either (moves t u) (gives (join (Plus true) a.is (promoted_term b.is) t p) a.first)
      (if differ t u then gives (join Difference a.is b.is long p) a.first else arithmetic op.Sub a b p) s x
      (Operands m s x)
      (λ v g. let w = moves_parts t u v in
      gave m s i _ a.first (plus_ok true a.is b.is p h j w
      (implied _ _ n.0 (and_from (is_pointer t) (is_scalar u) (pointer_of t u w) (integer_scalar u w.by)))) x g)
      (λ _ g. either (differ t u) (gives (join Difference a.is b.is long p) a.first) (arithmetic op.Sub a b p) s x
      (Operands m s x)
      (λ v g. let w = differ_pointers t u v in
      let q = differ_parts m s i t u h.type j.type v
      (implied _ _ n.0 (and_from (is_pointer t) (is_scalar u) w.0 (pointer_scalar u w.1)))
      (implied _ _ k.0 (and_from (is_pointer t) (is_pointer u) w.0 w.1)) in
      gives_value _ a.first refl (record {
        fits = ((h.fits, (j.fits, tt)), (q.0, q.1, refl));
        type = tt;
        value = scalar refl;
      }) x g)
      (λ _ g. arithmetic_ok op.Sub a b p h j x g) g) k.1

  int_join_ok : (o : IntOp) (a b : Operand) (p : Pos) → ValueOk m s a.is → ValueOk m s b.is → (x : Operand × State) →
      int_join o a b p s ≡ Ok x → Operands m s x
  int_join_ok op.Add a b p h j x e = sum_ok a b p h j x e
  int_join_ok op.Sub a b p h j x e = difference_ok a b p h j x e
  int_join_ok op.Shl a b p h j x e = shift_ok op.Shl refl a b p h j x e
  int_join_ok op.Shr a b p h j x e = shift_ok op.Shr refl a b p h j x e
  int_join_ok o a b p h j x e = arithmetic_ok o a b p h j x e

  -- ---- comparison and logic

  compare_node : (o : CmpOp) (y z : Term) (p : Pos) → ValueOk m s y → ValueOk m s z →
      ComparesOk (type_of y) (type_of z) → OperandOk m s (join (Compare o) y z int p)
  compare_node o y z p h j c =
      made m s _ refl (record { fits = ((h.fits, (j.fits, tt)), (refl, c)); type = tt; value = scalar refl })

  logical_ok : (n : Shape) →
      ((a b : Term) (p : Pos) → ValueOk m s a → ValueOk m s b → is_scalar (type_of a) ≡ true →
      is_scalar (type_of b) ≡ true → OperandOk m s (join n a b int p)) → (a b : Operand) (p : Pos) →
      ValueOk m s a.is → ValueOk m s b.is →
      (x : Operand × State) → logical n a b p s ≡ Ok x → Operands m s x
  logical_ok n f a b p h j x e =
      let k = needed _ 133 a.first (gives (join n a.is b.is int p) a.first) s x e in
      let q = and_parts (is_scalar (operand_type a)) (is_scalar (operand_type b)) k.0 in
      gave m s i _ a.first (f a.is b.is p h j q.0 q.1) x k.1

  pub compared_ok : (o : CmpOp) (a b : Operand) (p : Pos) → ValueOk m s a.is → ValueOk m s b.is →
      (x : Operand × State) → compared o a b p s ≡ Ok x → Operands m s x
  compared_ok o a b p h j x e =
      let t = operand_type a in let u = operand_type b in
      let W : Term → Term → Doing Operand = λ y z. gives (join (Compare o) y z int p) a.first in
      let with : (y z : Term) → ValueOk m s y → ValueOk m s z → ComparesOk (type_of y) (type_of z) → W y z s ≡ Ok x →
      Operands m s x = λ y z k l c g. gave m s i _ a.first (compare_node o y z p k l c) x g in
      let to_left : is_pointer t ≡ true → is_scalar u ≡ true → IsConverted m s t (converted_term t b.is) =
      λ q r. to_scalar m s t b.is j h.type (pointer_scalar t q) r in
      let to_right : is_pointer u ≡ true → is_scalar t ≡ true → IsConverted m s u (converted_term u a.is) =
      λ q r. to_scalar m s u a.is h j.type (pointer_scalar u q) r in
      let B6 : Doing Operand = refuse 133 a.first in
      let B5 : Doing Operand = (if is_void_pointer t && is_pointer u then W a.is (converted_term t b.is) else B6) in
      let B4 : Doing Operand = (if is_pointer t && is_void_pointer u then W (converted_term u a.is) b.is else B5) in
      let B3 : Doing Operand = (if both_agree t u then W a.is b.is else B4) in
      let B2 : Doing Operand = (if is_pointer u && is_null_constant a.is then W (converted_term u a.is) b.is else B3) in
      let B1 : Doing Operand = (if is_pointer t && is_null_constant b.is then W a.is (converted_term t b.is) else B2) in
      let left : is_pointer t ≡ true → is_scalar u ≡ true → W a.is (converted_term t b.is) s ≡ Ok x → Operands m s x =
      λ q r g. let c = to_left q r in with a.is _ h c.0 (inr (q, ap is_pointer c.1 ∙ q)) g in
      let right : is_pointer u ≡ true → is_scalar t ≡ true → W (converted_term u a.is) b.is s ≡ Ok x → Operands m s x =
      λ q r g. let c = to_right q r in with _ b.is c.0 j (inr (ap is_pointer c.1 ∙ q, q)) g in
      either (is_integer t && is_integer u) (W (converted_term (common t u) a.is) (converted_term (common t u) b.is)) B1
      s x (Operands m s x)
      (λ v g. let q = and_parts (is_integer t) (is_integer u) v in
      let k = common_integer t u q.0 q.1 in
      let c = to_integer m s (common t u) a.is h k q.0 in
      let d = to_integer m s (common t u) b.is j k q.1 in
      with _ _ c.0 d.0 (inl (ap is_integer c.1 ∙ k, c.1 ∙ sym d.1)) g)
      (λ _ g. either (is_pointer t && is_null_constant b.is) (W a.is (converted_term t b.is)) B2 s x (Operands m s x)
      (λ v g. let q = and_parts (is_pointer t) (is_null_constant b.is) v in
      left q.0 (null_scalar s.tags b.is q.1 j.value) g)
      (λ _ g. either (is_pointer u && is_null_constant a.is) (W (converted_term u a.is) b.is) B3 s x (Operands m s x)
      (λ v g. let q = and_parts (is_pointer u) (is_null_constant a.is) v in
      right q.0 (null_scalar s.tags a.is q.1 h.value) g)
      (λ _ g. either (both_agree t u) (W a.is b.is) B4 s x (Operands m s x)
      (λ v g. with a.is b.is h j (inr (agree_pointers t u v)) g)
      (λ _ g. either (is_pointer t && is_void_pointer u) (W (converted_term u a.is) b.is) B5 s x (Operands m s x)
      (λ v g. let q = and_parts (is_pointer t) (is_void_pointer u) v in
      right (void_pointer u q.1) (pointer_scalar t q.0) g)
      (λ _ g. either (is_void_pointer t && is_pointer u) (W a.is (converted_term t b.is)) B6 s x (Operands m s x)
      (λ v g. let q = and_parts (is_void_pointer t) (is_pointer u) v in
      left (void_pointer t q.0) (pointer_scalar u q.1) g)
      (λ _ g. refused _ x g) g) g) g) g) g) e

  pub condition_ok : (a : Operand) → ValueOk m s a.is → (x : Term × State) → condition a s ≡ Ok x →
      Kept m true s (λ r y. ValueOk m r y × holds (is_scalar (type_of y))) x
  condition_ok a h x e =
      let k = needed (is_scalar (operand_type a)) 133 a.first (λ r. Ok (a.is, r)) s x e in
      given (Kept m true s (λ r y. ValueOk m r y × holds (is_scalar (type_of y)))) a.is s x k.1
      (record { inv = i; grown = grows_self true s; post = (h, k.0) })

  pub infix_ok : (o : InfixOperator) (a b : Operand) (p : Pos) → ValueOk m s a.is → ValueOk m s b.is →
      (x : Operand × State) → infix_join o a b p s ≡ Ok x → Operands m s x
  infix_ok (infixes.Int o) a b p h j x e = int_join_ok o a b p h j x e
  infix_ok (infixes.Compare o) a b p h j x e = compared_ok o a b p h j x e
  infix_ok infixes.And a b p h j x e =
      logical_ok And (λ y z q k l c d. made m s _ refl
      (record { fits = ((k.fits, (l.fits, tt)), (refl, c, d)); type = tt; value = scalar refl })) a b p h j x e
  infix_ok infixes.Or a b p h j x e =
      logical_ok Or (λ y z q k l c d. made m s _ refl
      (record { fits = ((k.fits, (l.fits, tt)), (refl, c, d)); type = tt; value = scalar refl })) a b p h j x e
  infix_ok infixes.Comma a b p h j x e =
      gives_value _ a.first refl (record { fits = ((h.fits, (j.fits, tt)), refl); type = j.type; value = j.value }) x e

  -- ---- the conditional operator

  Arms : Operand → Operand → Ty → Type 0
  Arms b c t = TypeOk s.tags t × IsValue s.tags t × IsConverted m s t (converted_term t b.is) ×
      IsConverted m s t (converted_term t c.is)

  arms_ok : (b c : Operand) → ValueOk m s b.is → ValueOk m s c.is → (t : Ty) → arms_type b c ≡ Some t → Arms b c t
  unfolding Arms PointerArms
  arms_ok b c h j t e =
      let u = operand_type b in let v = operand_type c in
      let own : (x : Term) → ValueOk m s x → IsConverted m s (type_of x) (converted_term (type_of x) x) =
      λ x k. to_same m s (type_of x) x k k.type (same_self (type_of x)) in
      let O5 = pointer_arms u v in
      let O4 = (if is_pointer v && is_null_constant b.is then Some v else O5) in
      let O3 = (if is_pointer u && is_null_constant c.is then Some u else O4) in
      let O2 = (if is_tagged u && same u v then Some u else O3) in
      let O1 = (if is_void u && is_void v then Some Void else O2) in
      if_some (is_integer u && is_integer v) (Some (common u v)) O1 t (Arms b c t)
      (λ w q. let p = and_parts (is_integer u) (is_integer v) w in
      let k = common_integer u v p.0 p.1 in
      subst (Arms b c) (same_Some _ t q) (
        integer_ok s.tags _ k,
        integer_value s.tags _ k,
        to_integer m s _ b.is h k p.0,
        to_integer m s _ c.is j k p.1,
      ))
      (λ _ q. if_some (is_void u && is_void v) (Some Void) O2 t (Arms b c t)
      (λ w r. let p = and_parts (is_void u) (is_void v) w in
      subst (Arms b c) (same_Some Void t r) (
        tt,
        nothing refl,
        to_same m s Void b.is h tt (ap (λ z. same z Void) (void_is u p.0)),
        to_same m s Void c.is j tt (ap (λ z. same z Void) (void_is v p.1)),
      ))
      (λ _ r. if_some (is_tagged u && same u v) (Some u) O3 t (Arms b c t)
      (λ w k. let p = and_parts (is_tagged u) (same u v) w in
      subst (Arms b c) (same_Some u t k)
      (h.type, h.value, own b.is h, to_same m s u c.is j h.type (ap (same v) (same_is u v p.1) ∙ same_self v)))
      (λ _ k. if_some (is_pointer u && is_null_constant c.is) (Some u) O4 t (Arms b c t)
      (λ w l. let p = and_parts (is_pointer u) (is_null_constant c.is) w in
      subst (Arms b c) (same_Some u t l) (
        h.type,
        h.value,
        own b.is h,
        to_scalar m s u c.is j h.type (pointer_scalar u p.0) (null_scalar s.tags c.is p.1 j.value),
      ))
      (λ _ l. if_some (is_pointer v && is_null_constant b.is) (Some v) O5 t (Arms b c t)
      (λ w n. let p = and_parts (is_pointer v) (is_null_constant b.is) w in
      subst (Arms b c) (same_Some v t n) (
        j.type,
        j.value,
        to_scalar m s v b.is h j.type (pointer_scalar v p.0) (null_scalar s.tags b.is p.1 h.value),
        own c.is j,
      ))
      (λ _ n. let p = pointer_arms_ok s.tags u v t h.type j.type n in
      let z = pointer_scalar t p.2 in (
        p.3,
        scalar z,
        to_scalar m s t b.is h p.3 z (pointer_scalar u p.0),
        to_scalar m s t c.is j p.3 z (pointer_scalar v p.1),
      )) l) k) r) q) e

  pub conditional_ok : (a b c : Operand) (p : Pos) → ValueOk m s a.is → ValueOk m s b.is → ValueOk m s c.is →
      (x : Operand × State) → conditional a b c p s ≡ Ok x → Operands m s x
  unfolding Arms
  conditional_ok a b c p h j l x e =
      let n = needed_in (is_scalar (operand_type a)) 133 a.first (some_or (arms_type b c) 133 a.first)
      (λ t. gives (join_three Conditional a.is (converted_term t b.is) (converted_term t c.is) t p) a.first) s x
      e in
      let f = found (arms_type b c) 133 a.first
      (λ t. gives (join_three Conditional a.is (converted_term t b.is) (converted_term t c.is) t p) a.first) s x
      n.1 in
      let k = arms_ok b c j l f.0 f.1 in
      gives_value _ a.first refl (record {
        fits = ((h.fits, (k.2.0.fits, (k.3.0.fits, tt))), (n.0, k.2.1, k.3.1));
        type = k.0;
        value = k.1;
      }) x f.2

  -- ---- assignment

  pub assign_ok : (a b : Operand) (p : Pos) → OperandOk m s a.is → ValueOk m s b.is → (x : Operand × State) →
      assign a b p s ≡ Ok x → Operands m s x
  assign_ok a b p h j x e =
      let go : Term → Doing Operand = λ y. gives (join Assign a.is y (bare (operand_type a)) p) a.first in
      let n = needed_in (is_modifiable a.is) 133 a.first (assigned (operand_type a) b) go s x e in
      let f = first_then (assigned (operand_type a) b s) go x n.1 in
      let k = assigned_ok m s i (operand_type a) b h.type j f.0 f.1 in
      let r = f.0.1 in
      let l = operand_kept m s r k.grown.refers a.is h in
      let q = k.post in
      let node : OperandOk m r (join Assign a.is f.0.0 (bare (operand_type a)) p) = made m r _ refl (record {
        fits = ((l.fits, (q.value.fits, tt)), (n.0, refl, q.type, q.kind, q.complete));
        type = bare_ok r.tags (operand_type a) l.type;
        value = subst (IsValue r.tags) q.type q.value.value;
      }) in
      onward m true s f.0 x k (gave m r k.inv _ a.first node x f.2)

  additive_pointer : (o : IntOp) (u t : Ty) → compounds o u t ≡ true → is_integer u ≡ false →
      (is_additive o ≡ true) × Moves u t
  additive_pointer o u t c f =
      ⊎_elim (λ w. let p = and_parts (is_additive o) (moves u t) w in (p.0, moves_parts u t p.1))
      (λ w. absurd (false≢true (sym f ∙ (and_parts (is_integer u) (is_integer t) w).0)))
      (or_cases (is_additive o && moves u t) (is_integer u && is_integer t) c)

  compounds_integer : (o : IntOp) (u t : Ty) → compounds o u t ≡ true → is_integer u ≡ true → is_integer t ≡ true
  compounds_integer o u t c f =
      ⊎_elim (λ w. (moves_parts u t (and_parts (is_additive o) (moves u t) w).1).by)
      (λ w. (and_parts (is_integer u) (is_integer t) w).1)
      (or_cases (is_additive o && moves u t) (is_integer u && is_integer t) c)

  -- the right operand of a compound assignment to an integer, and the type in which it is computed
  RightOf : IntOp → Ty → Term → Ty → Term → Type 0
  RightOf o u b of y = ValueOk m s y × OperandsFit o of (type_of y) of × (is_integer of ≡ true)

  right_by : (o : IntOp) (c : Bool) (u : Ty) (b : Term) → is_shift o ≡ c → ValueOk m s b → is_integer u ≡ true →
      is_integer (type_of b) ≡ true →
      RightOf o u b (if c then promoted u else common u (type_of b))
      (if c then promoted_term b else converted_term (common u (type_of b)) b)
  unfolding RightOf
  right_by o true u b e h p q =
      let d = to_promoted m s b h q in
      (d.0, (refl, ap is_integer d.1 ∙ promoted_integer (type_of b) q, inr e), promoted_integer u p)
  right_by o false u b e h p q =
      let k = common_integer u (type_of b) p q in
      let d = to_integer m s (common u (type_of b)) b h k q in (d.0, (refl, ap is_integer d.1 ∙ k, inl d.1), k)

  compound_integer : (o : IntOp) (a b : Term) (u of : Ty) (y : Term) (p : Pos) → OperandOk m s a →
      u ≡ bare (type_of a) → is_integer u ≡ true → is_modifiable a ≡ true → RightOf o u b of y →
      OperandOk m s (join (Compound o of) a y u p)
  unfolding RightOf
  compound_integer o a b u of y p h q k w r =
      made m s _ refl (record {
        fits = ((h.fits, (r.0.fits, tt)), (w, q, inr (k, r.1, r.2)));
        type = integer_ok s.tags u k;
        value = integer_value s.tags u k;
      })

  compound_node : (o : IntOp) (a b : Term) (u : Ty) (p : Pos) → u ≡ bare (type_of a) → OperandOk m s a → ValueOk m s b →
      (is_additive o ≡ true → is_pointer u ≡ true → is_integer (type_of b) ≡ true → is_counted s u ≡ true) →
      is_modifiable a ≡ true → compounds o u (type_of b) ≡ true →
      OperandOk m s (join (Compound o (computed_in o u (type_of b))) a (right_of o u b) u p)
  compound_node o a b (Pointer t) p q h j c w k =
      let v = additive_pointer o (Pointer t) (type_of b) k refl in
      let d = to_promoted m s b j v.1.by in
      made m s _ refl (record {
        fits = (
          (h.fits, (d.0.fits, tt)),
          (
            w,
            q,
            inl (
              moved_over m s i (Pointer t) (type_of b)
                  (subst (TypeOk s.tags) (sym q) (bare_ok s.tags (type_of a) h.type)) v.1 (c v.0 refl v.1.by),
              refl,
              ap is_integer d.1 ∙ promoted_integer (type_of b) v.1.by,
            ),
          ),
        );
        type = subst (TypeOk s.tags) (sym q) (bare_ok s.tags (type_of a) h.type);
        value = scalar refl;
      })
  compound_node o a b (Int l n) p q h j c w k =
      compound_integer o a b (Int l n) _ _ p h q refl w
      (right_by o (is_shift o) (Int l n) b refl j refl (compounds_integer o (Int l n) (type_of b) k refl))
  compound_node o a b (Cap l) p q h j c w k =
      compound_integer o a b (Cap l) _ _ p h q refl w
      (right_by o (is_shift o) (Cap l) b refl j refl (compounds_integer o (Cap l) (type_of b) k refl))
  compound_node o a b Void p q h j c w k =
      absurd (false≢true (ap is_pointer (additive_pointer o Void (type_of b) k refl).1.is))
  compound_node o a b (Array t n) p q h j c w k =
      absurd (false≢true (ap is_pointer (additive_pointer o (Array t n) (type_of b) k refl).1.is))
  compound_node o a b (Tagged n) p q h j c w k =
      absurd (false≢true (ap is_pointer (additive_pointer o (Tagged n) (type_of b) k refl).1.is))
  compound_node o a b (Function r ps) p q h j c w k =
      absurd (false≢true (ap is_pointer (additive_pointer o (Function r ps) (type_of b) k refl).1.is))
  compound_node o a b (Const t) p q h j c w k =
      absurd (false≢true (ap is_pointer (additive_pointer o (Const t) (type_of b) k refl).1.is))

  pub compound_ok : (o : IntOp) (a b : Operand) (p : Pos) → OperandOk m s a.is → ValueOk m s b.is →
      (x : Operand × State) → compound o a b p s ≡ Ok x → Operands m s x
  compound_ok o a b p h j x e =
      let u = bare (operand_type a) in let t = operand_type b in
      let d : Doing Operand = gives (join (Compound o (computed_in o u t)) a.is (right_of o u b.is) u p) a.first in
      let n = needed_in (not (is_additive o && is_pointer u && is_integer t) || is_counted s u) 132 a.first
      (need (is_modifiable a.is && compounds o u t) 133 a.first) (λ _. d) s x e in
      let k = needed (is_modifiable a.is && compounds o u t) 133 a.first d s x n.1 in
      let q = and_parts (is_modifiable a.is) (compounds o u t) k.0 in
      gave m s i _ a.first (compound_node o a.is b.is u p refl h j
      (λ v w z. implied (is_additive o && is_pointer u && is_integer t) (is_counted s u) n.0
      (and_from (is_additive o && is_pointer u) (is_integer t) (and_from (is_additive o) (is_pointer u) v w) z))
      q.0 q.1) x k.1

  -- ---- steps

  step_kind : (t : Ty) → TypeOk s.tags t → is_counted s t ≡ true → is_scalar t ≡ true →
      not (points_to_function t) ≡ true → holds (is_integer t) ⊎ PointsTo s.tags t
  step_kind (Int k n) o c v f = inl refl
  step_kind (Cap b) o c v f = inl refl
  step_kind (Pointer t) o c v f = inr (counted m s i t o c (not-true (is_function t) f))
  step_kind t o c v f = absurd (false≢true v)

  pub stepped_ok : (o : StepOperator) (in_front : Bool) (a : Operand) (p first : Pos) → OperandOk m s a.is →
      (x : Operand × State) → stepped o in_front a p first s ≡ Ok x → Operands m s x
  stepped_ok o in_front a p first h x e =
      let t = bare (operand_type a) in
      let d : Doing Operand = gives (step (Step (increments o) in_front) a.is t p) first in
      let n = needed_in (is_counted s t) 132 first
      (need (is_modifiable a.is && is_scalar t && not (points_to_function t)) 133 first) (λ _. d) s x e in
      let k = needed (is_modifiable a.is && is_scalar t && not (points_to_function t)) 133 first d s x n.1 in
      let q = and_parts (is_modifiable a.is && is_scalar t) (not (points_to_function t)) k.0 in
      let w = and_parts (is_modifiable a.is) (is_scalar t) q.0 in
      gives_value _ first refl (record {
        fits = ((h.fits, tt), (w.0, refl, step_kind t (bare_ok s.tags (operand_type a) h.type) n.0 w.1 q.1));
        type = bare_ok s.tags (operand_type a) h.type;
        value = scalar w.1;
      }) x k.1
