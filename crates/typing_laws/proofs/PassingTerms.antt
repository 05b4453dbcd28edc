-- Expressions as they are run fit where the written ones do (C11 6.5).
use Rattle.std.proofs.Common.{◌≡◌, ℕ, zero, suc, Bool, true, List, [], ◌∷◌, Some, refl, sym, ap, subst, ◌∙◌, inl, inr}
use Rattle.std.proofs.Common.{⊎_elim}
use Rattle.std.specs.Prelude.{slice_get, map, option_map, not, ◌&&◌, ◌||◌}
use Rattle.std.proofs.lemmas.Bool.{false≢true}
use Rattle.std.proofs.lemmas.Option.{same_Some, slice_get-map}
use Rattle.ck_int.specs.declared.kinds.IntOp.{IntOp}
use Rattle.c_tree.specs.declared.typed.UnaryOp.{UnaryOp}
use Rattle.c_tree.specs.declared.typed.UnaryOp.TheVariants as unary
use Rattle.c_tree.specs.Types.{Ty, Int, Cap, Pointer, Tagged, Const, Tys, no_types, also, bare, is_const, is_integer}
use Rattle.c_tree.specs.Types.{is_pointer, is_scalar, is_array, is_function, is_tagged, is_capability, promoted}
use Rattle.c_tree.specs.Terms.{Term, Terms, no_terms, with_term, type_of}
use Rattle.c_tree.specs.Scopes.{TagState}
use Rattle.c_tree.specs.Conversions.{is_place, is_member, designates}
use Rattle.c_tree.specs.Expressions.{is_modifiable, as_qualified, given_type}
use Rattle.c_tree.specs.Libraries.{Asked, Any_capability, A, Given, Of, As_argument, Service, services}
use Rattle.c_tree.specs.WellTyped.{holds, OperandsFit, ArePromoted, Decays, UnaryFits, AllAskedFit, list_of}
use Rattle.c_tree.specs.WellTyped.{ConstantFits}
use Rattle.c_tree.specs.Passed.{by_pointer, passed, all_passed}
use Rattle.typing_laws.proofs.Facts.{Complete, IsValue, scalar, nothing, tagged, is_named, SumOk, CompoundOk, MemberOk}
use Rattle.typing_laws.proofs.Facts.{ComparesOk, AllTaken}
use Rattle.typing_laws.proofs.Scalars.{branched}
use Rattle.typing_laws.proofs.PassingTypes.{bare_passed, scalar_passed, pointer_passed, integer_passed}
use Rattle.typing_laws.proofs.PassingTypes.{capability_passed}
use Rattle.typing_laws.proofs.PassingTypes.{functions_passed, array_passed, const_passed, passed_integer}
use Rattle.typing_laws.proofs.PassingTypes.{as_qualified_passed, passed_part, passed_parts, passed_record}
use Rattle.typing_laws.proofs.PassingTypes.{passed_records}
use Rattle.typing_laws.proofs.PassingTypes.{record_passed, complete_passed, points_passed}

-- ---- what stays of an expression

pub record Like (x y : Term) : Type 0 where
  pub type : type_of y ≡ passed (type_of x)
  pub place : is_place y ≡ is_place x
  pub member : is_member y ≡ is_member x
  pub named : is_named y ≡ is_named x

abbrev pub AllLike : Terms → Terms → Type 0
AllLike no_terms no_terms = Unit {0}
AllLike (with_term x xs) (with_term y ys) = Like x y × AllLike xs ys
AllLike xs ys = ⊥

pub designates_like : (x y : Term) → Like x y → designates y ≡ designates x
designates_like x y l = ap (λ b. b || is_member y) l.place ∙ ap (λ b. is_place x || b) l.member

-- a test of a type that passing does not change
pub test_like : (test : Ty → Bool) → ((t : Ty) → test (passed t) ≡ test t) → (x y : Term) → Like x y →
    test (type_of y) ≡ test (type_of x)
test_like test h x y l = ap test l.type ∙ h (type_of x)

pub modifiable_like : (x y : Term) → Like x y → is_modifiable y ≡ is_modifiable x
modifiable_like x y l =
    let c = test_like is_const const_passed x y l in
    let a = test_like is_array array_passed x y l in
    let f = test_like is_function functions_passed x y l in
    ap (λ b. b && not (is_const (type_of y)) && not (is_array (type_of y)) && not (is_function (type_of y))) l.place
    ∙ ap (λ b. is_place x && not b && not (is_array (type_of y)) && not (is_function (type_of y))) c
    ∙ ap (λ b. is_place x && not (is_const (type_of x)) && not b && not (is_function (type_of y))) a
    ∙ ap (λ b. is_place x && not (is_const (type_of x)) && not (is_array (type_of x)) && not b) f

-- ---- library functions give and take what has no struct or union

abbrev PlainAsked : Asked → Type 0
PlainAsked Any_capability = Unit {0}
PlainAsked (A t) = passed t ≡ t

abbrev AllPlain : List Asked → Type 0
AllPlain [] = Unit {0}
AllPlain (a ∷ rest) = PlainAsked a × AllPlain rest

abbrev PlainGiven : Given → Type 0
PlainGiven (Of t) = passed t ≡ t
PlainGiven As_argument = Unit {0}

abbrev PlainService : Service → Type 0
PlainService f = AllPlain f.takes × PlainGiven f.gives

abbrev PlainServices : List Service → Type 0
PlainServices [] = Unit {0}
PlainServices (f ∷ fs) = PlainService f × PlainServices fs

pub services_plain : PlainServices services
unfolding services
services_plain = (
  ((refl, tt), refl),
  (
    (tt, refl),
    (
      ((refl, tt), refl),
      (
        ((refl, tt), refl),
        (
          ((tt, tt), refl),
          (
            ((tt, tt), refl),
            (
              ((tt, tt), refl),
              (
                ((tt, tt), refl),
                (
                  ((tt, tt), refl),
                  (
                    ((tt, tt), refl),
                    (
                      ((tt, (refl, tt)), tt),
                      (
                        ((tt, tt), tt),
                        (
                          ((tt, (refl, tt)), tt),
                          (
                            ((tt, (refl, tt)), tt),
                            (
                              ((tt, (refl, tt)), tt),
                              (((tt, (tt, tt)), refl), (((refl, tt), refl), (((refl, tt), refl), tt))),
                            ),
                          ),
                        ),
                      ),
                    ),
                  ),
                ),
              ),
            ),
          ),
        ),
      ),
    ),
  ),
)

pub plain_service : (fs : List Service) (k : ℕ) (f : Service) → PlainServices fs → slice_get fs k ≡ Some f →
    PlainService f
plain_service [] k f h e = absurd cc
plain_service (g ∷ fs) zero f h e = subst PlainService (same_Some g f e) h.0
plain_service (g ∷ fs) (suc k) f h e = plain_service fs k f h.1 e

pub asked_like : (asks : List Asked) (xs ys : Terms) → AllPlain asks → AllLike xs ys → AllAskedFit asks xs →
    AllAskedFit asks ys
asked_like [] no_terms no_terms p l h = tt
asked_like (Any_capability ∷ rest) (with_term x xs) (with_term y ys) p l h =
    (test_like is_capability capability_passed x y l.0 ∙ h.0, asked_like rest xs ys p.1 l.1 h.1)
asked_like (A t ∷ rest) (with_term x xs) (with_term y ys) p l h =
    (l.0.type ∙ ap passed h.0 ∙ p.0, asked_like rest xs ys p.1 l.1 h.1)
asked_like [] no_terms (with_term y ys) p l h = absurd l
asked_like [] (with_term x xs) ys p l h = absurd h
asked_like (a ∷ rest) no_terms ys p l h = absurd h
asked_like (a ∷ rest) (with_term x xs) no_terms p l h = absurd l

pub given_like : (g : Given) (xs ys : Terms) → PlainGiven g → AllLike xs ys →
    passed (given_type g (list_of xs)) ≡ given_type g (list_of ys)
given_like (Of t) xs ys p l = p
given_like As_argument no_terms no_terms p l = refl
given_like As_argument (with_term x xs) (with_term y ys) p l = sym l.0.type
given_like As_argument no_terms (with_term y ys) p l = absurd l
given_like As_argument (with_term x xs) no_terms p l = absurd l

-- ---- rules on types alone

pub constant_moves : (t : Ty) (n : ℕ) → ConstantFits (bare t) n × holds (is_scalar t) →
    ConstantFits (bare (passed t)) n × holds (is_scalar (passed t))
constant_moves (Int k i) n h = h
constant_moves (Cap s) n h = h
constant_moves (Pointer t) n h = h
constant_moves t n h = absurd (false≢true h.1)

pub unary_moves : (o : UnaryOp) (s u t : Ty) → u ≡ passed s → UnaryFits o s t → UnaryFits o u (passed t)
unary_moves unary.LogicalNot s u t e h = (ap is_scalar e ∙ scalar_passed s ∙ h.0, ap passed h.1)
unary_moves o s u t e h =
    let p = passed_integer t h.0 in (ap is_integer p ∙ h.0, e ∙ ap passed h.1, ap promoted p ∙ h.2 ∙ sym p)

operands_move : (o : IntOp) (s u t v w : Ty) → v ≡ passed s → w ≡ passed u → OperandsFit o s u t →
    OperandsFit o v w (passed t)
operands_move o s u t v w e f h =
    (e ∙ ap passed h.0, ap is_integer f ∙ integer_passed u ∙ h.1, ⊎_elim (λ a. inl (f ∙ ap passed a)) (λ a. inr a) h.2)

promoted_moves : (s v : Ty) → v ≡ passed s → is_integer s ≡ true → promoted s ≡ s → promoted v ≡ v
promoted_moves s v e i p = let z : v ≡ s = e ∙ passed_integer s i in ap promoted z ∙ p ∙ sym z

-- the operands of an operation on integers
pub arithmetic_moves : (o : IntOp) (s u t v w : Ty) → v ≡ passed s → w ≡ passed u → is_integer t ≡ true →
    OperandsFit o s u t → ArePromoted s u → OperandsFit o v w (passed t) × ArePromoted v w
arithmetic_moves o s u t v w e f i h p =
    (operands_move o s u t v w e f h, (promoted_moves s v e (ap is_integer h.0 ∙ i) p.0, promoted_moves u w f h.1 p.1))

pub decays_move : (s u t : Ty) → u ≡ passed s → Decays s t → Decays u (passed t)
decays_move s u t e h =
    ⊎_elim (λ z. inl (passed z.0, z.1, e ∙ ap passed z.2, ap passed z.3))
    (λ z. inr (ap is_function e ∙ functions_passed s ∙ z.0, ap passed z.1 ∙ ap Pointer (sym e))) h

pub compares_move : (s u v w : Ty) → v ≡ passed s → w ≡ passed u → ComparesOk s u → ComparesOk v w
compares_move s u v w e f h =
    ⊎_elim (λ z. inl (ap is_integer e ∙ integer_passed s ∙ z.0, e ∙ ap passed z.1 ∙ sym f))
    (λ z. inr (ap is_pointer e ∙ pointer_passed s ∙ z.0, ap is_pointer f ∙ pointer_passed u ∙ z.1)) h

pub sum_moves : (ts : List TagState) (minus : Bool) (s u t v w : Ty) → v ≡ passed s → w ≡ passed u →
    SumOk ts minus s u t → SumOk (passed_records ts) minus v w (passed t)
sum_moves ts minus s u t v w e f h = (
  points_passed ts t h.0,
  ⊎_elim (λ z. inl (e ∙ ap passed z.0, ap is_integer f ∙ integer_passed u ∙ z.1))
      (λ z. inr (z.0, ap is_integer e ∙ integer_passed s ∙ z.1, f ∙ ap passed z.2)) h.1,
)

pub compound_moves : (ts : List TagState) (o : IntOp) (of u t w : Ty) → w ≡ passed u → CompoundOk ts o of u t →
    CompoundOk (passed_records ts) o (passed of) w (passed t)
compound_moves ts o of u t w f h =
    ⊎_elim (λ z. inl (points_passed ts t z.0, ap passed z.1, ap is_integer f ∙ integer_passed u ∙ z.2))
    (λ z. inr (integer_passed t ∙ z.0, operands_move o of u of (passed of) w refl f z.1, integer_passed of ∙ z.2)) h

pub member_moves : (ts : List TagState) (s u : Ty) (k : ℕ) (t : Ty) → u ≡ passed s → MemberOk ts s k t →
    MemberOk (passed_records ts) u k (passed t)
member_moves ts s u k t e h = (
  h.0,
  passed_record h.1,
  map passed_part h.2,
  passed_part h.3,
  ap bare e ∙ bare_passed s ∙ ap passed h.4,
  record_passed ts h.0 h.1 h.5,
  ap passed_parts h.6,
  slice_get-map passed_part h.2 k ∙ ap (option_map passed_part) h.7,
  ap passed h.8 ∙ sym (as_qualified_passed s h.3.of) ∙ ap (λ v. as_qualified v (passed h.3.of)) (sym e),
)

-- what a value's type is without qualifiers
pub value_bare : (ts : List TagState) (t : Ty) → IsValue ts t → bare t ≡ t
value_bare ts (Const t) (scalar e) = absurd (false≢true e)
value_bare ts t (scalar e) = refl
value_bare ts t (nothing e) = ap bare e ∙ sym e
value_bare ts t (tagged n e c) = ap bare e ∙ sym e

pub value_complete : (ts : List TagState) (t : Ty) → IsValue ts t → is_tagged t ≡ true → Complete ts t
value_complete ts (Tagged n) (scalar e) h = absurd (false≢true e)
value_complete ts (Tagged n) (nothing e) h = absurd cc
value_complete ts t (tagged n e c) h = c
value_complete ts t v h = absurd (false≢true h)

pub taken_moves : (ts : List TagState) (ps : Tys) → AllTaken ts ps → AllTaken (passed_records ts) (all_passed ps)
taken_moves ts no_types h = tt
taken_moves ts (also p ps) h =
    let u = branched (λ u. (bare u ≡ u) × Complete (passed_records ts) u) (by_pointer p) (Pointer (bare p)) (passed p)
    (λ e. (refl, (_, refl))) (λ e. (bare_passed p ∙ ap passed h.0, complete_passed ts p h.1)) in
    (u.0, u.1, taken_moves ts ps h.2)
