-- What follows of the type of a value: it is no array and no function.
use Rattle.std.proofs.Common.{◌≡◌, ℕ, zero, suc, Bool, true, false, List, [], ◌∷◌, Some, refl, sym, ap, subst, ◌∙◌, ◌⊎◌}
use Rattle.std.proofs.Common.{⊎_elim}
use Rattle.std.specs.Prelude.{slice_get, not, ◌&&◌, ◌||◌}
use Rattle.std.proofs.lemmas.Bool.{false≢true}
use Rattle.std.proofs.lemmas.Option.{same_Some}
use Rattle.ck_base.specs.declared.positions.Pos.{Pos}
use Rattle.c_tree.specs.Conversions.{is_place, designates}
use Rattle.c_tree.specs.Expressions.{is_modifiable, given_type}
use Rattle.c_tree.specs.Libraries.{Asked, Any_capability, A, Given, Of, As_argument, Service, services}
use Rattle.c_tree.specs.Scopes.{TagState, RoutineState, State}
use Rattle.c_tree.specs.Terms as tree
use Rattle.c_tree.specs.Terms.{Term, Terms, term, no_terms, with_term, type_of}
use Rattle.c_tree.specs.Types.{Ty, Void, Int, Cap, Pointer, Array, Tagged, Function, is_integer, is_scalar, adjusted}
use Rattle.c_tree.specs.Types.{is_void, is_tagged, is_function, is_capability}
use Rattle.c_tree.specs.WellTyped.{UnaryFits, Decays, AllAskedFit, list_of}
use Rattle.c_tree.specs.declared.typed.UnaryOp.{UnaryOp}
use Rattle.c_tree.specs.declared.typed.UnaryOp.TheVariants as unary
use Rattle.typing_laws.proofs.Agreeing.{refines}
use Rattle.typing_laws.proofs.Facts.{IsValue, scalar, nothing, tagged, ShapeOk, TermOk}
use Rattle.typing_laws.specs.Valued.{is_plain}
use Rattle.typing_laws.proofs.values.Made.{is_read, TermWorth}

abbrev pub is_stored : Ty → Bool
is_stored (Array t n) = true
is_stored (Function r ps) = true
is_stored t = false

pub adjusted_unstored : (t : Ty) → is_stored (adjusted t) ≡ false
adjusted_unstored (Array t n) = refl
adjusted_unstored (Function r ps) = refl
adjusted_unstored t = refl

integer_unstored : (t : Ty) → is_integer t ≡ true → is_stored t ≡ false
integer_unstored (Int k n) e = refl
integer_unstored (Cap s) e = refl
integer_unstored t e = absurd (false≢true e)

scalar_unstored : (t : Ty) → is_scalar t ≡ true → is_stored t ≡ false
scalar_unstored (Int k n) e = refl
scalar_unstored (Cap s) e = refl
scalar_unstored (Pointer t) e = refl
scalar_unstored t e = absurd (false≢true e)

void_unstored : (t : Ty) → is_void t ≡ true → is_stored t ≡ false
void_unstored Void e = refl
void_unstored t e = absurd (false≢true e)

tagged_unstored : (t : Ty) → is_tagged t ≡ true → is_stored t ≡ false
tagged_unstored (Tagged n) e = refl
tagged_unstored t e = absurd (false≢true e)

value_unstored : (ts : List TagState) (t : Ty) → IsValue ts t → is_stored t ≡ false
value_unstored ts t (scalar h) = scalar_unstored t h
value_unstored ts t (nothing e) = ap is_stored e
value_unstored ts t (tagged n e c) = ap is_stored e

unary_unstored : (o : UnaryOp) (s t : Ty) → UnaryFits o s t → is_stored t ≡ false
unary_unstored unary.LogicalNot s t h = ap is_stored h.1
unary_unstored o s t h = integer_unstored t h.0

function_stored : (t : Ty) → is_function t ≡ true → is_stored t ≡ true
function_stored (Function r ps) e = refl
function_stored t e = absurd (false≢true e)

-- ---- library functions

plain_unstored : (t : Ty) → is_plain t ≡ true → is_stored t ≡ false
plain_unstored (Array t n) e = absurd (false≢true e)
plain_unstored (Function r ps) e = absurd (false≢true e)
plain_unstored t e = refl

capability_plain : (t : Ty) → is_capability t ≡ true → is_plain t ≡ true
capability_plain (Cap s) e = refl
capability_plain (Pointer t) e = refl
capability_plain t e = absurd (false≢true e)

abbrev GivesPlain : List Asked → Given → Type 0
GivesPlain asks (Of t) = is_plain t ≡ true
GivesPlain (Any_capability ∷ rest) As_argument = Unit {0}
GivesPlain asks As_argument = ⊥

abbrev AllPlain : List Service → Type 0
AllPlain [] = Unit {0}
AllPlain (f ∷ fs) = GivesPlain f.takes f.gives × AllPlain fs

services_plain : AllPlain services
unfolding services
services_plain = (
  refl,
  (
    refl,
    (
      refl,
      (
        refl,
        (
          refl,
          (
            refl,
            (
              refl,
              (
                refl,
                (
                  refl,
                  (
                    refl,
                    (
                      tt,
                      (
                        tt,
                        (
                          tt,
                          (
                            tt,
                            (
                              tt,
                              (refl, (refl, (refl, tt))),
                            ),
                          ),
                        ),
                      ),
                    ),
                  ),
                ),
              ),
            ),
          ),
        ),
      ),
    ),
  ),
)

service_there : (fs : List Service) → AllPlain fs → (k : ℕ) (f : Service) → slice_get fs k ≡ Some f →
    GivesPlain f.takes f.gives
service_there [] h k f e = absurd cc
service_there (g ∷ fs) h zero f e = subst (λ (f : Service). GivesPlain f.takes f.gives) (same_Some g f e) h.0
service_there (g ∷ fs) h (suc k) f e = service_there fs h.1 k f e

given_plain : (asks : List Asked) (g : Given) (xs : Terms) → GivesPlain asks g → AllAskedFit asks xs →
    is_plain (given_type g (list_of xs)) ≡ true
given_plain asks (Of t) xs h q = h
given_plain (Any_capability ∷ rest) As_argument (with_term x xs) h q = capability_plain (type_of x) q.0
given_plain (Any_capability ∷ rest) As_argument no_terms h q = absurd q
given_plain [] As_argument xs h q = absurd h
given_plain (A t ∷ rest) As_argument xs h q = absurd h

pub library_plain : (s : State) (k : ℕ) (xs : Terms) (t : Ty) → ShapeOk true s (tree.Library k) xs t → is_plain t ≡ true
library_plain s k xs t o =
    ap is_plain o.3
    ∙ given_plain o.0.takes o.0.gives xs (service_there services services_plain k o.0 o.1) o.2

-- ---- functions

refined_function : (t u : Ty) → refines t u ≡ true → is_function u ≡ true → is_function t ≡ true
refined_function (Function r ps) u e h = refl
refined_function t (Function r ps) e h = absurd (false≢true e)
refined_function t u e h = absurd (false≢true h)

-- every function has a function's type
abbrev pub AreFunctions : State → Type 0
AreFunctions s = (k : ℕ) (f : RoutineState) → slice_get s.routines k ≡ Some f → is_function f.of ≡ true

pub member_read : (b : Bool) → not (b || true) ≡ true → ⊥
member_read true e = false≢true e
member_read false e = false≢true e

module _ (s : State) (functions : AreFunctions s) where
  pub function_read : (k : ℕ) (xs : Terms) (t : Ty) (p : Pos) → is_read (term (tree.Fun k) xs t p) ≡ true →
      TermOk true s (term (tree.Fun k) xs t p) → ⊥
  function_read k no_terms t p e o =
      let f = o.1 in
      false≢true (sym (ap not (refined_function t f.0.of f.2 (functions k f.0 f.1))) ∙ e)
  function_read k (with_term x xs) t p e o = o.1

  -- a value
  pub unstored : (x : Term) → TermWorth x → TermOk true s x → is_stored (type_of x) ≡ false
  unstored (term (tree.Constant n) no_terms t p) h o = scalar_unstored t o.1.1
  unstored (term (tree.Literal k) xs t p) h o = absurd (false≢true h.1)
  unstored (term (tree.Var k) xs t p) h o = absurd (false≢true h.1)
  unstored (term (tree.Global k) xs t p) h o = absurd (false≢true h.1)
  unstored (term (tree.Fun k) xs t p) h o = absurd (function_read k xs t p h.1 o)
  unstored (term tree.Deref xs t p) h o = absurd (false≢true h.1)
  unstored (term (tree.Member k) (with_term a no_terms) t p) h o = absurd (member_read (is_place a) h.1)
  unstored (term tree.Load (with_term a no_terms) t p) h o = value_unstored s.tags t o.1.2
  unstored (term tree.Decay (with_term a no_terms) t p) h o =
      ⊎_elim (λ d. ap is_stored d.3) (λ d. ap is_stored d.1) o.1
  unstored (term tree.Address (with_term a no_terms) t p) h o = ap is_stored o.1.1
  unstored (term tree.Convert (with_term a no_terms) t p) h o =
      ⊎_elim (λ v. void_unstored t v) (λ c. scalar_unstored t c.0) o.1.0
  unstored (term (tree.Unary op) (with_term a no_terms) t p) h o = unary_unstored op (type_of a) t o.1
  unstored (term (tree.Step adds in_front) (with_term a no_terms) t p) h o =
      ⊎_elim (λ i. integer_unstored t i) (λ q. ap is_stored q.1) o.1.2
  unstored (term (tree.Arithmetic op) (with_term a (with_term b no_terms)) t p) h o = ap is_stored o.1.0.2
  unstored (term (tree.Capability op r) (with_term a (with_term b no_terms)) t p) h o = ap is_stored o.1.0.1
  unstored (term (tree.Plus minus) (with_term a (with_term b no_terms)) t p) h o = ap is_stored o.1.0.1
  unstored (term tree.Difference (with_term a (with_term b no_terms)) t p) h o = ap is_stored o.1.2
  unstored (term (tree.Compare op) (with_term a (with_term b no_terms)) t p) h o = ap is_stored o.1.0
  unstored (term tree.And (with_term a (with_term b no_terms)) t p) h o = ap is_stored o.1.0
  unstored (term tree.Or (with_term a (with_term b no_terms)) t p) h o = ap is_stored o.1.0
  unstored (term tree.Comma (with_term a (with_term b no_terms)) t p) h o =
      ap is_stored o.1 ∙ unstored b h.0.1.1.0 o.0.1.0
  unstored (term tree.Assign (with_term a (with_term b no_terms)) t p) h o =
      ⊎_elim (λ c. scalar_unstored t c) (λ g. tagged_unstored t g) o.1.3
  unstored (term (tree.Compound op of) (with_term a (with_term b no_terms)) t p) h o =
      ⊎_elim (λ q. ap is_stored q.0.1) (λ i. integer_unstored t i.0) o.1.2
  unstored (term tree.Conditional (with_term a (with_term b (with_term c no_terms))) t p) h o =
      ap is_stored (sym o.1.1) ∙ unstored b h.0.1.1.0 o.0.1.0
  unstored (term tree.Call (with_term g xs) t p) h o = value_unstored s.tags t o.1.5
  unstored (term (tree.Library k) xs t p) h o = plain_unstored t (library_plain s k xs t o.1)
  unstored (term n xs t p) h o = absurd o.1

-- ---- where a place is asked for

abbrev pub is_site : Term → Bool
is_site x = designates x || is_stored (type_of x)

or_first : (a b : Bool) → a ≡ true → (a || b) ≡ true
or_first true b e = refl
or_first false b e = absurd (false≢true e)

pub or_second : (a b : Bool) → b ≡ true → (a || b) ≡ true
or_second true b e = refl
or_second false b e = e

pub designates_site : (x : Term) → designates x ≡ true → is_site x ≡ true
designates_site x e = or_first (designates x) (is_stored (type_of x)) e

pub stored_site : (x : Term) → is_stored (type_of x) ≡ true → is_site x ≡ true
stored_site x e = or_second (designates x) (is_stored (type_of x)) e

pub place_site : (x : Term) → is_place x ≡ true → is_site x ≡ true
place_site x e = designates_site x (or_first (is_place x) _ e)

pub decays_site : (x : Term) (t : Ty) → Decays (type_of x) t → is_site x ≡ true
decays_site x t h =
    ⊎_elim (λ d. stored_site x (ap is_stored d.2)) (λ d. stored_site x (function_stored (type_of x) d.0)) h

pub address_site : (x : Term) → (is_place x ≡ true) ⊎ (is_function (type_of x) ≡ true) → is_site x ≡ true
address_site x h = ⊎_elim (λ e. place_site x e) (λ e. stored_site x (function_stored (type_of x) e)) h

first_of_four : (a b c d : Bool) → (a && b && c && d) ≡ true → a ≡ true
first_of_four true b c d e = refl
first_of_four false b c d e = absurd (false≢true e)

pub modifiable_site : (x : Term) → is_modifiable x ≡ true → is_site x ≡ true
modifiable_site x e = place_site x (first_of_four (is_place x) _ _ _ e)

unread : (b c : Bool) → not b ≡ false → (b || c) ≡ true
unread true c e = refl
unread false c e = absurd (false≢true (sym e))

not_false : (b : Bool) → not b ≡ false → b ≡ true
not_false true e = refl
not_false false e = absurd (false≢true (sym e))

-- what is not read yet
pub unread_site : (x : Term) → is_read x ≡ false → is_site x ≡ true
unread_site (term (tree.Fun k) xs t p) e = function_stored t (not_false (is_function t) e)
unread_site x e = unread (designates x) (is_stored (type_of x)) e
