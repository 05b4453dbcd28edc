-- Calls of functions and of library functions (C11 6.5.2.2).
use Rattle.std.proofs.Common.{◌≡◌, ℕ, zero, suc, Bool, true, List, [], ◌∷◌, length, Option, Some, None, Ok, refl, sym}
use Rattle.std.proofs.Common.{ap, subst, ◌∙◌, ⊎_elim, arith}
use Rattle.std.specs.Prelude.{slice_get, ◌==◌}
use Rattle.std.proofs.lemmas.Bool.{false≢true, and_parts, or_cases, eqb-true}
use Rattle.std.proofs.lemmas.Option.{same_Some}
use Rattle.ck_base.specs.declared.positions.Pos.{Pos}
use Rattle.c_tree.specs.Types.{Ty, Void, Int, Cap, Pointer, Array, Tagged, Function, Const, Tys, no_types, also, int}
use Rattle.c_tree.specs.Types.{unsigned_long, bare, is_scalar, is_void, is_tagged, is_capability}
use Rattle.c_tree.specs.Terms.{Call, Library, Term, term, with_term, terms, type_of}
use Rattle.c_tree.specs.Scopes.{TagState, State, Doing, give, need, is_complete, ◌>>=◌, ◌>>◌}
use Rattle.c_tree.specs.Conversions.{Operand, operand_type, assigned}
use Rattle.c_tree.specs.Expressions.{gives, arguments, many, call_of, may_be_given, all_complete, is_callable, call}
use Rattle.c_tree.specs.Expressions.{asked, all_asked, given_type, library_call}
use Rattle.c_tree.specs.Declarators.{is_given}
use Rattle.c_tree.specs.Libraries.{Asked, Any_capability, A, Given, Of, As_argument, Service, services}
use Rattle.c_tree.specs.WellTyped.{ArgumentsFit, AskedFits, AllAskedFit, list_of}
use Rattle.typing_laws.proofs.Facts.{Complete, TypeOk, TypesOk, IsValue, scalar, nothing, tagged, AllTaken, TermOk}
use Rattle.typing_laws.proofs.Facts.{TermsOk}
use Rattle.typing_laws.proofs.Facts.{OperandOk, ValueOk, Inv, Grows, Kept}
use Rattle.typing_laws.proofs.Growing.{term_kept, type_kept, types_kept, value_type_kept, value_kept, taken_kept}
use Rattle.typing_laws.proofs.Growing.{grows_self}
use Rattle.typing_laws.proofs.Steps.{given, needed, refused, first_then}
use Rattle.typing_laws.proofs.Scalars.{bare_ok, complete_is}
use Rattle.typing_laws.proofs.Converted.{Operands, gave, made, assigned_ok}
use Rattle.typing_laws.proofs.Operators.{onward}

-- operands that are read
abbrev pub AllValues : Bool → State → List Operand → Type 0
AllValues m s [] = Unit {0}
AllValues m s (x ∷ xs) = ValueOk m s x.is × AllValues m s xs

pub all_kept : (m : Bool) (s r : State) → Rattle.typing_laws.proofs.Facts.Refers s r → (xs : List Operand) →
    AllValues m s xs → AllValues m r xs
all_kept m s r g [] h = tt
all_kept m s r g (x ∷ xs) h = (value_kept m s r g x.is h.0, all_kept m s r g xs h.1)

-- arguments so far, and that they are the parameters' if there are as many
pub record ArgumentsOk (m : Bool) (s : State) (ps : Tys) (xs : List Operand) (ys : List Term) : Type 0 where
  pub fits : TermsOk m s (terms ys)
  pub match : length xs ≡ many ps → ArgumentsFit ps (terms ys)

pub arguments_ok : (m : Bool) (ps : Tys) (xs : List Operand) (s : State) → Inv m s → TypesOk s.tags ps →
    AllValues m s xs → (x : List Term × State) → arguments ps xs s ≡ Ok x →
    Kept m true s (λ r ys. ArgumentsOk m r ps xs ys) x
arguments_ok m (also t ts) (a ∷ rest) s i k h x e =
    let f = first_then (assigned t a s) (λ y. arguments ts rest >>= λ ys. give (y ∷ ys)) x e in
    let p = assigned_ok m s i t a k.0 h.0 f.0 f.1 in
    let r = f.0.1 in
    let g = first_then (arguments ts rest r) (λ ys. give (f.0.0 ∷ ys)) x f.2 in
    let q = arguments_ok m ts rest r p.inv (types_kept s.tags r.tags p.grown.refers.tags ts k.2)
    (all_kept m s r p.grown.refers rest h.1) g.0 g.1 in
    let z = g.0.1 in
    onward m true s f.0 x p (given (Kept m true r (λ r ys. ArgumentsOk m r (also t ts) (a ∷ rest) ys))
    (f.0.0 ∷ g.0.0) z x g.2 (record {
      inv = q.inv;
      grown = q.grown;
      post = record {
        fits = (term_kept m r z q.grown.refers f.0.0 p.post.value.fits, q.post.fits);
        match = λ n. (p.post.type ∙ k.1, q.post.match (omega (arith, n)));
      };
    }))
arguments_ok m no_types [] s i k h x e =
    given (Kept m true s (λ r ys. ArgumentsOk m r no_types [] ys)) [] s x e
    (record { inv = i; grown = grows_self true s; post = record { fits = tt; match = λ _. tt } })
arguments_ok m no_types (a ∷ rest) s i k h x e =
    given (Kept m true s (λ r ys. ArgumentsOk m r no_types (a ∷ rest) ys)) [] s x e
    (record { inv = i; grown = grows_self true s; post = record { fits = tt; match = λ n. absurd (omega (arith, n)) } })
arguments_ok m (also t ts) [] s i k h x e =
    given (Kept m true s (λ r ys. ArgumentsOk m r (also t ts) [] ys)) [] s x e
    (record { inv = i; grown = grows_self true s; post = record { fits = tt; match = λ n. absurd (omega (arith, n)) } })

-- what a function gives is a value, where it is complete if it is a struct or union
pub given_value : (ts : List TagState) (r : Ty) → TypeOk ts r → is_given r ≡ true →
    (is_tagged (bare r) ≡ true → Complete ts (bare r)) → IsValue ts (bare r)
given_value ts Void h g c = nothing refl
given_value ts (Int k n) h g c = scalar refl
given_value ts (Cap s) h g c = scalar refl
given_value ts (Pointer t) h g c = scalar refl
given_value ts (Tagged n) h g c = tagged n refl (c refl)
given_value ts (Const Void) h g c = nothing refl
given_value ts (Const (Int k n)) h g c = scalar refl
given_value ts (Const (Cap s)) h g c = scalar refl
given_value ts (Const (Pointer t)) h g c = scalar refl
given_value ts (Const (Tagged n)) h g c = tagged n refl (c refl)
given_value ts (Const (Array t n)) h g c = absurd (false≢true h.1)
given_value ts (Const (Function q ps)) h g c = absurd (false≢true h.1)
given_value ts (Const (Const t)) h g c = absurd (false≢true h.1)
given_value ts (Array t n) h g c = absurd (false≢true g)
given_value ts (Function q ps) h g c = absurd (false≢true g)

pub bare_complete : (ts : List TagState) (t : Ty) → Complete ts t → Complete ts (bare t)
bare_complete ts (Const t) c = c
bare_complete ts Void c = c
bare_complete ts (Int k n) c = c
bare_complete ts (Cap s) c = c
bare_complete ts (Pointer t) c = c
bare_complete ts (Array t n) c = c
bare_complete ts (Tagged n) c = c
bare_complete ts (Function r ps) c = c

tagged_not_void : (t : Ty) → is_tagged t ≡ true → is_void t ≡ true → ⊥
tagged_not_void (Tagged n) e f = false≢true f
tagged_not_void t e f = false≢true e

-- a struct or union that may be given is complete
pub given_complete : (s : State) (r : Ty) → may_be_given s r ≡ true → is_tagged (bare r) ≡ true →
    Complete s.tags (bare r)
given_complete s r e t =
    ⊎_elim (λ v. absurd (tagged_not_void (bare r) t v)) (λ c. bare_complete s.tags r (complete_is s r c))
    (or_cases (is_void (bare r)) (is_complete s r) e)

all_taken : (s : State) (ps : Tys) → TypesOk s.tags ps → all_complete s ps ≡ true → AllTaken s.tags ps
all_taken s no_types h e = tt
all_taken s (also t ts) h e =
    let p = and_parts (is_complete s t) (all_complete s ts) e in (h.1, complete_is s t p.0, all_taken s ts h.2 p.1)

module _ (m : Bool) (s : State) (i : Inv m s) where
  call_by : (t : Ty) (f : Operand) (xs : List Operand) (p : Pos) → operand_type f ≡ t → is_callable s t ≡ true →
      ValueOk m s f.is → AllValues m s xs → (x : Operand × State) → call_of t f xs p s ≡ Ok x → Operands m s x
  call_by (Pointer (Function r ps)) f xs p q callable h j x e =
      let go : List Term → Doing Operand =
      λ ys. need (length xs == many ps) 136 f.first
      >> gives (term Call (with_term f.is (terms ys)) (bare r) p) f.first in
      let a = first_then (arguments ps xs s) go x e in
      let k : TypeOk s.tags (Pointer (Function r ps)) = subst (TypeOk s.tags) q h.type in
      let may = and_parts (may_be_given s r) (all_complete s ps) callable in
      let c = arguments_ok m ps xs s i k.2 j a.0 a.1 in
      let z = a.0.1 in
      let n = needed (length xs == many ps) 136 f.first
      (gives (term Call (with_term f.is (terms a.0.0)) (bare r) p) f.first) z x a.2 in
      let w = value_kept m s z c.grown.refers f.is h in
      let l = type_kept s.tags z.tags c.grown.refers.tags r k.0 in
      let value = value_type_kept s.tags z.tags c.grown.refers.tags (bare r)
      (given_value s.tags r k.0 k.1 (given_complete s r may.0)) in
      let taken = taken_kept s.tags z.tags c.grown.refers.tags ps (all_taken s ps k.2 may.1) in
      onward m true s a.0 x c (gave m z c.inv _ f.first (made m z _ refl (record {
        fits = (
          (w.fits, c.post.fits),
          (r, ps, q, c.post.match (eqb-true (length xs) (many ps) n.0), refl, value, taken),
        );
        type = bare_ok z.tags r l;
        value = value;
      })) x n.1)
  call_by t f xs p q callable h j x e = refused _ x e

  pub call_ok : (f : Operand) (xs : List Operand) (p : Pos) → ValueOk m s f.is → AllValues m s xs →
      (x : Operand × State) → call f xs p s ≡ Ok x → Operands m s x
  call_ok f xs p h j x e =
      let n = needed (is_callable s (operand_type f)) 132 f.first (call_of (operand_type f) f xs p) s x e in
      call_by (operand_type f) f xs p refl n.0 h j x n.1

-- ---- library functions

capability_scalar : (t : Ty) → is_capability t ≡ true → is_scalar t ≡ true
capability_scalar (Cap s) e = refl
capability_scalar (Pointer t) e = refl
capability_scalar t e = absurd (false≢true e)

-- what a library function asks for has no qualifier, and it gives a value
abbrev AskedOk : List TagState → Asked → Type 0
AskedOk ts Any_capability = Unit {0}
AskedOk ts (A t) = TypeOk ts t × (bare t ≡ t)

abbrev AllAskedOk : List TagState → List Asked → Type 0
AllAskedOk ts [] = Unit {0}
AllAskedOk ts (a ∷ rest) = AskedOk ts a × AllAskedOk ts rest

-- the first argument's type is given where it is a capability's
abbrev GivenOk : List TagState → List Asked → Given → Type 0
GivenOk ts asks (Of t) = TypeOk ts t × IsValue ts t
GivenOk ts (Any_capability ∷ rest) As_argument = Unit {0}
GivenOk ts asks As_argument = ⊥

abbrev ServiceOk : List TagState → Service → Type 0
ServiceOk ts f = AllAskedOk ts f.takes × GivenOk ts f.takes f.gives

abbrev AllServices : List TagState → List Service → Type 0
AllServices ts [] = Unit {0}
AllServices ts (f ∷ fs) = ServiceOk ts f × AllServices ts fs

ints : (ts : List TagState) → AskedOk ts (A int)
ints ts = (tt, refl)

longs : (ts : List TagState) → AskedOk ts (A unsigned_long)
longs ts = (tt, refl)

services_ok : (ts : List TagState) → AllServices ts services
unfolding services
services_ok ts = (
  ((ints ts, tt), (tt, scalar refl)),
  (
    (tt, (tt, scalar refl)),
    (
      ((longs ts, tt), (tt, scalar refl)),
      (
        ((ints ts, tt), (tt, nothing refl)),
        (
          ((tt, tt), (tt, scalar refl)),
          (
            ((tt, tt), (tt, scalar refl)),
            (
              ((tt, tt), (tt, scalar refl)),
              (
                ((tt, tt), (tt, scalar refl)),
                (
                  ((tt, tt), (tt, scalar refl)),
                  (
                    ((tt, tt), (tt, scalar refl)),
                    (
                      ((tt, (longs ts, tt)), tt),
                      (
                        ((tt, tt), tt),
                        (
                          ((tt, (longs ts, tt)), tt),
                          (
                            ((tt, (longs ts, tt)), tt),
                            (
                              ((tt, (longs ts, tt)), tt),
                              (
                                ((tt, (tt, tt)), (tt, scalar refl)),
                                (((longs ts, tt), (tt, scalar refl)), (((longs ts, tt), (tt, scalar refl)), tt)),
                              ),
                            ),
                          ),
                        ),
                      ),
                    ),
                  ),
                ),
              ),
            ),
          ),
        ),
      ),
    ),
  ),
)

service_there : (ts : List TagState) (fs : List Service) (k : ℕ) (f : Service) → AllServices ts fs →
    slice_get fs k ≡ Some f → ServiceOk ts f
service_there ts [] k f h e = absurd cc
service_there ts (g ∷ fs) zero f h e = subst (ServiceOk ts) (same_Some g f e) h.0
service_there ts (g ∷ fs) (suc k) f h e = service_there ts fs k f h.1 e

pub record AsksOk (m : Bool) (s : State) (asks : List Asked) (xs : List Operand) (ys : List Term) : Type 0 where
  pub fits : TermsOk m s (terms ys)
  pub match : length xs ≡ length asks → AllAskedFit asks (terms ys)
  -- the first one, where it is a capability
  pub first : (y : Term) (rest : List Term) (more : List Asked) → ys ≡ y ∷ rest → asks ≡ Any_capability ∷ more →
      ValueOk m s y × (is_capability (type_of y) ≡ true)

pub record AskOk (m : Bool) (s : State) (a : Asked) (y : Term) : Type 0 where
  pub value : ValueOk m s y
  pub fits : AskedFits a (type_of y)

asked_ok : (m : Bool) (s : State) → Inv m s → (a : Asked) (b : Operand) → AskedOk s.tags a → ValueOk m s b.is →
    (x : Term × State) → asked a b s ≡ Ok x → Kept m true s (λ r y. AskOk m r a y) x
asked_ok m s i Any_capability b k h x e =
    let n = needed (is_capability (operand_type b)) 133 b.first (give b.is) s x e in
    given (Kept m true s (λ r y. AskOk m r Any_capability y)) b.is s x n.1
    (record { inv = i; grown = grows_self true s; post = record { value = h; fits = n.0 } })
asked_ok m s i (A t) b k h x e =
    let p = assigned_ok m s i t b k.0 h x e in
    record { inv = p.inv; grown = p.grown; post = record { value = p.post.value; fits = p.post.type ∙ k.1 } }

asked_kept : (ts us : List TagState) → Rattle.typing_laws.proofs.Facts.TagsGrow ts us → (asks : List Asked) →
    AllAskedOk ts asks → AllAskedOk us asks
asked_kept ts us g [] h = tt
asked_kept ts us g (Any_capability ∷ rest) h = (tt, asked_kept ts us g rest h.1)
asked_kept ts us g (A t ∷ rest) h = ((type_kept ts us g t h.0.0, h.0.1), asked_kept ts us g rest h.1)

head_of : Term → List Term → Term
head_of d [] = d
head_of d (x ∷ xs) = x

asks_head : (a b : Asked) (rest more : List Asked) → ◌≡◌ {A = List Asked} (a ∷ rest) (b ∷ more) → a ≡ b
asks_head a b rest more e = cc

capability_of : (a : Asked) (t : Ty) → a ≡ Any_capability → AskedFits a t → is_capability t ≡ true
capability_of Any_capability t e h = h
capability_of (A u) t e h = absurd cc

all_asked_ok : (m : Bool) (asks : List Asked) (xs : List Operand) (s : State) → Inv m s → AllAskedOk s.tags asks →
    AllValues m s xs → (x : List Term × State) → all_asked asks xs s ≡ Ok x →
    Kept m true s (λ r ys. AsksOk m r asks xs ys) x
unfolding head_of
all_asked_ok m (a ∷ asks) (b ∷ rest) s i k h x e =
    let f = first_then (asked a b s) (λ y. all_asked asks rest >>= λ ys. give (y ∷ ys)) x e in
    let p = asked_ok m s i a b k.0 h.0 f.0 f.1 in
    let r = f.0.1 in
    let g = first_then (all_asked asks rest r) (λ ys. give (f.0.0 ∷ ys)) x f.2 in
    let q = all_asked_ok m asks rest r p.inv (asked_kept s.tags r.tags p.grown.refers.tags asks k.1)
    (all_kept m s r p.grown.refers rest h.1) g.0 g.1 in
    let z = g.0.1 in
    let w = value_kept m r z q.grown.refers f.0.0 p.post.value in
    onward m true s f.0 x p (given (Kept m true r (λ r ys. AsksOk m r (a ∷ asks) (b ∷ rest) ys)) (f.0.0 ∷ g.0.0) z x g.2
    (record {
      inv = q.inv;
      grown = q.grown;
      post = record {
        fits = (w.fits, q.post.fits);
        match = λ n. (p.post.fits, q.post.match (omega (arith, n)));
        first = λ y ys more j l.
            let same : f.0.0 ≡ y = ap (head_of f.0.0) j in
            subst (λ y. ValueOk m z y × (is_capability (type_of y) ≡ true)) same
            (w, capability_of a (type_of f.0.0) (asks_head a Any_capability asks more l) p.post.fits);
      };
    }))
all_asked_ok m [] xs s i k h x e =
    given (Kept m true s (λ r ys. AsksOk m r [] xs ys)) [] s x e
    (record {
      inv = i;
      grown = grows_self true s;
      post = record { fits = tt; match = λ n. tt; first = λ y ys more j l. absurd cc };
    })
all_asked_ok m (a ∷ asks) [] s i k h x e =
    given (Kept m true s (λ r ys. AsksOk m r (a ∷ asks) [] ys)) [] s x e
    (record {
      inv = i;
      grown = grows_self true s;
      post = record { fits = tt; match = λ n. absurd (omega (arith, n)); first = λ y ys more j l. absurd cc };
    })

list_of_terms : (ys : List Term) → list_of (terms ys) ≡ ys
list_of_terms [] = refl
list_of_terms (y ∷ ys) = ap (λ zs. y ∷ zs) (list_of_terms ys)

-- the type that a library function gives
given_ok : (m : Bool) (s : State) (asks : List Asked) (g : Given) (xs : List Operand) (ys : List Term) →
    GivenOk s.tags asks g → AsksOk m s asks xs ys → length xs ≡ length asks →
    TypeOk s.tags (given_type g ys) × IsValue s.tags (given_type g ys)
given_ok m s asks (Of t) xs ys h q n = h
given_ok m s (Any_capability ∷ rest) As_argument xs (y ∷ ys) h q n =
    let f = q.first y ys rest refl refl in (f.0.type, scalar (capability_scalar (type_of y) f.1))
given_ok m s (Any_capability ∷ rest) As_argument xs [] h q n = absurd (q.match n)
given_ok m s [] As_argument xs ys h q n = absurd h
given_ok m s (A t ∷ rest) As_argument xs ys h q n = absurd h

module _ (m : Bool) (s : State) (i : Inv m s) where
  pub library_ok : (o : Option Service) (k : ℕ) (xs : List Operand) (p first : Pos) → slice_get services k ≡ o →
      AllValues m s xs → (x : Operand × State) → library_call o k xs p first s ≡ Ok x → Operands m s x
  library_ok None k xs p first q j x e = refused _ x e
  library_ok (Some f) k xs p first q j x e =
      let go : List Term → Doing Operand =
      λ ys. need (length xs == length f.takes) 136 first
      >> gives (term (Library k) (terms ys) (given_type f.gives ys) p) first in
      let a = first_then (all_asked f.takes xs s) go x e in
      let c = all_asked_ok m f.takes xs s i (service_there s.tags services k f (services_ok s.tags) q).0 j a.0 a.1 in
      let z = a.0.1 in
      let n = needed (length xs == length f.takes) 136 first
      (gives (term (Library k) (terms a.0.0) (given_type f.gives a.0.0) p) first) z x a.2 in
      let l = eqb-true (length xs) (length f.takes) n.0 in
      let g = given_ok m z f.takes f.gives xs a.0.0
      (service_there z.tags services k f (services_ok z.tags) q).1 c.post l in
      onward m true s a.0 x c (gave m z c.inv _ first (made m z _ refl (record {
        fits = (c.post.fits, (f, q, c.post.match l, ap (given_type f.gives) (sym (list_of_terms a.0.0))));
        type = g.0;
        value = g.1;
      })) x n.1)
