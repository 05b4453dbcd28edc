-- Types of integers, scalars and values, and what the makers of types give.
use Rattle.std.proofs.Common.{◌≡◌, ℕ, ◌+◌, ◌*◌, ◌≤◌, max, Bool, true, false, List, Option, Some, None, refl, sym, ap}
use Rattle.std.proofs.Common.{subst, ◌∙◌, inl, inr, ◌⊎◌, arith}
use Rattle.std.specs.Prelude.{◌||◌, not, nat_lt, nat_le, if◌then◌else◌}
use Rattle.std.proofs.lemmas.Option.{none-some, same_Some}
use Rattle.std.proofs.lemmas.Bool.{false≢true, and_parts, or_left, or_right, cases_lt}
use Rattle.ck_int.specs.declared.kinds.IntKind.{IntKind}
use Rattle.ck_int.specs.declared.kinds.IntKind.TheVariants as kind
use Rattle.c_tree.specs.Layout.{Extent, with_extent, times, size_limit}
use Rattle.c_tree.specs.Types.{Ty, Void, Int, Cap, Pointer, Array, Tagged, Function, Const, Tys, no_types, also, int}
use Rattle.c_tree.specs.Types.{bare, bare_elements, qualified, is_integer, is_pointer, is_scalar, is_void, is_array}
use Rattle.c_tree.specs.Types.{is_function, promoted, rank, width, has_sign, same, same_truth, is_const, without_sign}
use Rattle.c_tree.specs.Types.{common, common_promoted, common_mixed, compatible, composite, composites, all_agree}
use Rattle.c_tree.specs.Scopes.{TagState, State, type_extent, has_extent, is_complete}
use Rattle.c_tree.specs.Expressions.{as_qualified}
use Rattle.c_tree.specs.Declarators.{is_given}
use Rattle.typing_laws.proofs.Agreeing.{composite_left, composite_right, loose}
use Rattle.typing_laws.proofs.Facts.{Complete, may_be_const, TypeOk, TypesOk, IsValue, scalar, nothing, tagged}
use Rattle.typing_laws.proofs.Growing.{refined_extent}

-- ---- tests

pub implied : (p c : Bool) → (not p || c) ≡ true → p ≡ true → c ≡ true
implied true c h e = h
implied false c h e = absurd (false≢true e)

pub branched : {X : Type 0} (P : X → Type 0) (b : Bool) (x y : X) → (b ≡ true → P x) → (b ≡ false → P y) →
    P (if b then x else y)
branched P true x y f g = f refl
branched P false x y f g = g refl

pub void_is : (t : Ty) → is_void t ≡ true → t ≡ Void
void_is Void e = refl
void_is t e = absurd (false≢true e)

pub integer_cases : (P : Ty → Type 0) → ((k : IntKind) (n : ℕ) → P (Int k n)) → ((s : Bool) → P (Cap s)) → (t : Ty) →
    is_integer t ≡ true → P t
integer_cases P f g (Int k n) e = f k n
integer_cases P f g (Cap s) e = g s
integer_cases P f g t e = absurd (false≢true e)

pub integer_scalar : (t : Ty) → is_integer t ≡ true → is_scalar t ≡ true
integer_scalar t e = or_left (is_integer t) (is_pointer t) e

pub pointer_scalar : (t : Ty) → is_pointer t ≡ true → is_scalar t ≡ true
pointer_scalar t e = or_right (is_integer t) (is_pointer t) e

pub integer_ok : (ts : List TagState) (t : Ty) → is_integer t ≡ true → TypeOk ts t
integer_ok ts t e = integer_cases (TypeOk ts) (λ k n. tt) (λ s. tt) t e

pub integer_value : (ts : List TagState) (t : Ty) → is_integer t ≡ true → IsValue ts t
integer_value ts t e = scalar (integer_scalar t e)

-- ---- conversions of integers

pub promoted_integer : (t : Ty) → is_integer t ≡ true → is_integer (promoted t) ≡ true
promoted_integer t e = branched (λ u. is_integer u ≡ true) (nat_lt (rank t) 3) int t (λ _. refl) (λ _. e)

promoted_by : (b : Bool) (t : Ty) → nat_lt (rank t) 3 ≡ b → promoted (if b then int else t) ≡ (if b then int else t)
promoted_by true t e = refl
promoted_by false t e = rw e refl

pub promoted_self : (t : Ty) → promoted (promoted t) ≡ promoted t
promoted_self t = promoted_by (nat_lt (rank t) 3) t refl

unsigned_integer : (t : Ty) → is_integer t ≡ true → is_integer (without_sign t) ≡ true
unsigned_integer (Int kind.Bool n) e = refl
unsigned_integer (Int kind.I8 n) e = refl
unsigned_integer (Int kind.U8 n) e = refl
unsigned_integer (Int kind.I16 n) e = refl
unsigned_integer (Int kind.U16 n) e = refl
unsigned_integer (Int kind.I32 n) e = refl
unsigned_integer (Int kind.U32 n) e = refl
unsigned_integer (Int kind.I64 n) e = refl
unsigned_integer (Int kind.U64 n) e = refl
unsigned_integer (Cap s) e = refl
unsigned_integer t e = absurd (false≢true e)

abbrev IsI : Ty → Type 0
IsI t = is_integer t ≡ true

mixed_integer : (s u : Ty) → IsI s → IsI u → IsI (common_mixed s u)
mixed_integer s u p q =
    branched IsI (nat_le (rank s) (rank u)) u (if nat_lt (width u) (width s) then s else without_sign s) (λ _. q)
    (λ _. branched IsI (nat_lt (width u) (width s)) s (without_sign s) (λ _. p) (λ _. unsigned_integer s p))

promoted_common : (s t : Ty) → IsI s → IsI t → IsI (common_promoted s t)
promoted_common s t p q =
    let by_rank = (if nat_lt (rank s) (rank t) then t else s) in
    let by_sign = (if has_sign s then common_mixed s t else common_mixed t s) in
    branched IsI (same s t) s (if same_truth (has_sign s) (has_sign t) then by_rank else by_sign) (λ _. p)
    (λ _. branched IsI (same_truth (has_sign s) (has_sign t)) by_rank by_sign
    (λ _. branched IsI (nat_lt (rank s) (rank t)) t s (λ _. q) (λ _. p))
    (λ _. branched IsI (has_sign s) (common_mixed s t) (common_mixed t s) (λ _. mixed_integer s t p q)
    (λ _. mixed_integer t s q p)))

pub common_integer : (s t : Ty) → is_integer s ≡ true → is_integer t ≡ true → is_integer (common s t) ≡ true
unfolding common
common_integer s t p q = promoted_common (promoted s) (promoted t) (promoted_integer s p) (promoted_integer t q)

-- what a promotion leaves as it is
abbrev IsP : Ty → Type 0
IsP t = promoted t ≡ t

promoted_unsigned : (t : Ty) → IsI t → IsP t → IsP (without_sign t)
promoted_unsigned (Int kind.Bool n) e p = p
promoted_unsigned (Int kind.I8 n) e p = p
promoted_unsigned (Int kind.U8 n) e p = p
promoted_unsigned (Int kind.I16 n) e p = p
promoted_unsigned (Int kind.U16 n) e p = p
promoted_unsigned (Int kind.I32 n) e p = refl
promoted_unsigned (Int kind.U32 n) e p = p
promoted_unsigned (Int kind.I64 n) e p = high_rank (4 + n) (Int kind.U64 n) (omega arith)
  where
    high_rank : (r : ℕ) (t : Ty) → 3 ≤ r → (if nat_lt r 3 then int else t) ≡ t
    high_rank r t l = ap (λ b. if b then int else t) (Rattle.std.proofs.lemmas.Bool.le-ltb r 3 l)
promoted_unsigned (Int kind.U64 n) e p = p
promoted_unsigned (Cap s) e p = refl
promoted_unsigned t e p = absurd (false≢true e)

mixed_promoted : (s u : Ty) → IsI s → IsP s → IsP u → IsP (common_mixed s u)
mixed_promoted s u e p q =
    branched IsP (nat_le (rank s) (rank u)) u (if nat_lt (width u) (width s) then s else without_sign s) (λ _. q)
    (λ _. branched IsP (nat_lt (width u) (width s)) s (without_sign s) (λ _. p) (λ _. promoted_unsigned s e p))

both_promoted : (s t : Ty) → IsI s → IsI t → IsP s → IsP t → IsP (common_promoted s t)
both_promoted s t e f p q =
    let by_rank = (if nat_lt (rank s) (rank t) then t else s) in
    let by_sign = (if has_sign s then common_mixed s t else common_mixed t s) in
    branched IsP (same s t) s (if same_truth (has_sign s) (has_sign t) then by_rank else by_sign) (λ _. p)
    (λ _. branched IsP (same_truth (has_sign s) (has_sign t)) by_rank by_sign
    (λ _. branched IsP (nat_lt (rank s) (rank t)) t s (λ _. q) (λ _. p))
    (λ _. branched IsP (has_sign s) (common_mixed s t) (common_mixed t s) (λ _. mixed_promoted s t e p q)
    (λ _. mixed_promoted t s f q p)))

pub common_is_promoted : (s t : Ty) → is_integer s ≡ true → is_integer t ≡ true → promoted (common s t) ≡ common s t
unfolding common
common_is_promoted s t p q =
    both_promoted (promoted s) (promoted t) (promoted_integer s p) (promoted_integer t q) (promoted_self s)
    (promoted_self t)

-- ---- qualifiers

pub bare_ok : (ts : List TagState) (t : Ty) → TypeOk ts t → TypeOk ts (bare t)
bare_ok ts (Const t) h = h.0
bare_ok ts Void h = h
bare_ok ts (Int k n) h = h
bare_ok ts (Cap s) h = h
bare_ok ts (Pointer t) h = h
bare_ok ts (Array t n) h = h
bare_ok ts (Tagged n) h = h
bare_ok ts (Function r ps) h = h

pub bare_extent : (ts : List TagState) (t : Ty) → type_extent ts (bare t) ≡ type_extent ts t
bare_extent ts (Const t) = refl
bare_extent ts Void = refl
bare_extent ts (Int k n) = refl
bare_extent ts (Cap s) = refl
bare_extent ts (Pointer t) = refl
bare_extent ts (Array t n) = refl
bare_extent ts (Tagged n) = refl
bare_extent ts (Function r ps) = refl

-- a qualifier stands once
pub bare_bare : (ts : List TagState) (t : Ty) → TypeOk ts t → bare (bare t) ≡ bare t
bare_bare ts (Const Void) h = refl
bare_bare ts (Const (Int k n)) h = refl
bare_bare ts (Const (Cap s)) h = refl
bare_bare ts (Const (Pointer t)) h = refl
bare_bare ts (Const (Tagged n)) h = refl
bare_bare ts (Const (Array t n)) h = refl
bare_bare ts (Const (Function r ps)) h = refl
bare_bare ts (Const (Const t)) h = absurd (false≢true h.1)
bare_bare ts Void h = refl
bare_bare ts (Int k n) h = refl
bare_bare ts (Cap s) h = refl
bare_bare ts (Pointer t) h = refl
bare_bare ts (Array t n) h = refl
bare_bare ts (Tagged n) h = refl
bare_bare ts (Function r ps) h = refl

pub qualified_extent : (ts : List TagState) (t : Ty) → type_extent ts (qualified t) ≡ type_extent ts t
qualified_extent ts (Array t n) = ap (λ o. with_extent o (times n)) (qualified_extent ts t)
qualified_extent ts (Const t) = refl
qualified_extent ts (Function r ps) = refl
qualified_extent ts Void = refl
qualified_extent ts (Int k n) = refl
qualified_extent ts (Cap s) = refl
qualified_extent ts (Pointer t) = refl
qualified_extent ts (Tagged n) = refl

pub qualified_ok : (ts : List TagState) (t : Ty) → TypeOk ts t → TypeOk ts (qualified t)
qualified_ok ts (Array t n) h = (qualified_ok ts t h.0, h.1, qualified_extent ts t ∙ h.2, h.3)
qualified_ok ts (Const t) h = h
qualified_ok ts (Function r ps) h = h
qualified_ok ts Void h = (tt, refl)
qualified_ok ts (Int k n) h = (tt, refl)
qualified_ok ts (Cap s) h = (tt, refl)
qualified_ok ts (Pointer t) h = (h, refl)
qualified_ok ts (Tagged n) h = (h, refl)

pub as_qualified_ok : (ts : List TagState) (s t : Ty) → TypeOk ts t → TypeOk ts (as_qualified s t)
as_qualified_ok ts s t h = branched (TypeOk ts) (is_const s) (qualified t) t (λ _. qualified_ok ts t h) (λ _. h)

pub as_qualified_extent : (ts : List TagState) (s t : Ty) → type_extent ts (as_qualified s t) ≡ type_extent ts t
as_qualified_extent ts s t =
    branched (λ u. type_extent ts u ≡ type_extent ts t) (is_const s) (qualified t) t (λ _. qualified_extent ts t)
    (λ _. refl)

bare_elements_extent : (ts : List TagState) (t : Ty) → type_extent ts (bare_elements t) ≡ type_extent ts t
bare_elements_extent ts (Array t n) = ap (λ o. with_extent o (times n)) (bare_elements_extent ts t)
bare_elements_extent ts (Const t) = refl
bare_elements_extent ts (Function r ps) = refl
bare_elements_extent ts Void = refl
bare_elements_extent ts (Int k n) = refl
bare_elements_extent ts (Cap s) = refl
bare_elements_extent ts (Pointer t) = refl
bare_elements_extent ts (Tagged n) = refl

pub bare_elements_ok : (ts : List TagState) (t : Ty) → TypeOk ts t → TypeOk ts (bare_elements t)
bare_elements_ok ts (Array t n) h = (bare_elements_ok ts t h.0, h.1, bare_elements_extent ts t ∙ h.2, h.3)
bare_elements_ok ts (Const t) h = h.0
bare_elements_ok ts (Function r ps) h = h
bare_elements_ok ts Void h = h
bare_elements_ok ts (Int k n) h = h
bare_elements_ok ts (Cap s) h = h
bare_elements_ok ts (Pointer t) h = h
bare_elements_ok ts (Tagged n) h = h

-- what is complete is neither void nor a function
pub complete_not_void : (ts : List TagState) (t : Ty) → Complete ts t → bare t ≡ Void → ⊥
complete_not_void ts t c e = none-some c.0 (ap (type_extent ts) (sym e) ∙ bare_extent ts t ∙ c.1)

pub extent_there : (o : Option Extent) → has_extent o ≡ true → (x : Extent) × (o ≡ Some x)
extent_there None e = absurd (false≢true e)
extent_there (Some x) e = (x, refl)

pub complete_is : (s : State) (t : Ty) → is_complete s t ≡ true → Complete s.tags t
complete_is s t e = extent_there (type_extent s.tags t) e

-- the type of what is read: not an array, a function or void, by itself
pub read_cases : (ts : List TagState) (t : Ty) → TypeOk ts t → is_array t ≡ false → is_function t ≡ false →
    (is_scalar (bare t) ≡ true) ⊎ ((bare t ≡ Void) ⊎ ((n : ℕ) × (bare t ≡ Tagged n)))
read_cases ts Void h a f = inr (inl refl)
read_cases ts (Int k n) h a f = inl refl
read_cases ts (Cap s) h a f = inl refl
read_cases ts (Pointer t) h a f = inl refl
read_cases ts (Array t n) h a f = absurd (false≢true (sym a))
read_cases ts (Tagged n) h a f = inr (inr (n, refl))
read_cases ts (Function r ps) h a f = absurd (false≢true (sym f))
read_cases ts (Const Void) h a f = inr (inl refl)
read_cases ts (Const (Int k n)) h a f = inl refl
read_cases ts (Const (Cap s)) h a f = inl refl
read_cases ts (Const (Pointer t)) h a f = inl refl
read_cases ts (Const (Array t n)) h a f = absurd (false≢true h.1)
read_cases ts (Const (Tagged n)) h a f = inr (inr (n, refl))
read_cases ts (Const (Function r ps)) h a f = absurd (false≢true h.1)
read_cases ts (Const (Const t)) h a f = absurd (false≢true h.1)

-- a value has no qualifier
pub value_bare : (ts : List TagState) (t : Ty) → IsValue ts t → bare t ≡ t
value_bare ts (Const t) (scalar e) = absurd (false≢true e)
value_bare ts (Const t) (nothing e) = absurd cc
value_bare ts (Const t) (tagged n e c) = absurd cc
value_bare ts Void v = refl
value_bare ts (Int k n) v = refl
value_bare ts (Cap s) v = refl
value_bare ts (Pointer t) v = refl
value_bare ts (Array t n) v = refl
value_bare ts (Tagged n) v = refl
value_bare ts (Function r ps) v = refl

-- ---- composite types

composite_bare : (s t : Ty) → compatible s t ≡ true → bare s ≡ s → bare (composite s t) ≡ composite s t
composite_bare Void t e b = refl
composite_bare (Int k n) t e b = refl
composite_bare (Cap a) t e b = refl
composite_bare (Pointer s) (Pointer t) e b = refl
composite_bare (Pointer s) t e b = refl
composite_bare (Array s m) (Array t n) e b = refl
composite_bare (Array s m) t e b = refl
composite_bare (Tagged m) t e b = refl
composite_bare (Function r ps) (Function s qs) e b = refl
composite_bare (Function r ps) t e b = refl
composite_bare (Const s) (Const t) e b = absurd (bare_not_const s b)
  where
    bare_not_const : (s : Ty) → s ≡ Const s → ⊥
    bare_not_const Void p = absurd cc
    bare_not_const (Int k n) p = absurd cc
    bare_not_const (Cap a) p = absurd cc
    bare_not_const (Pointer s) p = absurd cc
    bare_not_const (Array s n) p = absurd cc
    bare_not_const (Tagged n) p = absurd cc
    bare_not_const (Function r ps) p = absurd cc
    bare_not_const (Const s) p = bare_not_const s (ap bare p)
composite_bare (Const s) t e b = absurd (false≢true e)

composite_given : (s t : Ty) → compatible s t ≡ true → is_given s ≡ true → is_given (composite s t) ≡ true
composite_given Void t e b = refl
composite_given (Int k n) t e b = refl
composite_given (Cap a) t e b = refl
composite_given (Pointer s) (Pointer t) e b = refl
composite_given (Pointer s) t e b = refl
composite_given (Array s m) t e b = absurd (false≢true b)
composite_given (Tagged m) t e b = refl
composite_given (Function r ps) t e b = absurd (false≢true b)
composite_given (Const Void) (Const t) e b = refl
composite_given (Const (Int k n)) (Const t) e b = refl
composite_given (Const (Cap a)) (Const t) e b = refl
composite_given (Const (Pointer s)) (Const (Pointer t)) e b = refl
composite_given (Const (Pointer s)) (Const t) e b = refl
composite_given (Const (Array s n)) (Const (Array t m)) e b = refl
composite_given (Const (Array s n)) (Const t) e b = refl
composite_given (Const (Tagged n)) (Const t) e b = refl
composite_given (Const (Function r ps)) (Const (Function s qs)) e b = refl
composite_given (Const (Function r ps)) (Const t) e b = refl
composite_given (Const (Const s)) (Const (Const t)) e b = refl
composite_given (Const (Const s)) (Const t) e b = refl
composite_given (Const s) t e b = absurd (false≢true e)

composite_may : (s t : Ty) → compatible s t ≡ true → may_be_const s ≡ true → may_be_const (composite s t) ≡ true
composite_may Void t e b = refl
composite_may (Int k n) t e b = refl
composite_may (Cap a) t e b = refl
composite_may (Pointer s) (Pointer t) e b = refl
composite_may (Pointer s) t e b = refl
composite_may (Array s m) t e b = absurd (false≢true b)
composite_may (Tagged m) t e b = refl
composite_may (Function r ps) t e b = absurd (false≢true b)
composite_may (Const s) t e b = absurd (false≢true b)

longer : (m n size : ℕ) → m * size ≤ size_limit → n * size ≤ size_limit → max m n * size ≤ size_limit
longer m n size p q =
    elim (cases_lt m n) as (λ _. max m n * size ≤ size_limit) [
      | inl lt ↦ let e : max m n ≡ n = omega arith in rw e q
      | inr le ↦ let e : max m n ≡ m = omega arith in rw e p
    ]

mutual
  pub composite_ok : (ts : List TagState) (s t : Ty) → compatible s t ≡ true → TypeOk ts s → TypeOk ts t →
      TypeOk ts (composite s t)
  composite_ok ts Void Void e p q = p
  composite_ok ts (Int j m) (Int k n) e p q = p
  composite_ok ts (Cap a) (Cap b) e p q = p
  composite_ok ts (Pointer s) (Pointer t) e p q = composite_ok ts s t e p q
  composite_ok ts (Array s m) (Array t n) e p q =
      let c = and_parts (compatible s t) (loose m n) e in
      let a = refined_extent ts s (composite s t) p.1 (composite_left s t c.0) p.2 in
      let b = refined_extent ts t (composite s t) q.1 (composite_right s t c.0) q.2 in
      let i : q.1 ≡ p.1 = same_Some q.1 p.1 (sym b ∙ a) in (
        composite_ok ts s t c.0 p.0 q.0,
        p.1,
        a,
        longer m n p.1.size p.3 (subst (λ (x : Extent). n * x.size ≤ size_limit) i q.3),
      )
  composite_ok ts (Tagged m) (Tagged n) e p q = p
  composite_ok ts (Function r ps) (Function s qs) e p q =
      let c = and_parts (compatible r s) (all_agree loose ps qs) e in
      (composite_ok ts r s c.0 p.0 q.0, composite_given r s c.0 p.1, composites_ok ts ps qs c.1 p.2 q.2)
  composite_ok ts (Const s) (Const t) e p q = (composite_ok ts s t e p.0 q.0, composite_may s t e p.1)
  composite_ok ts s t e p q = absurd (false≢true e)

  composites_ok : (ts : List TagState) (ss us : Tys) → all_agree loose ss us ≡ true → TypesOk ts ss → TypesOk ts us →
      TypesOk ts (composites ss us)
  composites_ok ts no_types no_types e p q = tt
  composites_ok ts (also s ss) (also u us) e p q =
      let c = and_parts (compatible s u) (all_agree loose ss us) e in
      (composite_ok ts s u c.0 p.0 q.0, composite_bare s u c.0 p.1, composites_ok ts ss us c.1 p.2 q.2)
  composites_ok ts ss us e p q = absurd (false≢true e)
