-- Types that are equal, compatible or refined: one is refined by another that knows more lengths of arrays.
use Rattle.std.proofs.Common.{◌≡◌, ℕ, max, Bool, true, false, refl, sym, ap, ◌∙◌, inl, inr, ⊎_elim, arith, ◌⊎◌}
use Rattle.std.specs.Prelude.{◌==◌, ◌||◌}
use Rattle.std.proofs.lemmas.Bool.{false≢true, and_parts, and_from, or_cases, or_left, or_right, eqb-true, eq-eqb}
use Rattle.ck_int.specs.declared.kinds.IntKind.{IntKind}
use Rattle.ck_int.specs.declared.kinds.IntKind.TheVariants as kind
use Rattle.c_tree.specs.Types.{Ty, Void, Int, Cap, Pointer, Array, Tagged, Function, Const, Tys, no_types, also}
use Rattle.c_tree.specs.Types.{same_kind, same_truth, agree, all_agree, same, compatible, composite, composites}

pub kinds_are : (j k : IntKind) → same_kind j k ≡ true → j ≡ k
kinds_are kind.Bool kind.Bool e = refl
kinds_are kind.I8 kind.I8 e = refl
kinds_are kind.U8 kind.U8 e = refl
kinds_are kind.I16 kind.I16 e = refl
kinds_are kind.U16 kind.U16 e = refl
kinds_are kind.I32 kind.I32 e = refl
kinds_are kind.U32 kind.U32 e = refl
kinds_are kind.I64 kind.I64 e = refl
kinds_are kind.U64 kind.U64 e = refl
kinds_are j k e = absurd (false≢true e)

kinds_same : (k : IntKind) → same_kind k k ≡ true
kinds_same kind.Bool = refl
kinds_same kind.I8 = refl
kinds_same kind.U8 = refl
kinds_same kind.I16 = refl
kinds_same kind.U16 = refl
kinds_same kind.I32 = refl
kinds_same kind.U32 = refl
kinds_same kind.I64 = refl
kinds_same kind.U64 = refl

pub truths_are : (a b : Bool) → same_truth a b ≡ true → a ≡ b
truths_are true true e = refl
truths_are true false e = absurd (false≢true e)
truths_are false true e = absurd (false≢true e)
truths_are false false e = refl

truths_same : (b : Bool) → same_truth b b ≡ true
truths_same true = refl
truths_same false = refl

int_is : (j k : IntKind) (m n : ℕ) → j ≡ k → m ≡ n → Int j m ≡ Int k n
int_is j k m n p q = cc

array_is : (s t : Ty) (m n : ℕ) → s ≡ t → m ≡ n → Array s m ≡ Array t n
array_is s t m n p q = cc

function_is : (s t : Ty) (ps qs : Tys) → s ≡ t → ps ≡ qs → Function s ps ≡ Function t qs
function_is s t ps qs p q = cc

also_is : (s t : Ty) (ps qs : Tys) → s ≡ t → ps ≡ qs → also s ps ≡ also t qs
also_is s t ps qs p q = cc

-- ---- equal types

mutual
  pub same_is : (s t : Ty) → same s t ≡ true → s ≡ t
  same_is Void Void e = refl
  same_is (Int j m) (Int k n) e =
      let p = and_parts (same_kind j k) (m == n) e in int_is j k m n (kinds_are j k p.0) (eqb-true m n p.1)
  same_is (Cap a) (Cap b) e = ap Cap (truths_are a b e)
  same_is (Pointer s) (Pointer t) e = ap Pointer (same_is s t e)
  same_is (Array s m) (Array t n) e =
      let p = and_parts (same s t) (m == n) e in array_is s t m n (same_is s t p.0) (eqb-true m n p.1)
  same_is (Tagged m) (Tagged n) e = ap Tagged (eqb-true m n e)
  same_is (Function r ps) (Function s qs) e =
      let p = and_parts (same r s) (all_agree (λ m n. m == n) ps qs) e in
      function_is r s ps qs (same_is r s p.0) (all_same_are ps qs p.1)
  same_is (Const s) (Const t) e = ap Const (same_is s t e)
  same_is s t e = absurd (false≢true e)

  all_same_are : (ss ts : Tys) → all_agree (λ m n. m == n) ss ts ≡ true → ss ≡ ts
  all_same_are no_types no_types e = refl
  all_same_are (also s ss) (also t ts) e =
      let p = and_parts (same s t) (all_agree (λ m n. m == n) ss ts) e in
      also_is s t ss ts (same_is s t p.0) (all_same_are ss ts p.1)
  all_same_are ss ts e = absurd (false≢true e)

-- ---- types that agree up to lengths

module _ (f : ℕ → ℕ → Bool) (h : (n : ℕ) → f n n ≡ true) where
  mutual
    pub agree_self : (t : Ty) → agree f t t ≡ true
    agree_self Void = refl
    agree_self (Int k n) = and_from (same_kind k k) (n == n) (kinds_same k) (eq-eqb n n refl)
    agree_self (Cap b) = truths_same b
    agree_self (Pointer t) = agree_self t
    agree_self (Array t n) = and_from (agree f t t) (f n n) (agree_self t) (h n)
    agree_self (Tagged n) = eq-eqb n n refl
    agree_self (Function r ps) = and_from (agree f r r) (all_agree f ps ps) (agree_self r) (all_agree_self ps)
    agree_self (Const t) = agree_self t

    all_agree_self : (ts : Tys) → all_agree f ts ts ≡ true
    all_agree_self no_types = refl
    all_agree_self (also t ts) = and_from (agree f t t) (all_agree f ts ts) (agree_self t) (all_agree_self ts)

module _ (f g : ℕ → ℕ → Bool) (h : (m n : ℕ) → f m n ≡ true → g m n ≡ true) where
  mutual
    pub agree_more : (s t : Ty) → agree f s t ≡ true → agree g s t ≡ true
    agree_more Void Void e = refl
    agree_more (Int j m) (Int k n) e = e
    agree_more (Cap a) (Cap b) e = e
    agree_more (Pointer s) (Pointer t) e = agree_more s t e
    agree_more (Array s m) (Array t n) e =
        let p = and_parts (agree f s t) (f m n) e in and_from (agree g s t) (g m n) (agree_more s t p.0) (h m n p.1)
    agree_more (Tagged m) (Tagged n) e = e
    agree_more (Function r ps) (Function s qs) e =
        let p = and_parts (agree f r s) (all_agree f ps qs) e in
        and_from (agree g r s) (all_agree g ps qs) (agree_more r s p.0) (all_agree_more ps qs p.1)
    agree_more (Const s) (Const t) e = agree_more s t e
    agree_more s t e = absurd (false≢true e)

    all_agree_more : (ss ts : Tys) → all_agree f ss ts ≡ true → all_agree g ss ts ≡ true
    all_agree_more no_types no_types e = refl
    all_agree_more (also s ss) (also t ts) e =
        let p = and_parts (agree f s t) (all_agree f ss ts) e in
        and_from (agree g s t) (all_agree g ss ts) (agree_more s t p.0) (all_agree_more ss ts p.1)
    all_agree_more ss ts e = absurd (false≢true e)

module _ (f g h : ℕ → ℕ → Bool) (c : (l m n : ℕ) → f l m ≡ true → g m n ≡ true → h l n ≡ true) where
  mutual
    pub agree_on : (s t u : Ty) → agree f s t ≡ true → agree g t u ≡ true → agree h s u ≡ true
    agree_on Void Void Void p q = refl
    agree_on Void Void u p q = absurd (false≢true q)
    agree_on (Int i l) (Int j m) (Int k n) p q =
        let a = and_parts (same_kind i j) (l == m) p in let b = and_parts (same_kind j k) (m == n) q in
        let e : i ≡ k = kinds_are i j a.0 ∙ kinds_are j k b.0 in
        and_from (same_kind i k) (l == n) (ap (same_kind i) (sym e) ∙ kinds_same i)
        (eq-eqb l n (eqb-true l m a.1 ∙ eqb-true m n b.1))
    agree_on (Int i l) (Int j m) u p q = absurd (false≢true q)
    agree_on (Cap a) (Cap b) (Cap d) p q =
        let e : a ≡ d = truths_are a b p ∙ truths_are b d q in ap (same_truth a) (sym e) ∙ truths_same a
    agree_on (Cap a) (Cap b) u p q = absurd (false≢true q)
    agree_on (Pointer s) (Pointer t) (Pointer u) p q = agree_on s t u p q
    agree_on (Pointer s) (Pointer t) u p q = absurd (false≢true q)
    agree_on (Array s l) (Array t m) (Array u n) p q =
        let a = and_parts (agree f s t) (f l m) p in let b = and_parts (agree g t u) (g m n) q in
        and_from (agree h s u) (h l n) (agree_on s t u a.0 b.0) (c l m n a.1 b.1)
    agree_on (Array s l) (Array t m) u p q = absurd (false≢true q)
    agree_on (Tagged l) (Tagged m) (Tagged n) p q = eq-eqb l n (eqb-true l m p ∙ eqb-true m n q)
    agree_on (Tagged l) (Tagged m) u p q = absurd (false≢true q)
    agree_on (Function r ps) (Function s qs) (Function t rs) p q =
        let a = and_parts (agree f r s) (all_agree f ps qs) p in
        let b = and_parts (agree g s t) (all_agree g qs rs) q in
        and_from (agree h r t) (all_agree h ps rs) (agree_on r s t a.0 b.0) (all_agree_on ps qs rs a.1 b.1)
    agree_on (Function r ps) (Function s qs) u p q = absurd (false≢true q)
    agree_on (Const s) (Const t) (Const u) p q = agree_on s t u p q
    agree_on (Const s) (Const t) u p q = absurd (false≢true q)
    agree_on s t u p q = absurd (false≢true p)

    all_agree_on : (ss ts us : Tys) → all_agree f ss ts ≡ true → all_agree g ts us ≡ true → all_agree h ss us ≡ true
    all_agree_on no_types no_types no_types p q = refl
    all_agree_on no_types no_types us p q = absurd (false≢true q)
    all_agree_on (also s ss) (also t ts) (also u us) p q =
        let a = and_parts (agree f s t) (all_agree f ss ts) p in
        let b = and_parts (agree g t u) (all_agree g ts us) q in
        and_from (agree h s u) (all_agree h ss us) (agree_on s t u a.0 b.0) (all_agree_on ss ts us a.1 b.1)
    all_agree_on (also s ss) (also t ts) us p q = absurd (false≢true q)
    all_agree_on ss ts us p q = absurd (false≢true p)

-- ---- refined types

abbrev pub refines : Ty → Ty → Bool
refines s t = agree (λ m n. m == n || m == 0) s t

pub refines_self : (t : Ty) → refines t t ≡ true
refines_self t = agree_self (λ m n. m == n || m == 0) (λ n. or_left (n == n) (n == 0) (eq-eqb n n refl)) t

same_or_none : (l m n : ℕ) → (l == m || l == 0) ≡ true → (m == n || m == 0) ≡ true → (l == n || l == 0) ≡ true
same_or_none l m n p q =
    elim (or_cases (l == m) (l == 0) p) as (λ _. (l == n || l == 0) ≡ true) [
      | inl a ↦ elim (or_cases (m == n) (m == 0) q) as (λ _. (l == n || l == 0) ≡ true) [
        | inl b ↦ or_left (l == n) (l == 0) (eq-eqb l n (eqb-true l m a ∙ eqb-true m n b))
        | inr b ↦ or_right (l == n) (l == 0) (eq-eqb l 0 (eqb-true l m a ∙ eqb-true m 0 b))
      ]
      | inr a ↦ or_right (l == n) (l == 0) a
    ]

pub refines_on : (s t u : Ty) → refines s t ≡ true → refines t u ≡ true → refines s u ≡ true
refines_on s t u p q = agree_on (λ m n. m == n || m == 0) (λ m n. m == n || m == 0)
    (λ m n. m == n || m == 0) same_or_none s t u p q

pub refined_compatible : (s t : Ty) → refines s t ≡ true → compatible s t ≡ true
refined_compatible s t e =
    agree_more (λ m n. m == n || m == 0) (λ m n. m == n || m == 0 || n == 0)
    (λ m n h. or_left (m == n || m == 0) (n == 0) h) s t e

-- the composite of compatible types refines both
Lengths : ℕ → ℕ → Type 0
Lengths m n = ((m ≡ n) ⊎ (m ≡ 0)) ⊎ (n ≡ 0)

lengths_are : (m n : ℕ) → (m == n || m == 0 || n == 0) ≡ true → Lengths m n
unfolding Lengths
lengths_are m n e =
    ⊎_elim (λ b. ⊎_elim (λ a. inl (inl (eqb-true m n a))) (λ a. inl (inr (eqb-true m 0 a)))
    (or_cases (m == n) (m == 0) b)) (λ a. inr (eqb-true n 0 a)) (or_cases (m == n || m == 0) (n == 0) e)

left_length : (m n : ℕ) → Lengths m n → (m == max m n || m == 0) ≡ true
unfolding Lengths
left_length m n (inl (inl e)) = or_left (m == max m n) (m == 0) (eq-eqb m (max m n) (omega arith))
left_length m n (inl (inr e)) = or_right (m == max m n) (m == 0) (eq-eqb m 0 e)
left_length m n (inr e) = or_left (m == max m n) (m == 0) (eq-eqb m (max m n) (omega arith))

right_length : (m n : ℕ) → Lengths m n → (n == max m n || n == 0) ≡ true
unfolding Lengths
right_length m n (inl (inl e)) = or_left (n == max m n) (n == 0) (eq-eqb n (max m n) (omega arith))
right_length m n (inl (inr e)) = or_left (n == max m n) (n == 0) (eq-eqb n (max m n) (omega arith))
right_length m n (inr e) = or_right (n == max m n) (n == 0) (eq-eqb n 0 e)

abbrev pub loose : ℕ → ℕ → Bool
loose m n = m == n || m == 0 || n == 0

mutual
  pub composite_left : (s t : Ty) → compatible s t ≡ true → refines s (composite s t) ≡ true
  composite_left Void Void e = refl
  composite_left (Int j m) (Int k n) e = refines_self (Int j m)
  composite_left (Cap a) (Cap b) e = refines_self (Cap a)
  composite_left (Pointer s) (Pointer t) e = composite_left s t e
  composite_left (Array s m) (Array t n) e =
      let p = and_parts (compatible s t) (loose m n) e in
      and_from (refines s (composite s t)) (m == max m n || m == 0) (composite_left s t p.0)
      (left_length m n (lengths_are m n p.1))
  composite_left (Tagged m) (Tagged n) e = refines_self (Tagged m)
  composite_left (Function r ps) (Function s qs) e =
      let p = and_parts (compatible r s) (all_agree loose ps qs) e in
      and_from (refines r (composite r s)) (all_agree (λ m n. m == n || m == 0) ps (composites ps qs))
      (composite_left r s p.0) (composites_left ps qs p.1)
  composite_left (Const s) (Const t) e = composite_left s t e
  composite_left s t e = absurd (false≢true e)

  composites_left : (ss ts : Tys) → all_agree loose ss ts ≡ true →
      all_agree (λ m n. m == n || m == 0) ss (composites ss ts) ≡ true
  composites_left no_types no_types e = refl
  composites_left (also s ss) (also t ts) e =
      let p = and_parts (compatible s t) (all_agree loose ss ts) e in
      and_from (refines s (composite s t)) (all_agree (λ m n. m == n || m == 0) ss (composites ss ts))
      (composite_left s t p.0) (composites_left ss ts p.1)
  composites_left ss ts e = absurd (false≢true e)

mutual
  pub composite_right : (s t : Ty) → compatible s t ≡ true → refines t (composite s t) ≡ true
  composite_right Void Void e = refl
  composite_right (Int j m) (Int k n) e =
      let p = and_parts (same_kind j k) (m == n) e in let i = int_is j k m n (kinds_are j k p.0) (eqb-true m n p.1) in
      ap (refines (Int k n)) i ∙ refines_self (Int k n)
  composite_right (Cap a) (Cap b) e = ap (λ c. refines (Cap b) (Cap c)) (truths_are a b e) ∙ refines_self (Cap b)
  composite_right (Pointer s) (Pointer t) e = composite_right s t e
  composite_right (Array s m) (Array t n) e =
      let p = and_parts (compatible s t) (loose m n) e in
      and_from (refines t (composite s t)) (n == max m n || n == 0) (composite_right s t p.0)
      (right_length m n (lengths_are m n p.1))
  composite_right (Tagged m) (Tagged n) e =
      ap (λ c. refines (Tagged n) (Tagged c)) (eqb-true m n e) ∙ refines_self (Tagged n)
  composite_right (Function r ps) (Function s qs) e =
      let p = and_parts (compatible r s) (all_agree loose ps qs) e in
      and_from (refines s (composite r s)) (all_agree (λ m n. m == n || m == 0) qs (composites ps qs))
      (composite_right r s p.0) (composites_right ps qs p.1)
  composite_right (Const s) (Const t) e = composite_right s t e
  composite_right s t e = absurd (false≢true e)

  composites_right : (ss ts : Tys) → all_agree loose ss ts ≡ true →
      all_agree (λ m n. m == n || m == 0) ts (composites ss ts) ≡ true
  composites_right no_types no_types e = refl
  composites_right (also s ss) (also t ts) e =
      let p = and_parts (compatible s t) (all_agree loose ss ts) e in
      and_from (refines t (composite s t)) (all_agree (λ m n. m == n || m == 0) ts (composites ss ts))
      (composite_right s t p.0) (composites_right ss ts p.1)
  composites_right ss ts e = absurd (false≢true e)
