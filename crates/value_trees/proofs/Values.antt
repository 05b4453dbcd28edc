-- The type of a value is void, that of a scalar, or a struct or union.
use Rattle.std.proofs.Common.{◌≡◌, ℕ, Bool, true, false, Some, refl, sym, ap, subst, ◌∙◌, inl, inr, ◌⊎◌, ⊎_elim}
use Rattle.std.specs.Prelude.{◌||◌}
use Rattle.std.proofs.lemmas.Bool.{false≢true}
use Rattle.ck_base.specs.declared.positions.Pos.{Pos}
use Rattle.c_tree.specs.Terms as tree
use Rattle.c_tree.specs.Terms.{Shape, Term, Terms, term, no_terms, with_term, type_of}
use Rattle.c_tree.specs.Types as ty
use Rattle.c_tree.specs.Types.{Ty, Int, Cap, Tagged, Const, is_integer, is_pointer, is_scalar, is_tagged}
use Rattle.c_tree.specs.Types.{is_void, compatible}
use Rattle.c_tree.specs.WellTyped.{Frame, TermFits, TermsFit, ShapeFits, UnaryFits, IsComplete, type_in}
use Rattle.c_tree.specs.declared.typed.VarDef.{VarDef}
use Rattle.std.specs.Prelude.{slice_get}
use Rattle.c_tree.specs.declared.typed.UnaryOp.{UnaryOp}
use Rattle.c_tree.specs.declared.typed.UnaryOp.TheVariants as unary
use Rattle.typing_laws.specs.Valued.{is_plain, IsValue}

-- ---- types

pub untagged : (t : Ty) → is_scalar t ≡ true → is_tagged t ≡ false
untagged (Tagged n) e = absurd (false≢true e)
untagged t e = refl

pub integer_scalar : (t : Ty) → is_integer t ≡ true → is_scalar t ≡ true
integer_scalar (Int k n) e = refl
integer_scalar (Cap s) e = refl
integer_scalar t e = absurd (false≢true e)

pub integer_untagged : (t : Ty) → is_integer t ≡ true → is_tagged t ≡ false
integer_untagged t e = untagged t (integer_scalar t e)

pub pointer_untagged : (t : Ty) → is_pointer t ≡ true → is_tagged t ≡ false
pointer_untagged (Tagged n) e = absurd (false≢true e)
pointer_untagged t e = refl

pub of_term : (f : Frame) (n : Shape) (xs : Terms) (t : Ty) (p : Pos) → TermFits f (term n xs t p) →
    TermsFit f xs × ShapeFits f n xs t
unfolding TermFits
of_term f n xs t p h = (h.0, h.1)

pub of_terms : (f : Frame) (a : Term) (xs : Terms) → TermsFit f (with_term a xs) → TermFits f a × TermsFit f xs
unfolding TermsFit
of_terms f a xs h = (h.0, h.1)

pub unary_untagged : (op : UnaryOp) (s t : Ty) → UnaryFits op s t → (is_tagged t ≡ false) × (is_tagged s ≡ false)
unary_untagged unary.LogicalNot s t h = (ap is_tagged h.1, untagged s h.0)
unary_untagged op s t h = (integer_untagged t h.0, ap is_tagged h.1 ∙ integer_untagged t h.0)

pub plain_untagged : (t : Ty) → is_plain t ≡ true → is_tagged t ≡ false
plain_untagged (Tagged n) e = absurd (false≢true e)
plain_untagged t e = refl

pub void_untagged : (t : Ty) → ty.is_void t ≡ true → is_tagged t ≡ false
void_untagged (Tagged n) e = absurd (false≢true e)
void_untagged t e = refl

-- ---- values

-- a struct or union is complete, or is that of a variable
abbrev pub IsWhole : Frame → Ty → Type 0
IsWhole f t = IsComplete f.program t ⊎
    ((y : ℕ) × (v : VarDef) × (slice_get f.vars y ≡ Some v) × (compatible t (type_in f.program v.of) ≡ true))

abbrev pub IsSort : Frame → Ty → Type 0
IsSort f t = (is_plain t ≡ true) ⊎ ((is_tagged t ≡ true) × IsWhole f t)

scalar_plain : (t : Ty) → is_scalar t ≡ true → is_plain t ≡ true
scalar_plain t e = by (is_void t) e
  where
    by : (b : Bool) → is_scalar t ≡ true → (b || is_scalar t) ≡ true
    by true e = refl
    by false e = e

void_plain : (t : Ty) → is_void t ≡ true → is_plain t ≡ true
void_plain t e = ap (λ b. b || is_scalar t) e

unary_plain : (op : UnaryOp) (s t : Ty) → UnaryFits op s t → is_plain t ≡ true
unary_plain unary.LogicalNot s t h = ap is_plain h.1
unary_plain op s t h = scalar_plain t (integer_scalar t h.0)

module _ (f : Frame) where
  pub value_sort : (x : Term) → IsValue x → TermFits f x → IsSort f (type_of x)
  unfolding TermFits
  value_sort (term (tree.Constant n) no_terms t p) v w = inl (scalar_plain t w.1.1)
  value_sort (term (tree.Literal k) xs t p) v w = absurd v.0
  value_sort (term (tree.Var k) no_terms t p) v w = inr (v.0, inr (k, w.1.0, w.1.1, w.1.2))
  value_sort (term (tree.Global k) xs t p) v w = absurd v.0
  value_sort (term (tree.Fun k) xs t p) v w = absurd v.0
  value_sort (term tree.Deref xs t p) v w = absurd v.0
  value_sort (term (tree.Member k) xs t p) v w = absurd v.0
  value_sort (term tree.Load (with_term a no_terms) t p) v w =
      ⊎_elim (λ h. inl (scalar_plain t h)) (λ h. inr (h, inl w.1.3)) w.1.2
  value_sort (term tree.Decay (with_term a no_terms) t p) v w =
      ⊎_elim (λ d. inl (ap is_plain d.3)) (λ d. inl (ap is_plain d.1)) w.1
  value_sort (term tree.Address (with_term a no_terms) t p) v w = inl (ap is_plain w.1.1)
  value_sort (term tree.Convert (with_term a no_terms) t p) v w =
      ⊎_elim (λ h. inl (void_plain t h)) (λ h. inl (scalar_plain t h.0)) w.1
  value_sort (term (tree.Unary op) (with_term a no_terms) t p) v w = inl (unary_plain op (type_of a) t w.1)
  value_sort (term (tree.Step adds front) (with_term a no_terms) t p) v w =
      ⊎_elim (λ i. inl (scalar_plain t (integer_scalar t i))) (λ q. inl (ap is_plain q.1)) w.1.2
  value_sort (term (tree.Arithmetic op) (with_term a (with_term b no_terms)) t p) v w =
      inl (ap is_plain w.1.0.2)
  value_sort (term (tree.Capability op r) (with_term a (with_term b no_terms)) t p) v w =
      inl (ap is_plain w.1.0.1)
  value_sort (term (tree.Plus minus) (with_term a (with_term b no_terms)) t p) v w =
      inl (ap is_plain w.1.0.1)
  value_sort (term tree.Difference (with_term a (with_term b no_terms)) t p) v w =
      inl (ap is_plain w.1.2)
  value_sort (term (tree.Compare op) (with_term a (with_term b no_terms)) t p) v w =
      inl (ap is_plain w.1.0)
  value_sort (term tree.And (with_term a (with_term b no_terms)) t p) v w = inl (ap is_plain w.1.0)
  value_sort (term tree.Or (with_term a (with_term b no_terms)) t p) v w = inl (ap is_plain w.1.0)
  value_sort (term tree.Comma (with_term a (with_term b no_terms)) t p) v w =
      subst (IsSort f) (sym w.1) (value_sort b v.1.1.0 w.0.1.0)
  value_sort (term tree.Assign (with_term a (with_term b no_terms)) t p) v w =
      ⊎_elim (λ h. inl (scalar_plain t h)) (λ h. inr (h, inl w.1.4)) w.1.3
  value_sort (term (tree.Compound op of) (with_term a (with_term b no_terms)) t p) v w =
      ⊎_elim (λ q. inl (ap is_plain q.0.1)) (λ i. inl (scalar_plain t (integer_scalar t i.0))) w.1.2
  value_sort (term tree.Conditional (with_term a (with_term b (with_term c no_terms))) t p) v w =
      subst (IsSort f) w.1.1 (value_sort b v.1.1.0 w.0.1.0)
  value_sort (term tree.Call xs t p) v w = inl v.0.0
  value_sort (term (tree.Library k) xs t p) v w = inl v.0
  value_sort (term n xs t p) v w = absurd w.1

  bare_tagged : (t : Ty) (tag : ℕ) → IsSort f t → ty.bare t ≡ Tagged tag → is_tagged t ≡ true
  bare_tagged t tag s e = ⊎_elim (λ h. absurd (by t h e)) (λ h. h.0) s
    where
      by : (t : Ty) → is_plain t ≡ true → ty.bare t ≡ Tagged tag → ⊥
      by (Tagged n) h e = false≢true h
      by (Const t) h e = false≢true h
      by t h e = absurd cc

  pub member_tagged : (x : Term) (tag : ℕ) → IsValue x → TermFits f x → ty.bare (type_of x) ≡ Tagged tag →
      is_tagged (type_of x) ≡ true
  member_tagged x tag v w e = bare_tagged (type_of x) tag (value_sort x v w) e
