-- Operands that are read and converted.
use Rattle.std.proofs.Common.{◌≡◌, ℕ, Bool, true, false, List, Ok, refl, sym, ap, subst, ◌∙◌, inl, inr, ◌⊎◌, ⊎_elim}
use Rattle.std.specs.Prelude.{◌&&◌, ◌||◌, if◌then◌else◌}
use Rattle.std.proofs.lemmas.Bool.{false≢true, and_parts, and_from, or_cases, or_left, or_right}
use Rattle.ck_base.specs.declared.positions.Pos.{Pos}
use Rattle.ck_int.specs.declared.kinds.IntKind.{IntKind}
use Rattle.c_tree.specs.Types.{Ty, Void, Int, Cap, Pointer, Array, Tagged, Function, Const, bare, is_integer}
use Rattle.c_tree.specs.Types.{is_pointer, is_scalar, is_void, is_bool, is_array, is_function, is_tagged, same}
use Rattle.c_tree.specs.Types.{promoted}
use Rattle.c_tree.specs.Terms.{Load, Convert, Term, type_of, pos_of, step}
use Rattle.c_tree.specs.Scopes.{TagState, State, is_complete}
use Rattle.c_tree.specs.Conversions.{Operand, operand_type, designates, value_at, value, is_readable, converted_term}
use Rattle.c_tree.specs.Conversions.{goes_to, assigned}
use Rattle.c_tree.specs.Expressions.{gives, promoted_term}
use Rattle.c_tree.specs.WellTyped.{holds}
use Rattle.typing_laws.proofs.Agreeing.{same_is}
use Rattle.typing_laws.proofs.Facts.{Complete, TypeOk, IsValue, scalar, nothing, tagged, OperandOk, ValueOk, Inv, Kept}
use Rattle.typing_laws.proofs.Growing.{grows_self}
use Rattle.typing_laws.proofs.Steps.{given, needed}
use Rattle.typing_laws.proofs.Scalars.{implied, branched, integer_scalar, pointer_scalar, integer_ok, promoted_integer}
use Rattle.typing_laws.proofs.Scalars.{bare_ok, bare_extent, complete_is, read_cases}

-- a step that gives an operand, and one that gives a value
abbrev pub Operands : Bool → State → Operand × State → Type 0
Operands m s x = Kept m true s (λ r a. OperandOk m r a.is) x

abbrev pub Values : Bool → State → Operand × State → Type 0
Values m s x = Kept m true s (λ r a. ValueOk m r a.is) x

abbrev pub IsConverted : Bool → State → Ty → Term → Type 0
IsConverted m s t y = ValueOk m s y × (type_of y ≡ t)

-- a value as by assignment to a type
pub record IsAssigned (m : Bool) (s : State) (t : Ty) (y : Term) : Type 0 where
  pub value : ValueOk m s y
  pub type : type_of y ≡ bare t
  pub kind : holds (is_scalar (bare t)) ⊎ holds (is_tagged (bare t))
  pub complete : Complete s.tags (bare t)

module _ (m : Bool) (s : State) where
  pub gave : Inv m s → (t : Term) (p : Pos) → OperandOk m s t → (x : Operand × State) → gives t p s ≡ Ok x →
      Operands m s x
  gave i t p h x e = given (Operands m s) (record { is = t; first = p }) s x e
      (record { inv = i; grown = grows_self true s; post = h })

  -- a node that is no place
  pub made : (x : Term) → designates x ≡ false → ValueOk m s x → OperandOk m s x
  made x d h = record {
    fits = h.fits;
    type = h.type;
    valued = λ _. inr h.value;
    placed = λ e. absurd (false≢true (sym d ∙ e));
  }

  -- ---- reading (6.3.2.1)

  loaded : (x : Term) → OperandOk m s x → is_readable s x ≡ true → is_array (type_of x) ≡ false →
      is_function (type_of x) ≡ false →
      ValueOk m s (if designates x then step Load x (bare (type_of x)) (pos_of x) else x)
  loaded x h r a f =
      branched (ValueOk m s) (designates x) (step Load x (bare (type_of x)) (pos_of x)) x
      (λ d.
      let there : IsValue s.tags (bare (type_of x)) =
      ⊎_elim (λ c. scalar c) (λ w. ⊎_elim (λ v. nothing v) (λ n.
      let c = complete_is s (type_of x) (implied (is_tagged (bare (type_of x))) (is_complete s (type_of x)) r
      (ap is_tagged n.1)) in
      tagged n.0 n.1 (c.0, bare_extent s.tags (type_of x) ∙ c.1)) w) (read_cases s.tags (type_of x) h.type a f) in
      record {
        fits = ((h.fits, tt), (d, refl, there, h.placed d));
        type = bare_ok s.tags (type_of x) h.type;
        value = there;
      })
      (λ d. record {
        fits = h.fits;
        type = h.type;
        value = ⊎_elim (λ g. absurd (false≢true (sym f ∙ g))) (λ v. v) (h.valued d);
      })

  value_by : (t : Ty) (x : Term) → type_of x ≡ t → OperandOk m s x → is_readable s x ≡ true → ValueOk m s (value_at t x)
  value_by (Array u n) x e h r = record {
    fits = ((h.fits, tt), inl (u, n, e, refl));
    type = (subst (TypeOk s.tags) e h.type).0;
    value = scalar refl;
  }
  value_by (Function t ps) x e h r = record {
    fits = ((h.fits, tt), inr (ap is_function e, ap Pointer (sym e)));
    type = subst (TypeOk s.tags) e h.type;
    value = scalar refl;
  }
  value_by Void x e h r = subst (λ t. ValueOk m s (if designates x then step Load x (bare t) (pos_of x) else x)) e
      (loaded x h r (ap is_array e) (ap is_function e))
  value_by (Int k n) x e h r =
      subst (λ t. ValueOk m s (if designates x then step Load x (bare t) (pos_of x) else x)) e
      (loaded x h r (ap is_array e) (ap is_function e))
  value_by (Cap b) x e h r =
      subst (λ t. ValueOk m s (if designates x then step Load x (bare t) (pos_of x) else x)) e
      (loaded x h r (ap is_array e) (ap is_function e))
  value_by (Pointer t) x e h r =
      subst (λ t. ValueOk m s (if designates x then step Load x (bare t) (pos_of x) else x)) e
      (loaded x h r (ap is_array e) (ap is_function e))
  value_by (Tagged n) x e h r =
      subst (λ t. ValueOk m s (if designates x then step Load x (bare t) (pos_of x) else x)) e
      (loaded x h r (ap is_array e) (ap is_function e))
  value_by (Const t) x e h r =
      subst (λ t. ValueOk m s (if designates x then step Load x (bare t) (pos_of x) else x)) e
      (loaded x h r (ap is_array e) (ap is_function e))

  pub value_ok : Inv m s → (a : Operand) → OperandOk m s a.is → (x : Operand × State) → value a s ≡ Ok x → Values m s x
  value_ok i a h x e =
      let n = needed (is_readable s a.is) 132 a.first
      (λ r. Ok (record a { is = value_at (type_of a.is) a.is }, r)) s x e in
      given (Values m s) (record a { is = value_at (type_of a.is) a.is }) s x n.1
      (record { inv = i; grown = grows_self true s; post = value_by (type_of a.is) a.is refl h n.0 })

  -- ---- conversion (6.3)

  converted_by : (b : Bool) (t : Ty) (x : Term) → same (type_of x) t ≡ b → ValueOk m s x → TypeOk s.tags t →
      IsValue s.tags t → (b ≡ false → holds (is_void t) ⊎ (holds (is_scalar t) × holds (is_scalar (type_of x)))) →
      IsConverted m s t (if b then x else step Convert x t (pos_of x))
  converted_by true t x e h k v f = (h, same_is (type_of x) t e)
  converted_by false t x e h k v f = (record { fits = ((h.fits, tt), (f refl, k)); type = k; value = v }, refl)

  pub to_scalar : (t : Ty) (x : Term) → ValueOk m s x → TypeOk s.tags t → holds (is_scalar t) →
      holds (is_scalar (type_of x)) → IsConverted m s t (converted_term t x)
  to_scalar t x h k p q = converted_by (same (type_of x) t) t x refl h k (scalar p) (λ _. inr (p, q))

  pub to_integer : (t : Ty) (x : Term) → ValueOk m s x → holds (is_integer t) → holds (is_integer (type_of x)) →
      IsConverted m s t (converted_term t x)
  to_integer t x h p q = to_scalar t x h (integer_ok s.tags t p) (integer_scalar t p) (integer_scalar (type_of x) q)

  pub to_same : (t : Ty) (x : Term) → ValueOk m s x → TypeOk s.tags t → same (type_of x) t ≡ true →
      IsConverted m s t (converted_term t x)
  to_same t x h k e =
      let i = same_is (type_of x) t e in
      converted_by (same (type_of x) t) t x refl h k (subst (IsValue s.tags) i h.value)
      (λ f. absurd (false≢true (sym f ∙ e)))

  pub to_promoted : (x : Term) → ValueOk m s x → holds (is_integer (type_of x)) →
      IsConverted m s (promoted (type_of x)) (promoted_term x)
  to_promoted x h p = to_integer (promoted (type_of x)) x h (promoted_integer (type_of x) p) p

-- what goes to a type is a scalar that goes to a scalar, or a struct or union that goes to itself
pub Goes : List TagState → Ty → Term → Type 0
Goes ts u x = (holds (is_scalar u) × holds (is_scalar (type_of x))) ⊎ ((n : ℕ) × (u ≡ Tagged n) × (type_of x ≡ u))

goes_int : (ts : List TagState) (k : IntKind) (n : ℕ) (x : Term) →
    (is_integer (type_of x) || (is_bool (Int k n) && is_pointer (type_of x))) ≡ true → Goes ts (Int k n) x
unfolding Goes
goes_int ts k n x e =
    inl (
      refl,
      ⊎_elim (λ i. integer_scalar (type_of x) i)
          (λ b. pointer_scalar (type_of x) (and_parts (is_bool (Int k n)) (is_pointer (type_of x)) b).1)
          (or_cases (is_integer (type_of x)) (is_bool (Int k n) && is_pointer (type_of x)) e),
    )

goes_pointer : (ts : List TagState) (u t : Ty) (x : Term) → type_of x ≡ t → goes_to (Pointer u) t x ≡ true →
    Goes ts (Pointer u) x
unfolding Goes
goes_pointer ts u (Pointer t) x i e = inl (refl, ap is_scalar i)
goes_pointer ts u (Int k n) x i e = inl (refl, ap is_scalar i)
goes_pointer ts u (Cap b) x i e = inl (refl, ap is_scalar i)
goes_pointer ts u t x i e = absurd (false≢true e)

pub goes : (ts : List TagState) (u : Ty) (x : Term) → goes_to u (type_of x) x ≡ true → Goes ts u x
unfolding Goes
goes ts (Int k n) x e = goes_int ts k n x e
goes ts (Cap b) x e = inl (refl, integer_scalar (type_of x) e)
goes ts (Pointer u) x e = goes_pointer ts u (type_of x) x refl e
goes ts (Tagged n) x e = inr (n, refl, sym (same_is (Tagged n) (type_of x) e))
goes ts u x e = absurd (false≢true e)

scalar_complete : (ts : List TagState) (u : Ty) → is_scalar u ≡ true → Complete ts u
scalar_complete ts (Int k n) e = (_, refl)
scalar_complete ts (Cap b) e = (_, refl)
scalar_complete ts (Pointer t) e = (_, refl)
scalar_complete ts u e = absurd (false≢true e)

tagged_complete : (ts : List TagState) (u : Ty) (n : ℕ) → u ≡ Tagged n → IsValue ts u → Complete ts u
tagged_complete ts u n e (scalar h) = absurd (false≢true (ap is_scalar (sym e) ∙ h))
tagged_complete ts u n e (nothing h) = absurd (false≢true (ap is_void (sym e) ∙ ap is_void h))
tagged_complete ts u n e (tagged k h c) = c

module _ (m : Bool) (s : State) where
  assigned_by : (t : Ty) (x : Term) → TypeOk s.tags t → ValueOk m s x → Goes s.tags (bare t) x →
      IsAssigned m s t (converted_term (bare t) x)
  unfolding Goes
  assigned_by t x k h (inl g) =
      let c = to_scalar m s (bare t) x h (bare_ok s.tags t k) g.0 g.1 in
      record { value = c.0; type = c.1; kind = inl g.0; complete = scalar_complete s.tags (bare t) g.0 }
  assigned_by t x k h (inr g) =
      let v : IsValue s.tags (bare t) = subst (IsValue s.tags) g.2 h.value in
      let c = converted_by m s (same (type_of x) (bare t)) (bare t) x refl h (bare_ok s.tags t k) v
      (λ f. absurd (false≢true (sym f ∙ ap (same (type_of x)) (sym g.2) ∙ self (type_of x)))) in
      record {
        value = c.0;
        type = c.1;
        kind = inr (ap is_tagged g.1);
        complete = tagged_complete s.tags (bare t) g.0 g.1 v;
      }
    where
      self : (u : Ty) → same u u ≡ true
      self u = Rattle.typing_laws.proofs.Agreeing.agree_self _ (λ n. Rattle.std.proofs.lemmas.Bool.eq-eqb n n refl) u

  pub assigned_ok : Inv m s → (t : Ty) (a : Operand) → TypeOk s.tags t → ValueOk m s a.is → (x : Term × State) →
      assigned t a s ≡ Ok x → Kept m true s (λ r y. IsAssigned m r t y) x
  assigned_ok i t a k h x e =
      let n = needed (goes_to (bare t) (operand_type a) a.is) 133 a.first
      (λ r. Ok (converted_term (bare t) a.is, r)) s x e in
      given (Kept m true s (λ r y. IsAssigned m r t y)) (converted_term (bare t) a.is) s x n.1
      (record { inv = i; grown = grows_self true s; post = assigned_by t a.is k h (goes s.tags (bare t) a.is n.0) })
