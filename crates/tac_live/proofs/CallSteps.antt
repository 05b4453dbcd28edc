-- One more instruction for the calls of some code.
use Rattle.std.proofs.Common.{◌≡◌, ℕ, suc, ◌+◌, ◌≤◌, true, false, List, [], ◌∷◌, ◌++◌, length}
use Rattle.std.proofs.Common.{◌⊎◌, inl, inr, sym, subst, ◌∙◌, arith}
use Rattle.std.specs.Prelude.{slice_index, Contains}
use Rattle.std.specs.List.Sorted.{IsStrictlyIncreasing}
use Rattle.std.proofs.lemmas.Bool.{cases_eq, cases_lt, both_ways}
use Rattle.std.proofs.lemmas.List.{get_or_append_left, get_or_push, length_push, get_or_default}
use Rattle.std.proofs.lemmas.List.Elements.{Contains-push}
use Rattle.tac_ir.specs.Intervals.{IsAt}
use Rattle.tac_ir.specs.declared.code.TacInstr.{TacInstr}
use Rattle.tac_live.proofs.Numbers.{same_at, at_within}
use Rattle.tac_live.specs.Calls.{is_call, IsCallAt, AreCalls}

-- the calls of the instructions up to a number
pub record CallsUpto (code : List TacInstr) (upto : ℕ) (calls : List ℕ) : Type 0 where
  pub ascending : IsStrictlyIncreasing calls
  pub bound : (n : ℕ) → Contains calls n → n ≤ upto
  pub sound : (n : ℕ) → Contains calls n → IsCallAt code n
  pub complete : (n : ℕ) → IsCallAt code n → n ≤ upto → Contains calls n

none_in : (n : ℕ) → Contains [] n → ⊥
none_in n (k, lt, e) = omega arith

pub calls_end : (code : List TacInstr) (calls : List ℕ) → CallsUpto code (length code) calls → AreCalls code calls
calls_end code calls h = record {
  ascending = h.ascending;
  sound = h.sound;
  complete = λ n a. h.complete n a (at_within code n a.0 a.1);
}

pushed_in : (xs : List ℕ) (y n : ℕ) → Contains xs n → Contains (xs ++ y ∷ []) n
pushed_in xs y n (k, lt, e) = (k, omega (arith, length_push xs y), get_or_append_left xs (y ∷ []) n k lt ∙ e)

pushed_cases : (xs : List ℕ) (y n : ℕ) → Contains (xs ++ y ∷ []) n → Contains xs n ⊎ (n ≡ y)
pushed_cases xs y n (k, lt, e) = elim (cases_lt k (length xs)) [
  | inl below ↦ inl (k, below, sym (get_or_append_left xs (y ∷ []) n k below) ∙ e)
  | inr above ↦ let q : length xs ≡ k = omega (arith, length_push xs y) in inr (sym e ∙ get_or_push xs y n k q)
]

module _ (code : List TacInstr) (upto at : ℕ) (calls : List ℕ) (i : TacInstr) (next : at ≡ suc upto)
    (here : IsAt code at i) (h : CallsUpto code upto calls) where
  pub calls_same : is_call i ≡ false → CallsUpto code at calls
  calls_same e = record {
    ascending = h.ascending;
    bound = λ n c. let b = h.bound n c in omega arith;
    sound = h.sound;
    complete = λ n a le. elim (cases_eq n at) [
      | inl s ↦ absurd (both_ways (is_call i) e
          (subst (λ j. is_call j ≡ true) (same_at code at a.0 i (subst (λ m. IsAt code m a.0) s a.1) here) a.2))
      | inr ne ↦ h.complete n a (omega arith)
    ];
  }

  pub calls_more : is_call i ≡ true → CallsUpto code at (calls ++ at ∷ [])
  calls_more e = record {
    ascending = λ k lt. elim (cases_lt (k + 1) (length calls)) [
      | inl below ↦
          let a = get_or_append_left calls (at ∷ []) 0 k (omega arith) in
          let b = get_or_append_left calls (at ∷ []) 0 (k + 1) below in
          let s = h.ascending k below in
          omega arith
      | inr above ↦
          let q : length calls ≡ k + 1 = omega (arith, length_push calls at) in
          let a = get_or_append_left calls (at ∷ []) 0 k (omega arith) in
          let b = get_or_push calls at 0 (k + 1) q in
          let m = h.bound (slice_index calls k) (
            k,
            omega arith,
            get_or_default calls k (slice_index calls k) 0 (omega arith),
          ) in
          omega arith
    ];
    bound = λ n c. elim (pushed_cases calls at n c)
        [ inl o ↦ let b = h.bound n o in omega arith | inr s ↦ omega arith ];
    sound = λ n c. elim (pushed_cases calls at n c)
        [ inl o ↦ h.sound n o | inr s ↦ subst (λ m. IsCallAt code m) (sym s) (i, here, e) ];
    complete = λ n a le. elim (cases_eq n at) [
      | inl s ↦ subst (λ m. Contains (calls ++ at ∷ []) m) (sym s) (Contains-push calls at)
      | inr ne ↦ pushed_in calls at n (h.complete n a (omega arith))
    ];
  }

-- ---- argument places
