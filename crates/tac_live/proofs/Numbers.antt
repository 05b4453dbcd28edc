-- Instructions by their numbers.
use Rattle.std.proofs.Common.{◌≡◌, ℕ, zero, suc, ◌+◌, ◌<◌, ◌≤◌, List, [], ◌∷◌, ◌++◌, length, get_or, All, Some, ◌⊎◌}
use Rattle.std.proofs.Common.{inl, inr, sym, ap, ◌∙◌, subst, arith}
use Rattle.std.proofs.lemmas.Bool.{cases_eq}
use Rattle.std.proofs.lemmas.List.{get_or-append-add, length-append}
use Rattle.std.proofs.lemmas.Option.{slice_get_within, slice_get-get_or}
use Rattle.tac_ir.specs.Intervals.{IsAt}
use Rattle.tac_ir.specs.Temps.{IsIn}
use Rattle.tac_ir.specs.declared.code.TacInstr.{TacInstr}

-- one instruction has a number
pub same_at : (code : List TacInstr) (n : ℕ) (i j : TacInstr) → IsAt code n i → IsAt code n j → i ≡ j
same_at code n i j (k, e, h) (m, d, g) = let s : k ≡ m = omega arith in cc

pub at_above : (code : List TacInstr) (n : ℕ) (i : TacInstr) → IsAt code n i → 0 < n
at_above code n i (k, e, h) = omega arith

pub at_within : (code : List TacInstr) (n : ℕ) (i : TacInstr) → IsAt code n i → n ≤ length code
at_within code n i (k, e, h) = let l = slice_get_within code k i h in omega arith

-- ---- members

pub is_in_left : (t : ℕ) (xs ys : List ℕ) → IsIn t xs → IsIn t (xs ++ ys)
is_in_left t [] ys (j, h) = absurd (cc)
is_in_left t (x ∷ xs) ys (zero, h) = (zero, h)
is_in_left t (x ∷ xs) ys (suc j, h) = let r = is_in_left t xs ys (j, h) in (suc r.0, r.1)

pub is_in_right : (t : ℕ) (xs ys : List ℕ) → IsIn t ys → IsIn t (xs ++ ys)
is_in_right t [] ys h = h
is_in_right t (x ∷ xs) ys h = let r = is_in_right t xs ys h in (suc r.0, r.1)

pub is_in_append : (t : ℕ) (xs ys : List ℕ) → IsIn t (xs ++ ys) → IsIn t xs ⊎ IsIn t ys
is_in_append t [] ys h = inr h
is_in_append t (x ∷ xs) ys (zero, h) = inl (zero, h)
is_in_append t (x ∷ xs) ys (suc j, h) =
    elim (is_in_append t xs ys (j, h)) [ inl l ↦ inl (suc l.0, l.1) | inr r ↦ inr r ]

pub is_in_cases : (t : ℕ) (xs : List ℕ) → IsIn t xs ⊎ (IsIn t xs → ⊥)
is_in_cases t [] = inr none
  where
    none : IsIn t [] → ⊥
    none (j, h) = cc
is_in_cases t (x ∷ xs) =
    elim (cases_eq x t) [
      | inl e ↦ inl (zero, ap Some e)
      | inr ne ↦ elim (is_in_cases t xs) [ inl h ↦ inl (suc h.0, h.1) | inr absent ↦ inr (neither ne absent) ]
    ]
  where
    neither : (x ≡ t → ⊥) → (IsIn t xs → ⊥) → IsIn t (x ∷ xs) → ⊥
    neither ne absent (zero, h) = let e : x ≡ t = cc in ne e
    neither ne absent (suc j, h) = absent (j, h)

pub all_from_in : (P : ℕ → Type 0) (xs : List ℕ) → ((t : ℕ) → IsIn t xs → P t) → All P xs
all_from_in P xs h = λ k d lt. h (get_or xs k d) (k, slice_get-get_or xs k d lt)

pub all_right : (P : ℕ → Type 0) (xs ys : List ℕ) → All P (xs ++ ys) → All P ys
all_right P xs ys h = λ k d lt. subst P (get_or-append-add xs ys k d)
    (h (length xs + k) d (omega (arith, length-append xs ys)))

-- the instruction that a loop over some code is at
pub at_item : (code : List TacInstr) (k : ℕ) (i : TacInstr) (n : ℕ) → k < length code → i ≡ get_or code k i →
    n ≡ k + 1 → IsAt code n i
at_item code k i n lt e s = (k, omega arith, slice_get-get_or code k i lt ∙ ap Some (sym e))
