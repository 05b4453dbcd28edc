-- Numbers in a base, and the suffixes of integer constants.
use Rattle.std.proofs.Common.{◌≡◌, ℕ, zero, suc, ◌+◌, ◌*◌, ◌^◌, ◌<◌, ◌≤◌, Bool, true, false, not, ◌&&◌, ◌==◌, List, []}
use Rattle.std.proofs.Common.{◌∷◌, length, take, drop, get_or, take-append-drop, refl, sym, ap, subst, ◌∙◌, ◌⊎◌, inl}
use Rattle.std.proofs.Common.{inr, arith}
use Rattle.std.specs.List.{list_all}
use Rattle.std.specs.Prelude.{Option, Some, None, if◌then◌else◌, fold}
use Rattle.std.specs.Char.{digit_value}
use Rattle.std.proofs.Math.Nat.{mul-le-mul_right}
use Rattle.std.proofs.lemmas.List.Sums.{fold-append, fold_more}
use Rattle.std.proofs.lemmas.Bool.{eqb-true}
use Rattle.ck_base.specs.Tokens.{is_among}
use Rattle.ck_base.specs.Literals.{value_of, suffixes}
use Rattle.c_lex.specs.Spelled.{no_suffix, unsigned_suffix, long_suffix, long_long_suffix, unsigned_long_suffix}
use Rattle.c_lex.specs.Spelled.{unsigned_long_long_suffix, suffix_at}
use Rattle.c_lex.proofs.Tables.{and_true, among_passes}

-- Digits

-- further digits make no number smaller
grows : (base : ℕ) → 1 ≤ base → (n : ℕ) (digits : List ℕ) → n ≤ fold (λ m d. base * m + digit_value d) n digits
grows base some n [] = omega arith
grows base some n (d ∷ ds) = omega (arith, mul-le-mul_right n some, grows base some (base * n + digit_value d) ds)

-- where the number of some digits doesn't fit, that of all doesn't
pub front_too_large : (base : ℕ) (digits : List ℕ) (i : ℕ) → 1 ≤ base → i < length digits →
    2 ^ 64 ≤ base * value_of base (take i digits) + digit_value (get_or digits i 0) → value_of base digits < 2 ^ 64 → ⊥
front_too_large base digits i some within large small =
    let step = fold_more (λ m d. base * m + digit_value d) 0 digits i 0 within in
    let whole = sym (fold-append (λ m d. base * m + digit_value d) 0 (take (i + 1) digits) (drop (i + 1) digits))
    ∙ ap (value_of base) (take-append-drop (i + 1) digits) in
    absurd (omega (arith, step, whole, grows base some (value_of base (take (i + 1) digits)) (drop (i + 1) digits)))

-- Suffixes

same : Bool → Bool → Bool
same true b = b
same false b = not b

same-true : (a b : Bool) → same a b ≡ true → a ≡ b
unfolding same
same-true true true e = refl
same-true true false e = cc
same-true false true e = cc
same-true false false e = refl

says : Bool → ℕ → Option (Bool × ℕ) → Bool
says unsigned longs None = false
says unsigned longs (Some p) = same p.0 unsigned && p.1 == longs

says-true : (unsigned : Bool) (longs : ℕ) (said : Option (Bool × ℕ)) → says unsigned longs said ≡ true →
    said ≡ Some (unsigned, longs)
unfolding says
says-true unsigned longs None e = cc
says-true unsigned longs (Some p) e =
    let both = and_true (same p.0 unsigned) _ e in
    let first : p.0 ≡ unsigned = same-true p.0 unsigned both.0 in
    let second : p.1 ≡ longs = eqb-true p.1 longs both.1 in
    λ i. Some (first i, second i)

pub suffix_said : (unsigned : Bool) (longs : ℕ) (suffix : List ℕ) → is_among (suffixes unsigned longs) suffix ≡ true →
    suffix_at suffix ≡ Some (unsigned, longs)
unfolding suffixes suffix_at says same
suffix_said false zero suffix among =
    says-true false 0 _ (among_passes (λ t. says false 0 (suffix_at t)) (suffixes false 0) suffix refl among)
suffix_said true zero suffix among =
    says-true true 0 _ (among_passes (λ t. says true 0 (suffix_at t)) (suffixes true 0) suffix refl among)
suffix_said false (suc zero) suffix among =
    says-true false 1 _ (among_passes (λ t. says false 1 (suffix_at t)) (suffixes false 1) suffix refl among)
suffix_said true (suc zero) suffix among =
    says-true true 1 _ (among_passes (λ t. says true 1 (suffix_at t)) (suffixes true 1) suffix refl among)
suffix_said false (suc (suc zero)) suffix among =
    says-true false 2 _ (among_passes (λ t. says false 2 (suffix_at t)) (suffixes false 2) suffix refl among)
suffix_said true (suc (suc zero)) suffix among =
    says-true true 2 _ (among_passes (λ t. says true 2 (suffix_at t)) (suffixes true 2) suffix refl among)
suffix_said false (suc (suc (suc n))) suffix among = cc
suffix_said true (suc (suc (suc n))) suffix among = cc

-- a chain of tests, one test on
chosen : {A : Type 0} (test : Bool) (x y : A) (rest : Option A) → (if test then Some x else rest) ≡ Some y →
    ((test ≡ true) × (x ≡ y)) ⊎ (rest ≡ Some y)
chosen true x y rest e = inl (refl, let same_value : x ≡ y = cc in same_value)
chosen false x y rest e = inr e

IsSuffix : List ℕ → Bool × ℕ → Type 0
IsSuffix suffix p = is_among (suffixes p.0 p.1) suffix ≡ true

in_table : (p q : Bool × ℕ) (table : List (List ℕ)) (suffix : List ℕ) →
    list_all (is_among (suffixes p.0 p.1)) table ≡ true → (is_among table suffix ≡ true) × (p ≡ q) → IsSuffix suffix q
unfolding IsSuffix
in_table p q table suffix all found =
    subst (IsSuffix suffix) found.1 (among_passes (is_among (suffixes p.0 p.1)) table suffix all found.0)

pub suffix_spelled : (unsigned : Bool) (longs : ℕ) (suffix : List ℕ) → suffix_at suffix ≡ Some (unsigned, longs) →
    is_among (suffixes unsigned longs) suffix ≡ true
unfolding suffixes suffix_at IsSuffix
suffix_spelled unsigned longs suffix e =
    elim (chosen (is_among no_suffix suffix) (false, 0) (unsigned, longs) _ e) [
      | inl found ↦ in_table (false, 0) (unsigned, longs) no_suffix suffix refl found
      | inr e1 ↦
          elim (chosen (is_among unsigned_suffix suffix) (true, 0) (unsigned, longs) _ e1) [
            | inl found ↦ in_table (true, 0) (unsigned, longs) unsigned_suffix suffix refl found
            | inr e2 ↦
                elim (chosen (is_among long_suffix suffix) (false, 1) (unsigned, longs) _ e2) [
                  | inl found ↦ in_table (false, 1) (unsigned, longs) long_suffix suffix refl found
                  | inr e3 ↦
                      elim (chosen (is_among long_long_suffix suffix) (false, 2) (unsigned, longs) _ e3) [
                        | inl found ↦ in_table (false, 2) (unsigned, longs) long_long_suffix suffix refl found
                        | inr e4 ↦
                            elim (chosen (is_among unsigned_long_suffix suffix) (true, 1) (unsigned, longs) _ e4) [
                              | inl found ↦ in_table (true, 1) (unsigned, longs) unsigned_long_suffix suffix refl found
                              | inr e5 ↦
                                  elim (chosen (is_among unsigned_long_long_suffix suffix) (true, 2)
                                  (unsigned, longs) None e5) [
                                    | inl found ↦ in_table (true, 2)
                                        (unsigned, longs) unsigned_long_long_suffix suffix refl found
                                    | inr e6 ↦ cc
                                  ]
                            ]
                      ]
                ]
          ]
    ]
