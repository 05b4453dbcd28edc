-- Escape sequences and characters: what the mirrors of specs/Spelled.antt find, and that nothing else is there.
use Rattle.std.proofs.Common.{◌≡◌, ◌≢◌, ℕ, zero, suc, ◌+◌, ◌<◌, ◌≤◌, Bool, true, false, ◌||◌, ◌==◌, List, [], ◌∷◌}
use Rattle.std.proofs.Common.{length, take, length-take, refl, sym, ap, subst, ◌∙◌, ◌⊎◌, inl, inr, arith, zero-add}
use Rattle.std.specs.Prelude.{Option, Some, None, if◌then◌else◌, option_map, nat_lt}
use Rattle.std.specs.Char.{is_digit}
use Rattle.std.specs.List.{list_all, prefix_len}
use Rattle.std.proofs.lemmas.Bool.{ltb-true, lt-ltb, le-leb, leb-true, eqb-true, eqb-false, ne_eqb, or_parts, or_cases}
use Rattle.ck_base.specs.Literals.{are_digits, value_of, simple_escape, leading_digits, BeginsWithEscape}
use Rattle.ck_base.specs.Literals.{BeginsWithCharacter}
use Rattle.c_lex.specs.Spelled.{numeric_at, octal_digits, other_escape_at, escape_at, character_at}
use Rattle.c_lex.proofs.Runs.{run_passes}
use Rattle.c_lex.proofs.Tables.{and_true}

-- a test and what is chosen by it
taken : {A : Type 0} (test : Bool) (x : A) (rest : Option A) (y : A) → (if test then Some x else rest) ≡ Some y →
    ((test ≡ true) × (x ≡ y)) ⊎ ((test ≡ false) × (rest ≡ Some y))
taken true x rest y e = inl (refl, let same : x ≡ y = cc in same)
taken false x rest y e = inr (refl, e)

pub some_injective : {A : Type 0} (x y : A) → Some x ≡ Some y → x ≡ y
some_injective x y e = cc

-- Numeric escape sequences

all_take : (base n : ℕ) (ds : List ℕ) → list_all (λ b. is_digit b base) ds ≡ true →
    list_all (λ b. is_digit b base) (take n ds) ≡ true
all_take base zero ds all = refl
all_take base (suc n) [] all = refl
all_take base (suc n) (d ∷ ds) all =
    let both = and_true (is_digit d base) _ all in rw (both.0) (all_take base n ds both.1)

are_some : (base : ℕ) (ds : List ℕ) → 0 < length ds → list_all (λ b. is_digit b base) ds ≡ true →
    are_digits base ds ≡ true
are_some base [] some all = absurd (omega arith)
are_some base (d ∷ ds) some all = all

some_are : (base : ℕ) (ds : List ℕ) → are_digits base ds ≡ true → 0 < length ds
some_are base [] are = cc
some_are base (d ∷ ds) are = omega arith

numeric_found : (base : ℕ) (digits : List ℕ) (before : ℕ) (p : ℕ × ℕ) → numeric_at base digits before ≡ Some p →
    (0 < length digits) × (value_of base digits ≤ 255) × ((value_of base digits, before + length digits) ≡ p)
numeric_found base digits before p e = elim (taken _ (value_of base digits, before + length digits) None p e) [
  | inl found ↦ (let both = and_true (nat_lt 0 (length digits)) _ found.0 in
      (ltb-true 0 (length digits) both.0, leb-true (value_of base digits) 255 both.1, found.1))
  | inr other ↦ cc
]

numeric_only : (base : ℕ) (digits : List ℕ) (before : ℕ) → are_digits base digits ≡ true → value_of base digits ≤ 255 →
    numeric_at base digits before ≡ Some (value_of base digits, before + length digits)
numeric_only base digits before are small =
    rw (lt-ltb 0 (length digits) (some_are base digits are), le-leb (value_of base digits) 255 small) refl

octal_are : (bytes : List ℕ) → list_all (λ b. is_digit b 8) (octal_digits bytes) ≡ true
octal_are bytes = all_take 8 3 (leading_digits 8 bytes) (run_passes (λ b. is_digit b 8) bytes)

no_octal : (b : ℕ) (bs : List ℕ) → is_digit b 8 ≡ false → octal_digits (b ∷ bs) ≡ []
no_octal b bs other = rw other refl

-- Simple escape sequences are spelled with no octal digit and no `x`

apart : ℕ → Bool
apart b = is_digit b 8 || b == 120

apart_at : (b c : ℕ) → apart c ≡ false → (b == c) ≡ true → apart b ≡ false
apart_at b c other same = subst (λ d. apart d ≡ false) (sym (eqb-true b c same)) other

simple_apart : (b value : ℕ) → simple_escape b ≡ Some value → apart b ≡ false
unfolding simple_escape apart
simple_apart b value e =
    elim (taken (b == 110) 10 _ value e) [
      | inl t ↦ apart_at b 110 refl t.0
      | inr e1 ↦
          elim (taken (b == 116) 9 _ value e1.1) [
            | inl t ↦ apart_at b 116 refl t.0
            | inr e2 ↦
                elim (taken (b == 114) 13 _ value e2.1) [
                  | inl t ↦ apart_at b 114 refl t.0
                  | inr e3 ↦
                      elim (taken (b == 97) 7 _ value e3.1) [
                        | inl t ↦ apart_at b 97 refl t.0
                        | inr e4 ↦
                            elim (taken (b == 98) 8 _ value e4.1) [
                              | inl t ↦ apart_at b 98 refl t.0
                              | inr e5 ↦
                                  elim (taken (b == 102) 12 _ value e5.1) [
                                    | inl t ↦ apart_at b 102 refl t.0
                                    | inr e6 ↦
                                        elim (taken (b == 118) 11 _ value e6.1) [
                                          | inl t ↦ apart_at b 118 refl t.0
                                          | inr e7 ↦
                                              elim (taken (b == 92 || b == 39 || b == 34 || b == 63) b None value e7.1)
                                              [ inl t ↦ last t.0 | inr e8 ↦ cc ]
                                        ]
                                  ]
                            ]
                      ]
                ]
          ]
    ]
  where
    last : (b == 92 || b == 39 || b == 34 || b == 63) ≡ true → apart b ≡ false
    last t = elim (or_cases _ (b == 63) t) [
      | inr here ↦ apart_at b 63 refl here
      | inl t1 ↦ elim (or_cases _ (b == 34) t1) [
        | inr here ↦ apart_at b 34 refl here
        | inl t2 ↦ elim (or_cases (b == 92) (b == 39) t2)
            [ inr here ↦ apart_at b 39 refl here | inl here ↦ apart_at b 92 refl here ]
      ]
    ]

-- Escape sequences

octal_first : (bytes : List ℕ) → 0 < length (octal_digits bytes) → escape_at bytes ≡ numeric_at 8 (octal_digits bytes) 0
unfolding escape_at
octal_first bytes some = rw (lt-ltb 0 (length (octal_digits bytes)) some) refl

pub escape_only : (bytes : List ℕ) (value n : ℕ) → BeginsWithEscape bytes value n → escape_at bytes ≡ Some (value, n)
unfolding escape_at other_escape_at apart
escape_only bytes value n (BeginsWithEscape.simple b rest e simple) =
    let other = or_parts (is_digit b 8) (b == 120) (simple_apart b value simple) in
    ap escape_at e ∙ rw (no_octal b rest other.0, other.1) (rw simple refl)
escape_only bytes value n (BeginsWithEscape.octal digits e are small) =
    let some : 0 < length (octal_digits bytes) = rw (← e) (some_are 8 digits are) in
    octal_first bytes some ∙ ap (λ ds. numeric_at 8 ds 0) (sym e) ∙ numeric_only 8 digits 0 are small
    ∙ ap (λ k. Some (value_of 8 digits, k)) (zero-add (length digits))
escape_only bytes value n (BeginsWithEscape.hexadecimal digits rest e digits_are are small) =
    ap escape_at e ∙ rw (← digits_are) (numeric_only 16 digits 1 are small)

other_found : (bytes : List ℕ) (p : ℕ × ℕ) → other_escape_at bytes ≡ Some p → BeginsWithEscape bytes p.0 p.1
unfolding other_escape_at
other_found [] p e = cc
other_found (b ∷ bs) p e = by_x (b == 120) refl e
  where
    by_simple : (simple : Option ℕ) → simple_escape b ≡ simple →
        option_map {U = ℕ × ℕ} (λ value. (value, 1)) simple ≡ Some p → BeginsWithEscape (b ∷ bs) p.0 p.1
    by_simple None simple_is made = cc
    by_simple (Some value) simple_is made =
        let same : (value, 1) ≡ p = cc in
        subst (λ (q : ℕ × ℕ). BeginsWithEscape (b ∷ bs) q.0 q.1) same (BeginsWithEscape.simple b bs refl simple_is)

    by_x : (is_x : Bool) → (b == 120) ≡ is_x →
        (if is_x then numeric_at 16 (leading_digits 16 bs) 1 else option_map (λ value. (value, 1)) (simple_escape b))
        ≡ Some p → BeginsWithEscape (b ∷ bs) p.0 p.1
    by_x true x found =
        let number = numeric_found 16 (leading_digits 16 bs) 1 p found in
        subst (λ (q : ℕ × ℕ). BeginsWithEscape (b ∷ bs) q.0 q.1) number.2
        (BeginsWithEscape.hexadecimal (leading_digits 16 bs) bs (ap (λ v. v ∷ bs) (eqb-true b 120 x)) refl
        (are_some 16 (leading_digits 16 bs) number.0 (run_passes (λ c. is_digit c 16) bs)) number.1)
    by_x false x found = by_simple (simple_escape b) refl found

pub escape_found : (bytes : List ℕ) (p : ℕ × ℕ) → escape_at bytes ≡ Some p → BeginsWithEscape bytes p.0 p.1
unfolding escape_at
escape_found bytes p e = by_octal (nat_lt 0 (length (octal_digits bytes))) e
  where
    by_octal : (octal : Bool) →
        (if octal then numeric_at 8 (octal_digits bytes) 0 else other_escape_at bytes) ≡ Some p →
        BeginsWithEscape bytes p.0 p.1
    by_octal true found =
        let number = numeric_found 8 (octal_digits bytes) 0 p found in
        let same : (value_of 8 (octal_digits bytes), length (octal_digits bytes)) ≡ p =
        ap (λ k. (value_of 8 (octal_digits bytes), k)) (sym (zero-add (length (octal_digits bytes))))
        ∙ number.2 in
        subst (λ (q : ℕ × ℕ). BeginsWithEscape bytes q.0 q.1) same
        (BeginsWithEscape.octal (octal_digits bytes) refl
        (are_some 8 (octal_digits bytes) number.0 (octal_are bytes)) number.1)
    by_octal false found = other_found bytes p found

pub escape_within : {bytes : List ℕ} {value n : ℕ} → BeginsWithEscape bytes value n → n ≤ length bytes
escape_within {bytes} (BeginsWithEscape.simple b rest e simple) = omega (arith, ap length e)
escape_within {bytes} (BeginsWithEscape.octal digits e are small) =
    omega (
      arith,
      ap length e,
      length-take 3 (leading_digits 8 bytes),
      length-take (prefix_len (λ b. is_digit b 8) bytes) bytes,
    )
escape_within {bytes} (BeginsWithEscape.hexadecimal digits rest e digits_are are small) =
    omega (arith, ap length e, ap length digits_are, length-take (prefix_len (λ b. is_digit b 16) rest) rest)

-- Characters

pub character_only : (quote : ℕ) (bytes : List ℕ) (value n : ℕ) → BeginsWithCharacter quote bytes value n →
    character_at quote bytes ≡ Some (value, n)
unfolding character_at
character_only quote bytes value n (BeginsWithCharacter.itself b rest e no_quote no_backslash no_line_feed) =
    ap (character_at quote) e ∙ rw (ne_eqb b 92 no_backslash, ne_eqb b quote no_quote, ne_eqb b 10 no_line_feed) refl
character_only quote bytes value n (BeginsWithCharacter.escape rest e sequence) =
    ap (character_at quote) e ∙ rw (escape_only rest _ _ sequence) refl

pub character_found : (quote : ℕ) (bytes : List ℕ) (p : ℕ × ℕ) → character_at quote bytes ≡ Some p →
    BeginsWithCharacter quote bytes p.0 p.1
unfolding character_at
character_found quote [] p e = cc
character_found quote (b ∷ bs) p e = by_backslash (b == 92) refl e
  where
    by_escape : b ≡ 92 → (sequence : Option (ℕ × ℕ)) → escape_at bs ≡ sequence →
        option_map {U = ℕ × ℕ} (λ found. (found.0, found.1 + 1)) sequence ≡ Some p →
        BeginsWithCharacter quote (b ∷ bs) p.0 p.1
    by_escape backslash None is made = cc
    by_escape backslash (Some q) is made =
        let same : (q.0, q.1 + 1) ≡ p = cc in
        subst (λ (r : ℕ × ℕ). BeginsWithCharacter quote (b ∷ bs) r.0 r.1) same
        (BeginsWithCharacter.escape bs (ap (λ v. v ∷ bs) backslash) (escape_found bs q is))

    by_itself : b ≢ 92 → (stop : Bool) → (b == quote || b == 10) ≡ stop →
        (if stop then None else Some (b, 1)) ≡ Some p → BeginsWithCharacter quote (b ∷ bs) p.0 p.1
    by_itself other true is made = cc
    by_itself other false is made =
        let neither = or_parts (b == quote) (b == 10) is in
        let same : (b, 1) ≡ p = cc in
        subst (λ (r : ℕ × ℕ). BeginsWithCharacter quote (b ∷ bs) r.0 r.1) same
        (BeginsWithCharacter.itself b bs refl (eqb-false b quote neither.0) other (eqb-false b 10 neither.1))

    by_backslash : (backslash : Bool) → (b == 92) ≡ backslash →
        (if backslash then option_map (λ found. (found.0, found.1 + 1)) (escape_at bs)
        else (if b == quote || b == 10 then None else Some (b, 1))) ≡ Some p →
        BeginsWithCharacter quote (b ∷ bs) p.0 p.1
    by_backslash true is made = by_escape (eqb-true b 92 is) (escape_at bs) refl made
    by_backslash false is made = by_itself (eqb-false b 92 is) _ refl made
