-- The values of the literals that are accepted (C11 6.4.4.4, 6.4.5).
use Rattle.std.proofs.Common.{◌≡◌, ◌≢◌, ℕ, zero, suc, ◌+◌, ◌-◌, ◌≤◌, ◌<◌, add-one, Bool, true, false, ◌||◌, ◌==◌, List}
use Rattle.std.proofs.Common.{[], ◌∷◌, ◌++◌, length, take, drop, get_or, length-drop, append_assoc, Option, Some, None}
use Rattle.std.proofs.Common.{refl, sym, ap, subst, ◌∙◌, arith, length-append, take_at}
use Rattle.std.specs.Char.{is_digit}
use Rattle.std.proofs.lemmas.Bool.{false≢true, ne_eqb}
use Rattle.std.proofs.lemmas.List.{append-nil}
use Rattle.std.specs.Borrow.{Bor}
use Rattle.ck_base.specs.declared.tokens.TokenKind.TheVariants.{Text}
use Rattle.ck_base.specs.Lexes.{IsAccepted}
use Rattle.ck_base.specs.Literals.{are_digits, value_of, simple_escape, leading_digits, BeginsWithEscape}
use Rattle.ck_base.specs.Literals.{BeginsWithCharacter, AreCharacters, in_quotes, IsCharacter, IsString}
use Rattle.c_tree.specs.Values.{between_quotes, escape, escaped, numeric, characters, characters_of, first_or_zero}
use Rattle.c_tree.specs.Values.{character_value}

-- ---- escape sequences

-- a byte that passes a test is none that does not
other : (p : ℕ → Bool) (b x : ℕ) → p x ≡ false → p b ≡ true → (b == x) ≡ false
other p b x e f = ne_eqb b x (λ g. false≢true (sym e ∙ ap p (sym g) ∙ f))

neither : (a b : Bool) → a ≡ false → b ≡ false → (a || b) ≡ false
neither true b e f = e
neither false b e f = f

eight : ℕ → Bool
eight b = is_digit b 8

-- no octal digit is a simple escape sequence
digit_plain : (b : ℕ) → eight b ≡ true → simple_escape b ≡ None
unfolding eight simple_escape
digit_plain b e =
    rw (
      other eight b 110 refl e,
      other eight b 116 refl e,
      other eight b 114 refl e,
      other eight b 97 refl e,
      other eight b 98 refl e,
      other eight b 102 refl e,
      other eight b 118 refl e,
      neither (b == 92 || b == 39 || b == 34) (b == 63)
          (neither (b == 92 || b == 39) (b == 34)
          (neither (b == 92) (b == 39) (other eight b 92 refl e) (other eight b 39 refl e)) (other eight b 34 refl e))
          (other eight b 63 refl e),
    ) refl

digit_no_x : (b : ℕ) → eight b ≡ true → (b == 120) ≡ false
unfolding eight
digit_no_x b e = other eight b 120 refl e

-- where there are octal digits the first byte is one
octal_first : (c : ℕ) (cs : List ℕ) → are_digits 8 (take 3 (leading_digits 8 (c ∷ cs))) ≡ true → eight c ≡ true
unfolding eight
octal_first c cs h = by_test (eight c) refl
  where
    by_test : (b : Bool) → eight c ≡ b → eight c ≡ true
    by_test true e = e
    by_test false e = absurd (false≢true (rw e at h))

octal_escaped : (go : List ℕ → List ℕ) (c : ℕ) (cs digits : List ℕ) → digits ≡ take 3 (leading_digits 8 (c ∷ cs)) →
    eight c ≡ true → escape (simple_escape c) go c cs ≡ value_of 8 digits ∷ go (drop (length digits) (c ∷ cs))
octal_escaped go c cs digits e d =
    rw (digit_plain c d, digit_no_x c d) (ap (λ ds. value_of 8 ds ∷ go (drop (length ds) (c ∷ cs))) (sym e))

hexadecimal_escaped : (go : List ℕ → List ℕ) (rest digits : List ℕ) → digits ≡ leading_digits 16 rest →
    escaped go (120 ∷ rest) ≡ value_of 16 digits ∷ go (drop (1 + length digits) (120 ∷ rest))
unfolding simple_escape
hexadecimal_escaped go rest digits f =
    let n : 1 + length digits ≡ suc (length digits) = omega arith in
    rw n (ap (λ ds. value_of 16 ds ∷ go (drop (length ds) rest)) (sym f))

escaped_step : (go : List ℕ → List ℕ) (bytes : List ℕ) {value n : ℕ} → BeginsWithEscape bytes value n →
    escaped go bytes ≡ value ∷ go (drop n bytes)
escaped_step go bytes (BeginsWithEscape.simple {value = v} b rest e f) =
    subst (λ bs. escaped go bs ≡ v ∷ go (drop 1 bs)) (sym e) (ap (λ o. escape o go b rest) f)
escaped_step go [] (BeginsWithEscape.octal digits e all small) =
    absurd (false≢true (subst (λ ds. are_digits 8 ds ≡ true) e all))
escaped_step go (c ∷ cs) (BeginsWithEscape.octal digits e all small) =
    octal_escaped go c cs digits e (octal_first c cs (subst (λ ds. are_digits 8 ds ≡ true) e all))
escaped_step go bytes (BeginsWithEscape.hexadecimal digits rest e f all small) =
    subst (λ bs. escaped go bs ≡ value_of 16 digits ∷ go (drop (1 + length digits) bs)) (sym e)
    (hexadecimal_escaped go rest digits f)

-- ---- characters

character_step : (quote m : ℕ) (bytes : List ℕ) {value n : ℕ} → BeginsWithCharacter quote bytes value n →
    characters (suc m) bytes ≡ value ∷ characters m (drop n bytes)
unfolding characters
character_step quote m bytes (BeginsWithCharacter.itself b rest e q o l) =
    subst (λ bs. characters (suc m) bs ≡ b ∷ characters m (drop 1 bs)) (sym e) (rw (ne_eqb b 92 o) refl)
character_step quote m bytes (BeginsWithCharacter.escape {value = v} {n = n} rest e begins) =
    subst (λ bs. characters (suc m) bs ≡ v ∷ characters m (drop (n + 1) bs)) (sym e)
    (rw (add-one n) (escaped_step (characters m) rest begins))

digits_length : (base : ℕ) (digits : List ℕ) → are_digits base digits ≡ true → 1 ≤ length digits
digits_length base [] e = absurd (false≢true e)
digits_length base (d ∷ ds) e = omega arith

record IsSome (bytes : List ℕ) (n : ℕ) : Type 0 where
  count : 1 ≤ n
  there : 1 ≤ length bytes

character_length : (quote : ℕ) (bytes : List ℕ) {value n : ℕ} → BeginsWithCharacter quote bytes value n → IsSome bytes n
character_length quote bytes (BeginsWithCharacter.itself b rest e q o l) =
    record { count = omega arith; there = rw e (omega arith) }
character_length quote bytes (BeginsWithCharacter.escape {n = n} rest e begins) =
    record { count = omega arith; there = rw e (omega arith) }

characters_all : (quote m : ℕ) {bytes values : List ℕ} → AreCharacters quote bytes values → length bytes ≤ m →
    characters m bytes ≡ values
unfolding characters
characters_all quote zero AreCharacters.nothing le = refl
characters_all quote (suc m) AreCharacters.nothing le = refl
characters_all quote zero (AreCharacters.more {bytes = bs} h t) le =
    let l = character_length quote bs h in absurd (let k = l.there in omega arith)
characters_all quote (suc m) (AreCharacters.more {value = v} {n = n} {bytes = bs} h t) le =
    let l = character_length quote bs h in
    let k = l.count in
    let short : length (drop n bs) ≤ m = omega (arith, length-drop n bs) in
    character_step quote m bs h ∙ ap (λ cs. v ∷ cs) (characters_all quote m t short)

between : (quote : ℕ) (bytes : List ℕ) → between_quotes (in_quotes quote bytes) ≡ bytes
between quote bytes =
    let l = length-append bytes (quote ∷ []) in
    let m : length (in_quotes quote bytes) - 2 ≡ length bytes = omega (arith, l) in
    ap (λ n. take n (bytes ++ quote ∷ [])) m ∙ take_at bytes (quote ∷ []) (length bytes) refl

-- the value of a character constant
pub character_is : (text : List ℕ) (value : ℕ) → IsCharacter text value → character_value text ≡ value
character_is text value is =
    let q = in_quotes 39 is.0 in
    let m = length (is.0 ++ 39 ∷ []) in
    let l : length q ≡ suc m = omega arith in
    ap character_value is.1 ∙ ap (λ bs. first_or_zero (characters (length q) bs)) (between 39 is.0)
    ∙ ap (λ n. first_or_zero (characters n is.0)) l ∙ ap first_or_zero (character_step 39 m is.0 is.2)

-- the bytes of a string literal
pub string_is : (text values : List ℕ) → IsString text values → characters_of text ≡ values
string_is text values is =
    let q = in_quotes 34 is.0 in
    let l : length is.0 ≤ length q = omega (arith, length-append is.0 (34 ∷ [])) in
    ap characters_of is.1 ∙ ap (λ bs. characters (length q) bs) (between 34 is.0) ∙ characters_all 34 (length q) is.2 l
