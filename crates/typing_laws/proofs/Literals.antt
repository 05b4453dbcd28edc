-- What is accepted as a number has a type, and what is accepted as a character constant is a byte (C11 6.4.4).
use Rattle.std.proofs.Common.{◌≡◌, ◌≢◌, ℕ, zero, suc, ◌-◌, ◌<◌, ◌≤◌, Bool, true, false, not, ◌&&◌, ◌||◌, ◌==◌, List, []}
use Rattle.std.proofs.Common.{◌∷◌, ◌++◌, length, take, drop, take_at, length-append, Option, Some, None, refl, sym, ap}
use Rattle.std.proofs.Common.{subst, ◌∙◌, ⊎_elim, arith, Fits, w8}
use Rattle.std.specs.Prelude.{if◌then◌else◌, filter, is_some, nat_lt, slice_index_or}
use Rattle.std.proofs.Math.Facts.{Fits-lt-pow}
use Rattle.std.proofs.lemmas.Option.{get_or_from_slice_get}
use Rattle.std.specs.Char.{is_digit, digit_value}
use Rattle.std.specs.List.{list_all, list_any}
use Rattle.std.proofs.lemmas.Bool.{false≢true, not-true, and_parts, and_from, or_cases, eqb-true, ne_eqb, ltb-true}
use Rattle.std.proofs.lemmas.Bool.{lt-ltb}
use Rattle.std.proofs.lemmas.Slice.Eq.{bytes_eq-Decides}
use Rattle.ck_base.specs.declared.tokens.Integer.{Integer}
use Rattle.ck_base.specs.Tokens.{is_among}
use Rattle.ck_base.specs.Literals.{are_digits, value_of, SpellsInteger, suffixes, IntegerType, IsInteger, simple_escape}
use Rattle.ck_base.specs.Literals.{leading_digits, BeginsWithEscape, BeginsWithCharacter, in_quotes, IsCharacter}
use Rattle.ck_base.specs.Literals as literal
use Rattle.c_tree.specs.Values.{is_unsigned_letter, is_long_letter, is_suffix_letter, base_and_digits, integer_with}
use Rattle.c_tree.specs.Values.{integer_of, between_quotes, escape, escaped, characters, first_or_zero, character_value}
use Rattle.c_tree.specs.Typing.{AreBytes}
use Rattle.typing_laws.proofs.Scalars.{branched}

-- ---- digits and letters

neither : (a b : Bool) → a ≡ false → b ≡ false → (a || b) ≡ false
neither true b e f = e
neither false b e f = f

-- a byte that passes a test is none that does not
other : (p : ℕ → Bool) (b x : ℕ) → p x ≡ false → p b ≡ true → (b == x) ≡ false
other p b x e f = ne_eqb b x (λ g. false≢true (sym e ∙ ap p (sym g) ∙ f))

sixteen : ℕ → Bool
sixteen b = is_digit b 16

no_letter : (b : ℕ) → sixteen b ≡ true → is_suffix_letter b ≡ false
unfolding sixteen
no_letter b e =
    neither (b == 117 || b == 85) (b == 108 || b == 76)
    (neither (b == 117) (b == 85) (other sixteen b 117 refl e) (other sixteen b 85 refl e))
    (neither (b == 108) (b == 76) (other sixteen b 108 refl e) (other sixteen b 76 refl e))

-- a digit of a smaller base
below : (n base : ℕ) → base ≤ 16 → nat_lt n base ≡ true → nat_lt n 16 ≡ true
below n base l e = let m = ltb-true n base e in lt-ltb n 16 (omega (arith, l, m))

plain : ℕ → Bool
plain c = not (is_suffix_letter c)

digits_plain : (base : ℕ) → base ≤ 16 → (ds : List ℕ) → list_all (λ c. is_digit c base) ds ≡ true →
    list_all plain ds ≡ true
unfolding plain sixteen
digits_plain base l [] e = refl
digits_plain base l (d ∷ ds) e =
    let p = and_parts (is_digit d base) (list_all (λ c. is_digit c base) ds) e in
    and_from (plain d) (list_all plain ds) (ap not (no_letter d (below (digit_value d) base l p.0)))
    (digits_plain base l ds p.1)

letter_x : (x : ℕ) → (x == 120 || x == 88) ≡ true → plain x ≡ true
unfolding plain
letter_x x e =
    ⊎_elim (λ a. subst (λ c. plain c ≡ true) (sym (eqb-true x 120 a)) refl)
    (λ a. subst (λ c. plain c ≡ true) (sym (eqb-true x 88 a)) refl) (or_cases (x == 120) (x == 88) e)

-- digits are no letters of a suffix
spelled_plain : {digits : List ℕ} {value : ℕ} {dec : Bool} → SpellsInteger digits value dec →
    list_all plain digits ≡ true
unfolding plain
spelled_plain (SpellsInteger.decimal d ds o all) = digits_plain 10 (omega arith) (d ∷ ds) all
spelled_plain (SpellsInteger.octal ds all) = digits_plain 8 (omega arith) (48 ∷ ds) all
spelled_plain (SpellsInteger.hexadecimal x [] is_x all) = absurd (false≢true all)
spelled_plain (SpellsInteger.hexadecimal x (d ∷ ds) is_x all) =
    and_from (plain x) (list_all plain (d ∷ ds)) (letter_x x is_x) (digits_plain 16 (omega arith) (d ∷ ds) all)

-- ---- the parts of a number

behind : (xs ys : List ℕ) → list_all plain xs ≡ true → list_all is_suffix_letter ys ≡ true →
    filter is_suffix_letter (xs ++ ys) ≡ ys
unfolding plain
behind [] [] a b = refl
behind [] (y ∷ ys) a b = let p = and_parts (is_suffix_letter y) (list_all is_suffix_letter ys) b in
    rw p.0 (ap (λ zs. y ∷ zs) (behind [] ys refl p.1))
behind (x ∷ xs) ys a b = let p = and_parts (plain x) (list_all plain xs) a in
    rw (not-true (is_suffix_letter x) p.0) (behind xs ys p.1 b)

before : (xs ys : List ℕ) → list_all plain xs ≡ true → list_all is_suffix_letter ys ≡ true →
    filter (λ c. not (is_suffix_letter c)) (xs ++ ys) ≡ xs
unfolding plain
before [] [] a b = refl
before [] (y ∷ ys) a b = let p = and_parts (is_suffix_letter y) (list_all is_suffix_letter ys) b in
    rw p.0 (before [] ys refl p.1)
before (x ∷ xs) ys a b = let p = and_parts (plain x) (list_all plain xs) a in
    rw (not-true (is_suffix_letter x) p.0) (ap (λ zs. x ∷ zs) (before xs ys p.1 b))

eight : ℕ → Bool
eight b = is_digit b 8

abbrev BasedAs : ℕ × List ℕ → ℕ → Bool → Type 0
BasedAs b value dec = (value_of b.0 b.1 ≡ value) × ((b.0 == 10) ≡ dec)

based : {digits : List ℕ} {value : ℕ} {dec : Bool} → SpellsInteger digits value dec →
    BasedAs (base_and_digits digits) value dec
unfolding eight
based (SpellsInteger.decimal d [] o all) = rw (ne_eqb d 48 o) (refl, refl)
based (SpellsInteger.decimal d (x ∷ ds) o all) = rw (ne_eqb d 48 o) (refl, refl)
based (SpellsInteger.octal [] all) = (refl, refl)
based (SpellsInteger.octal (x ∷ ds) all) =
    let p = and_parts (eight x) (list_all (λ c. is_digit c 8) ds) all in
    rw (neither (x == 120) (x == 88) (other eight x 120 refl p.0) (other eight x 88 refl p.0)) (refl, refl)
based (SpellsInteger.hexadecimal x ds is_x all) = rw is_x (refl, refl)

among_passes : (p : List ℕ → Bool) (table : List (List ℕ)) (text : List ℕ) → list_all p table ≡ true →
    is_among table text ≡ true → p text ≡ true
among_passes p [] text all among = absurd (false≢true among)
among_passes p (entry ∷ table) text all among =
    let q = and_parts (p entry) (list_all p table) all in
    ⊎_elim (λ here. subst (λ t. p t ≡ true) ((bytes_eq-Decides entry text).0 here) q.0)
    (λ there. among_passes p table text q.1 there) (or_cases _ _ among)

-- what a suffix says
says : Bool → ℕ → List ℕ → Bool
says unsigned longs s = (if unsigned then list_any is_unsigned_letter s else not (list_any is_unsigned_letter s))
    && (length (filter is_long_letter s) == longs && list_all is_suffix_letter s)

suffix_says : (unsigned : Bool) (longs : ℕ) (s : List ℕ) → is_among (suffixes unsigned longs) s ≡ true →
    says unsigned longs s ≡ true
unfolding suffixes says
suffix_says false zero s among = among_passes (says false 0) (suffixes false 0) s refl among
suffix_says true zero s among = among_passes (says true 0) (suffixes true 0) s refl among
suffix_says false (suc zero) s among = among_passes (says false 1) (suffixes false 1) s refl among
suffix_says true (suc zero) s among = among_passes (says true 1) (suffixes true 1) s refl among
suffix_says false (suc (suc zero)) s among = among_passes (says false 2) (suffixes false 2) s refl among
suffix_says true (suc (suc zero)) s among = among_passes (says true 2) (suffixes true 2) s refl among
suffix_says false (suc (suc (suc n))) s among = absurd (false≢true among)
suffix_says true (suc (suc (suc n))) s among = absurd (false≢true among)

said : (u b : Bool) → (if u then b else not b) ≡ true → b ≡ u
said true b e = e
said false b e = not-true b e

-- 6.4.4.1: the number that a text is accepted as is the one that typing reads
integer_is : (text : List ℕ) (n : Integer) → IsInteger text n → integer_of text ≡ n
unfolding integer_of says
integer_is text n is = subst (λ t. integer_of t ≡ n) (sym is.spelled) (parted ∙ whole)
  where
    p : says n.unsigned n.longs is.suffix ≡ true
    p = suffix_says n.unsigned n.longs is.suffix is.suffixed

    q : (if n.unsigned then list_any is_unsigned_letter is.suffix else not (list_any is_unsigned_letter is.suffix))
        ≡ true
    q = (and_parts (if n.unsigned then list_any is_unsigned_letter is.suffix
        else not (list_any is_unsigned_letter is.suffix))
        (length (filter is_long_letter is.suffix) == n.longs && list_all is_suffix_letter is.suffix) p).0

    r : ((length (filter is_long_letter is.suffix) == n.longs) ≡ true) × (list_all is_suffix_letter is.suffix ≡ true)
    r = and_parts (length (filter is_long_letter is.suffix) == n.longs) (list_all is_suffix_letter is.suffix)
        (and_parts (if n.unsigned then list_any is_unsigned_letter is.suffix
        else not (list_any is_unsigned_letter is.suffix))
        (length (filter is_long_letter is.suffix) == n.longs && list_all is_suffix_letter is.suffix) p).1

    parted : integer_of (is.digits ++ is.suffix) ≡ integer_with (base_and_digits is.digits) is.suffix
    parted = λ i. integer_with (base_and_digits (before is.digits is.suffix (spelled_plain is.value) r.1 i))
        (behind is.digits is.suffix (spelled_plain is.value) r.1 i)

    whole : integer_with (base_and_digits is.digits) is.suffix ≡ n
    whole =
        let b = based is.value in
        let u = said n.unsigned (list_any is_unsigned_letter is.suffix) q in
        let l = eqb-true (length (filter is_long_letter is.suffix)) n.longs r.0 in
        λ i. record { value = b.0 i; unsigned = u i; longs = l i; decimal = b.1 i }

some_is : {A : Type 0} (o : Option A) → is_some o ≡ true → (a : A) × (o ≡ Some a)
some_is None e = absurd (false≢true e)
some_is (Some a) e = (a, refl)

pub number_typed : (text : List ℕ) (n : Integer) → IsInteger text n →
    (i : IntegerType) × (literal.type_of (integer_of text) ≡ Some i)
number_typed text n is = some_is (literal.type_of (integer_of text))
    (subst (λ m. is_some (literal.type_of m) ≡ true) (sym (integer_is text n is)) is.typed)

-- ---- bytes

abbrev pub Small : List ℕ → Type 0
Small [] = Unit {0}
Small (b ∷ bs) = (b ≤ 255) × Small bs

-- the bytes of a slice
pub are_bytes : (file : List ℕ) → ((i : ℕ) → Fits w8 (slice_index_or file i 0)) → AreBytes file
are_bytes file h k b e = subst (λ n. n < 256) (get_or_from_slice_get file k b 0 e) (Fits-lt-pow (h k))

pub small_from : (bs : List ℕ) → AreBytes bs → Small bs
small_from [] h = tt
small_from (b ∷ bs) h = (let l = h 0 b refl in omega (arith, l), small_from bs (λ k c e. h (suc k) c e))

pub small_take : (n : ℕ) (bs : List ℕ) → Small bs → Small (take n bs)
small_take zero bs h = tt
small_take (suc n) [] h = tt
small_take (suc n) (b ∷ bs) h = (h.0, small_take n bs h.1)

pub small_drop : (n : ℕ) (bs : List ℕ) → Small bs → Small (drop n bs)
small_drop zero bs h = h
small_drop (suc n) [] h = tt
small_drop (suc n) (b ∷ bs) h = small_drop n bs h.1

small_front : (bs cs : List ℕ) → Small (bs ++ cs) → Small bs
small_front [] cs h = tt
small_front (b ∷ bs) cs h = (h.0, small_front bs cs h.1)

-- ---- escape sequences

abbrev Byte : Option ℕ → Type 0
Byte None = Unit {0}
Byte (Some v) = v ≤ 255

small_is : (b x : ℕ) → x ≤ 255 → (b == x) ≡ true → b ≤ 255
small_is b x l e = let i = eqb-true b x e in omega (arith, l, i)

simple_byte : (b : ℕ) → Byte (simple_escape b)
unfolding simple_escape
simple_byte b =
    branched Byte (b == 110) _ _ (λ _. omega arith)
    (λ _. branched Byte (b == 116) _ _ (λ _. omega arith)
    (λ _. branched Byte (b == 114) _ _ (λ _. omega arith) (λ _.
    branched Byte (b == 97) _ _ (λ _. omega arith)
    (λ _. branched Byte (b == 98) _ _ (λ _. omega arith) (λ _. branched Byte (b == 102) _ _ (λ _. omega arith) (λ _.
    branched Byte (b == 118) _ _ (λ _. omega arith)
    (λ _. branched Byte (b == 92 || b == 39 || b == 34 || b == 63) _ _ itself (λ _. tt))))))))
  where
    itself : (b == 92 || b == 39 || b == 34 || b == 63) ≡ true → b ≤ 255
    itself e =
        ⊎_elim (λ f. ⊎_elim (λ g. ⊎_elim (λ k. small_is b 92 (omega arith) k) (λ k. small_is b 39 (omega arith) k)
        (or_cases (b == 92) (b == 39) g)) (λ g. small_is b 34 (omega arith) g)
        (or_cases (b == 92 || b == 39) (b == 34) f))
        (λ f. small_is b 63 (omega arith) f) (or_cases (b == 92 || b == 39 || b == 34) (b == 63) e)

simple_small : (go : List ℕ → List ℕ) (b : ℕ) (bs : List ℕ) (o : Option ℕ) (v : ℕ) → Byte o → o ≡ Some v →
    first_or_zero (escape o go b bs) ≤ 255
simple_small go b bs None v h e = absurd cc
simple_small go b bs (Some w) v h e = h

octal_small : (go : List ℕ → List ℕ) (bytes digits : List ℕ) → digits ≡ take 3 (leading_digits 8 bytes) →
    are_digits 8 digits ≡ true → value_of 8 digits ≤ 255 → first_or_zero (escaped go bytes) ≤ 255
octal_small go [] digits e all small = omega arith
octal_small go (c ∷ cs) digits e all small = by_escape (simple_escape c) (simple_byte c)
  where
    by_x : (x : Bool) → (c == 120) ≡ x → first_or_zero (escape None go c cs) ≤ 255
    by_x true f =
        let g : are_digits 8 (take 3 (leading_digits 8 (c ∷ cs))) ≡ true = subst (λ ds. are_digits 8 ds ≡ true) e all in
        absurd (false≢true (subst (λ b. are_digits 8 (take 3 (leading_digits 8 (b ∷ cs))) ≡ true) (eqb-true c 120 f) g))
    by_x false f = rw f (subst (λ ds. value_of 8 ds ≤ 255) e small)

    by_escape : (o : Option ℕ) → Byte o → first_or_zero (escape o go c cs) ≤ 255
    by_escape None h = by_x (c == 120) refl
    by_escape (Some v) h = h

hexadecimal_small : (go : List ℕ → List ℕ) (rest : List ℕ) → value_of 16 (leading_digits 16 rest) ≤ 255 →
    first_or_zero (escaped go (120 ∷ rest)) ≤ 255
unfolding simple_escape
hexadecimal_small go rest small = small

escaped_small : (go : List ℕ → List ℕ) (bytes : List ℕ) {value n : ℕ} → BeginsWithEscape bytes value n →
    first_or_zero (escaped go bytes) ≤ 255
escaped_small go bytes (BeginsWithEscape.simple {value = v} b rest e f) =
    subst (λ bs. first_or_zero (escaped go bs) ≤ 255) (sym e)
    (simple_small go b rest (simple_escape b) v (simple_byte b) f)
escaped_small go bytes (BeginsWithEscape.octal digits e all small) = octal_small go bytes digits e all small
escaped_small go bytes (BeginsWithEscape.hexadecimal digits rest e f all small) =
    subst (λ bs. first_or_zero (escaped go bs) ≤ 255) (sym e)
    (hexadecimal_small go rest (subst (λ ds. value_of 16 ds ≤ 255) f small))

-- ---- character constants

itself_small : (m b : ℕ) (rest : List ℕ) → b ≢ 92 → b ≤ 255 → first_or_zero (characters (suc m) (b ∷ rest)) ≤ 255
unfolding characters
itself_small m b rest o l = rw (ne_eqb b 92 o) l

escape_small : (m : ℕ) (rest : List ℕ) {value n : ℕ} → BeginsWithEscape rest value n →
    first_or_zero (characters (suc m) (92 ∷ rest)) ≤ 255
unfolding characters
escape_small m rest h = escaped_small (characters m) rest h

first_small : (m : ℕ) (bytes : List ℕ) {value n : ℕ} → BeginsWithCharacter 39 bytes value n → Small bytes →
    first_or_zero (characters (suc m) bytes) ≤ 255
first_small m bytes (BeginsWithCharacter.itself b rest e q o l) h =
    subst (λ bs. Small bs → first_or_zero (characters (suc m) bs) ≤ 255) (sym e) (λ k. itself_small m b rest o k.0) h
first_small m bytes (BeginsWithCharacter.escape rest e begins) h =
    subst (λ bs. first_or_zero (characters (suc m) bs) ≤ 255) (sym e) (escape_small m rest begins)

between : (bytes : List ℕ) → between_quotes (in_quotes 39 bytes) ≡ bytes
between bytes =
    let l = length-append bytes (39 ∷ []) in
    let m : length (in_quotes 39 bytes) - 2 ≡ length bytes = omega (arith, l) in
    ap (λ n. take n (bytes ++ 39 ∷ [])) m ∙ take_at bytes (39 ∷ []) (length bytes) refl

pub character_small : (text : List ℕ) (value : ℕ) → IsCharacter text value → Small text → character_value text ≤ 255
character_small text value is small = subst (λ t. Small t → character_value t ≤ 255) (sym is.1) quoted small
  where
    quoted : Small (in_quotes 39 is.0) → character_value (in_quotes 39 is.0) ≤ 255
    quoted h =
        let m = length (is.0 ++ 39 ∷ []) in
        let l : length (in_quotes 39 is.0) ≡ suc m = omega arith in
        subst (λ n. first_or_zero (characters n (between_quotes (in_quotes 39 is.0))) ≤ 255) (sym l)
        (subst (λ bs. first_or_zero (characters (suc m) bs) ≤ 255) (sym (between is.0))
        (first_small m is.0 is.2 (small_front is.0 (39 ∷ []) h.1)))
