-- The value of an integer constant that is accepted (C11 6.4.4.1).
use Rattle.std.proofs.Common.{◌≡◌, ◌≢◌, ℕ, zero, suc, ◌≤◌, Bool, true, false, not, ◌&&◌, ◌||◌, ◌==◌, List, [], ◌∷◌}
use Rattle.std.proofs.Common.{◌++◌, length, Result, Some, None, cond, refl, sym, ap, subst, ◌∙◌, ⊎_elim, arith}
use Rattle.std.specs.Prelude.{if◌then◌else◌, filter, nat_lt}
use Rattle.std.specs.Char.{is_digit, digit_value}
use Rattle.std.specs.List.{list_all, list_any}
use Rattle.std.proofs.lemmas.Bool.{false≢true, not-true, and_parts, and_from, or_cases, eqb-true, ne_eqb, ltb-true}
use Rattle.std.proofs.lemmas.Bool.{lt-ltb}
use Rattle.std.proofs.lemmas.Slice.Eq.{bytes_eq-Decides}
use Rattle.ck_base.specs.declared.positions.Pos.{Pos}
use Rattle.ck_base.specs.declared.refusal.Refusal.{Refusal}
use Rattle.ck_base.specs.declared.tokens.Integer.{Integer}
use Rattle.ck_base.specs.Tokens.{is_among}
use Rattle.ck_base.specs.Literals as literal
use Rattle.ck_base.specs.Literals.{value_of, SpellsInteger, suffixes, IsInteger, can_have, type_of}
use Rattle.c_tree.specs.Values.{is_unsigned_letter, is_long_letter, is_suffix_letter, base_and_digits, integer_with}
use Rattle.c_tree.specs.Values.{integer_of, integer_type}
use Rattle.c_tree.specs.Types.{Ty}
use Rattle.c_tree.specs.Terms.{Constant, leaf}
use Rattle.c_tree.specs.Expressions.{gives}
use Rattle.c_expressions.specs.declared.nodes.Nodes.{Nodes}
use Rattle.c_expressions.specs.declared.nodes.Operand.{Operand}
use Rattle.c_expressions.specs.Answers.{Answers}
use Rattle.c_expressions.specs.Nodes.{IsOperand, HasType, type_in}
use Rattle.c_expressions.proofs.Keeping.{answers_after, answers_is}

-- ---- digits and letters

neither : (a b : Bool) → a ≡ false → b ≡ false → (a || b) ≡ false
neither true b e f = e
neither false b e f = f

-- a byte that passes a test is none that does not
other : (p : ℕ → Bool) (b x : ℕ) → p x ≡ false → p b ≡ true → (b == x) ≡ false
other p b x e f = ne_eqb b x (λ g. false≢true (sym e ∙ ap p (sym g) ∙ f))

sixteen : ℕ → Bool
sixteen b = is_digit b 16

no_letter : (b : ℕ) → sixteen b ≡ true → is_suffix_letter b ≡ false
unfolding sixteen
no_letter b e =
    neither (b == 117 || b == 85) (b == 108 || b == 76)
    (neither (b == 117) (b == 85) (other sixteen b 117 refl e) (other sixteen b 85 refl e))
    (neither (b == 108) (b == 76) (other sixteen b 108 refl e) (other sixteen b 76 refl e))

-- a digit of a smaller base
below : (n base : ℕ) → base ≤ 16 → nat_lt n base ≡ true → nat_lt n 16 ≡ true
below n base l e = let m = ltb-true n base e in lt-ltb n 16 (omega (arith, l, m))

plain : ℕ → Bool
plain c = not (is_suffix_letter c)

digits_plain : (base : ℕ) → base ≤ 16 → (ds : List ℕ) → list_all (λ c. is_digit c base) ds ≡ true →
    list_all plain ds ≡ true
unfolding plain sixteen
digits_plain base l [] e = refl
digits_plain base l (d ∷ ds) e =
    let p = and_parts (is_digit d base) (list_all (λ c. is_digit c base) ds) e in
    and_from (plain d) (list_all plain ds) (ap not (no_letter d (below (digit_value d) base l p.0)))
    (digits_plain base l ds p.1)

letter_x : (x : ℕ) → (x == 120 || x == 88) ≡ true → plain x ≡ true
unfolding plain
letter_x x e =
    ⊎_elim (λ a. subst (λ c. plain c ≡ true) (sym (eqb-true x 120 a)) refl)
    (λ a. subst (λ c. plain c ≡ true) (sym (eqb-true x 88 a)) refl) (or_cases (x == 120) (x == 88) e)

-- digits are no letters of a suffix
spelled_plain : {digits : List ℕ} {value : ℕ} {dec : Bool} → SpellsInteger digits value dec →
    list_all plain digits ≡ true
unfolding plain
spelled_plain (SpellsInteger.decimal d ds o all) = digits_plain 10 (omega arith) (d ∷ ds) all
spelled_plain (SpellsInteger.octal ds all) = digits_plain 8 (omega arith) (48 ∷ ds) all
spelled_plain (SpellsInteger.hexadecimal x [] is_x all) = absurd (false≢true all)
spelled_plain (SpellsInteger.hexadecimal x (d ∷ ds) is_x all) =
    and_from (plain x) (list_all plain (d ∷ ds)) (letter_x x is_x) (digits_plain 16 (omega arith) (d ∷ ds) all)

-- ---- the parts of a number

behind : (xs ys : List ℕ) → list_all plain xs ≡ true → list_all is_suffix_letter ys ≡ true →
    filter is_suffix_letter (xs ++ ys) ≡ ys
unfolding plain
behind [] [] a b = refl
behind [] (y ∷ ys) a b = let p = and_parts (is_suffix_letter y) (list_all is_suffix_letter ys) b in
    rw p.0 (ap (λ zs. y ∷ zs) (behind [] ys refl p.1))
behind (x ∷ xs) ys a b = let p = and_parts (plain x) (list_all plain xs) a in
    rw (not-true (is_suffix_letter x) p.0) (behind xs ys p.1 b)

before : (xs ys : List ℕ) → list_all plain xs ≡ true → list_all is_suffix_letter ys ≡ true →
    filter (λ c. not (is_suffix_letter c)) (xs ++ ys) ≡ xs
unfolding plain
before [] [] a b = refl
before [] (y ∷ ys) a b = let p = and_parts (is_suffix_letter y) (list_all is_suffix_letter ys) b in
    rw p.0 (before [] ys refl p.1)
before (x ∷ xs) ys a b = let p = and_parts (plain x) (list_all plain xs) a in
    rw (not-true (is_suffix_letter x) p.0) (ap (λ zs. x ∷ zs) (before xs ys p.1 b))

eight : ℕ → Bool
eight b = is_digit b 8

abbrev BasedAs : ℕ × List ℕ → ℕ → Bool → Type 0
BasedAs b value dec = (value_of b.0 b.1 ≡ value) × ((b.0 == 10) ≡ dec)

based : {digits : List ℕ} {value : ℕ} {dec : Bool} → SpellsInteger digits value dec →
    BasedAs (base_and_digits digits) value dec
unfolding eight
based (SpellsInteger.decimal d [] o all) = rw (ne_eqb d 48 o) (refl, refl)
based (SpellsInteger.decimal d (x ∷ ds) o all) = rw (ne_eqb d 48 o) (refl, refl)
based (SpellsInteger.octal [] all) = (refl, refl)
based (SpellsInteger.octal (x ∷ ds) all) =
    let p = and_parts (eight x) (list_all (λ c. is_digit c 8) ds) all in
    rw (neither (x == 120) (x == 88) (other eight x 120 refl p.0) (other eight x 88 refl p.0)) (refl, refl)
based (SpellsInteger.hexadecimal x ds is_x all) = rw is_x (refl, refl)

among_passes : (p : List ℕ → Bool) (table : List (List ℕ)) (text : List ℕ) → list_all p table ≡ true →
    is_among table text ≡ true → p text ≡ true
among_passes p [] text all among = absurd (false≢true among)
among_passes p (entry ∷ table) text all among =
    let q = and_parts (p entry) (list_all p table) all in
    ⊎_elim (λ here. subst (λ t. p t ≡ true) ((bytes_eq-Decides entry text).0 here) q.0)
    (λ there. among_passes p table text q.1 there) (or_cases _ _ among)

-- what a suffix says
says : Bool → ℕ → List ℕ → Bool
says unsigned longs s = (if unsigned then list_any is_unsigned_letter s else not (list_any is_unsigned_letter s))
    && (length (filter is_long_letter s) == longs && list_all is_suffix_letter s)

suffix_says : (unsigned : Bool) (longs : ℕ) (s : List ℕ) → is_among (suffixes unsigned longs) s ≡ true →
    says unsigned longs s ≡ true
unfolding suffixes says
suffix_says false zero s among = among_passes (says false 0) (suffixes false 0) s refl among
suffix_says true zero s among = among_passes (says true 0) (suffixes true 0) s refl among
suffix_says false (suc zero) s among = among_passes (says false 1) (suffixes false 1) s refl among
suffix_says true (suc zero) s among = among_passes (says true 1) (suffixes true 1) s refl among
suffix_says false (suc (suc zero)) s among = among_passes (says false 2) (suffixes false 2) s refl among
suffix_says true (suc (suc zero)) s among = among_passes (says true 2) (suffixes true 2) s refl among
suffix_says false (suc (suc (suc n))) s among = absurd (false≢true among)
suffix_says true (suc (suc (suc n))) s among = absurd (false≢true among)

said : (u b : Bool) → (if u then b else not b) ≡ true → b ≡ u
said true b e = e
said false b e = not-true b e

-- 6.4.4.1: the number that a text is accepted as is the one that typing reads
pub integer_is : (text : List ℕ) (n : Integer) → IsInteger text n → integer_of text ≡ n
unfolding integer_of says
integer_is text n is = subst (λ t. integer_of t ≡ n) (sym is.spelled) (parted ∙ whole)
  where
    p : says n.unsigned n.longs is.suffix ≡ true
    p = suffix_says n.unsigned n.longs is.suffix is.suffixed

    q : (if n.unsigned then list_any is_unsigned_letter is.suffix else not (list_any is_unsigned_letter is.suffix))
        ≡ true
    q = (and_parts (if n.unsigned then list_any is_unsigned_letter is.suffix
        else not (list_any is_unsigned_letter is.suffix))
        (length (filter is_long_letter is.suffix) == n.longs && list_all is_suffix_letter is.suffix) p).0

    r : ((length (filter is_long_letter is.suffix) == n.longs) ≡ true) × (list_all is_suffix_letter is.suffix ≡ true)
    r = and_parts (length (filter is_long_letter is.suffix) == n.longs) (list_all is_suffix_letter is.suffix)
        (and_parts (if n.unsigned then list_any is_unsigned_letter is.suffix
        else not (list_any is_unsigned_letter is.suffix))
        (length (filter is_long_letter is.suffix) == n.longs && list_all is_suffix_letter is.suffix) p).1

    parted : integer_of (is.digits ++ is.suffix) ≡ integer_with (base_and_digits is.digits) is.suffix
    parted = λ i. integer_with (base_and_digits (before is.digits is.suffix (spelled_plain is.value) r.1 i))
        (behind is.digits is.suffix (spelled_plain is.value) r.1 i)

    whole : integer_with (base_and_digits is.digits) is.suffix ≡ n
    whole =
        let b = based is.value in
        let u = said n.unsigned (list_any is_unsigned_letter is.suffix) q in
        let l = eqb-true (length (filter is_long_letter is.suffix)) n.longs r.0 in
        λ i. record { value = b.0 i; unsigned = u i; longs = l i; decimal = b.1 i }

-- ---- the type

-- the first type that the number can have
type_among : (n : Integer) (a b c d e f : Bool) → can_have n literal.Int ≡ a → can_have n literal.UnsignedInt ≡ b →
    can_have n literal.Long ≡ c → can_have n literal.UnsignedLong ≡ d → can_have n literal.LongLong ≡ e →
    can_have n literal.UnsignedLongLong ≡ f →
    integer_type (type_of n) ≡ integer_type (cond (a) (Some literal.Int)
    (cond (b) (Some literal.UnsignedInt) (cond (c) (Some literal.Long)
    (cond (d) (Some literal.UnsignedLong) (cond (e) (Some literal.LongLong)
    (cond (f) (Some literal.UnsignedLongLong) (None)))))))
unfolding type_of
type_among n a b c d e f ha hb hc hd he hf =
    λ i. integer_type (cond (ha i) (Some literal.Int)
    (cond (hb i) (Some literal.UnsignedInt) (cond (hc i) (Some literal.Long)
    (cond (hd i) (Some literal.UnsignedLong)
    (cond (he i) (Some literal.LongLong) (cond (hf i) (Some literal.UnsignedLongLong) (None)))))))

pub type_is-int : (n : Integer) → can_have n literal.Int ≡ true →
    integer_type (type_of n) ≡ integer_type (Some literal.Int)
type_is-int n h0 = type_among n true (can_have n literal.UnsignedInt) (can_have n literal.Long)
    (can_have n literal.UnsignedLong) (can_have n literal.LongLong)
    (can_have n literal.UnsignedLongLong) h0 refl refl refl refl refl

pub type_is-unsigned : (n : Integer) → can_have n literal.Int ≡ false → can_have n literal.UnsignedInt ≡ true →
    integer_type (type_of n) ≡ integer_type (Some literal.UnsignedInt)
type_is-unsigned n h0 h1 =
    type_among n false true (can_have n literal.Long) (can_have n literal.UnsignedLong) (can_have n literal.LongLong)
    (can_have n literal.UnsignedLongLong) h0 h1 refl refl refl refl

pub type_is-long : (n : Integer) → can_have n literal.Int ≡ false → can_have n literal.UnsignedInt ≡ false →
    can_have n literal.Long ≡ true → integer_type (type_of n) ≡ integer_type (Some literal.Long)
type_is-long n h0 h1 h2 =
    type_among n false false true (can_have n literal.UnsignedLong) (can_have n literal.LongLong)
    (can_have n literal.UnsignedLongLong) h0 h1 h2 refl refl refl

pub type_is-unsigned_long : (n : Integer) → can_have n literal.Int ≡ false → can_have n literal.UnsignedInt ≡ false →
    can_have n literal.Long ≡ false → can_have n literal.UnsignedLong ≡ true →
    integer_type (type_of n) ≡ integer_type (Some literal.UnsignedLong)
type_is-unsigned_long n h0 h1 h2 h3 =
    type_among n false false false true (can_have n literal.LongLong)
    (can_have n literal.UnsignedLongLong) h0 h1 h2 h3 refl refl

pub type_is-long_long : (n : Integer) → can_have n literal.Int ≡ false → can_have n literal.UnsignedInt ≡ false →
    can_have n literal.Long ≡ false → can_have n literal.UnsignedLong ≡ false → can_have n literal.LongLong ≡ true →
    integer_type (type_of n) ≡ integer_type (Some literal.LongLong)
type_is-long_long n h0 h1 h2 h3 h4 =
    type_among n false false false false true (can_have n literal.UnsignedLongLong) h0 h1 h2 h3 h4 refl

pub type_is-unsigned_long_long : (n : Integer) → can_have n literal.Int ≡ false →
    can_have n literal.UnsignedInt ≡ false → can_have n literal.Long ≡ false → can_have n literal.UnsignedLong ≡ false →
    can_have n literal.LongLong ≡ false → can_have n literal.UnsignedLongLong ≡ true →
    integer_type (type_of n) ≡ integer_type (Some literal.UnsignedLongLong)
type_is-unsigned_long_long n h0 h1 h2 h3 h4 h5 = type_among n false false false false false true h0 h1 h2 h3 h4 h5

pub type_is-none : (n : Integer) → can_have n literal.Int ≡ false → can_have n literal.UnsignedInt ≡ false →
    can_have n literal.Long ≡ false → can_have n literal.UnsignedLong ≡ false → can_have n literal.LongLong ≡ false →
    can_have n literal.UnsignedLongLong ≡ false → integer_type (type_of n) ≡ integer_type None
type_is-none n h0 h1 h2 h3 h4 h5 = type_among n false false false false false false h0 h1 h2 h3 h4 h5

-- ---- constants whose type is made first

pub constant_of_type : (n m l : Nodes) (value of : ℕ) (p : Pos) (t u : Ty) (r : Result Operand Refusal) →
    HasType n m of t → u ≡ t → Answers m l (gives (leaf (Constant value) (type_in m of) p) p) IsOperand r →
    Answers n l (gives (leaf (Constant value) u p) p) IsOperand r
constant_of_type n m l value of p t u r h e a =
    answers_after n m l _ IsOperand r h.keeps
    (answers_is m l _ _ IsOperand r (ap (λ x. gives (leaf (Constant value) x p) p) (e ∙ sym h.is.is)) a)
