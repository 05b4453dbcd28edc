-- The longest front of each kind, and that only one kind begins so.
use Rattle.std.proofs.Common.{◌≡◌, ℕ, zero, suc, ◌≤◌, Bool, true, false, ◌&&◌, ◌||◌, ◌==◌, List, [], ◌∷◌, length, take}
use Rattle.std.proofs.Common.{refl, sym, subst, ◌∙◌, inl, inr, arith}
use Rattle.std.specs.Prelude.{if◌then◌else◌}
use Rattle.std.specs.Char.{is_ascii_digit}
use Rattle.std.specs.List.{prefix_len}
use Rattle.std.proofs.lemmas.List.Sums.{prefix_len-le-length}
use Rattle.ck_base.specs.declared.tokens.TokenKind.{TokenKind}
use Rattle.ck_base.specs.declared.tokens.TokenKind.TheVariants.{Word, Number, Char, Text, Punct}
use Rattle.ck_base.specs.Tokens.{is_nondigit, is_word_byte, is_word, is_number_byte, starts_digit, starts_number}
use Rattle.ck_base.specs.Tokens.{is_number, is_quoted, punctuators, has_form}
use Rattle.ck_base.specs.Lexes.{IsLongest, BeginsNoToken}
use Rattle.c_lex.specs.Fronts.{beginning, IsLongestOf, HasNone}
use Rattle.std.proofs.lemmas.Bool.{eqb-true, or_cases}
use Rattle.c_lex.proofs.Runs.{run_passes, front_in_run}
use Rattle.c_lex.proofs.Tables.{and_true, among_passes}

clash : {b : Bool} → b ≡ true → b ≡ false → ⊥
clash e f = let g = sym e ∙ f in cc

-- What the kind says of the first bytes

abbrev Passes : TokenKind → Bool → Bool → Bool → Bool → Type 0
Passes Word w n c t = w ≡ true
Passes Number w n c t = n ≡ true
Passes Char w n c t = c ≡ true
Passes Text w n c t = t ≡ true
Passes Punct w n c t = Unit {0}

passes : (w n c t : Bool) →
    Passes (if w then Word else (if n then Number else (if c then Char else (if t then Text else Punct)))) w n c t
passes true n c t = refl
passes false true c t = refl
passes false false true t = refl
passes false false false true = refl
passes false false false false = tt

-- the kind's own test of the first bytes
starts : (kind : TokenKind) (b : ℕ) (bs : List ℕ) → beginning (b ∷ bs) ≡ kind →
    Passes kind (is_nondigit b) (starts_number (b ∷ bs)) (b == 39) (b == 34)
unfolding beginning
starts kind b bs e = subst (λ k. Passes k (is_nondigit b) (starts_number (b ∷ bs)) (b == 39) (b == 34)) e
    (passes (is_nondigit b) (starts_number (b ∷ bs)) (b == 39) (b == 34))

-- Words

pub word_front : (bytes : List ℕ) → beginning bytes ≡ Word → IsLongestOf Word bytes (prefix_len is_word_byte bytes)
unfolding beginning has_form is_word is_word_byte
word_front [] kind = cc
word_front (b ∷ bs) kind =
    let nondigit : is_nondigit b ≡ true = starts Word b bs kind in
    let long : prefix_len is_word_byte (b ∷ bs) ≡ suc (prefix_len is_word_byte bs) = rw nondigit (omega arith) in
    record {
      within = prefix_len-le-length is_word_byte (b ∷ bs);
      form = rw (long, nondigit) (run_passes is_word_byte bs);
      longest = longest nondigit long;
    }
  where
    longest : is_nondigit b ≡ true → prefix_len is_word_byte (b ∷ bs) ≡ suc (prefix_len is_word_byte bs) → (m : ℕ) →
        m ≤ suc (length bs) → has_form Word (take m (b ∷ bs)) ≡ true → m ≤ prefix_len is_word_byte (b ∷ bs)
    longest nondigit long zero within form = omega arith
    longest nondigit long (suc m) within form =
        let rest = front_in_run is_word_byte bs m (omega arith) (and_true (is_nondigit b) _ form).1 in
        rw long (omega arith)

-- Numbers

or_left : (a b : Bool) → a ≡ true → (a || b) ≡ true
or_left a b e = rw e refl

or_right : (a b : Bool) → b ≡ true → (a || b) ≡ true
or_right true b e = refl
or_right false b e = e

digit_continues : (b : ℕ) → is_ascii_digit b ≡ true → is_number_byte b ≡ true
unfolding is_number_byte is_word_byte
digit_continues b digit = or_left _ _ (or_right (is_nondigit b) _ digit)

dot_continues : (b : ℕ) → b == 46 ≡ true → is_number_byte b ≡ true
unfolding is_number_byte
dot_continues b dot = or_right (is_word_byte b) _ dot

-- the run begins as the bytes do
number_starts : (bytes : List ℕ) → starts_number bytes ≡ true →
    starts_number (take (prefix_len is_number_byte bytes) bytes) ≡ true
unfolding starts_number
number_starts [] e = cc
number_starts (b ∷ []) e =
    let digit : is_ascii_digit b ≡ true =
    elim (or_cases (is_ascii_digit b) _ e) [
      | inl digit ↦ digit
      | inr dot ↦ absurd
          (clash (and_true (b == 46) false dot).1 refl)
    ] in
    rw (digit_continues b digit) e
number_starts (b ∷ c ∷ bs) e = by_test (is_number_byte c) refl
  where
    first_continues : is_number_byte b ≡ true
    first_continues = elim (or_cases (is_ascii_digit b) _ e)
        [ inl digit ↦ digit_continues b digit | inr dot ↦ dot_continues b (and_true (b == 46) _ dot).0 ]

    digit_first : is_number_byte c ≡ false → is_ascii_digit b ≡ true
    digit_first stops = elim (or_cases (is_ascii_digit b) _ e)
        [ inl digit ↦ digit | inr dot ↦ absurd (clash (digit_continues c (and_true (b == 46) _ dot).1) stops) ]

    by_test : (more : Bool) → is_number_byte c ≡ more →
        starts_number (take (prefix_len is_number_byte (b ∷ c ∷ bs)) (b ∷ c ∷ bs)) ≡ true
    by_test true goes =
        let long : prefix_len is_number_byte (b ∷ c ∷ bs) ≡ suc (suc (prefix_len is_number_byte bs)) =
        rw (first_continues, goes) (omega arith) in
        rw long e
    by_test false stops =
        let long : prefix_len is_number_byte (b ∷ c ∷ bs) ≡ 1 = rw (first_continues, stops) refl in
        rw long (or_left (is_ascii_digit b) _ (digit_first stops))

pub number_front : (bytes : List ℕ) → beginning bytes ≡ Number →
    IsLongestOf Number bytes (prefix_len is_number_byte bytes)
unfolding beginning has_form is_number
number_front [] kind = cc
number_front (b ∷ bs) kind = record {
  within = prefix_len-le-length is_number_byte (b ∷ bs);
  form = rw (number_starts (b ∷ bs) (starts Number b bs kind)) (run_passes is_number_byte (b ∷ bs));
  longest = λ m within form. front_in_run is_number_byte (b ∷ bs) m within
      (and_true (starts_number (take m (b ∷ bs))) _ form).1;
}

-- The kind of a text shows in its first two bytes

is_punct : TokenKind → Bool
is_punct Punct = true
is_punct _ = false

is_punct-true : (kind : TokenKind) → is_punct kind ≡ true → kind ≡ Punct
unfolding is_punct
is_punct-true Punct e = refl
is_punct-true Word e = cc
is_punct-true Number e = cc
is_punct-true Char e = cc
is_punct-true Text e = cc

-- a digit and a dot are no nondigits
number_no_word : (b : ℕ) (digit_next : Bool) → (is_ascii_digit b || (b == 46 && digit_next)) ≡ true →
    is_nondigit b ≡ false
unfolding is_nondigit
number_no_word b digit_next e = elim (or_cases (is_ascii_digit b) _ e) [
  | inl digit ↦ grind arith
  | inr dot ↦ (let is_dot : b ≡ 46 = eqb-true b 46 (and_true (b == 46) _ dot).0 in rw is_dot refl)
]

pub kind_of_form : (kind : TokenKind) (text : List ℕ) → has_form kind text ≡ true → beginning text ≡ kind
unfolding beginning has_form is_word is_number is_quoted is_nondigit starts_number punctuators is_punct
kind_of_form Word [] form = cc
kind_of_form Word (b ∷ bs) form = rw ((and_true (is_nondigit b) _ form).0) refl
kind_of_form Number [] form = cc
kind_of_form Number (b ∷ bs) form =
    let begins = (and_true (starts_number (b ∷ bs)) _ form).0 in
    rw (number_no_word b _ begins, begins) refl
kind_of_form Char [] form = cc
kind_of_form Char (b ∷ bs) form = let quote : b ≡ 39 = eqb-true b 39 (and_true (b == 39) _ form).0 in rw quote refl
kind_of_form Text [] form = cc
kind_of_form Text (b ∷ bs) form = let quote : b ≡ 34 = eqb-true b 34 (and_true (b == 34) _ form).0 in rw quote refl
kind_of_form Punct text form =
    is_punct-true (beginning text) (among_passes (λ t. is_punct (beginning t)) punctuators text refl form)

no_empty_form : (kind : TokenKind) → has_form kind [] ≡ false
unfolding has_form is_word is_number is_quoted starts_number punctuators
no_empty_form Word = refl
no_empty_form Number = refl
no_empty_form Char = refl
no_empty_form Text = refl
no_empty_form Punct = refl

-- two bytes settle it
beginning-take : (bytes : List ℕ) (n : ℕ) → beginning (take (suc (suc n)) bytes) ≡ beginning bytes
unfolding beginning starts_number
beginning-take [] n = refl
beginning-take (b ∷ []) n = refl
beginning-take (b ∷ c ∷ bs) n = refl

-- and one, but for a number
without_next : (w d dot next c t : Bool) →
    ((if w then Word else (if d || (dot && next) then Number else (if c then Char else (if t then Text else Punct))))
    ≡ Number → ⊥) → (if w then Word
    else (if d || (dot && false) then Number else (if c then Char else (if t then Text else Punct))))
    ≡ (if w then Word else (if d || (dot && next) then Number else (if c then Char else (if t then Text else Punct))))
without_next true d dot next c t other = refl
without_next false true dot next c t other = absurd (other refl)
without_next false false true true c t other = absurd (other refl)
without_next false false true false c t other = refl
without_next false false false next c t other = refl

beginning-one : (b : ℕ) (bs : List ℕ) → (beginning (b ∷ bs) ≡ Number → ⊥) → beginning (b ∷ []) ≡ beginning (b ∷ bs)
unfolding beginning starts_number
beginning-one b bs other =
    without_next (is_nondigit b) (is_ascii_digit b) (b == 46) (starts_digit bs) (b == 39) (b == 34) other

-- a token has a byte
pub longest_some : (bytes : List ℕ) (kind : TokenKind) (n : ℕ) → has_form kind (take n bytes) ≡ true → 1 ≤ n
longest_some bytes kind zero form = absurd (clash form (no_empty_form kind))
longest_some bytes kind (suc n) form = omega arith

pub longest_of_all : (bytes : List ℕ) (n : ℕ) → IsLongestOf (beginning bytes) bytes n →
    IsLongest bytes (beginning bytes) n
longest_of_all bytes n of_kind = record {
  within = of_kind.within;
  form = of_kind.form;
  longest = longest n of_kind;
}
  where
    longest : (k : ℕ) → IsLongestOf (beginning bytes) bytes k → (other : TokenKind) (m : ℕ) → m ≤ length bytes →
        has_form other (take m bytes) ≡ true → m ≤ k
    longest k here other zero within form = omega arith
    longest zero here other (suc zero) within form = absurd (clash here.form (no_empty_form (beginning bytes)))
    longest (suc k) here other (suc zero) within form = omega arith
    longest k here other (suc (suc m)) within form =
        let same : other ≡ beginning bytes =
        sym (kind_of_form other (take (suc (suc m)) bytes) form) ∙ beginning-take bytes m in
        here.longest (suc (suc m)) within (rw (← same) form)

-- a number that begins is there
some_number : (bytes : List ℕ) → HasNone Number bytes → beginning bytes ≡ Number → ⊥
some_number bytes none kind = let front = number_front bytes kind in clash front.form (none _ front.within)

pub none_of_any : (bytes : List ℕ) → HasNone (beginning bytes) bytes → BeginsNoToken bytes
none_of_any bytes none = none_at bytes none (λ kind. some_number bytes (subst (λ k. HasNone k bytes) kind none) kind)
  where
    no_form : (other : TokenKind) (text : List ℕ) (b : Bool) → has_form other text ≡ b →
        (has_form other text ≡ true → ⊥) → b ≡ false
    no_form other text true e never = absurd (never e)
    no_form other text false e never = refl

    none_at : (bs : List ℕ) → HasNone (beginning bs) bs → (beginning bs ≡ Number → ⊥) → BeginsNoToken bs
    none_at bs without other_kind other zero within = no_empty_form other
    none_at [] without other_kind other (suc m) within = no_empty_form other
    none_at (b ∷ bs) without other_kind other (suc zero) within = no_form other (b ∷ []) _ refl (λ form.
        let same : other ≡ beginning (b ∷ bs) =
        sym (kind_of_form other (b ∷ []) form) ∙ beginning-one b bs other_kind in
        clash form (rw same (without 1 within)))
    none_at (b ∷ bs) without other_kind other (suc (suc m)) within = no_form other (b ∷ take (suc m) bs) _ refl (λ form.
        let same : other ≡ beginning (b ∷ bs) =
        sym (kind_of_form other (take (suc (suc m)) (b ∷ bs)) form) ∙ beginning-take (b ∷ bs) m in
        clash form (rw same (without (suc (suc m)) within)))
