-- The parts of an integer constant, and what they have to do with its type.
use Rattle.std.proofs.Common.{◌≡◌, ◌≢◌, ℕ, zero, suc, ◌^◌, ◌<◌, ◌≤◌, Bool, true, false, not, ◌&&◌, ◌||◌, ◌==◌, List, []}
use Rattle.std.proofs.Common.{◌∷◌, ◌++◌, length, take, drop, take-append-drop, take_at, drop_at, refl, sym, ap, subst}
use Rattle.std.proofs.Common.{◌∙◌, ◌⊎◌, inl, inr, arith}
use Rattle.std.specs.Prelude.{Some, IsSome, if◌then◌else◌, find, nat_le}
use Rattle.std.specs.Char.{is_digit}
use Rattle.std.specs.List.{list_all, list_any, prefix_len}
use Rattle.std.proofs.lemmas.Bool.{ltb-true, lt-ltb, le-leb, eqb-true, eqb-false, ne_eqb, not-true, or_cases}
use Rattle.ck_base.specs.declared.tokens.Integer.{Integer}
use Rattle.ck_base.specs.Tokens.{is_among}
use Rattle.ck_base.specs.Literals.{are_digits, value_of, SpellsInteger, suffixes, IntegerType, Int, UnsignedInt, Long}
use Rattle.ck_base.specs.Literals.{UnsignedLong, LongLong, UnsignedLongLong, integer_types, limit_of, longs_of}
use Rattle.ck_base.specs.Literals.{is_unsigned, is_candidate, can_have, type_of, IsInteger}
use Rattle.c_lex.specs.Spelled.{base_at, digits_at, suffix_at, has_type}
use Rattle.c_lex.proofs.Escapes.{some_injective}
use Rattle.c_lex.proofs.Digits.{suffix_said, suffix_spelled}
use Rattle.c_lex.proofs.Runs.{run_passes}
use Rattle.c_lex.proofs.Tables.{and_true, among_passes}

-- Types

found_some : {A : Type 0} (p : A → Bool) (x : A) (xs : List A) (b : Bool) → p x ≡ b → (p x || list_any p xs) ≡ true →
    (list_any p xs ≡ true → IsSome (find p xs)) → IsSome (find p (x ∷ xs))
found_some p x xs true e any rest = rw e refl
found_some p x xs false e any rest = let later : list_any p xs ≡ true = rw e at any in rw e (rest later)

find_some : {A : Type 0} (p : A → Bool) (xs : List A) → list_any p xs ≡ true → IsSome (find p xs)
find_some p [] any = cc
find_some p (x ∷ xs) any = found_some p x xs (p x) refl any (find_some p xs)

any_found : {A : Type 0} (p : A → Bool) (x : A) (xs : List A) (b : Bool) → p x ≡ b → IsSome (find p (x ∷ xs)) →
    (IsSome (find p xs) → list_any p xs ≡ true) → (p x || list_any p xs) ≡ true
any_found p x xs true e some rest = rw e refl
any_found p x xs false e some rest = let later : IsSome (find p xs) = rw e at some in rw e (rest later)

some_found : {A : Type 0} (p : A → Bool) (xs : List A) → IsSome (find p xs) → list_any p xs ≡ true
some_found p [] some = cc
some_found p (x ∷ xs) some = any_found p x xs (p x) refl some (some_found p xs)

-- the last types of the list hold whatever fits
typed_last : (n : Integer) → n.longs ≤ 2 → n.value < 2 ^ 64 → has_type n.value n.unsigned n.decimal ≡ true →
    (can_have n LongLong ≡ true) ⊎ (can_have n UnsignedLongLong ≡ true)
typed_last n few fits typed = by_flags n.unsigned n.decimal refl refl
  where
    long_enough : nat_le n.longs 2 ≡ true
    long_enough = le-leb n.longs 2 few

    by_flags : (u d : Bool) → n.unsigned ≡ u → n.decimal ≡ d →
        (can_have n LongLong ≡ true) ⊎ (can_have n UnsignedLongLong ≡ true)
    by_flags true d u_is d_is = inr (rw (long_enough, u_is) (lt-ltb n.value (2 ^ 64) fits))
    by_flags false true u_is d_is = inl (rw (long_enough, u_is, d_is) (rw (u_is, d_is) at typed))
    by_flags false false u_is d_is = inr (rw (long_enough, u_is, d_is) (lt-ltb n.value (2 ^ 64) fits))

or_last : (a b c d e f : Bool) → (e ≡ true) ⊎ (f ≡ true) → (a || (b || (c || (d || (e || (f || false)))))) ≡ true
or_last true b c d e f last = refl
or_last false true c d e f last = refl
or_last false false true d e f last = refl
or_last false false false true e f last = refl
or_last false false false false true f last = refl
or_last false false false false false true last = refl
or_last false false false false false false (inl e) = e
or_last false false false false false false (inr e) = e

typed_some : (n : Integer) → n.longs ≤ 2 → n.value < 2 ^ 64 → has_type n.value n.unsigned n.decimal ≡ true →
    IsSome (type_of n)
unfolding type_of
typed_some n few fits typed =
    find_some (can_have n) integer_types (or_last (can_have n Int) (can_have n UnsignedInt) (can_have n Long)
    (can_have n UnsignedLong) (can_have n LongLong) (can_have n UnsignedLongLong) (typed_last n few fits typed))

-- what a type holds fits
signed_fits : (value : ℕ) (unsigned dec : Bool) → value < 2 ^ 63 → has_type value unsigned dec ≡ true
signed_fits value true dec lt = refl
signed_fits value false true lt = lt-ltb value (2 ^ 63) lt
signed_fits value false false lt = refl

unsigned_fits : (value : ℕ) (unsigned dec : Bool) → (if unsigned then true else not (dec && true)) ≡ true →
    has_type value unsigned dec ≡ true
unsigned_fits value true dec allowed = refl
unsigned_fits value false true allowed = cc
unsigned_fits value false false allowed = refl

below : (n : Integer) (t : IntegerType) → can_have n t ≡ true → n.value < limit_of t
below n t h = ltb-true n.value (limit_of t) (and_true (is_candidate n t) _ h).1

listed : (n : Integer) (t : IntegerType) → can_have n t ≡ true →
    (if n.unsigned then is_unsigned t else not (n.decimal && is_unsigned t)) ≡ true
listed n t h = (and_true (nat_le n.longs (longs_of t)) _ (and_true (is_candidate n t) _ h).0).1

Fits : Integer → Type 0
Fits n = (n.value < 2 ^ 64) × (has_type n.value n.unsigned n.decimal ≡ true)

signed : (n : Integer) → n.value < 2 ^ 63 → Fits n
unfolding Fits
signed n lt = (omega arith, signed_fits n.value n.unsigned n.decimal lt)

holds_fits : (n : Integer) (t : IntegerType) → can_have n t ≡ true → Fits n
unfolding Fits
holds_fits n Int h = let lt = below n Int h in signed n (omega arith)
holds_fits n UnsignedInt h =
    let lt = below n UnsignedInt h in (omega arith, unsigned_fits n.value n.unsigned n.decimal (listed n UnsignedInt h))
holds_fits n Long h = signed n (below n Long h)
holds_fits n UnsignedLong h =
    (below n UnsignedLong h, unsigned_fits n.value n.unsigned n.decimal (listed n UnsignedLong h))
holds_fits n LongLong h = signed n (below n LongLong h)
holds_fits n UnsignedLongLong h =
    (below n UnsignedLongLong h, unsigned_fits n.value n.unsigned n.decimal (listed n UnsignedLongLong h))

any_element : {A : Type 0} (p : A → Bool) (P : Type 0) (xs : List A) → ((x : A) → p x ≡ true → P) →
    list_any p xs ≡ true → P
any_element p P [] each any = cc
any_element p P (x ∷ xs) each any =
    elim (or_cases (p x) _ any) [ inl here ↦ each x here | inr there ↦ any_element p P xs each there ]

some_fits : (n : Integer) → IsSome (type_of n) → Fits n
unfolding type_of
some_fits n some = any_element (can_have n) (Fits n) integer_types (holds_fits n)
    (some_found (can_have n) integer_types some)

-- Parts

unfoldable pub digit_run : ℕ → List ℕ → List ℕ
digit_run base bytes = take (prefix_len (λ b. is_digit b base) bytes) bytes

unfoldable pub behind_digits : ℕ → List ℕ → List ℕ
behind_digits base bytes = drop (prefix_len (λ b. is_digit b base) bytes) bytes

-- no digit begins here
stops : ℕ → List ℕ → Bool
stops base [] = true
stops base (b ∷ bs) = not (is_digit b base)

run_append : (base : ℕ) (digits rest : List ℕ) → list_all (λ b. is_digit b base) digits ≡ true →
    stops base rest ≡ true → prefix_len (λ b. is_digit b base) (digits ++ rest) ≡ length digits
unfolding stops
run_append base [] [] all stop = refl
run_append base [] (b ∷ bs) all stop = rw (not-true (is_digit b base) stop) refl
run_append base (d ∷ ds) rest all stop =
    let both = and_true (is_digit d base) _ all in
    rw (both.0, run_append base ds rest both.1 stop) (omega arith)

run_is : (base : ℕ) (digits rest : List ℕ) → list_all (λ b. is_digit b base) digits ≡ true → stops base rest ≡ true →
    (digit_run base (digits ++ rest) ≡ digits) × (behind_digits base (digits ++ rest) ≡ rest)
unfolding digit_run behind_digits
run_is base digits rest all stop =
    let long = run_append base digits rest all stop in
    (rw long (take_at digits rest (length digits) refl), rw long (drop_at digits rest (length digits) refl))

-- a suffix begins with no digit, and with no `x`
begins_x : List ℕ → Bool
begins_x [] = false
begins_x (b ∷ bs) = b == 120 || b == 88

ends_digits : List ℕ → Bool
ends_digits bytes = stops 8 bytes && (stops 10 bytes && (stops 16 bytes && not (begins_x bytes)))

suffix_ends_digits : (unsigned : Bool) (longs : ℕ) (suffix : List ℕ) →
    is_among (suffixes unsigned longs) suffix ≡ true → ends_digits suffix ≡ true
unfolding suffixes ends_digits stops begins_x
suffix_ends_digits false zero suffix among = among_passes ends_digits (suffixes false 0) suffix refl among
suffix_ends_digits true zero suffix among = among_passes ends_digits (suffixes true 0) suffix refl among
suffix_ends_digits false (suc zero) suffix among = among_passes ends_digits (suffixes false 1) suffix refl among
suffix_ends_digits true (suc zero) suffix among = among_passes ends_digits (suffixes true 1) suffix refl among
suffix_ends_digits false (suc (suc zero)) suffix among = among_passes ends_digits (suffixes false 2) suffix refl among
suffix_ends_digits true (suc (suc zero)) suffix among = among_passes ends_digits (suffixes true 2) suffix refl among
suffix_ends_digits false (suc (suc (suc n))) suffix among = cc
suffix_ends_digits true (suc (suc (suc n))) suffix among = cc

-- what the text says of the constant
pub record Reading (text : List ℕ) (n : Integer) : Type 0 where
  pub some : 1 ≤ length (digit_run (base_at text) (digits_at text))
  pub value : n.value ≡ value_of (base_at text) (digit_run (base_at text) (digits_at text))
  pub ten : n.decimal ≡ (base_at text == 10)
  pub suffix : suffix_at (behind_digits (base_at text) (digits_at text)) ≡ Some (n.unsigned, n.longs)
  pub fits : n.value < 2 ^ 64
  pub typed : has_type n.value n.unsigned n.decimal ≡ true

-- the parts of a text that begins so
record Parts (text : List ℕ) (base : ℕ) (digits suffix : List ℕ) : Type 0 where
  based : base_at text ≡ base
  run : digit_run base (digits_at text) ≡ digits
  rest : behind_digits base (digits_at text) ≡ suffix

record ReadsAs (text : List ℕ) (number : ℕ) (dec : Bool) (suffix : List ℕ) : Type 0 where
  some : 1 ≤ length (digit_run (base_at text) (digits_at text))
  value : number ≡ value_of (base_at text) (digit_run (base_at text) (digits_at text))
  ten : dec ≡ (base_at text == 10)
  rest : behind_digits (base_at text) (digits_at text) ≡ suffix

base_other : (b : ℕ) (bs : List ℕ) → b ≢ 48 → base_at (b ∷ bs) ≡ 10
unfolding base_at
base_other b [] other = rw (ne_eqb b 48 other) refl
base_other b (x ∷ bs) other = rw (ne_eqb b 48 other) refl

base_octal : (bs : List ℕ) → begins_x bs ≡ false → base_at (48 ∷ bs) ≡ 8
unfolding base_at begins_x
base_octal [] other = refl
base_octal (x ∷ bs) other = rw other refl

base_hexadecimal : (x : ℕ) (bs : List ℕ) → begins_x (x ∷ bs) ≡ true → base_at (48 ∷ x ∷ bs) ≡ 16
unfolding base_at begins_x
base_hexadecimal x bs e = rw e refl

-- a digit of base 8 is no `x`
octal_no_x : (digits suffix : List ℕ) → list_all (λ b. is_digit b 8) digits ≡ true → begins_x suffix ≡ false →
    begins_x (digits ++ suffix) ≡ false
unfolding begins_x
octal_no_x [] suffix all other = other
octal_no_x (d ∷ ds) suffix all other =
    rw (
      ne_eqb d 120 (no_digit d 120 refl (and_true (is_digit d 8) _ all).0),
      ne_eqb d 88 (no_digit d 88 refl (and_true (is_digit d 8) _ all).0),
    ) refl
  where
    no_digit : (b x : ℕ) → is_digit x 8 ≡ false → is_digit b 8 ≡ true → b ≢ x
    no_digit b x no_x digit same_byte =
        let e : is_digit x 8 ≡ true = subst (λ v. is_digit v 8 ≡ true) same_byte digit in let f = sym e ∙ no_x in cc

parts_read : (text : List ℕ) (base : ℕ) (run suffix : List ℕ) → Parts text base run suffix → 1 ≤ length run →
    ReadsAs text (value_of base run) (base == 10) suffix
parts_read text base run suffix parts some =
    let run_now : digit_run (base_at text) (digits_at text) ≡ run =
    ap (λ b. digit_run b (digits_at text)) parts.based ∙ parts.run in
    let rest_now : behind_digits (base_at text) (digits_at text) ≡ suffix =
    ap (λ b. behind_digits b (digits_at text)) parts.based ∙ parts.rest in
    record {
      some = rw run_now some;
      value = (λ i. value_of (sym parts.based i) (sym run_now i));
      ten = ap (λ b. b == 10) (sym parts.based);
      rest = rest_now;
    }

read_parts : {digits : List ℕ} {value : ℕ} {dec : Bool} (suffix : List ℕ) → SpellsInteger digits value dec →
    ends_digits suffix ≡ true → ReadsAs (digits ++ suffix) value dec suffix
unfolding ends_digits begins_x
read_parts suffix (SpellsInteger.decimal d ds other all) ends =
    let stop = (and_true (stops 10 suffix) _ (and_true (stops 8 suffix) _ ends).1).0 in
    let based = base_other d (ds ++ suffix) other in
    let run = run_is 10 (d ∷ ds) suffix all stop in
    parts_read (d ∷ ds ++ suffix) 10 (d ∷ ds) suffix
    (record { based = based; run = rw based run.0; rest = rw based run.1 }) (omega arith)
read_parts suffix (SpellsInteger.octal ds all) ends =
    let stop = (and_true (stops 8 suffix) _ ends).0 in
    let no_x = not-true (begins_x suffix) (and_true (stops 16 suffix) _
    (and_true (stops 10 suffix) _ (and_true (stops 8 suffix) _ ends).1).1).1 in
    let based = base_octal (ds ++ suffix) (octal_no_x ds suffix all no_x) in
    let run = run_is 8 (48 ∷ ds) suffix all stop in
    parts_read (48 ∷ ds ++ suffix) 8 (48 ∷ ds) suffix
    (record { based = based; run = rw based run.0; rest = rw based run.1 }) (omega arith)
read_parts suffix (SpellsInteger.hexadecimal x [] is_x all) ends = cc
read_parts suffix (SpellsInteger.hexadecimal x (d ∷ ds) is_x all) ends =
    let stop = (and_true (stops 16 suffix) _ (and_true (stops 10 suffix) _ (and_true (stops 8 suffix) _ ends).1).1).0 in
    let based = base_hexadecimal x (d ∷ ds ++ suffix) is_x in
    let run = run_is 16 (d ∷ ds) suffix all stop in
    parts_read (48 ∷ x ∷ d ∷ ds ++ suffix) 16 (d ∷ ds) suffix
    (record { based = based; run = rw based run.0; rest = rw based run.1 }) (omega arith)

pub reading : (text : List ℕ) (n : Integer) → IsInteger text n → Reading text n
unfolding Fits
reading text n is =
    let parts = subst (λ t. ReadsAs t n.value n.decimal is.suffix) (sym is.spelled)
    (read_parts is.suffix is.value (suffix_ends_digits n.unsigned n.longs is.suffix is.suffixed)) in
    let fits = some_fits n is.typed in
    record {
      some = parts.some;
      value = parts.value;
      ten = parts.ten;
      suffix = ap suffix_at parts.rest ∙ suffix_said n.unsigned n.longs is.suffix is.suffixed;
      fits = fits.0;
      typed = fits.1;
    }

-- and back

run_cons : (base b : ℕ) (bs : List ℕ) → is_digit b base ≡ true →
    (digit_run base (b ∷ bs) ≡ b ∷ digit_run base bs) × (behind_digits base (b ∷ bs) ≡ behind_digits base bs)
unfolding digit_run behind_digits
run_cons base b bs digit =
    let long : prefix_len (λ c. is_digit c base) (b ∷ bs) ≡ suc (prefix_len (λ c. is_digit c base) bs) =
    rw digit (omega arith) in
    (rw long refl, rw long refl)

run_none : (base b : ℕ) (bs : List ℕ) → is_digit b base ≡ false → digit_run base (b ∷ bs) ≡ []
unfolding digit_run
run_none base b bs other = rw other refl

run_rest : (base : ℕ) (bs : List ℕ) → digit_run base bs ++ behind_digits base bs ≡ bs
unfolding digit_run behind_digits
run_rest base bs = take-append-drop (prefix_len (λ b. is_digit b base) bs) bs

run_digits : (base : ℕ) (bs : List ℕ) → list_all (λ b. is_digit b base) (digit_run base bs) ≡ true
unfolding digit_run
run_digits base bs = run_passes (λ b. is_digit b base) bs

Spelled : List ℕ → Type 0
Spelled text = (digits : List ℕ) × (text ≡ digits ++ behind_digits (base_at text) (digits_at text)) ×
    SpellsInteger digits (value_of (base_at text) (digit_run (base_at text) (digits_at text))) (base_at text == 10)

spelled_ten : (b : ℕ) (bs : List ℕ) (digit : Bool) → is_digit b 10 ≡ digit → b ≢ 48 →
    1 ≤ length (digit_run 10 (b ∷ bs)) → Spelled (b ∷ bs)
unfolding Spelled
spelled_ten b bs false e other some = let short = rw (run_none 10 b bs e) at some in absurd (omega arith)
spelled_ten b bs true e other some =
    let run = run_cons 10 b bs e in
    rw (base_other b bs other) (rw (run.0, run.1) (
      b ∷ digit_run 10 bs,
      ap (λ v. b ∷ v) (sym (run_rest 10 bs)),
      SpellsInteger.decimal b (digit_run 10 bs) other (rw e (run_digits 10 bs)),
    ))

spelled_eight : (bs : List ℕ) → begins_x bs ≡ false → Spelled (48 ∷ bs)
unfolding Spelled
spelled_eight bs other =
    let run = run_cons 8 48 bs refl in
    rw (base_octal bs other) (rw (run.0, run.1) (
      48 ∷ digit_run 8 bs,
      ap (λ v. 48 ∷ v) (sym (run_rest 8 bs)),
      SpellsInteger.octal (digit_run 8 bs) (run_digits 8 bs),
    ))

are_sixteen : (ds : List ℕ) → 1 ≤ length ds → list_all (λ b. is_digit b 16) ds ≡ true → are_digits 16 ds ≡ true
are_sixteen [] some all = absurd (omega arith)
are_sixteen (d ∷ ds) some all = all

spelled_sixteen : (x : ℕ) (bs : List ℕ) → begins_x (x ∷ bs) ≡ true → 1 ≤ length (digit_run 16 bs) →
    Spelled (48 ∷ x ∷ bs)
unfolding Spelled begins_x
spelled_sixteen x bs is_x some =
    rw (base_hexadecimal x bs is_x) (
      48 ∷ x ∷ digit_run 16 bs,
      ap (λ v. 48 ∷ x ∷ v) (sym (run_rest 16 bs)),
      SpellsInteger.hexadecimal x (digit_run 16 bs) is_x (are_sixteen (digit_run 16 bs) some (run_digits 16 bs)),
    )

spelled_zero : (bs : List ℕ) (is_x : Bool) → begins_x bs ≡ is_x →
    1 ≤ length (digit_run (base_at (48 ∷ bs)) (digits_at (48 ∷ bs))) → Spelled (48 ∷ bs)
unfolding begins_x
spelled_zero bs false e some = spelled_eight bs e
spelled_zero [] true e some = cc
spelled_zero (x ∷ bs) true e some = spelled_sixteen x bs e (rw (base_hexadecimal x bs e) at some)

spelled_at : (b : ℕ) (bs : List ℕ) (zero_first : Bool) → (b == 48) ≡ zero_first →
    1 ≤ length (digit_run (base_at (b ∷ bs)) (digits_at (b ∷ bs))) → Spelled (b ∷ bs)
spelled_at b bs false e some =
    let other = eqb-false b 48 e in spelled_ten b bs _ refl other (rw (base_other b bs other) at some)
spelled_at b bs true e some =
    let is_zero : b ≡ 48 = eqb-true b 48 e in
    subst (λ c. 1 ≤ length (digit_run (base_at (c ∷ bs)) (digits_at (c ∷ bs))) → Spelled (c ∷ bs)) (sym is_zero)
    (spelled_zero bs _ refl) some

spelled : (text : List ℕ) → 1 ≤ length (digit_run (base_at text) (digits_at text)) → Spelled text
unfolding digit_run base_at
spelled [] some = absurd (omega arith)
spelled (b ∷ bs) some = spelled_at b bs _ refl some

few_longs : (unsigned : Bool) (longs : ℕ) (suffix : List ℕ) → is_among (suffixes unsigned longs) suffix ≡ true →
    longs ≤ 2
unfolding suffixes
few_longs unsigned zero suffix among = omega arith
few_longs unsigned (suc zero) suffix among = omega arith
few_longs unsigned (suc (suc zero)) suffix among = omega arith
few_longs true (suc (suc (suc n))) suffix among = cc
few_longs false (suc (suc (suc n))) suffix among = cc

pub made : (text : List ℕ) (n : Integer) → Reading text n → IsInteger text n
unfolding Spelled
made text n parts =
    let text_is = spelled text parts.some in
    let suffixed = suffix_spelled n.unsigned n.longs _ parts.suffix in
    record {
      digits = text_is.0;
      suffix = behind_digits (base_at text) (digits_at text);
      spelled = text_is.1;
      value = rw (parts.value, parts.ten) text_is.2;
      suffixed = suffixed;
      typed = typed_some n (few_longs n.unsigned n.longs _ suffixed) parts.fits parts.typed;
    }

-- What the code finds: the base, the run of digits and what is behind it, with the value and the suffix that they have.
pub record Found (text : List ℕ) (n : Integer) (base : ℕ) (front back : List ℕ) : Type 0 where
  pub based : base ≡ base_at text
  pub run : front ≡ digit_run (base_at text) (digits_at text)
  pub rest : back ≡ behind_digits (base_at text) (digits_at text)
  pub value : n.value ≡ value_of base front
  pub suffix : Some (n.unsigned, n.longs) ≡ suffix_at back
  pub ten : n.decimal ≡ (base == 10)

pub run_at : (text front digits : List ℕ) (base count : ℕ) → front ≡ take count digits →
    count ≡ prefix_len (λ b. is_digit b base) digits → base ≡ base_at text → digits ≡ digits_at text →
    front ≡ digit_run (base_at text) (digits_at text)
unfolding digit_run
run_at text front digits base count front_is count_is based digits_is = front_is ∙ rw (count_is, based, digits_is) refl

pub behind_at : (text back digits : List ℕ) (base count : ℕ) → back ≡ drop count digits →
    count ≡ prefix_len (λ b. is_digit b base) digits → base ≡ base_at text → digits ≡ digits_at text →
    back ≡ behind_digits (base_at text) (digits_at text)
unfolding behind_digits
behind_at text back digits base count back_is count_is based digits_is = back_is ∙ rw (count_is, based, digits_is) refl

pub found_reading : (text : List ℕ) (n : Integer) (base : ℕ) (front back : List ℕ) → Found text n base front back →
    1 ≤ length front → value_of base front < 2 ^ 64 → has_type n.value n.unsigned n.decimal ≡ true → Reading text n
found_reading text n base front back found some fits typed = record {
  some = rw found.run at some;
  value = found.value ∙ rw (found.based, found.run) refl;
  ten = found.ten ∙ ap (λ b. b == 10) found.based;
  suffix = ap suffix_at (sym found.rest) ∙ sym found.suffix;
  fits = rw found.value fits;
  typed = typed;
}

pub found_only : (text : List ℕ) (m n : Integer) (base : ℕ) (front back : List ℕ) → Found text m base front back →
    Reading text n → m ≡ n
found_only text m n base front back found parts =
    let value : m.value ≡ n.value = found.value ∙ rw (found.based, found.run) (sym parts.value) in
    let ten : m.decimal ≡ n.decimal = found.ten ∙ ap (λ b. b == 10) found.based ∙ sym parts.ten in
    let said : Some (m.unsigned, m.longs) ≡ Some (n.unsigned, n.longs) =
    found.suffix ∙ ap suffix_at found.rest ∙ parts.suffix in
    let pair = some_injective {A = Bool × ℕ} (m.unsigned, m.longs) (n.unsigned, n.longs) said in
    let unsigned : m.unsigned ≡ n.unsigned = ap (λ (p : Bool × ℕ). p.0) pair in
    let longs : m.longs ≡ n.longs = ap (λ (p : Bool × ℕ). p.1) pair in
    λ i. record { value = value i; unsigned = unsigned i; longs = longs i; decimal = ten i }
