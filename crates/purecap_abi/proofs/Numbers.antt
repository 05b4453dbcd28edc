-- What the words for a number make of a register.
use Rattle.std.proofs.Common.{◌≡◌, ℕ, zero, suc, ◌+◌, ◌-◌, ◌*◌, ◌%◌, ◌^◌, ◌<◌, ◌≤◌, ◌⊎◌, pos, negsuc, ◌-ℤ◌, Bool, true}
use Rattle.std.proofs.Common.{false, List, [], ◌∷◌, ◌++◌, refl, ap, ◌∙◌, arith, if◌then◌else◌, inl, inr, append_assoc}
use Rattle.std.specs.Prelude.{nat_lt, ◌==◌}
use Rattle.std.specs.List.{All}
use Rattle.std.proofs.lemmas.Bool.{cases_lt}
use Rattle.std.proofs.lemmas.Bool.Decides.{nat_tests}
use Rattle.std.proofs.lemmas.Int.{ints}
use Rattle.std.proofs.lemmas.List.Elements.{All-append}
use Rattle.rv_instr.specs.declared.instr.Instr.{Instr}
use Rattle.rv_instr.specs.declared.instr.Instr.TheVariants.{Imm, Shift}
use Rattle.rv_instr.specs.declared.ops.ImmOp.{ImmOp}
use Rattle.rv_instr.specs.declared.ops.ImmOp.TheVariants.{Addi, Addiw}
use Rattle.rv_instr.specs.declared.ops.ShiftOp.TheVariants.{Slli}
use Rattle.purecap_abi.specs.Words.{low, high, is_short, is_word, upper, low_code}
use Rattle.purecap_abi.specs.Numbers.{signed_word, plus, set_by, number_after, IsNumberWord, Makes}

-- ---- sums of 64 bits

pub plus_low : (x n : ℕ) → n % 4096 < 2048 → plus x (low n) ≡ (x + n % 4096) % 2 ^ 64
unfolding plus
plus_low x n h = let e : low n ≡ pos (n % 4096) = grind (arith, nat_tests) in ap (λ z. plus x z) e

pub plus_high : (x n : ℕ) → 2048 ≤ n % 4096 → plus x (low n) ≡ (x + (2 ^ 64 - (4096 - n % 4096))) % 2 ^ 64
unfolding plus
plus_high x n h =
    let m = n % 4096 in
    let e : low n ≡ pos m -ℤ pos 4096 = grind (arith, nat_tests) in
    let f : pos m -ℤ pos 4096 ≡ negsuc (4095 - m) = omega (arith, ints) in
    let g : suc (4095 - m) ≡ 4096 - m = omega arith in
    ap (λ z. plus x z) (e ∙ f) ∙ ap (λ k. (x + (2 ^ 64 - k)) % 2 ^ 64) g

-- ---- single words

pub short_made : (n : ℕ) → n < 2 ^ 64 → is_short n ≡ true → plus 0 (low n) ≡ n
short_made n h s = elim (cases_lt (n % 4096) 2048) as (λ _. plus 0 (low n) ≡ n) [
  | inl less ↦ let e = plus_low 0 n less in let z : n < 2048 = grind (arith, nat_tests) in e ∙ omega arith
  | inr more ↦ let e = plus_high 0 n more in let z : 2 ^ 64 - 2048 ≤ n = grind (arith, nat_tests) in e ∙ omega arith
]

-- bits above the low 12, and the low 12 on top
pub shifted_made : (n : ℕ) → n < 2 ^ 64 → plus ((high n * 2 ^ 12) % 2 ^ 64) (low n) ≡ n
shifted_made n h = elim (cases_lt (n % 4096) 2048) as (λ _. plus ((high n * 2 ^ 12) % 2 ^ 64) (low n) ≡ n) [
  | inl less ↦ let e = plus_low ((high n * 2 ^ 12) % 2 ^ 64) n less in e ∙ omega arith
  | inr more ↦ let e = plus_high ((high n * 2 ^ 12) % 2 ^ 64) n more in e ∙ omega arith
]

pub shifted_whole : (n : ℕ) → n < 2 ^ 64 → n % 4096 ≡ 0 → (high n * 2 ^ 12) % 2 ^ 64 ≡ n
shifted_whole n h z = omega arith

word_cases : (n : ℕ) → is_word n ≡ true → (n < 2 ^ 31) ⊎ (2 ^ 64 - 2 ^ 31 ≤ n)
word_cases n w = elim (cases_lt n (2 ^ 31)) as (λ _. (n < 2 ^ 31) ⊎ (2 ^ 64 - 2 ^ 31 ≤ n)) [
  | inl less ↦ inl less
  | inr more ↦ inr (grind (arith, nat_tests))
]

signed_low : (n : ℕ) → n % 2 ^ 32 < 2 ^ 31 → signed_word n ≡ n % 2 ^ 32
unfolding signed_word
signed_low n h = grind (arith, nat_tests)

signed_high : (n : ℕ) → 2 ^ 31 ≤ n % 2 ^ 32 → signed_word n ≡ n % 2 ^ 32 + (2 ^ 64 - 2 ^ 32)
unfolding signed_word
signed_high n h = grind (arith, nat_tests)

-- what has the low 32 bits of a number of so many bits is it, with a sign
signed_made : (k n : ℕ) → n < 2 ^ 64 → is_word n ≡ true → k % 2 ^ 32 ≡ n % 2 ^ 32 → signed_word k ≡ n
signed_made k n h w e = elim (word_cases n w) as (λ _. signed_word k ≡ n) [
  | inl less ↦ let s : signed_word k ≡ k % 2 ^ 32 = signed_low k (omega arith) in omega arith
  | inr more ↦ let s : signed_word k ≡ k % 2 ^ 32 + (2 ^ 64 - 2 ^ 32) = signed_high k (omega arith) in omega arith
]

signed_same : (k : ℕ) → signed_word k % 2 ^ 32 ≡ k % 2 ^ 32
signed_same k = elim (cases_lt (k % 2 ^ 32) (2 ^ 31)) as (λ _. signed_word k % 2 ^ 32 ≡ k % 2 ^ 32) [
  | inl less ↦ let s = signed_low k less in omega arith
  | inr more ↦ let s = signed_high k more in omega arith
]

pub word_whole : (n : ℕ) → n < 2 ^ 64 → is_word n ≡ true → n % 4096 ≡ 0 → signed_word (high n % 2 ^ 20 * 4096) ≡ n
word_whole n h w z = signed_made (high n % 2 ^ 20 * 4096) n h w (omega arith)

pub word_made : (n : ℕ) → n < 2 ^ 64 → is_word n ≡ true →
    signed_word (plus (signed_word (high n % 2 ^ 20 * 4096)) (low n)) ≡ n
word_made n h w =
    let k = high n % 2 ^ 20 * 4096 in
    let s = signed_same k in
    signed_made (plus (signed_word k) (low n)) n h w
    (elim (cases_lt (n % 4096) 2048) as (λ _. plus (signed_word k) (low n) % 2 ^ 32 ≡ n % 2 ^ 32) [
      | inl less ↦ let e = plus_low (signed_word k) n less in omega arith
      | inr more ↦ let e = plus_high (signed_word k) n more in omega arith
    ])

-- ---- lists of words

own_none : (to : ℕ) → All (IsNumberWord to) []
own_none to k d h = absurd (omega arith)

own_cons : (to : ℕ) (i : Instr) (is : List Instr) → IsNumberWord to i → All (IsNumberWord to) is →
    All (IsNumberWord to) (i ∷ is)
own_cons to i is h a zero d j = h
own_cons to i is h a (suc k) d j = a k d (omega arith)

after_append : (is js : List Instr) (x : ℕ) → number_after (is ++ js) x ≡ number_after js (number_after is x)
unfolding number_after
after_append [] js x = refl
after_append (i ∷ is) js x = after_append is js (set_by i x)

own_low : (op : ImmOp) (to n : ℕ) → IsNumberWord to (Imm op to to (low n)) → All (IsNumberWord to) (low_code op to n)
own_low op to n own = by (nat_lt 0 (n % 4096))
  where
    by : (b : Bool) → All (IsNumberWord to) (if b then Imm op to to (low n) ∷ [] else [])
    by true = own_cons to (Imm op to to (low n)) [] own (own_none to)
    by false = own_none to

other : (to x : ℕ) → 0 < to → (if to == 0 then 0 else x) ≡ x
other to x h = grind (arith, nat_tests)

-- the low bits on top of the high ones
low_added : (to n x : ℕ) → 0 < to → (n % 4096 ≡ 0 → x ≡ n) → plus x (low n) ≡ n →
    number_after (low_code Addi to n) x ≡ n
unfolding number_after
low_added to n x h z m = by (nat_lt 0 (n % 4096)) refl
  where
    by : (b : Bool) → nat_lt 0 (n % 4096) ≡ b → number_after (if b then Imm Addi to to (low n) ∷ [] else []) x ≡ n
    by true e = ap (λ y. plus y (low n)) (other to x h) ∙ m
    by false e = z (grind (arith, nat_tests))

low_word_added : (to n x : ℕ) → 0 < to → (n % 4096 ≡ 0 → x ≡ n) → signed_word (plus x (low n)) ≡ n →
    number_after (low_code Addiw to n) x ≡ n
unfolding number_after
low_word_added to n x h z m = by (nat_lt 0 (n % 4096)) refl
  where
    by : (b : Bool) → nat_lt 0 (n % 4096) ≡ b → number_after (if b then Imm Addiw to to (low n) ∷ [] else []) x ≡ n
    by true e = ap (λ y. signed_word (plus y (low n))) (other to x h) ∙ m
    by false e = z (grind (arith, nat_tests))

pub makes_short : (to n : ℕ) (old new : List Instr) → n < 2 ^ 64 → is_short n ≡ true →
    new ≡ old ++ Imm Addi to 0 (low n) ∷ [] → Makes to n old new
unfolding number_after
makes_short to n old new h s e = record {
  added = Imm Addi to 0 (low n) ∷ [];
  is = e;
  own = own_cons to (Imm Addi to 0 (low n)) [] (refl, inr refl) (own_none to);
  made = λ x p. short_made n h s;
}

pub makes_word : (to n : ℕ) (old mid new : List Instr) (i : Instr) → n < 2 ^ 64 → is_word n ≡ true → i ≡ upper to n →
    mid ≡ old ++ i ∷ [] → new ≡ mid ++ low_code Addiw to n → Makes to n old new
unfolding number_after
makes_word to n old mid new i h w u e f = record {
  added = upper to n ∷ [] ++ low_code Addiw to n;
  is = f ∙ ap (λ v. v ++ low_code Addiw to n) (e ∙ ap (λ x. old ++ x ∷ []) u)
      ∙ append_assoc old (upper to n ∷ []) (low_code Addiw to n);
  own = All-append (IsNumberWord to) (upper to n ∷ []) (low_code Addiw to n)
      (own_cons to (upper to n) [] refl (own_none to)) (own_low Addiw to n (refl, inl refl));
  made = λ x p. low_word_added to n (signed_word (high n % 2 ^ 20 * 4096)) p (word_whole n h w) (word_made n h w);
}

pub makes_wide : (to n : ℕ) (old mid next new : List Instr) → n < 2 ^ 64 → Makes to (high n) old mid →
    next ≡ mid ++ Shift Slli to to 12 ∷ [] → new ≡ next ++ low_code Addi to n → Makes to n old new
unfolding number_after
makes_wide to n old mid next new h m e f =
    let rest = Shift Slli to to 12 ∷ low_code Addi to n in
    record {
      added = m.added ++ rest;
      is =
          f ∙ ap (λ v. v ++ low_code Addi to n) e ∙ append_assoc mid (Shift Slli to to 12 ∷ []) (low_code Addi to n)
          ∙ ap (λ v. v ++ rest) m.is ∙ append_assoc old m.added rest;
      own = All-append (IsNumberWord to) m.added rest m.own
          (own_cons to (Shift Slli to to 12) (low_code Addi to n) (refl, refl, refl)
          (own_low Addi to n (refl, inl refl)));
      made = λ x p.
          after_append m.added rest x
          ∙ ap (λ y. number_after (low_code Addi to n) ((y * 2 ^ 12) % 2 ^ 64)) (m.made x p)
          ∙ low_added to n ((high n * 2 ^ 12) % 2 ^ 64) p (shifted_whole n h) (shifted_made n h);
    }
