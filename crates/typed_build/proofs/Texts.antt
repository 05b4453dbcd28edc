-- The bytes of a text and the words in them.
use Rattle.std.proofs.Common.{◌≡◌, ℕ, zero, suc, ◌+◌, ◌-◌, ◌*◌, ◌/◌, ◌%◌, ◌^◌, ◌<◌, ◌≤◌, List, [], ◌∷◌, ◌++◌, length}
use Rattle.std.proofs.Common.{take, drop, pos, Some, refl, lit≤, sym, ap, ◌∙◌, subst, arith, inl, inr}
use Rattle.std.proofs.Common.{length-append}
use Rattle.std.specs.Prelude.{All, slice_get}
use Rattle.std.proofs.lemmas.Bool.{cases_lt}
use Rattle.std.proofs.lemmas.Grind.{flat_map-append}
use Rattle.std.proofs.lemmas.List.{length-replicate, take_at}
use Rattle.std.proofs.lemmas.List.Elements.{All-append, All-nil}
use Rattle.std.proofs.lemmas.Nat.{pow-add, div-add-mod'}
use Rattle.std.proofs.lemmas.Int.{ints}
use Rattle.std.proofs.Math.Nat.{mul-mod_left}
use Rattle.std.proofs.Math.Pow.{pow-lt}
use Rattle.std.proofs.Math.Seq.{drop-append-add}
use Rattle.cap_concentrate.specs.Rounding.{rounded_up, alignment, owned, first_from}
use Rattle.cap_concentrate.proofs.Laws.{alignment_pos, alignment_power, multiple_of_alignment, owned_ge, owned_multiple}
use Rattle.cap_concentrate.proofs.Laws.{owned_monotone, owned-owned}
use Rattle.cap_concentrate.proofs.Least.{rounded_up_multiple}
use Rattle.rv_instr.specs.Range.{InRange}
use Rattle.rv_instr.specs.declared.instr.Instr.{Instr}
use Rattle.rv_instr.specs.declared.instr.Instr.TheVariants.{Cjal}
use Rattle.rv_code.specs.Formats.{word_of}
use Rattle.rv_code.specs.Encoding.{fields_of, Encodes}
use Rattle.rv_code.specs.Decoding.{decode_of}
use Rattle.rv_code.proofs.Laws.{Encodes-below, decode_of-encoded}
use Rattle.tag_mem.specs.Numbers.{little_number, little_bytes, word_in}
use Rattle.tag_mem.proofs.LittleEndian.{length-little_bytes, get_or-little_bytes, small-little_bytes, number-spelled}
use Rattle.typed_build.specs.Text.{code_limit, instr_bytes, code_bytes, filler, missing, text_length, text_of}

-- ---- lengths

pub length-code_bytes : (is : List Instr) → length (code_bytes is) ≡ 4 * length is
length-code_bytes [] = refl
length-code_bytes (i ∷ is) =
    let bs = little_bytes 4 (word_of (fields_of i)) in
    omega (arith, length-append bs (code_bytes is), length-code_bytes is, length-little_bytes 4 (word_of (fields_of i)))

-- whole granules have an owned length of whole granules
owned_whole : (x : ℕ) → x % 16 ≡ 0 → owned x % 16 ≡ 0
unfolding owned
owned_whole x whole =
    let a = alignment_power x in
    let i = a.0 in
    let is : alignment x ≡ 2 ^ i = a.2 in
    elim (cases_lt i 4) as (λ _. owned x % 16 ≡ 0) [
      | inl less ↦
          let divides = multiple_of_alignment x x 4 (omega (arith, is, pow-lt less)) whole in
          ap (λ v. v % 16) (rounded_up_multiple x (alignment x) (alignment_pos x) divides) ∙ whole
      | inr more ↦
          let s : i ≡ i - 4 + 4 = omega arith in
          let p : 2 ^ i ≡ 2 ^ (i - 4) * 2 ^ 4 = ap (λ v. 2 ^ v) s ∙ pow-add 2 (i - 4) 4 in
          let m : owned x % 2 ^ i ≡ 0 = ap (λ v. owned x % v) (sym is) ∙ owned_multiple x in
          let d : owned x ≡ owned x / 2 ^ i * 2 ^ i = omega (arith, div-add-mod' (owned x) (2 ^ i), m) in
          let e : owned x ≡ owned x / 2 ^ i * 2 ^ (i - 4) * 16 = d ∙ omega (arith, ap (λ v. owned x / 2 ^ i * v) p) in
          ap (λ v. v % 16) e ∙ mul-mod_left _ 16
    ]

-- A text of so many words: whole granules, which are their own owned length and hold the words
pub record IsText (words size : ℕ) : Type 0 where
  pub whole : size % 16 ≡ 0
  pub owned : owned size ≡ size
  pub room : 4 * words ≤ size
  pub most : size ≤ 32014336

pub is_text : (words : ℕ) → 4 * words ≤ code_limit → IsText words (text_length words)
unfolding owned alignment first_from
is_text words small =
    let x = rounded_up (4 * words) 16 in
    let near : (4 * words ≤ x) × (x ≤ 32004112) × (x % 16 ≡ 0) = (omega arith, omega arith, omega arith) in
    let most : owned 32004112 ≡ 32014336 = refl in
    record {
      whole = owned_whole x near.2;
      owned = owned-owned x (omega (arith, near.1));
      room = omega (arith, near.0, owned_ge x);
      most = omega (arith, owned_monotone x 32004112 near.1 (lit≤ tt), most);
    }

pub length-text_of : (code : List Instr) → IsText (length code) (text_length (length code))
    → length (text_of code) ≡ text_length (length code)
length-text_of code t =
    omega (
      arith,
      length-append (code_bytes code) (code_bytes (filler (missing (length code)))),
      length-code_bytes code,
      length-code_bytes (filler (missing (length code))),
      length-replicate (missing (length code)) (Cjal 0 (pos 0)),
      t.whole,
      t.room,
    )

-- ---- words

encodes : (i : Instr) → InRange i → Encodes (word_of (fields_of i)) i
encodes i h = record { in_range = h; word = refl }

pub word_below : (i : Instr) → InRange i → word_of (fields_of i) < 2 ^ 32
word_below i h = Encodes-below (word_of (fields_of i)) i (encodes i h)

-- the bytes of the word of instruction k
pub bytes_at : (code : List Instr) (k : ℕ) (i : Instr) → slice_get code k ≡ Some i
    → take 4 (drop (4 * k) (code_bytes code)) ≡ instr_bytes i
bytes_at [] k i e = absurd cc
bytes_at (j ∷ is) zero i e =
    let same : j ≡ i = cc in
    take_at (instr_bytes j) (code_bytes is) 4 (length-little_bytes 4 (word_of (fields_of j))) ∙ ap instr_bytes same
bytes_at (j ∷ is) (suc k) i e =
    let bs = instr_bytes j in
    let n : 4 * suc k ≡ length bs + 4 * k = omega (arith, length-little_bytes 4 (word_of (fields_of j))) in
    ap (λ x. take 4 (drop x (bs ++ code_bytes is))) n ∙ ap (take 4) (drop-append-add bs (code_bytes is) (4 * k))
    ∙ bytes_at is k i e

little_again : (v : ℕ) → v < 2 ^ 32 → little_number (little_bytes 4 v) ≡ v
little_again v h =
    number-spelled (little_bytes 4 v) v
    (λ k lt. get_or-little_bytes 4 v k (omega (arith, lt, length-little_bytes 4 v)))
    (subst (λ n. v < 256 ^ n) (sym (length-little_bytes 4 v)) (omega arith))

-- each word is an instruction
pub decodes : (code : List Instr) (k : ℕ) (i : Instr) → slice_get code k ≡ Some i → InRange i
    → decode_of (word_in (code_bytes code) k) ≡ Some i
decodes code k i e h =
    ap (λ bs. decode_of (little_number bs)) (bytes_at code k i e)
    ∙ ap decode_of (little_again (word_of (fields_of i)) (word_below i h))
    ∙ decode_of-encoded (word_of (fields_of i)) i (encodes i h)

pub small_bytes : (code : List Instr) → All (λ b. b < 256) (code_bytes code)
small_bytes [] = All-nil (λ b. b < 256)
small_bytes (i ∷ is) = All-append (λ b. b < 256) (instr_bytes i) (code_bytes is)
    (small-little_bytes 4 (word_of (fields_of i))) (small_bytes is)

-- ---- the filled code

-- the code and its filler, as instructions
abbrev pub filled : List Instr → List Instr
filled code = code ++ filler (missing (length code))

pub text_is : (code : List Instr) → text_of code ≡ code_bytes (filled code)
text_is code = sym (flat_map-append instr_bytes code (filler (missing (length code))))

pub front_get : {A : Type 0} (xs ys : List A) (k : ℕ) (x : A) → slice_get xs k ≡ Some x
    → slice_get (xs ++ ys) k ≡ Some x
front_get [] ys k x e = absurd cc
front_get (z ∷ xs) ys zero x e = e
front_get (z ∷ xs) ys (suc k) x e = front_get xs ys k x e

filler_in_range : InRange (Cjal 0 (pos 0))
unfolding InRange
filler_in_range = (omega arith, (omega (arith, ints), omega (arith, ints)), refl)

filler_get : (n k : ℕ) (i : Instr) → slice_get (filler n) k ≡ Some i → InRange i
filler_get zero k i e = absurd cc
filler_get (suc n) zero i e = let same : Cjal 0 (pos 0) ≡ i = cc in subst InRange same filler_in_range
filler_get (suc n) (suc k) i e = filler_get n k i e

pub filled_in_range : (xs ys : List Instr) → ((k : ℕ) (i : Instr) → slice_get xs k ≡ Some i → InRange i)
    → ((k : ℕ) (i : Instr) → slice_get ys k ≡ Some i → InRange i) → (k : ℕ) (i : Instr)
    → slice_get (xs ++ ys) k ≡ Some i → InRange i
filled_in_range [] ys h g k i e = g k i e
filled_in_range (x ∷ xs) ys h g zero i e = h 0 i e
filled_in_range (x ∷ xs) ys h g (suc k) i e = filled_in_range xs ys (λ j. h (suc j)) g k i e

pub there : {A : Type 0} (xs : List A) (k : ℕ) → k < length xs → (x : A) × (slice_get xs k ≡ Some x)
there [] k lt = absurd (omega arith)
there (x ∷ xs) zero lt = (x, refl)
there (x ∷ xs) (suc k) lt = there xs k (omega arith)

-- each word of a text is an instruction
pub all_decode : (code : List Instr) → ((k : ℕ) (i : Instr) → slice_get code k ≡ Some i → InRange i) → (k : ℕ)
    → 4 * k < length (text_of code) → (i : Instr) × (decode_of (word_in (text_of code) k) ≡ Some i)
all_decode code in_range k lt =
    let all = filled code in
    let at = there all k (omega (arith, lt, ap length (text_is code), length-code_bytes all)) in (
      at.0,
      ap (λ t. decode_of (word_in t k)) (text_is code)
          ∙ decodes all k at.0 at.1 (filled_in_range code (filler (missing (length code))) in_range
          (filler_get (missing (length code))) k at.0 at.1),
    )
