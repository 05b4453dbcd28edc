-- The bytes of a code's words.
use Rattle.std.proofs.Common.{◌≡◌, ℕ, zero, suc, ◌+◌, ◌*◌, ◌/◌, ◌%◌, ◌^◌, ◌<◌, List, [], ◌∷◌, ◌++◌, length, take, drop}
use Rattle.std.proofs.Common.{get_or, Some, refl, sym, ap, ◌∙◌, arith, length-append}
use Rattle.std.specs.Prelude.{slice_get, slice_index}
use Rattle.std.proofs.lemmas.List.{get_or-drop, get_or-take, get_or_append_left, take_at}
use Rattle.std.proofs.lemmas.Option.{slice_get_within}
use Rattle.std.proofs.Math.Seq.{drop-append-add}
use Rattle.rv_instr.specs.Range.{InRange}
use Rattle.rv_instr.specs.declared.instr.Instr.{Instr}
use Rattle.rv_code.specs.Formats.{word_of}
use Rattle.rv_code.specs.Encoding.{fields_of}
use Rattle.rv_code.proofs.Laws.{Encodes-below}
use Rattle.tag_mem.proofs.LittleEndian.{length-little_bytes, get_or-little_bytes}
use Rattle.image_starts.specs.Words.{instr_bytes, code_bytes}

pub length-code_bytes : (is : List Instr) → length (code_bytes is) ≡ 4 * length is
length-code_bytes [] = refl
length-code_bytes (i ∷ is) =
    omega (
      arith,
      length-append (instr_bytes i) (code_bytes is),
      length-code_bytes is,
      length-little_bytes 4 (word_of (fields_of i)),
    )

pub word_below : (i : Instr) → InRange i → word_of (fields_of i) < 2 ^ 32
word_below i h = Encodes-below (word_of (fields_of i)) i (record { in_range = h; word = refl })

-- the bytes of the word of instruction k
bytes_at : (code : List Instr) (k : ℕ) (i : Instr) → slice_get code k ≡ Some i
    → take 4 (drop (4 * k) (code_bytes code)) ≡ instr_bytes i
bytes_at [] k i e = absurd cc
bytes_at (j ∷ is) zero i e =
    let same : j ≡ i = cc in
    take_at (instr_bytes j) (code_bytes is) 4 (length-little_bytes 4 (word_of (fields_of j))) ∙ ap instr_bytes same
bytes_at (j ∷ is) (suc k) i e =
    let bs = instr_bytes j in
    let n : 4 * suc k ≡ length bs + 4 * k = omega (arith, length-little_bytes 4 (word_of (fields_of j))) in
    ap (λ x. take 4 (drop x (bs ++ code_bytes is))) n ∙ ap (take 4) (drop-append-add bs (code_bytes is) (4 * k))
    ∙ bytes_at is k i e

byte_in : (code : List Instr) (k j : ℕ) (i : Instr) → slice_get code k ≡ Some i → j < 4
    → get_or (code_bytes code) (4 * k + j) 0 ≡ word_of (fields_of i) / 256 ^ j % 256
byte_in code k j i e lt =
    sym (get_or-drop (4 * k) (code_bytes code) j 0) ∙ sym (get_or-take 4 (drop (4 * k) (code_bytes code)) j 0 lt)
    ∙ ap (λ bs. get_or bs j 0) (bytes_at code k i e) ∙ get_or-little_bytes 4 (word_of (fields_of i)) j lt

-- also where more bytes stand behind the code
pub code_byte : (code : List Instr) (behind : List ℕ) (k j : ℕ) (i : Instr) → slice_get code k ≡ Some i → j < 4
    → slice_index (code_bytes code ++ behind) (4 * k + j) ≡ word_of (fields_of i) / 256 ^ j % 256
code_byte code behind k j i e lt =
    let within = slice_get_within code k i e in
    get_or_append_left (code_bytes code) behind 0 (4 * k + j) (omega (arith, within, lt, length-code_bytes code))
    ∙ byte_in code k j i e lt
