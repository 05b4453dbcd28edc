-- The text of an image that is not refused, and its words.
use Rattle.std.proofs.Common.{◌≡◌, ℕ, suc, ◌+◌, ◌-◌, ◌*◌, ◌%◌, ◌^◌, ◌<◌, ◌≤◌, List, [], ◌∷◌, length, take, drop, get_or}
use Rattle.std.proofs.Common.{Ok, sym, ap, ◌∙◌, arith, drop-cons}
use Rattle.std.specs.Int.{from_le_bytes, w32}
use Rattle.elf_file.specs.declared.image.Image.{Image}
use Rattle.tag_mem.specs.Numbers.{little_number}
use Rattle.rv_code.specs.Decoding.{decode_of}
use Rattle.cap_machine.specs.ContainedText.{word_at, instr_at}
use Rattle.image_load.specs.Judging.{judged}
use Rattle.image_load.specs.Contained.{text_in}
use Rattle.image_load.proofs.Judged.{judged_is}

pub record Fits (i : Image) : Type 0 where
  pub base : i.text_base % 16 ≡ 0
  pub size : length i.text % 16 ≡ 0
  pub low : 65536 ≤ i.text_base
  pub high : i.text_base + length i.text ≤ 2 ^ 40
  pub some : 0 < length i.text

pub fits : (i : Image) → judged i ≡ Ok tt → Fits i
fits i fine =
    let f = judged_is i fine in
    let e = f.entry in
    record {
      base = f.well.spread.text.base;
      size = f.well.spread.text.length;
      low = f.low;
      high = f.well.spread.text.end;
      some = omega arith;
    }

-- four bytes and the number that they spell
four_spelled : (a b c d : ℕ) → from_le_bytes w32 (a ∷ b ∷ c ∷ d ∷ []) ≡ little_number (a ∷ b ∷ c ∷ d ∷ [])
four_spelled a b c d = omega arith

four_bytes : (bs : List ℕ) (at : ℕ) → at + 4 ≤ length bs →
    take 4 (drop at bs) ≡ get_or bs at 0 ∷ get_or bs (at + 1) 0 ∷ get_or bs (at + 2) 0 ∷ get_or bs (at + 3) 0 ∷ []
four_bytes bs at h =
    ap (take 4) (next at (at + 1) (omega arith) (omega arith))
    ∙ ap (λ r. get_or bs at 0 ∷ take 3 r) (next (at + 1) (at + 2) (omega arith) (omega arith))
    ∙ ap (λ r. get_or bs at 0 ∷ get_or bs (at + 1) 0 ∷ take 2 r) (next (at + 2) (at + 3) (omega arith) (omega arith))
    ∙ ap (λ r. get_or bs at 0 ∷ get_or bs (at + 1) 0 ∷ get_or bs (at + 2) 0 ∷ take 1 r)
    (next (at + 3) (at + 4) (omega arith) (omega arith))
  where
    next : (k m : ℕ) → m ≡ k + 1 → k < length bs → drop k bs ≡ get_or bs k 0 ∷ drop m bs
    next k m e lt = let to : suc k ≡ m = omega arith in drop-cons bs k 0 lt ∙ ap (λ n. get_or bs k 0 ∷ drop n bs) to

-- the word that is read at an offset is the text's
pub word_is : (i : Image) (k w : ℕ) → 4 * k + 4 ≤ length i.text
    → w ≡ from_le_bytes w32 (get_or i.text (4 * k) 0 ∷ get_or i.text (4 * k + 1) 0 ∷ get_or i.text (4 * k + 2) 0
    ∷ get_or i.text (4 * k + 3) 0 ∷ [])
    → decode_of w ≡ instr_at (text_in i) (i.text_base + 4 * k)
unfolding instr_at word_at
word_is i k w h e =
    let offset : i.text_base + 4 * k - i.text_base ≡ 4 * k = omega arith in
    ap decode_of (e ∙ four_spelled _ _ _ _ ∙ ap little_number (sym (four_bytes i.text (4 * k) h))
    ∙ ap (λ n. little_number (take 4 (drop n i.text))) (sym offset))
