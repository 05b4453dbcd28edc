-- Citable laws of Encoding and of `decode_of`, its form as a function.
use Rattle.std.proofs.Common.{◌≡◌, ℕ, ◌^◌, ◌<◌, Option, Some, None, refl, sym, ap, subst, ◌∙◌, arith}
use Rattle.std.specs.Prelude.{◌↔◌, IsNone, All}
use Rattle.std.specs.List.{AllByRecursion}
use Rattle.std.proofs.lemmas.Option.{same_Some}
use Rattle.std.proofs.lemmas.List.Elements.{All-from_recursion}
use Rattle.rv_instr.specs.declared.instr.Instr.{Instr}
use Rattle.rv_instr.specs.declared.instr.Instr.TheVariants.{Upper, Cjal, Op, Ecall, Ebreak, CapReg}
use Rattle.rv_instr.specs.Range.{IsRegister, InRange, registers_of}
use Rattle.rv_code.specs.declared.fields.Fields.{Fields}
use Rattle.rv_code.specs.Formats.{word_of, FitsWord}
use Rattle.rv_code.specs.Encoding.{fields_of, Encodes}
use Rattle.rv_code.specs.Decoding.{instr_at, split_of, decode_of}
use Rattle.rv_code.proofs.Parts.{word_of-injective, FitsWord-split_of, word_of-split_of}
use Rattle.rv_code.proofs.Fitting.{FitsWord-fields_of}
use Rattle.rv_code.proofs.ReadBack.{instr_at-fields_of}
use Rattle.rv_code.proofs.Taken.{Spells-instr_at}

fitting_word : (f : Fields) → FitsWord f → word_of f < 2 ^ 32
fitting_word f p = omega (arith, p.opcode, p.rd, p.funct3, p.rs1, p.rs2, p.funct7)

-- A word that encodes an instruction has 32 bits.
pub Encodes-below : (w : ℕ) (i : Instr) → Encodes w i → w < 2 ^ 32
Encodes-below w i h = subst (λ (n : ℕ). n < 2 ^ 32) (sym h.word)
    (fitting_word (fields_of i) (FitsWord-fields_of i h.in_range))

-- An instruction that a word encodes is the word's instruction.
pub decode_of-encoded : (w : ℕ) (i : Instr) → Encodes w i → decode_of w ≡ Some i
unfolding decode_of
decode_of-encoded w i h =
    let whole = word_of-split_of w (Encodes-below w i h) in
    let same = word_of-injective (split_of w) (fields_of i) (FitsWord-split_of w) (FitsWord-fields_of i h.in_range)
    (whole ∙ h.word) in
    ap instr_at same ∙ instr_at-fields_of i h.in_range

registers_below : (i : Instr) → InRange i → AllByRecursion IsRegister (registers_of i)
unfolding InRange
registers_below (Upper op rd field) h = (h.0, tt)
registers_below (Cjal rd offset) h = (h.0, tt)
registers_below (Op op rd rs1 rs2) h = (h.0, (h.1, (h.2, tt)))
registers_below (CapReg op rd rs1 rs2) h = (h.0, (h.1, (h.2, tt)))
registers_below Ecall h = tt
registers_below Ebreak h = tt
registers_below _ h = (h.0, (h.1, tt))

-- A word's instruction is in range, also where the word is no number of 32 bits.
pub InRange-decode_of : (w : ℕ) (i : Instr) → decode_of w ≡ Some i → InRange i
unfolding decode_of
InRange-decode_of w i e = (Spells-instr_at (split_of w) i (FitsWord-split_of w) e).in_range

-- A word's instruction names registers below 32.
pub registers-decode_of : (w : ℕ) (i : Instr) → decode_of w ≡ Some i → All IsRegister (registers_of i)
registers-decode_of w i e = All-from_recursion IsRegister (registers_of i) (registers_below i (InRange-decode_of w i e))

-- A word's instruction is one that the word encodes.
pub Encodes-decode_of : (w : ℕ) (i : Instr) → w < 2 ^ 32 → decode_of w ≡ Some i → Encodes w i
unfolding decode_of
Encodes-decode_of w i below e =
    let s = Spells-instr_at (split_of w) i (FitsWord-split_of w) e in
    record {
      in_range = s.in_range;
      word = sym (word_of-split_of w below)
          ∙ ap (λ (f : Fields). word_of f) (sym s.fields);
    }

-- `decode_of` is Encoding, read from the word.
pub decode_of-cases : (w : ℕ) (i : Instr) → w < 2 ^ 32 → (decode_of w ≡ Some i) ↔ Encodes w i
decode_of-cases w i below = (Encodes-decode_of w i below, decode_of-encoded w i)

none-unless : (r : Option Instr) → ((i : Instr) → r ≡ Some i → ⊥) → IsNone r
none-unless None h = refl
none-unless (Some i) h = absurd (h i refl)

not-none : (r : Option Instr) → IsNone r → (i : Instr) → r ≡ Some i → ⊥
not-none None n i e = cc
not-none (Some j) n i e = cc

-- It gives None exactly outside Encoding.
pub decode_of-none : (w : ℕ) → w < 2 ^ 32 → IsNone (decode_of w) ↔ ((i : Instr) → ¬ Encodes w i)
decode_of-none w below = (
  λ n i h. not-none (decode_of w) n i (decode_of-encoded w i h),
  λ h. none-unless (decode_of w) (λ i e. h i (Encodes-decode_of w i below e)),
)

-- A word encodes at most one instruction.
pub same_instr : (w : ℕ) (i j : Instr) → Encodes w i → Encodes w j → i ≡ j
same_instr w i j h k = same_Some i j (sym (decode_of-encoded w i h) ∙ decode_of-encoded w j k)

-- An instruction has at most one word.
pub same_word : (v w : ℕ) (i : Instr) → Encodes v i → Encodes w i → v ≡ w
same_word v w i h k = h.word ∙ sym k.word
