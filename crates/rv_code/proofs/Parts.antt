-- The fields of a word as one value: a word has one list of fields, and every number below 2^32 is the word of its own.
use Rattle.std.proofs.Common.{◌≡◌, ℕ, ◌+◌, ◌*◌, ◌^◌, ◌<◌, ap, ◌∙◌, arith}
use Rattle.std.proofs.lemmas.Nat.{same_from_place}
use Rattle.rv_code.specs.declared.fields.Fields.{Fields}
use Rattle.rv_code.specs.Formats.{word_of, FitsWord, r_format}
use Rattle.rv_code.specs.Decoding.{split_of}

pub r_format-same : (f : Fields) (funct7 rs2 rs1 funct3 rd opcode : ℕ) → funct7 ≡ f.funct7 → rs2 ≡ f.rs2 → rs1 ≡ f.rs1 →
    funct3 ≡ f.funct3 → rd ≡ f.rd → opcode ≡ f.opcode
    → r_format funct7 rs2 rs1 funct3 rd opcode ≡ f
r_format-same f funct7 rs2 rs1 funct3 rd opcode a b c d e g =
    ap (λ (x : ℕ). r_format x rs2 rs1 funct3 rd opcode) a
    ∙ ap (λ (x : ℕ). r_format f.funct7 x rs1 funct3 rd opcode) b
    ∙ ap (λ (x : ℕ). r_format f.funct7 f.rs2 x funct3 rd opcode) c
    ∙ ap (λ (x : ℕ). r_format f.funct7 f.rs2 f.rs1 x rd opcode) d
    ∙ ap (λ (x : ℕ). r_format f.funct7 f.rs2 f.rs1 f.funct3 x opcode) e
    ∙ ap (λ (x : ℕ). r_format f.funct7 f.rs2 f.rs1 f.funct3 f.rd x) g

-- the word as nested places, from the highest field on
abbrev rest : Fields → ℕ
rest f = (((f.funct7 * 32 + f.rs2) * 32 + f.rs1) * 8 + f.funct3) * 32 + f.rd

nested : (f g : Fields) → word_of f ≡ word_of g → rest f * 128 + f.opcode ≡ rest g * 128 + g.opcode
nested f g e = omega arith

pub word_of-injective : (f g : Fields) → FitsWord f → FitsWord g → word_of f ≡ word_of g → f ≡ g
word_of-injective f g p q e =
    let a = same_from_place (rest f) f.opcode (rest g) g.opcode 128 p.opcode q.opcode (nested f g e) in
    let b = same_from_place (((f.funct7 * 32 + f.rs2) * 32 + f.rs1) * 8 + f.funct3) f.rd
    (((g.funct7 * 32 + g.rs2) * 32 + g.rs1) * 8 + g.funct3) g.rd 32 p.rd q.rd a.0 in
    let c = same_from_place ((f.funct7 * 32 + f.rs2) * 32 + f.rs1) f.funct3
    ((g.funct7 * 32 + g.rs2) * 32 + g.rs1) g.funct3 8 p.funct3 q.funct3 b.0 in
    let d = same_from_place (f.funct7 * 32 + f.rs2) f.rs1 (g.funct7 * 32 + g.rs2) g.rs1 32 p.rs1 q.rs1 c.0 in
    let h = same_from_place f.funct7 f.rs2 g.funct7 g.rs2 32 p.rs2 q.rs2 d.0 in
    r_format-same g f.funct7 f.rs2 f.rs1 f.funct3 f.rd f.opcode h.0 h.1 d.1 c.1 b.1 a.1

pub FitsWord-split_of : (w : ℕ) → FitsWord (split_of w)
FitsWord-split_of w = record {
  opcode = omega arith;
  rd = omega arith;
  funct3 = omega arith;
  rs1 = omega arith;
  rs2 = omega arith;
  funct7 = omega arith;
}

pub word_of-split_of : (w : ℕ) → w < 2 ^ 32 → word_of (split_of w) ≡ w
word_of-split_of w h = omega arith
