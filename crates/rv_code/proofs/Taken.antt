-- What fields are read as is in range, and has them.
use Rattle.std.proofs.Common.{◌≡◌, ℕ, ◌+◌, ◌*◌, ◌^◌, ◌<◌, Bool, true, false, cond, eqb, ◌&&◌, ◌||◌, Option, Some, None}
use Rattle.std.proofs.Common.{refl, sym, subst, ◌∙◌, arith}
use Rattle.std.specs.Option.{option_map}
use Rattle.std.proofs.lemmas.Bool.{eqb-true, and_parts}
use Rattle.std.proofs.lemmas.Option.{same_Some, cond_some, none-some}
use Rattle.std.proofs.lemmas.Int.{ints}
use Rattle.rv_instr.specs.declared.instr.Instr.{Instr}
use Rattle.rv_instr.specs.declared.instr.Instr.TheVariants.{Upper, Cjalr, Branch, Load, Store, Clc, Imm, Shift, Op}
use Rattle.rv_instr.specs.declared.instr.Instr.TheVariants.{Ecall, Ebreak, CapImm, CapReg, CapGet}
use Rattle.rv_instr.specs.declared.ops.ShiftOp.{ShiftOp}
use Rattle.rv_instr.specs.declared.ops.ShiftOp.TheVariants.{Slli, Srli, Srai, Slliw, Srliw, Sraiw}
use Rattle.rv_instr.specs.declared.ops.CapImmOp.{CapImmOp}
use Rattle.rv_instr.specs.declared.ops.CapImmOp.TheVariants.{Cincoffsetimm, Csetboundsimm}
use Rattle.rv_instr.specs.Range.{InRange, CapImmFits, count_bits}
use Rattle.rv_code.specs.declared.fields.Fields.{Fields}
use Rattle.rv_code.specs.Formats.{FitsWord, bits, imm_bits, r_format}
use Rattle.rv_code.specs.Table.{shift_opcode, shift_high, shift_funct3}
use Rattle.rv_code.specs.Lookup.{upper_named, branch_named, load_named, store_named, imm_named, shift_named, reg_named}
use Rattle.rv_code.specs.Lookup.{cap_imm_named, cap_reg_named, cap_get_named}
use Rattle.rv_code.specs.Encoding.{fields_of}
use Rattle.rv_code.specs.Decoding.{sign_extended, i_bits, s_bits, b_bits, u_bits, cap_imm_number, upper_at, cjal_at}
use Rattle.rv_code.specs.Decoding.{cjalr_at, branch_at, load_at, store_at, clc_at, imm_at, long_shift_at, word_shift_at}
use Rattle.rv_code.specs.Decoding.{op_imm_at, op_imm_32_at, reg_at, system_at, cap_imm_at, cap_get_at, cap_reg_at}
use Rattle.rv_code.specs.Decoding.{cap_at, instr_at}
use Rattle.rv_code.proofs.Immediates.{i-taken, b-taken, j-taken, u-taken}
use Rattle.rv_code.proofs.Rows.{upper-named, branch-named, load-named, store-named, imm-named, shift-named, reg-named}
use Rattle.rv_code.proofs.Rows.{cap_imm-named, cap_reg-named, cap_get-named}
use Rattle.rv_code.proofs.Parts.{r_format-same}

-- The instruction is in range, and these are its fields.
pub record Spells (f : Fields) (i : Instr) : Type 0 where
  pub in_range : InRange i
  pub fields : fields_of i ≡ f

moved : (f : Fields) (i j : Instr) → j ≡ i → Spells f j → Spells f i
moved f i j e s = subst (λ (k : Instr). Spells f k) e s

map_some : {A : Type 0} (r : Option A) (make : A → Instr) (i : Instr) → option_map make r ≡ Some i →
    (x : A) × (r ≡ Some x) × (make x ≡ i)
map_some None make i e = absurd cc
map_some (Some x) make i e = (x, refl, same_Some (make x) i e)

-- one arm of a chain of tests
arm : (b : Bool) (x y : Option Instr) (i : Instr) {P : Type 0} → cond b x y ≡ Some i → (b ≡ true → x ≡ Some i → P) →
    (y ≡ Some i → P) → P
arm true x y i e here later = here refl e
arm false x y i e here later = later e

upper-takes : (f : Fields) (i : Instr) → FitsWord f → upper_at f ≡ Some i → Spells f i
unfolding fields_of upper_at InRange
upper-takes f i p e =
    let a = map_some (upper_named f.opcode) (λ op. Upper op f.rd (u_bits f)) i e in
    let u = u-taken f.funct7 f.rs2 f.rs1 f.funct3 p.funct7 p.rs2 p.rs1 p.funct3 in
    moved f i _ a.2 (record {
      in_range = (p.rd, u.0);
      fields = r_format-same f _ _ _ _ _ _ u.1 u.2 u.3 u.4 refl (upper-named f.opcode a.0 a.1);
    })

cjal-takes : (f : Fields) (i : Instr) → FitsWord f → f.opcode ≡ 0x6f → cjal_at f ≡ Some i → Spells f i
unfolding fields_of cjal_at InRange
cjal-takes f i p o e =
    let j = j-taken f.funct7 f.rs2 f.rs1 f.funct3 p.funct7 p.rs2 p.rs1 p.funct3 in
    moved f i _ (same_Some _ i e) (record {
      in_range = (p.rd, j.0, j.1);
      fields = r_format-same f _ _ _ _ _ _ j.2 j.3 j.4 j.5 refl (sym o);
    })

cjalr-takes : (f : Fields) (i : Instr) → FitsWord f → f.opcode ≡ 0x67 → cjalr_at f ≡ Some i → Spells f i
unfolding fields_of cjalr_at InRange
cjalr-takes f i p o e =
    let g = cond_some (eqb f.funct3 0) (Cjalr f.rd f.rs1 (sign_extended 12 (i_bits f))) i e in
    let t = i-taken f.funct7 f.rs2 p.funct7 p.rs2 in
    moved f i _ g.1 (record {
      in_range = (p.rd, p.rs1, t.0);
      fields = r_format-same f _ _ _ _ _ _ t.1 t.2 refl (sym (eqb-true _ _ g.0)) refl (sym o);
    })

branch-takes : (f : Fields) (i : Instr) → FitsWord f → f.opcode ≡ 0x63 → branch_at f ≡ Some i → Spells f i
unfolding fields_of branch_at InRange
branch-takes f i p o e =
    let a = map_some (branch_named f.funct3) (λ op. Branch op f.rs1 f.rs2 (sign_extended 13 (b_bits f))) i e in
    let t = b-taken f.funct7 f.rd p.funct7 p.rd in
    moved f i _ a.2 (record {
      in_range = (p.rs1, p.rs2, t.0, t.1);
      fields = r_format-same f _ _ _ _ _ _ t.2 refl refl (branch-named f.funct3 a.0 a.1) t.3 (sym o);
    })

load-takes : (f : Fields) (i : Instr) → FitsWord f → f.opcode ≡ 0x03 → load_at f ≡ Some i → Spells f i
unfolding fields_of load_at InRange
load-takes f i p o e =
    let a = map_some (load_named f.funct3) (λ op. Load op f.rd f.rs1 (sign_extended 12 (i_bits f))) i e in
    let t = i-taken f.funct7 f.rs2 p.funct7 p.rs2 in
    moved f i _ a.2 (record {
      in_range = (p.rd, p.rs1, t.0);
      fields = r_format-same f _ _ _ _ _ _ t.1 t.2 refl (load-named f.funct3 a.0 a.1) refl (sym o);
    })

store-takes : (f : Fields) (i : Instr) → FitsWord f → f.opcode ≡ 0x23 → store_at f ≡ Some i → Spells f i
unfolding fields_of store_at InRange
store-takes f i p o e =
    let a = map_some (store_named f.funct3) (λ op. Store op f.rs2 f.rs1 (sign_extended 12 (s_bits f))) i e in
    let t = i-taken f.funct7 f.rd p.funct7 p.rd in
    moved f i _ a.2 (record {
      in_range = (p.rs2, p.rs1, t.0);
      fields = r_format-same f _ _ _ _ _ _ t.1 refl refl (store-named f.funct3 a.0 a.1) t.2 (sym o);
    })

clc-takes : (f : Fields) (i : Instr) → FitsWord f → f.opcode ≡ 0x0f → clc_at f ≡ Some i → Spells f i
unfolding fields_of clc_at InRange
clc-takes f i p o e =
    let g = cond_some (eqb f.funct3 2) (Clc f.rd f.rs1 (sign_extended 12 (i_bits f))) i e in
    let t = i-taken f.funct7 f.rs2 p.funct7 p.rs2 in
    moved f i _ g.1 (record {
      in_range = (p.rd, p.rs1, t.0);
      fields = r_format-same f _ _ _ _ _ _ t.1 t.2 refl (sym (eqb-true _ _ g.0)) refl (sym o);
    })

imm-takes : (f : Fields) (i : Instr) → FitsWord f → imm_at f ≡ Some i → Spells f i
unfolding fields_of imm_at InRange
imm-takes f i p e =
    let a = map_some (imm_named f.opcode f.funct3) (λ op. Imm op f.rd f.rs1 (sign_extended 12 (i_bits f))) i e in
    let t = i-taken f.funct7 f.rs2 p.funct7 p.rs2 in
    let n = imm-named f.opcode f.funct3 a.0 a.1 in
    moved f i _ a.2 (record {
      in_range = (p.rd, p.rs1, t.0);
      fields = r_format-same f _ _ _ _ _ _ t.1 t.2 refl n.1 refl n.0;
    })

-- ---- shifts: the opcode says how many bits the count has

six_bits : (op : ShiftOp) → shift_opcode op ≡ 0x13 → count_bits op ≡ 6
six_bits Slli o = refl
six_bits Srli o = refl
six_bits Srai o = refl
six_bits _ o = absurd (omega arith)

five_bits : (op : ShiftOp) → shift_opcode op ≡ 0x1b → count_bits op ≡ 5
five_bits Slliw o = refl
five_bits Srliw o = refl
five_bits Sraiw o = refl
five_bits _ o = absurd (omega arith)

shift-spells : (f : Fields) (op : ShiftOp) (width count : ℕ) → FitsWord f → count_bits op ≡ width → count < 2 ^ width
    → bits (shift_high op * 2 ^ width + count) 11 5 ≡ f.funct7 → bits (shift_high op * 2 ^ width + count) 4 0 ≡ f.rs2
    → shift_funct3 op ≡ f.funct3 → shift_opcode op ≡ f.opcode → Spells f (Shift op f.rd f.rs1 count)
unfolding fields_of InRange
shift-spells f op width count p w below upper lower g o =
    let below' = subst (λ (k : ℕ). count < 2 ^ k) (sym w) below in
    let upper' = subst (λ (k : ℕ). bits (shift_high op * 2 ^ k + count) 11 5 ≡ f.funct7) (sym w) upper in
    let lower' = subst (λ (k : ℕ). bits (shift_high op * 2 ^ k + count) 4 0 ≡ f.rs2) (sym w) lower in
    record { in_range = (p.rd, p.rs1, below'); fields = r_format-same f _ _ _ _ _ _ upper' lower' refl g refl o }

long-parts : (high funct7 rs2 : ℕ) → funct7 < 2 ^ 7 → rs2 < 2 ^ 5 → high ≡ bits funct7 6 1
    → let count = bits funct7 0 0 * 2 ^ 5 + rs2 in
    (count < 2 ^ 6) × (bits (high * 2 ^ 6 + count) 11 5 ≡ funct7) × (bits (high * 2 ^ 6 + count) 4 0 ≡ rs2)
long-parts high funct7 rs2 a b e = (omega arith, omega arith, omega arith)

long_shift-takes : (f : Fields) (i : Instr) → FitsWord f → f.opcode ≡ 0x13 → long_shift_at f ≡ Some i → Spells f i
unfolding long_shift_at
long_shift-takes f i p o e =
    let count : ℕ = bits f.funct7 0 0 * 2 ^ 5 + f.rs2 in
    let a = map_some (shift_named f.opcode (bits f.funct7 6 1) f.funct3) (λ op. Shift op f.rd f.rs1 count) i e in
    let n = shift-named f.opcode (bits f.funct7 6 1) f.funct3 a.0 a.1 in
    let t = long-parts (shift_high a.0) f.funct7 f.rs2 p.funct7 p.rs2 n.1 in
    moved f i _ a.2 (shift-spells f a.0 6 count p (six_bits a.0 (n.0 ∙ o)) t.0 t.1 t.2 n.2 n.0)

word-parts : (high funct7 rs2 : ℕ) → funct7 < 2 ^ 7 → rs2 < 2 ^ 5 → high ≡ funct7 →
    (bits (high * 2 ^ 5 + rs2) 11 5 ≡ funct7) × (bits (high * 2 ^ 5 + rs2) 4 0 ≡ rs2)
word-parts high funct7 rs2 a b e = (omega arith, omega arith)

word_shift-takes : (f : Fields) (i : Instr) → FitsWord f → f.opcode ≡ 0x1b → word_shift_at f ≡ Some i → Spells f i
unfolding word_shift_at
word_shift-takes f i p o e =
    let a = map_some (shift_named f.opcode f.funct7 f.funct3) (λ op. Shift op f.rd f.rs1 f.rs2) i e in
    let n = shift-named f.opcode f.funct7 f.funct3 a.0 a.1 in
    let t = word-parts (shift_high a.0) f.funct7 f.rs2 p.funct7 p.rs2 n.1 in
    moved f i _ a.2 (shift-spells f a.0 5 f.rs2 p (five_bits a.0 (n.0 ∙ o)) p.rs2 t.0 t.1 n.2 n.0)

op_imm-takes : (f : Fields) (i : Instr) → FitsWord f → f.opcode ≡ 0x13 → op_imm_at f ≡ Some i → Spells f i
unfolding op_imm_at
op_imm-takes f i p o e = arm _ _ _ i e (λ _. long_shift-takes f i p o) (imm-takes f i p)

op_imm_32-takes : (f : Fields) (i : Instr) → FitsWord f → f.opcode ≡ 0x1b → op_imm_32_at f ≡ Some i → Spells f i
unfolding op_imm_32_at
op_imm_32-takes f i p o e = arm _ _ _ i e (λ _. word_shift-takes f i p o) (imm-takes f i p)

-- ---- registers, the environment, capabilities

reg-takes : (f : Fields) (i : Instr) → FitsWord f → reg_at f ≡ Some i → Spells f i
unfolding fields_of reg_at InRange
reg-takes f i p e =
    let a = map_some (reg_named f.opcode f.funct7 f.funct3) (λ op. Op op f.rd f.rs1 f.rs2) i e in
    let n = reg-named f.opcode f.funct7 f.funct3 a.0 a.1 in
    moved f i _ a.2 (record {
      in_range = (p.rd, p.rs1, p.rs2);
      fields = r_format-same f _ _ _ _ _ _ n.1 refl refl n.2 refl n.0;
    })

-- the fields of `ecall` and `ebreak`, which differ in the field rs2
system-same : (f : Fields) (rs2 : ℕ) → f.opcode ≡ 0x73 →
    (eqb f.rd 0 && eqb f.funct3 0 && eqb f.rs1 0 && eqb f.funct7 0) ≡ true → f.rs2 ≡ rs2 → r_format 0 rs2 0 0 0 0x73 ≡ f
system-same f rs2 o zeros s =
    let a = and_parts _ _ zeros in
    let b = and_parts _ _ a.0 in
    let c = and_parts _ _ b.0 in
    r_format-same f _ _ _ _ _ _ (sym (eqb-true _ _ a.1)) (sym s) (sym (eqb-true _ _ b.1)) (sym (eqb-true _ _ c.1))
    (sym (eqb-true _ _ c.0)) (sym o)

system-takes : (f : Fields) (i : Instr) → FitsWord f → f.opcode ≡ 0x73 → system_at f ≡ Some i → Spells f i
unfolding fields_of system_at InRange
system-takes f i p o e =
    arm _ _ _ i e
    (λ zeros s. arm _ _ _ i s
    (λ z t. moved f i Ecall (same_Some _ i t)
    (record { in_range = tt; fields = system-same f 0 o zeros (eqb-true _ _ z) }))
    (λ t. let g = cond_some (eqb f.rs2 1) Ebreak i t in
    moved f i Ebreak g.1 (record { in_range = tt; fields = system-same f 1 o zeros (eqb-true _ _ g.0) })))
    (λ none. absurd (none-some i none))

cap_imm-parts : (op : CapImmOp) (upper lower : ℕ) → upper < 2 ^ 7 → lower < 2 ^ 5
    → let z = cap_imm_number op (upper * 2 ^ 5 + lower) in
    CapImmFits op z × (imm_bits z 11 5 ≡ upper) × (imm_bits z 4 0 ≡ lower)
cap_imm-parts Cincoffsetimm upper lower a b = i-taken upper lower a b
cap_imm-parts Csetboundsimm upper lower a b = ((omega (arith, ints), omega (arith, ints)), omega arith, omega arith)

cap_imm-takes : (f : Fields) (i : Instr) → FitsWord f → f.opcode ≡ 0x5b → cap_imm_at f ≡ Some i → Spells f i
unfolding fields_of cap_imm_at InRange
cap_imm-takes f i p o e =
    let a = map_some (cap_imm_named f.funct3) (λ op. CapImm op f.rd f.rs1 (cap_imm_number op (i_bits f))) i e in
    let t = cap_imm-parts a.0 f.funct7 f.rs2 p.funct7 p.rs2 in
    moved f i _ a.2 (record {
      in_range = (p.rd, p.rs1, t.0);
      fields = r_format-same f _ _ _ _ _ _ t.1 t.2 refl (cap_imm-named f.funct3 a.0 a.1) refl (sym o);
    })

cap_get-takes : (f : Fields) (i : Instr) → FitsWord f → f.opcode ≡ 0x5b → f.funct3 ≡ 0 → f.funct7 ≡ 0x7f →
    cap_get_at f ≡ Some i → Spells f i
unfolding fields_of cap_get_at InRange
cap_get-takes f i p o z s e =
    let a = map_some (cap_get_named f.rs2) (λ op. CapGet op f.rd f.rs1) i e in
    moved f i _ a.2 (record {
      in_range = (p.rd, p.rs1);
      fields = r_format-same f _ _ _ _ _ _ (sym s) (cap_get-named f.rs2 a.0 a.1) refl (sym z) refl (sym o);
    })

cap_reg-takes : (f : Fields) (i : Instr) → FitsWord f → f.opcode ≡ 0x5b → f.funct3 ≡ 0 → cap_reg_at f ≡ Some i →
    Spells f i
unfolding fields_of cap_reg_at InRange
cap_reg-takes f i p o z e =
    let a = map_some (cap_reg_named f.funct7) (λ op. CapReg op f.rd f.rs1 f.rs2) i e in
    moved f i _ a.2 (record {
      in_range = (p.rd, p.rs1, p.rs2);
      fields = r_format-same f _ _ _ _ _ _ (cap_reg-named f.funct7 a.0 a.1) refl refl (sym z) refl (sym o);
    })

cap-takes : (f : Fields) (i : Instr) → FitsWord f → f.opcode ≡ 0x5b → cap_at f ≡ Some i → Spells f i
unfolding cap_at
cap-takes f i p o e =
    arm _ _ _ i e
    (λ z s. arm _ _ _ i s
    (λ seven. cap_get-takes f i p o (eqb-true _ _ z) (eqb-true _ _ seven))
    (cap_reg-takes f i p o (eqb-true _ _ z)))
    (cap_imm-takes f i p o)

pub Spells-instr_at : (f : Fields) (i : Instr) → FitsWord f → instr_at f ≡ Some i → Spells f i
unfolding instr_at
Spells-instr_at f i p e =
    arm (eqb f.opcode 0x37 || eqb f.opcode 0x17) _ _ i e (λ _. upper-takes f i p) (λ e1.
    arm _ _ _ i e1 (λ t. cjal-takes f i p (eqb-true _ _ t)) (λ e2.
    arm _ _ _ i e2 (λ t. cjalr-takes f i p (eqb-true _ _ t)) (λ e3.
    arm _ _ _ i e3 (λ t. branch-takes f i p (eqb-true _ _ t)) (λ e4.
    arm _ _ _ i e4 (λ t. load-takes f i p (eqb-true _ _ t)) (λ e5.
    arm _ _ _ i e5 (λ t. store-takes f i p (eqb-true _ _ t)) (λ e6.
    arm _ _ _ i e6 (λ t. clc-takes f i p (eqb-true _ _ t)) (λ e7.
    arm _ _ _ i e7 (λ t. op_imm-takes f i p (eqb-true _ _ t)) (λ e8.
    arm _ _ _ i e8 (λ t. op_imm_32-takes f i p (eqb-true _ _ t)) (λ e9.
    arm (eqb f.opcode 0x33 || eqb f.opcode 0x3b) _ _ i e9 (λ _. reg-takes f i p) (λ e10.
    arm _ _ _ i e10 (λ t. system-takes f i p (eqb-true _ _ t)) (λ e11.
    arm _ _ _ i e11 (λ t. cap-takes f i p (eqb-true _ _ t)) (λ none. absurd (none-some i none)))))))))))))
