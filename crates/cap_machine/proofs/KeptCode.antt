-- What is kept of the instructions stays true from one step to the next.
use Rattle.std.proofs.Common.{◌≡◌, ℕ, ◌+◌, ◌*◌, ◌/◌, ◌%◌, ◌^◌, ◌<◌, ◌≤◌, ◌⊎◌, ◌==◌, ◌&&◌, inl, inr, ℤ, Bool, true}
use Rattle.std.proofs.Common.{false, List}
use Rattle.std.proofs.Common.{length, Option, Some, None, Result, Ok, Err, refl, sym, ap, ◌∙◌, subst, arith}
use mathlib.Core.Bool.{beq}
use Rattle.std.specs.Prelude.{slice_index_or, slice_set, if◌then◌else◌}
use Rattle.std.proofs.lemmas.Bool.{false≢true, eqb-true, and_parts, cases_eq}
use Rattle.std.proofs.lemmas.List.{get_or-set_same, get_or-set_other, length-set}
use Rattle.std.proofs.lemmas.Option.{same_Some}
use Rattle.ck_base.specs.Runs.{Puts, Reads, Ends}
use Rattle.ck_base.specs.Calls.{Seen, Acted}
use Rattle.cap_concentrate.specs.declared.fields.Fields.{Fields}
use Rattle.cap_concentrate.specs.Packing.{same_fields}
use Rattle.cap_ops.specs.declared.capability.Cap.{Cap}
use Rattle.cap_ops.specs.Capability.{with_address, moved, added}
use Rattle.cap_ops.specs.Access.{checked, size}
use Rattle.cap_ops.specs.declared.access.Access.{Access}
use Rattle.cap_ops.specs.declared.access.Access.TheVariants as access
use Rattle.cap_ops.specs.declared.access.Cause.{Cause}
use Rattle.rv_instr.specs.declared.instr.Instr.{Instr}
use Rattle.rv_instr.specs.declared.instr.Instr.TheVariants.{Upper, Cjal, Cjalr, Branch, Load, Store, Clc, Imm, Shift}
use Rattle.rv_instr.specs.declared.instr.Instr.TheVariants.{Op, Ecall, Ebreak, CapImm, CapReg, CapGet}
use Rattle.rv_instr.specs.declared.ops.UpperOp.TheVariants.{Lui, Auipcc}
use Rattle.rv_instr.specs.declared.ops.UpperOp.{UpperOp}
use Rattle.rv_instr.specs.declared.ops.LoadOp.{LoadOp}
use Rattle.rv_instr.specs.declared.ops.StoreOp.{StoreOp}
use Rattle.rv_instr.specs.declared.ops.StoreOp.TheVariants.{Sb, Sh, Sw, Sd, Csc}
use Rattle.rv_instr.specs.declared.ops.CapImmOp.{CapImmOp}
use Rattle.rv_instr.specs.declared.ops.CapImmOp.TheVariants.{Cincoffsetimm, Csetboundsimm}
use Rattle.rv_instr.specs.declared.ops.CapRegOp.{CapRegOp}
use Rattle.rv_instr.specs.declared.ops.CapRegOp.TheVariants.{Csetbounds, Csetboundsexact, Candperm, Csetaddr}
use Rattle.rv_instr.specs.declared.ops.CapRegOp.TheVariants.{Cincoffset, Csetequalexact}
use Rattle.rv_instr.specs.declared.ops.CapGetOp.{CapGetOp}
use Rattle.rv_instr.specs.declared.ops.CapGetOp.TheVariants.{Cgetperm, Cgetbase, Cgetlen, Cgettag, Cgetoffset, Crrl}
use Rattle.rv_instr.specs.declared.ops.CapGetOp.TheVariants.{Cram, Cmove, Ccleartag, Cgetaddr, Csealentry}
use Rattle.rv_instr.specs.declared.reg.Reg.{Reg}
use Rattle.rv_code.specs.Decoding.{decode_of}
use Rattle.tag_mem.specs.Areas.{IsMemory, is_inside}
use Rattle.tag_mem.specs.Memory.{number_at, capability_at}
use Rattle.tag_mem.specs.Numbers.{little_bytes}
use Rattle.tag_mem.proofs.ByAddress.{IsMemory-written}
use Rattle.tag_mem.proofs.Laws.{number_at-written_other}
use Rattle.tag_mem.proofs.LittleEndian.{length-little_bytes, small-little_bytes}
use Rattle.cap_machine.specs.declared.code.Code.{Code}
use Rattle.cap_machine.specs.declared.code.Decoded.{Decoded}
use Rattle.cap_machine.specs.declared.machine.Machine.{Machine}
use Rattle.cap_machine.specs.declared.end.End.{End}
use Rattle.cap_machine.specs.declared.end.End.TheVariants.{Exit, Illegal}
use Rattle.cap_machine.specs.Integers.{loaded_bytes}
use Rattle.cap_machine.specs.State.{register, integer, with_register, next, counter}
use Rattle.cap_machine.specs.Rows.{plus, link, entered, jump, cjalr_checked, loaded, load_checked, stored}
use Rattle.cap_machine.specs.Rows.{store_checked}
use Rattle.cap_machine.specs.Rows.{memory_bits, cap_loaded, clc_checked, row, upper_row, op_row, imm_row, shift_row}
use Rattle.cap_machine.specs.Rows.{branch_row, cjal_row, cjalr_row, load_row, store_row, clc_row, cap_imm_row}
use Rattle.cap_machine.specs.Rows.{cap_reg_row, cap_get_row}
use Rattle.cap_machine.specs.Step.{decoded, read, fetch_checked, fetched, low_byte, answered, read_value, call, limits}
use Rattle.cap_machine.specs.Code.{found_in, vacant, slot_of, counter_at, IsCurrent, Current, IsEmpty, KeepsIf}
use Rattle.cap_machine.specs.Code.{Spares}
use Rattle.cap_machine.specs.Code.{IsAlike}
use Rattle.cap_machine.proofs.Passed.{checked_passes}
use Rattle.cap_machine.proofs.Registers.{with_register-pc, with_register-mem, set_each}

-- ---- a fetch reads the counter and the word there

decoded_same : (m n : Machine) (o : Option Instr) (i : Instr) → decoded m o ≡ Ok i → decoded n o ≡ Ok i
decoded_same m n None i e = absurd (let h : ◌≡◌ {A = Result Instr End} (Err (Illegal (counter m))) (Ok i) = e in cc)
decoded_same m n (Some j) i e = let h : ◌≡◌ {A = Result Instr End} (Ok j) (Ok i) = e in h

read_same : (m n : Machine) (o : Option ℕ) (i : Instr) → read m o ≡ Ok i → read n o ≡ Ok i
read_same m n None i e = absurd (let h : ◌≡◌ {A = Result Instr End} (read m None) (Ok i) = e in cc)
read_same m n (Some w) i e = decoded_same m n (decode_of w) i e

-- the check of what is fetched has passed
pub fetched_aligned : (m : Machine) (i : Instr) → fetched m ≡ Ok i → (m.pc.tag ≡ true) × (counter m % 4 ≡ 0)
unfolding fetched
fetched_aligned m i e = by (checked m.pc (counter m) access.Jump) refl e where
  by : (r : Result ℕ Cause) → checked m.pc (counter m) access.Jump ≡ r → fetch_checked m r ≡ Ok i →
      (m.pc.tag ≡ true) × (counter m % 4 ≡ 0)
  by (Err c) is h = absurd (let g : ◌≡◌ {A = Result Instr End} (fetch_checked m (Err c)) (Ok i) = h in cc)
  by (Ok x) is h = let p = (checked_passes m.pc (counter m) x access.Jump is).1 in (p.tagged, p.aligned)

refetched : (m n : Machine) (at : ℕ) (i : Instr) → IsAlike n.pc m.pc →
    (at % 4 ≡ 0 → number_at n.mem at 4 ≡ number_at m.mem at 4) → fetched (counter_at m at) ≡ Ok i →
    fetched (counter_at n at) ≡ Ok i
unfolding fetched
refetched m n at i alike number e =
    by (checked (c m) at access.Jump) (checked (c n) at access.Jump)
    (ap (λ (f : Fields). checked (record { tag = true; fields = f }) at access.Jump) (alike at)) refl e
  where
    c : Machine → Cap
    c m = record { tag = true; fields = with_address m.pc.fields at }

    by : (r s : Result ℕ Cause) → s ≡ r → checked (c m) at access.Jump ≡ r → fetch_checked (counter_at m at) r ≡ Ok i →
        fetch_checked (counter_at n at) s ≡ Ok i
    by (Err x) s same is h =
        absurd (let g : ◌≡◌ {A = Result Instr End} (fetch_checked (counter_at m at) (Err x)) (Ok i) = h in cc)
    by (Ok x) s same is h =
        let passed = checked_passes (c m) at x access.Jump is in
        let word : number_at n.mem x 4 ≡ number_at m.mem x 4 =
        subst (λ y. number_at n.mem y 4 ≡ number_at m.mem y 4) passed.0 (number passed.1.aligned) in
        rw same (rw word (read_same (counter_at m at) (counter_at n at) (number_at m.mem x 4) i h))

-- ---- the counter's fields and the memory stay as they were

pub record SameCode (m n : Machine) : Type 0 where
  pub alike : IsAlike n.pc m.pc
  pub memory : n.mem ≡ m.mem

pub same_current : (code : Code) (m n : Machine) → SameCode m n → Current code m → Current code n
same_current code m n same has at i e =
    let is = has at i e in
    record {
      from = is.from;
      to = is.to;
      memory = subst IsMemory (sym same.memory) is.memory;
      fetched = refetched m n at i same.alike (λ _. ap (λ mem. number_at mem at 4) same.memory) is.fetched;
    }

same_itself : (m : Machine) → SameCode m m
same_itself m = record { alike = λ at. refl; memory = refl }

moved_alike : (c : Cap) (at : ℕ) → IsAlike (moved c at) c
unfolding moved
moved_alike c at a = refl

next_same : (m : Machine) (r : ℕ) (c : Cap) → SameCode m (next (with_register m r c))
next_same m r c = record {
  alike = subst (λ (pc : Cap). IsAlike (added pc 4) m.pc) (sym (with_register-pc m r c))
      (moved_alike m.pc ((m.pc.fields.address + 4) % 2 ^ 64));
  memory = with_register-mem m r c;
}

module _ (m : Machine) where
  upper_same : (op : UpperOp) (rd n : ℕ) → SameCode m (upper_row m op rd n).1
  unfolding upper_row
  upper_same Lui rd n = next_same m rd _
  upper_same Auipcc rd n = next_same m rd _

  loaded_same : (op : LoadOp) (rd : ℕ) (o : Option ℕ) → SameCode m (loaded m op rd o).1
  loaded_same op rd None = same_itself m
  loaded_same op rd (Some v) = next_same m rd _

  load_checked_same : (op : LoadOp) (rd : ℕ) (r : Result ℕ Cause) → SameCode m (load_checked m op rd r).1
  load_checked_same op rd (Err e) = same_itself m
  load_checked_same op rd (Ok at) = loaded_same op rd (number_at m.mem at (loaded_bytes op))

  cap_loaded_same : (rd : ℕ) (c : Cap) (o : Option (ℕ × Bool)) → SameCode m (cap_loaded m rd c o).1
  cap_loaded_same rd c None = same_itself m
  cap_loaded_same rd c (Some v) = next_same m rd _

  clc_checked_same : (rd : ℕ) (c : Cap) (r : Result ℕ Cause) → SameCode m (clc_checked m rd c r).1
  clc_checked_same rd c (Err e) = same_itself m
  clc_checked_same rd c (Ok at) = cap_loaded_same rd c (capability_at m.mem at)

  cap_imm_same : (op : CapImmOp) (rd rs1 : ℕ) (z : ℤ) → SameCode m (cap_imm_row m op rd rs1 z).1
  unfolding cap_imm_row
  cap_imm_same Cincoffsetimm rd rs1 z = next_same m rd _
  cap_imm_same Csetboundsimm rd rs1 z = next_same m rd _

  cap_reg_same : (op : CapRegOp) (rd rs1 rs2 : ℕ) → SameCode m (cap_reg_row m op rd rs1 rs2).1
  unfolding cap_reg_row
  cap_reg_same Csetbounds rd rs1 rs2 = next_same m rd _
  cap_reg_same Csetboundsexact rd rs1 rs2 = next_same m rd _
  cap_reg_same Candperm rd rs1 rs2 = next_same m rd _
  cap_reg_same Csetaddr rd rs1 rs2 = next_same m rd _
  cap_reg_same Cincoffset rd rs1 rs2 = next_same m rd _
  cap_reg_same Csetequalexact rd rs1 rs2 = next_same m rd _

  cap_get_same : (op : CapGetOp) (rd rs1 : ℕ) → SameCode m (cap_get_row m op rd rs1).1
  unfolding cap_get_row
  cap_get_same Cgetperm rd rs1 = next_same m rd _
  cap_get_same Cgetbase rd rs1 = next_same m rd _
  cap_get_same Cgetlen rd rs1 = next_same m rd _
  cap_get_same Cgettag rd rs1 = next_same m rd _
  cap_get_same Cgetoffset rd rs1 = next_same m rd _
  cap_get_same Crrl rd rs1 = next_same m rd _
  cap_get_same Cram rd rs1 = next_same m rd _
  cap_get_same Cmove rd rs1 = next_same m rd _
  cap_get_same Ccleartag rd rs1 = next_same m rd _
  cap_get_same Cgetaddr rd rs1 = next_same m rd _
  cap_get_same Csealentry rd rs1 = next_same m rd _

  -- a jump to a place of the counter's own capability
  jump_same : (rd : ℕ) (c : Cap) (at : ℕ) → IsAlike c m.pc → SameCode m (jump m rd (moved c at)).1
  jump_same rd c at alike = record {
    alike = λ a. moved_alike c at a ∙ alike a;
    memory = with_register-mem m rd (link m);
  }

  cjalr_checked_same : (rd : ℕ) (c : Cap) (r : Result ℕ Cause) → IsAlike c m.pc → SameCode m (cjalr_checked m rd c r).1
  cjalr_checked_same rd c (Err e) alike = same_itself m
  cjalr_checked_same rd c (Ok at) alike = jump_same rd c at alike

  -- of an instruction that neither stores nor jumps to a register
  row_same : (i : Instr) → ((op : StoreOp) (rs2 rs1 : Reg) (z : ℤ) → i ≡ Store op rs2 rs1 z → ⊥) →
      ((rd rs1 : Reg) (z : ℤ) → i ≡ Cjalr rd rs1 z → ⊥) → SameCode m (row m i).1
  unfolding row op_row imm_row shift_row branch_row cjal_row load_row clc_row
  row_same (Upper op rd n) no_store no_jump = upper_same op rd n
  row_same (Cjal rd z) no_store no_jump = jump_same rd m.pc _ (λ at. refl)
  row_same (Cjalr rd rs1 z) no_store no_jump = absurd (no_jump rd rs1 z refl)
  row_same (Branch op rs1 rs2 z) no_store no_jump = record { alike = moved_alike m.pc _; memory = refl }
  row_same (Load op rd rs1 z) no_store no_jump = load_checked_same op rd _
  row_same (Store op rs2 rs1 z) no_store no_jump = absurd (no_store op rs2 rs1 z refl)
  row_same (Clc rd rs1 z) no_store no_jump = clc_checked_same rd (register m rs1) _
  row_same (Imm op rd rs1 z) no_store no_jump = next_same m rd _
  row_same (Shift op rd rs1 n) no_store no_jump = next_same m rd _
  row_same (Op op rd rs1 rs2) no_store no_jump = next_same m rd _
  row_same (CapImm op rd rs1 z) no_store no_jump = cap_imm_same op rd rs1 z
  row_same (CapReg op rd rs1 rs2) no_store no_jump = cap_reg_same op rd rs1 rs2
  row_same (CapGet op rd rs1) no_store no_jump = cap_get_same op rd rs1
  row_same Ebreak no_store no_jump = same_itself m
  row_same Ecall no_store no_jump = same_itself m

  -- ---- an environment call

  called_by : (a b c : Bool) (x y : Seen) (n : Machine) (e : Option End) →
      Acted limits (if a then Puts (low_byte m) (answered m (low_byte m))
      else if b then Reads (λ byte. answered m (read_value byte))
      else if c then Ends (Exit (low_byte m)) else Ends (Illegal (counter m))) x y m n e → SameCode m n
  called_by true b c x y n e (inl done) = subst (SameCode m) (sym done.1) (next_same m 10 _)
  called_by true b c x y n e (inr failed) = subst (SameCode m) (sym failed.1) (same_itself m)
  called_by false true c x y n e (inl done) = subst (SameCode m) (sym done.2) (next_same m 10 _)
  called_by false true c x y n e (inr failed) = subst (SameCode m) (sym failed.1) (same_itself m)
  called_by false false true x y n e ends = subst (SameCode m) (sym ends.1) (same_itself m)
  called_by false false false x y n e ends = subst (SameCode m) (sym ends.1) (same_itself m)

  pub called_same : (x y : Seen) (n : Machine) (e : Option End) → Acted limits (call m) x y m n e → SameCode m n
  unfolding call
  called_same x y n e done = called_by (integer m 17 == 1) (integer m 17 == 2) (integer m 17 == 3) x y n e done

-- ---- a store leaves a word that it does not touch

module _ (code : Code) (m : Machine) (has : Current code m) where
  stored_current : (at n v : ℕ) (tag inside : Bool) → at % 16 + n ≤ 16 → Spares code at →
      Current code (stored m at n v tag inside).1
  stored_current at n v tag false granule spares x i e = has x i e
  stored_current at n v tag true granule spares x i e =
      let is = has x i e in
      let from = is.from in
      let to = is.to in
      let aligned : x % 4 ≡ 0 = (fetched_aligned (counter_at m x) i is.fetched).1 in
      let small = small-little_bytes n v in
      let apart : (x + 4 ≤ at) ⊎ (at + length (little_bytes n v) ≤ x) =
      elim spares as (λ _. (x + 4 ≤ at) ⊎ (at + length (little_bytes n v) ≤ x)) [
        | inl before ↦ inr (omega (arith, length-little_bytes n v))
        | inr behind ↦ inl (omega arith)
      ] in
      record {
        from = from;
        to = to;
        memory = IsMemory-written m.mem at (little_bytes n v) tag is.memory small;
        fetched = refetched m (stored m at n v tag true).1 x i (moved_alike m.pc _)
            (λ even. number_at-written_other m.mem at (little_bytes n v) tag x 4 is.memory small (omega arith)
            (omega arith) apart) is.fetched;
      }

  store_checked_current : (n v : ℕ) (tag : Bool) (c : Cap) (at : ℕ) (a : Access) → size a ≡ n →
      ((x : ℕ) → x % n ≡ 0 → x % 16 + n ≤ 16) → Spares code at →
      Current code (store_checked m n v tag (checked c at a)).1
  store_checked_current n v tag c at a size_is granule spares = by (checked c at a) refl
    where
      by : (r : Result ℕ Cause) → checked c at a ≡ r → Current code (store_checked m n v tag r).1
      by (Err e) is = has
      by (Ok x) is =
          let passed = checked_passes c at x a is in
          let aligned : at % n ≡ 0 = subst (λ k. at % k ≡ 0) size_is passed.1.aligned in
          subst (λ y. Current code (stored m y n v tag (is_inside m.mem y)).1) passed.0
          (stored_current at n v tag (is_inside m.mem at) (granule at aligned) spares)

  store_current : (op : StoreOp) (rs2 rs1 : ℕ) (z : ℤ) → Spares code (plus (integer m rs1) z) →
      Current code (store_row m op rs2 rs1 z).1
  unfolding store_row
  store_current Sb rs2 rs1 z spares =
      store_checked_current 1 (integer m rs2) false (register m rs1) _ (access.Store 1) refl (λ x h. omega arith) spares
  store_current Sh rs2 rs1 z spares =
      store_checked_current 2 (integer m rs2) false (register m rs1) _ (access.Store 2) refl (λ x h. omega arith) spares
  store_current Sw rs2 rs1 z spares =
      store_checked_current 4 (integer m rs2) false (register m rs1) _ (access.Store 4) refl (λ x h. omega arith) spares
  store_current Sd rs2 rs1 z spares =
      store_checked_current 8 (integer m rs2) false (register m rs1) _ (access.Store 8) refl (λ x h. omega arith) spares
  store_current Csc rs2 rs1 z spares =
      store_checked_current 16 (memory_bits (register m rs2).fields) (register m rs2).tag (register m rs1) _
      (access.StoreCap (register m rs2).tag) refl (λ x h. omega arith) spares

-- ---- what is true after the row

pub empty_current : (code : Code) (m : Machine) → IsEmpty code → Current code m
empty_current code m none at i e = absurd (let h : ◌≡◌ {A = Option Instr} None (Some i) = sym (none at) ∙ e in cc)

pub after_other : (code : Code) (m : Machine) (i : Instr) →
    ((op : StoreOp) (rs2 rs1 : Reg) (z : ℤ) → i ≡ Store op rs2 rs1 z → ⊥) →
    ((rd rs1 : Reg) (z : ℤ) → i ≡ Cjalr rd rs1 z → ⊥) → Current code m → Current code (row m i).1
after_other code m i no_store no_jump has = same_current code m (row m i).1 (row_same m i no_store no_jump) has

keeps_if : (P : Type 0) (old new : Code) (m n : Machine) → KeepsIf P old new → (P → Current old n) → Current new n
keeps_if P old new m n (inl same) holds = subst (λ c. Current c n) (sym same.0) (holds same.1)
keeps_if P old new m n (inr none) holds = empty_current new n none

pub after_store : (old new : Code) (m : Machine) (op : StoreOp) (rs2 rs1 : ℕ) (z : ℤ) →
    KeepsIf (Spares old (plus (integer m rs1) z)) old new → Current old m → Current new (row m (Store op rs2 rs1 z)).1
unfolding row
after_store old new m op rs2 rs1 z kept has =
    keeps_if _ old new m _ kept (λ spares. store_current old m has op rs2 rs1 z spares)

pub after_jump : (old new : Code) (m : Machine) (rd rs1 : ℕ) (z : ℤ) →
    KeepsIf (IsAlike m.pc (entered (register m rs1) z)) old new → Current old m → Current new (row m (Cjalr rd rs1 z)).1
unfolding row cjalr_row
after_jump old new m rd rs1 z kept has =
    keeps_if _ old new m _ kept (λ alike.
    same_current old m _ (cjalr_checked_same m rd (entered (register m rs1) z) _ (λ at. sym (alike at))) has)

-- ---- the slots

-- another address than the slot's
not_there : (slot : Decoded) (at : ℕ) (b : Bool) → (slot.at == at) ≡ b → (slot.at ≡ at → ⊥) →
    (if b then Some slot.instruction else None) ≡ None
not_there slot at true is other = absurd (other (eqb-true slot.at at is))
not_there slot at false is other = refl

module _ (at : ℕ) where
  by_slot_none : (slots : List Decoded) (slot : Decoded) → slice_index_or slots (slot_of at) (vacant 0) ≡ slot →
      (slot.at ≡ at → ⊥) → found_in slots at ≡ None
  unfolding found_in
  by_slot_none slots slot is other =
      subst (λ (s : Decoded). (if s.at == at then Some s.instruction else None) ≡ None) (sym is)
      (not_there slot at (slot.at == at) refl other)

-- the first slots have no instruction
pub record AreVacant (slots : List Decoded) (k : ℕ) : Type 0 where
  pub count : length slots ≡ 1024
  pub first : (j : ℕ) → j < k → slice_index_or slots j (vacant 0) ≡ vacant (4 * (j + 1))

pub more_vacant : (slots : List Decoded) (k : ℕ) (slot : Decoded) → k < 1024 → slot ≡ vacant (4 * (k + 1)) →
    AreVacant slots k → AreVacant (slice_set slots k slot) (k + 1)
more_vacant slots k slot below is so_far = record {
  count = length-set slots k slot ∙ so_far.count;
  first = λ j lt. elim (cases_eq j k) as
      (λ _. slice_index_or (slice_set slots k slot) j (vacant 0) ≡ vacant (4 * (j + 1))) [
        | inl e ↦ ap (λ n. slice_index_or (slice_set slots k slot) n (vacant 0)) e
            ∙ get_or-set_same slots k slot (vacant 0) (omega (arith, so_far.count))
            ∙ is ∙ ap (λ n. vacant (4 * (n + 1))) (sym e)
        | inr other ↦ get_or-set_other slots k j slot (vacant 0) other ∙ so_far.first j (omega (arith, other))
      ];
}

-- where no slot has an instruction none is found
pub all_vacant : (slots : List Decoded) (k at : ℕ) → 1024 ≤ k → AreVacant slots k → found_in slots at ≡ None
all_vacant slots k at all are =
    by_slot_none at slots (vacant (4 * (slot_of at + 1))) (are.first (slot_of at) (omega arith)) (λ h. omega (arith, h))

-- what is found is the new one or was there before
module _ (slots : List Decoded) (at x : ℕ) (j i : Instr) where
  Found : Decoded → Type 0
  Found slot = (if slot.at == x then Some slot.instruction else None) ≡ Some i →
      ((at ≡ x) × (j ≡ i)) ⊎ (found_in slots x ≡ Some i)

  by_slot : (b : Bool) → (at == x) ≡ b → (if b then Some j else None) ≡ Some i →
      ((at ≡ x) × (j ≡ i)) ⊎ (found_in slots x ≡ Some i)
  by_slot true is e = inl (eqb-true at x is, same_Some j i e)
  by_slot false is e = absurd (let h : ◌≡◌ {A = Option Instr} None (Some i) = e in cc)

  new_or_old : found_in (slice_set slots (slot_of at) (record { at = at; instruction = j })) x ≡ Some i →
      ((at ≡ x) × (j ≡ i)) ⊎ (found_in slots x ≡ Some i)
  unfolding found_in Found
  new_or_old = set_each Found slots (slot_of at) (record { at = at; instruction = j })
      (vacant 0) (slot_of x) (by_slot (at == x) refl) (λ e. inr e)

pub keep_current : (code new : Code) (m : Machine) (at : ℕ) (j : Instr) →
    new.slots ≡ slice_set code.slots (slot_of at) (record { at = at; instruction = j }) → new.low ≤ code.low →
    new.low ≤ at / 16 * 16 → code.last ≤ new.last → at + 3 ≤ new.last → IsMemory m.mem →
    fetched (counter_at m at) ≡ Ok j → Current code m → Current new m
keep_current code new m at j slots low below last above memory fetches has x i e =
    elim (new_or_old code.slots at x j i (subst (λ s. found_in s x ≡ Some i) slots e)) as
    (λ _. IsCurrent new.low new.last m x i) [
      | inl here ↦ record {
        from = subst (λ y. new.low ≤ y / 16 * 16) here.0 below;
        to = subst (λ y. y + 3 ≤ new.last) here.0 above;
        memory = memory;
        fetched = subst (λ y. fetched (counter_at m y) ≡ Ok i) here.0 (fetches ∙ ap (λ k. Ok k) here.1);
      }
      | inr old ↦
          let is = has x i old in
          let from = is.from in
          let to = is.to in
          record { from = omega arith; to = omega arith; memory = is.memory; fetched = is.fetched }
    ]

-- the machine is where its counter is, if that is tagged
pub counter_here : (m : Machine) → m.pc.tag ≡ true → counter_at m (counter m) ≡ m
counter_here m tag =
    let f : Fields = m.pc.fields in
    let same : with_address f f.address ≡ f = same_fields (with_address f f.address) f (record {
      user = refl;
      perms = refl;
      reserved = refl;
      flag = refl;
      otype = refl;
      internal = refl;
      t = refl;
      b = refl;
      address = refl;
    }) in
    λ i. record m { pc = record { tag = sym tag i; fields = same i } }

beq_true : (a b : Bool) → beq a b ≡ true → a ≡ b
beq_true true true e = refl
beq_true false false e = refl
beq_true true false e = absurd (false≢true e)
beq_true false true e = absurd (false≢true e)

-- fields that are equal but for the address
pub alike_fields : (f g : Fields) (at : ℕ) →
    (f.user == g.user && (f.perms == g.perms && (f.reserved == g.reserved && (beq f.flag g.flag &&
    (f.otype == g.otype && (beq f.internal g.internal && (f.t == g.t && (f.b == g.b && g.address == g.address)))))))) ≡
    true → with_address f at ≡ with_address g at
alike_fields f g at h =
    let user = and_parts _ _ h in
    let perms = and_parts _ _ user.1 in
    let reserved = and_parts _ _ perms.1 in
    let flag = and_parts _ _ reserved.1 in
    let otype = and_parts _ _ flag.1 in
    let internal = and_parts _ _ otype.1 in
    let t = and_parts _ _ internal.1 in
    let b = and_parts _ _ t.1 in
    same_fields (with_address f at) (with_address g at) (record {
      user = eqb-true _ _ user.0;
      perms = eqb-true _ _ perms.0;
      reserved = eqb-true _ _ reserved.0;
      flag = beq_true _ _ flag.0;
      otype = eqb-true _ _ otype.0;
      internal = beq_true _ _ internal.0;
      t = eqb-true _ _ t.0;
      b = eqb-true _ _ b.0;
      address = refl;
    })
