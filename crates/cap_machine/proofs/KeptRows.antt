-- Each row keeps a contained state, at an instruction that stands in a contained text.
use Rattle.std.proofs.Common.{◌≡◌, ℕ, ◌+◌, ◌-◌, ◌%◌, ◌^◌, ◌<◌, ◌≤◌, ◌⊎◌, ◌&&◌, ◌==◌, inl, inr, ℤ, pos, Bool, true}
use Rattle.std.proofs.Common.{false, List, Option, Some, None, Result, Ok, Err, refl, sym, ap, ◌∙◌, subst, arith}
use Rattle.std.specs.Prelude.{nat_eq, nat_le, if◌then◌else◌}
use Rattle.std.proofs.lemmas.Bool.{false≢true, and_parts, cases_Bool, cases_lt, eqb-true, leb-true, not_from_false}
use Rattle.ck_int.specs.Kinds.{wrapped, kept_of, reduced, value_of}
use Rattle.ck_int.proofs.Laws.{wrapped-below}
use Rattle.ck_int.specs.Arithmetic.{binary_of}
use Rattle.cap_concentrate.specs.Rounding.{owned, alignment}
use Rattle.cap_ops.specs.declared.capability.Cap.{Cap}
use Rattle.cap_ops.specs.declared.capability.TheConstants.{LOAD_CAPABILITY}
use Rattle.cap_ops.specs.Capability.{base, null_at, added, moved, permits, narrowed, narrowed_exactly, masked, cleared}
use Rattle.cap_ops.specs.Access.{checked, size}
use Rattle.cap_ops.specs.declared.access.Access.{Access}
use Rattle.cap_ops.specs.declared.access.Access.TheVariants as access
use Rattle.cap_ops.specs.declared.access.Cause.{Cause}
use Rattle.rv_instr.specs.declared.instr.Instr.{Instr}
use Rattle.rv_instr.specs.declared.instr.Instr.TheVariants.{Upper, Cjal, Cjalr, Branch, Load, Store, Clc, Imm, Shift}
use Rattle.rv_instr.specs.declared.instr.Instr.TheVariants.{Op, Ecall, CapImm, CapReg, CapGet}
use Rattle.rv_instr.specs.declared.ops.UpperOp.{UpperOp}
use Rattle.rv_instr.specs.declared.ops.UpperOp.TheVariants.{Lui, Auipcc}
use Rattle.rv_instr.specs.declared.ops.LoadOp.{LoadOp}
use Rattle.rv_instr.specs.declared.ops.StoreOp.{StoreOp}
use Rattle.rv_instr.specs.declared.ops.StoreOp.TheVariants.{Sb, Sh, Sw, Sd, Csc}
use Rattle.rv_instr.specs.declared.ops.ImmOp.{ImmOp}
use Rattle.rv_instr.specs.declared.ops.ImmOp.TheVariants.{Addi}
use Rattle.rv_instr.specs.declared.ops.RegOp.TheVariants.{Add}
use Rattle.rv_instr.specs.declared.ops.BranchOp.{BranchOp}
use Rattle.rv_instr.specs.declared.ops.CapImmOp.{CapImmOp}
use Rattle.rv_instr.specs.declared.ops.CapImmOp.TheVariants.{Cincoffsetimm, Csetboundsimm}
use Rattle.rv_instr.specs.declared.ops.CapRegOp.{CapRegOp}
use Rattle.rv_instr.specs.declared.ops.CapRegOp.TheVariants.{Csetbounds, Csetboundsexact, Candperm, Csetaddr}
use Rattle.rv_instr.specs.declared.ops.CapRegOp.TheVariants.{Cincoffset, Csetequalexact}
use Rattle.rv_instr.specs.declared.ops.CapGetOp.{CapGetOp}
use Rattle.rv_instr.specs.declared.ops.CapGetOp.TheVariants.{Cgetperm, Cgetbase, Cgetlen, Cgettag, Cgetoffset, Crrl}
use Rattle.rv_instr.specs.declared.ops.CapGetOp.TheVariants.{Cram, Cmove, Ccleartag, Cgetaddr, Csealentry}
use Rattle.tag_mem.specs.Areas.{Area, is_inside}
use Rattle.tag_mem.specs.Memory.{number_at, capability_at, written}
use Rattle.tag_mem.specs.Numbers.{little_bytes}
use Rattle.cap_machine.specs.declared.machine.Machine.{Machine}
use Rattle.cap_machine.specs.Integers.{result_of, immediate_op, shift_op, is_taken, extended, upper, one_where}
use Rattle.cap_machine.specs.Integers.{loaded_kind, loaded_bytes}
use Rattle.cap_machine.specs.State.{register, integer, with_register, next, counter}
use Rattle.cap_machine.specs.Rows.{plus, link, entered, cjalr_checked, loaded, load_checked, stored, store_checked}
use Rattle.cap_machine.specs.Rows.{memory_bits, from_memory, cap_loaded, clc_checked, same, length_of, upper_row}
use Rattle.cap_machine.specs.Rows.{op_row, imm_row, shift_row, branch_row, cjal_row, cjalr_row, load_row, store_row}
use Rattle.cap_machine.specs.Rows.{clc_row, cap_imm_row, cap_reg_row, cap_get_row}
use Rattle.cap_machine.specs.Step.{act_of}
use Rattle.cap_machine.specs.ContainedText.{Text, end_of, LiesWell, Stands, is_allowed, links, is_plain_jump}
use Rattle.cap_machine.specs.ContainedText.{sets_service, IsContainedText}
use Rattle.cap_machine.specs.Containment.{IsCounter, IsTextSentry, IsApart, IsConfined, IsContainedRegisters}
use Rattle.cap_machine.specs.Containment.{IsContainedMemory, IsService, IsContained, Keeps}
use Rattle.cap_machine.proofs.Passed.{checked_passes}
use Rattle.cap_machine.proofs.ConfinedCaps.{null_confined, cleared_confined, moved_confined, added_confined}
use Rattle.cap_machine.proofs.ConfinedCaps.{narrowed_confined, narrowed_exactly_confined, masked_confined}
use Rattle.cap_machine.proofs.Places.{no_call_behind}
use Rattle.cap_machine.proofs.TextMemory.{bytes_has, capability_has}
use Rattle.cap_machine.proofs.Registers.{same_registers, with_register-pc, with_register-mem, with_register_has}
use Rattle.cap_machine.proofs.Registers.{written_17}
use Rattle.cap_machine.proofs.Counters.{moved_address, moved_counter, next_address, next_counter, link_confined}
use Rattle.cap_machine.proofs.Counters.{entered_text}
use Rattle.cap_machine.proofs.Widths.{one_below, upper_below, result_below, base_below, length_below, mask_below}
use Rattle.cap_machine.proofs.Widths.{address_below}

null_address : (n : ℕ) → (null_at n).fields.address ≡ n
unfolding null_at
null_address n = refl

-- ---- the numbers of environment calls

module _ (v : ℕ) where
  one_of_three : nat_le 1 v ≡ true → nat_le v 3 ≡ true → IsService v
  one_of_three low high =
      let a = leb-true 1 v low in
      let b = leb-true v 3 high in
      elim (cases_lt v 2) as (λ _. IsService v) [
        | inl one ↦ inl (omega arith)
        | inr more ↦ elim (cases_lt v 3) as (λ _. IsService v)
            [ inl two ↦ inr (inl (omega arith)) | inr three ↦ inr (inr (omega arith)) ]
      ]

-- `addi` of one of them to 0 gives it
sum_is : (v : ℕ) → IsService v → result_of Add 0 v ≡ v
unfolding result_of binary_of wrapped kept_of reduced value_of
sum_is v (inl e) = subst (λ x. result_of Add 0 x ≡ x) (sym e) refl
sum_is v (inr (inl e)) = subst (λ x. result_of Add 0 x ≡ x) (sym e) refl
sum_is v (inr (inr e)) = subst (λ x. result_of Add 0 x ≡ x) (sym e) refl

-- ---- an access through a confined capability stays outside the text

record Accesses (t : Text) (at n : ℕ) : Type 0 where
  aligned : at % n ≡ 0
  apart : (at < t.base) ⊎ (end_of t ≤ at)

accesses : (t : Text) (c : Cap) (place at : ℕ) (a : Access) → 0 < size a → IsConfined t c → checked c place a ≡ Ok at →
    Accesses t at (size a)
accesses t c place at a some held e =
    let found = checked_passes c place at a e in
    let p = found.1 in
    let low = p.low in
    let high = p.high in
    let outside : (at < t.base) ⊎ (end_of t ≤ at) =
    elim (held.tagged p.tagged) as (λ _. (at < t.base) ⊎ (end_of t ≤ at)) [
      | inl gate ↦ let x = gate.sentry in let y = p.unsealed in absurd (omega arith)
      | inr plain ↦ elim (cases_lt at t.base) as (λ _. (at < t.base) ⊎ (end_of t ≤ at)) [
        | inl before ↦ inl before
        | inr from ↦ elim (cases_lt at (end_of t)) as (λ _. (at < t.base) ⊎ (end_of t ≤ at)) [
          | inl below ↦ absurd (plain.outside at (omega (arith, found.0)) (omega (arith, found.0)) from below)
          | inr behind ↦ inr behind
        ]
      ]
    ] in
    record { aligned = subst (λ x. x % size a ≡ 0) found.0 p.aligned; apart = outside }

module _ (t : Text) (well : LiesWell t) (text : IsContainedText t) (m : Machine) (has : IsContained t m) where
  held : (r : ℕ) → IsConfined t (register m r)
  held = has.registers.held

  word_is : (r : ℕ) → integer m r < 2 ^ 64
  word_is r = (held r).address

  -- ---- on to the next instruction

  next_kept : (i : Instr) → Stands t (counter m) i → is_plain_jump i ≡ false → (n : Machine) → n.pc ≡ m.pc →
      IsContainedRegisters t n → IsContainedMemory t n.mem
      → (Stands t (counter m + 4) Ecall → IsService (integer n 17)) → IsContained t (next n)
  next_kept i s stays n pc regs mem service =
      let at : counter (next n) ≡ counter m + 4 =
      moved_address n.pc ((n.pc.fields.address + 4) % 2 ^ 64)
      ∙ ap (λ (c : Cap). (c.fields.address + 4) % 2 ^ 64) pc ∙ next_address t well text m.pc has.pc in
      record {
        pc = subst (λ (c : Cap). IsCounter t (added c 4)) (sym pc) (next_counter t well text m.pc i has.pc s stays);
        lies = well;
        registers = same_registers t n (next n) refl regs;
        memory = mem;
        service = λ call. service (subst (λ x. Stands t x Ecall) at call);
      }

  -- a register is written
  module _ (i : Instr) (s : Stands t (counter m) i) (stays : is_plain_jump i ≡ false) where
    written_kept : (r : ℕ) (c : Cap) → IsConfined t c →
        (Stands t (counter m + 4) Ecall → IsService (integer (with_register m r c) 17)) →
        IsContained t (next (with_register m r c))
    written_kept r c new service =
        next_kept i s stays (with_register m r c) (with_register-pc m r c)
        (with_register_has t m r c (λ _. new) has.registers)
        (subst (λ mem. IsContainedMemory t mem) (sym (with_register-mem m r c)) has.memory) service

    set_kept : sets_service i ≡ false → (r : ℕ) (c : Cap) → IsConfined t c → IsContained t (next (with_register m r c))
    set_kept none r c new = written_kept r c new (λ call. absurd (no_call_behind t well text (counter m) i s none call))

    pub set_integer_kept : sets_service i ≡ false → (r n : ℕ) → n < 2 ^ 64 →
        IsContained t (next (with_register m r (null_at n)))
    set_integer_kept none r n below = set_kept none r (null_at n) (null_confined t n below)

    stored_kept : sets_service i ≡ false → (mem : List Area) → IsContainedMemory t mem →
        IsContained t (next (record m { mem = mem }))
    stored_kept none mem new =
        next_kept i s stays (record m { mem = mem }) refl
        (same_registers t m (record m { mem = mem }) refl has.registers) new
        (λ call. absurd (no_call_behind t well text (counter m) i s none call))

  -- ---- integers

  pub upper_kept : (op : UpperOp) (rd n : ℕ) → Stands t (counter m) (Upper op rd n) →
      is_allowed (Upper op rd n) ≡ true → Keeps t (act_of (upper_row m op rd n))
  unfolding upper_row
  upper_kept Lui rd n s allowed = set_integer_kept (Upper Lui rd n) s refl refl rd (upper n) (upper_below n)
  upper_kept Auipcc rd n s allowed = absurd (false≢true allowed)

  pub op_kept : (op : _) (rd rs1 rs2 : ℕ) → Stands t (counter m) (Op op rd rs1 rs2) →
      Keeps t (act_of (op_row m op rd rs1 rs2))
  unfolding op_row
  op_kept op rd rs1 rs2 s =
      set_integer_kept (Op op rd rs1 rs2) s refl refl rd (result_of op (integer m rs1) (integer m rs2))
      (result_below op (integer m rs1) (integer m rs2))

  pub shift_kept : (op : _) (rd rs1 n : ℕ) → Stands t (counter m) (Shift op rd rs1 n) →
      Keeps t (act_of (shift_row m op rd rs1 n))
  unfolding shift_row
  shift_kept op rd rs1 n s =
      set_integer_kept (Shift op rd rs1 n) s refl refl rd (result_of (shift_op op) (integer m rs1) n)
      (result_below (shift_op op) (integer m rs1) n)

  -- `addi x17,x0,k` sets the number of the call behind it
  number_set : (rd rs1 : ℕ) (z : ℤ) → sets_service (Imm Addi rd rs1 z) ≡ true →
      IsService (integer (with_register m rd (null_at (result_of Add (integer m rs1) (extended z)))) 17)
  number_set rd rs1 z h =
      let p = and_parts (rd == 17 && rs1 == 0 && nat_le 1 (extended z)) (nat_le (extended z) 3) h in
      let q = and_parts (rd == 17 && rs1 == 0) (nat_le 1 (extended z)) p.0 in
      let r = and_parts (rd == 17) (rs1 == 0) q.0 in
      let to : rd ≡ 17 = eqb-true rd 17 r.0 in
      let from : rs1 ≡ 0 = eqb-true rs1 0 r.1 in
      let v : IsService (extended z) = one_of_three (extended z) q.1 p.1 in
      let zero : integer m rs1 ≡ 0 = ap (λ r. integer m r) from ∙ null_address 0 in
      let is : result_of Add (integer m rs1) (extended z) ≡ extended z =
      ap (λ a. result_of Add a (extended z)) zero ∙ sum_is (extended z) v in
      let c = null_at (result_of Add (integer m rs1) (extended z)) in
      let at : integer (with_register m rd c) 17 ≡ extended z =
      ap (λ r. integer (with_register m r c) 17) to
      ∙ ap (λ (d : Cap). d.fields.address) (written_17 m c has.registers.count)
      ∙ null_address (result_of Add (integer m rs1) (extended z)) ∙ is in
      subst IsService (sym at) v

  pub imm_kept : (op : ImmOp) (rd rs1 : ℕ) (z : ℤ) → Stands t (counter m) (Imm op rd rs1 z) →
      Keeps t (act_of (imm_row m op rd rs1 z))
  unfolding imm_row
  imm_kept Addi rd rs1 z s =
      elim (cases_Bool (sets_service (Imm Addi rd rs1 z))) as
      (λ _. IsContained t (next (with_register m rd (null_at (result_of Add (integer m rs1) (extended z)))))) [
        | inl sets ↦ written_kept (Imm Addi rd rs1 z) s refl rd (null_at (result_of Add (integer m rs1) (extended z)))
            (null_confined t (result_of Add (integer m rs1) (extended z))
            (result_below Add (integer m rs1) (extended z)))
            (λ _. number_set rd rs1 z sets)
        | inr none ↦ set_integer_kept (Imm Addi rd rs1 z) s refl none rd (result_of Add (integer m rs1) (extended z))
            (result_below Add (integer m rs1) (extended z))
      ]
  imm_kept op rd rs1 z s = set_integer_kept (Imm op rd rs1 z) s refl refl rd
      (result_of (immediate_op op) (integer m rs1) (extended z))
      (result_below (immediate_op op) (integer m rs1) (extended z))

  -- ---- branches and jumps

  pub branch_kept : (op : BranchOp) (rs1 rs2 : ℕ) (z : ℤ) → Stands t (counter m) (Branch op rs1 rs2 z) →
      Keeps t (act_of (branch_row m op rs1 rs2 z))
  unfolding branch_row
  branch_kept op rs1 rs2 z s = by (is_taken op (integer m rs1) (integer m rs2))
    where
      by : (b : Bool) → IsContained t (record m { pc = added m.pc (if b then extended z else 4) })
      by true =
          let i = Branch op rs1 rs2 z in
          let to = text.targets (counter m) (plus (counter m) z) i s refl in
          let at = moved_address m.pc (plus (counter m) z) in
          record {
            pc = moved_counter t m.pc (plus (counter m) z) well has.pc to;
            lies = well;
            registers = same_registers t m (record m { pc = added m.pc (extended z) }) refl has.registers;
            memory = has.memory;
            service = λ call. absurd (text.no_target (counter m) (plus (counter m) z) i s refl
                (subst (λ x. Stands t x Ecall) at call));
          }
      by false = next_kept (Branch op rs1 rs2 z) s refl m refl has.registers has.memory
          (λ call. absurd (no_call_behind t well text (counter m) (Branch op rs1 rs2 z) s refl call))

  jump_kept : (i : Instr) → Stands t (counter m) i → (rd : ℕ) (c : Cap) (at : ℕ) →
      (nat_eq rd 0 ≡ false → links i ≡ true) → IsCounter t (moved c at) → (Stands t at Ecall → ⊥)
      → IsContained t (record (with_register m rd (link m)) { pc = moved c at })
  jump_kept i s rd c at linked k no_call = record {
    pc = k;
    lies = well;
    registers = same_registers t (with_register m rd (link m))
        (record (with_register m rd (link m)) { pc = moved c at }) refl
        (with_register_has t m rd (link m) (λ e. link_confined t well text m.pc i has.pc s (linked e)) has.registers);
    memory = subst (λ mem. IsContainedMemory t mem) (sym (with_register-mem m rd (link m))) has.memory;
    service = λ call. absurd (no_call (subst (λ x. Stands t x Ecall) (moved_address c at) call));
  }

  pub cjal_kept : (rd : ℕ) (z : ℤ) → Stands t (counter m) (Cjal rd z) → Keeps t (act_of (cjal_row m rd z))
  unfolding cjal_row
  cjal_kept rd z s =
      let to = plus (counter m) z in
      jump_kept (Cjal rd z) s rd m.pc to (λ e. not_from_false (nat_eq rd 0) e)
      (moved_counter t m.pc to well has.pc (text.targets (counter m) to (Cjal rd z) s refl))
      (text.no_target (counter m) to (Cjal rd z) s refl)

  pub cjalr_kept : (rd rs1 : ℕ) (z : ℤ) → Stands t (counter m) (Cjalr rd rs1 z) →
      Keeps t (act_of (cjalr_row m rd rs1 z))
  unfolding cjalr_row
  cjalr_kept rd rs1 z s = by (checked (entered (register m rs1) z)
      (plus (entered (register m rs1) z).fields.address z) access.Jump) refl
    where
      by : (r : Result ℕ Cause) →
          checked (entered (register m rs1) z) (plus (entered (register m rs1) z).fields.address z) access.Jump ≡ r →
          Keeps t (act_of (cjalr_checked m rd (entered (register m rs1) z) r))
      by (Err e) is = tt
      by (Ok at) is =
          let to = entered_text t well text (register m rs1) z at (held rs1) is in
          jump_kept (Cjalr rd rs1 z) s rd (entered (register m rs1) z) at
          (λ e. not_from_false (nat_eq rd 0) e) to.counter to.no_call

  -- ---- memory

  pub load_kept : (op : LoadOp) (rd rs1 : ℕ) (z : ℤ) → Stands t (counter m) (Load op rd rs1 z) →
      Keeps t (act_of (load_row m op rd rs1 z))
  unfolding load_row
  load_kept op rd rs1 z s =
      by (checked (register m rs1) (plus (register m rs1).fields.address z) (access.Load (loaded_bytes op)))
    where
      from : (o : Option ℕ) → Keeps t (act_of (loaded m op rd o))
      from None = tt
      from (Some v) = set_integer_kept (Load op rd rs1 z) s refl refl rd (wrapped (loaded_kind op) (pos v))
          (wrapped-below (loaded_kind op) (pos v))

      by : (r : Result ℕ Cause) → Keeps t (act_of (load_checked m op rd r))
      by (Err e) = tt
      by (Ok at) = from (number_at m.mem at (loaded_bytes op))

  pub clc_kept : (rd rs1 : ℕ) (z : ℤ) → Stands t (counter m) (Clc rd rs1 z) → Keeps t (act_of (clc_row m rd rs1 z))
  unfolding clc_row
  clc_kept rd rs1 z s = by (checked (register m rs1) (plus (register m rs1).fields.address z) access.LoadCap) refl
    where
      from : (at : ℕ) → at % 16 ≡ 0 → (o : Option (ℕ × Bool)) → capability_at m.mem at ≡ o →
          Keeps t (act_of (cap_loaded m rd (register m rs1) o))
      from at even None is = tt
      from at even (Some v) is =
          let c : Cap = record {
            tag = v.1 && permits (register m rs1).fields.perms LOAD_CAPABILITY;
            fields = from_memory v.0;
          } in
          let new : IsConfined t c = record {
            address = address_below v.0;
            tagged = λ tag.
                let kept = (and_parts v.1 (permits (register m rs1).fields.perms LOAD_CAPABILITY) tag).0 in
                subst (λ b. IsTextSentry t (record { tag = b; fields = from_memory v.0 }) ⊎
                IsApart t (record { tag = b; fields = from_memory v.0 })) (sym tag)
                ((has.memory.held at v.0 even (is ∙ ap (λ (b : Bool). Some (v.0, b)) kept)).tagged refl);
          } in
          set_kept (Clc rd rs1 z) s refl refl rd c new

      by : (r : Result ℕ Cause) → checked (register m rs1) (plus (register m rs1).fields.address z) access.LoadCap ≡ r →
          Keeps t (act_of (clc_checked m rd (register m rs1) r))
      by (Err e) is = tt
      by (Ok at) is = from at (accesses t (register m rs1) (plus (register m rs1).fields.address z) at access.LoadCap
          (omega arith) (held rs1) is).aligned (capability_at m.mem at) refl

  -- a store, by what it does where it passes
  module _ (i : Instr) (s : Stands t (counter m) i) (stays : is_plain_jump i ≡ false) (none : sets_service i ≡ false)
      (n v : ℕ) (tag : Bool) where
    store_by : (at : ℕ) (b : Bool) → is_inside m.mem at ≡ b →
        (is_inside m.mem at ≡ true → IsContainedMemory t (written m.mem at (little_bytes n v) tag)) →
        Keeps t (act_of (stored m at n v tag b))
    store_by at true is new = stored_kept i s stays none (written m.mem at (little_bytes n v) tag) (new is)
    store_by at false is new = tt

    store_checked_kept : (r : Result ℕ Cause) →
        ((at : ℕ) → r ≡ Ok at → is_inside m.mem at ≡ true →
        IsContainedMemory t (written m.mem at (little_bytes n v) tag)) → Keeps t (act_of (store_checked m n v tag r))
    store_checked_kept (Err e) new = tt
    store_checked_kept (Ok at) new = store_by at (is_inside m.mem at) refl (new at refl)

  bytes_kept : (i : Instr) → Stands t (counter m) i → is_plain_jump i ≡ false → sets_service i ≡ false →
      (n v rs1 : ℕ) (z : ℤ) → 0 < n → ((at : ℕ) → at % n ≡ 0 → at % 16 + n ≤ 16)
      → Keeps t (act_of (store_checked m n v false
      (checked (register m rs1) (plus (register m rs1).fields.address z) (access.Store n))))
  bytes_kept i s stays none n v rs1 z some granule =
      store_checked_kept i s stays none n v false
      (checked (register m rs1) (plus (register m rs1).fields.address z) (access.Store n)) (λ at is inside.
      let a = accesses t (register m rs1) (plus (register m rs1).fields.address z) at (access.Store n) some
      (held rs1) is in
      bytes_has t well m.mem has.memory at n v inside (granule at a.aligned) some a.apart)

  pub store_kept : (op : StoreOp) (rs2 rs1 : ℕ) (z : ℤ) → Stands t (counter m) (Store op rs2 rs1 z) →
      Keeps t (act_of (store_row m op rs2 rs1 z))
  unfolding store_row
  store_kept Csc rs2 rs1 z s =
      let v = register m rs2 in
      store_checked_kept (Store Csc rs2 rs1 z) s refl refl 16 (memory_bits v.fields) v.tag
      (checked (register m rs1) (plus (register m rs1).fields.address z) (access.StoreCap v.tag)) (λ at is inside.
      let a = accesses t (register m rs1) (plus (register m rs1).fields.address z) at (access.StoreCap v.tag)
      (omega arith) (held rs1) is in
      capability_has t well m.mem has.memory at v inside a.aligned a.apart (held rs2))
  store_kept Sb rs2 rs1 z s =
      bytes_kept (Store Sb rs2 rs1 z) s refl refl 1 (integer m rs2) rs1 z (omega arith) (λ at h. omega arith)
  store_kept Sh rs2 rs1 z s =
      bytes_kept (Store Sh rs2 rs1 z) s refl refl 2 (integer m rs2) rs1 z (omega arith) (λ at h. omega arith)
  store_kept Sw rs2 rs1 z s =
      bytes_kept (Store Sw rs2 rs1 z) s refl refl 4 (integer m rs2) rs1 z (omega arith) (λ at h. omega arith)
  store_kept Sd rs2 rs1 z s =
      bytes_kept (Store Sd rs2 rs1 z) s refl refl 8 (integer m rs2) rs1 z (omega arith) (λ at h. omega arith)

  -- ---- capabilities

  pub cap_imm_kept : (op : CapImmOp) (rd rs1 : ℕ) (z : ℤ) → Stands t (counter m) (CapImm op rd rs1 z) →
      Keeps t (act_of (cap_imm_row m op rd rs1 z))
  unfolding cap_imm_row
  cap_imm_kept Cincoffsetimm rd rs1 z s =
      set_kept (CapImm Cincoffsetimm rd rs1 z) s refl refl rd (added (register m rs1) (extended z))
      (added_confined t (register m rs1) (extended z) (held rs1))
  cap_imm_kept Csetboundsimm rd rs1 z s =
      set_kept (CapImm Csetboundsimm rd rs1 z) s refl refl rd (narrowed (register m rs1) (extended z))
      (narrowed_confined t (register m rs1) (extended z) (held rs1))

  pub cap_reg_kept : (op : CapRegOp) (rd rs1 rs2 : ℕ) → Stands t (counter m) (CapReg op rd rs1 rs2) →
      Keeps t (act_of (cap_reg_row m op rd rs1 rs2))
  unfolding cap_reg_row
  cap_reg_kept Csetbounds rd rs1 rs2 s =
      set_kept (CapReg Csetbounds rd rs1 rs2) s refl refl rd (narrowed (register m rs1) (integer m rs2))
      (narrowed_confined t (register m rs1) (integer m rs2) (held rs1))
  cap_reg_kept Csetboundsexact rd rs1 rs2 s =
      set_kept (CapReg Csetboundsexact rd rs1 rs2) s refl refl rd (narrowed_exactly (register m rs1) (integer m rs2))
      (narrowed_exactly_confined t (register m rs1) (integer m rs2) (held rs1))
  cap_reg_kept Candperm rd rs1 rs2 s =
      set_kept (CapReg Candperm rd rs1 rs2) s refl refl rd (masked (register m rs1) (integer m rs2 % 2 ^ 12))
      (masked_confined t (register m rs1) (integer m rs2 % 2 ^ 12) (held rs1))
  cap_reg_kept Csetaddr rd rs1 rs2 s =
      set_kept (CapReg Csetaddr rd rs1 rs2) s refl refl rd (moved (register m rs1) (integer m rs2))
      (moved_confined t (register m rs1) (integer m rs2) (held rs1) (word_is rs2))
  cap_reg_kept Cincoffset rd rs1 rs2 s =
      set_kept (CapReg Cincoffset rd rs1 rs2) s refl refl rd (added (register m rs1) (integer m rs2))
      (added_confined t (register m rs1) (integer m rs2) (held rs1))
  cap_reg_kept Csetequalexact rd rs1 rs2 s =
      set_integer_kept (CapReg Csetequalexact rd rs1 rs2) s refl refl rd
      (one_where (same (register m rs1) (register m rs2))) (one_below (same (register m rs1) (register m rs2)))

  pub cap_get_kept : (op : CapGetOp) (rd rs1 : ℕ) → Stands t (counter m) (CapGet op rd rs1) →
      is_allowed (CapGet op rd rs1) ≡ true → Keeps t (act_of (cap_get_row m op rd rs1))
  unfolding cap_get_row
  cap_get_kept Cgetperm rd rs1 s allowed =
      set_integer_kept (CapGet Cgetperm rd rs1) s refl refl rd (register m rs1).fields.perms
      (let h = (register m rs1).fields.perms_in_range in omega arith)
  cap_get_kept Cgetbase rd rs1 s allowed =
      set_integer_kept (CapGet Cgetbase rd rs1) s refl refl rd (base (register m rs1)) (base_below (register m rs1))
  cap_get_kept Cgetlen rd rs1 s allowed =
      set_integer_kept (CapGet Cgetlen rd rs1) s refl refl rd (length_of (register m rs1))
      (length_below (register m rs1))
  cap_get_kept Cgettag rd rs1 s allowed =
      set_integer_kept (CapGet Cgettag rd rs1) s refl refl rd (one_where (register m rs1).tag)
      (one_below (register m rs1).tag)
  cap_get_kept Cgetoffset rd rs1 s allowed =
      set_integer_kept (CapGet Cgetoffset rd rs1) s refl refl rd
      ((integer m rs1 + (2 ^ 64 - base (register m rs1))) % 2 ^ 64) (omega arith)
  cap_get_kept Crrl rd rs1 s allowed =
      set_integer_kept (CapGet Crrl rd rs1) s refl refl rd (owned (integer m rs1) % 2 ^ 64) (omega arith)
  cap_get_kept Cram rd rs1 s allowed =
      set_integer_kept (CapGet Cram rd rs1) s refl refl rd (2 ^ 64 - alignment (integer m rs1))
      (mask_below (integer m rs1))
  cap_get_kept Cmove rd rs1 s allowed = set_kept (CapGet Cmove rd rs1) s refl refl rd (register m rs1) (held rs1)
  cap_get_kept Ccleartag rd rs1 s allowed =
      set_kept (CapGet Ccleartag rd rs1) s refl refl rd (cleared (register m rs1))
      (cleared_confined t (register m rs1) (held rs1))
  cap_get_kept Cgetaddr rd rs1 s allowed =
      set_integer_kept (CapGet Cgetaddr rd rs1) s refl refl rd (integer m rs1) (word_is rs1)
  cap_get_kept Csealentry rd rs1 s allowed = absurd (false≢true allowed)
