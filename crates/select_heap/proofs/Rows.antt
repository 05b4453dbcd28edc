-- The heap's capability, and the rows of the words that take an object from the heap.
use Rattle.std.proofs.Common.{◌≡◌, ℕ, ◌+◌, ◌-◌, ◌%◌, ◌^◌, ◌≤◌, ℤ, Bool, true, min}
use Rattle.std.proofs.Common.{ap, ◌∙◌, arith, inl, inr, if◌then◌else◌}
use Rattle.std.proofs.lemmas.Bool.{cases_lt, le-ltb}
use Rattle.cap_concentrate.specs.Rounding.{Encodable, owned, alignment}
use Rattle.cap_concentrate.proofs.Encoded.{encoded_decodes}
use Rattle.cap_ops.specs.declared.capability.Cap.{Cap}
use Rattle.cap_ops.specs.Capability.{base, top, moved, added, narrowed_exactly, null_at}
use Rattle.cap_ops.specs.Permissions.{data_permissions}
use Rattle.cap_ops.proofs.Laws.{bounded_moved}
use Rattle.rv_instr.specs.declared.instr.Instr.TheVariants.{CapGet, CapReg, Branch, Imm, Op}
use Rattle.rv_instr.specs.declared.ops.BranchOp.TheVariants.{Bltu}
use Rattle.rv_instr.specs.declared.ops.CapGetOp.TheVariants.{Cgetlen, Cgetbase, Crrl, Cram}
use Rattle.rv_instr.specs.declared.ops.CapRegOp.TheVariants.{Csetaddr, Csetboundsexact}
use Rattle.rv_instr.specs.declared.ops.ImmOp.{ImmOp}
use Rattle.rv_instr.specs.declared.ops.RegOp.{RegOp}
use Rattle.cap_machine.specs.declared.machine.Machine.{Machine}
use Rattle.cap_machine.specs.declared.end.Step.TheVariants.{Next}
use Rattle.cap_machine.specs.Integers.{extended, immediate_op, is_taken, result_of}
use Rattle.cap_machine.specs.Rows.{row, op_row, imm_row, cap_get_row, cap_reg_row, branch_row, set, set_integer}
use Rattle.cap_machine.specs.Rows.{length_of}
use Rattle.cap_machine.specs.State.{register, integer}
use Rattle.obj_mem.specs.Legal.{IsLegal}
use Rattle.obj_mem.specs.Pointers.{keeps}
use Rattle.obj_mem.specs.Table.{addresses_of}
use Rattle.place_inject.specs.Frames.{Setting}
use Rattle.place_inject.specs.Parts.{heap_pointer}
use Rattle.place_inject.proofs.Growing.{keeps_by}
use Rattle.place_inject.proofs.Reaching.{kept_bounds, keeps_near}
use Rattle.place_inject.proofs.ReadBack.{address_of}

-- ---- the heap's capability

abbrev pub heap_end : Setting → ℕ
heap_end s = s.map.heap.0 + s.map.heap.1

module _ (s : Setting) (legal : IsLegal s.needs s.map) where
  pub heap_encodable : Encodable s.map.heap.0 (heap_end s)
  heap_encodable =
      let below = legal.in_range.2.2.1 in
      let long = legal.heap_length in
      let start = legal.heap_base in
      let most = legal.heap_most in
      elim (cases_lt s.map.heap.1 67108864) as (λ _. Encodable s.map.heap.0 (heap_end s)) [
        | inl less ↦ record {
          ordered = omega arith;
          within = omega arith;
          form = inr (
            13,
            record {
              within = omega arith;
              base_multiple = start;
              top_multiple = omega arith;
              short = omega arith;
            },
          );
        }
        | inr more ↦
            let wide = legal.large_heap (omega arith) in
            record {
              ordered = omega arith;
              within = omega arith;
              form = inr (
                14,
                record {
                  within = omega arith;
                  base_multiple = wide;
                  top_multiple = omega arith;
                  short = omega arith;
                },
              );
            }
      ]

  pub heap_keeps : (y : ℕ) → s.map.heap.0 ≤ y → y ≤ heap_end s → keeps s.map.heap.0 (heap_end s) y ≡ true
  heap_keeps y from to =
      let start = legal.in_range.2.2.0 in
      let end = legal.in_range.2.2.1 in
      let ordered : s.map.heap.0 ≤ heap_end s = omega arith in
      let here = encoded_decodes s.map.heap.0 (heap_end s) s.map.heap.0 heap_encodable (omega arith) (omega arith)
      ordered in
      keeps_near s.map.heap.0 (heap_end s) s.map.heap.0 y (keeps_by s.map.heap.0 (heap_end s) s.map.heap.0 here) start
      ordered end from (omega arith)

  module _ (y : ℕ) (from : s.map.heap.0 ≤ y) (to : y ≤ heap_end s) where
    abbrev c : Cap
    c = heap_pointer (addresses_of s.map) y

    bounds : (base c ≡ s.map.heap.0) × (top c ≡ heap_end s)
    bounds = kept_bounds s.map.heap.0 (heap_end s) data_permissions y (heap_keeps y from to)

    pub heap_base : base c ≡ s.map.heap.0
    heap_base = bounds.0

    pub heap_address : c.fields.address ≡ y
    heap_address = address_of s.map.heap.0 (heap_end s) y

    pub heap_long : length_of c ≡ s.map.heap.1
    heap_long =
        let b = bounds.0 in
        let e = bounds.1 in
        let less = legal.heap_most in
        ap (λ v. if v then 2 ^ 64 - 1 else min (top c - base c) (2 ^ 64 - 1))
        (le-ltb (top c) (base c) (omega (arith, b, e))) ∙ omega (arith, b, e, less)

    pub heap_moved : (z : ℕ) → s.map.heap.0 ≤ z → z ≤ heap_end s → moved c z ≡ heap_pointer (addresses_of s.map) z
    heap_moved z low high =
        let there = kept_bounds s.map.heap.0 (heap_end s) data_permissions z (heap_keeps z low high) in
        bounded_moved s.map.heap.0 (heap_end s) data_permissions y z bounds.0 bounds.1 there.0 there.1

-- ---- rows

module _ (u : Machine) where
  pub op_does : (o : RegOp) (r a b x y v : ℕ) → integer u a ≡ x → integer u b ≡ y → result_of o x y ≡ v
      → row u (Op o r a b) ≡ set u r (null_at v)
  unfolding row op_row
  op_does o r a b x y v e f g =
      ap (λ q. set_integer u r (result_of o q (integer u b))) e ∙ ap (λ q. set_integer u r (result_of o x q)) f
      ∙ ap (set_integer u r) g

  pub imm_does : (o : ImmOp) (r a : ℕ) (z : ℤ) (x y v : ℕ) → integer u a ≡ x → extended z ≡ y
      → result_of (immediate_op o) x y ≡ v → row u (Imm o r a z) ≡ set u r (null_at v)
  unfolding row imm_row
  imm_does o r a z x y v e f g =
      ap (λ q. set_integer u r (result_of (immediate_op o) q (extended z))) e
      ∙ ap (λ q. set_integer u r (result_of (immediate_op o) x q)) f ∙ ap (set_integer u r) g

  pub length_does : (r a : ℕ) (c : Cap) (v : ℕ) → register u a ≡ c → length_of c ≡ v
      → row u (CapGet Cgetlen r a) ≡ set u r (null_at v)
  unfolding row cap_get_row
  length_does r a c v e f = ap (λ d. set_integer u r (length_of d)) e ∙ ap (set_integer u r) f

  pub base_does : (r a : ℕ) (c : Cap) (v : ℕ) → register u a ≡ c → base c ≡ v
      → row u (CapGet Cgetbase r a) ≡ set u r (null_at v)
  unfolding row cap_get_row
  base_does r a c v e f = ap (λ d. set_integer u r (base d)) e ∙ ap (set_integer u r) f

  pub owned_does : (r a x v : ℕ) → integer u a ≡ x → owned x % 2 ^ 64 ≡ v
      → row u (CapGet Crrl r a) ≡ set u r (null_at v)
  unfolding row cap_get_row
  owned_does r a x v e f = ap (λ q. set_integer u r (owned q % 2 ^ 64)) e ∙ ap (set_integer u r) f

  pub mask_does : (r a x : ℕ) → integer u a ≡ x → row u (CapGet Cram r a) ≡ set u r (null_at (2 ^ 64 - alignment x))
  unfolding row cap_get_row
  mask_does r a x e = ap (λ q. set_integer u r (2 ^ 64 - alignment q)) e

  pub moved_does : (r a b : ℕ) (c d : Cap) (y : ℕ) → register u a ≡ c → integer u b ≡ y → moved c y ≡ d
      → row u (CapReg Csetaddr r a b) ≡ set u r d
  unfolding row cap_reg_row
  moved_does r a b c d y e f g =
      ap (λ q. set u r (moved q (integer u b))) e ∙ ap (λ q. set u r (moved c q)) f ∙ ap (set u r) g

  pub narrowed_does : (r a b : ℕ) (c d : Cap) (y : ℕ) → register u a ≡ c → integer u b ≡ y
      → narrowed_exactly c y ≡ d → row u (CapReg Csetboundsexact r a b) ≡ set u r d
  unfolding row cap_reg_row
  narrowed_does r a b c d y e f g =
      ap (λ q. set u r (narrowed_exactly q (integer u b))) e ∙ ap (λ q. set u r (narrowed_exactly c q)) f
      ∙ ap (set u r) g

  pub branch_does : (r q : ℕ) (z : ℤ) (x y : ℕ) (b : Bool) → integer u r ≡ x → integer u q ≡ y → is_taken Bltu x y ≡ b
      → row u (Branch Bltu r q z) ≡ (Next, record u { pc = added u.pc (if b then extended z else 4) })
  unfolding row branch_row
  branch_does r q z x y b e f g =
      ap (λ k. (Next, record u { pc = added u.pc (if is_taken Bltu k (integer u q) then extended z else 4) })) e
      ∙ ap (λ k. (Next, record u { pc = added u.pc (if is_taken Bltu x k then extended z else 4) })) f
      ∙ ap (λ k. (Next, record u { pc = added u.pc (if k then extended z else 4) })) g
