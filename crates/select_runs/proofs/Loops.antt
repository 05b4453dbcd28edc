-- The ends of loops: a register counts down, another goes on, and a branch leads back until the count is zero.
use Rattle.std.proofs.Common.{◌≡◌, ℕ, suc, ◌+◌, ◌%◌, ◌^◌, ◌<◌, ◌≤◌, ℤ, negsuc, not, List}
use Rattle.std.proofs.Common.{length, Some, refl, ap, ◌∙◌, arith, if◌then◌else◌}
use Rattle.std.specs.Prelude.{slice_get, ◌==◌}
use Rattle.std.proofs.lemmas.Bool.{ne_eqb}
use Rattle.std.proofs.lemmas.Option.{slice_get_within}
use Rattle.ck_base.specs.Runs.{Goes}
use Rattle.ck_int.specs.declared.kinds.IntKind.TheVariants as int
use Rattle.ck_int.specs.Kinds.{kept_of}
use Rattle.ck_int.proofs.OperationLaws.{IsKept-64, compare_of-Eq_kept, compare_of-Ne}
use Rattle.cap_ops.specs.declared.capability.Cap.{Cap}
use Rattle.cap_ops.specs.Capability.{added, null_at}
use Rattle.rv_instr.specs.declared.instr.Instr.{Instr}
use Rattle.rv_instr.specs.declared.instr.Instr.TheVariants.{Branch, CapImm, Imm}
use Rattle.rv_instr.specs.declared.ops.BranchOp.TheVariants.{Bne}
use Rattle.rv_instr.specs.declared.ops.CapImmOp.TheVariants.{Cincoffsetimm}
use Rattle.rv_instr.specs.declared.ops.ImmOp.TheVariants.{Addi}
use Rattle.rv_instr.specs.declared.ops.RegOp.TheVariants.{Add}
use Rattle.cap_machine.specs.declared.machine.Machine.{Machine}
use Rattle.cap_machine.specs.declared.end.Step.TheVariants.{Next}
use Rattle.cap_machine.specs.Integers.{extended, is_taken, result_of}
use Rattle.cap_machine.specs.Rows.{row, branch_row, cap_imm_row, imm_row, set, set_integer}
use Rattle.cap_machine.specs.State.{register, integer}
use Rattle.cap_machine.specs.Step.{act}
use Rattle.place_inject.specs.Frames.{Setting}
use Rattle.select_runs.specs.Acts.{Ground, Holds, IsThere, place}
use Rattle.select_runs.specs.Operands.{ground_of, IsText}
use Rattle.select_runs.proofs.Acts.{one_set}
use Rattle.select_runs.proofs.Jumps.{hops, landed, zero_kept}
use Rattle.select_runs.proofs.Numbers.{null_address, add_is}
use Rattle.select_runs.proofs.Points.{laid}

minus_one : extended (negsuc 0) ≡ 18446744073709551615
unfolding kept_of
minus_one = refl

less_one : (k : ℕ) → suc k < 2 ^ 64 → (suc k + extended (negsuc 0)) % 2 ^ 64 ≡ k
less_one k small = ap (λ e. (suc k + e) % 2 ^ 64) minus_one ∙ omega arith

taken : (k : ℕ) → k < 2 ^ 64 → is_taken Bne k 0 ≡ not (k == 0)
unfolding is_taken
taken k small =
    compare_of-Ne int.I64 k 0 ∙ ap not (compare_of-Eq_kept int.I64 k 0 (IsKept-64 int.I64 k refl small)
    (zero_kept int.I64))

module _ (s : Setting) (code : List Instr) (x : IsText s code) where
  abbrev g : Ground
  g = ground_of s code

  pub counts_down : (n : Machine) (at r k : ℕ) → IsThere g n at → slice_get code at ≡ Some (Imm Addi r r (negsuc 0))
      → 0 < r → r < 32 → suc k < 2 ^ 64 → register n r ≡ null_at (suc k) → Holds g n 1 (at + 1) r r (null_at k)
  unfolding row imm_row
  counts_down n at r k h has some below small holds =
      one_set g (laid s code x) n at h (Imm Addi r r (negsuc 0)) r (null_at k) has refl some below
      (ap (λ (c : Cap). set_integer n r (result_of Add c.fields.address (extended (negsuc 0)))) holds
      ∙ ap (λ q. set_integer n r (result_of Add q (extended (negsuc 0)))) (null_address (suc k))
      ∙ ap (set_integer n r) (add_is (suc k) (extended (negsuc 0)) ∙ less_one k small))

  -- a capability moves
  pub moves_by : (n : Machine) (at r : ℕ) (z : ℤ) (c d : Cap) → IsThere g n at
      → slice_get code at ≡ Some (CapImm Cincoffsetimm r r z) → 0 < r → r < 32 → register n r ≡ c
      → added c (extended z) ≡ d → Holds g n 1 (at + 1) r r d
  unfolding row cap_imm_row
  moves_by n at r z c d h has some below holds is =
      one_set g (laid s code x) n at h (CapImm Cincoffsetimm r r z) r d has refl some below
      (ap (λ y. set n r (added y (extended z))) holds ∙ ap (set n r) is)

  branches : (n : Machine) (r k : ℕ) (z : ℤ) → k < 2 ^ 64 → register n r ≡ null_at k → row n (Branch Bne r 0 z)
      ≡ (Next, record n { pc = added n.pc (if not (k == 0) then extended z else 4) })
  unfolding row branch_row
  branches n r k z small holds =
      ap (λ (c : Cap). (
        Next,
        record n {
          pc = added n.pc (if is_taken Bne c.fields.address (integer n 0) then extended z else 4);
        },
      )) holds
      ∙ ap (λ q. (Next, record n { pc = added n.pc (if is_taken Bne q (integer n 0) then extended z else 4) }))
      (null_address k)
      ∙ ap (λ q. (Next, record n { pc = added n.pc (if is_taken Bne k q then extended z else 4) })) (null_address 0)
      ∙ ap (λ b. (Next, record n { pc = added n.pc (if b then extended z else 4) })) (taken k small)

  pub goes_back : (n : Machine) (at back r k : ℕ) (z : ℤ) → IsThere g n at
      → slice_get code at ≡ Some (Branch Bne r 0 z) → suc k < 2 ^ 64 → register n r ≡ null_at (suc k)
      → back ≤ length code → (place g at + extended z) % 2 ^ 64 ≡ place g back
      → act n ≡ Goes (landed s code x n back)
  goes_back n at back r k z h has small holds inside sum =
      hops s code x n at back (extended z) (Branch Bne r 0 z) h has refl
      (branches n r (suc k) z small holds
      ∙ ap (λ b. (Next, record n { pc = added n.pc (if not b then extended z else 4) })) (ne_eqb (suc k) 0
      (omega arith)))
      inside sum

  pub goes_past : (n : Machine) (at r : ℕ) (z : ℤ) → IsThere g n at → slice_get code at ≡ Some (Branch Bne r 0 z)
      → register n r ≡ null_at 0 → act n ≡ Goes (landed s code x n (at + 1))
  goes_past n at r z h has holds =
      let inside = slice_get_within code at (Branch Bne r 0 z) has in
      let room = x.room in
      let top = x.legal.in_range.1 in
      hops s code x n at (at + 1) 4 (Branch Bne r 0 z) h has refl (branches n r 0 z (omega arith) holds)
      (omega arith) (omega (arith, inside, room, top))
