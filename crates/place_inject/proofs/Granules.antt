-- Granules of the stack become zero, one after another.
use Rattle.std.proofs.Common.{◌≡◌, ℕ, ◌+◌, ◌-◌, ◌*◌, ◌/◌, ◌%◌, ◌^◌, ◌≤◌, ℤ, true, false, List, refl, sym, ap}
use Rattle.std.proofs.Common.{◌∙◌, subst, arith, Some, inl, inr}
use Rattle.std.proofs.Math.Nat.{zero-div}
use Rattle.std.proofs.lemmas.Bool.{cases_lt}
use Rattle.cap_concentrate.specs.Packing.{bits_of, fields_of}
use Rattle.cap_ops.specs.declared.access.Access.TheVariants as A
use Rattle.cap_ops.specs.declared.capability.Cap.{Cap}
use Rattle.cap_ops.specs.Access.{checked}
use Rattle.cap_ops.specs.Capability.{null_at}
use Rattle.rv_instr.specs.declared.ops.StoreOp.TheVariants.{Csc}
use Rattle.tag_mem.specs.Areas.{Area, IsMemory, is_inside, byte_at, tag_at}
use Rattle.tag_mem.specs.Memory.{written}
use Rattle.tag_mem.specs.Numbers.{little_bytes}
use Rattle.cap_machine.specs.declared.machine.Machine.{Machine}
use Rattle.cap_machine.specs.declared.end.Step.TheVariants.{Next}
use Rattle.cap_machine.specs.State.{register, next}
use Rattle.cap_machine.specs.Rows.{plus, store_row, store_checked, stored, memory_bits}
use Rattle.obj_mem.specs.Legal.{IsLegal}
use Rattle.obj_mem.specs.Pointers.{keeps}
use Rattle.place_inject.specs.Changes.{Zeroed}
use Rattle.place_inject.specs.Frames.{Setting, stack_top, stack_pointer}
use Rattle.place_inject.specs.Spills.{StackIsThere}
use Rattle.place_inject.specs.Zeroing.{GranulesAreZeroed}
use Rattle.place_inject.proofs.ReadBack.{address_of}
use Rattle.place_inject.proofs.Spilling.{stack_stores}
use Rattle.place_inject.proofs.Wrote.{Wrote, wrote}

-- ---- one granule

-- null is all zeros in memory, and has no tag
null_zero : memory_bits (null_at 0).fields ≡ 0
unfolding null_at bits_of fields_of
null_zero = refl

null_untagged : (null_at 0).tag ≡ false
unfolding null_at
null_untagged = refl

zero_part : (k : ℕ) → 0 / 256 ^ k % 256 ≡ 0
zero_part k = ap (λ v. v % 256) (zero-div (256 ^ k))

module _ (s : Setting) (legal : IsLegal s.needs s.map) (stack : StackIsThere s) (n : Machine) (areas : IsMemory n.mem)
    (places : (x : ℕ) → is_inside n.mem x ≡ is_inside s.loaded.mem x) (at : ℕ) (aligned : at % 16 ≡ 0)
    (low : s.map.stack.0 ≤ at) (high : at + 16 ≤ stack_top s) where
  abbrev null : Cap
  null = null_at 0

  abbrev new : List Area
  new = written n.mem at (little_bytes 16 (memory_bits null.fields)) null.tag

  inside : is_inside n.mem at ≡ true
  inside = places at ∙ stack at low (omega arith)

  w : Wrote n.mem new at 16 0 false
  w = subst (λ v. Wrote n.mem new at 16 v false) null_zero
      (subst (Wrote n.mem new at 16 (memory_bits null.fields)) null_untagged
      (wrote n.mem at 16 (memory_bits null.fields) null.tag areas inside (omega arith) (omega arith)))

  granule : Zeroed at 1 n.mem new
  granule = record {
    areas = w.areas;
    bytes = λ i l. w.inside i (omega arith) ∙ ap (λ v. Some v) (zero_part i);
    tags = λ i l. w.tagged (at + i) (omega arith);
    same = record {
      bytes = λ x off. w.outside x (λ from. let q = off from in omega arith);
      tags = λ x off. w.others x (λ e. let q = off at (sym e) (omega arith) in absurd (omega (arith, q)));
      places = w.places;
    };
  }

  stores : (base y : ℕ) (z : ℤ) → register n base ≡ stack_pointer s y → keeps s.map.stack.0 (stack_top s) y ≡ true
      → plus y z ≡ at → store_row n Csc 0 base z ≡ (Next, next (record n { mem = new }))
  unfolding store_row
  stores base y z holds keep sum =
      let d : Cap = stack_pointer s y in
      let address : plus d.fields.address z ≡ at =
      ap (λ x. plus x z) (address_of s.map.stack.0 (stack_top s) y) ∙ sum in
      let check = stack_stores s.map.stack.0 (stack_top s) y at null.tag keep low high aligned in
      rw holds (ap (λ x. store_checked n 16 (memory_bits null.fields) null.tag (checked d x (A.StoreCap null.tag)))
      address
      ∙ ap (store_checked n 16 (memory_bits null.fields) null.tag) check
      ∙ ap (stored n at 16 (memory_bits null.fields) null.tag) inside)

pub granules_are_zeroed_law : GranulesAreZeroed
granules_are_zeroed_law s legal stack n areas places base y z holds keep at sum aligned low high = record {
  memory = new s legal stack n areas places at aligned low high;
  goes = stores s legal stack n areas places at aligned low high base y z holds keep sum;
  zeroed = granule s legal stack n areas places at aligned low high;
}

-- ---- more of them

pub zeroed_none : (at : ℕ) (a : List Area) → IsMemory a → Zeroed at 0 a a
zeroed_none at a areas = record {
  areas = areas;
  bytes = λ i l. absurd (omega arith);
  tags = λ i l. absurd (omega arith);
  same = record { bytes = λ x off. refl; tags = λ x off. refl; places = λ x. refl };
}

-- so many granules, and then the next
pub zeroed_on : (at j : ℕ) (a b c : List Area) → at % 16 ≡ 0 → Zeroed at j a b → Zeroed (at + 16 * j) 1 b c
    → Zeroed at (j + 1) a c
zeroed_on at j a b c aligned first last = record {
  areas = last.areas;
  bytes = λ i l. elim (cases_lt i (16 * j)) as (λ _. byte_at c (at + i) ≡ Some 0) [
    | inl before ↦ last.same.bytes (at + i) (λ from. absurd (omega arith)) ∙ first.bytes i before
    | inr behind ↦
        let is : at + 16 * j + (i - 16 * j) ≡ at + i = omega arith in
        subst (λ x. byte_at c x ≡ Some 0) is (last.bytes (i - 16 * j) (omega arith))
  ];
  tags = λ i l. elim (cases_lt i (16 * j)) as (λ _. tag_at c (at + i) ≡ Some false) [
    | inl before ↦ last.same.tags (at + i) (λ y e from. absurd (omega arith)) ∙ first.tags i before
    | inr behind ↦
        let is : at + 16 * j + (i - 16 * j) ≡ at + i = omega arith in
        subst (λ x. tag_at c x ≡ Some false) is (last.tags (i - 16 * j) (omega arith))
  ];
  same = record {
    bytes = λ x off. last.same.bytes x (λ from. let q = off (omega arith) in omega (arith, q))
        ∙ first.same.bytes x (λ from. let q = off from in omega (arith, q));
    tags = λ x off. last.same.tags x (λ y e from. let q = off y e (omega arith) in omega (arith, q))
        ∙ first.same.tags x (λ y e from. let q = off y e from in omega (arith, q));
    places = λ x. last.same.places x ∙ first.same.places x;
  };
}
