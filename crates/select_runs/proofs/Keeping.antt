-- A register is kept in a granule of the stack.
use Rattle.std.proofs.Common.{◌≡◌, ℕ, ◌+◌, ◌*◌, ◌%◌, ◌^◌, ◌<◌, ◌≤◌, ℤ, true, List, refl, sym, ap, ◌∙◌, arith, Some}
use Rattle.std.proofs.Common.{inl, inr}
use Rattle.std.specs.Prelude.{slice_get}
use Rattle.std.specs.Option.{option_map}
use Rattle.std.proofs.lemmas.Option.{slice_get_within}
use Rattle.cap_concentrate.specs.Packing.{bits_of}
use Rattle.cap_concentrate.proofs.Packed.{bits_of_below}
use Rattle.cap_ops.specs.declared.access.Access.TheVariants as access
use Rattle.cap_ops.specs.declared.capability.Cap.{Cap}
use Rattle.cap_ops.specs.Access.{checked}
use Rattle.rv_instr.specs.declared.instr.Instr.{Instr}
use Rattle.rv_instr.specs.declared.instr.Instr.TheVariants.{Store}
use Rattle.rv_instr.specs.declared.ops.StoreOp.TheVariants.{Csc}
use Rattle.tag_mem.specs.Areas.{Area, IsMemory, is_inside}
use Rattle.tag_mem.specs.Memory.{written}
use Rattle.tag_mem.specs.Numbers.{little_bytes}
use Rattle.tag_mem.proofs.Laws.{number_at-same_bytes, capability_at-written}
use Rattle.cap_machine.specs.declared.end.Step.TheVariants.{Next}
use Rattle.cap_machine.specs.declared.machine.Machine.{Machine}
use Rattle.cap_machine.specs.State.{register, next}
use Rattle.cap_machine.specs.Rows.{row, plus, store_row, store_checked, stored, memory_bits}
use Rattle.cap_machine.specs.Step.{act_of}
use Rattle.obj_mem.specs.Legal.{Apart}
use Rattle.obj_mem.specs.Pointers.{keeps}
use Rattle.place_inject.specs.Objects.{SameOutside}
use Rattle.place_inject.specs.Parts.{capability_in, kept_at}
use Rattle.place_inject.specs.Frames.{Setting, stack_top, stack_pointer}
use Rattle.place_inject.specs.Spills.{StackIsThere}
use Rattle.place_inject.proofs.Bits.{fields_back, flipped_small}
use Rattle.place_inject.proofs.Elsewhere.{elsewhere, kept_same}
use Rattle.place_inject.proofs.ReadBack.{address_of}
use Rattle.place_inject.proofs.Spilling.{stack_stores}
use Rattle.place_inject.proofs.Wrote.{Wrote, wrote}
use Rattle.select_runs.specs.Acts.{Ground, HasText, IsThere, counter_at}
use Rattle.select_runs.specs.Operands.{ground_of, IsText}
use Rattle.select_runs.proofs.Acts.{act_on_row, fetched_here, next_is}
use Rattle.select_runs.proofs.Points.{laid}
use Rattle.select_runs.proofs.Stretches.{Reached}

-- ---- memory that is the same outside of an extent

pub same_here : (base long : ℕ) (a : List Area) → SameOutside base long a a
same_here base long a = record { bytes = λ x off. refl; tags = λ x off. refl; places = λ x. refl }

pub same_twice : (base long : ℕ) (a b c : List Area) → SameOutside base long a b → SameOutside base long b c
    → SameOutside base long a c
same_twice base long a b c p q = record {
  bytes = λ x off. q.bytes x off ∙ p.bytes x off;
  tags = λ x off. q.tags x off ∙ p.tags x off;
  places = λ x. q.places x ∙ p.places x;
}

-- a part of an extent
pub same_wider : (base long at n : ℕ) (a b : List Area) → base ≤ at → at + n ≤ base + long → SameOutside at n a b
    → SameOutside base long a b
same_wider base long at n a b from to p = record {
  bytes = λ x off. p.bytes x (λ l. let q = off (omega arith) in omega arith);
  tags = λ x off. p.tags x (λ y e l. let q = off y e (omega arith) in omega arith);
  places = p.places;
}

-- a granule apart from the extent
pub kept_still : (base long at : ℕ) (a b : List Area) → IsMemory a → IsMemory b → base % 16 ≡ 0 → at % 16 ≡ 0
    → Apart base long at 16 → SameOutside base long a b → kept_at b at ≡ kept_at a at
kept_still base long at a b h h' even aligned apart same =
    kept_same at 16 at a b h h' (elsewhere base long at 16 a b even aligned apart same) aligned (omega arith)
    (omega arith)

-- ---- the store

-- A granule holds a capability, memory is as it was else, and so are the registers
pub record Keeps (place : ℕ) (c : Cap) (n to : Machine) : Type 0 where
  pub areas : IsMemory to.mem
  pub same : SameOutside place 16 n.mem to.mem
  pub kept : kept_at to.mem place ≡ Some c
  pub registers : (r : ℕ) → register to r ≡ register n r

module _ (s : Setting) (code : List Instr) (x : IsText s code) (stack : StackIsThere s) where
  abbrev g : Ground
  g = ground_of s code

  apart_text : (at long y : ℕ) → Apart s.map.text.0 s.map.text.1 s.map.stack.0 s.map.stack.1 → s.map.stack.0 ≤ at
      → at + long ≤ stack_top s → s.map.text.0 ≤ y → y < s.map.text.0 + s.map.text.1 → at ≤ y → at + long ≤ y
  apart_text at long y (inl before) low_is up from to l = absurd (omega arith)
  apart_text at long y (inr behind) low_is up from to l = omega arith

  -- the text is none of the stack
  pub text_stays : (at long : ℕ) (a b : List Area) → HasText g a → IsMemory a → IsMemory b → SameOutside at long a b
      → s.map.stack.0 ≤ at → at + long ≤ stack_top s → HasText g b
  text_stays at long a b text h h' same low_is up k i has =
      let within = slice_get_within code k i has in
      let room = x.room in
      let even = x.legal.text_aligned in
      number_at-same_bytes a b (s.map.text.0 + 4 * k) 4 h h' (omega arith) (omega arith)
      (λ j lt. same.bytes (s.map.text.0 + 4 * k + j)
      (apart_text at long (s.map.text.0 + 4 * k + j) x.legal.apart.0.1.1.0 low_is up (omega arith) (omega arith)))
      ∙ text k i has

  module _ (n : Machine) (mid : ℕ) (there : IsThere g n mid) (areas : IsMemory n.mem)
      (places : (y : ℕ) → is_inside n.mem y ≡ is_inside s.loaded.mem y) (from base y place : ℕ) (z : ℤ)
      (holds : register n base ≡ stack_pointer s y) (keep : keeps s.map.stack.0 (stack_top s) y ≡ true)
      (sum : plus y z ≡ place) (aligned : place % 16 ≡ 0) (low_is : s.map.stack.0 ≤ place)
      (up : place + 16 ≤ stack_top s) (small : (register n from).fields.address < 2 ^ 64) where
    abbrev c : Cap
    c = register n from

    abbrev new : List Area
    new = written n.mem place (little_bytes 16 (memory_bits c.fields)) c.tag

    inside : is_inside n.mem place ≡ true
    inside = places place ∙ stack place low_is (omega arith)

    w : Wrote n.mem new place 16 (memory_bits c.fields) c.tag
    w = wrote n.mem place 16 (memory_bits c.fields) c.tag areas inside (omega arith) (omega arith)

    same : SameOutside place 16 n.mem new
    same = record {
      bytes = λ i off. w.outside i (λ l. let q = off l in omega arith);
      tags = λ i off. w.others i (λ e. let q = off place (sym e) (omega arith) in absurd (omega (arith, q)));
      places = w.places;
    }

    read_back : kept_at new place ≡ Some c
    read_back =
        ap (option_map capability_in) (capability_at-written n.mem place
        (memory_bits c.fields) c.tag areas inside aligned
        (flipped_small (bits_of c.fields) (bits_of_below c.fields small)))
        ∙ ap (λ f. Some (record { tag = c.tag; fields = f })) (fields_back c.fields small)

    stores : store_row n Csc from base z ≡ (Next, next (record n { mem = new }))
    unfolding store_row
    stores =
        let d : Cap = stack_pointer s y in
        let address : plus d.fields.address z ≡ place =
        ap (λ i. plus i z) (address_of s.map.stack.0 (stack_top s) y) ∙ sum in
        let check = stack_stores s.map.stack.0 (stack_top s) y place c.tag keep low_is up aligned in
        ap (λ e. store_checked n 16 (memory_bits c.fields) c.tag (checked e (plus e.fields.address z)
        (access.StoreCap c.tag))) holds
        ∙ ap (λ i. store_checked n 16 (memory_bits c.fields) c.tag (checked d i (access.StoreCap c.tag))) address
        ∙ ap (store_checked n 16 (memory_bits c.fields) c.tag) check
        ∙ ap (stored n place 16 (memory_bits c.fields) c.tag) inside

    pub one_store : slice_get code mid ≡ Some (Store Csc from base z)
        → Reached g n 1 (mid + 1) (Keeps place c n)
    unfolding row
    one_store has =
        let u : Machine = record n { mem = new } in
        let within = slice_get_within code mid (Store Csc from base z) has in
        let counter : (next u).pc ≡ counter_at g (mid + 1) =
        ap (λ (v : Machine). v.pc) (next_is g (laid s code x) u mid there.counter within) in
        record {
          to = next u;
          leads = (
            next u,
            fetched_here g (laid s code x) n mid (Store Csc from base z) there.counter there.text has
                ∙ act_on_row n (Store Csc from base z) refl ∙ ap act_of stores,
            refl,
          );
          there = record {
            counter = counter;
            registers = there.registers;
            text = text_stays place 16 n.mem new there.text areas w.areas same low_is up;
          };
          has = record { areas = w.areas; same = same; kept = read_back; registers = λ r. refl };
        }
