-- A value that is spilled to the slot of its temp keeps the injection.
use Rattle.std.proofs.Common.{◌≡◌, ◌⊎◌, ℕ, ◌+◌, ◌*◌, ◌%◌, ◌^◌, ◌<◌, ◌≤◌, ◌==◌, ◌||◌, ℤ, Bool, true, false, not}
use Rattle.std.proofs.Common.{ltb, List, [], ◌∷◌, length, refl, sym, ap, ◌∙◌, subst, arith, ⊎_elim, Option, Some, None}
use Rattle.std.proofs.Common.{inl, inr}
use Rattle.std.specs.Prelude.{slice_get, slice_set, position, Ok}
use Rattle.std.specs.Option.{option_map}
use Rattle.std.proofs.lemmas.Bool.{cases_lt, le-ltb, eq-eqb, or_from}
use Rattle.std.proofs.lemmas.Option.{same_Some, none-some, cond_some}
use Rattle.cap_concentrate.specs.declared.fields.Fields.{Fields}
use Rattle.cap_concentrate.specs.Encoding.{with_bounds}
use Rattle.cap_concentrate.specs.Packing.{bits_of, fields_of}
use Rattle.cap_concentrate.proofs.Packed.{bits_of_below}
use Rattle.cap_ops.specs.declared.capability.Cap.{Cap}
use Rattle.cap_ops.specs.declared.capability.TheConstants.{UNSEALED}
use Rattle.cap_ops.specs.declared.access.Access.TheVariants as A
use Rattle.cap_ops.specs.declared.access.Cause.TheVariants as C
use Rattle.cap_ops.specs.Access.{fails, answer, checked}
use Rattle.cap_ops.specs.Bounded.{bounded}
use Rattle.cap_ops.specs.Capability.{base, top, null_at}
use Rattle.cap_ops.specs.Permissions.{data_permissions}
use Rattle.rv_instr.specs.declared.ops.StoreOp.TheVariants.{Csc}
use Rattle.tag_mem.specs.Areas.{Area, is_inside}
use Rattle.tag_mem.specs.Memory.{written}
use Rattle.tag_mem.specs.Numbers.{little_bytes}
use Rattle.tag_mem.proofs.Laws.{capability_at-written}
use Rattle.cap_machine.specs.declared.machine.Machine.{Machine}
use Rattle.cap_machine.specs.declared.end.Step.TheVariants.{Next}
use Rattle.cap_machine.specs.State.{register, next}
use Rattle.cap_machine.specs.Rows.{plus, store_row, store_checked, stored, memory_bits}
use Rattle.obj_mem.specs.Legal.{Apart, IsLegal}
use Rattle.obj_mem.specs.Objects.{Shape, base_in}
use Rattle.obj_mem.specs.Pointers.{keeps}
use Rattle.obj_mem.specs.Table.{addresses_of}
use Rattle.obj_mem.specs.Values.{Value, Int, Live, Fun, Raw, Addresses, capability_of}
use Rattle.cheri_c_sem.specs.Modes.{Store}
use Rattle.cheri_c_sem.specs.Steps.{State}
use Rattle.placement.proofs.Shapes.{same_place}
use Rattle.reg_alloc.specs.declared.places.Home.{Home}
use Rattle.reg_alloc.specs.declared.places.Home.TheVariants.{Register, Slot}
use Rattle.purecap_abi.specs.Saving.{kept_homes, slot_count, stack_bytes, keeps_stack, registers_at, behind_registers}
use Rattle.purecap_abi.specs.Saving.{stack_at, slots_at}
use Rattle.purecap_abi.proofs.Counts.{slot_count_each}
use Rattle.tac_ir.specs.declared.code.TacInstr.{TacInstr}
use Rattle.tac_ir.specs.Effects.{held}
use Rattle.tac_ir.specs.Meaning.{Caller}
use Rattle.place_inject.specs.Values.{IsKnown}
use Rattle.place_inject.specs.Objects.{SameOutside, ObjectsFit}
use Rattle.place_inject.specs.Parts.{Unchanged, capability_in, kept_at, HeapFits, TableFits}
use Rattle.place_inject.specs.Frames.{Setting, Point, IsLive, Waits, homes_of, functions_of, slots_from, stack_top}
use Rattle.place_inject.specs.Frames.{stack_pointer, at_home, HomesFit, kept_place, from_place, behind_return}
use Rattle.place_inject.specs.Frames.{FrameFits, FramesFit}
use Rattle.place_inject.specs.Fits.{Fits, registers_in}
use Rattle.place_inject.specs.Homes.{onward, ReadsNoMore}
use Rattle.place_inject.specs.Spills.{SlotIsFree, StackIsThere, SpillsFit}
use Rattle.place_inject.proofs.Bits.{fields_back, flipped_small}
use Rattle.place_inject.proofs.Changed.{active_stays}
use Rattle.place_inject.proofs.Elsewhere.{twice, elsewhere, kept_same, table_by, heap_aside}
use Rattle.place_inject.proofs.FramesKept.{position_within, stack_multiple, all_use, calls_kept}
use Rattle.place_inject.proofs.Lying.{within}
use Rattle.place_inject.proofs.ReadBack.{none_fails, address_of, under_top}
use Rattle.place_inject.proofs.Reaching.{kept_bounds}
use Rattle.place_inject.proofs.Results.{set_same, set_apart, set_length, there_too}
use Rattle.place_inject.proofs.Known.{capability_word, integer_address}
use Rattle.place_inject.proofs.Kept.{kept_apart}
use Rattle.place_inject.proofs.Wrote.{Wrote, wrote}

-- ---- the store

no_seal : (low high y at : ℕ) (tag : Bool)
    → fails (bounded low high data_permissions UNSEALED y) at (A.StoreCap tag) C.Sealed ≡ false
unfolding with_bounds
no_seal low high y at tag = refl

may_store : (low high y at : ℕ) (tag : Bool)
    → fails (bounded low high data_permissions UNSEALED y) at (A.StoreCap tag) C.Store ≡ false
unfolding with_bounds
may_store low high y at tag = refl

may_store_tags : (low high y at : ℕ) (tag : Bool)
    → fails (bounded low high data_permissions UNSEALED y) at (A.StoreCap tag) C.StoreCap ≡ false
unfolding with_bounds
may_store_tags low high y at true = refl
may_store_tags low high y at false = refl

pub stack_stores : (low high y at : ℕ) (tag : Bool) → keeps low high y ≡ true → low ≤ at → at + 16 ≤ high → at % 16 ≡ 0
    → checked (bounded low high data_permissions UNSEALED y) at (A.StoreCap tag) ≡ Ok at
unfolding checked
stack_stores low high y at tag kept from to aligned =
    let c = bounded low high data_permissions UNSEALED y in
    let q = kept_bounds low high data_permissions y kept in
    let bounds : (ltb at (base c) || ltb (top c) (at + 16)) ≡ false =
    or_from _ _ (le-ltb at (base c) (let e = q.0 in omega arith))
    (le-ltb (top c) (at + 16) (let e = q.1 in omega arith)) in
    let align : not (at % 16 == 0) ≡ false = ap not (eq-eqb (at % 16) 0 aligned) in
    ap (answer at) (none_fails (fails c at (A.StoreCap tag)) refl (no_seal low high y at tag)
    refl (may_store low high y at tag) (may_store_tags low high y at tag) refl bounds align)

-- ---- capabilities

abbrev tagged_by : Bool → Fields → Option Cap
tagged_by tag fields = Some (record { tag = tag; fields = fields })

raw_small : (a : Addresses) (base : ℕ → ℕ) (address upper : ℕ) →
    (capability_of a base (Raw address upper)).fields.address < 2 ^ 64
unfolding capability_of fields_of
raw_small a base address upper = omega arith

-- ---- what stays where a granule of the saved part of the newest frame changes

-- granules that begin at other places
apart_granules : (at place : ℕ) → at % 16 ≡ 0 → place % 16 ≡ 0 → (place ≡ at → ⊥) → Apart at 16 place 16
apart_granules at place y z ne = ⊎_elim
    (λ low. inr (omega (arith, low, y, z)))
    (λ high. inl (omega (arith, high, y, z, ne)))
    (cases_lt place at)

module _ (s : Setting) (legal : IsLegal s.needs s.map) (stack : StackIsThere s) (p : Point) (t : State Store)
    (m : Machine)
    (f : Fits s (Some p) t m) (rest : List TacInstr) (temp slot : ℕ) (free : SlotIsFree s (onward p rest) temp slot)
    (reads : ReadsNoMore s p rest temp) (v : Value) (known : IsKnown t.mem.memory.shapes (functions_of s) v) where
  abbrev homes : List Home
  homes = homes_of s p.running.fun

  abbrev shapes : List Shape
  shapes = t.mem.memory.shapes

  abbrev bits : Value → Cap
  bits = capability_of (addresses_of s.map) (base_in shapes)

  abbrev at : ℕ
  at = slots_from (slice_get s.map.frames p.running.fun) homes t.frame + 16 * slot

  small : (bits v).fields.address < 2 ^ 64
  small = by v known
    where
      by : (w : Value) → IsKnown shapes (functions_of s) w
          → (capability_of (addresses_of s.map) (base_in shapes) w).fields.address < 2 ^ 64
      by (Int n) k = subst (λ x. x < 2 ^ 64) (sym (integer_address (addresses_of s.map) (base_in shapes) n)) k
      by (Raw address upper) k = raw_small (addresses_of s.map) (base_in shapes) address upper
      by (Live o low high offset permissions) k =
          capability_word (functions_of s) (addresses_of s.map) t.mem.memory m.mem f.objects
          (Live o low high offset permissions) refl k
      by (Fun g) k = capability_word (functions_of s) (addresses_of s.map) t.mem.memory m.mem f.objects (Fun g) refl k

  abbrev new : List Area
  new = written m.mem at (little_bytes 16 (memory_bits (bits v).fields)) (bits v).tag

  module _ (above link : ℕ) (g : FrameFits s shapes m.mem p.running.fun t.first t.frame above link)
      (top_is : above ≤ stack_top s) where
    -- the slot lies in the saved part, behind the rest of it
    record Lying : Type 0 where
      is : at ≡ t.frame + slots_at homes g.frame + 16 * slot
      room : slots_at homes g.frame + 16 * slot + 16 ≤ g.frame.saved
      past : 16 ≤ slots_at homes g.frame
      aligned : at % 16 ≡ 0
      slots_aligned : slots_at homes g.frame % 16 ≡ 0
      low : s.map.stack.0 ≤ t.frame
      high : t.frame + g.frame.saved ≤ above

    lying : Lying
    lying =
        let lies = within s.map.stack.0 above t.frame g.frame g.below in
        let from_low = lies.from in
        let to_high = lies.to in
        let saved = g.for_homes.saved in
        let inside = g.for_homes.inside in
        let aligned = g.aligned in
        let z16 = stack_multiple g.frame.align in
        let l : slot < slot_count homes = slot_count_each homes temp slot free.home in
        let slots : slots_from (slice_get s.map.frames p.running.fun) homes t.frame ≡ t.frame + slots_at homes g.frame =
        ap (λ x. slots_from x homes t.frame) g.is in
        record {
          is = omega (arith, slots);
          room = omega arith;
          past = omega arith;
          aligned = omega (arith, slots);
          slots_aligned = omega arith;
          low = from_low;
          high = omega arith;
        }

    inside : is_inside m.mem at ≡ true
    inside =
        let q = lying.is in let r = lying.room in let l = lying.low in let h = lying.high in
        f.places at ∙ stack at (omega arith) (omega arith)

    w : Wrote m.mem new at 16 (memory_bits (bits v).fields) (bits v).tag
    w = let y = lying.aligned in
        wrote m.mem at 16 (memory_bits (bits v).fields) (bits v).tag f.objects.areas inside (omega arith) (omega arith)

    same : SameOutside at 16 m.mem new
    same = record {
      bytes = w.outside;
      tags = λ x off. w.others x (λ e. let q = off at (sym e) (omega arith) in absurd (omega (arith, q)));
      places = w.places;
    }

    -- ---- objects, and the parts of no object

    off_object : (base long : ℕ) → Apart base long t.frame g.frame.saved → Apart base long at 16
    off_object base long (inl before) = let q = lying.is in inl (omega arith)
    off_object base long (inr behind) = let q = lying.is in let r = lying.room in inr (omega arith)

    off_part : (base long : ℕ) → Apart base long s.map.stack.0 s.map.stack.1 → Apart at 16 base long
    off_part base long (inl before) = let q = lying.is in let l = lying.low in inr (omega arith)
    off_part base long (inr behind) =
        let q = lying.is in let r = lying.room in let h = lying.high in inl (omega arith)

    objects_still : ObjectsFit (functions_of s) (addresses_of s.map) t.mem.memory new
    objects_still = record {
      areas = w.areas;
      spread = f.objects.spread;
      aligned = f.objects.aligned;
      one_each = f.objects.one_each;
      sound = f.objects.sound;
      stands = λ k h x e q l.
          kept_apart (addresses_of s.map) shapes h x at 16 m.mem new (f.objects.aligned k h e) lying.aligned
          (off_object h.base h.owned (g.clear.clear k h e (active_stays h.life l))) same (f.objects.stands k h x e q l);
    }

    part_still : (base long : ℕ) → base % 16 ≡ 0 → Apart base long s.map.stack.0 s.map.stack.1 →
        Unchanged base long m.mem new
    part_still base long z apart = elsewhere at 16 base long m.mem new lying.aligned z (off_part base long apart) same

    table_still : TableFits s.needs s.map t.mem.heap shapes s.loaded.mem new
    table_still =
        table_by shapes m.mem new f.objects.areas w.areas s.needs s.map t.mem.heap s.loaded.mem legal.table_aligned
        (part_still s.map.table.0 s.map.table.1 legal.table_aligned legal.apart.1.0.1.0) f.table

    heap_still : HeapFits (addresses_of s.map) t.mem.heap shapes new
    heap_still =
        heap_aside at 16 m.mem new same (addresses_of s.map) s.map.heap.1 refl t.mem.heap shapes
        (off_part s.map.heap.0 s.map.heap.1 legal.apart.1.1.0.0) f.heap

    -- ---- what frames keep

    kept_other : (place : ℕ) → place % 16 ≡ 0 → (place ≡ at → ⊥) → kept_at new place ≡ kept_at m.mem place
    kept_other place z ne =
        kept_same place 16 place m.mem new f.objects.areas w.areas
        (elsewhere at 16 place 16 m.mem new lying.aligned z (apart_granules at place lying.aligned z ne) same)
        z (omega arith) (omega arith)

    read_back : kept_at new at ≡ Some (bits v)
    read_back =
        ap (option_map capability_in) (capability_at-written m.mem at (memory_bits (bits v).fields)
        (bits v).tag f.objects.areas
        inside lying.aligned (flipped_small (bits_of (bits v).fields) (bits_of_below (bits v).fields small)))
        ∙ ap (tagged_by (bits v).tag) (fields_back (bits v).fields small)

    frame_still : FrameFits s shapes new p.running.fun t.first t.frame above link
    frame_still =
        let q = lying.is in let past = lying.past in let z = g.aligned in
        record {
          frame = g.frame;
          is = g.is;
          for_homes = g.for_homes;
          below = g.below;
          aligned = g.aligned;
          link_kept = kept_other t.frame z (λ e. absurd (omega (arith, e))) ∙ g.link_kept;
          stack_kept = λ place e. stack_still place e ∙ g.stack_kept place e;
          clear = g.clear;
          alone = g.alone;
        }
      where
        stack_still : (place : ℕ) → stack_at homes g.frame ≡ Some place →
            kept_at new (t.frame + place) ≡ kept_at m.mem (t.frame + place)
        stack_still place e =
            let c = cond_some (keeps_stack g.frame.align) (behind_registers homes g.frame) place e in
            let sixteen : stack_bytes g.frame.align ≡ 16 = rw c.0 refl in
            let there = c.1 in
            let q = lying.is in let y = lying.slots_aligned in let z = g.aligned in
            kept_other (t.frame + place) (omega arith) (λ d. absurd (omega (arith, d)))

    -- the registers behind the return are the same
    by_place : (r : ℕ) (k : Option ℕ) → position (λ x. x == r) (kept_homes homes) ≡ k
        → from_place new (option_map (λ j. t.frame + registers_at homes g.frame + 16 * j) k) (registers_in m r)
        ≡ from_place m.mem (option_map (λ j. t.frame + registers_at homes g.frame + 16 * j) k) (registers_in m r)
    by_place r None e = refl
    by_place r (Some j) e =
        let l : j < length (kept_homes homes) = position_within (λ x. x == r) (kept_homes homes) j e in
        let q = lying.is in let y = lying.slots_aligned in let z = g.aligned in
        let saved = g.for_homes.saved in
        let z16 = stack_multiple g.frame.align in
        kept_other (t.frame + registers_at homes g.frame + 16 * j) (omega arith) (λ d. absurd (omega (arith, d)))

    behind_same : (r : ℕ) → Unit {0}
        → behind_return s new p.running.fun t.frame (registers_in m) r
        ≡ behind_return s m.mem p.running.fun t.frame (registers_in m) r
    behind_same r u =
        let k = position (λ x. x == r) (kept_homes homes) in
        let place : kept_place (slice_get s.map.frames p.running.fun) homes t.frame r
        ≡ option_map (λ j. t.frame + registers_at homes g.frame + 16 * j) k =
        ap (λ o. kept_place o homes t.frame r) g.is in
        ap (λ o. from_place new o (registers_in m r)) place ∙ by_place r k refl
        ∙ sym (ap (λ o. from_place m.mem o (registers_in m r)) place)

    -- ---- the homes of the function that runs

    abbrev vars : List (Option Value)
    vars = slice_set t.vars temp (Some v)

    own_value : (k : ℕ) → k ≡ temp → held (slice_get vars k) ≡ v
    own_value k e =
        let o = there_too homes t.vars temp (Slot slot) f.calls.1.one_each free.home in
        ap (λ x. held (slice_get vars x)) e ∙ ap held (set_same t.vars temp (Some v) o.0 o.1)

    other_value : (k : ℕ) → (k ≡ temp → ⊥) → held (slice_get vars k) ≡ held (slice_get t.vars k)
    other_value k d = ap held (set_apart t.vars temp k (Some v) d)

    abbrev slots : ℕ
    slots = slots_from (slice_get s.map.frames p.running.fun) homes t.frame

    other_slot : (k : ℕ) (h : Home) → IsLive s (onward p rest) k → (k ≡ temp → ⊥) → slice_get homes k ≡ Some h
        → at_home new (registers_in m) slots h ≡ at_home m.mem (registers_in m) slots h
    other_slot k (Register r) l d e = refl
    other_slot k (Slot j) l d e =
        let slots_are : slots ≡ t.frame + slots_at homes g.frame = ap (λ x. slots_from x homes t.frame) g.is in
        let y = lying.slots_aligned in let z = g.aligned in
        kept_other (slots + 16 * j) (omega (arith, slots_are))
        (λ q. free.alone k l d (e ∙ ap (λ i. Some (Slot i)) (let same : j ≡ slot = omega (arith, q) in same)))

    homes_still : HomesFit (functions_of s) (addresses_of s.map) shapes new (registers_in m) homes
        (s.numbers p.running.fun) slots
        (IsLive s (onward p rest)) vars
    homes_still = record {
      one_each = f.calls.1.one_each ∙ sym (set_length t.vars temp (Some v));
      kept = λ k h l n e. kept_by k h l n e (same_place k temp);
      numbered = λ k n l e. numbered_by k n l e (same_place k temp);
      known = λ k l. known_by k l (same_place k temp);
    }
      where
        kept_by : (k : ℕ) (h : Home) → IsLive s (onward p rest) k → s.numbers p.running.fun k ≡ None →
            slice_get homes k ≡ Some h
            → ((k ≡ temp) ⊎ (k ≡ temp → ⊥))
            → at_home new (registers_in m) slots h ≡ Some (bits (held (slice_get vars k)))
        kept_by k h l n e (inl q) =
            let own : h ≡ Slot slot = same_Some h (Slot slot) (sym e ∙ ap (slice_get homes) q ∙ free.home) in
            ap (at_home new (registers_in m) slots) own ∙ read_back ∙ ap (λ x. Some (bits x)) (sym (own_value k q))
        kept_by k h l n e (inr d) =
            other_slot k h l d e ∙ f.calls.1.kept k h (reads k l d) n e
            ∙ ap (λ x. Some (bits x)) (sym (other_value k d))

        numbered_by : (k n : ℕ) → IsLive s (onward p rest) k → s.numbers p.running.fun k ≡ Some n
            → ((k ≡ temp) ⊎ (k ≡ temp → ⊥)) → bits (held (slice_get vars k)) ≡ null_at n
        numbered_by k n l e (inl q) = absurd (none-some n (sym free.stands ∙ ap (s.numbers p.running.fun) (sym q) ∙ e))
        numbered_by k n l e (inr d) = ap bits (other_value k d) ∙ f.calls.1.numbered k n (reads k l d) e

        known_by : (k : ℕ) → IsLive s (onward p rest) k → ((k ≡ temp) ⊎ (k ≡ temp → ⊥))
            → IsKnown shapes (functions_of s) (held (slice_get vars k))
        known_by k l (inl q) = subst (IsKnown shapes (functions_of s)) (sym (own_value k q)) known
        known_by k l (inr d) = subst (IsKnown shapes (functions_of s)) (sym (other_value k d))
            (f.calls.1.known k (reads k l d))

    -- ---- all of it

    still_fits : FramesFit s shapes new (registers_in m) p.running.fun t.first t.frame p.running.callers
        → Fits s (Some (onward p rest)) (record t { vars = vars }) (next (record m { mem = new }))
    still_fits frames = record {
      registers = f.registers;
      objects = objects_still;
      globals = f.globals;
      text = twice s.map.text.0 s.map.text.1 s.loaded.mem m.mem new f.text
          (part_still s.map.text.0 s.map.text.1 legal.text_aligned legal.apart.0.1.1.0);
      table = table_still;
      heap = heap_still;
      stack = record { stack = f.stack.stack; table = f.stack.table; clear = f.stack.clear };
      calls = (f.calls.0, homes_still, frames);
      places = λ x. w.places x ∙ f.places x;
    }

    does_store : (from base y : ℕ) (z : ℤ) → register m from ≡ bits v → register m base ≡ stack_pointer s y
        → keeps s.map.stack.0 (stack_top s) y ≡ true → plus y z ≡ at
        → store_row m Csc from base z ≡ (Next, next (record m { mem = new }))
    unfolding store_row
    does_store from base y z is holds keep place =
        let q = lying.is in let r = lying.room in let l = lying.low in let h = lying.high in
        let d : Cap = stack_pointer s y in
        let address : plus d.fields.address z ≡ at =
        ap (λ x. plus x z) (address_of s.map.stack.0 (stack_top s) y) ∙ place in
        let check = stack_stores s.map.stack.0 (stack_top s) y at (bits v).tag keep (omega arith)
        (omega arith) lying.aligned in
        rw (holds, is) (ap (λ x. store_checked m 16 (memory_bits (bits v).fields) (bits v).tag
        (checked d x (A.StoreCap (bits v).tag))) address
        ∙ ap (store_checked m 16 (memory_bits (bits v).fields) (bits v).tag) check
        ∙ ap (stored m at 16 (memory_bits (bits v).fields) (bits v).tag) inside)

  -- the callers' frames lie above
  frames_still : (cs : List Caller) → FramesFit s shapes m.mem (registers_in m) p.running.fun t.first t.frame cs
      → (above : ℕ) × (link : ℕ) × FrameFits s shapes m.mem p.running.fun t.first t.frame above link ×
      (above ≤ stack_top s)
      × FramesFit s shapes new (registers_in m) p.running.fun t.first t.frame cs
  frames_still [] g = (stack_top s, s.stub, g, omega arith, frame_still (stack_top s) s.stub g (omega arith))
  frames_still (c ∷ cs) g =
      let now = behind_return s m.mem p.running.fun t.frame (registers_in m) in
      let now' = behind_return s new p.running.fun t.frame (registers_in m) in
      let top_is = under_top s shapes m.mem now c.fun c.first c.frame cs g.3 in
      let link = s.back c.fun c.rest in
      let place = lying c.frame link g.0 top_is in
      let q = place.is in let r = place.room in let h = place.high in
      let tail = calls_kept s shapes m.mem new f.objects.areas (w c.frame link g.0 top_is).areas c.frame
      (λ fun first at' above link' k up. elsewhere at 16 at' k.frame.saved m.mem new place.aligned k.aligned
      (inl (omega arith)) (same c.frame link g.0 top_is))
      (λ r. Unit {0}) now now' (behind_same c.frame link g.0 top_is) c.fun c.first c.frame (omega arith) cs
      (functions_of s) (addresses_of s.map) (Waits s c) c.vars (λ u r l e. tt)
      (all_use s (λ r. Unit {0}) (λ fun u r e. tt) cs) g.2 g.3 in
      (c.frame, link, g.0, top_is, (frame_still c.frame link g.0 top_is, g.1, tail.0, tail.1))

pub spills_fit_law : SpillsFit
spills_fit_law s legal stack p t m f rest temp slot free reads v known from base y z is holds keep place =
    let k = frames_still s legal stack p t m f rest temp slot free reads v known p.running.callers f.calls.2 in
    record {
      memory = new s legal stack p t m f rest temp slot free reads v known;
      goes = does_store s legal stack p t m f rest temp slot free reads v known k.0 k.1 k.2 k.3 from base y z is holds
          keep place;
      fits = still_fits s legal stack p t m f rest temp slot free reads v known k.0 k.1 k.2 k.3 k.4;
    }
