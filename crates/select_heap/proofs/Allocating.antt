-- An allocation in the whole injection: the heap's entry of the table gets the heap's capability behind the new object.
use Rattle.std.proofs.Common.{◌≡◌, ℕ, ◌+◌, ◌-◌, ◌*◌, ◌%◌, ◌^◌, ◌<◌, ◌≤◌, ℤ, Bool, true, nat_lt, List, []}
use Rattle.std.proofs.Common.{◌∷◌, ◌++◌, Option, Some, None, refl, sym, ap, ◌∙◌, subst, arith, inl, inr}
use Rattle.std.specs.Int.Bits.{xor_assoc, xor_self, xor_zero_r}
use Rattle.std.proofs.lemmas.Nat.{xor_lt}
use Rattle.std.specs.Prelude.{bit_xor, is_some, if◌then◌else◌}
use Rattle.std.specs.Option.{option_map}
use Rattle.std.proofs.lemmas.Bool.{le-ltb}
use Rattle.std.proofs.lemmas.Option.{none-some}
use Rattle.cap_concentrate.specs.declared.packing.TheConstants.{NULL_BITS}
use Rattle.cap_concentrate.specs.Packing.{bits_of, fields_of}
use Rattle.cap_concentrate.specs.Rounding.{owned}
use Rattle.cap_concentrate.proofs.Least.{rounded_up_ge}
use Rattle.cap_concentrate.proofs.Owned.{owned_ge}
use Rattle.cap_concentrate.proofs.Packed.{bits_of_below, fields_of-bits_of}
use Rattle.cap_ops.specs.declared.access.Access.TheVariants as A
use Rattle.cap_ops.specs.declared.capability.Cap.{Cap}
use Rattle.cap_ops.specs.Access.{checked}
use Rattle.rv_instr.specs.declared.ops.StoreOp.TheVariants.{Csc}
use Rattle.tag_mem.specs.Areas.{Area, IsMemory, is_inside}
use Rattle.tag_mem.specs.Memory.{written, capability_at}
use Rattle.tag_mem.specs.Numbers.{little_bytes}
use Rattle.tag_mem.proofs.Laws.{capability_at-written}
use Rattle.tag_mem.proofs.Reading.{is_some-capability_at}
use Rattle.cap_machine.specs.declared.machine.Machine.{Machine}
use Rattle.cap_machine.specs.declared.end.Step.TheVariants.{Next}
use Rattle.cap_machine.specs.Rows.{plus, store_row, store_checked, stored, memory_bits}
use Rattle.cap_machine.specs.State.{register, next}
use Rattle.cheri_c_sem.specs.Modes.{Store}
use Rattle.cheri_c_sem.specs.Steps.{State}
use Rattle.obj_mem.specs.Agreement.{IsNotReturned}
use Rattle.obj_mem.specs.Heap.{allocation_alignment, refused, placed_allocate}
use Rattle.obj_mem.specs.Legal.{Apart, IsLegal}
use Rattle.obj_mem.specs.Objects.{Active, Content, Shape}
use Rattle.obj_mem.specs.Pointers.{keeps}
use Rattle.obj_mem.specs.Table.{addresses_of, entry_count, heap_entry}
use Rattle.obj_mem.specs.Values.{Addresses}
use Rattle.placement.specs.Memories.{IsClear}
use Rattle.placement.proofs.Added.{clear_add}
use Rattle.placement.proofs.Shapes.{smaller, swap}
use Rattle.place_inject.specs.Objects.{SameOutside, Stands, ObjectsFit}
use Rattle.place_inject.specs.Parts.{Unchanged, capability_in, kept_at, heap_pointer, HeapFits, TableFits}
use Rattle.place_inject.specs.Frames.{Setting, Point, IsLive, functions_of, stack_top}
use Rattle.place_inject.specs.Fits.{Fits, CallsFit, registers_in}
use Rattle.place_inject.specs.Growing.{HeapLies, Allocated}
use Rattle.place_inject.specs.Tables.{table_top, table_pointer}
use Rattle.place_inject.proofs.Elsewhere.{twice, elsewhere, heap_aside}
use Rattle.place_inject.proofs.Growing.{allocations_fit_law}
use Rattle.place_inject.proofs.ReadBack.{address_of, loads_kept, newest, under_top}
use Rattle.place_inject.proofs.Spilling.{stack_stores}
use Rattle.place_inject.proofs.Wrote.{Wrote, wrote}
use Rattle.select_heap.specs.Allocating.{heap_place, HeapReadsBack, placed_at, free_behind, allocation_of}
use Rattle.select_heap.specs.Allocating.{with_allocation, HeapMovesOn}
use Rattle.select_heap.proofs.Beside.{at_grown, locals_grown, homes_on, frames_on}

-- ---- the heap's entry

pub heap_reads_back_law : HeapReadsBack
heap_reads_back_law s legal p t m f n same to from y z holds keep place =
    let room = f.table.room in
    let aligned = legal.table_aligned in
    loads_kept s.map.table.0 (table_top s) y (heap_place s) n to from z
    (heap_pointer (addresses_of s.map) t.mem.heap) holds keep place (omega arith) (omega arith) (omega arith)
    (ap (λ x. kept_at x (heap_place s)) same ∙ f.table.heap)

-- memory has what is kept there
kept_inside : (m : List Area) (at : ℕ) (c : Cap) → kept_at m at ≡ Some c → is_inside m at ≡ true
kept_inside m at c e = sym (is_some-capability_at m at) ∙ by (capability_at m at) e
  where
    by : (o : Option (ℕ × Bool)) → option_map capability_in o ≡ Some c → is_some o ≡ true
    by None q = absurd (none-some c q)
    by (Some v) q = refl

-- what was stored there is kept
kept_written : (m : List Area) (at : ℕ) (c : Cap) → IsMemory m → is_inside m at ≡ true → at % 16 ≡ 0
    → c.fields.address < 2 ^ 64
    → kept_at (written m at (little_bytes 16 (memory_bits c.fields)) c.tag) at ≡ Some c
kept_written m at c areas inside aligned small =
    let bits = bits_of c.fields in
    let back : bit_xor (bit_xor bits NULL_BITS) NULL_BITS ≡ bits =
    xor_assoc bits NULL_BITS NULL_BITS ∙ ap (bit_xor bits) (xor_self NULL_BITS) ∙ xor_zero_r bits in
    ap (option_map capability_in) (capability_at-written m at (memory_bits c.fields) c.tag areas inside aligned
    (xor_lt 128 bits NULL_BITS (bits_of_below c.fields small) (omega arith)))
    ∙ ap (λ b. Some (record { tag = c.tag; fields = fields_of b })) back
    ∙ ap (λ f. Some (record { tag = c.tag; fields = f })) (fields_of-bits_of c.fields small)

-- an object stands where no byte and no tag of it changed
stands_on : (a : Addresses) (shapes : List Shape) (g : Shape) (x : Content) (old new : List Area)
    → Unchanged g.base g.owned old new → Stands a shapes g x old → Stands a shapes g x new
stands_on a shapes g x old new u st = record {
  bytes = λ i l. u.bytes (g.base + i) (omega arith) (omega arith) ∙ st.bytes i l;
  tags = λ i l. u.tags (g.base + i) (omega arith) (omega arith) ∙ st.tags i l;
}

-- ---- an object that the heap has room for

module _ (s : Setting) (legal : IsLegal s.needs s.map) (p : Option Point) (t : State Store) (m : Machine)
    (f : Fits s p t m) (n : ℕ) (room : free_behind t n ≤ s.map.heap.0 + s.map.heap.1) where
  abbrev a : Addresses
  a = addresses_of s.map

  abbrev shapes : List Shape
  shapes = t.mem.memory.shapes

  abbrev h : Shape
  h = record { length = n; owned = owned n; life = Active; base = placed_at t n }

  abbrev at : ℕ
  at = heap_place s

  abbrev free : ℕ
  free = free_behind t n

  -- where it lies
  pub record Lies : Type 0 where
    pub low : s.map.heap.0 ≤ placed_at t n
    pub long : n ≤ owned n
    pub start : 65536 ≤ s.map.heap.0
    pub end : s.map.heap.0 + s.map.heap.1 ≤ 2 ^ 40

  pub lies : Lies
  lies =
      let some : 16 ≤ allocation_alignment n = omega arith in
      let up = rounded_up_ge t.mem.heap (allocation_alignment n) (omega arith) in
      let from = f.heap.from in
      record {
        low = omega arith;
        long = owned_ge n;
        start = legal.in_range.2.2.0;
        end = legal.in_range.2.2.1;
      }

  heap_lies : HeapLies a
  heap_lies =
      let y = legal.heap_base in
      let z = legal.heap_length in
      let whole : a.heap_end - a.heap ≡ s.map.heap.1 = omega arith in
      let text : a.text_end - a.text ≡ s.map.text.1 = omega arith in
      record {
        from = legal.in_range.2.2.0;
        to = legal.in_range.2.2.1;
        aligned = omega arith;
        off_text = subst (λ k. Apart a.heap k a.text (a.text_end - a.text)) (sym whole)
            (subst (λ k. Apart a.heap s.map.heap.1 a.text k) (sym text)
            (swap s.map.text.0 s.map.text.1 s.map.heap.0 s.map.heap.1 legal.apart.0.1.0));
      }

  pub placed : placed_allocate a t.mem.memory t.mem.heap n ≡ allocation_of s t n
  placed =
      let l = lies in let low = l.low in let long = l.long in
      ap (λ b. if b then refused t.mem.memory t.mem.heap
      else if nat_lt a.heap_end (free_behind t n) then refused t.mem.memory t.mem.heap else allocation_of s t n)
      (le-ltb (a.heap_end - a.heap) n (omega arith))
      ∙ ap (λ b. if b then refused t.mem.memory t.mem.heap else allocation_of s t n)
      (le-ltb a.heap_end (free_behind t n) room)

  made : Allocated (functions_of s) a m.mem (allocation_of s t n)
  made =
      subst (Allocated (functions_of s) a m.mem) placed
      (allocations_fit_law (functions_of s) a t.mem.memory m.mem t.mem.heap heap_lies f.objects f.heap n)

  -- it is off all that is off the heap
  off : (base long : ℕ) → Apart s.map.heap.0 s.map.heap.1 base long → Apart h.base h.owned base long
  off base long apart =
      let l = lies in let low = l.low in
      swap base long h.base h.owned
      (smaller base long s.map.heap.0 s.map.heap.1 h.base h.owned low room
      (swap s.map.heap.0 s.map.heap.1 base long apart))

  off_stack : Apart h.base h.owned s.map.stack.0 s.map.stack.1
  off_stack = off s.map.stack.0 s.map.stack.1 legal.apart.1.1.0.0

  -- ---- the entry is stored

  abbrev c : Cap
  c = heap_pointer a free

  small : c.fields.address < 2 ^ 64
  small =
      let l = lies in let end = l.end in
      subst (λ x. x < 2 ^ 64) (sym (address_of a.heap a.heap_end free)) (omega arith)

  aligned : at % 16 ≡ 0
  aligned = let z = legal.table_aligned in omega arith

  inside : is_inside m.mem at ≡ true
  inside = kept_inside m.mem at (heap_pointer a t.mem.heap) f.table.heap

  abbrev new : List Area
  new = written m.mem at (little_bytes 16 (memory_bits c.fields)) c.tag

  w : Wrote m.mem new at 16 (memory_bits c.fields) c.tag
  w = let z = aligned in
      wrote m.mem at 16 (memory_bits c.fields) c.tag f.objects.areas inside (omega arith) (omega arith)

  same : SameOutside at 16 m.mem new
  same =
      let z = aligned in
      record {
        bytes = w.outside;
        tags = λ x off. w.others x (λ e. let q = off at (sym e) (omega arith) in absurd (omega (arith, q)));
        places = w.places;
      }

  -- off the table is off the entry
  off_entry : (base long : ℕ) → Apart base long s.map.table.0 s.map.table.1 → Apart at 16 base long
  off_entry base long apart =
      let r = f.table.room in
      swap base long at 16 (smaller base long s.map.table.0 s.map.table.1 at 16 (omega arith) (omega arith) apart)

  part_still : (base long : ℕ) → base % 16 ≡ 0 → Apart base long s.map.table.0 s.map.table.1
      → Unchanged base long m.mem new
  part_still base long z apart = elsewhere at 16 base long m.mem new aligned z (off_entry base long apart) same

  stack_still : Unchanged s.map.stack.0 s.map.stack.1 m.mem new
  stack_still =
      let z = legal.stack_base in
      part_still s.map.stack.0 s.map.stack.1 (omega arith)
      (swap s.map.table.0 s.map.table.1 s.map.stack.0 s.map.stack.1 legal.apart.1.0.1.0)

  table_clear : IsClear (shapes ++ h ∷ []) s.map.table.0 s.map.table.1
  table_clear =
      clear_add shapes h s.map.table.0 s.map.table.1 f.table.clear
      (off s.map.table.0 s.map.table.1
      (swap s.map.table.0 s.map.table.1 s.map.heap.0 s.map.heap.1 legal.apart.1.0.0))

  -- ---- the parts

  objects_still : ObjectsFit (functions_of s) a (allocation_of s t n).memory new
  objects_still =
      let o = made.objects in
      record {
        areas = w.areas;
        spread = o.spread;
        aligned = o.aligned;
        one_each = o.one_each;
        sound = o.sound;
        stands = λ k g x e q l.
            stands_on a (shapes ++ h ∷ []) g x m.mem new
            (part_still g.base g.owned (o.aligned k g e)
            (table_clear.clear k g e (subst IsNotReturned (sym l) tt))) (o.stands k g x e q l);
      }

  table_still : TableFits s.needs s.map free (shapes ++ h ∷ []) s.loaded.mem new
  table_still =
      let y = legal.table_aligned in
      record {
        room = f.table.room;
        before = twice s.map.table.0 (16 * heap_entry s.needs) s.loaded.mem m.mem new f.table.before
            (elsewhere at 16 s.map.table.0 (16 * heap_entry s.needs) m.mem new aligned y (inr (omega arith)) same);
        behind = twice (s.map.table.0 + 16 * entry_count s.needs) (s.map.table.1 - 16 * entry_count s.needs)
            s.loaded.mem m.mem new f.table.behind
            (elsewhere at 16 (s.map.table.0 + 16 * entry_count s.needs) (s.map.table.1 - 16 * entry_count s.needs)
            m.mem new aligned (omega arith) (inl (omega arith)) same);
        heap = kept_written m.mem at c f.objects.areas inside aligned small;
        clear = table_clear;
      }

  heap_still : HeapFits a free (shapes ++ h ∷ []) new
  heap_still =
      heap_aside at 16 m.mem new same a s.map.heap.1 refl free (shapes ++ h ∷ [])
      (off_entry s.map.heap.0 s.map.heap.1
      (swap s.map.table.0 s.map.table.1 s.map.heap.0 s.map.heap.1 legal.apart.1.0.0)) made.heap

  abbrev then_on : Machine
  then_on = next (record m { mem = new })

  abbrev state : State Store
  state = with_allocation t (allocation_of s t n)

  calls_still : (q : Option Point) → CallsFit s q t m → (t.frame ≤ stack_top s) × CallsFit s q state then_on
  calls_still None e = (omega arith, e)
  calls_still (Some q) e =
      let own = newest s shapes m.mem (registers_in m) q.running.fun t.first t.frame q.running.callers e.2 in (
        under_top s shapes m.mem (registers_in m) q.running.fun t.first t.frame q.running.callers e.2,
        (
          locals_grown s shapes h off_stack m.mem new f.objects.areas w.areas stack_still q.running.fun t.first
              t.frame e.0,
          homes_on s shapes h off_stack m.mem new f.objects.areas w.areas stack_still q.running.fun t.first t.frame
              own.above own.link own.frame own.inside (registers_in m) (registers_in then_on) (λ r. refl) (IsLive s q)
              t.vars e.1,
          frames_on s shapes h off_stack m.mem new f.objects.areas w.areas stack_still (registers_in m)
              (registers_in then_on) (λ r. refl) q.running.fun t.first t.frame q.running.callers e.2,
        ),
      )

  fits : Fits s p state then_on
  fits =
      let calls = calls_still p f.calls in
      let top_is = calls.0 in
      record {
        registers = f.registers;
        objects = objects_still;
        globals = record {
          each = λ k b need e q. at_grown s shapes h off_stack m.mem new f.objects.areas w.areas stack_still k need b
              (f.globals.each k b need e q);
        };
        text = twice s.map.text.0 s.map.text.1 s.loaded.mem m.mem new f.text
            (part_still s.map.text.0 s.map.text.1 legal.text_aligned legal.apart.0.0);
        table = table_still;
        heap = heap_still;
        stack = record {
          stack = f.stack.stack;
          table = f.stack.table;
          clear = clear_add shapes h s.map.stack.0 (t.frame - s.map.stack.0) f.stack.clear
              (below_frame top_is off_stack);
        };
        calls = calls.1;
        places = λ x. w.places x ∙ f.places x;
      }
    where
      below_frame : t.frame ≤ stack_top s → Apart h.base h.owned s.map.stack.0 s.map.stack.1
          → Apart h.base h.owned s.map.stack.0 (t.frame - s.map.stack.0)
      below_frame l (inl before) = inl before
      below_frame l (inr behind) = inr (omega arith)

  does_store : (from base y : ℕ) (z : ℤ) → register m from ≡ c → register m base ≡ table_pointer s y
      → keeps s.map.table.0 (table_top s) y ≡ true → plus y z ≡ at → store_row m Csc from base z ≡ (Next, then_on)
  unfolding store_row
  does_store from base y z is holds keep place =
      let r = f.table.room in
      let d : Cap = table_pointer s y in
      let address : plus d.fields.address z ≡ at =
      ap (λ x. plus x z) (address_of s.map.table.0 (table_top s) y) ∙ place in
      let check = stack_stores s.map.table.0 (table_top s) y at c.tag keep (omega arith) (omega arith) aligned in
      rw (holds, is) (ap (λ x. store_checked m 16 (memory_bits c.fields) c.tag (checked d x (A.StoreCap c.tag))) address
      ∙ ap (store_checked m 16 (memory_bits c.fields) c.tag) check
      ∙ ap (stored m at 16 (memory_bits c.fields) c.tag) inside)

pub heap_moves_on_law : HeapMovesOn
heap_moves_on_law s legal p t m f n room from base y z is holds keep place = record {
  memory = new s legal p t m f n room;
  goes = does_store s legal p t m f n room from base y z is holds keep place;
  fits = fits s legal p t m f n room;
  known = (made s legal p t m f n room).pointer;
}
