-- The operations of a map keep the bases of pointers.
use Rattle.std.proofs.Common.{◌≡◌, ℕ, ◌+◌, ◌-◌, ◌^◌, ◌<◌, Bool, true, false, length, refl}
use Rattle.std.proofs.Common.{sym, ◌∙◌, subst, arith, Result, Ok, Err}
use Rattle.std.specs.Prelude.{nat_lt, IfOk, slice_get, slice_index_or, if◌then◌else◌}
use Rattle.std.proofs.lemmas.Bool.{ltb-false}
use Rattle.std.proofs.lemmas.Option.{none-some}
use Rattle.cap_concentrate.specs.Rounding.{owned, rounded_up}
use Rattle.obj_mem.specs.declared.ending.Fault.{Fault}
use Rattle.obj_mem.specs.declared.ending.UnitFault.{UnitFault}
use Rattle.obj_mem.specs.declared.map.Map.{Map}
use Rattle.obj_mem.specs.Heap.{Allocation, allocation_alignment, refused, allocated, placed_allocate}
use Rattle.obj_mem.specs.Objects.{Shape, Memory, Placed, base_in, add, rest}
use Rattle.obj_mem.specs.Objects as object
use Rattle.obj_mem.specs.Access.{store, copy_unit}
use Rattle.obj_mem.specs.Table.{addresses_of}
use Rattle.cheri_c_sem.specs.Modes.{Store, stored, copied, with_memory, operations, placed_plan, local_offset}
use Rattle.tac_run.specs.Bases.{IsBased, AreBased, Lasts, KeepBases, MapsKeepBases}
use Rattle.tac_run.proofs.Accesses.{load_based, store_based, copy_unit_based, stays}
use Rattle.tac_run.proofs.Objects.{Follows, grows_on, base_last, one_longer, add_based, life_based, life_long}
use Rattle.tac_run.proofs.Objects.{zero_based}
use Rattle.tac_run.proofs.Pointers.{move_based, narrow_based, work_based}

lasting : (s t : Store) → Follows s.memory t.memory → Lasts s t
lasting s t h = record { based = h.0; grows = h.1 }

stored_lasts : (s : Store) (r : Result Memory Fault) → IfOk r (Follows s.memory) → IfOk (stored s r) (Lasts s)
stored_lasts s (Ok m) h = lasting s (with_memory s m) h
stored_lasts s (Err e) h = tt

copied_lasts : (s : Store) (r : Result Memory UnitFault) → IfOk r (Follows s.memory) → IfOk (copied s r) (Lasts s)
copied_lasts s (Ok m) h = lasting s (with_memory s m) h
copied_lasts s (Err e) h = tt

-- a local is added, and is dead
dead_based : (d : object.Mode) (m : Memory) → AreBased m → (n base : ℕ) → base < 2 ^ 64 →
    Follows m (rest (add d m n base) (length m.shapes))
dead_based d m based n base small =
    let there = add_based d m based n base small in
    let gone = life_based (add d m n base) there.0 object.Inactive (length m.shapes) in
    (gone.0, grows_on m.shapes (add d m n base).shapes _ there.1 gone.1)

module _ (m : Map) (small : m.heap.0 + m.heap.1 < 2 ^ 64) where
  abbrev IsAllocated : Memory → Allocation → Type 0
  IsAllocated before a = IsBased a.memory.shapes a.pointer × Follows before a.memory

  allocate_based : (s : Memory) (heap n : ℕ) → AreBased s → IsAllocated s (placed_allocate (addresses_of m) s heap n)
  allocate_based s heap n based =
      go (nat_lt (m.heap.0 + m.heap.1 - m.heap.0) n) (nat_lt (m.heap.0 + m.heap.1) (start + owned n)) refl where
        start : ℕ
        start = rounded_up heap (allocation_alignment n)

        go : (b c : Bool) → nat_lt (m.heap.0 + m.heap.1) (start + owned n) ≡ c
            → IsAllocated s (if b then refused s heap else if c then refused s heap
            else allocated (Placed (addresses_of m)) s n start (start + owned n))
        go true c e = (tt, (based, stays s.shapes))
        go false true e = (tt, (based, stays s.shapes))
        go false false e =
            let inside = ltb-false _ _ e in
            let shape : Shape = record { length = n; owned = owned n; life = object.Active; base = start } in (
              (
                omega (arith, one_longer s.shapes shape),
                subst (λ b. b + 0 < 2 ^ 64) (sym (base_last s.shapes shape)) (omega arith),
              ),
              add_based (Placed (addresses_of m)) s based n start (omega arith),
            )

  keeps : KeepBases m (operations (placed_plan m))
  unfolding operations
  keeps =
      let a = addresses_of m in
      let d = Placed a in
      record {
        offset = λ s v by. move_based a s.memory.shapes v by;
        narrow = λ s v n exact. narrow_based a s.memory.shapes v n exact;
        work = work_based a;
        load = λ s p n based. load_based a s.memory based p n;
        store = λ s p v n based h. stored_lasts s (store d s.memory p n v) (store_based a s.memory based p v n h);
        copy_unit = λ s from to n based. copied_lasts s (copy_unit d s.memory from to n)
            (copy_unit_based a s.memory based from to n);
        empty = record { bases = λ k. omega arith; values = λ k g c v e f. absurd (none-some c e) };
        add_global = λ s k n based b. lasting s _ (add_based d s.memory based n (slice_index_or m.globals k 0) b);
        add_literal = λ s k n based b. lasting s _ (add_based d s.memory based n (slice_index_or m.literals k 0) b);
        add_local = λ s frame f k n based b. lasting s _
            (dead_based d s.memory based n (frame + local_offset (slice_get m.frames f) k) b);
        count = λ s. refl;
        count_local = λ s frame f k n. life_long
            (add d s.memory n (frame + local_offset (slice_get m.frames f) k)) object.Inactive (length s.memory.shapes)
            ∙ one_longer s.memory.shapes _;
        whole = λ s object permissions based l. (l, omega (arith, based.bases object));
        zero = λ s object based. lasting s _ (zero_based s.memory based d object);
        end = λ s k based. lasting s _ (life_based s.memory based object.Returned k);
        allocate = λ s n based. let r = allocate_based s.memory s.heap n based in (r.0, lasting s _ r.1);
      }

pub maps_keep_bases_law : MapsKeepBases
maps_keep_bases_law m small = keeps m small
