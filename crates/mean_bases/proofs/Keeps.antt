-- The operations under a map keep bounds low.
use Rattle.std.proofs.Common.{◌≡◌, ℕ, suc, ◌+◌, ◌-◌, ◌^◌, ◌<◌, ◌≤◌, Bool, true, false, ◌||◌, List, [], ◌∷◌}
use Rattle.std.proofs.Common.{length, Option, Some, None, refl, sym, subst, arith, Result, Ok, Err, div-mul-le_self}
use Rattle.std.specs.Prelude.{nat_lt, IfOk, slice_get, if◌then◌else◌}
use Rattle.std.proofs.lemmas.Bool.{ltb-false}
use Rattle.std.proofs.lemmas.Option.{none-some}
use Rattle.cap_concentrate.specs.Rounding.{owned, rounded_up}
use Rattle.obj_mem.specs.declared.ending.Fault.{Fault}
use Rattle.obj_mem.specs.declared.ending.UnitFault.{UnitFault}
use Rattle.obj_mem.specs.declared.map.Frame.{Frame}
use Rattle.obj_mem.specs.declared.map.Map.{Map}
use Rattle.obj_mem.specs.Heap.{Allocation, allocation_alignment, refused, allocated, placed_allocate}
use Rattle.obj_mem.specs.Objects.{Memory, Placed, add, rest}
use Rattle.obj_mem.specs.Objects as object
use Rattle.obj_mem.specs.Access.{store, copy_unit}
use Rattle.obj_mem.specs.Table.{addresses_of}
use Rattle.cheri_c_sem.specs.Calls.{add_locals}
use Rattle.cheri_c_sem.specs.Kinds.{Kind, Plain, Capability, zero_of}
use Rattle.cheri_c_sem.specs.Modes.{Store, stored, copied, operations, placed_plan, local_offset}
use Rattle.cheri_c_sem.specs.Modes.{below, frame_within}
use Rattle.cheri_c_sem.specs.Operations.{Operations}
use Rattle.cheri_c_sem.specs.Tree.{Fun}
use Rattle.mean_bases.specs.Laws.{HasFrames}
use Rattle.mean_bases.specs.Moments.{IsLow, IsLowMemory, IsLowStore, IsLowFrame}
use Rattle.mean_bases.proofs.Accesses.{load_low, store_low, copy_unit_low}
use Rattle.mean_bases.proofs.Objects.{add_low, life_low, zero_low, whole_low}
use Rattle.mean_bases.proofs.Pointers.{move_low, narrow_low, work_low}
use Rattle.mean_bases.proofs.Stays.{Keeps}

stored_low : (s : Store) (r : Result Memory Fault) → IfOk r IsLowMemory → IfOk (stored s r) IsLowStore
stored_low s (Ok m) h = h
stored_low s (Err e) h = tt

copied_low : (s : Store) (r : Result Memory UnitFault) → IfOk r IsLowMemory → IfOk (copied s r) IsLowStore
copied_low s (Ok m) h = h
copied_low s (Err e) h = tt

zero_is_low : (k : Kind) → IsLow (zero_of k)
zero_is_low (Plain k) = tt
zero_is_low (Capability signed) = tt

-- a local is added, and is dead
dead_low : (d : object.Mode) (m : Memory) → IsLowMemory m → (n base : ℕ) → base < 2 ^ 63 → owned n < 2 ^ 63 →
    IsLowMemory (rest (add d m n base) (length m.shapes))
dead_low d m low n base small few =
    life_low (add d m n base) (add_low d m low n base small few) object.Inactive (length m.shapes)

module _ (m : Map) (small : m.heap.0 + m.heap.1 < 2 ^ 63) where
  abbrev IsAllocated : Allocation → Type 0
  IsAllocated a = IsLow a.pointer × IsLowMemory a.memory

  pub allocate_low : (s : Memory) (heap n : ℕ) → IsLowMemory s →
      IsAllocated (placed_allocate (addresses_of m) s heap n)
  allocate_low s heap n low =
      go (nat_lt (m.heap.0 + m.heap.1 - m.heap.0) n) (nat_lt (m.heap.0 + m.heap.1) (start + owned n)) refl where
        start : ℕ
        start = rounded_up heap (allocation_alignment n)

        go : (b c : Bool) → nat_lt (m.heap.0 + m.heap.1) (start + owned n) ≡ c
            → IsAllocated (if b then refused s heap else if c then refused s heap
            else allocated (Placed (addresses_of m)) s n start (start + owned n))
        go true c e = (tt, low)
        go false true e = (tt, low)
        go false false e =
            let inside = ltb-false _ _ e in (
              (omega arith, omega arith),
              add_low (Placed (addresses_of m)) s low n start (omega arith) (omega arith),
            )

-- ---- frames

module _ (funs : List Fun) (m : Map) (frames : HasFrames funs m) where
  abbrev ops : Operations Store
  ops = operations (placed_plan m)

  -- a frame, and each of a function's locals in it, below an address
  record IsBelow (f : ℕ) (objects : List ℕ) (to address : ℕ) : Type 0 where
    frame : to ≤ address
    locals : (k l : ℕ) → slice_get objects k ≡ Some l →
        to + (local_offset (slice_get m.frames f) k + owned l) ≤ address

  within : (f address to : ℕ) (g : Fun) → slice_get funs f ≡ Some g → (o : Option Frame) → slice_get m.frames f ≡ o →
      frame_within m.stack.0 address o ≡ Some to → IsBelow f g.objects to address
  within f address to g is None e q = absurd (none-some to q)
  within f address to g is (Some r) e q = go (nat_lt address r.size) (nat_lt (below address r) m.stack.0) refl q where
    go : (b c : Bool) → nat_lt address r.size ≡ b → (if b || c then None else Some (below address r)) ≡ Some to →
        IsBelow f g.objects to address
    go true c z q = absurd (none-some to q)
    go false true z q = absurd (none-some to q)
    go false false z q =
        let same : below address r ≡ to = cc in
        let down = div-mul-le_self (address - r.size) r.align in
        let room = ltb-false _ _ z in
        record {
          frame = omega (arith, same);
          locals = λ k l there. let inside = frames.locals f k l g r is e there in
              subst (λ o. to + (local_offset o k + owned l) ≤ address) (sym e) (omega (arith, same));
        }

  entered : (f address to : ℕ) (g : Fun) → slice_get funs f ≡ Some g → ops.enter f address ≡ Some to →
      IsBelow f g.objects to address
  unfolding operations
  entered f address to g is q = within f address to g is (slice_get m.frames f) refl q

  local_low : (s : Store) (frame f k n : ℕ) → IsLowStore s → frame + local_offset (slice_get m.frames f) k < 2 ^ 63 →
      owned n < 2 ^ 63 → IsLowStore (ops.add_local s frame f k n)
  unfolding operations
  local_low s frame f k n low small few =
      dead_low (Placed (addresses_of m)) s.memory low n (frame + local_offset (slice_get m.frames f) k) small few

  locals_low : (frame f : ℕ) (ls : List ℕ) (s : Store) (k : ℕ)
      → ((j l : ℕ) → slice_get ls j ≡ Some l →
      frame + (local_offset (slice_get m.frames f) (k + j) + owned l) < 2 ^ 63)
      → IsLowStore s → IsLowStore (add_locals ops s frame f k ls)
  locals_low frame f [] s k h low = low
  locals_low frame f (l ∷ ls) s k h low =
      let zeroth : k + 0 ≡ k = omega arith in
      let here = subst (λ i. frame + (local_offset (slice_get m.frames f) i + owned l) < 2 ^ 63) zeroth (h 0 l refl) in
      locals_low frame f ls (ops.add_local s frame f k l) (suc k)
      (λ j n e. let next : k + suc j ≡ suc k + j = omega arith in
      subst (λ i. frame + (local_offset (slice_get m.frames f) i + owned n) < 2 ^ 63) next (h (suc j) n e))
      (local_low s frame f k l low (omega arith) (omega arith))

  opened : (s : Store) (f at address : ℕ) (g : Fun) → slice_get funs f ≡ Some g → ops.enter f address ≡ Some at →
      IsLowFrame address → IsLowStore s → IsLowStore (add_locals ops s at f 0 g.objects) × IsLowFrame at
  opened s f at address g is e small low =
      let below = entered f address at g is e in
      let down = below.frame in (
        locals_low at f g.objects s 0
            (λ j l there.
            let inside = below.locals j l there in
            let same : j ≡ 0 + j = omega arith in
            subst (λ i. at + (local_offset (slice_get m.frames f) i + owned l) < 2 ^ 63) same (omega arith)) low,
        omega arith,
      )

  pub keeps : Keeps (operations (placed_plan m)) funs IsLow IsLowStore IsLowFrame
  unfolding operations
  keeps =
      let a = addresses_of m in
      let d = Placed a in
      record {
        numbers = λ n. tt;
        nulls = λ n. tt;
        functions = λ f. tt;
        offset = λ s v by. move_low a s.memory.shapes v by;
        narrow = λ s v n exact. narrow_low a s.memory.shapes v n exact;
        work = work_low a;
        load = λ s p n low. load_low a s.memory low p n;
        store = λ s p v n low h. stored_low s (store d s.memory p n v) (store_low a s.memory low p v n h);
        copy_unit = λ s from to n low. copied_low s (copy_unit d s.memory from to n)
            (copy_unit_low a s.memory low from to n);
        note_member = λ s v own low. low;
        unset = zero_is_low;
        falls = zero_is_low;
        whole = λ s object permissions low. (omega arith, whole_low s.memory low object);
        zero = λ s object low. zero_low s.memory low d object;
        leave = λ s object low. low;
        end = λ s k low. life_low s.memory low object.Returned k;
        allocate = λ s n low. allocate_low m frames.heap s.memory s.heap n low;
        opens = opened;
      }
