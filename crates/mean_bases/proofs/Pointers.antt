-- Operations on one pointer.
use Rattle.std.proofs.Common.{◌≡◌, ℕ, ◌+◌, ◌-◌, ◌%◌, ◌^◌, ◌<◌, ◌==◌, ◌&&◌, ◌||◌, not, Bool, true, false, List}
use Rattle.std.proofs.Common.{refl, arith, Result, Ok, Err}
use Rattle.std.specs.Prelude.{nat_le, IfOk, if◌then◌else◌}
use Rattle.std.proofs.lemmas.Bool.{and_parts, leb-true}
use Rattle.cap_concentrate.specs.Rounding.{least_base, least_top}
use Rattle.cap_concentrate.proofs.Least.{least_functions}
use Rattle.obj_mem.specs.declared.ending.Fault.{Fault}
use Rattle.obj_mem.specs.Values.{Value, Int, Live, Fun, Raw, Addresses, untagged, cleared}
use Rattle.obj_mem.specs.Objects.{Shape, Placed, base_in}
use Rattle.obj_mem.specs.Comparisons.{identical}
use Rattle.obj_mem.specs.Pointers.{keeps, at_offset, narrowed_to, move, narrow, clear, mask, set_address, get_tag}
use Rattle.obj_mem.specs.Pointers.{get_base, get_length, get_offset}
use Rattle.cheri_c_sem.specs.Kinds.{number_of}
use Rattle.cheri_c_sem.specs.Modes.{Store, number_answer, truth_answer, work_of}
use Rattle.cheri_c_sem.specs.Operations.{Work, Base, Offset, Length, Tag, Perms, Clear, Set_address, And_perms}
use Rattle.cheri_c_sem.specs.Operations.{Equal_exact, Rounded, Mask}
use Rattle.mean_bases.specs.Moments.{IsLow}

numbers_low : (r : Result ℕ Fault) → IfOk (number_answer r) IsLow
numbers_low (Ok n) = tt
numbers_low (Err e) = tt

truths_low : (r : Result Bool Fault) → IfOk (truth_answer r) IsLow
truths_low (Ok true) = tt
truths_low (Ok false) = tt
truths_low (Err e) = tt

module _ (a : Addresses) (shapes : List Shape) where
  untagged_low : (v : Value) (to : ℕ) → IsLow (untagged a (base_in shapes) v to)
  untagged_low (Int n) to = tt
  untagged_low (Live o low high at p) to = tt
  untagged_low (Fun f) to = tt
  untagged_low (Raw y z) to = tt

  at_offset_low : (o low high at p to : ℕ) → IsLow (Live o low high at p) →
      IsLow (at_offset a (base_in shapes) o low high at p to)
  at_offset_low o low high at p to h =
      go (keeps (base_in shapes o + low) (base_in shapes o + high) ((base_in shapes o + to) % 2 ^ 64)) where
        go : (b : Bool) → IsLow (if b then Live o low high to p
            else untagged a (base_in shapes) (Live o low high at p) ((base_in shapes o + to) % 2 ^ 64))
        go true = h
        go false = tt

  pub move_low : (v : Value) (by : ℕ) → IsLow v → IfOk (move (Placed a) shapes v by) IsLow
  move_low (Int n) by h = tt
  move_low (Live o low high at p) by h = at_offset_low o low high at p ((at + by) % 2 ^ 64) h
  move_low (Fun f) by h = tt
  move_low (Raw y z) by h = tt

  narrowed_low : (o low high at p start n : ℕ) (exact : Bool) → start < 2 ^ 64 →
      IsLow (Live o low high at p) →
      IsLow (narrowed_to a (base_in shapes) o low high at p start n (least_base start (start + n))
      (least_top start (start + n)) exact)
  narrowed_low o low high at p start n exact small h = go _ refl where
    base : ℕ
    base = base_in shapes o

    bottom : ℕ
    bottom = least_base start (start + n)

    top : ℕ
    top = least_top start (start + n)

    go : (b : Bool) → (nat_le (start + n) (2 ^ 64) && nat_le (base + low) bottom && nat_le top (base + high)
        && (not exact || (bottom == start && top == start + n))) ≡ b
        → IsLow (if b then Live o (bottom - base) (top - base) at p
        else cleared a (base_in shapes) (Live o low high at p))
    go true e =
        let front = and_parts _ _ (and_parts _ _ (and_parts _ _ e).0).0 in
        let within = leb-true (start + n) (2 ^ 64) front.0 in
        let above = leb-true (base + low) bottom front.1 in
        let below = leb-true top (base + high) (and_parts _ _ (and_parts _ _ e).0).1 in
        let least = least_functions start (start + n) (omega arith) within in
        let from = least.from in
        let to = least.to in
        let small = h.1 in
        (omega arith, omega arith)
    go false e = tt

  pub narrow_low : (v : Value) (n : ℕ) (exact : Bool) → IsLow v →
      IfOk (narrow (Placed a) shapes v n exact) IsLow
  narrow_low (Int x) n exact h = tt
  narrow_low (Live o low high at p) n exact h =
      narrowed_low o low high at p ((base_in shapes o + at) % 2 ^ 64) n exact (omega arith) h
  narrow_low (Fun f) n exact h = tt
  narrow_low (Raw y z) n exact h = tt

  clear_low : (v : Value) → IfOk (clear (Placed a) shapes v) IsLow
  clear_low (Int n) = tt
  clear_low (Live o low high at p) = tt
  clear_low (Fun f) = tt
  clear_low (Raw y z) = tt

  mask_low : (v : Value) (bits : ℕ) → IsLow v → IfOk (mask (Placed a) shapes v bits) IsLow
  mask_low (Int n) bits h = tt
  mask_low (Live o low high at p) bits h = h
  mask_low (Fun f) bits h = tt
  mask_low (Raw y z) bits h = tt

  set_address_low : (v : Value) (to : ℕ) → IsLow v →
      IfOk (set_address (Placed a) shapes v to) IsLow
  set_address_low (Int n) to h = tt
  set_address_low (Live o low high at p) to h =
      at_offset_low o low high at p ((to + 2 ^ 64 - base_in shapes o) % 2 ^ 64) h
  set_address_low (Fun f) to h = tt
  set_address_low (Raw y z) to h = tt

truth_low : (b : Bool) → IfOk (truth_answer (Ok b)) IsLow
truth_low b = truths_low (Ok b)

module _ (a : Addresses) (s : Store) where
  pub work_low : (w : Work) (v x : Value) → IsLow v →
      IfOk (work_of (Placed a) s w v x) IsLow
  work_low Base v x h = numbers_low (get_base (Placed a) s.memory.shapes v)
  work_low Offset v x h = numbers_low (get_offset (Placed a) s.memory.shapes v)
  work_low Length v x h = numbers_low (get_length (Placed a) s.memory.shapes v)
  work_low Tag v x h = truth_low (get_tag v)
  work_low Perms v x h = tt
  work_low Clear v x h = clear_low a s.memory.shapes v
  work_low Set_address v x h = set_address_low a s.memory.shapes v (number_of x) h
  work_low And_perms v x h = mask_low a s.memory.shapes v (number_of x) h
  work_low Equal_exact v x h = truths_low (identical (Placed a) s.memory.shapes v x)
  work_low Rounded v x h = tt
  work_low Mask v x h = tt
