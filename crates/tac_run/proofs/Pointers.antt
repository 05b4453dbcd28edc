-- Operations on one pointer.
use Rattle.std.proofs.Common.{◌≡◌, ℕ, ◌+◌, ◌-◌, ◌%◌, ◌^◌, ◌<◌, ◌==◌, ◌&&◌, ◌||◌, not, Bool, true, false, List}
use Rattle.std.proofs.Common.{refl, arith, Result, Ok, Err}
use Rattle.std.specs.Prelude.{nat_le, IfOk, if◌then◌else◌}
use Rattle.std.proofs.lemmas.Bool.{and_parts, leb-true}
use Rattle.cap_concentrate.specs.Rounding.{least_base, least_top}
use Rattle.cap_concentrate.proofs.Least.{least_functions}
use Rattle.obj_mem.specs.declared.ending.Fault.{Fault}
use Rattle.obj_mem.specs.Values.{Value, Int, Live, Fun, Raw, Addresses, untagged, cleared}
use Rattle.obj_mem.specs.Objects.{Shape, Placed, base_in}
use Rattle.obj_mem.specs.Comparisons.{identical}
use Rattle.obj_mem.specs.Pointers.{keeps, at_offset, narrowed_to, move, narrow, clear, mask, set_address, get_tag}
use Rattle.obj_mem.specs.Pointers.{get_base, get_length, get_offset}
use Rattle.cheri_c_sem.specs.Kinds.{number_of}
use Rattle.cheri_c_sem.specs.Modes.{Store, number_answer, truth_answer, work_of}
use Rattle.cheri_c_sem.specs.Operations.{Work, Base, Offset, Length, Tag, Perms, Clear, Set_address, And_perms}
use Rattle.cheri_c_sem.specs.Operations.{Equal_exact, Rounded, Mask}
use Rattle.tac_run.specs.Bases.{IsBased}

numbers_based : (shapes : List Shape) (r : Result ℕ Fault) → IfOk (number_answer r) (IsBased shapes)
numbers_based shapes (Ok n) = tt
numbers_based shapes (Err e) = tt

truths_based : (shapes : List Shape) (r : Result Bool Fault) → IfOk (truth_answer r) (IsBased shapes)
truths_based shapes (Ok true) = tt
truths_based shapes (Ok false) = tt
truths_based shapes (Err e) = tt

module _ (a : Addresses) (shapes : List Shape) where
  untagged_based : (v : Value) (to : ℕ) → IsBased shapes (untagged a (base_in shapes) v to)
  untagged_based (Int n) to = tt
  untagged_based (Live o low high at p) to = tt
  untagged_based (Fun f) to = tt
  untagged_based (Raw y z) to = tt

  at_offset_based : (o low high at p to : ℕ) → IsBased shapes (Live o low high at p) →
      IsBased shapes (at_offset a (base_in shapes) o low high at p to)
  at_offset_based o low high at p to h =
      go (keeps (base_in shapes o + low) (base_in shapes o + high) ((base_in shapes o + to) % 2 ^ 64)) where
        go : (b : Bool) → IsBased shapes (if b then Live o low high to p
            else untagged a (base_in shapes) (Live o low high at p) ((base_in shapes o + to) % 2 ^ 64))
        go true = h
        go false = tt

  pub move_based : (v : Value) (by : ℕ) → IsBased shapes v → IfOk (move (Placed a) shapes v by) (IsBased shapes)
  move_based (Int n) by h = tt
  move_based (Live o low high at p) by h = at_offset_based o low high at p ((at + by) % 2 ^ 64) h
  move_based (Fun f) by h = tt
  move_based (Raw y z) by h = tt

  narrowed_based : (o low high at p start n : ℕ) (exact : Bool) → start < 2 ^ 64 →
      IsBased shapes (Live o low high at p) →
      IsBased shapes (narrowed_to a (base_in shapes) o low high at p start n (least_base start (start + n))
      (least_top start (start + n)) exact)
  narrowed_based o low high at p start n exact small h = go _ refl where
    base : ℕ
    base = base_in shapes o

    bottom : ℕ
    bottom = least_base start (start + n)

    top : ℕ
    top = least_top start (start + n)

    go : (b : Bool) → (nat_le (start + n) (2 ^ 64) && nat_le (base + low) bottom && nat_le top (base + high)
        && (not exact || (bottom == start && top == start + n))) ≡ b
        → IsBased shapes (if b then Live o (bottom - base) (top - base) at p
        else cleared a (base_in shapes) (Live o low high at p))
    go true e =
        let front = and_parts _ _ (and_parts _ _ (and_parts _ _ e).0).0 in
        let within = leb-true (start + n) (2 ^ 64) front.0 in
        let above = leb-true (base + low) bottom front.1 in
        let below = (least_functions start (start + n) (omega arith) within).from in
        (h.0, omega arith)
    go false e = tt

  pub narrow_based : (v : Value) (n : ℕ) (exact : Bool) → IsBased shapes v →
      IfOk (narrow (Placed a) shapes v n exact) (IsBased shapes)
  narrow_based (Int x) n exact h = tt
  narrow_based (Live o low high at p) n exact h =
      narrowed_based o low high at p ((base_in shapes o + at) % 2 ^ 64) n exact (omega arith) h
  narrow_based (Fun f) n exact h = tt
  narrow_based (Raw y z) n exact h = tt

  clear_based : (v : Value) → IfOk (clear (Placed a) shapes v) (IsBased shapes)
  clear_based (Int n) = tt
  clear_based (Live o low high at p) = tt
  clear_based (Fun f) = tt
  clear_based (Raw y z) = tt

  mask_based : (v : Value) (bits : ℕ) → IsBased shapes v → IfOk (mask (Placed a) shapes v bits) (IsBased shapes)
  mask_based (Int n) bits h = tt
  mask_based (Live o low high at p) bits h = h
  mask_based (Fun f) bits h = tt
  mask_based (Raw y z) bits h = tt

  set_address_based : (v : Value) (to : ℕ) → IsBased shapes v →
      IfOk (set_address (Placed a) shapes v to) (IsBased shapes)
  set_address_based (Int n) to h = tt
  set_address_based (Live o low high at p) to h =
      at_offset_based o low high at p ((to + 2 ^ 64 - base_in shapes o) % 2 ^ 64) h
  set_address_based (Fun f) to h = tt
  set_address_based (Raw y z) to h = tt

truth_based : (shapes : List Shape) (b : Bool) → IfOk (truth_answer (Ok b)) (IsBased shapes)
truth_based shapes b = truths_based shapes (Ok b)

module _ (a : Addresses) (s : Store) where
  pub work_based : (w : Work) (v x : Value) → IsBased s.memory.shapes v →
      IfOk (work_of (Placed a) s w v x) (IsBased s.memory.shapes)
  work_based Base v x h = numbers_based s.memory.shapes (get_base (Placed a) s.memory.shapes v)
  work_based Offset v x h = numbers_based s.memory.shapes (get_offset (Placed a) s.memory.shapes v)
  work_based Length v x h = numbers_based s.memory.shapes (get_length (Placed a) s.memory.shapes v)
  work_based Tag v x h = truth_based s.memory.shapes (get_tag v)
  work_based Perms v x h = tt
  work_based Clear v x h = clear_based a s.memory.shapes v
  work_based Set_address v x h = set_address_based a s.memory.shapes v (number_of x) h
  work_based And_perms v x h = mask_based a s.memory.shapes v (number_of x) h
  work_based Equal_exact v x h = truths_based s.memory.shapes (identical (Placed a) s.memory.shapes v x)
  work_based Rounded v x h = tt
  work_based Mask v x h = tt
