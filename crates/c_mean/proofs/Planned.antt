-- What memory asks of its mode.
use Rattle.std.proofs.Common.{◌≡◌, ℕ, ◌+◌, ◌-◌, ◌^◌, ◌<◌, ◌≤◌, Bool, true, false, ◌||◌, Option, Some, None}
use Rattle.std.proofs.Common.{refl, subst, arith, div-mul-le_self}
use Rattle.std.specs.Borrow.{Bor}
use Rattle.std.specs.Prelude.{nat_lt, slice_get, if◌then◌else◌}
use Rattle.std.proofs.lemmas.Bool.{ltb-false}
use Rattle.std.proofs.lemmas.Option.{none-some}
use Rattle.obj_mem.specs.declared.map.Frame.{Frame}
use Rattle.obj_mem.specs.declared.map.Map.{Map}
use Rattle.obj_mem.specs.declared.map.Mode as known
use Rattle.obj_mem.specs.declared.map.Mode.TheVariants as mode
use Rattle.obj_mem.specs.Values.{Value, Int, Live, Fun, Raw}
use Rattle.cheri_c_sem.specs.Kinds.{nothing}
use Rattle.cheri_c_sem.specs.Modes.{Store, operations, placed_plan, below, frame_within, local_offset}
use Rattle.cheri_c_sem.specs.Operations.{Base}
use Rattle.object_memory.specs.Answers.{HasBase, mode_of}
use Rattle.mean_operations.specs.Answers.{IsWord}
use Rattle.mean_run.specs.Allocated.{IsEntered}
use Rattle.c_mean.specs.HeldMemory.{IsRoomy, IsRoomyIn, plan_of}

pub mode_is : (d : known.Mode) → mode_of d ≡ (plan_of d).mode
mode_is (mode.Placed m) = refl
mode_is mode.Strict = refl

-- ---- under a map

told : (m : Map) (s : Store) (v : Value) → IsWord ((operations (placed_plan m)).work s Base v nothing) →
    HasBase s.memory.shapes v
unfolding operations
told m s (Live o low high at p) h = h
told m s (Int n) h = tt
told m s (Fun f) h = tt
told m s (Raw y z) h = tt

-- a frame and its place n end below an address
fits : (m : Map) → IsRoomy m → (f n frame address : ℕ) (o : Option Frame) → slice_get m.frames f ≡ o →
    frame_within m.stack.0 address o ≡ Some frame → frame + local_offset o n ≤ address
fits m roomy f n frame address None e q = absurd (none-some frame q)
fits m roomy f n frame address (Some r) e q = go (nat_lt address r.size) (nat_lt (below address r) m.stack.0) refl q
  where
    go : (b c : Bool) → nat_lt address r.size ≡ b → (if b || c then None else Some (below address r)) ≡ Some frame →
        frame + local_offset (Some r) n ≤ address
    go true c z q = absurd (none-some frame q)
    go false true z q = absurd (none-some frame q)
    go false false z q =
        let same : below address r ≡ frame = cc in
        let down = div-mul-le_self (address - r.size) r.align in
        let room = ltb-false _ _ z in
        let inside = roomy.2 f n r e in
        omega (arith, same)

entered : (m : Map) → IsRoomy m → (f n frame : ℕ) → IsEntered (operations (placed_plan m)) f frame →
    frame + local_offset (slice_get m.frames f) n < 2 ^ 64
unfolding operations
entered m roomy f n frame h =
    let below = fits m roomy f n frame h.0 (slice_get m.frames f) refl h.2 in
    let small = h.1 in
    omega arith

module _ (d : known.Mode) (m : Bor Map) (is : d ≡ mode.Placed m) where
  pub base_told : (s : Store) (v : Value) → IsWord ((operations (plan_of d)).work s Base v nothing) →
      HasBase s.memory.shapes v
  base_told s v h =
      told m.now s v (subst (λ d. IsWord ((operations (plan_of d)).work s Base v nothing)) is h)

  pub stack_fits : IsRoomyIn d → m.now.stack.0 + m.now.stack.1 < 2 ^ 64
  stack_fits h = (h m is).1

  pub local_fits : IsRoomyIn d → (f n frame : ℕ) → IsEntered (operations (plan_of d)) f frame →
      frame + local_offset (slice_get m.now.frames f) n < 2 ^ 64
  local_fits h f n frame e =
      entered m.now (h m is) f n frame (subst (λ d. IsEntered (operations (plan_of d)) f frame) is e)
