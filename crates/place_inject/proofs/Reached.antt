-- An access of the meaning and one of the machine, as far as the place that both reach.
use Rattle.std.proofs.Common.{◌≡◌, ℕ, ◌+◌, ◌%◌, ◌^◌, ◌≤◌, refl, sym, ap, ◌∙◌, subst, arith, Option, Some, None}
use Rattle.std.specs.Prelude.{find, slice_get, pos, Result, Ok, Err}
use Rattle.cap_ops.specs.declared.capability.TheConstants.{LOAD_CAPABILITY}
use Rattle.cap_ops.specs.Capability.{permits}
use Rattle.cap_ops.specs.declared.access.Access.{Access}
use Rattle.cap_ops.specs.declared.access.Cause.{Cause}
use Rattle.cap_ops.specs.Access.{size, IsAccess, in_order, answer, checked}
use Rattle.cap_machine.specs.declared.machine.Machine.{Machine}
use Rattle.cap_machine.specs.declared.end.Step.{Step}
use Rattle.cap_machine.specs.Rows.{trap, plus}
use Rattle.obj_mem.specs.declared.ending.Fault.{Fault}
use Rattle.obj_mem.specs.declared.ending.Fault.TheVariants as F
use Rattle.obj_mem.specs.Values.{Value, Int, Live, Fun, Raw, Addresses, capability_of}
use Rattle.obj_mem.specs.Objects.{Life, Active, Inactive, Returned, Shape, Content, Memory, Placed, base_in}
use Rattle.obj_mem.specs.Access.{Spot, misses, unless, onward, reach, outside_unless_active, at_place, at_spot}
use Rattle.place_inject.specs.Values.{IsHeld, IsKnown}
use Rattle.place_inject.specs.Objects.{ObjectsFit}
use Rattle.place_inject.proofs.Checked.{pointer_checked, passed, untagged_checked, sealed_checked}
use Rattle.place_inject.proofs.Known.{points, pointer_is, base_is, plus_zero, integer_tag, raw_tag, sentry_tag}
use Rattle.place_inject.proofs.Known.{sentry_sealed, live_address}

-- what both reach: n bytes in an active object, at a multiple of n
pub record Reached (objects : Memory) (n : ℕ) (p : Spot) (s : Shape) (c : Content) : Type 0 where
  pub there : slice_get objects.shapes p.object ≡ Some s
  pub has : slice_get objects.contents p.object ≡ Some c
  pub active : s.life ≡ Active
  pub whole : p.at % n ≡ 0
  pub room : p.at + n ≤ s.owned

-- the place of a pointer
abbrev pub spot_of : (o low high at permissions : ℕ) → Spot
spot_of o low high at permissions = record {
  object = o;
  low = low;
  high = high;
  at = at;
  carries =
      permits permissions LOAD_CAPABILITY;
}

module _ {B : Type 0} (functions : ℕ) (a : Addresses) (objects : Memory) (m : Machine)
    (f : ObjectsFit functions a objects m.mem)
    (P : Result B Fault → Step × Machine → Type 0) (traps : (c : Cause) → P (Err (F.Cause c)) (trap m c))
    (outside : (s : Step × Machine) → P (Err F.Outside) s)
    (n : ℕ) (x : Access) (is : IsAccess x) (sized : size x ≡ n) (g : Spot → Content → Result B Fault)
    (machine : Result ℕ Cause → Step × Machine) (fails : (c : Cause) → machine (Err c) ≡ trap m c) where
  module _ (o low high at permissions : ℕ) (held : IsHeld objects.shapes o low high at permissions)
      (good : (s : Shape) (c : Content) → Reached objects n (spot_of o low high at permissions) s c
      → P (g (spot_of o low high at permissions) c) (machine (Ok (s.base + at)))) where
    by_life : (s : Shape) (c : Content) → slice_get objects.shapes o ≡ Some s → slice_get objects.contents o ≡ Some c
        → at % n ≡ 0 → at + n ≤ s.owned
        → (l : Life) → s.life ≡ l → P (outside_unless_active l (g (spot_of o low high at permissions) c)) (machine
        (Ok (s.base + at)))
    by_life s c there has whole room Active e = good s c
        (record { there = there; has = has; active = e; whole = whole; room = room })
    by_life s c there has whole room Inactive e = outside (machine (Ok (s.base + at)))
    by_life s c there has whole room Returned e = outside (machine (Ok (s.base + at)))

    by_content : (s : Shape) → slice_get objects.shapes o ≡ Some s → at % n ≡ 0 → at + n ≤ s.owned
        → (c : Option Content) → slice_get objects.contents o ≡ c
        → P (at_place (Placed a) objects (spot_of o low high at permissions) n (Some s) c
        (g (spot_of o low high at permissions))) (machine (Ok (s.base + at)))
    by_content s there whole room None e = outside (machine (Ok (s.base + at)))
    by_content s there whole room (Some c) e = by_life s c there e whole room s.life refl

    by_cause : (r : Option Cause) → find (misses low high at permissions x) in_order ≡ r
        → P (onward (unless r (Ok (spot_of o low high at permissions))) (λ p. at_spot (Placed a) objects p n (g p)))
        (machine (answer ((held.shape.base + at) % 2 ^ 64) r))
    by_cause (Some c) e = subst (P (Err (F.Cause c))) (sym (fails c)) (traps c)
    by_cause None e =
        let s = held.shape in
        let in_it = passed low high at permissions x e in
        let to = in_it.to in
        let inside = held.inside in
        let pts = points functions a objects m.mem f o low high at permissions held in
        let below = pts.to in
        let whole : at % n ≡ 0 = rw sized at in_it.whole in
        let room : at + n ≤ s.owned = omega arith in
        let place : s.base + at ≡ (s.base + at) % 2 ^ 64 = omega arith in
        let result = by_content s held.there whole room (slice_get objects.contents o) refl in
        let result' = subst (λ y. P (at_place (Placed a) objects (spot_of o low high at permissions) n y
        (slice_get objects.contents o) (g (spot_of o low high at permissions))) (machine (Ok (s.base + at))))
        (sym held.there) result in
        subst (λ y. P (at_spot (Placed a) objects (spot_of o low high at permissions) n
        (g (spot_of o low high at permissions))) (machine (Ok y))) place result'

    through_pointer : P (onward (reach x (Live o low high at permissions)) (λ p. at_spot (Placed a) objects p n (g p)))
        (machine (checked (capability_of a (base_in objects.shapes) (Live o low high at permissions))
        (plus (capability_of a (base_in objects.shapes) (Live o low high at permissions)).fields.address
        (pos 0)) x))
    through_pointer =
        let s = held.shape in
        let base = base_in objects.shapes in
        let v = Live o low high at permissions in
        let address : plus (capability_of a base v).fields.address (pos 0) ≡ (s.base + at) % 2 ^ 64 =
        ap (λ y. plus y (pos 0)) (live_address a base o low high at permissions ∙ ap (λ b. (b + at) % 2 ^ 64)
        (base_is objects.shapes o s held.there))
        ∙ plus_zero ((s.base + at) % 2 ^ 64) (omega arith) in
        let check : checked (capability_of a base v) (plus (capability_of a base v).fields.address (pos 0)) x ≡ answer
        ((s.base + at) % 2 ^ 64) (find (misses low high at permissions x) in_order) =
        ap (λ y. checked (capability_of a base v) y x) address
        ∙ ap (λ c. checked c ((s.base + at) % 2 ^ 64) x)
        (pointer_is a objects.shapes o low high at permissions s held.there)
        ∙ pointer_checked s.base low high at permissions
        (points functions a objects m.mem f o low high at permissions held) x is in
        subst (λ r. P (onward (reach x v) (λ p. at_spot (Placed a) objects p n (g p))) (machine r)) (sym check)
        (by_cause (find (misses low high at permissions x) in_order) refl)

  abbrev Answers : Value → Type 0
  Answers p = P (onward (reach x p) (λ q. at_spot (Placed a) objects q n (g q)))
      (machine (checked (capability_of a (base_in objects.shapes) p)
      (plus (capability_of a (base_in objects.shapes) p).fields.address (pos 0)) x))

  fault : (c : Cause) (r : Result ℕ Cause) → r ≡ Err c → P (Err (F.Cause c)) (machine r)
  fault c r e = subst (λ y. P (Err (F.Cause c)) (machine y)) (sym e)
      (subst (P (Err (F.Cause c))) (sym (fails c)) (traps c))

  -- through any value
  pub through : (p : Value) → IsKnown objects.shapes functions p
      → ((o low high at permissions : ℕ) (held : IsHeld objects.shapes o low high at permissions)
      → p ≡ Live o low high at permissions → (s : Shape) (c : Content)
      → Reached objects n (spot_of o low high at permissions) s c
      → P (g (spot_of o low high at permissions) c) (machine (Ok (s.base + at))))
      → P (onward (reach x p) (λ q. at_spot (Placed a) objects q n (g q)))
      (machine (checked (capability_of a (base_in objects.shapes) p)
      (plus (capability_of a (base_in objects.shapes) p).fields.address (pos 0)) x))
  through (Live o low high at permissions) held good = through_pointer o low high at permissions held
      (good o low high at permissions held refl)
  through (Int y) known good = let c = capability_of a (base_in objects.shapes) (Int y) in
      fault _ _ (untagged_checked c (plus c.fields.address (pos 0)) x (integer_tag a (base_in objects.shapes) y))
  through (Raw y z) known good = let c = capability_of a (base_in objects.shapes) (Raw y z) in
      fault _ _ (untagged_checked c (plus c.fields.address (pos 0)) x (raw_tag a (base_in objects.shapes) y z))
  through (Fun y) known good = let c = capability_of a (base_in objects.shapes) (Fun y) in
      fault _ _ (sealed_checked c (plus c.fields.address (pos 0)) x (sentry_tag a (base_in objects.shapes) y)
      (sentry_sealed a (base_in objects.shapes) y))
