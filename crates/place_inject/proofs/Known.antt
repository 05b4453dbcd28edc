-- The capability that a known value is.
use Rattle.std.proofs.Common.{◌≡◌, ℕ, ◌+◌, ◌*◌, ◌%◌, ◌^◌, ◌<◌, true, false, List, refl, ap, arith, Some}
use Rattle.std.specs.Prelude.{slice_get, pos, ◌==◌}
use Rattle.ck_int.specs.Kinds.{kept_of}
use Rattle.cap_ops.specs.Capability.{null_at}
use Rattle.cap_concentrate.specs.Packing.{bits_of, flipped}
use Rattle.place_inject.proofs.Bits.{raw_stored}
use Rattle.cap_machine.specs.Rows.{plus}
use Rattle.cap_concentrate.specs.Encoding.{with_bounds}
use Rattle.cap_ops.specs.declared.capability.TheConstants.{UNSEALED}
use Rattle.cap_ops.specs.Bounded.{bounded}
use Rattle.tag_mem.specs.Areas.{Area}
use Rattle.obj_mem.specs.Values.{Value, Int, Live, Fun, Raw, Addresses, is_tagged, capability_of}
use Rattle.obj_mem.specs.Objects.{Shape, Memory, base_in, base_of_shape}
use Rattle.place_inject.specs.Values.{IsHeld, IsKnown}
use Rattle.place_inject.specs.Objects.{ObjectsFit}
use Rattle.place_inject.proofs.Checked.{Points}

pub base_is : (shapes : List Shape) (o : ℕ) (s : Shape) → slice_get shapes o ≡ Some s → base_in shapes o ≡ s.base
base_is shapes o s e = ap base_of_shape e

module _ (functions : ℕ) (a : Addresses) (m : Memory) (areas : List Area) (f : ObjectsFit functions a m areas) where
  pub points : (o low high at permissions : ℕ) → (h : IsHeld m.shapes o low high at permissions)
      → Points h.shape.base low high at permissions
  points o low high at permissions h =
      let placed = f.spread.placed o h.shape h.there in
      let from = placed.from in
      let to = placed.to in
      let inside = h.inside in
      record {
        aligned = f.aligned o h.shape h.there;
        from = from;
        ordered = h.ordered;
        to = omega arith;
        kept = h.kept;
        word = h.word;
        twelve_bits = h.twelve_bits;
      }

pub pointer_is : (a : Addresses) (shapes : List Shape) (o low high at permissions : ℕ) (s : Shape)
    → slice_get shapes o ≡ Some s
    → capability_of a (base_in shapes) (Live o low high at permissions) ≡ bounded (s.base + low)
    (s.base + high) permissions UNSEALED ((s.base + at) % 2 ^ 64)
unfolding capability_of
pointer_is a shapes o low high at permissions s e = ap (λ b. bounded (b + low) (b + high) permissions UNSEALED
    ((b + at) % 2 ^ 64)) (base_is shapes o s e)

pub sentry_tag : (a : Addresses) (base : ℕ → ℕ) (f : ℕ) → (capability_of a base (Fun f)).tag ≡ true
unfolding capability_of
sentry_tag a base f = refl

-- an instruction with immediate 0 is at the address itself
pub plus_zero : (x : ℕ) → x < 2 ^ 64 → plus x (pos 0) ≡ x
unfolding kept_of
plus_zero x h = omega arith

module _ (a : Addresses) (base : ℕ → ℕ) where
  pub integer_address : (n : ℕ) → (capability_of a base (Int n)).fields.address ≡ n
  unfolding capability_of null_at
  integer_address n = refl

  pub integer_tag : (n : ℕ) → (capability_of a base (Int n)).tag ≡ false
  unfolding capability_of null_at
  integer_tag n = refl

  pub raw_tag : (address upper : ℕ) → (capability_of a base (Raw address upper)).tag ≡ false
  unfolding capability_of
  raw_tag address upper = refl

  pub sentry_sealed : (f : ℕ) → ((capability_of a base (Fun f)).fields.otype == UNSEALED) ≡ false
  unfolding capability_of with_bounds
  sentry_sealed f = refl

  pub live_address : (o low high at permissions : ℕ) → (capability_of a base
      (Live o low high at permissions)).fields.address ≡ (base o + at) % 2 ^ 64
  unfolding capability_of with_bounds
  live_address o low high at permissions = refl

  pub live_tag : (o low high at permissions : ℕ) → (capability_of a base (Live o low high at permissions)).tag ≡ true
  unfolding capability_of
  live_tag o low high at permissions = refl

  -- the bits of a value without a tag as they stand in memory
  pub raw_bits : (address upper : ℕ) → (address < 2 ^ 64) × (upper < 2 ^ 64)
      → flipped (bits_of (capability_of a base (Raw address upper)).fields) ≡ upper * 2 ^ 64 + address
  unfolding capability_of
  raw_bits address upper k = raw_stored (upper * 2 ^ 64 + address) (omega (arith, k.0, k.1))

module _ (functions : ℕ) (a : Addresses) (m : Memory) (areas : List Area) (f : ObjectsFit functions a m areas) where
  -- a capability's address has 64 bits
  pub capability_word : (v : Value) → is_tagged v ≡ true → IsKnown m.shapes functions v
      → (capability_of a (base_in m.shapes) v).fields.address < 2 ^ 64
  unfolding capability_of with_bounds
  capability_word (Live o low high at permissions) t k = omega arith
  capability_word (Fun g) t k = let in_text = f.spread.in_text g k in let to =
      f.spread.text_to in omega (arith, in_text.1)
  capability_word (Raw y z) t k = absurd cc
  capability_word (Int n) t k = absurd cc

  pub capability_tag : (v : Value) → is_tagged v ≡ true → (capability_of a (base_in m.shapes) v).tag ≡ true
  unfolding capability_of
  capability_tag (Live o low high at permissions) t = refl
  capability_tag (Fun g) t = refl
  capability_tag (Raw y z) t = absurd cc
  capability_tag (Int n) t = absurd cc
