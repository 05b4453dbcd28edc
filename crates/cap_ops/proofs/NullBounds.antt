-- The bounds of null are the whole address space, at each address.
use Rattle.std.proofs.Common.{◌≡◌, ℕ, ◌/◌, ◌^◌, ◌<◌, true, refl, arith}
use Rattle.cap_concentrate.specs.Decoding.{exponent, mantissa, whole_top}
use Rattle.cap_concentrate.specs.Packing.{fields_of}
use Rattle.cap_concentrate.proofs.Region.{InRegion}
use Rattle.cap_concentrate.proofs.Decoded.{Spell, IsSpan, decoded_base, decoded_top}
use Rattle.cap_ops.specs.Capability.{null_at, base, top}

null_spell : Spell true 6 4 52 0 4096
unfolding exponent mantissa whole_top
null_spell = record { exponent_is = refl; base_is = refl; top_is = refl }

whole_span : IsSpan 52 0 4096
whole_span = record { short = omega arith; base_within = omega arith; top_within = omega arith }

whole_region : (address : ℕ) → address < 2 ^ 64 → InRegion 0 (address / 2 ^ 52)
whole_region address h = record { from = omega arith; below = omega arith }

pub null_base : (address : ℕ) → address < 2 ^ 64 → base (null_at address) ≡ 0
unfolding null_at fields_of
null_base address h = decoded_base true 6 4 52 0 4096 address null_spell whole_span (whole_region address h)

pub null_top : (address : ℕ) → address < 2 ^ 64 → top (null_at address) ≡ 2 ^ 64
unfolding null_at fields_of
null_top address h = decoded_top true 6 4 52 0 4096 address null_spell whole_span (whole_region address h)
