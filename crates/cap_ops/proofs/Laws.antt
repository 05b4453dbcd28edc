-- The laws that other crates cite: the operations on a capability with given bounds, permissions, object type and
-- address.
use Rattle.std.proofs.Common.{◌≡◌, ℕ, ◌+◌, ◌%◌, ◌^◌, ◌<◌, ◌≤◌, ◌&&◌, ◌⊎◌, nat_le, true, false, bit_and, refl, sym, ap}
use Rattle.std.proofs.Common.{◌∙◌, arith, inl, inr}
use Rattle.std.proofs.lemmas.Bool.{cases_Bool, cond-true, cond-false, and_from, le-leb, eq-eqb}
use Rattle.std.proofs.lemmas.Nat.{and_le_l}
use Rattle.std.proofs.Math.Nat.{mod-eq_of_lt}
use Rattle.cap_concentrate.specs.Decoding.{same_bounds}
use Rattle.cap_concentrate.specs.Rounding.{Encodable, IsLeastBounds, least_base, least_top, alignment, owned}
use Rattle.cap_concentrate.specs.Encoding.{with_bounds}
use Rattle.cap_concentrate.specs.Packing.{same_fields}
use Rattle.cap_concentrate.proofs.Laws.{with_bounds_decodes, with_bounds_near, canonical_fields, least_functions}
use Rattle.cap_concentrate.proofs.Laws.{least_inside, least_of_encodable, same_bounds_from, owned_ge, owned_encodable}
use Rattle.cap_ops.specs.declared.capability.Cap.{Cap}
use Rattle.cap_ops.specs.declared.capability.TheConstants.{UNSEALED, SENTRY, EXECUTE}
use Rattle.cap_ops.specs.Capability.{base, top, usable, permits, fits, is_exact, cleared, moved, with_request, narrowed}
use Rattle.cap_ops.specs.Capability.{narrowed_exactly, with_mask, masked, with_otype, sealed}
use Rattle.cap_ops.specs.Bounded.{plain_fields, bounded}
use Rattle.cap_ops.proofs.Inside.{Fits, fits_parts}

-- its bounds are the given ones at each address from the base to the top
pub bounded_bounds : (low high perms otype address : ℕ) → Encodable low high → low < 2 ^ 64 → low ≤ address →
    address ≤ high → (base (bounded low high perms otype address) ≡ low) ×
    (top (bounded low high perms otype address) ≡ high)
unfolding with_bounds
bounded_bounds low high perms otype address = with_bounds_decodes (plain_fields perms otype address) low high address

-- and, between 65,536 and 2 ^ 40, at each address within 1024 bytes
pub bounded_near : (low high perms otype address : ℕ) → Encodable low high → 65536 ≤ low → high ≤ 2 ^ 40 →
    low < address + 1024 → address < high + 1024 →
    (base (bounded low high perms otype address) ≡ low) × (top (bounded low high perms otype address) ≡ high)
unfolding with_bounds
bounded_near low high perms otype address = with_bounds_near (plain_fields perms otype address) low high address

-- an object of n bytes at a multiple of their alignment: the bounds of its owned length are exact
pub bounded_owned : (start n perms otype address : ℕ) → start + owned n ≤ 2 ^ 64 → start % alignment n ≡ 0 →
    start < 2 ^ 64 → start ≤ address → address ≤ start + n →
    (base (bounded start (start + owned n) perms otype address) ≡ start) ×
    (top (bounded start (start + owned n) perms otype address) ≡ start + owned n)
bounded_owned start n perms otype address fits multiple below from to =
    bounded_bounds start (start + owned n) perms otype address (owned_encodable start n fits multiple) below from
    (omega (arith, owned_ge n))

-- a tagged capability with bounds between 65,536 and 2 ^ 40 and nothing in the other fields is the one with its bounds
pub bounded_only : (c : Cap) → c.tag ≡ true → c.fields.user ≡ 0 → c.fields.reserved ≡ 0 → c.fields.flag ≡ false →
    65536 ≤ base c → base c ≤ top c → top c ≤ 2 ^ 40 →
    bounded (base c) (top c) c.fields.perms c.fields.otype c.fields.address ≡ c
unfolding with_bounds
bounded_only c tagged user reserved flag start ordered end =
    let f = c.fields in
    let own = canonical_fields f start ordered end in
    let perms = f.perms_in_range in
    let otype = f.otype_in_range in
    let same : with_bounds (plain_fields f.perms f.otype f.address) (base c) (top c) ≡ with_bounds f (base c) (top c) =
    same_fields _ _ (record {
      user = sym user;
      perms = mod-eq_of_lt perms;
      reserved = sym reserved;
      flag = sym flag;
      otype = mod-eq_of_lt otype;
      internal = refl;
      t = refl;
      b = refl;
      address = refl;
    }) in
    let fields = same ∙ own in
    λ i. record { tag = sym tagged i; fields = fields i }

-- moved to an address with the same bounds it is the one with that address
pub bounded_moved : (low high perms address other : ℕ) → base (bounded low high perms UNSEALED address) ≡ low →
    top (bounded low high perms UNSEALED address) ≡ high → base (bounded low high perms UNSEALED other) ≡ low →
    top (bounded low high perms UNSEALED other) ≡ high →
    moved (bounded low high perms UNSEALED address) other ≡ bounded low high perms UNSEALED other
unfolding moved with_bounds
bounded_moved low high perms address other b t b' t' =
    let f = with_bounds (plain_fields perms UNSEALED address) low high in
    let same : same_bounds f other ≡ true = same_bounds_from f other (b' ∙ sym b) (t' ∙ sym t) in
    ap (λ tag. record { tag = tag; fields = with_bounds (plain_fields perms UNSEALED other) low high }) same

-- a length inside its bounds may be asked for
inside_fits : (low high perms address length : ℕ) → Encodable low high → low < 2 ^ 64 → low ≤ address →
    address + length ≤ high →
    (usable (bounded low high perms UNSEALED address) && fits (bounded low high perms UNSEALED address) length) ≡ true
unfolding fits with_bounds
inside_fits low high perms address length enc below from to =
    let c = bounded low high perms UNSEALED address in
    let within = enc.within in
    let own = bounded_bounds low high perms UNSEALED address enc below from (omega arith) in
    let inside = least_inside low high address (address + length) enc from (omega arith) to in
    let room : nat_le (address + length) (2 ^ 64) ≡ true = le-leb (address + length) (2 ^ 64) (omega arith) in
    let low_in : nat_le (base c) (least_base address (address + length)) ≡ true =
    le-leb _ _ (omega (arith, own.0, inside.0)) in
    let high_in : nat_le (least_top address (address + length)) (top c) ≡ true =
    le-leb _ _ (omega (arith, own.1, inside.1)) in
    and_from _ _ (and_from _ _ room low_in) high_in

-- narrowed to it, it is the one with the least bounds of the request
pub bounded_narrowed : (low high perms address length : ℕ) → Encodable low high → low < 2 ^ 64 → low ≤ address →
    address + length ≤ high →
    narrowed (bounded low high perms UNSEALED address) length
    ≡ bounded (least_base address (address + length)) (least_top address (address + length)) perms UNSEALED address
unfolding narrowed with_request with_bounds
bounded_narrowed low high perms address length enc below from to =
    cond-true _ _ _ (inside_fits low high perms address length enc below from to)

-- where the length leaves its bounds, the tag goes
pub bounded_not_narrowed : (low high perms address length : ℕ) → base (bounded low high perms UNSEALED address) ≡ low →
    top (bounded low high perms UNSEALED address) ≡ high → (address < low) ⊎ (high < address + length) →
    narrowed (bounded low high perms UNSEALED address) length ≡ cleared (bounded low high perms UNSEALED address)
unfolding narrowed with_bounds
bounded_not_narrowed low high perms address length b t outside =
    let c = bounded low high perms UNSEALED address in
    elim (cases_Bool (usable c && fits c length)) as (λ _. narrowed c length ≡ cleared c) [
      | inl inside ↦
          let f : Fits c length = fits_parts c length inside in
          let within = f.within in
          let above = f.low in
          let below = f.high in
          let least : IsLeastBounds address (address + length) (least_base address (address + length))
          (least_top address (address + length)) =
          least_functions address (address + length) (omega arith) within in
          let from = least.from in
          let to = least.to in
          elim outside as (λ _. narrowed c length ≡ cleared c)
          [ inl under ↦ absurd (omega (arith, b)) | inr over ↦ absurd (omega (arith, t)) ]
      | inr out ↦ cond-false _ _ _ out
    ]

-- narrowed exactly to a length that can be encoded at its address, it is the one with the request's own bounds
pub bounded_narrowed_exactly : (low high perms address length : ℕ) → Encodable low high → low < 2 ^ 64 → low ≤ address →
    address + length ≤ high → Encodable address (address + length) →
    narrowed_exactly (bounded low high perms UNSEALED address) length
    ≡ bounded address (address + length) perms UNSEALED address
unfolding narrowed_exactly is_exact fits with_request with_bounds
bounded_narrowed_exactly low high perms address length enc below from to own =
    let is = least_of_encodable address (address + length) own in
    let room = inside_fits low high perms address length enc below from to in
    let same : is_exact (bounded low high perms UNSEALED address) length ≡ true =
    and_from _ _ (eq-eqb _ _ is.0) (eq-eqb _ _ is.1) in
    cond-true _ _ _ (and_from _ _ room same) ∙
    ap (λ b. bounded b (least_top address (address + length)) perms UNSEALED address) is.0 ∙
    ap (λ t. bounded address t perms UNSEALED address) is.1

-- masked it is the one with the permissions that are left
pub bounded_masked : (low high perms mask address : ℕ) → perms < 4096 →
    masked (bounded low high perms UNSEALED address) mask ≡ bounded low high (bit_and perms mask) UNSEALED address
unfolding masked with_mask with_bounds
bounded_masked low high perms mask address h =
    let own : perms % 4096 ≡ perms = mod-eq_of_lt h in
    let small : bit_and perms mask < 4096 = omega (arith, and_le_l perms mask) in
    let left : bit_and (perms % 4096) mask ≡ bit_and perms mask % 4096 =
    ap (λ p. bit_and p mask) own ∙ sym (mod-eq_of_lt small) in
    ap (λ f. record { tag = true; fields = f })
    (same_fields (with_mask (with_bounds (plain_fields perms UNSEALED address) low high) mask)
    (with_bounds (plain_fields (bit_and perms mask) UNSEALED address) low high) (record {
      user = refl;
      perms = left;
      reserved = refl;
      flag = refl;
      otype = refl;
      internal = refl;
      t = refl;
      b = refl;
      address = refl;
    }))

-- with Execute and sealed as an entry it is the sentry
pub bounded_sealed : (low high perms address : ℕ) → perms < 4096 → permits perms EXECUTE ≡ true →
    sealed (bounded low high perms UNSEALED address) ≡ bounded low high perms SENTRY address
unfolding sealed with_otype with_bounds
bounded_sealed low high perms address h execute =
    let own : permits (perms % 4096) EXECUTE ≡ true = ap (λ p. permits p EXECUTE) (mod-eq_of_lt h) ∙ execute in
    cond-true _ _ _ own
