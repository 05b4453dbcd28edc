-- No operation widens: each result lies inside its operand.
use Rattle.std.proofs.Common.{◌≡◌, ℕ, ◌+◌, ◌^◌, ◌<◌, ◌≤◌, ◌==◌, ◌&&◌, nat_le, true, bit_and, sym, ap, ◌∙◌, arith}
use Rattle.std.proofs.lemmas.Bool.{false≢true, and_parts, cond_both, eqb-true, leb-true}
use Rattle.std.proofs.lemmas.Nat.{and_comm, and_assoc}
use Rattle.std.specs.Int.Bits.{and_self}
use Rattle.cap_concentrate.specs.Decoding.{same_bounds}
use Rattle.cap_concentrate.specs.Rounding.{IsLeastBounds}
use Rattle.cap_concentrate.specs.Encoding.{with_bounds}
use Rattle.cap_concentrate.proofs.Laws.{same_bounds_true, with_bounds_decodes, least_functions}
use Rattle.cap_ops.specs.declared.capability.Cap.{Cap}
use Rattle.cap_ops.specs.declared.capability.TheConstants.{UNSEALED, SENTRY, EXECUTE}
use Rattle.cap_ops.specs.Capability.{IsInside, base, top, usable, permits, request_base, request_top, is_exact, fits}
use Rattle.cap_ops.specs.Capability.{cleared, moved, with_request, narrowed, narrowed_exactly, with_mask, masked}
use Rattle.cap_ops.specs.Capability.{with_otype, sealed}

-- ---- the parts
pub cleared_inside : (c : Cap) → IsInside c (cleared c)
cleared_inside c = record {
  tagged = λ e. absurd (false≢true e);
  low = λ e. absurd (false≢true e);
  high = λ e. absurd (false≢true e);
  perms = and_self c.fields.perms;
}

-- where the tag stays, so do the bounds
pub moved_bounds : (c : Cap) (address : ℕ) → (moved c address).tag ≡ true →
    (base (moved c address) ≡ base c) × (top (moved c address) ≡ top c)
unfolding moved
moved_bounds c address e = same_bounds_true c.fields address (and_parts (usable c) (same_bounds c.fields address) e).1

pub moved_inside : (c : Cap) (address : ℕ) → IsInside c (moved c address)
unfolding moved
moved_inside c address = record {
  tagged = λ e. (and_parts c.tag (c.fields.otype == UNSEALED)
      (and_parts (usable c) (same_bounds c.fields address) e).0).0;
  low = λ e. omega (arith, (moved_bounds c address e).0);
  high = λ e. omega (arith, (moved_bounds c address e).1);
  perms = and_self c.fields.perms;
}

-- ---- narrowing
pub record Fits (c : Cap) (length : ℕ) : Type 0 where
  pub tagged : c.tag ≡ true
  pub within : c.fields.address + length ≤ 2 ^ 64
  pub low : base c ≤ request_base c length
  pub high : request_top c length ≤ top c

pub fits_parts : (c : Cap) (length : ℕ) → (usable c && fits c length) ≡ true → Fits c length
unfolding fits
fits_parts c length e =
    let u = and_parts (usable c) (fits c length) e in
    let f = and_parts (nat_le (c.fields.address + length) (2 ^ 64) && nat_le (base c) (request_base c length))
    (nat_le (request_top c length) (top c)) u.1 in
    let g = and_parts (nat_le (c.fields.address + length) (2 ^ 64)) (nat_le (base c) (request_base c length)) f.0 in
    record {
      tagged = (and_parts c.tag (c.fields.otype == UNSEALED) u.0).0;
      within = leb-true (c.fields.address + length) (2 ^ 64) g.0;
      low = leb-true (base c) (request_base c length) g.1;
      high = leb-true (request_top c length) (top c) f.1;
    }

-- the fields with the least bounds decode to them
pub least_decodes : (c : Cap) (length : ℕ) → c.fields.address < 2 ^ 64 → c.fields.address + length ≤ 2 ^ 64 →
    (base (with_request c length) ≡ request_base c length) × (top (with_request c length) ≡ request_top c length)
unfolding with_request with_bounds
least_decodes c length below within =
    let address = c.fields.address in
    let least : IsLeastBounds address (address + length) (request_base c length) (request_top c length) =
    least_functions address (address + length) (omega arith) within in
    let from = least.from in
    let to = least.to in
    with_bounds_decodes c.fields (request_base c length) (request_top c length) address least.encodable
    (omega arith) from (omega arith)

perms_kept : (c : Cap) (length : ℕ) →
    bit_and (with_request c length).fields.perms c.fields.perms ≡ (with_request c length).fields.perms
unfolding with_request with_bounds
perms_kept c length = and_self c.fields.perms

pub least_inside : (c : Cap) (length : ℕ) → c.fields.address < 2 ^ 64 → (usable c && fits c length) ≡ true →
    IsInside c (with_request c length)
least_inside c length below e =
    let f = fits_parts c length e in
    let d = least_decodes c length below f.within in
    let low = f.low in
    let high = f.high in
    record {
      tagged = λ t. f.tagged;
      low = λ t. omega (arith, d.0);
      high = λ t. omega (arith, d.1);
      perms = perms_kept c length;
    }

-- the bounds are then the least ones of the request
pub least_bounds : (c : Cap) (length : ℕ) → c.fields.address < 2 ^ 64 → (usable c && fits c length) ≡ true →
    IsLeastBounds c.fields.address (c.fields.address + length) (base (with_request c length))
    (top (with_request c length))
least_bounds c length below e =
    let f = fits_parts c length e in
    let d = least_decodes c length below f.within in
    rw (d.0, d.1) (least_functions c.fields.address (c.fields.address + length) (omega arith) f.within)

pub narrowed_inside : (c : Cap) (length : ℕ) → c.fields.address < 2 ^ 64 → IsInside c (narrowed c length)
unfolding narrowed
narrowed_inside c length below =
    cond_both (usable c && fits c length) (with_request c length) (cleared c) (λ r. IsInside c r)
    (λ e. least_inside c length below e) (λ _. cleared_inside c)

pub exact_bounds : (c : Cap) (length : ℕ) → c.fields.address < 2 ^ 64 → (usable c && fits c length) ≡ true →
    is_exact c length ≡ true →
    (base (with_request c length) ≡ c.fields.address) × (top (with_request c length) ≡ c.fields.address + length)
unfolding is_exact
exact_bounds c length below e x =
    let d = least_decodes c length below (fits_parts c length e).within in
    let p = and_parts (request_base c length == c.fields.address)
    (request_top c length == c.fields.address + length) x in (
      d.0 ∙ eqb-true (request_base c length) c.fields.address p.0,
      d.1
          ∙ eqb-true (request_top c length) (c.fields.address + length) p.1,
    )

pub narrowed_exactly_inside : (c : Cap) (length : ℕ) → c.fields.address < 2 ^ 64 →
    IsInside c (narrowed_exactly c length)
unfolding narrowed_exactly
narrowed_exactly_inside c length below =
    cond_both (usable c && fits c length && is_exact c length) (with_request c length) (cleared c) (λ r. IsInside c r)
    (λ e. least_inside c length below (and_parts (usable c && fits c length) (is_exact c length) e).0)
    (λ _. cleared_inside c)

-- ---- permissions and seals
masked_twice : (p m : ℕ) → bit_and (bit_and p m) p ≡ bit_and p m
masked_twice p m = and_comm (bit_and p m) p ∙ sym (and_assoc m p p) ∙ ap (λ x. bit_and x m) (and_self p)

pub with_mask_inside : (c : Cap) (mask : ℕ) → IsInside c (record c { fields = with_mask c.fields mask })
unfolding with_mask
with_mask_inside c mask =
    record {
      tagged = λ t. t;
      low = λ t. omega arith;
      high = λ t. omega arith;
      perms = masked_twice c.fields.perms mask;
    }

pub masked_inside : (c : Cap) (mask : ℕ) → IsInside c (masked c mask)
unfolding masked
masked_inside c mask =
    cond_both (usable c) (record c { fields = with_mask c.fields mask }) (cleared c) (λ r. IsInside c r)
    (λ _. with_mask_inside c mask) (λ _. cleared_inside c)

pub sentry_inside : (c : Cap) → IsInside c (record c { fields = with_otype c.fields SENTRY })
unfolding with_otype
sentry_inside c = record {
  tagged = λ t. t;
  low = λ t. omega arith;
  high = λ t. omega arith;
  perms = and_self c.fields.perms;
}

pub sealed_inside : (c : Cap) → IsInside c (sealed c)
unfolding sealed
sealed_inside c =
    cond_both (usable c && permits c.fields.perms EXECUTE) (record c { fields = with_otype c.fields SENTRY })
    (cleared c) (λ r. IsInside c r)
    (λ _. sentry_inside c) (λ _. cleared_inside c)
