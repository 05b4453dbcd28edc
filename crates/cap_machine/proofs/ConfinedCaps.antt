-- What an operation on a confined capability gives is confined.
use Rattle.std.proofs.Common.{◌≡◌, ℕ, ◌+◌, ◌/◌, ◌%◌, ◌^◌, ◌<◌, ◌⊎◌, ◌&&◌, ◌==◌, inl, inr, Bool, true, false, cond, refl}
use Rattle.std.proofs.Common.{sym, ap, ◌∙◌, arith}
use Rattle.std.specs.Prelude.{min, bit_and}
use Rattle.std.proofs.lemmas.Bool.{eqb-true, eq-eqb, false≢true, not_from_false, not-true, and_parts, both_ways, ne_eqb}
use Rattle.std.proofs.lemmas.Nat.Bits.{bit_at_and}
use Rattle.std.specs.Int.{bit_at}
use Rattle.cap_concentrate.specs.Decoding.{same_bounds}
use Rattle.cap_ops.specs.declared.capability.Cap.{Cap}
use Rattle.cap_ops.specs.declared.capability.TheConstants.{UNSEALED, EXECUTE}
use Rattle.cap_ops.specs.Capability.{IsInside, usable, permits, lacks, null_at, cleared, moved, added, fits, is_exact}
use Rattle.cap_ops.specs.Capability.{with_request, narrowed, narrowed_exactly, with_mask, masked}
use Rattle.cap_ops.proofs.Inside.{moved_inside, narrowed_inside, narrowed_exactly_inside, masked_inside}
use Rattle.cap_concentrate.specs.Encoding.{with_bounds}
use Rattle.cap_machine.specs.ContainedText.{Text}
use Rattle.cap_machine.specs.Containment.{IsTextSentry, IsApart, IsConfined}

-- ---- permissions

-- a permission that the operand lacks
lacks_inside : (r c : ℕ) → bit_and r c ≡ r → lacks c EXECUTE ≡ true → lacks r EXECUTE ≡ true
lacks_inside r c inside h =
    let none : c / 2 ^ EXECUTE % 2 ≡ 1 → ⊥ =
    λ e. both_ways (permits c EXECUTE) (not-true (permits c EXECUTE) h) (eq-eqb (c / 2 ^ EXECUTE % 2) 1 e) in
    let least : bit_at r 1 ≡ min (bit_at r 1) (bit_at c 1) = ap (λ n. bit_at n 1) (sym inside) ∙ bit_at_and r c 1 in
    not_from_false (permits r EXECUTE) (ne_eqb (r / 2 ^ EXECUTE % 2) 1 (λ e. none (omega (arith, least))))

-- ---- a result inside an operand

-- a tagged result comes from a usable operand
record IsUsed (c r : Cap) : Type 0 where
  inside : IsInside c r
  usable : r.tag ≡ true → usable c ≡ true
  address : r.fields.address < 2 ^ 64

used_confined : (t : Text) (c r : Cap) → IsConfined t c → IsUsed c r → IsConfined t r
used_confined t c r held u = record {
  address = u.address;
  tagged = λ tag.
      let used = and_parts c.tag (c.fields.otype == UNSEALED) (u.usable tag) in
      elim (held.tagged used.0) as (λ _. IsTextSentry t r ⊎ IsApart t r) [
        | inl gate ↦ absurd (let open_type : c.fields.otype ≡ UNSEALED = eqb-true c.fields.otype UNSEALED used.1 in
            omega (arith, gate.sentry))
        | inr plain ↦ inr (record {
          no_execute = lacks_inside r.fields.perms c.fields.perms u.inside.perms plain.no_execute;
          outside = λ x from below. plain.outside x (omega (arith, u.inside.low tag))
              (omega (arith, u.inside.high tag));
        })
      ];
}

-- ---- the operations

pub null_confined : (t : Text) (n : ℕ) → n < 2 ^ 64 → IsConfined t (null_at n)
unfolding null_at
null_confined t n below = record { address = below; tagged = λ tag. absurd (false≢true tag) }

pub cleared_confined : (t : Text) (c : Cap) → IsConfined t c → IsConfined t (cleared c)
cleared_confined t c held = record { address = held.address; tagged = λ tag. absurd (false≢true tag) }

moved_usable : (c : Cap) (a : ℕ) → (moved c a).tag ≡ true → usable c ≡ true
unfolding moved
moved_usable c a tag = (and_parts (usable c) (same_bounds c.fields a) tag).0

moved_address : (c : Cap) (a : ℕ) → (moved c a).fields.address ≡ a
unfolding moved
moved_address c a = refl

pub moved_confined : (t : Text) (c : Cap) (a : ℕ) → IsConfined t c → a < 2 ^ 64 → IsConfined t (moved c a)
moved_confined t c a held below = used_confined t c (moved c a) held (record {
  inside = moved_inside c a;
  usable = moved_usable c a;
  address = omega (arith, moved_address c a);
})

pub added_confined : (t : Text) (c : Cap) (by : ℕ) → IsConfined t c → IsConfined t (added c by)
added_confined t c by held = moved_confined t c ((c.fields.address + by) % 2 ^ 64) held (omega arith)

-- a choice between a result and the operand without its tag
chosen_usable : (c x : Cap) (b : Bool) → (b ≡ true → usable c ≡ true) → (cond b x (cleared c)).tag ≡ true →
    usable c ≡ true
chosen_usable c x true h tag = h refl
chosen_usable c x false h tag = absurd (false≢true tag)

chosen_address : (c x : Cap) (b : Bool) → x.fields.address ≡ c.fields.address →
    (cond b x (cleared c)).fields.address ≡ c.fields.address
chosen_address c x true e = e
chosen_address c x false e = refl

request_address : (c : Cap) (n : ℕ) → (with_request c n).fields.address ≡ c.fields.address
unfolding with_request with_bounds
request_address c n = refl

narrowed_usable : (c : Cap) (n : ℕ) → (narrowed c n).tag ≡ true → usable c ≡ true
unfolding narrowed
narrowed_usable c n = chosen_usable c (with_request c n) (usable c && fits c n)
    (λ e. (and_parts (usable c) (fits c n) e).0)

narrowed_address : (c : Cap) (n : ℕ) → (narrowed c n).fields.address ≡ c.fields.address
unfolding narrowed
narrowed_address c n = chosen_address c (with_request c n) (usable c && fits c n) (request_address c n)

pub narrowed_confined : (t : Text) (c : Cap) (n : ℕ) → IsConfined t c → IsConfined t (narrowed c n)
narrowed_confined t c n held = used_confined t c (narrowed c n) held (record {
  inside = narrowed_inside c n held.address;
  usable = narrowed_usable c n;
  address = omega (arith, narrowed_address c n, held.address);
})

exactly_usable : (c : Cap) (n : ℕ) → (narrowed_exactly c n).tag ≡ true → usable c ≡ true
unfolding narrowed_exactly
exactly_usable c n = chosen_usable c (with_request c n) (usable c && fits c n && is_exact c n)
    (λ e. (and_parts (usable c) (fits c n) (and_parts (usable c && fits c n) (is_exact c n) e).0).0)

exactly_address : (c : Cap) (n : ℕ) → (narrowed_exactly c n).fields.address ≡ c.fields.address
unfolding narrowed_exactly
exactly_address c n = chosen_address c (with_request c n) (usable c && fits c n && is_exact c n) (request_address c n)

pub narrowed_exactly_confined : (t : Text) (c : Cap) (n : ℕ) → IsConfined t c → IsConfined t (narrowed_exactly c n)
narrowed_exactly_confined t c n held = used_confined t c (narrowed_exactly c n) held (record {
  inside = narrowed_exactly_inside c n held.address;
  usable = exactly_usable c n;
  address = omega (arith, exactly_address c n, held.address);
})

mask_address : (c : Cap) (mask : ℕ) → (with_mask c.fields mask).address ≡ c.fields.address
unfolding with_mask
mask_address c mask = refl

masked_usable : (c : Cap) (mask : ℕ) → (masked c mask).tag ≡ true → usable c ≡ true
unfolding masked
masked_usable c mask = chosen_usable c (record c { fields = with_mask c.fields mask }) (usable c) (λ e. e)

masked_address : (c : Cap) (mask : ℕ) → (masked c mask).fields.address ≡ c.fields.address
unfolding masked
masked_address c mask = chosen_address c (record c { fields = with_mask c.fields mask }) (usable c)
    (mask_address c mask)

pub masked_confined : (t : Text) (c : Cap) (mask : ℕ) → IsConfined t c → IsConfined t (masked c mask)
masked_confined t c mask held = used_confined t c (masked c mask) held (record {
  inside = masked_inside c mask;
  usable = masked_usable c mask;
  address = omega (arith, masked_address c mask, held.address);
})
