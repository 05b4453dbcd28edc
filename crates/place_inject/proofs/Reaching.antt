-- Bounds are kept by addresses in them and some way past them.
use Rattle.std.proofs.Common.{◌≡◌, ℕ, ◌+◌, ◌*◌, ◌/◌, ◌%◌, ◌^◌, ◌<◌, ◌≤◌, Bool, true, sym, ◌∙◌, arith, inl, inr}
use Rattle.std.proofs.lemmas.Bool.{cond_both, cases_lt, and_parts, eqb-true}
use Rattle.std.proofs.lemmas.Nat.{pow_pos}
use Rattle.std.proofs.Math.Nat.{mul-le-mul_right}
use Rattle.cap_concentrate.specs.Encoding.{encoded_internal, encoded_t, encoded_b, encoded_t_below, encoded_b_below}
use Rattle.cap_concentrate.specs.Encoding.{with_bounds}
use Rattle.cap_concentrate.specs.Decoding.{one_where, base_of, top_of}
use Rattle.cap_concentrate.specs.Rounding.{Encodable}
use Rattle.cap_concentrate.proofs.Decoded.{IsSpan, decoded_base, decoded_top}
use Rattle.cap_concentrate.proofs.Encoded.{encoded_decodes}
use Rattle.cap_concentrate.proofs.Near.{InUnits, in_units}
use Rattle.cap_concentrate.proofs.Region.{InRegion}
use Rattle.cap_ops.specs.declared.capability.TheConstants.{UNSEALED}
use Rattle.cap_ops.specs.Bounded.{bounded}
use Rattle.cap_ops.specs.Capability.{base, top}
use Rattle.obj_mem.specs.Legal.{IsLegal}
use Rattle.obj_mem.specs.Pointers.{keeps}
use Rattle.place_inject.specs.Frames.{Setting, stack_top}
use Rattle.place_inject.specs.Slots.{StackReaches}
use Rattle.place_inject.specs.Tables.{TableReaches, table_top}
use Rattle.place_inject.proofs.Growing.{keeps_by}

-- ---- what kept bounds say

kept_parts : (low high y : ℕ) → keeps low high y ≡ true
    → (base_of (encoded_internal low high) (encoded_t low high) (encoded_b low high) y ≡ low)
    × (top_of (encoded_internal low high) (encoded_t low high) (encoded_b low high) y ≡ high)
unfolding keeps
kept_parts low high y k = let q = and_parts _ _ k in (eqb-true _ _ q.0, eqb-true _ _ q.1)

pub kept_bounds : (low high perms y : ℕ) → keeps low high y ≡ true
    → (base (bounded low high perms UNSEALED y) ≡ low) × (top (bounded low high perms UNSEALED y) ≡ high)
unfolding with_bounds
kept_bounds low high perms y k = kept_parts low high y k

-- ---- past the bounds

region_past : (e v d a : ℕ) → d < 8192 → v * 2 ^ e ≤ a → a < (v + d) * 2 ^ e + 4096 → InRegion v (a / 2 ^ e)
region_past e v d a hd l h =
    let n = 2 ^ e in
    let x = a / n in
    let pos : 0 < n = pow_pos e in
    let low : v ≤ x = elim (cases_lt x v) as (λ _. v ≤ x) [
      | inl more ↦ absurd (omega (arith, mul-le-mul_right n more))
      | inr less ↦ less
    ] in
    let high : x < v + d + 4096 = elim (cases_lt x (v + d + 4096)) as (λ _. x < v + d + 4096) [
      | inl less ↦ less
      | inr more ↦ absurd (omega (arith, mul-le-mul_right n more))
    ] in
    record { from = omega arith; below = omega arith }

decoded : (internal : Bool) (t b e v d low high a : ℕ) → InUnits internal t b low high e v d → high ≤ 2 ^ 40 → low ≤ a
    → a < high + 4096 → (base_of internal t b a ≡ low) × (top_of internal t b a ≡ high)
decoded internal t b e v d low high a i end from to =
    let one : one_where internal ≤ 1 = cond_both internal 1 0 (λ x. x ≤ 1) (λ _. omega arith) (λ _. omega arith) in
    let ld = i.below in
    let is = i.base_is in
    let it = i.top_is in
    let short : d < 8192 = omega arith in
    let span : IsSpan e v d = record { short = short; base_within = omega arith; top_within = omega arith } in
    let near : InRegion v (a / 2 ^ e) = region_past e v d a short (omega (arith, is, from)) (omega (arith, it, to)) in (
      decoded_base internal t b e v d a i.spell span near ∙ sym is,
      decoded_top internal t b e v d a i.spell span near
          ∙ sym it,
    )

-- bounds that an address keeps
pub keeps_near : (low high a y : ℕ) → keeps low high a ≡ true → 65536 ≤ low → low ≤ high → high ≤ 2 ^ 40 → low ≤ y
    → y < high + 4096 → keeps low high y ≡ true
keeps_near low high a y kept start ordered end from to =
    let internal = encoded_internal low high in
    let t = encoded_t low high in
    let b = encoded_b low high in
    let here = kept_parts low high a kept in
    let r = in_units internal t b a low high (encoded_t_below low high) (encoded_b_below low high) (sym here.0)
    (sym here.1) start ordered end in
    keeps_by low high y (decoded internal t b r.0 r.1 r.2 low high y r.3 end from to)

reaches : (low high a : ℕ) → Encodable low high → 65536 ≤ low → high ≤ 2 ^ 40 → low ≤ a → a < high + 4096
    → keeps low high a ≡ true
reaches low high a enc start end from to =
    let ordered = enc.ordered in
    let here = encoded_decodes low high low enc (omega arith) (omega arith) ordered in
    keeps_near low high low a (keeps_by low high low here) start ordered end from to

stack_exact : (low long : ℕ) → low % 65536 ≡ 0 → long % 65536 ≡ 0 → long ≤ 33554432 → low + long ≤ 2 ^ 40
    → Encodable low (low + long)
stack_exact low long a b c e = record {
  ordered = omega arith;
  within = omega arith;
  form = inr (13, record { within = omega arith; base_multiple = a; top_multiple = omega arith; short = omega arith });
}

pub table_reaches_law : TableReaches
table_reaches_law s legal y from to =
    reaches s.map.table.0 (table_top s) y legal.table_exact legal.in_range.2.0 legal.in_range.2.1 from to

pub stack_encodable : (s : Setting) → IsLegal s.needs s.map → Encodable s.map.stack.0 (stack_top s)
stack_encodable s legal =
    stack_exact s.map.stack.0 s.map.stack.1 legal.stack_base legal.stack_length legal.stack_most legal.in_range.2.2.2.1

pub stack_reaches_law : StackReaches
stack_reaches_law s legal y from to =
    let start = legal.in_range.2.2.2.0 in
    let end = legal.in_range.2.2.2.1 in
    reaches s.map.stack.0 (stack_top s) y (stack_encodable s legal) start end from to
