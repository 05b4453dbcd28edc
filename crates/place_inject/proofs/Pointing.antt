-- Moves, narrowing and cleared tags of values, and those of their capabilities.
use Rattle.std.proofs.Common.{◌≡◌, ℕ, ◌+◌, ◌-◌, ◌*◌, ◌/◌, ◌%◌, ◌^◌, ◌<◌, ◌≤◌, ◌==◌, ◌&&◌, Bool, true, false, not}
use Rattle.std.proofs.Common.{nat_le, cond, List, refl, sym, ap, ◌∙◌, subst, arith, inl, inr}
use Rattle.std.specs.Prelude.{Ok, if◌then◌else◌}
use Rattle.std.proofs.lemmas.Bool.{cond-false, and_parts, and_from, and_left, leb-true, eqb-true, eq-eqb, cases_lt}
use Rattle.cap_concentrate.specs.declared.fields.Fields.{Fields}
use Rattle.cap_concentrate.specs.Decoding.{base_at, top_at, same_bounds}
use Rattle.cap_concentrate.specs.Encoding.{with_bounds}
use Rattle.cap_concentrate.specs.Packing.{bits_of, fields_of, flipped}
use Rattle.cap_concentrate.specs.Rounding.{IsLeastBounds, least_base, least_top}
use Rattle.cap_concentrate.proofs.Packed.{bits_of_below}
use Rattle.cap_concentrate.proofs.Laws.{with_bounds_decodes, least_functions}
use Rattle.std.specs.Prelude.{bit_and}
use Rattle.std.specs.Int.Bits.{and_zero_l}
use Rattle.std.proofs.lemmas.Nat.{and_block, and_le_l, and_mod}
use Rattle.cap_ops.proofs.Laws.{bounded_masked}
use Rattle.cap_ops.specs.declared.capability.Cap.{Cap}
use Rattle.cap_ops.specs.declared.capability.TheConstants.{UNSEALED, EXECUTE}
use Rattle.cap_ops.specs.Bounded.{bounded, plain_fields}
use Rattle.cap_ops.specs.Capability.{base, top, usable, with_address, moved, added, fits, is_exact, with_request}
use Rattle.cap_ops.specs.Capability.{narrowed, narrowed_exactly, with_mask, masked, cleared, lacks}
use Rattle.obj_mem.specs.Values as value
use Rattle.obj_mem.specs.Values.{Value, Int, Live, Fun, Raw, Addresses, capability_of, bits, memory_bits, untagged}
use Rattle.obj_mem.specs.Values.{is_tagged}
use Rattle.obj_mem.specs.Objects.{Shape, Placed, base_in}
use Rattle.obj_mem.specs.Pointers.{keeps, at_offset, move, narrow, mask, clear, set_address}
use Rattle.obj_mem.specs.Standing.{IsSpread}
use Rattle.place_inject.specs.Values.{IsHeld, IsKnown}
use Rattle.place_inject.specs.Steps.{is_integer}
use Rattle.place_inject.specs.Pointers.{IsCapabilityOf, PointersFit, PointersFitWhereSpread}
use Rattle.place_inject.proofs.Bits.{flipped_small}
use Rattle.place_inject.proofs.Known.{base_is, live_address}
use Rattle.place_inject.proofs.Turned.{raw_at, raw_moved}

-- ---- without a tag

raw_is : (a : Addresses) (base : ℕ → ℕ) (y z : ℕ) (t : Bool) (g : Fields) → t ≡ false
    → g ≡ fields_of (flipped (z * 2 ^ 64 + y))
    → ◌≡◌ {A = Cap} (record { tag = t; fields = g }) (capability_of a base (Raw y z))
unfolding capability_of
raw_is a base y z t g e q = λ i. record { tag = e i; fields = q i }

module _ (functions : ℕ) (a : Addresses) (shapes : List Shape) where
  abbrev Is : Cap → Value → Type 0
  Is c v = IsCapabilityOf functions a shapes c (Ok v)

  -- a capability that loses its tag and gets another address
  lost : (v : Value) (x : ℕ) (t : Bool) → (capability_of a (base_in shapes) v).fields.address < 2 ^ 64 → x < 2 ^ 64
      → t ≡ false
      → Is (record { tag = t; fields = with_address (capability_of a (base_in shapes) v).fields x })
      (Raw x (memory_bits a (base_in shapes) v / 2 ^ 64))
  unfolding bits
  lost v x t small below none =
      let f : Fields = (capability_of a (base_in shapes) v).fields in
      let bound : flipped (bits_of f) < 2 ^ 128 = flipped_small (bits_of f) (bits_of_below f small) in
      let fields : with_address f x ≡ fields_of (flipped (flipped (bits_of f) / 2 ^ 64 * 2 ^ 64 + x)) =
      sym (raw_at f x small below) in (
        refl,
        (below, omega arith),
        raw_is a (base_in shapes) x (flipped (bits_of f) / 2 ^ 64) t
            (with_address f x) none fields,
      )

  -- one without a tag gets another address
  raw_is_moved : (y z x : ℕ) → (y < 2 ^ 64) × (z < 2 ^ 64) → x < 2 ^ 64
      → Is (moved (capability_of a (base_in shapes) (Raw y z)) x) (Raw x z)
  unfolding capability_of moved
  raw_is_moved y z x k l =
      let e : with_address (fields_of (flipped (z * 2 ^ 64 + y))) x ≡ fields_of (flipped (z * 2 ^ 64 + x)) =
      sym (raw_moved y z x k.0 k.1 l) in
      (refl, (l, k.1), λ i. record { tag = false; fields = e i })

  raw_address : (y z : ℕ) → (y < 2 ^ 64) × (z < 2 ^ 64) → (capability_of a (base_in shapes)
      (Raw y z)).fields.address ≡ y
  unfolding capability_of
  raw_address y z k = ap (λ (f : Fields). f.address) (raw_moved y z y k.0 k.1 k.0)

  sentry_address : (f : ℕ) → (capability_of a (base_in shapes) (Fun f)).fields.address ≡ a.entry f
  unfolding capability_of with_bounds
  sentry_address f = refl

-- ---- capabilities that can't be used

sentry_unusable : (a : Addresses) (base : ℕ → ℕ) (f : ℕ) → usable (capability_of a base (Fun f)) ≡ false
unfolding capability_of with_bounds
sentry_unusable a base f = refl

raw_unusable : (a : Addresses) (base : ℕ → ℕ) (y z : ℕ) → usable (capability_of a base (Raw y z)) ≡ false
unfolding capability_of
raw_unusable a base y z = refl

raw_cleared : (a : Addresses) (base : ℕ → ℕ) (y z : ℕ) → cleared (capability_of a base
    (Raw y z)) ≡ capability_of a base (Raw y z)
unfolding capability_of
raw_cleared a base y z = refl

unusable_narrowed : (c : Cap) (len : ℕ) → usable c ≡ false → narrowed c len ≡ cleared c
unfolding narrowed
unusable_narrowed c len e = cond-false (usable c && fits c len) (with_request c len) (cleared c) (and_left (usable c)
    (fits c len) e)

unusable_narrowed_exactly : (c : Cap) (len : ℕ) → usable c ≡ false → narrowed_exactly c len ≡ cleared c
unfolding narrowed_exactly
unusable_narrowed_exactly c len e =
    cond-false (usable c && fits c len && is_exact c len) (with_request c len) (cleared c)
    (and_left (usable c && fits c len) (is_exact c len) (and_left (usable c) (fits c len) e))

unusable_masked : (c : Cap) (bits : ℕ) → usable c ≡ false → masked c bits ≡ cleared c
unfolding masked
unusable_masked c bits e = cond-false (usable c) (record c { fields = with_mask c.fields bits }) (cleared c) e

-- a mask has 12 bits that count
low_mask : (perms k : ℕ) → perms < 4096 → bit_and perms (k % 2 ^ 12) ≡ bit_and perms k
low_mask perms k small =
    let high : k ≡ k / 2 ^ 12 * 2 ^ 12 + k % 2 ^ 12 = omega arith in
    let own : perms ≡ 0 * 2 ^ 12 + perms = omega arith in
    let low : ℕ = bit_and perms (k % 2 ^ 12) in
    let none : bit_and 0 (k / 2 ^ 12) * 2 ^ 12 + low ≡ low = ap (λ n. n * 2 ^ 12 + low) (and_zero_l (k / 2 ^ 12))
    ∙ (let e : 0 * 2 ^ 12 + low ≡ low = omega arith in e) in
    sym (ap (bit_and perms) high ∙ ap (λ p. bit_and p (k / 2 ^ 12 * 2 ^ 12 + k % 2 ^ 12)) own
    ∙ and_block 12 0 (k / 2 ^ 12) perms (k % 2 ^ 12) small (omega arith) ∙ none)

-- ---- capabilities with bounds

-- the bounds that the fields give
kept_bounds : (low high perms y : ℕ) → keeps low high y ≡ true
    → (base (bounded low high perms UNSEALED y) ≡ low) × (top (bounded low high perms UNSEALED y) ≡ high)
unfolding keeps with_bounds
kept_bounds low high perms y e = let q = and_parts _ _ e in (eqb-true _ _ q.0, eqb-true _ _ q.1)

-- a mask gives no permission to execute
masked_lacks : (perms bits : ℕ) → lacks perms EXECUTE ≡ true → lacks (bit_and perms bits) EXECUTE ≡ true
masked_lacks perms bits h = elim (cases_lt (perms / 2 % 2) 1) as (λ _. lacks (bit_and perms bits) EXECUTE ≡ true) [
  | inl l ↦
      let low : bit_and perms bits % 4 ≡ bit_and (perms % 4) (bits % 4) = and_mod perms bits 2 in
      let less : bit_and (perms % 4) (bits % 4) ≤ perms % 4 = and_le_l (perms % 4) (bits % 4) in
      let none : bit_and perms bits / 2 % 2 ≡ 0 = omega (arith, l, low, less) in
      ap (λ n. not (n == 1)) none
  | inr g ↦
      let one : perms / 2 % 2 ≡ 1 = omega (arith, g) in
      let not_so : lacks perms EXECUTE ≡ false = ap (λ n. not (n == 1)) one in
      absurd (let e : true ≡ false = sym h ∙ not_so in cc)
]

bounded_at : (low high perms y x : ℕ) → keeps low high y ≡ true
    → ◌≡◌ {A = Cap} (moved (bounded low high perms UNSEALED y) x)
    (record { tag = keeps low high x; fields = (bounded low high perms UNSEALED x).fields })
unfolding moved with_bounds keeps
bounded_at low high perms y x e =
    let q = and_parts _ _ e in
    let b = eqb-true _ _ q.0 in
    let t = eqb-true _ _ q.1 in
    let f : Fields = (bounded low high perms UNSEALED x).fields in
    ap (λ v. record {
      tag = (base_at f x == v) && (top_at f x == top_at
          (bounded low high perms UNSEALED y).fields y);
      fields = f;
    }) b
    ∙ ap (λ v. record { tag = (base_at f x == low) && (top_at f x == v); fields = f }) t

bounded_address : (low high perms y x : ℕ) → with_address (bounded low high perms UNSEALED y).fields x ≡
    (bounded low high perms UNSEALED x).fields
unfolding with_bounds
bounded_address low high perms y x = refl

request_is : (low high perms y len : ℕ) → with_request (bounded low high perms UNSEALED y) len ≡ bounded (least_base y
    (y + len)) (least_top y (y + len)) perms UNSEALED y
unfolding with_request with_bounds
request_is low high perms y len = refl

keeps_from : (low high perms y : ℕ)
    → (base_at (with_bounds (plain_fields perms UNSEALED y) low high) y ≡ low)
    × (top_at (with_bounds (plain_fields perms UNSEALED y) low high) y ≡ high) → keeps low high y ≡ true
unfolding keeps with_bounds
keeps_from low high perms y d = and_from _ _ (eq-eqb _ _ d.0) (eq-eqb _ _ d.1)

lies_by : (low high perms y len : ℕ) → keeps low high y ≡ true
    → (usable (bounded low high perms UNSEALED y) && fits (bounded low high perms UNSEALED y) len)
    ≡ (nat_le (y + len) (2 ^ 64) && nat_le low (least_base y (y + len)) && nat_le (least_top y (y + len)) high)
unfolding fits with_bounds
lies_by low high perms y len e =
    let q = kept_bounds low high perms y e in
    ap (λ b. nat_le (y + len) (2 ^ 64) && nat_le b (least_base y (y + len)) && nat_le (least_top y (y + len))
    (top (bounded low high perms UNSEALED y))) q.0
    ∙ ap (λ t. nat_le (y + len) (2 ^ 64) && nat_le low (least_base y (y + len)) && nat_le (least_top y (y + len)) t) q.1

narrowed_by : (low high perms y len : ℕ) → keeps low high y ≡ true
    → narrowed (bounded low high perms UNSEALED y) len
    ≡ cond (nat_le (y + len) (2 ^ 64) && nat_le low (least_base y (y + len)) && nat_le (least_top y (y + len)) high)
    (with_request (bounded low high perms UNSEALED y) len) (cleared (bounded low high perms UNSEALED y))
unfolding narrowed
narrowed_by low high perms y len e = ap (λ b. cond b (with_request (bounded low high perms UNSEALED y) len)
    (cleared (bounded low high perms UNSEALED y))) (lies_by low high perms y len e)

narrowed_exactly_by : (low high perms y len : ℕ) → keeps low high y ≡ true
    → narrowed_exactly (bounded low high perms UNSEALED y) len
    ≡ cond (nat_le (y + len) (2 ^ 64) && nat_le low (least_base y (y + len)) && nat_le (least_top y (y + len)) high &&
    (least_base y (y + len) == y && least_top y (y + len) == y + len))
    (with_request (bounded low high perms UNSEALED y) len) (cleared (bounded low high perms UNSEALED y))
unfolding narrowed_exactly is_exact with_bounds
narrowed_exactly_by low high perms y len e =
    ap (λ b. cond (b && (least_base y (y + len) == y && least_top y (y + len) == y + len))
    (with_request (bounded low high perms UNSEALED y) len) (cleared (bounded low high perms UNSEALED y)))
    (lies_by low high perms y len e)

and_true : (b : Bool) → (b && true) ≡ b
and_true true = refl
and_true false = refl

module _ (functions : ℕ) (a : Addresses) (shapes : List Shape) (spread : IsSpread shapes functions a) where
  -- ---- pointers

  module _ (o low high at perms : ℕ) (held : IsHeld shapes o low high at perms) where
    abbrev B : ℕ
    B = base_in shapes o

    v : Value
    v = Live o low high at perms

    same : B ≡ held.shape.base
    same = base_is shapes o held.shape held.there

    kept : keeps (B + low) (B + high) ((B + at) % 2 ^ 64) ≡ true
    kept = subst (λ b. keeps (b + low) (b + high) ((b + at) % 2 ^ 64) ≡ true) (sym same) held.kept

    small : B + held.shape.owned ≤ 2 ^ 40
    small = let p = spread.placed o held.shape held.there in let to = p.to in omega (arith, same)

    own : capability_of a (base_in shapes) (Live o low high at perms) ≡ bounded (B + low) (B + high) perms UNSEALED
        ((B + at) % 2 ^ 64)
    unfolding capability_of
    own = refl

    word : (capability_of a (base_in shapes) (Live o low high at perms)).fields.address < 2 ^ 64
    unfolding capability_of with_bounds
    word = omega arith

    other_own : (l h : ℕ) (to : ℕ) → capability_of a (base_in shapes) (Live o l h to perms) ≡ bounded (B + l)
        (B + h) perms UNSEALED ((B + to) % 2 ^ 64)
    unfolding capability_of
    other_own l h to = refl

    by_kept : (to : ℕ) → to < 2 ^ 64 → (b : Bool) → keeps (B + low) (B + high) ((B + to) % 2 ^ 64) ≡ b
        → IsCapabilityOf functions a shapes
        (record { tag = b; fields = (bounded (B + low) (B + high) perms UNSEALED ((B + to) % 2 ^ 64)).fields })
        (Ok (if b then Live o low high to perms else untagged a (base_in shapes) (Live o low high at perms)
        ((B + to) % 2 ^ 64)))
    by_kept to l true e = (
      refl,
      record {
        shape = held.shape;
        there = held.there;
        ordered = held.ordered;
        inside = held.inside;
        kept = subst (λ b. keeps (b + low) (b + high) ((b + to) % 2 ^ 64) ≡ true) same e;
        word = l;
        twelve_bits = held.twelve_bits;
        no_execute = held.no_execute;
      },
      sym (other_own low high to),
    )
    by_kept to l false e =
        let fields : with_address (capability_of a (base_in shapes) (Live o low high at perms)).fields
        ((B + to) % 2 ^ 64) ≡ (bounded (B + low) (B + high) perms UNSEALED ((B + to) % 2 ^ 64)).fields =
        ap (λ (c : Cap). with_address c.fields ((B + to) % 2 ^ 64)) own
        ∙ bounded_address (B + low) (B + high) perms ((B + at) % 2 ^ 64) ((B + to) % 2 ^ 64) in
        subst (λ (f : Fields). IsCapabilityOf functions a shapes (record { tag = false; fields = f })
        (Ok (untagged a (base_in shapes) (Live o low high at perms) ((B + to) % 2 ^ 64)))) fields
        (lost functions a shapes (Live o low high at perms) ((B + to) % 2 ^ 64) false word (omega arith) refl)

    pub live_at : (to x : ℕ) → to < 2 ^ 64 → x ≡ (B + to) % 2 ^ 64
        → IsCapabilityOf functions a shapes (moved (capability_of a (base_in shapes) (Live o low high at perms)) x)
        (Ok (at_offset a (base_in shapes) o low high at perms to))
    live_at to x l e =
        let is : moved (capability_of a (base_in shapes) (Live o low high at perms)) x ≡ record {
          tag =
              keeps (B + low) (B + high) ((B + to) % 2 ^ 64);
          fields =
              (bounded (B + low) (B + high) perms UNSEALED ((B + to) % 2 ^ 64)).fields;
        } =
        ap (moved (capability_of a (base_in shapes) (Live o low high at perms))) e
        ∙ ap (λ c. moved c ((B + to) % 2 ^ 64)) own
        ∙ bounded_at (B + low) (B + high) perms ((B + at) % 2 ^ 64) ((B + to) % 2 ^ 64) kept in
        rw is (by_kept to l (keeps (B + low) (B + high) ((B + to) % 2 ^ 64)) refl)

    live_address_is : (capability_of a (base_in shapes) (Live o low high at perms)).fields.address ≡ (B + at) % 2 ^ 64
    live_address_is = live_address a (base_in shapes) o low high at perms

    pub live_moves : (by : ℕ) → IsCapabilityOf functions a shapes (added
        (capability_of a (base_in shapes) (Live o low high at perms)) by)
        (move (Placed a) shapes (Live o low high at perms) by)
    live_moves by =
        let e = live_address_is in
        live_at ((at + by) % 2 ^ 64)
        (((capability_of a (base_in shapes) (Live o low high at perms)).fields.address + by) % 2 ^ 64)
        (omega arith) (omega arith)

    pub live_sets : (to : ℕ) → to < 2 ^ 64 → IsCapabilityOf functions a shapes (moved
        (capability_of a (base_in shapes) (Live o low high at perms)) to)
        (set_address (Placed a) shapes (Live o low high at perms) to)
    live_sets to l = let s = small in live_at ((to + 2 ^ 64 - B) % 2 ^ 64) to (omega arith) (omega arith)

    pub live_clears : IsCapabilityOf functions a shapes (cleared
        (capability_of a (base_in shapes) (Live o low high at perms)))
        (clear (Placed a) shapes (Live o low high at perms))
    live_clears =
        let e = live_address_is in
        subst (λ x. IsCapabilityOf functions a shapes (cleared
        (capability_of a (base_in shapes) (Live o low high at perms)))
        (Ok (Raw x (memory_bits a (base_in shapes) (Live o low high at perms) / 2 ^ 64)))) e
        (lost functions a shapes (Live o low high at perms) (capability_of a (base_in shapes)
        (Live o low high at perms)).fields.address false word word refl)

    pub live_masks : (bits : ℕ) → IsCapabilityOf functions a shapes (masked
        (capability_of a (base_in shapes) (Live o low high at perms)) (bits % 2 ^ 12))
        (mask (Placed a) shapes (Live o low high at perms) bits)
    unfolding capability_of
    live_masks bits =
        let twelve = held.twelve_bits in
        let fewer : bit_and perms bits < 4096 = omega (arith, and_le_l perms bits) in (
          refl,
          record {
            shape = held.shape;
            there = held.there;
            ordered = held.ordered;
            inside = held.inside;
            kept = held.kept;
            word = held.word;
            twelve_bits = fewer;
            no_execute = masked_lacks perms bits held.no_execute;
          },
          bounded_masked (B + low) (B + high) perms (bits % 2 ^ 12) ((B + at) % 2 ^ 64) twelve
              ∙ ap (λ p. bounded (B + low) (B + high) p UNSEALED ((B + at) % 2 ^ 64)) (low_mask perms bits twelve),
        )

    -- ---- narrowing

    module _ (len : ℕ) where
      abbrev start : ℕ
      start = (B + at) % 2 ^ 64

      abbrev lb : ℕ
      lb = least_base start (start + len)

      abbrev lt : ℕ
      lt = least_top start (start + len)

      -- the least bounds lie inside
      abbrev lie : Bool
      lie = nat_le (start + len) (2 ^ 64) && nat_le (B + low) lb && nat_le lt (B + high)

      narrow_known : lie ≡ true → IsKnown shapes functions (Live o (lb - B) (lt - B) at perms)
      narrow_known e =
          let p = and_parts _ _ e in
          let q = and_parts _ _ p.0 in
          let room = leb-true _ _ q.0 in
          let from = leb-true _ _ q.1 in
          let to = leb-true _ _ p.1 in
          let least : IsLeastBounds start (start + len) lb lt =
          least_functions start (start + len) (omega arith) room in
          let lf = least.from in
          let lto = least.to in
          let s = small in
          let inside = held.inside in
          let b_is : B + (lb - B) ≡ lb = omega arith in
          let t_is : B + (lt - B) ≡ lt = omega arith in
          let d = with_bounds_decodes (plain_fields perms UNSEALED start) lb lt start least.encodable (omega arith) lf
          (omega arith) in
          let keeps_it : keeps lb lt start ≡ true = keeps_from lb lt perms start d in
          record {
            shape = held.shape;
            there = held.there;
            ordered = omega arith;
            inside = omega arith;
            kept = subst (λ b. keeps (b + (lb - B)) (b + (lt - B)) ((b + at) % 2 ^ 64) ≡ true) same
                (rw (b_is, t_is) keeps_it);
            word = held.word;
            twelve_bits = held.twelve_bits;
            no_execute = held.no_execute;
          }

      narrow_own : lie ≡ true → ◌≡◌ {A = Cap} (with_request (bounded (B + low) (B + high) perms UNSEALED start) len)
          (capability_of a (base_in shapes) (Live o (lb - B) (lt - B) at perms))
      narrow_own e =
          let p = and_parts _ _ e in
          let q = and_parts _ _ p.0 in
          let room = leb-true _ _ q.0 in
          let from = leb-true _ _ q.1 in
          let least : IsLeastBounds start (start + len) lb lt =
          least_functions start (start + len) (omega arith) room in
          let lf = least.from in
          let lto = least.to in
          let b_is : lb ≡ B + (lb - B) = omega arith in
          let t_is : lt ≡ B + (lt - B) = omega arith in
          request_is (B + low) (B + high) perms start len
          ∙ ap (λ b. bounded b lt perms UNSEALED start) b_is
          ∙ ap (λ t. bounded (B + (lb - B)) t perms UNSEALED start) t_is
          ∙ sym (other_own (lb - B) (lt - B) at)

      by_lie : (b : Bool) → (b ≡ true → lie ≡ true)
          → IsCapabilityOf functions a shapes (cond b
          (with_request (bounded (B + low) (B + high) perms UNSEALED start) len)
          (cleared (bounded (B + low) (B + high) perms UNSEALED start)))
          (Ok (cond b (Live o (lb - B) (lt - B) at perms) (value.cleared a (base_in shapes)
          (Live o low high at perms))))
      by_lie true h = (refl, narrow_known (h refl), narrow_own (h refl))
      by_lie false h = subst (λ d. IsCapabilityOf functions a shapes (cleared d)
          (Ok (value.cleared a (base_in shapes) (Live o low high at perms)))) own live_clears

      pub live_narrows : IsCapabilityOf functions a shapes (narrowed
          (capability_of a (base_in shapes) (Live o low high at perms)) len)
          (narrow (Placed a) shapes (Live o low high at perms) len false)
      live_narrows =
          let is = ap (λ d. narrowed d len) own ∙ narrowed_by (B + low) (B + high) perms start len kept in
          rw (is, and_true lie) (by_lie lie (λ e. e))

      pub live_narrows_exactly : IsCapabilityOf functions a shapes
          (narrowed_exactly (capability_of a (base_in shapes) (Live o low high at perms)) len)
          (narrow (Placed a) shapes (Live o low high at perms) len true)
      live_narrows_exactly =
          let is = ap (λ d. narrowed_exactly d len) own ∙ narrowed_exactly_by (B + low)
          (B + high) perms start len kept in
          rw is (by_lie (lie && (lb == start && lt == start + len)) (λ e. (and_parts lie _ e).0))

  -- ---- the others

  module _ (f : ℕ) (known : f < functions) where
    entry_word : a.entry f < 2 ^ 64
    entry_word = let inside = spread.in_text f known in let to = spread.text_to in omega (arith, inside.1)

    sentry_word : (capability_of a (base_in shapes) (Fun f)).fields.address < 2 ^ 64
    sentry_word = let e = sentry_address functions a shapes f in let w = entry_word in omega arith

    pub sentry_at : (x : ℕ) → x < 2 ^ 64 → IsCapabilityOf functions a shapes (moved
        (capability_of a (base_in shapes) (Fun f)) x) (Ok (untagged a (base_in shapes) (Fun f) x))
    unfolding moved
    sentry_at x l = lost functions a shapes (Fun f) x _ sentry_word l (sealed_unusable f x)
      where
        sealed_unusable : (f x : ℕ) → (usable (capability_of a (base_in shapes) (Fun f)) && same_bounds
            (capability_of a (base_in shapes) (Fun f)).fields x) ≡ false
        sealed_unusable f x = ap (λ b. b && same_bounds (capability_of a (base_in shapes) (Fun f)).fields x)
            (sentry_unusable a (base_in shapes) f)

    pub sentry_clears : IsCapabilityOf functions a shapes (cleared (capability_of a (base_in shapes) (Fun f)))
        (clear (Placed a) shapes (Fun f))
    sentry_clears =
        subst (λ x. IsCapabilityOf functions a shapes (cleared (capability_of a (base_in shapes) (Fun f)))
        (Ok (Raw x (memory_bits a (base_in shapes) (Fun f) / 2 ^ 64)))) (sentry_address functions a shapes f)
        (lost functions a shapes (Fun f) (capability_of a (base_in shapes)
        (Fun f)).fields.address false sentry_word sentry_word refl)

  pointers_fit : (v : Value) → is_integer v ≡ false → IsKnown shapes functions v → PointersFit functions a shapes v
  pointers_fit (Live o low high at perms) i held = record {
    moves = live_moves o low high at perms held;
    sets = live_sets o low high at perms held;
    narrows = live_narrows o low high at perms held;
    narrows_exactly = live_narrows_exactly o low high at perms held;
    masks = live_masks o low high at perms held;
    clears = live_clears o low high at perms held;
  }
  pointers_fit (Fun f) i known =
      let c = capability_of a (base_in shapes) (Fun f) in
      let clears = sentry_clears f known in
      let none = sentry_unusable a (base_in shapes) f in
      let e = sentry_address functions a shapes f in
      record {
        moves = λ by. subst (λ x. IsCapabilityOf functions a shapes (moved c ((x + by) % 2 ^ 64))
            (Ok (untagged a (base_in shapes) (Fun f) ((a.entry f + by) % 2 ^ 64)))) (sym e)
            (sentry_at f known ((a.entry f + by) % 2 ^ 64) (omega arith));
        sets = λ to l. sentry_at f known to l;
        narrows = λ len. subst (λ d. IsCapabilityOf functions a shapes d (clear (Placed a) shapes (Fun f)))
            (sym (unusable_narrowed c len none)) clears;
        narrows_exactly = λ len. subst (λ d. IsCapabilityOf functions a shapes d (clear (Placed a) shapes (Fun f)))
            (sym (unusable_narrowed_exactly c len none)) clears;
        masks = λ k. subst (λ d. IsCapabilityOf functions a shapes d (clear (Placed a) shapes (Fun f)))
            (sym (unusable_masked c (k % 2 ^ 12) none)) clears;
        clears = clears;
      }
  pointers_fit (Raw y z) i known =
      let c = capability_of a (base_in shapes) (Raw y z) in
      let none = raw_unusable a (base_in shapes) y z in
      let e = raw_address functions a shapes y z known in
      let clears : IsCapabilityOf functions a shapes (cleared c) (Ok (Raw y z)) =
      (refl, known, raw_cleared a (base_in shapes) y z) in
      record {
        moves = λ by. subst (λ x. IsCapabilityOf functions a shapes (moved c ((x + by) % 2 ^ 64))
            (Ok (Raw ((y + by) % 2 ^ 64) z))) (sym e)
            (raw_is_moved functions a shapes y z ((y + by) % 2 ^ 64) known (omega arith));
        sets = λ to l. raw_is_moved functions a shapes y z to known l;
        narrows = λ len. subst (λ d. IsCapabilityOf functions a shapes d (Ok (Raw y z)))
            (sym (unusable_narrowed c len none)) clears;
        narrows_exactly = λ len. subst (λ d. IsCapabilityOf functions a shapes d (Ok (Raw y z)))
            (sym (unusable_narrowed_exactly c len none)) clears;
        masks = λ k. subst (λ d. IsCapabilityOf functions a shapes d (Ok (Raw y z)))
            (sym (unusable_masked c (k % 2 ^ 12) none)) clears;
        clears = clears;
      }
  pointers_fit (Int n) i known = absurd (let q : true ≡ false = i in cc)

pub pointers_fit_law : PointersFitWhereSpread
pointers_fit_law functions a shapes spread v i known = pointers_fit functions a shapes spread v i known
