-- The laws that other crates cite: of decoding on whole fields, of the least bounds as functions, and of owned lengths.
use Rattle.std.proofs.Common.{◌≡◌, ℕ, ◌+◌, ◌^◌, ◌<◌, ◌≤◌, ◌==◌, true, refl, sym, ◌∙◌, arith}
use Rattle.std.proofs.lemmas.Bool.{and_parts, and_from, eqb-true, eq-eqb}
use Rattle.cap_concentrate.specs.declared.fields.Fields.{Fields}
use Rattle.cap_concentrate.specs.Decoding.{base_at, top_at, same_bounds}
use Rattle.cap_concentrate.specs.Rounding.{Encodable, IsLeastBounds, least_base, least_top}
use Rattle.cap_concentrate.specs.Encoding.{with_bounds}
use Rattle.cap_concentrate.specs.Packing.{same_fields}
use Rattle.cap_concentrate.proofs.Near.{keeps_near}
use Rattle.cap_concentrate.proofs.Encoded.{encoded_decodes, only_fields, decoded_encodable}
use Rattle.cap_concentrate.proofs.Least.{least_where_encodable}
-- the least bounds of each request, and that they are the only ones
pub use Rattle.cap_concentrate.proofs.Least.{least_functions, least_unique}
-- the alignment of n bytes, n being at most 2 ^ 64, and the owned length
pub use Rattle.cap_concentrate.proofs.Owned.{alignment_pos, alignment_power, alignment_short, alignment_monotone}
pub use Rattle.cap_concentrate.proofs.Owned.{alignment_small, multiple_of_alignment, alignment-owned}
pub use Rattle.cap_concentrate.proofs.Owned.{owned_ge, owned_near, owned_multiple, owned_short, owned_monotone}
pub use Rattle.cap_concentrate.proofs.Owned.{owned_small, owned-owned, owned_encodable, owned_exact}

-- ---- decoding

-- a test of equal bounds that is true
pub same_bounds_true : (f : Fields) (address : ℕ) → same_bounds f address ≡ true →
    (base_at f address ≡ base_at f f.address) × (top_at f address ≡ top_at f f.address)
same_bounds_true f address e =
    let both = and_parts (base_at f address == base_at f f.address) (top_at f address == top_at f f.address) e in
    (eqb-true (base_at f address) (base_at f f.address) both.0, eqb-true (top_at f address) (top_at f f.address) both.1)

-- and one of bounds that are equal
pub same_bounds_from : (f : Fields) (address : ℕ) → base_at f address ≡ base_at f f.address →
    top_at f address ≡ top_at f f.address → same_bounds f address ≡ true
same_bounds_from f address b t =
    and_from (base_at f address == base_at f f.address) (top_at f address == top_at f f.address) (eq-eqb _ _ b)
    (eq-eqb _ _ t)

-- bounds between 65,536 and 2 ^ 40 stay at each address within 1024 bytes
pub same_bounds_near : (f : Fields) (address : ℕ) → 65536 ≤ base_at f f.address →
    base_at f f.address ≤ top_at f f.address → top_at f f.address ≤ 2 ^ 40 → base_at f f.address < address + 1024 →
    address < top_at f f.address + 1024 → same_bounds f address ≡ true
same_bounds_near f address start ordered end above below =
    let near = keeps_near f.internal f.t f.b f.address address f.t_in_range f.b_in_range start ordered end above below
    in
    same_bounds_from f address near.0 near.1

-- the canonical fields of bounds give them again, at each address from the base to the top
pub with_bounds_decodes : (f : Fields) (base top address : ℕ) → Encodable base top → base < 2 ^ 64 → base ≤ address →
    address ≤ top → (base_at (with_bounds f base top) address ≡ base) × (top_at (with_bounds f base top) address ≡ top)
unfolding with_bounds
with_bounds_decodes f base top address enc below from to = encoded_decodes base top address enc below from to

-- and, between 65,536 and 2 ^ 40, at each address within 1024 bytes
pub with_bounds_near : (f : Fields) (base top address : ℕ) → Encodable base top → 65536 ≤ base → top ≤ 2 ^ 40 →
    base < address + 1024 → address < top + 1024 →
    (base_at (with_bounds f base top) address ≡ base) × (top_at (with_bounds f base top) address ≡ top)
with_bounds_near f base top address enc start end above below =
    let g = with_bounds f base top in
    let ordered = enc.ordered in
    let here = with_bounds_decodes f base top base enc (omega arith) (omega arith) ordered in
    let near = keeps_near g.internal g.t g.b base address g.t_in_range g.b_in_range (omega (arith, here.0))
    (omega (arith, here.0, here.1)) (omega (arith, here.1)) (omega (arith, here.0)) (omega (arith, here.1)) in
    (near.0 ∙ here.0, near.1 ∙ here.1)

-- ---- the fields of bounds between 65,536 and 2 ^ 40

-- they are the canonical ones
pub canonical_fields : (f : Fields) → 65536 ≤ base_at f f.address → base_at f f.address ≤ top_at f f.address →
    top_at f f.address ≤ 2 ^ 40 → with_bounds f (base_at f f.address) (top_at f f.address) ≡ f
unfolding with_bounds
canonical_fields f start ordered end =
    let is = only_fields f.internal f.t f.b f.address (base_at f f.address)
    (top_at f f.address) f.t_in_range f.b_in_range refl refl start ordered end in
    same_fields (with_bounds f (base_at f f.address) (top_at f f.address)) f (record {
      user = refl;
      perms = refl;
      reserved = refl;
      flag = refl;
      otype = refl;
      internal = sym is.internal_is;
      t = sym is.t_is;
      b = sym is.b_is;
      address = refl;
    })

-- and the bounds are Encodable
pub bounds_encodable : (f : Fields) → 65536 ≤ base_at f f.address → base_at f f.address ≤ top_at f f.address →
    top_at f f.address ≤ 2 ^ 40 → Encodable (base_at f f.address) (top_at f f.address)
bounds_encodable f start ordered end =
    decoded_encodable f.internal f.t f.b f.address (base_at f f.address)
    (top_at f f.address) f.t_in_range f.b_in_range refl refl start ordered end

-- ---- the least bounds

-- those of a request inside Encodable bounds lie inside these
pub least_inside : (low high start end : ℕ) → Encodable low high → low ≤ start → start ≤ end → end ≤ high →
    (low ≤ least_base start end) × (least_top start end ≤ high)
least_inside low high start end enc from ordered to =
    let within = enc.within in
    let least : IsLeastBounds start end (least_base start end) (least_top start end) =
    least_functions start end ordered (omega arith) in
    least.least low high enc from to

-- those of an Encodable request are the request
pub least_of_encodable : (start end : ℕ) → Encodable start end →
    (least_base start end ≡ start) × (least_top start end ≡ end)
least_of_encodable start end enc =
    least_unique start end _ _ start end (least_functions start end enc.ordered enc.within)
    (least_where_encodable start end enc)

-- and a request that is its own least bounds is Encodable
pub encodable_of_least : (start end : ℕ) → start ≤ end → end ≤ 2 ^ 64 → least_base start end ≡ start →
    least_top start end ≡ end → Encodable start end
encodable_of_least start end ordered within b t =
    let least : IsLeastBounds start end (least_base start end) (least_top start end) =
    least_functions start end ordered within in
    rw (b, t) at least.encodable
