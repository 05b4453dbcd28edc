-- Memory as it is made.
use Rattle.std.proofs.Common.{◌≡◌, ℕ, zero, suc, ◌+◌, ◌-◌, ◌/◌, ◌<◌, ◌≤◌, ◌&&◌, leb, ltb, Bool, true, false, List, []}
use Rattle.std.proofs.Common.{◌∷◌, length, get_or, map, Some, refl, sym, ap, ◌∙◌, arith, inl, inr}
use Rattle.std.proofs.lemmas.Bool.{cases_Bool, and_from, and_right, le-leb, lt-ltb, le-ltb, false≢true}
use Rattle.std.proofs.lemmas.List.{length-replicate, get_or-replicate}
use Rattle.std.proofs.lemmas.List.Elements.{All-replicate}
use Rattle.tag_mem.specs.declared.region.Region.{Region}
use Rattle.tag_mem.specs.Areas.{Area, IsArea, AreasFrom, IsMemory, end_of, has, is_inside, byte_at, tag_at}
use Rattle.tag_mem.specs.Memory.{fits_inside}
use Rattle.tag_mem.specs.Regions.{IsRegion, LieFrom, lies_in, fresh_area, fresh, IsZeroed}
use Rattle.tag_mem.proofs.ByAddress.{fits_inside-here, fits_inside-behind, byte_at-here, byte_at-behind, tag_at-here}
use Rattle.tag_mem.proofs.ByAddress.{tag_at-behind, is_inside-cons, starts, ends}

-- each region is one of whole granules
pub IsRegion-at : (low : ℕ) (rs : List Region) (k : ℕ) (d : Region) → LieFrom low rs → k < length rs →
    IsRegion (get_or rs k d)
IsRegion-at low [] k d h lt = absurd (omega arith)
IsRegion-at low (r ∷ rs) zero d h lt = h.1
IsRegion-at low (r ∷ rs) (suc k) d h lt = IsRegion-at (r.base + r.length) rs k d h.2 (omega arith)

pub IsArea-fresh : (r : Region) → IsRegion r → IsArea (fresh_area r)
IsArea-fresh r h = record {
  base = h.base;
  granules = rw (length-replicate {A = ℕ} r.length 0, length-replicate (r.length / 16) false) (omega (arith, h.length));
  bytes = All-replicate (λ b. b < 256) r.length 0 (omega arith);
  end = rw (length-replicate {A = ℕ} r.length 0) h.end;
}

pub IsMemory-fresh : (rs : List Region) → LieFrom 0 rs → IsMemory (fresh rs)
unfolding IsMemory fresh
IsMemory-fresh rs h = go 0 rs h where
  go : (low : ℕ) (rs : List Region) → LieFrom low rs → AreasFrom low (map fresh_area rs)
  go low [] h = h
  go low (r ∷ rs) h = (
    h.0,
    IsArea-fresh r h.1,
    rw (length-replicate {A = ℕ} r.length 0) (go (r.base + r.length) rs h.2),
  )

has-fresh : (r : Region) (x : ℕ) → has (fresh_area r) x ≡ (leb r.base x && ltb x (r.base + r.length))
has-fresh r x = ap (λ n. leb r.base x && ltb x (r.base + n)) (length-replicate {A = ℕ} r.length 0)

-- memory as it is made, at one address
record ZeroedAt (m : List Area) (rs : List Region) (x : ℕ) : Type 0 where
  inside : is_inside m x ≡ lies_in rs x
  byte : lies_in rs x ≡ true → byte_at m x ≡ Some 0
  tag : lies_in rs x ≡ true → tag_at m x ≡ Some false

zeroed_at : (low : ℕ) (rs : List Region) (x : ℕ) → LieFrom low rs → ZeroedAt (fresh rs) rs x
unfolding fresh is_inside
zeroed_at low [] x h = record { inside = refl; byte = λ e. absurd (false≢true e); tag = λ e. absurd (false≢true e) }
zeroed_at low (r ∷ rs) x h =
    let rest = zeroed_at (r.base + r.length) rs x h.2 in
    let same = has-fresh r x in
    elim (cases_Bool (has (fresh_area r) x)) [
      | inl here ↦
          let low : r.base ≤ x = starts (fresh_area r) x here in
          let high : x < r.base + r.length =
          omega (arith, ends (fresh_area r) x here, length-replicate {A = ℕ} r.length 0) in
          record {
            inside = is_inside-cons (fresh_area r) (fresh rs) x ∙ rw (here, sym same ∙ here) refl;
            byte = λ _. byte_at-here (fresh_area r) (fresh rs) x here
                ∙ ap (λ (b : ℕ). Some b) (get_or-replicate r.length (x - r.base) 0 0 (omega arith));
            tag = λ _. tag_at-here (fresh_area r) (fresh rs) x here
                ∙ ap (λ (b : Bool). Some b) (get_or-replicate (r.length / 16) ((x - r.base) / 16) false false
                (omega (arith, h.1.length)));
          }
      | inr lacks ↦
          let behind : lies_in (r ∷ rs) x ≡ lies_in rs x = rw (sym same ∙ lacks) refl in
          record {
            inside = is_inside-cons (fresh_area r) (fresh rs) x ∙ rw lacks rest.inside ∙ sym behind;
            byte = λ e. byte_at-behind (fresh_area r) (fresh rs) x lacks ∙ rest.byte (sym behind ∙ e);
            tag = λ e. tag_at-behind (fresh_area r) (fresh rs) x lacks ∙ rest.tag (sym behind ∙ e);
          }
    ]

pub IsZeroed-fresh : (rs : List Region) → LieFrom 0 rs → IsZeroed (fresh rs) rs
IsZeroed-fresh rs h =
    let each : (x : ℕ) → ZeroedAt (fresh rs) rs x = λ x. zeroed_at 0 rs x h in
    record { inside = λ x. (each x).inside; bytes = λ x. (each x).byte; tags = λ x. (each x).tag }

LieFrom-base : (low : ℕ) (rs : List Region) (k : ℕ) (d : Region) → LieFrom low rs → k < length rs →
    low ≤ (get_or rs k d).base
LieFrom-base low [] k d h lt = absurd (omega arith)
LieFrom-base low (r ∷ rs) zero d h lt = h.0
LieFrom-base low (r ∷ rs) (suc k) d h lt =
    let behind = LieFrom-base (r.base + r.length) rs k d h.2 (omega arith) in omega (arith, h.0, behind)

-- bytes from the base of a region on fit where they are no more than the region has
pub fits_inside-fresh : (low : ℕ) (rs : List Region) (k n : ℕ) (d : Region) → LieFrom low rs → k < length rs →
    0 < (get_or rs k d).length → n ≤ (get_or rs k d).length
    → fits_inside (fresh rs) (get_or rs k d).base n ≡ true
unfolding fresh
fits_inside-fresh low [] k n d h lt some most = absurd (omega arith)
fits_inside-fresh low (r ∷ rs) zero n d h lt some most =
    let here : has (fresh_area r) r.base ≡ true =
    has-fresh r r.base ∙ and_from (leb r.base r.base) (ltb r.base (r.base + r.length))
    (le-leb r.base r.base (omega arith)) (lt-ltb r.base (r.base + r.length) (omega arith)) in
    let high : r.base + n ≤ end_of (fresh_area r) = omega (arith, length-replicate {A = ℕ} r.length 0) in
    fits_inside-here (fresh_area r) (fresh rs) r.base n here ∙ le-leb (r.base + n) (end_of (fresh_area r)) high
fits_inside-fresh low (r ∷ rs) (suc k) n d h lt some most =
    let base : ℕ = (get_or rs k d).base in
    let behind : r.base + r.length ≤ base = LieFrom-base (r.base + r.length) rs k d h.2 (omega arith) in
    let lacks : has (fresh_area r) base ≡ false =
    has-fresh r base ∙ and_right (leb r.base base) (ltb base (r.base + r.length))
    (le-ltb base (r.base + r.length) behind) in
    fits_inside-behind (fresh_area r) (fresh rs) base n lacks
    ∙ fits_inside-fresh (r.base + r.length) rs k n d h.2 (omega arith) some most
