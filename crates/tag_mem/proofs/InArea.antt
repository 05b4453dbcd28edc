-- One area in which bytes are written.
use Rattle.std.proofs.Common.{◌≡◌, ℕ, ◌+◌, ◌-◌, ◌*◌, ◌/◌, ◌<◌, ◌≤◌, ◌⊎◌, ◌&&◌, leb, ltb, Bool, true, false, List, ◌++◌}
use Rattle.std.proofs.Common.{length, take, drop, replicate, get_or, sym, ap, ◌∙◌, arith, rules, inl, inr}
use Rattle.std.specs.Prelude.{All}
use Rattle.std.proofs.lemmas.Bool.{leb-true, and_parts}
use Rattle.std.proofs.lemmas.List.{places, length-replicate, get_or-replicate}
use Rattle.std.proofs.lemmas.List.Elements.{All-append, All-take, All-drop}
use Rattle.tag_mem.specs.Areas.{Area, IsArea, end_of, has, tag_in}
use Rattle.tag_mem.specs.Memory.{replaced, granules_to, area_holding}

pub length-replaced : {X : Type 0} (place : ℕ) (new xs : List X) → place + length new ≤ length xs →
    length (replaced place new xs) ≡ length xs
length-replaced {X} place new xs h = search (rules, places)

pub get_or-replaced_inside : {X : Type 0} (place : ℕ) (new xs : List X) (i : ℕ) (d : X) →
    place + length new ≤ length xs → place ≤ i → i < place + length new →
    get_or (replaced place new xs) i d ≡ get_or new (i - place) d
get_or-replaced_inside {X} place new xs i d h low high = grind (arith, places)

pub get_or-replaced_outside : {X : Type 0} (place : ℕ) (new xs : List X) (i : ℕ) (d : X) →
    place + length new ≤ length xs → (i < place) ⊎ (place + length new ≤ i) →
    get_or (replaced place new xs) i d ≡ get_or xs i d
get_or-replaced_outside {X} place new xs i d h (inl low) = grind (arith, places)
get_or-replaced_outside {X} place new xs i d h (inr high) = grind (arith, places)

-- bytes from an address on that lie in the area
pub record LiesIn (a : Area) (at n : ℕ) : Type 0 where
  pub area : IsArea a
  pub low : a.base ≤ at
  pub high : at + n ≤ end_of a

pub LiesIn-holds : (a : Area) (at n : ℕ) → IsArea a → has a at ≡ true → leb (at + n) (end_of a) ≡ true → LiesIn a at n
LiesIn-holds a at n area h fits = record {
  area = area;
  low = leb-true a.base at (and_parts _ _ h).0;
  high = leb-true (at + n) (end_of a) fits;
}

module _ (a : Area) (at : ℕ) (new : List ℕ) (tag : Bool) (h : LiesIn a at (length new)) where
  abbrev after : Area
  after = area_holding a (at - a.base) new tag

  abbrev tags_new : List Bool
  tags_new = replicate (granules_to (at - a.base + length new) - (at - a.base) / 16) tag

  bytes_fit : at - a.base + length new ≤ length a.bytes
  bytes_fit = omega (arith, h.low, h.high)

  tags_fit : (at - a.base) / 16 + length tags_new ≤ length a.tags
  tags_fit = rw length-replicate (omega (arith, bytes_fit, h.area.granules))

  pub length-after : length after.bytes ≡ length a.bytes
  length-after = length-replaced (at - a.base) new a.bytes bytes_fit

  pub IsArea-after : All (λ b. b < 256) new → IsArea after
  IsArea-after small = record {
    base = h.area.base;
    granules = length-after ∙ h.area.granules
        ∙ ap (λ n. 16 * n) (sym (length-replaced ((at - a.base) / 16) tags_new a.tags tags_fit));
    bytes = All-append (λ b. b < 256) (take (at - a.base) a.bytes) (new ++ drop (at - a.base + length new) a.bytes)
        (All-take (λ b. b < 256) (at - a.base) a.bytes h.area.bytes)
        (All-append (λ b. b < 256) new (drop (at - a.base + length new) a.bytes) small
        (All-drop (λ b. b < 256) (at - a.base + length new) a.bytes h.area.bytes));
    end = omega (arith, h.area.end, length-after);
  }

  pub has-after : (x : ℕ) → has after x ≡ has a x
  has-after x = ap (λ n. leb a.base x && ltb x (a.base + n)) length-after

  pub byte_there : (x : ℕ) → at ≤ x → x < at + length new → get_or after.bytes (x - a.base) 0 ≡ get_or new (x - at) 0
  byte_there x low high =
      get_or-replaced_inside (at - a.base) new a.bytes (x - a.base) 0 bytes_fit (omega (arith, h.low))
      (omega (arith, h.low))
      ∙ ap (λ k. get_or new k 0) (omega (arith, h.low))

  pub byte_other : (x : ℕ) → a.base ≤ x → (x < at) ⊎ (at + length new ≤ x) →
      get_or after.bytes (x - a.base) 0 ≡ get_or a.bytes (x - a.base) 0
  byte_other x low (inl before) =
      get_or-replaced_outside (at - a.base) new a.bytes (x - a.base) 0 bytes_fit (inl (omega (arith, h.low)))
  byte_other x low (inr behind) =
      get_or-replaced_outside (at - a.base) new a.bytes (x - a.base) 0 bytes_fit (inr (omega (arith, h.low)))

  pub tag_there : (x : ℕ) → at / 16 ≤ x / 16 → x / 16 < granules_to (at + length new) → tag_in after x ≡ tag
  tag_there x low high =
      let from : (at - a.base) / 16 ≤ (x - a.base) / 16 = omega (arith, h.low, h.area.base) in
      let to : (x - a.base) / 16 < granules_to (at - a.base + length new) = omega (arith, h.low, h.area.base) in
      let within : (x - a.base) / 16 < (at - a.base) / 16 + length tags_new =
      rw length-replicate (omega (arith, from, to)) in
      get_or-replaced_inside ((at - a.base) / 16) tags_new a.tags ((x - a.base) / 16) false tags_fit from within
      ∙ get_or-replicate (granules_to (at - a.base + length new) - (at - a.base) / 16)
      ((x - a.base) / 16 - (at - a.base) / 16) tag false (omega (arith, from, to))

  pub tag_other : (x : ℕ) → a.base ≤ x → (x / 16 < at / 16) ⊎ (granules_to (at + length new) ≤ x / 16) →
      tag_in after x ≡ tag_in a x
  tag_other x low (inl before) =
      get_or-replaced_outside ((at - a.base) / 16) tags_new a.tags ((x - a.base) / 16) false tags_fit
      (inl (omega (arith, h.low, h.area.base)))
  tag_other x low (inr behind) =
      let past : (at - a.base) / 16 + length tags_new ≤ (x - a.base) / 16 =
      rw length-replicate (omega (arith, h.low, h.area.base)) in
      get_or-replaced_outside ((at - a.base) / 16) tags_new a.tags ((x - a.base) / 16) false tags_fit (inr past)
