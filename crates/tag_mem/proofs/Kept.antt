-- An area by its granules and tags.
use Rattle.std.proofs.Common.{◌≡◌, ℕ, ◌+◌, ◌-◌, ◌*◌, ◌/◌, ◌%◌, ◌<◌, ◌≤◌, leb, Bool, true, rules, inl, inr, false, List}
use Rattle.std.proofs.Common.{[], ◌++◌, length, take, drop, replicate, get_or, set, refl, sym, ap, ◌∙◌, arith}
use Rattle.std.specs.Prelude.{All, flat_map, IsTrue}
use Rattle.std.proofs.lemmas.Bool.{le-leb, cases_Bool}
use Rattle.tag_mem.proofs.InArea.{LiesIn-holds, IsArea-after}
use Rattle.std.proofs.lemmas.List.{take_all, append-nil}
use Rattle.std.proofs.Math.ListN.{drop_of_length-le}
use Rattle.tag_mem.specs.Areas.{Area, IsArea, end_of, has, bytes_in}
use Rattle.tag_mem.specs.Memory.{replaced, granules_to, area_with}
use Rattle.tag_mem.specs.Granules.{granule_bytes, area_of}
use Rattle.tag_mem.proofs.Granules.{length_granule, length_granules, part_of, replaced_granule, replaced_part}
use Rattle.tag_mem.proofs.Granules.{replaced_one}
use Rattle.tag_mem.proofs.ByAddress.{starts, ends}

-- an area with bytes in one of its granules is an area
pub IsArea-with : (a : Area) (at : ℕ) (new : List ℕ) (tag : Bool) → IsArea a → IsTrue (has a at) →
    All (λ b. b < 256) new → IsArea (area_with a at new tag)
IsArea-with a at new tag area is_here small = elim (cases_Bool (leb (at + length new) (end_of a))) [
  | inl fits ↦ let here : has a at ≡ true = search rules in
      rw fits (IsArea-after a at new tag (LiesIn-holds a at (length new) area here fits) small)
  | inr past ↦ rw past area
]

module _ (base : ℕ) (gs : List (List ℕ)) (tags : List Bool) (at : ℕ) (area : IsArea (area_of base gs tags))
    (is_here : IsTrue (has (area_of base gs tags) at)) where
  here : has (area_of base gs tags) at ≡ true
  here = search rules

  abbrev place : ℕ
  place = (at - base) / 16

  abbrev bytes : List ℕ
  bytes = flat_map granule_bytes gs

  pub from : base ≤ at
  from = starts (area_of base gs tags) at here

  pub granule_below : place < length gs
  granule_below = let end = ends (area_of base gs tags) at here in omega (arith, end, length_granules gs, from)

  pub tag_below : place < length tags
  tag_below = omega (arith, granule_below, area.granules, length_granules gs)

  -- the granule of an address
  pub bytes-granule : (d : List ℕ) →
      granule_bytes (get_or gs place d) ≡ bytes_in (area_of base gs tags) (at / 16 * 16) 16
  bytes-granule d =
      let at' : at / 16 * 16 - base ≡ 16 * place + 0 = omega (arith, area.base, from) in
      sym (ap (λ (x : ℕ). take 16 (drop x bytes)) at' ∙ part_of gs place 0 16 d granule_below (omega arith)
      ∙ take_all 16 (granule_bytes (get_or gs place d)) (omega (arith, length_granule (get_or gs place d))))

  -- its granule with the bytes of w, and its tag
  pub with_granule : (w new : List ℕ) (tag : Bool) → 0 < length new → at % 16 + length new ≤ 16
      → granule_bytes w ≡ replaced (at % 16) new (bytes_in (area_of base gs tags) (at / 16 * 16) 16)
      → area_of base (set gs place w) (set tags place tag) ≡ area_with (area_of base gs tags) at new tag
  with_granule w new tag some granule is =
      let at' : at / 16 * 16 - base ≡ 16 * place = omega (arith, area.base, from) in
      let offset : 16 * place + at % 16 ≡ at - base = omega (arith, area.base, from) in
      let high : at + length new ≤ base + length bytes =
      omega (arith, granule_below, length_granules gs, from, offset) in
      let bytes_are : flat_map granule_bytes (set gs place w) ≡ replaced (at - base) new bytes =
      replaced_granule gs place w granule_below
      ∙ ap (λ (x : List ℕ). replaced (16 * place) x bytes)
      (is ∙ ap (λ (x : ℕ). replaced (at % 16) new (take 16 (drop x bytes))) at')
      ∙ replaced_part bytes new place (at % 16) (omega (arith, granule_below, length_granules gs)) granule
      ∙ ap (λ (x : ℕ). replaced x new bytes) offset in
      let one : granules_to (at - base + length new) - place ≡ 1 = omega (arith, offset) in
      let tags_are : set tags place tag
      ≡ replaced place (replicate (granules_to (at - base + length new) - place) tag) tags =
      replaced_one tags place tag tag_below ∙ ap (λ (n : ℕ). replaced place (replicate n tag) tags) (sym one) in
      ap (λ (b : List ℕ). record { base = base; bytes = b; tags = set tags place tag }) bytes_are
      ∙ ap (λ (t : List Bool). record { base = base; bytes = replaced (at - base) new bytes; tags = t }) tags_are
      ∙ sym (rw (le-leb (at + length new) (end_of (area_of base gs tags)) high) refl)

  -- its granule with other bytes
  pub with_lent : (w : List ℕ) → at % 16 ≡ 0 →
      area_of base (set gs place w) (set tags place false) ≡ area_with (area_of base gs tags) at (granule_bytes w) false
  with_lent w aligned = with_granule w (granule_bytes w) false (omega (arith, length_granule w))
      (omega (arith, length_granule w, aligned))
      (whole (granule_bytes w) _ (at % 16) (length_granule w) (omega (arith, length-16)) aligned) where
        length-16 : length (bytes_in (area_of base gs tags) (at / 16 * 16) 16) ≡ 16
        length-16 = ap length (sym (bytes-granule [])) ∙ length_granule (get_or gs place [])

        whole : (new old : List ℕ) (o : ℕ) → length new ≡ 16 → length old ≤ 16 → o ≡ 0 → new ≡ replaced o new old
        whole new old o long short first =
            rw first (sym (ap (λ (x : List ℕ). new ++ x) (drop_of_length-le old (omega (arith, long, short)))
            ∙ append-nil new))
