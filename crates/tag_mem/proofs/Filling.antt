-- An area that is filled granule by granule.
use Rattle.std.proofs.Common.{◌≡◌, ℕ, ◌+◌, ◌-◌, ◌/◌, ◌%◌, ◌≤◌, Bool, false, List, [], ◌++◌, length, take}
use Rattle.std.proofs.Common.{drop, replicate, refl, sym, ap, ◌∙◌, arith}
use Rattle.std.proofs.lemmas.Bool.{le-leb}
use Rattle.std.proofs.lemmas.List.{length-append, length-replicate, replicate-append-replicate}
use Rattle.std.proofs.Math.Seq.{take-add}
use Rattle.tag_mem.specs.Areas.{Area, IsArea, end_of}
use Rattle.tag_mem.specs.Memory.{replaced, granules_to, area_holding, area_with}
use Rattle.tag_mem.proofs.InArea.{length-replaced}
use Rattle.tag_mem.proofs.Replacing.{replaced_more, replaced_none}

-- the first items, and more of them
pub take_more : {X : Type 0} (i k n : ℕ) (xs : List X) → k ≡ n → take i xs ++ take k (drop i xs) ≡ take (i + n) xs
take_more {X} i k n xs same = ap (λ (j : ℕ). take i xs ++ take j (drop i xs)) same ∙ sym (take-add i n xs)

-- an area with these bytes and tags
abbrev holding : Area → List ℕ → List Bool → Area
holding a bytes tags = record { base = a.base; bytes = bytes; tags = tags }

pub area_with-fits : (a : Area) (at : ℕ) (new : List ℕ) (tag : Bool) → at + length new ≤ end_of a →
    area_with a at new tag ≡ area_holding a (at - a.base) new tag
area_with-fits a at new tag fits = rw (le-leb (at + length new) (end_of a) fits) refl

module _ (a : Area) (at : ℕ) (area : IsArea a) (low : a.base ≤ at) (aligned : at % 16 ≡ 0) where
  abbrev place : ℕ
  place = at - a.base

  even : place % 16 ≡ 0
  even = omega (arith, low, aligned, area.base)

  -- nothing yet
  pub area_with-none : at ≤ end_of a → area_with a at [] false ≡ a
  area_with-none fits =
      let none : granules_to (place + length {A = ℕ} []) - place / 16 ≡ 0 = omega (arith, even) in
      area_with-fits a at [] false (omega (arith, fits))
      ∙ ap (λ (bs : List ℕ). holding a bs (replaced (place / 16)
      (replicate (granules_to (place + length {A = ℕ} []) - place / 16) false) a.tags))
      (replaced_none place a.bytes)
      ∙ ap (λ (n : ℕ). holding a a.bytes (replaced (place / 16) (replicate n false) a.tags)) none
      ∙ ap (λ (ts : List Bool). holding a a.bytes ts) (replaced_none (place / 16) a.tags)

  -- whole granules, and then more behind them
  pub area_with-more : (first new : List ℕ) → length first % 16 ≡ 0 → at + length first + length new ≤ end_of a
      → area_with (area_with a at first false) (at + length first) new false ≡ area_with a at (first ++ new) false
  area_with-more first new whole fits =
      let size = length-append first new in
      let after : Area = area_holding a place first false in
      let long : place + length first + length new ≤ length a.bytes = omega (arith, low, fits) in
      let same : length after.bytes ≡ length a.bytes = length-replaced place first a.bytes (omega (arith, long)) in
      let there : at + length first - a.base ≡ place + length first = omega (arith, low) in
      let n : ℕ = granules_to (place + length first) - place / 16 in
      let m : ℕ = granules_to (place + length first + length new) - (place + length first) / 16 in
      let old : List Bool = replaced (place / 16) (replicate n false) a.tags in
      let from : (place + length first) / 16 ≡ place / 16 + length (replicate n false) =
      omega (arith, even, whole, length-replicate n false) in
      let most : place / 16 + length (replicate n false) + length (replicate m false) ≤ length a.tags =
      omega (arith, even, whole, length-replicate n false, length-replicate m false, long, area.granules) in
      let sum : n + m ≡ granules_to (place + length (first ++ new)) - place / 16 = omega (arith, even, whole, size) in
      ap (λ (x : Area). area_with x (at + length first) new false)
      (area_with-fits a at first false (omega (arith, fits)))
      ∙ area_with-fits after (at + length first) new false (omega (arith, fits, same))
      ∙ ap (λ (p : ℕ). area_holding after p new false) there
      ∙ ap (λ (bs : List ℕ). holding a bs (replaced ((place + length first) / 16) (replicate m false) old))
      (replaced_more place first new a.bytes long)
      ∙ ap (λ (k : ℕ). holding a (replaced place (first ++ new) a.bytes) (replaced k (replicate m false) old)) from
      ∙ ap (λ (ts : List Bool). holding a (replaced place (first ++ new) a.bytes) ts)
      (replaced_more (place / 16) (replicate n false) (replicate m false) a.tags most
      ∙ ap (λ (ts : List Bool). replaced (place / 16) ts a.tags)
      (replicate-append-replicate n m false ∙ ap (λ (k : ℕ). replicate k false) sum))
      ∙ sym (area_with-fits a at (first ++ new) false (omega (arith, fits, size)))
