-- A text has no room for very many functions.
use Rattle.std.proofs.Common.{◌≡◌, ℕ, ◌/◌, ◌^◌, ◌<◌, ◌≤◌, true, false, List, map, length, get_or, Some}
use Rattle.std.proofs.Common.{eqb, sym, ap, ◌∙◌, arith}
use Rattle.std.specs.Prelude.{slice_get}
use Rattle.std.specs.List.{list_any}
use Rattle.std.proofs.lemmas.Bool.{eqb-true, ne_eqb}
use Rattle.std.proofs.lemmas.List.{length-map, get_or-map}
use Rattle.std.proofs.lemmas.List.Folds.{Any-from_list_any}
use Rattle.std.proofs.lemmas.Map.Keys.{IsDistinct-from_apart}
use Rattle.std.proofs.lemmas.Map.Steps.{length-le_from_distinct_below}
use Rattle.std.proofs.lemmas.Option.{slice_get-get_or}
use Rattle.bounds_place.specs.Placing.{AreOffsets}

module _ (entries : List ℕ) (text : ℕ) (o : AreOffsets entries text) (most : text ≤ 2 ^ 30) where
  -- the numbers of the words at which functions are entered
  abbrev words : List ℕ
  words = map (λ at. at / 4) entries

  word : (f d : ℕ) → f < length entries → get_or words f d ≡ get_or entries f 0 / 4
  word f d lt = get_or-map (λ at. at / 4) entries f 0 d lt

  as_many : length words ≡ length entries
  as_many = length-map entries (λ at. at / 4)

  same : (f g : ℕ) → f < length entries → g < length entries → get_or entries f 0 / 4 ≡ get_or entries g 0 / 4 → f ≡ g
  same f g lt gt e =
      let x = slice_get-get_or entries f 0 lt in
      let y = slice_get-get_or entries g 0 gt in
      let a = o.multiple f _ x in
      let b = o.multiple g _ y in
      let one : get_or entries g 0 ≡ get_or entries f 0 = omega (arith, a, b, e) in
      o.distinct f g (get_or entries f 0) x (y ∙ ap (λ at. Some at) one)

  apart : (f g d : ℕ) → f < g → g < length words → eqb (get_or words f d) (get_or words g d) ≡ false
  apart f g d lt le =
      let many = as_many in
      ne_eqb (get_or words f d) (get_or words g d) (λ e.
      let one : f ≡ g =
      same f g (omega arith) (omega arith) (sym (word f d (omega arith)) ∙ e ∙ word g d (omega arith)) in
      omega arith)

  below : (w : ℕ) → list_any (eqb w) words ≡ true → w < 2 ^ 28
  below w e =
      let any = Any-from_list_any (eqb w) words e in
      let lt : any.0 < length entries = omega (arith, as_many, any.2) in
      let is = word any.0 any.1 lt in
      let least = o.below any.0 _ (slice_get-get_or entries any.0 0 lt) in
      omega (arith, is, any.3, eqb-true w any.1 any.4, least, most)

  pub few : length entries ≤ 2 ^ 28
  few =
      let all = length-le_from_distinct_below words (2 ^ 28) (IsDistinct-from_apart eqb words apart) below in
      omega (arith, all, as_many)
