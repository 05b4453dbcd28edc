-- Order and distance agree in both modes.
use Rattle.std.proofs.Common.{◌≡◌, ℕ, ◌+◌, ◌%◌, ◌^◌, ◌<◌, ◌≤◌, ◌==◌, Bool, true, false, nat_lt, List, Ok, refl, sym}
use Rattle.std.proofs.Common.{arith, subst}
use Rattle.std.specs.Prelude.{if◌then◌else◌}
use Rattle.std.proofs.lemmas.Bool.Decides.{nat_tests}
use Rattle.obj_mem.specs.declared.ending.Reason.TheVariants as R
use Rattle.obj_mem.specs.Values.{Value, Int, Live, Fun, Raw, Addresses}
use Rattle.obj_mem.specs.Objects.{Shape, Placed, Strict, base_in}
use Rattle.obj_mem.specs.Access.{unspecified}
use Rattle.obj_mem.specs.Pointers.{is_near}
use Rattle.obj_mem.specs.Comparisons.{shifted, less_word, less, less_by, distance}
use Rattle.obj_mem.specs.Agreement.{Paired, SameShape, Answers}
use Rattle.obj_mem.specs.Standing.{IsSettled, IsGood, IsSpread}
use Rattle.obj_mem.proofs.Fitting.{near_is}
use Rattle.obj_mem.proofs.Moves.{based}
use Rattle.obj_mem.proofs.Equality.{test_true}

same_less : (a b c d : ℕ) → (a < b → c < d) → (c < d → a < b) → nat_lt a b ≡ nat_lt c d
same_less a b c d h k = grind (arith, nat_tests)

-- a near offset is small, or just below zero
near_small : (owns low high at : ℕ) → owns ≤ 2 ^ 40 → low ≤ high → high ≤ owns → at < 2 ^ 64 →
    is_near low high at ≡ true → (at + 1023) % 2 ^ 64 < 2 ^ 41
near_small owns low high at w o i l e = let n = near_is low high at e in omega arith

as_words : (signed : Bool) (base x y : ℕ) → 65536 ≤ base → base ≤ 2 ^ 40 → x < 2 ^ 64 → y < 2 ^ 64 →
    (x + 1023) % 2 ^ 64 < 2 ^ 41 → (y + 1023) % 2 ^ 64 < 2 ^ 41
    → less_word true x y ≡ less_word signed ((base + x) % 2 ^ 64) ((base + y) % 2 ^ 64)
as_words false base x y l h wx wy nx ny =
    same_less (shifted x) (shifted y) ((base + x) % 2 ^ 64) ((base + y) % 2 ^ 64) (λ p. omega arith) (λ p. omega arith)
as_words true base x y l h wx wy nx ny =
    same_less (shifted x) (shifted y) (shifted ((base + x) % 2 ^ 64)) (shifted ((base + y) % 2 ^ 64)) (λ p. omega arith)
    (λ p. omega arith)

not_less : (signed : Bool) (x : ℕ) → false ≡ less_word signed x x
not_less true x = grind (arith, nat_tests)
not_less false x = grind (arith, nat_tests)

apart_by : (base x y : ℕ) → x < 2 ^ 64 → y < 2 ^ 64 → less_by x y ≡ less_by ((base + x) % 2 ^ 64) ((base + y) % 2 ^ 64)
apart_by base x y h k = omega arith

none_apart : (x : ℕ) → 0 ≡ less_by x x
none_apart x = omega arith

module _ (s t : List Shape) (functions : ℕ) (a : Addresses) (same : Paired SameShape s t)
    (sp : IsSpread t functions a) where
  in_object : (signed : Bool) (o low high at p low' high' at' p' : ℕ) → IsSettled s o low high at p →
      IsSettled s o low' high' at' p' →
      less_word true at at' ≡ less_word signed ((base_in t o + at) % 2 ^ 64) ((base_in t o + at') % 2 ^ 64)
  in_object signed o low high at p low' high' at' p' g g' =
      let b = based s t functions a same sp o low high at p g in
      let b' = based s t functions a same sp o low' high' at' p' g' in
      let to = b.to in
      let to' = b'.to in
      as_words signed (base_in t o) at at' b.from (omega arith) g.word g'.word
      (near_small g.shape.owned low high at (omega arith) g.fitted.ordered g.fitted.inside g.word g.near)
      (near_small g'.shape.owned low' high' at' (omega arith) g'.fitted.ordered g'.fitted.inside g'.word g'.near)

  objects : (signed : Bool) (o low high at p o' low' high' at' p' : ℕ) → IsSettled s o low high at p →
      IsSettled s o' low' high' at' p' → (b : Bool) → (o == o') ≡ b
      → Answers ◌≡◌ (if b then Ok (less_word true at at') else unspecified R.Address)
      (Ok (less_word signed ((base_in t o + at) % 2 ^ 64) ((base_in t o' + at') % 2 ^ 64)))
  objects signed o low high at p o' low' high' at' p' g g' true e =
      let k = test_true o o' e in
      subst (λ x. less_word true at at' ≡ less_word signed ((base_in t o + at) % 2 ^ 64) ((base_in t x + at') % 2 ^ 64))
      k
      (in_object signed o low high at p low' high' at' p' g (subst (λ x. IsSettled s x low' high' at' p') (sym k) g'))
  objects signed o low high at p o' low' high' at' p' g g' false e = tt

  functions_order : (signed : Bool) (f g : ℕ) (b : Bool) → (f == g) ≡ b →
      Answers ◌≡◌ (if b then Ok false else unspecified R.Address) (Ok (less_word signed (a.entry f) (a.entry g)))
  functions_order signed f g true e =
      subst (λ x. false ≡ less_word signed (a.entry f) (a.entry x)) (test_true f g e) (not_less signed (a.entry f))
  functions_order signed f g false e = tt

  pub less_agrees_law : (signed : Bool) (v w : Value) → IsGood s functions v → IsGood s functions w →
      Answers ◌≡◌ (less Strict s signed v w) (less (Placed a) t signed v w)
  less_agrees_law signed (Live o l h at p) (Live o' l' h' at' p') gv gw =
      objects signed o l h at p o' l' h' at' p' gv gw (o == o') refl
  less_agrees_law signed (Live o l h at p) (Int y) gv gw = tt
  less_agrees_law signed (Live o l h at p) (Fun g) gv gw = tt
  less_agrees_law signed (Live o l h at p) (Raw y w) gv gw = tt
  less_agrees_law signed (Fun f) (Fun g) gv gw = functions_order signed f g (f == g) refl
  less_agrees_law signed (Fun f) (Int y) gv gw = tt
  less_agrees_law signed (Fun f) (Live o l h at p) gv gw = tt
  less_agrees_law signed (Fun f) (Raw y w) gv gw = tt
  less_agrees_law signed (Raw x u) (Raw y w) gv gw = refl
  less_agrees_law signed (Raw x u) (Int y) gv gw = tt
  less_agrees_law signed (Raw x u) (Live o l h at p) gv gw = tt
  less_agrees_law signed (Raw x u) (Fun g) gv gw = tt
  less_agrees_law signed (Int x) w gv gw = tt

  far : (o at o' at' : ℕ) → at < 2 ^ 64 → at' < 2 ^ 64 → (b : Bool) → (o == o') ≡ b
      → Answers ◌≡◌ (if b then Ok (less_by at at') else unspecified R.Address)
      (Ok (less_by ((base_in t o + at) % 2 ^ 64) ((base_in t o' + at') % 2 ^ 64)))
  far o at o' at' w w' true e =
      subst (λ x. less_by at at' ≡ less_by ((base_in t o + at) % 2 ^ 64) ((base_in t x + at') % 2 ^ 64))
      (test_true o o' e) (apart_by (base_in t o) at at' w w')
  far o at o' at' w w' false e = tt

  functions_far : (f g : ℕ) (b : Bool) → (f == g) ≡ b →
      Answers ◌≡◌ (if b then Ok 0 else unspecified R.Address) (Ok (less_by (a.entry f) (a.entry g)))
  functions_far f g true e = subst (λ x. 0 ≡ less_by (a.entry f) (a.entry x)) (test_true f g e) (none_apart (a.entry f))
  functions_far f g false e = tt

  pub distance_agrees_law : (v w : Value) → IsGood s functions v → IsGood s functions w →
      Answers ◌≡◌ (distance Strict s v w) (distance (Placed a) t v w)
  distance_agrees_law (Live o l h at p) (Live o' l' h' at' p') gv gw = far o at o' at' gv.word gw.word (o == o') refl
  distance_agrees_law (Live o l h at p) (Int y) gv gw = tt
  distance_agrees_law (Live o l h at p) (Fun g) gv gw = tt
  distance_agrees_law (Live o l h at p) (Raw y w) gv gw = tt
  distance_agrees_law (Fun f) (Fun g) gv gw = functions_far f g (f == g) refl
  distance_agrees_law (Fun f) (Int y) gv gw = tt
  distance_agrees_law (Fun f) (Live o l h at p) gv gw = tt
  distance_agrees_law (Fun f) (Raw y w) gv gw = tt
  distance_agrees_law (Raw x u) (Raw y w) gv gw = refl
  distance_agrees_law (Raw x u) (Int y) gv gw = tt
  distance_agrees_law (Raw x u) (Live o l h at p) gv gw = tt
  distance_agrees_law (Raw x u) (Fun g) gv gw = tt
  distance_agrees_law (Int x) w gv gw = tt
