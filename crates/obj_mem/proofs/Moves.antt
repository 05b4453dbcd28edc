-- Moves and narrowing agree in both modes.
use Rattle.std.proofs.Common.{◌≡◌, ℕ, ◌+◌, ◌-◌, ◌%◌, ◌^◌, ◌≤◌, ◌==◌, ◌&&◌, ◌||◌, Bool, true, false, not, nat_lt, nat_le}
use Rattle.std.proofs.Common.{List, Option, Some, Ok, refl, sym, arith, subst}
use Rattle.std.specs.Prelude.{slice_get, if◌then◌else◌}
use Rattle.std.proofs.lemmas.Bool.{cond_both, or_parts}
use Rattle.std.proofs.lemmas.Bool.Decides.{nat_tests}
use Rattle.std.proofs.lemmas.Nat.{pow_pos}
use Rattle.cap_concentrate.specs.Rounding.{bounds_exponent, rounded_up, least_base, least_top}
use Rattle.cap_concentrate.proofs.Least.{rounded_up_ge, least_functions, least_unique, least_where_encodable}
use Rattle.cap_concentrate.proofs.Owned.{owned_exact}
use Rattle.obj_mem.specs.declared.ending.Reason.TheVariants as R
use Rattle.obj_mem.specs.Values.{Value, Int, Live, Fun, Raw, Addresses}
use Rattle.obj_mem.specs.Objects.{Shape, Placed, Strict, base_of_shape, base_in}
use Rattle.obj_mem.specs.Access.{unspecified}
use Rattle.obj_mem.specs.Pointers.{at_offset, is_near, move, narrowed_to, placed_narrow, is_rounding, narrow}
use Rattle.obj_mem.specs.Agreement.{Paired, SameShape, Answers}
use Rattle.obj_mem.specs.Standing.{IsBased, IsSettled, IsGood, IsSpread}
use Rattle.obj_mem.proofs.Pairs.{Both, neither, both, get_both}
use Rattle.obj_mem.proofs.Fitting.{part_encodable, near_keeps, not_rounding}

-- ---- the object of a good value in the placed run

based_by : (t : List Shape) (functions : ℕ) (a : Addresses) → IsSpread t functions a → (o : ℕ) (x y : Option Shape) →
    Both SameShape x y → slice_get t o ≡ y → (g : Shape) → x ≡ Some g → IsBased (base_of_shape y) g.owned g.length
based_by t functions a sp o x y neither e g h = absurd cc
based_by t functions a sp o x y (both u v r) e g h =
    let q : u ≡ g = cc in
    let p = sp.placed o v e in
    subst (λ z. IsBased v.base z.owned z.length) q
    (subst (λ n. IsBased v.base n u.length) (sym r.owned) (subst (λ n. IsBased v.base v.owned n) (sym r.length) p))

pub based : (s t : List Shape) (functions : ℕ) (a : Addresses) → Paired SameShape s t → IsSpread t functions a →
    (o low high at p : ℕ) → (g : IsSettled s o low high at p) → IsBased (base_in t o) g.shape.owned g.shape.length
based s t functions a same sp o low high at p g =
    based_by t functions a sp o (slice_get s o) (slice_get t o) (get_both SameShape o s t same) refl g.shape g.there

-- ---- tests

pub is_le : (a b : ℕ) → a ≤ b → nat_le a b ≡ true
is_le a b h = grind (arith, nat_tests)

not_below : (a b : ℕ) → nat_lt a b ≡ false → b ≤ a
not_below a b e = grind (arith, nat_tests)

exactly : (exact : Bool) (b t c d : ℕ) → b ≡ c → t ≡ d → (not exact || (b == c && t == d)) ≡ true
exactly true b t c d e f = grind (arith, nat_tests)
exactly false b t c d e f = refl

-- ---- narrowing

least_top_ge : (start end : ℕ) → end ≤ least_top start end
unfolding least_top
least_top_ge start end =
    cond_both (nat_le (end - start) 4095) end (rounded_up end (2 ^ (bounds_exponent start end + 3))) (λ v. end ≤ v)
    (λ _. omega arith) (λ _. rounded_up_ge end _ (pow_pos _))

as_asked : (a : Addresses) (base : ℕ → ℕ) (o low high at p len b t start : ℕ) (exact : Bool) → start ≡ base o + at →
    b ≡ start → t ≡ start + len → low ≤ at → at + len ≤ high → start + len ≤ 2 ^ 64
    → narrowed_to a base o low high at p start len b t exact ≡ Live o at (at + len) at p
as_asked a base o low high at p len b t start exact es eb et l h w =
    let x : b - base o ≡ at = omega arith in
    let y : t - base o ≡ at + len = omega arith in
    rw (
      is_le (start + len) (2 ^ 64) w,
      is_le (base o + low) b (omega arith),
      is_le t (base o + high) (omega arith),
      exactly exact b t start (start + len) eb et,
      x,
      y,
    ) refl

module _ (s t : List Shape) (functions : ℕ) (a : Addresses) (same : Paired SameShape s t)
    (sp : IsSpread t functions a) where
  pub moves_agree_law : (v : Value) → IsGood s functions v → (by : ℕ) →
      Answers ◌≡◌ (move Strict s v by) (move (Placed a) t v by)
  moves_agree_law (Int n) g by = refl
  moves_agree_law (Raw x y) g by = refl
  moves_agree_law (Fun f) g by = tt
  moves_agree_law (Live o low high at p) g by = go (is_near low high ((at + by) % 2 ^ 64)) refl
    where
      go : (b : Bool) → is_near low high ((at + by) % 2 ^ 64) ≡ b
          → Answers ◌≡◌ (if b then Ok (Live o low high ((at + by) % 2 ^ 64) p) else unspecified R.Excursion)
          (Ok (at_offset a (base_in t) o low high at p ((at + by) % 2 ^ 64)))
      go true e =
          let b = based s t functions a same sp o low high at p g in
          rw (near_keeps (base_in t o) g.shape.owned g.shape.length b low high ((at + by) % 2 ^ 64) g.fitted
          (omega arith) e) refl
      go false e = tt

  narrowed : (o low high at p : ℕ) (g : IsSettled s o low high at p) (len : ℕ) (exact : Bool) →
      low ≤ least_base at (at + len) → least_top at (at + len) ≤ high → is_rounding at len ≡ false
      → Live o at (at + len) at p ≡ placed_narrow a (base_in t) (Live o low high at p) len exact
  narrowed o low high at p g len exact l h e =
      let b = based s t functions a same sp o low high at p g in
      let base = base_in t o in
      let to = b.to in
      let fi = g.fitted.inside in
      let n = not_rounding at len e in
      let up : at + len ≤ high = omega (arith, least_top_ge at (at + len)) in
      let ex = owned_exact at len (omega (arith, n.0)) n.1 in
      let lo : low ≤ at = omega (arith, subst (λ x. least_base at (at + x) ≡ at) n.0 ex.0) in
      let here : (base + at) % 2 ^ 64 ≡ base + at = omega arith in
      let enc = part_encodable base g.shape.owned g.shape.length b at len (omega arith) n.0 n.1 in
      let is = least_unique (base + at) (base + at + len) _ _ _ _
      (least_functions (base + at) (base + at + len) (omega arith) (omega arith))
      (least_where_encodable (base + at) (base + at + len) enc) in
      let start = (base + at) % 2 ^ 64 in
      let ask : (least_base start (start + len) ≡ start) × (least_top start (start + len) ≡ start + len) =
      subst (λ x. (least_base x (x + len) ≡ x) × (least_top x (x + len) ≡ x + len)) (sym here) is in
      sym (as_asked a (base_in t) o low high at p len (least_base start (start + len))
      (least_top start (start + len)) start exact here ask.0 ask.1 lo up (omega arith))

  pub narrows_agree_law : (v : Value) → IsGood s functions v → (len : ℕ) (exact : Bool) →
      Answers ◌≡◌ (narrow Strict s v len exact) (narrow (Placed a) t v len exact)
  narrows_agree_law (Int n) g len exact = refl
  narrows_agree_law (Raw x y) g len exact = refl
  narrows_agree_law (Fun f) g len exact = tt
  narrows_agree_law (Live o low high at p) g len exact =
      go (nat_lt (least_base at (at + len)) low || nat_lt high (least_top at (at + len))) (is_rounding at len) refl refl
    where
      go : (b c : Bool) → (nat_lt (least_base at (at + len)) low || nat_lt high (least_top at (at + len))) ≡ b →
          is_rounding at len ≡ c
          → Answers ◌≡◌ (if b then unspecified R.Address else if c then unspecified R.Rounding
          else Ok (Live o at (at + len) at p)) (Ok (placed_narrow a (base_in t) (Live o low high at p) len exact))
      go true c e f = tt
      go false true e f = tt
      go false false e f =
          let d = or_parts _ _ e in
          narrowed o low high at p g len exact (not_below _ _ d.0) (not_below _ _ d.1) f
