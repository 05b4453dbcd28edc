-- Rounding at the least exponent that serves gives the least bounds.
use Rattle.std.proofs.Common.{◌≡◌, ℕ, suc, ◌+◌, ◌-◌, ◌*◌, ◌/◌, ◌%◌, ◌^◌, ◌<◌, ◌≤◌, nat_lt, sym, ap, ◌∙◌, arith, inl}
use Rattle.std.proofs.Common.{inr}
use Rattle.std.proofs.lemmas.Bool.{cases_lt, ltb-true, ltb-false, lt-ltb, le-ltb, le-leb, lt-leb}
use Rattle.std.proofs.lemmas.Nat.{pow-add, pow_pos, le-div, div_below, div-add-mod'}
use Rattle.std.proofs.Math.Nat.{mul-le-mul_right, mul-mod_left}
use Rattle.cap_concentrate.specs.Rounding.{FitsExponent, Encodable, IsLeastBounds, rounded_down, rounded_up}
use Rattle.cap_concentrate.specs.Rounding.{least_exponent_within, bounds_exponent, least_base, least_top}
use Rattle.cap_concentrate.proofs.First.{least_exponent_is, least_exponent_passes}

-- ---- rounding
pub rounded_down_le : (x m : ℕ) → rounded_down x m ≤ x
rounded_down_le x m = omega (arith, div-add-mod' x m)

pub rounded_up_ge : (x m : ℕ) → 0 < m → x ≤ rounded_up x m
rounded_up_ge x m h = omega (arith, div-add-mod' (x + (m - 1)) m)

pub rounded_up_near : (x m : ℕ) → 0 < m → rounded_up x m < x + m
rounded_up_near x m h = omega (arith, div-add-mod' (x + (m - 1)) m)

-- a multiple of m that is not above x is not above x rounded down
rounded_down_greatest : (x m c : ℕ) → 0 < m → c * m ≤ x → c * m ≤ rounded_down x m
rounded_down_greatest x m c p h = mul-le-mul_right m (le-div c x m p h)

pub rounded_up_least : (x m c : ℕ) → 0 < m → x ≤ c * m → rounded_up x m ≤ c * m
rounded_up_least x m c p h =
    let b : x + (m - 1) < suc c * m = omega arith in
    let q = div_below (x + (m - 1)) m (suc c) p b in
    let q' : (x + (m - 1)) / m ≤ c = omega (arith, q) in
    mul-le-mul_right m q'

pub rounded_up_monotone : (x y m : ℕ) → 0 < m → x ≤ y → rounded_up x m ≤ rounded_up y m
rounded_up_monotone x y m p h = rounded_up_least x m ((y + (m - 1)) / m) p (omega (arith, rounded_up_ge y m p))

-- a multiple is its own rounding
pub rounded_up_multiple : (x m : ℕ) → 0 < m → x % m ≡ 0 → rounded_up x m ≡ x
rounded_up_multiple x m p h =
    let e : x ≡ x / m * m = omega (arith, div-add-mod' x m) in
    omega (arith, rounded_up_ge x m p, rounded_up_least x m (x / m) p (omega arith))

-- a multiple of a greater power is one of a smaller power
pub finer : (x i j : ℕ) → i ≤ j → x % 2 ^ (j + 3) ≡ 0 → x ≡ (x / 2 ^ (j + 3) * 2 ^ (j - i)) * 2 ^ (i + 3)
finer x i j h e =
    let s : 2 ^ (j + 3) ≡ 2 ^ (j - i) * 2 ^ (i + 3) = ap (λ v. 2 ^ v) (omega arith) ∙ pow-add 2 (j - i) (i + 3) in
    let d : x / 2 ^ (j + 3) * 2 ^ (j + 3) ≡ x = omega (arith, div-add-mod' x (2 ^ (j + 3))) in
    sym d ∙ ap (λ v. x / 2 ^ (j + 3) * v) s ∙ omega arith

pub down_inside : (x k i j : ℕ) → i ≤ j → k % 2 ^ (j + 3) ≡ 0 → k ≤ x → k ≤ rounded_down x (2 ^ (i + 3))
down_inside x k i j h e l =
    let f = finer k i j h e in
    let c = k / 2 ^ (j + 3) * 2 ^ (j - i) in
    let l' : c * 2 ^ (i + 3) ≤ x = omega (arith, f) in
    omega (arith, f, rounded_down_greatest x (2 ^ (i + 3)) c (pow_pos (i + 3)) l')

pub up_inside : (x k i j : ℕ) → i ≤ j → k % 2 ^ (j + 3) ≡ 0 → x ≤ k → rounded_up x (2 ^ (i + 3)) ≤ k
up_inside x k i j h e l =
    let f = finer k i j h e in
    let c = k / 2 ^ (j + 3) * 2 ^ (j - i) in
    let l' : x ≤ c * 2 ^ (i + 3) = omega (arith, f) in
    omega (arith, f, rounded_up_least x (2 ^ (i + 3)) c (pow_pos (i + 3)) l')

pub rounded_within : (x e : ℕ) → e ≤ 52 → x ≤ 2 ^ 64 → rounded_up x (2 ^ (e + 3)) ≤ 2 ^ 64
rounded_within x e h l =
    let s : 64 ≡ 61 - e + (e + 3) = omega arith in
    let p : 2 ^ 64 ≡ 2 ^ (61 - e) * 2 ^ (e + 3) = ap (λ v. 2 ^ v) s ∙ pow-add 2 (61 - e) (e + 3) in
    let l' : x ≤ 2 ^ (61 - e) * 2 ^ (e + 3) = omega (arith, p) in
    omega (arith, p, rounded_up_least x (2 ^ (e + 3)) (2 ^ (61 - e)) (pow_pos (e + 3)) l')

-- ---- the exponent of a request: the least at which it, rounded, is short
pub record IsExponent (start end e : ℕ) : Type 0 where
  pub within : e ≤ 52
  pub short : rounded_up end (2 ^ (e + 3)) < rounded_down start (2 ^ (e + 3)) + 2 ^ (e + 13)
  pub first : (j : ℕ) → j < e → rounded_down start (2 ^ (j + 3)) + 2 ^ (j + 13) ≤ rounded_up end (2 ^ (j + 3))

pub bounds_exponent_is : (start end e : ℕ) → IsExponent start end e → bounds_exponent start end ≡ e
unfolding bounds_exponent
bounds_exponent_is start end e x =
    least_exponent_is _ e x.within (record { passes = lt-ltb _ _ x.short; first = λ j a b. le-ltb _ _ (x.first j b) })

-- each request has one
pub bounds_exponent_serves : (start end : ℕ) → end ≤ 2 ^ 64 → IsExponent start end (bounds_exponent start end)
unfolding bounds_exponent
bounds_exponent_serves start end h =
    let test = λ (e : ℕ). nat_lt (rounded_up end (2 ^ (e + 3))) (rounded_down start (2 ^ (e + 3)) + 2 ^ (e + 13)) in
    let room = rounded_within end 52 (omega arith) h in
    let found = least_exponent_passes test (lt-ltb _ _ (omega (arith, room))) in
    record {
      within = least_exponent_within test;
      short = ltb-true _ _ found.passes;
      first = λ j b. ltb-false _ _ (found.first j (omega arith) b);
    }

-- ---- the least bounds
module _ (start end e : ℕ) (x : IsExponent start end e) (long : start + 4096 ≤ end) (end_within : end ≤ 2 ^ 64) where
  inside_others : (base' top' : ℕ) → Encodable base' top' → base' ≤ start → end ≤ top' →
      (base' ≤ rounded_down start (2 ^ (e + 3))) × (rounded_up end (2 ^ (e + 3)) ≤ top')
  inside_others base' top' enc l h =
      elim (enc.form) as (λ _. (base' ≤ rounded_down start (2 ^ (e + 3))) × (rounded_up end (2 ^ (e + 3)) ≤ top')) [
        | inl tiny ↦ absurd (omega arith)
        | inr f ↦
            let fits : FitsExponent base' top' f.0 = f.1 in
            elim (cases_lt f.0 e) as (λ _. (base' ≤ rounded_down start (2 ^ (e + 3))) ×
            (rounded_up end (2 ^ (e + 3)) ≤ top')) [
              | inl less ↦
                  let a = x.first f.0 less in
                  let d = down_inside start base' f.0 f.0 (omega arith) fits.base_multiple l in
                  let u = up_inside end top' f.0 f.0 (omega arith) fits.top_multiple h in
                  let s = fits.short in
                  absurd (omega (arith, a, d, u, s))
              | inr more ↦ (
                down_inside start base' e f.0 more fits.base_multiple l,
                up_inside end top' e f.0 more fits.top_multiple h,
              )
            ]
      ]

  least_rounded : IsLeastBounds start end (rounded_down start (2 ^ (e + 3))) (rounded_up end (2 ^ (e + 3)))
  least_rounded = record {
    encodable = record {
      ordered = omega (arith, rounded_down_le start (2 ^ (e + 3)), rounded_up_ge end (2 ^ (e + 3)) (pow_pos (e + 3)));
      within = rounded_within end e x.within end_within;
      form = inr (
        e,
        record {
          within = x.within;
          base_multiple = mul-mod_left _ _;
          top_multiple = mul-mod_left _ _;
          short = x.short;
        },
      );
    };
    from = rounded_down_le start (2 ^ (e + 3));
    to = rounded_up_ge end (2 ^ (e + 3)) (pow_pos (e + 3));
    least = inside_others;
  }

least_short : (start end : ℕ) → start ≤ end → end ≤ 2 ^ 64 → end ≤ start + 4095 → IsLeastBounds start end start end
least_short start end o w h = record {
  encodable = record { ordered = o; within = w; form = inl h };
  from = omega arith;
  to = omega arith;
  least = λ b t enc l m. (l, m);
}

-- the two functions give the least bounds of each request
pub least_functions : (start end : ℕ) → start ≤ end → end ≤ 2 ^ 64 →
    IsLeastBounds start end (least_base start end) (least_top start end)
unfolding least_base least_top
least_functions start end l h =
    elim (cases_lt (end - start) 4096) as (λ _. IsLeastBounds start end (least_base start end) (least_top start end)) [
      | inl short ↦ rw (le-leb (end - start) 4095 (omega arith)) (least_short start end l h (omega arith))
      | inr long ↦ rw (lt-leb (end - start) 4095 long)
          (least_rounded start end (bounds_exponent start end) (bounds_exponent_serves start end h) (omega arith) h)
    ]

-- a request has one least pair
pub least_unique : (start end base top base' top' : ℕ) → IsLeastBounds start end base top →
    IsLeastBounds start end base' top' → (base ≡ base') × (top ≡ top')
least_unique start end base top base' top' l m =
    let a = l.least base' top' m.encodable m.from m.to in
    let b = m.least base top l.encodable l.from l.to in
    (omega (arith, a, b), omega (arith, a, b))

-- a request that is Encodable itself is its own least bounds
pub least_where_encodable : (start end : ℕ) → Encodable start end → IsLeastBounds start end start end
least_where_encodable start end enc =
    record { encodable = enc; from = omega arith; to = omega arith; least = λ b t other l m. (l, m) }
