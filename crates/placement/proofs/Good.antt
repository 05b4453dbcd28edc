-- The values that a strict run makes are good.
use Rattle.std.proofs.Common.{◌≡◌, ℕ, ◌+◌, ◌-◌, ◌*◌, ◌%◌, ◌^◌, ◌<◌, ◌≤◌, ◌||◌, Bool, true, false, List, Some, Result}
use Rattle.std.proofs.Common.{Ok, Err, refl, sym, arith, subst}
use Rattle.std.specs.Prelude.{nat_lt, nat_le, min, slice_get, if◌then◌else◌}
use Rattle.std.proofs.lemmas.Bool.Decides.{nat_tests}
use Rattle.cap_concentrate.specs.Rounding.{alignment, owned, bounds_exponent, rounded_up, least_base, least_top}
use Rattle.cap_concentrate.specs.Decoding.{base_of, base_at}
use Rattle.cap_concentrate.specs.declared.fields.Fields.{Fields}
use Rattle.cap_concentrate.proofs.Least.{rounded_up_ge}
use Rattle.std.proofs.lemmas.Bool.{cond_both, or_parts}
use Rattle.std.proofs.lemmas.Nat.{pow_pos, and_le_l}
use Rattle.cap_concentrate.proofs.Owned.{owned-owned}
use Rattle.std.proofs.Math.Nat.{mul-mod_left}
use Rattle.obj_mem.specs.declared.ending.Fault.{Fault}
use Rattle.obj_mem.specs.declared.ending.Fault.TheVariants as F
use Rattle.obj_mem.specs.declared.ending.Reason.TheVariants as R
use Rattle.obj_mem.specs.Values.{Value, Int, Live, Fun, Raw}
use Rattle.obj_mem.specs.Objects.{Shape, Strict}
use Rattle.obj_mem.specs.Agreement.{Answers}
use Rattle.obj_mem.specs.Access.{unspecified, onward}
use Rattle.obj_mem.specs.Pointers.{is_near, strict_move, is_rounding, strict_narrow, clear, mask, get_address}
use Rattle.obj_mem.specs.Pointers.{set_address, get_base, get_length, get_offset, get_permissions, raw_fields, raw_base}
use Rattle.obj_mem.specs.Pointers.{raw_top, length_between}
use Rattle.obj_mem.specs.Standing.{IsGood}
use Rattle.obj_mem.proofs.Fitting.{not_rounding}
use Rattle.placement.specs.Relations.{IsWord, Both}

-- where there is an answer, it is P
abbrev pub WhereOk : {A : Type 0} → (A → Type 0) → Result A Fault → Type 0
WhereOk P (Ok x) = P x
WhereOk P (Err e) = Unit {0}

pub also : {A : Type 0} (P Q : A → Type 0) (x : Result A Fault) → WhereOk P x → ((v : A) → P v → Q v) → WhereOk Q x
also P Q (Ok x) h f = f x h
also P Q (Err e) h f = tt

pub onward_ok : {A B : Type 0} (P : A → Type 0) (Q : B → Type 0) (x : Result A Fault) (f : A → Result B Fault)
    → WhereOk P x → ((v : A) → P v → WhereOk Q (f v)) → WhereOk Q (onward x f)
onward_ok P Q (Ok x) f h g = g x h
onward_ok P Q (Err e) f h g = tt

-- answers that are equal, and of which the first is P
pub both_ways : {A : Type 0} (P : A → Type 0) (x y : Result A Fault) → Answers ◌≡◌ x y → WhereOk P x
    → Answers (Both P) x y
both_ways P (Ok x) (Ok y) h g = (h, g)
both_ways P (Ok x) (Err e) h g = absurd h
both_ways P (Err (F.Cause c)) y h g = h
both_ways P (Err F.Outside) y h g = tt
both_ways P (Err (F.Unspecified u)) y h g = tt

pub not_below : (a b : ℕ) → nat_lt a b ≡ false → b ≤ a
not_below a b e = grind (arith, nat_tests)

least_top_ge : (start end : ℕ) → end ≤ least_top start end
unfolding least_top
least_top_ge start end =
    cond_both (nat_le (end - start) 4095) end (rounded_up end (2 ^ (bounds_exponent start end + 3))) (λ v. end ≤ v)
    (λ _. omega arith) (λ _. rounded_up_ge end _ (pow_pos _))

near_itself : (at len : ℕ) → is_near at (at + len) at ≡ true
near_itself at len = let e : (at + 2 ^ 64 + 1023 - at) % 2 ^ 64 < at + len + 2047 - at = omega arith in
    grind (arith, nat_tests)

module _ (s : List Shape) (functions : ℕ) where
  pub move_good : (v : Value) (by : ℕ) → IsGood s functions v → WhereOk (IsGood s functions) (strict_move v by)
  move_good (Int x) by g = g
  move_good (Raw a u) by g = (omega arith, g.1)
  move_good (Fun f) by g = tt
  move_good (Live o low high at p) by g = go (is_near low high ((at + by) % 2 ^ 64)) refl
    where
      go : (b : Bool) → is_near low high ((at + by) % 2 ^ 64) ≡ b
          → WhereOk (IsGood s functions)
          (if b then Ok (Live o low high ((at + by) % 2 ^ 64) p) else unspecified R.Excursion)
      go true e = record {
        shape = g.shape;
        there = g.there;
        fitted = g.fitted;
        near = e;
        word = omega arith;
        twelve_bits = g.twelve_bits;
      }
      go false e = tt

  pub narrow_good : (v : Value) (len : ℕ) → IsGood s functions v → WhereOk (IsGood s functions) (strict_narrow v len)
  narrow_good (Int x) len g = g
  narrow_good (Raw a u) len g = g
  narrow_good (Fun f) len g = tt
  narrow_good (Live o low high at p) len g =
      go (nat_lt (least_base at (at + len)) low || nat_lt high (least_top at (at + len))) (is_rounding at len) refl refl
    where
      go : (b c : Bool) → (nat_lt (least_base at (at + len)) low || nat_lt high (least_top at (at + len))) ≡ b
          → is_rounding at len ≡ c
          → WhereOk (IsGood s functions)
          (if b then unspecified R.Address else if c then unspecified R.Rounding else Ok
          (Live o at (at + len) at p))
      go true c e f = tt
      go false true e f = tt
      go false false e f =
          let d = or_parts (nat_lt (least_base at (at + len)) low) (nat_lt high (least_top at (at + len))) e in
          let up : least_top at (at + len) ≤ high = not_below high (least_top at (at + len)) d.1 in
          let t = least_top_ge at (at + len) in
          let n = not_rounding at len f in
          let x : at + len - at ≡ len = omega arith in
          let i = g.fitted.inside in
          record {
            shape = g.shape;
            there = g.there;
            fitted = record {
              ordered = omega arith;
              inside = omega (arith, i, t, up);
              whole = rw x n.0;
              multiple = rw x n.1;
            };
            near = near_itself at len;
            word = g.word;
            twelve_bits = g.twelve_bits;
          }

  pub clear_good : (v : Value) → IsGood s functions v → WhereOk (IsGood s functions) (clear Strict s v)
  clear_good (Int x) g = g
  clear_good (Raw a u) g = g
  clear_good (Fun f) g = tt
  clear_good (Live o low high at p) g = tt

  pub mask_good : (v : Value) (bits : ℕ) → IsGood s functions v → WhereOk (IsGood s functions) (mask Strict s v bits)
  mask_good (Int x) bits g = g
  mask_good (Raw a u) bits g = g
  mask_good (Fun f) bits g = tt
  mask_good (Live o low high at p) bits g =
      let t = g.twelve_bits in
      record {
        shape = g.shape;
        there = g.there;
        fitted = g.fitted;
        near = g.near;
        word = g.word;
        twelve_bits = omega
            (arith, t, and_le_l p bits);
      }

  pub address_good : (v : Value) → IsGood s functions v → WhereOk IsWord (get_address Strict s v)
  address_good (Int x) g = g
  address_good (Raw a u) g = g.0
  address_good (Fun f) g = tt
  address_good (Live o low high at p) g = tt

  pub set_good : (v : Value) (to : ℕ) → IsGood s functions v → IsWord to
      → WhereOk (IsGood s functions) (set_address Strict s v to)
  set_good (Int x) to g h = g
  set_good (Raw a u) to g h = (h, g.1)
  set_good (Fun f) to g h = tt
  set_good (Live o low high at p) to g h = tt

  base_below : (f : Fields) (a : ℕ) → base_at f a < 2 ^ 64
  unfolding base_of
  base_below f a = omega arith

  length_below : (base top : ℕ) → length_between base top < 2 ^ 64
  length_below base top = cond_both (nat_lt top base) (2 ^ 64 - 1) (min (top - base) (2 ^ 64 - 1)) (λ v. v < 2 ^ 64)
      (λ _. omega arith) (λ _. omega arith)

  pub base_good : (v : Value) → WhereOk IsWord (get_base Strict s v)
  base_good (Int x) = omega arith
  base_good (Raw a u) = base_below (raw_fields a u) a
  base_good (Fun f) = tt
  base_good (Live o low high at p) = tt

  pub length_good : (v : Value) → WhereOk IsWord (get_length Strict s v)
  length_good (Int x) = omega arith
  length_good (Raw a u) = length_below (raw_base a u) (raw_top a u)
  length_good (Fun f) = tt
  length_good (Live o low high at p) = length_below low high

  pub offset_good : (v : Value) → IsGood s functions v → WhereOk IsWord (get_offset Strict s v)
  offset_good (Int x) g = g
  offset_good (Raw a u) g = omega arith
  offset_good (Fun f) g = tt
  offset_good (Live o low high at p) g = omega arith

  pub permissions_good : (v : Value) → IsGood s functions v → IsWord (get_permissions v)
  permissions_good (Int x) g = omega arith
  permissions_good (Raw a u) g = let p = (raw_fields a u).perms_in_range in omega (arith, p)
  permissions_good (Fun f) g = omega arith
  permissions_good (Live o low high at p) g = let t = g.twelve_bits in omega (arith, t)

-- the pointer to a whole object
near_start : (owns : ℕ) → is_near 0 owns 0 ≡ true
near_start owns = grind (arith, nat_tests)

pub whole_good : (s : List Shape) (functions o p : ℕ) (h : Shape) → slice_get s o ≡ Some h → h.owned ≡ owned h.length
    → h.length ≤ 2 ^ 40 → p < 4096 → IsGood s functions (Live o 0 h.owned 0 p)
whole_good s functions o p h there is small twelve = record {
  shape = h;
  there = there;
  fitted = record {
    ordered = omega arith;
    inside = omega arith;
    whole = let z : h.owned - 0 ≡ h.owned =
        omega arith in rw z (subst (λ v. owned v ≡ v) (sym is) (owned-owned h.length (omega arith)));
    multiple = let z : 0 * alignment (h.owned - 0) ≡ 0 = omega arith in subst (λ v. v % alignment (h.owned - 0) ≡ 0)
        z (mul-mod_left 0 (alignment (h.owned - 0)));
  };
  near = near_start h.owned;
  word = omega arith;
  twelve_bits = twelve;
}
