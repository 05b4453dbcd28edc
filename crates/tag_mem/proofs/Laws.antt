-- Laws for the crates above: what stands at an address after a write, and where writes fit. None of them speaks of
-- areas. `IsMemory-fresh` (of `Fresh`) gives `IsMemory`, and `IsMemory-written` (of `ByAddress`) keeps it.
use Rattle.std.proofs.Common.{◌≡◌, ℕ, ◌+◌, ◌/◌, ◌%◌, ◌^◌, ◌<◌, ◌≤◌, ◌⊎◌, ◌||◌, ◌&&◌, leb, ltb, Bool, true, false, cond}
use Rattle.std.proofs.Common.{List, [], ◌∷◌, length, get_or, Option, Some, None, refl, sym, ap, ◌∙◌, add-zero, arith}
use Rattle.std.proofs.Common.{inl, inr}
use Rattle.std.specs.Prelude.{All, is_some}
use Rattle.std.proofs.lemmas.Bool.{cases_Bool}
use Rattle.tag_mem.specs.Areas.{Area, IsMemory, has, is_inside, byte_at, tag_at, extents}
use Rattle.tag_mem.specs.Numbers.{little_bytes}
use Rattle.tag_mem.specs.Memory.{number_at, capability_at, fits_inside, granules_to, written, Spells}
use Rattle.tag_mem.proofs.ByAddress.{IsMemory-written, Writes-written, written-outside, fits_inside-granule}
use Rattle.tag_mem.proofs.ByAddress.{extents-written}
use Rattle.tag_mem.proofs.LittleEndian.{length-little_bytes, get_or-little_bytes, small-little_bytes}
use Rattle.tag_mem.proofs.Reading.{Spells-number_at, number_at-below, number_at-Spells, paired, capability_at-paired}
use Rattle.tag_mem.proofs.Reading.{capability_at-from_parts, is_some-byte_at, is_some-number_at}

-- ---- what a write leaves as it was

module _ (m : List Area) (at : ℕ) (new : List ℕ) (tag : Bool) (h : IsMemory m) where
  pub byte_at-written_other : (x : ℕ) → (x < at) ⊎ (at + length new ≤ x) →
      byte_at (written m at new tag) x ≡ byte_at m x
  byte_at-written_other x other = elim (cases_Bool (fits_inside m at (length new))) [
    | inl fits ↦ (Writes-written m at new tag h fits).other_bytes x other
    | inr past ↦ ap (λ m'. byte_at m' x) (written-outside m at new tag past)
  ]

  pub tag_at-written_other : (x : ℕ) → (x / 16 < at / 16) ⊎ (granules_to (at + length new) ≤ x / 16) →
      tag_at (written m at new tag) x ≡ tag_at m x
  tag_at-written_other x other = elim (cases_Bool (fits_inside m at (length new))) [
    | inl fits ↦ (Writes-written m at new tag h fits).other_tags x other
    | inr past ↦ ap (λ m'. tag_at m' x) (written-outside m at new tag past)
  ]

-- the area of an address, as where it lies tells it
inside_extents : List (ℕ × ℕ) → ℕ → Bool
inside_extents [] x = false
inside_extents (e ∷ es) x = (leb e.0 x && ltb x (e.0 + e.1)) || inside_extents es x

fits_extents : List (ℕ × ℕ) → ℕ → ℕ → Bool
fits_extents [] x n = false
fits_extents (e ∷ es) x n = cond (leb e.0 x && ltb x (e.0 + e.1)) (leb (x + n) (e.0 + e.1)) (fits_extents es x n)

is_inside-extents : (m : List Area) (x : ℕ) → is_inside m x ≡ inside_extents (extents m) x
unfolding is_inside extents inside_extents
is_inside-extents [] x = refl
is_inside-extents (a ∷ m) x = ap (λ b. has a x || b) (is_inside-extents m x)

fits_inside-extents : (m : List Area) (x n : ℕ) → fits_inside m x n ≡ fits_extents (extents m) x n
unfolding fits_inside extents fits_extents
fits_inside-extents [] x n = refl
fits_inside-extents (a ∷ m) x n = elim (cases_Bool (has a x)) [
  | inl here ↦ rw here refl
  | inr lacks ↦ rw lacks (fits_inside-extents m x n)
]

module _ (m : List Area) (at : ℕ) (new : List ℕ) (tag : Bool) where
  pub is_inside-written : (x : ℕ) → is_inside (written m at new tag) x ≡ is_inside m x
  is_inside-written x = is_inside-extents (written m at new tag) x
      ∙ ap (λ es. inside_extents es x) (extents-written m at new tag) ∙ sym (is_inside-extents m x)

  pub fits_inside-written : (x n : ℕ) → fits_inside (written m at new tag) x n ≡ fits_inside m x n
  fits_inside-written x n =
      fits_inside-extents (written m at new tag) x n ∙ ap (λ es. fits_extents es x n) (extents-written m at new tag)
      ∙ sym (fits_inside-extents m x n)

-- ---- numbers

module _ (m m' : List Area) (at n : ℕ) (h : IsMemory m) (h' : IsMemory m') (granule : at % 16 + n ≤ 16)
    (some : 0 < n) where
  -- a number is a function of its bytes
  pub number_at-same_bytes : ((k : ℕ) → k < n → byte_at m' (at + k) ≡ byte_at m (at + k)) →
      number_at m' at n ≡ number_at m at n
  unfolding Spells
  number_at-same_bytes same = go (number_at m at n) refl where
    no_value : (o : Option ℕ) → is_some o ≡ false → o ≡ None
    no_value None e = refl
    no_value (Some v) e = cc

    go : (o : Option ℕ) → number_at m at n ≡ o → number_at m' at n ≡ number_at m at n
    go None is =
        let first : byte_at m' at ≡ byte_at m at = rw (← add-zero at) (same 0 some) in
        let lacks : is_inside m at ≡ false = sym (is_some-number_at m at n) ∙ ap is_some is in
        let lacks' : is_inside m' at ≡ false =
        sym (is_some-byte_at m' at) ∙ ap is_some first ∙ is_some-byte_at m at ∙ lacks in
        no_value (number_at m' at n) (is_some-number_at m' at n ∙ lacks') ∙ sym is
    go (Some v) is =
        let spells = Spells-number_at m at n v h granule is in
        number_at-Spells m' at n v h' granule some (number_at-below m at n v h granule is)
        (λ k lt. same k lt ∙ spells k lt) ∙ sym is

-- the bytes of a number that was written
pub Spells-written : (m : List Area) (at n v : ℕ) (tag : Bool) → IsMemory m → is_inside m at ≡ true → at % 16 + n ≤ 16 →
    Spells (written m at (little_bytes n v) tag) at n v
unfolding Spells
Spells-written m at n v tag h inside granule k lt =
    let new : List ℕ = little_bytes n v in
    let size = length-little_bytes n v in
    let fits : fits_inside m at (length new) ≡ true = rw size (fits_inside-granule m at n h granule ∙ inside) in
    let writes = Writes-written m at new tag h fits in
    writes.bytes_there (at + k) (omega arith) (omega (arith, size))
    ∙ ap (λ (b : ℕ). Some b) (ap (λ i. get_or new i 0) (omega arith) ∙ get_or-little_bytes n v k lt)

-- what was written is read
pub number_at-written : (m : List Area) (at n v : ℕ) (tag : Bool) → IsMemory m → is_inside m at ≡ true →
    at % 16 + n ≤ 16 → 0 < n → v < 256 ^ n
    → number_at (written m at (little_bytes n v) tag) at n ≡ Some v
number_at-written m at n v tag h inside granule some below =
    number_at-Spells (written m at (little_bytes n v) tag) at n v
    (IsMemory-written m at (little_bytes n v) tag h (small-little_bytes n v)) granule some below
    (Spells-written m at n v tag h inside granule)

pub number_at-written_other : (m : List Area) (at : ℕ) (new : List ℕ) (tag : Bool) (x n : ℕ) → IsMemory m →
    All (λ b. b < 256) new → x % 16 + n ≤ 16 → 0 < n → (x + n ≤ at) ⊎ (at + length new ≤ x)
    → number_at (written m at new tag) x n ≡ number_at m x n
number_at-written_other m at new tag x n h small granule some other =
    number_at-same_bytes m (written m at new tag) x n h (IsMemory-written m at new tag h small) granule some
    (λ k lt. byte_at-written_other m at new tag h (x + k)
    (elim other [ inl before ↦ inl (omega arith) | inr behind ↦ inr (omega arith) ]))

-- ---- capabilities

pub capability_at-written : (m : List Area) (at bits : ℕ) (tag : Bool) → IsMemory m → is_inside m at ≡ true →
    at % 16 ≡ 0 → bits < 2 ^ 128
    → capability_at (written m at (little_bytes 16 bits) tag) at ≡ Some (bits, tag)
capability_at-written m at bits tag h inside aligned below =
    let new : List ℕ = little_bytes 16 bits in
    let size = length-little_bytes 16 bits in
    let fits : fits_inside m at (length new) ≡ true = rw size (fits_inside-granule m at 16 h (omega arith) ∙ inside) in
    let writes = Writes-written m at new tag h fits in
    capability_at-from_parts (written m at new tag) at bits tag
    (number_at-written m at 16 bits tag h inside (omega arith) (omega arith) below)
    (writes.tags_there at (omega arith) (omega (arith, size)))

-- a capability in a granule that a write does not touch
pub capability_at-written_other : (m : List Area) (at : ℕ) (new : List ℕ) (tag : Bool) (x : ℕ) → IsMemory m →
    All (λ b. b < 256) new → x % 16 ≡ 0 → (x + 16 ≤ at) ⊎ (at + length new ≤ x)
    → capability_at (written m at new tag) x ≡ capability_at m x
capability_at-written_other m at new tag x h small aligned other =
    let number = number_at-written_other m at new tag x 16 h small (omega arith) (omega arith) other in
    let same = tag_at-written_other m at new tag h x
    (elim other [ inl before ↦ inl (omega arith) | inr behind ↦ inr (omega arith) ]) in
    capability_at-paired (written m at new tag) x ∙ ap (λ v. paired v (tag_at (written m at new tag) x)) number
    ∙ ap (paired (number_at m x 16)) same ∙ sym (capability_at-paired m x)
