-- What a read says of memory, address by address.
use Rattle.std.proofs.Common.{◌≡◌, ℕ, zero, suc, ◌+◌, ◌-◌, ◌*◌, ◌/◌, ◌%◌, ◌^◌, ◌<◌, ◌≤◌, leb, ltb, Bool, true, false}
use Rattle.std.proofs.Common.{List, [], ◌∷◌, length, take, drop, get_or, Option, Some, None, refl, sym, ap, ◌∙◌, arith}
use Rattle.std.proofs.Common.{rules, inl, inr}
use Rattle.std.specs.Prelude.{All, is_some, IsTrue}
use Rattle.std.specs.Option.{option_map}
use Rattle.std.proofs.lemmas.Bool.{cases_Bool, both_ways, false_from_ne_true, and_from, le-leb, lt-ltb}
use Rattle.std.proofs.lemmas.Nat.{pow-add}
use Rattle.std.proofs.Math.Nat.{pow-suc}
use Rattle.std.proofs.lemmas.List.{take-take, drop-take, drop-drop, length-drop, length-take-le, get_or-take}
use Rattle.std.proofs.lemmas.List.{get_or-drop}
use Rattle.std.proofs.lemmas.List.Elements.{All-drop, All-take}
use Rattle.std.proofs.lemmas.Option.{none-some, same_Some}
use Rattle.tag_mem.specs.Areas.{Area, IsArea, AreasFrom, IsMemory, end_of, has, bytes_in, tag_in, area_at, is_inside}
use Rattle.tag_mem.specs.Areas.{byte_at, tag_at}
use Rattle.tag_mem.specs.Numbers.{little_number}
use Rattle.tag_mem.specs.Memory.{number_at, capability_at, Spells, Holds}
use Rattle.tag_mem.specs.Granules.{granule_bytes}
use Rattle.tag_mem.proofs.ByAddress.{starts, ends}
use Rattle.tag_mem.proofs.LittleEndian.{number-below, number-byte, number-spelled, number-drop, number-take}

-- ---- the area that has an address

area_found : (low : ℕ) (m : List Area) (x : ℕ) (a : Area) → AreasFrom low m → area_at m x ≡ Some a →
    IsArea a × (has a x ≡ true)
area_found low [] x a h e = cc
area_found low (b ∷ m) x a h e = elim (cases_Bool (has b x)) [
  | inl here ↦
      let is : b ≡ a = same_Some b a (sym (rw here refl) ∙ e) in
      rw (← is) (h.1, here)
  | inr lacks ↦ area_found (end_of b) m x a h.2 (sym (rw lacks refl) ∙ e)
]

has-granule : (a : Area) (x y : ℕ) → IsArea a → x / 16 ≡ y / 16 → has a x ≡ true → has a y ≡ true
has-granule a x y area same here =
    let low : a.base ≤ y = omega (arith, starts a x here, area.base) in
    let high : y < end_of a = omega (arith, ends a x here, area.base, area.granules) in
    and_from (leb a.base y) (ltb y (end_of a)) (le-leb a.base y low) (lt-ltb y (end_of a) high)

lacks-granule : (a : Area) (x y : ℕ) → IsArea a → x / 16 ≡ y / 16 → has a x ≡ false → has a y ≡ false
lacks-granule a x y area same lacks =
    false_from_ne_true (has a y) (λ there. both_ways (has a x) lacks (has-granule a y x area (sym same) there))

-- the addresses of a granule lie in one area
area_at-granule : (low : ℕ) (m : List Area) (x y : ℕ) → AreasFrom low m → x / 16 ≡ y / 16 → area_at m x ≡ area_at m y
area_at-granule low [] x y h same = refl
area_at-granule low (a ∷ m) x y h same = elim (cases_Bool (has a x)) [
  | inl here ↦ rw (here, has-granule a x y h.1 same here) refl
  | inr lacks ↦
      let also = lacks-granule a x y h.1 same lacks in
      rw (lacks, also) (area_at-granule (end_of a) m x y h.2 same)
]

is_some-area_at : (m : List Area) (x : ℕ) → is_some (area_at m x) ≡ is_inside m x
unfolding is_inside
is_some-area_at [] x = refl
is_some-area_at (a ∷ m) x = elim (cases_Bool (has a x)) [
  | inl here ↦ rw here refl
  | inr lacks ↦ rw lacks (is_some-area_at m x)
]

is_some-option_map : {A B : Type 0} (f : A → B) (o : Option A) → is_some (option_map f o) ≡ is_some o
is_some-option_map f None = refl
is_some-option_map f (Some a) = refl

-- ---- None comes exactly outside

pub is_some-byte_at : (m : List Area) (x : ℕ) → is_some (byte_at m x) ≡ is_inside m x
unfolding byte_at
is_some-byte_at m x = is_some-option_map (λ (a : Area). get_or a.bytes (x - a.base) 0) (area_at m x)
    ∙ is_some-area_at m x

pub is_some-tag_at : (m : List Area) (x : ℕ) → is_some (tag_at m x) ≡ is_inside m x
unfolding tag_at
is_some-tag_at m x = is_some-option_map (λ (a : Area). tag_in a x) (area_at m x) ∙ is_some-area_at m x

pub is_some-number_at : (m : List Area) (at n : ℕ) → is_some (number_at m at n) ≡ is_inside m at
unfolding number_at
is_some-number_at m at n =
    is_some-option_map (λ (a : Area). little_number (bytes_in a at n)) (area_at m at) ∙ is_some-area_at m at

pub is_some-capability_at : (m : List Area) (at : ℕ) → is_some (capability_at m at) ≡ is_inside m at
unfolding capability_at
is_some-capability_at m at =
    is_some-option_map (λ (a : Area). (little_number (bytes_in a at 16), tag_in a at)) (area_at m at)
    ∙ is_some-area_at m at

-- the addresses of a granule have one tag
pub tag_at-granule : (m : List Area) (x y : ℕ) → IsMemory m → x / 16 ≡ y / 16 → tag_at m x ≡ tag_at m y
unfolding IsMemory tag_at
tag_at-granule m x y h same = go 0 m h where
  go : (low : ℕ) (m : List Area) → AreasFrom low m →
      option_map (λ a. tag_in a x) (area_at m x) ≡ option_map (λ a. tag_in a y) (area_at m y)
  go low [] h = refl
  go low (a ∷ m) h = elim (cases_Bool (has a x)) [
    | inl here ↦
        let also = has-granule a x y h.1 same here in
        let index : (x - a.base) / 16 ≡ (y - a.base) / 16 = omega (arith, starts a x here, starts a y also, h.1.base) in
        rw (here, also) (ap (λ i. Some (get_or a.tags i false)) index)
    | inr lacks ↦
        let also = lacks-granule a x y h.1 same lacks in
        rw (lacks, also) (go (end_of a) m h.2)
  ]

-- ---- a number and its bytes

-- the bytes of a part of a granule
record Part (m : List Area) (at n : ℕ) (bytes : List ℕ) : Type 0 where
  size : length bytes ≡ n
  small : All (λ b. b < 256) bytes
  each : (k : ℕ) → k < n → byte_at m (at + k) ≡ Some (get_or bytes k 0)

part_found : (m : List Area) (at n : ℕ) (a : Area) → IsMemory m → at % 16 + n ≤ 16 → area_at m at ≡ Some a →
    Part m at n (bytes_in a at n)
unfolding IsMemory byte_at
part_found m at n a h granule e =
    let found = area_found 0 m at a h e in
    let low = starts a at found.1 in
    let high : at + n ≤ end_of a = omega (arith, ends a at found.1, found.0.base, found.0.granules) in
    record {
      size = length-take-le n (drop (at - a.base) a.bytes) (omega (arith, length-drop (at - a.base) a.bytes));
      small = All-take (λ b. b < 256) n (drop (at - a.base) a.bytes)
          (All-drop (λ b. b < 256) (at - a.base) a.bytes found.0.bytes);
      each = λ k lt.
          let there : area_at m (at + k) ≡ Some a = area_at-granule 0 m (at + k) at h (omega arith) ∙ e in
          ap (λ o. option_map (λ (b : Area). get_or b.bytes (at + k - b.base) 0) o) there
          ∙ ap (λ (b : ℕ). Some b) (ap (λ i. get_or a.bytes i 0) (omega (arith, low))
          ∙ sym (get_or-take n (drop (at - a.base) a.bytes) k 0 lt ∙ get_or-drop (at - a.base) a.bytes k 0));
    }

-- ---- what is read in the area that has an address

module _ (m : List Area) (at : ℕ) (a : Area) (e : area_at m at ≡ Some a) where
  pub is_inside-found : true ≡ is_inside m at
  is_inside-found = ap is_some (sym e) ∙ is_some-area_at m at

  pub number_at-found : (n : ℕ) → number_at m at n ≡ Some (little_number (bytes_in a at n))
  unfolding number_at
  number_at-found n = rw e refl

  pub tag_at-found : tag_at m at ≡ Some (tag_in a at)
  unfolding tag_at
  tag_at-found = rw e refl

  pub capability_at-found : capability_at m at ≡ Some (little_number (bytes_in a at 16), tag_in a at)
  unfolding capability_at
  capability_at-found = rw e refl

module _ (m : List Area) (at : ℕ) (e : area_at m at ≡ None) where
  pub is_inside-nowhere : false ≡ is_inside m at
  is_inside-nowhere = ap is_some (sym e) ∙ is_some-area_at m at

  pub number_at-nowhere : (n : ℕ) → number_at m at n ≡ None
  unfolding number_at
  number_at-nowhere n = rw e refl

  pub capability_at-nowhere : capability_at m at ≡ None
  unfolding capability_at
  capability_at-nowhere = rw e refl

pub Spells-found : (m : List Area) (at n : ℕ) (a : Area) → IsMemory m → at % 16 + n ≤ 16 → area_at m at ≡ Some a →
    Spells m at n (little_number (bytes_in a at n))
unfolding Spells
Spells-found m at n a h granule e k lt =
    let part = part_found m at n a h granule e in
    part.each k lt ∙ ap (λ (b : ℕ). Some b) (sym
    (number-byte (bytes_in a at n) k part.small (omega (arith, part.size))))

pub Holds-found : (m : List Area) (at : ℕ) (a : Area) (g : List ℕ) → IsMemory m → at % 16 ≡ 0 → area_at m at ≡ Some a →
    granule_bytes g ≡ bytes_in a at 16 → Holds m at g
unfolding Holds
Holds-found m at a g h aligned e is k lt =
    let part = part_found m at 16 a h (omega (arith, aligned)) e in
    part.each k lt ∙ ap (λ (bs : List ℕ). Some (get_or bs k 0)) (sym is)

-- what a read that answers has found
found_by : {B : Type 0} (f : Area → B) (m : List Area) (x : ℕ) (v : B) → option_map f (area_at m x) ≡ Some v →
    (a : Area) × (area_at m x ≡ Some a) × (f a ≡ v)
found_by {B} f m x v e = go (area_at m x) refl e where
  go : (o : Option Area) → area_at m x ≡ o → option_map f o ≡ Some v → (a : Area) × (area_at m x ≡ Some a) × (f a ≡ v)
  go None is no_value = absurd (none-some v no_value)
  go (Some a) is value = (a, is, same_Some (f a) v value)

-- ---- the number at an address is that of the bytes there

module _ (m : List Area) (at n v : ℕ) (h : IsMemory m) (granule : at % 16 + n ≤ 16) where
  pub Spells-number_at : number_at m at n ≡ Some v → Spells m at n v
  unfolding number_at
  Spells-number_at e =
      let found = found_by (λ a. little_number (bytes_in a at n)) m at v e in
      rw (← found.2) (Spells-found m at n found.0 h granule found.1)

  pub number_at-below : number_at m at n ≡ Some v → v < 256 ^ n
  unfolding number_at
  number_at-below e =
      let found = found_by (λ a. little_number (bytes_in a at n)) m at v e in
      let part = part_found m at n found.0 h granule found.1 in
      let below = number-below (bytes_in found.0 at n) part.small in
      rw (← found.2) (rw part.size at below)

  -- bytes that are those of a number of their size
  pub number_at-Spells : 0 < n → v < 256 ^ n → Spells m at n v → number_at m at n ≡ Some v
  unfolding Spells byte_at
  number_at-Spells some below spells =
      let first : byte_at m at ≡ Some (v / 256 ^ 0 % 256) = ap (byte_at m) (omega arith) ∙ spells 0 some in
      let found = found_by (λ a. get_or a.bytes (at - a.base) 0) m at (v / 256 ^ 0 % 256) first in
      let part = part_found m at n found.0 h granule found.1 in
      number_at-found m at found.0 found.1 n ∙ ap (λ (x : ℕ). Some x) (number-spelled (bytes_in found.0 at n) v
      (λ k lt. let inside : k < n = omega (arith, part.size) in
      same_Some (get_or (bytes_in found.0 at n) k 0) (v / 256 ^ k % 256)
      (sym (part.each k inside) ∙ spells k inside))
      (rw part.size below))

-- ---- a capability is its number and its tag

pub capability_at-parts : (m : List Area) (at v : ℕ) (t : Bool) → capability_at m at ≡ Some (v, t) →
    (number_at m at 16 ≡ Some v) × (tag_at m at ≡ Some t)
unfolding capability_at
capability_at-parts m at v t e =
    let found = found_by (λ a. (little_number (bytes_in a at 16), tag_in a at)) m at (v, t) e in (
      number_at-found m at found.0 found.1 16 ∙ ap (λ (c : ℕ × Bool). Some c.0) found.2,
      tag_at-found m at found.0 found.1 ∙ ap (λ (c : ℕ × Bool). Some c.1) found.2,
    )

-- a number and a tag together
pub paired : Option ℕ → Option Bool → Option (ℕ × Bool)
paired None tag = None
paired (Some v) None = None
paired (Some v) (Some t) = Some (v, t)

pub capability_at-paired : (m : List Area) (at : ℕ) → capability_at m at ≡ paired (number_at m at 16) (tag_at m at)
unfolding capability_at number_at tag_at paired
capability_at-paired m at = go (area_at m at) where
  go : (o : Option Area) → option_map (λ a. (little_number (bytes_in a at 16), tag_in a at)) o
      ≡ paired (option_map (λ a. little_number (bytes_in a at 16)) o) (option_map (λ a. tag_in a at) o)
  go None = refl
  go (Some a) = refl

pub capability_at-from_parts : (m : List Area) (at v : ℕ) (t : Bool) → number_at m at 16 ≡ Some v →
    tag_at m at ≡ Some t → capability_at m at ≡ Some (v, t)
unfolding paired
capability_at-from_parts m at v t number tag = capability_at-paired m at ∙ rw (number, tag) refl

-- ---- a number within the number of its granule

pub number-part : (a : Area) (at n : ℕ) → IsArea a → IsTrue (has a at) → at % 8 + n ≤ 8
    → little_number (take 8 (drop (8 * (at % 16 / 8)) (bytes_in a (at / 16 * 16) 16))) / 2 ^ (8 * (at % 8)) % 2 ^
    (8 * n) ≡ little_number (bytes_in a at n)
number-part a at n area is_here within =
    let here : has a at ≡ true = search rules in
    let low = starts a at here in
    let start : ℕ = at / 8 * 8 - a.base in
    let half : List ℕ = take 8 (drop start a.bytes) in
    let o : ℕ = at % 8 in
    let small : All (λ b. b < 256) half =
    All-take (λ b. b < 256) 8 (drop start a.bytes) (All-drop (λ b. b < 256) start a.bytes area.bytes) in
    let first : at / 16 * 16 - a.base + 8 * (at % 16 / 8) ≡ start = omega (arith, low, area.base) in
    let place : start + o ≡ at - a.base = omega (arith, low, area.base) in
    let is_half : take 8 (drop (8 * (at % 16 / 8)) (bytes_in a (at / 16 * 16) 16)) ≡ half =
    drop_within (8 * (at % 16 / 8)) 8 16 (drop (at / 16 * 16 - a.base) a.bytes) (omega arith)
    ∙ ap (take 8) (drop-drop (8 * (at % 16 / 8)) (at / 16 * 16 - a.base) a.bytes ∙ ap (λ (k : ℕ). drop k a.bytes) first)
    in
    let part : take n (drop o half) ≡ bytes_in a at n =
    drop_within o n 8 (drop start a.bytes) within
    ∙ ap (take n) (drop-drop o start a.bytes ∙ ap (λ (k : ℕ). drop k a.bytes) place) in
    rw (eight o, eight n, is_half) (sym (number-take (drop o half) n (All-drop (λ b. b < 256) o half small)
    ∙ ap (λ (v : ℕ). v % 256 ^ n) (number-drop half o small)) ∙ ap little_number part) where
      next : (k : ℕ) → 8 * suc k ≡ 8 * k + 8
      next k = omega arith

      eight : (k : ℕ) → 2 ^ (8 * k) ≡ 256 ^ k
      eight zero = refl
      eight (suc k) = ap (λ (e : ℕ). 2 ^ e) (next k) ∙ pow-add 2 (8 * k) 8 ∙ ap (λ (e : ℕ). e * 2 ^ 8) (eight k)
          ∙ sym (pow-suc 256 k)

      rest : (o n m : ℕ) → o + n ≤ m → m ≡ o + (m - o)
      rest o n m within = omega (arith, within)

      drop_within : (o n m : ℕ) (xs : List ℕ) → o + n ≤ m → take n (drop o (take m xs)) ≡ take n (drop o xs)
      drop_within o n m xs within =
          ap (λ (e : ℕ). take n (drop o (take e xs))) (rest o n m within) ∙ ap (take n) (drop-take o (m - o) xs)
          ∙ take-take n (m - o) (drop o xs) (omega (arith, within))
