-- What a write does to memory, address by address.
use Rattle.std.proofs.Common.{◌≡◌, ℕ, ◌+◌, ◌-◌, ◌/◌, ◌%◌, ◌<◌, ◌≤◌, ◌⊎◌, ◌||◌, leb, ltb, Bool, true, false, List, []}
use Rattle.std.proofs.Common.{◌∷◌, length, get_or, Some, refl, sym, ap, ◌∙◌, arith, inl, inr}
use Rattle.std.specs.Prelude.{All}
use Rattle.std.proofs.lemmas.Bool.{cases_Bool, leb-true, leb-false, ltb-true, ltb-false, le-leb, and_parts, and_cases}
use Rattle.tag_mem.specs.Areas.{Area, IsArea, AreasFrom, IsMemory, end_of, has, tag_in, is_inside, byte_at, tag_at}
use Rattle.tag_mem.specs.Areas.{extents}
use Rattle.tag_mem.specs.Memory.{granules_to, area_holding, area_with, written, fits_inside, Writes}
use Rattle.tag_mem.proofs.InArea.{LiesIn, LiesIn-holds, IsArea-after, has-after, length-after, length-replaced}
use Rattle.tag_mem.proofs.InArea.{byte_there, byte_other, tag_there, tag_other}

pub byte_at-here : (a : Area) (m : List Area) (x : ℕ) → has a x ≡ true →
    byte_at (a ∷ m) x ≡ Some (get_or a.bytes (x - a.base) 0)
unfolding byte_at
byte_at-here a m x h = rw h refl

pub byte_at-behind : (a : Area) (m : List Area) (x : ℕ) → has a x ≡ false → byte_at (a ∷ m) x ≡ byte_at m x
unfolding byte_at
byte_at-behind a m x h = rw h refl

pub tag_at-here : (a : Area) (m : List Area) (x : ℕ) → has a x ≡ true → tag_at (a ∷ m) x ≡ Some (tag_in a x)
unfolding tag_at
tag_at-here a m x h = rw h refl

pub tag_at-behind : (a : Area) (m : List Area) (x : ℕ) → has a x ≡ false → tag_at (a ∷ m) x ≡ tag_at m x
unfolding tag_at
tag_at-behind a m x h = rw h refl

pub is_inside-cons : (a : Area) (m : List Area) (x : ℕ) → is_inside (a ∷ m) x ≡ (has a x || is_inside m x)
unfolding is_inside
is_inside-cons a m x = refl

pub fits_inside-here : (a : Area) (m : List Area) (at n : ℕ) → has a at ≡ true →
    fits_inside (a ∷ m) at n ≡ leb (at + n) (end_of a)
unfolding fits_inside
fits_inside-here a m at n h = rw h refl

pub fits_inside-behind : (a : Area) (m : List Area) (at n : ℕ) → has a at ≡ false →
    fits_inside (a ∷ m) at n ≡ fits_inside m at n
unfolding fits_inside
fits_inside-behind a m at n h = rw h refl

pub written-here : (a : Area) (m : List Area) (at : ℕ) (new : List ℕ) (tag : Bool) → has a at ≡ true →
    written (a ∷ m) at new tag ≡ area_with a at new tag ∷ m
unfolding written
written-here a m at new tag h = rw h refl

pub written-behind : (a : Area) (m : List Area) (at : ℕ) (new : List ℕ) (tag : Bool) → has a at ≡ false →
    written (a ∷ m) at new tag ≡ a ∷ written m at new tag
unfolding written
written-behind a m at new tag h = rw h refl

-- where an address that the area lacks lies
pub apart : (a : Area) (x : ℕ) → has a x ≡ false → (x < a.base) ⊎ (end_of a ≤ x)
apart a x h = elim (and_cases _ _ h) [
  | inl low ↦ inl (leb-false a.base x low)
  | inr high ↦ inr
      (ltb-false x (end_of a) high)
]

pub starts : (a : Area) (x : ℕ) → has a x ≡ true → a.base ≤ x
starts a x h = leb-true a.base x (and_parts (leb a.base x) (ltb x (end_of a)) h).0

pub ends : (a : Area) (x : ℕ) → has a x ≡ true → x < end_of a
ends a x h = ltb-true x (end_of a) (and_parts (leb a.base x) (ltb x (end_of a)) h).1

-- an address inside lies behind the first base
pub low_bound : (low : ℕ) (m : List Area) (at n : ℕ) → AreasFrom low m → fits_inside m at n ≡ true → low ≤ at
unfolding fits_inside
low_bound low [] at n h e = cc
low_bound low (a ∷ m) at n h e = elim (cases_Bool (has a at)) [
  | inl here ↦ let base = starts a at here in omega (arith, h.0)
  | inr lacks ↦ let behind = low_bound (end_of a) m at n h.2 (sym (fits_inside-behind a m at n lacks) ∙ e) in
      omega (arith, h.0, behind)
]

-- what a write does at one address
pub record WritesAt (old new : List Area) (at : ℕ) (bytes : List ℕ) (tag : Bool) (x : ℕ) : Type 0 where
  pub byte_there : at ≤ x → x < at + length bytes → byte_at new x ≡ Some (get_or bytes (x - at) 0)
  pub byte_other : (x < at) ⊎ (at + length bytes ≤ x) → byte_at new x ≡ byte_at old x
  pub tag_there : at / 16 ≤ x / 16 → x / 16 < granules_to (at + length bytes) → tag_at new x ≡ Some tag
  pub tag_other : (x / 16 < at / 16) ⊎ (granules_to (at + length bytes) ≤ x / 16) → tag_at new x ≡ tag_at old x
  pub inside : is_inside new x ≡ is_inside old x

-- in the first area
writes_here : (a : Area) (m : List Area) (at : ℕ) (new : List ℕ) (tag : Bool) (x : ℕ) → LiesIn a at (length new)
    → WritesAt (a ∷ m) (area_holding a (at - a.base) new tag ∷ m) at new tag x
writes_here a m at new tag x lies =
    let a' : Area = area_holding a (at - a.base) new tag in
    let same = has-after a at new tag lies x in
    let inside = is_inside-cons a' m x ∙ ap (λ b. b || is_inside m x) same ∙ sym (is_inside-cons a m x) in
    elim (cases_Bool (has a x)) [
      | inl here ↦
          let base = starts a x here in
          let byte_old = byte_at-here a m x here in
          let byte_new = byte_at-here a' m x (same ∙ here) in
          let tag_old = tag_at-here a m x here in
          let tag_new = tag_at-here a' m x (same ∙ here) in
          record {
            byte_there = λ low high. byte_new ∙ ap (λ (b : ℕ). Some b) (byte_there a at new tag lies x low high);
            byte_other = λ other. byte_new ∙ ap (λ (b : ℕ). Some b) (byte_other a at new tag lies x base other)
                ∙ sym byte_old;
            tag_there = λ low high. tag_new ∙ ap (λ (b : Bool). Some b) (tag_there a at new tag lies x low high);
            tag_other = λ other. tag_new ∙ ap (λ (b : Bool). Some b) (tag_other a at new tag lies x base other)
                ∙ sym tag_old;
            inside = inside;
          }
      | inr lacks ↦
          let out = apart a x lacks in
          record {
            byte_there = λ low high. absurd (elim out
                [ inl before ↦ omega (arith, lies.low) | inr behind ↦ omega (arith, lies.high) ]);
            byte_other = λ other. byte_at-behind a' m x (same ∙ lacks) ∙ sym (byte_at-behind a m x lacks);
            tag_there = λ low high. absurd (elim out [
              | inl before ↦ omega (arith, lies.low, lies.area.base)
              | inr behind ↦ omega (arith, lies.high, lies.area.base, lies.area.granules)
            ]);
            tag_other = λ other. tag_at-behind a' m x (same ∙ lacks) ∙ sym (tag_at-behind a m x lacks);
            inside = inside;
          }
    ]

-- in an area behind it
writes_behind : (a : Area) (m m' : List Area) (at : ℕ) (new : List ℕ) (tag : Bool) (x : ℕ) → IsArea a → end_of a ≤ at →
    WritesAt m m' at new tag x
    → WritesAt (a ∷ m) (a ∷ m') at new tag x
writes_behind a m m' at new tag x area before w =
    let inside = is_inside-cons a m' x ∙ ap (λ b. has a x || b) w.inside ∙ sym (is_inside-cons a m x) in
    elim (cases_Bool (has a x)) [
      | inl here ↦
          let high = ends a x here in
          record {
            byte_there = λ low _. absurd (omega (arith, high));
            byte_other = λ _. byte_at-here a m' x here ∙ sym (byte_at-here a m x here);
            tag_there = λ low _. absurd (omega (arith, high, area.base, area.granules));
            tag_other = λ _. tag_at-here a m' x here ∙ sym (tag_at-here a m x here);
            inside = inside;
          }
      | inr lacks ↦ record {
        byte_there = λ low high. byte_at-behind a m' x lacks ∙ w.byte_there low high;
        byte_other = λ other. byte_at-behind a m' x lacks ∙ w.byte_other other ∙ sym (byte_at-behind a m x lacks);
        tag_there = λ low high. tag_at-behind a m' x lacks ∙ w.tag_there low high;
        tag_other = λ other. tag_at-behind a m' x lacks ∙ w.tag_other other ∙ sym (tag_at-behind a m x lacks);
        inside = inside;
      }
    ]

area_with-fits : (a : Area) (at : ℕ) (new : List ℕ) (tag : Bool) → leb (at + length new) (end_of a) ≡ true →
    area_with a at new tag ≡ area_holding a (at - a.base) new tag
area_with-fits a at new tag h = rw h refl

writes_at : (low : ℕ) (m : List Area) (at : ℕ) (new : List ℕ) (tag : Bool) (x : ℕ) → AreasFrom low m →
    fits_inside m at (length new) ≡ true
    → WritesAt m (written m at new tag) at new tag x
unfolding fits_inside
writes_at low [] at new tag x h e = cc
writes_at low (a ∷ m) at new tag x h e = elim (cases_Bool (has a at)) [
  | inl here ↦
      let fits = sym (fits_inside-here a m at (length new) here) ∙ e in
      let is = written-here a m at new tag here ∙ ap (λ b. b ∷ m) (area_with-fits a at new tag fits) in
      rw is (writes_here a m at new tag x (LiesIn-holds a at (length new) h.1 here fits))
  | inr lacks ↦
      let fits = sym (fits_inside-behind a m at (length new) lacks) ∙ e in
      rw (written-behind a m at new tag lacks)
      (writes_behind a m (written m at new tag) at new tag x h.1 (low_bound (end_of a) m at (length new) h.2 fits)
      (writes_at (end_of a) m at new tag x h.2 fits))
]

-- where the bytes go past the end of the area, nothing changes
pub written-outside : (m : List Area) (at : ℕ) (new : List ℕ) (tag : Bool) → fits_inside m at (length new) ≡ false →
    written m at new tag ≡ m
unfolding written
written-outside [] at new tag e = refl
written-outside (a ∷ m) at new tag e = elim (cases_Bool (has a at)) [
  | inl here ↦ let past = sym (fits_inside-here a m at (length new) here) ∙ e in rw (here, past) refl
  | inr lacks ↦ let past = sym (fits_inside-behind a m at (length new) lacks) ∙ e in
      rw lacks (ap (λ areas. a ∷ areas) (written-outside m at new tag past))
]

-- a part of a granule fits where its address lies inside
pub fits_inside-granule : (m : List Area) (at n : ℕ) → IsMemory m → at % 16 + n ≤ 16 →
    fits_inside m at n ≡ is_inside m at
unfolding IsMemory fits_inside is_inside
fits_inside-granule m at n h granule = go 0 m h where
  go : (low : ℕ) (m : List Area) → AreasFrom low m → fits_inside m at n ≡ is_inside m at
  go low [] h = refl
  go low (a ∷ m) h = elim (cases_Bool (has a at)) [
    | inl here ↦ let fits : at + n ≤ end_of a = omega (arith, ends a at here, h.1.base, h.1.granules) in
        rw here (le-leb (at + n) (end_of a) fits)
    | inr lacks ↦ rw lacks (go (end_of a) m h.2)
  ]

-- a write keeps where the areas lie
pub extents-written : (m : List Area) (at : ℕ) (new : List ℕ) (tag : Bool) → extents (written m at new tag) ≡ extents m
unfolding written extents
extents-written [] at new tag = refl
extents-written (a ∷ m) at new tag = elim (cases_Bool (has a at)) [
  | inl here ↦ rw here (elim (cases_Bool (leb (at + length new) (end_of a))) [
    | inl fits ↦
        let high = leb-true (at + length new) (end_of a) fits in
        let low = starts a at here in
        rw fits (ap (λ n. (a.base, n) ∷ extents m) (length-replaced (at - a.base) new a.bytes (omega arith)))
    | inr past ↦ rw past refl
  ])
  | inr lacks ↦ rw lacks (ap (λ rest. (a.base, length a.bytes) ∷ rest) (extents-written m at new tag))
]

pub IsMemory-written : (m : List Area) (at : ℕ) (new : List ℕ) (tag : Bool) → IsMemory m → All (λ b. b < 256) new →
    IsMemory (written m at new tag)
unfolding IsMemory written
IsMemory-written m at new tag h small = go 0 m h where
  go : (low : ℕ) (m : List Area) → AreasFrom low m → AreasFrom low (written m at new tag)
  go low [] h = h
  go low (a ∷ m) h = elim (cases_Bool (has a at)) [
    | inl here ↦ rw here (elim (cases_Bool (leb (at + length new) (end_of a))) [
      | inl fits ↦
          let lies = LiesIn-holds a at (length new) h.1 here fits in
          rw fits (h.0, IsArea-after a at new tag lies small, rw (length-after a at new tag lies) h.2)
      | inr past ↦ rw past h
    ])
    | inr lacks ↦ rw lacks (h.0, h.1, go (end_of a) m h.2)
  ]

-- what a write that fits does to memory
pub Writes-written : (m : List Area) (at : ℕ) (new : List ℕ) (tag : Bool) → IsMemory m →
    fits_inside m at (length new) ≡ true → Writes m (written m at new tag) at new tag
unfolding IsMemory
Writes-written m at new tag h e =
    let each : (x : ℕ) → WritesAt m (written m at new tag) at new tag x = λ x. writes_at 0 m at new tag x h e in
    record {
      bytes_there = λ x. (each x).byte_there;
      other_bytes = λ x. (each x).byte_other;
      tags_there = λ x. (each x).tag_there;
      other_tags = λ x. (each x).tag_other;
      same_inside = λ x. (each x).inside;
      same_extents = extents-written m at new tag;
    }
