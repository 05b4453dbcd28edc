-- The words that are noted, one branch or relocation after the other, and what a walk over the words has seen.
use Rattle.std.proofs.Common.{◌≡◌, ℕ, zero, suc, ◌+◌, ◌-◌, ◌*◌, ◌/◌, ◌%◌, ◌<◌, ◌==◌, ◌&&◌, ◌||◌, Bool, true, false}
use Rattle.std.proofs.Common.{cond, List, [], ◌∷◌, length, take, drop, Some, None, refl, sym, ap, ◌∙◌, subst, arith}
use Rattle.std.proofs.Common.{add-one}
use Rattle.std.specs.Prelude.{All, map, slice_get}
use Rattle.std.specs.Option.{option_map}
use Rattle.std.proofs.lemmas.List.Elements.{All-cons, All-head, All-tail}
use Rattle.std.specs.List.{filter}
use Rattle.elf_file.specs.declared.image.Image.{Image}
use Rattle.elf_file.specs.declared.image.Reloc.{Reloc}
use Rattle.cap_machine.specs.ContainedText.{Text, IsPlace, instr_at, target}
use Rattle.image_load.specs.Judging.{address_of}
use Rattle.image_load.specs.Contained.{executes, text_in}
use Rattle.image_load.proofs.Walk.{at_some, at_none}
use Rattle.elf_audit.specs.Rules.{holds, leads_to, is_target, is_among, is_reached, reason_at, NoWord}

-- ---- branches

pub no_target_yet : (t : Text) (y : ℕ) → is_target t 0 y ≡ false
unfolding is_target
no_target_yet t y = refl

target_next : (t : Text) (n y : ℕ) →
    is_target t (n + 1) y ≡ (holds (λ i. leads_to (target i (t.base + 4 * n)) y) (instr_at t (t.base + 4 * n))
    || is_target t n y)
unfolding is_target
target_next t n y = ap (λ m. is_target t m y) (add-one n)

pub target_noted : (t : Text) (n y : ℕ) (old new : Bool) →
    new ≡ (holds (λ i. leads_to (target i (t.base + 4 * n)) y) (instr_at t (t.base + 4 * n)) || old) →
    old ≡ is_target t n y → new ≡ is_target t (n + 1) y
target_noted t n y old new is seen =
    is ∙ ap (λ b. holds (λ i. leads_to (target i (t.base + 4 * n)) y) (instr_at t (t.base + 4 * n)) || b) seen
    ∙ sym (target_next t n y)

-- ---- relocations

abbrev pub entered : List Reloc → ℕ → Bool
entered rs x = is_among (map address_of (filter executes rs)) x

entered_first : (r : Reloc) (rs : List Reloc) (x : ℕ) →
    entered (r ∷ rs) x ≡ (executes r && address_of r == x || entered rs x)
unfolding is_among
entered_first r rs x = by (executes r)
  where
    by : (b : Bool) → is_among (map address_of (cond b (r ∷ filter executes rs) (filter executes rs))) x
        ≡ (b && address_of r == x || is_among (map address_of (filter executes rs)) x)
    by true = refl
    by false = refl

pub entered_next : (rs : List Reloc) (k : ℕ) (r : Reloc) (x : ℕ) → slice_get rs k ≡ Some r →
    entered (drop k rs) x ≡ (executes r && address_of r == x || entered (drop (k + 1) rs) x)
entered_next rs k r x e = ap (λ l. entered l x) (at_some rs k r e).0 ∙ entered_first r (drop (k + 1) rs) x

pub entered_none : (rs : List Reloc) (k x : ℕ) → slice_get rs k ≡ None → entered (drop k rs) x ≡ false
unfolding is_among
entered_none rs k x e = ap (λ l. entered l x) (at_none rs k e)

-- what is noted counts no longer among what is to come
pub note_moves : (come hit old : Bool) → (come || (hit || old)) ≡ ((hit || come) || old)
note_moves true true old = refl
note_moves true false old = refl
note_moves false true old = refl
note_moves false false old = refl

pub entry_moves : (hit relocs targets : Bool) → (hit || (relocs || targets)) ≡ (targets || (hit || relocs))
entry_moves true relocs true = refl
entry_moves true relocs false = refl
entry_moves false true true = refl
entry_moves false true false = refl
entry_moves false false true = refl
entry_moves false false false = refl

pub reached_by : (i : Image) (x : ℕ) →
    (is_target (text_in i) (length i.text / 4) x || (i.entry == x || entered i.relocs x)) ≡ is_reached (text_in i) x
unfolding is_among
reached_by i x = refl

-- ---- the relocations that were walked over

next_pass : {X : Type 0} (P : X → Type 0) (xs : List X) (k : ℕ) (x : X) → slice_get xs k ≡ Some x → P x →
    All P (take k xs) → All P (take (suc k) xs)
next_pass P [] k x e new all = absurd cc
next_pass P (y ∷ ys) zero x e new all =
    let same : y ≡ x = cc in All-cons P y [] (subst P (sym same) new) (λ j d lt. absurd (omega arith))
next_pass P (y ∷ ys) (suc k) x e new all =
    All-cons P y (take (suc k) ys) (All-head P y (take k ys) all)
    (next_pass P ys k x e new (All-tail P y (take k ys) all))

pub one_more : {X : Type 0} (P : X → Type 0) (xs : List X) (k : ℕ) (x : X) → slice_get xs k ≡ Some x → P x →
    All P (take k xs) → All P (take (k + 1) xs)
one_more P xs k x e new all = subst (λ n. All P (take n xs)) (sym (add-one k)) (next_pass P xs k x e new all)

pub all_walked : {X : Type 0} (P : X → Type 0) (xs : List X) (k : ℕ) → slice_get xs k ≡ None → All P (take k xs) →
    All P xs
all_walked P [] k e all = λ j d lt. absurd (omega arith)
all_walked P (y ∷ ys) zero e all = absurd cc
all_walked P (y ∷ ys) (suc k) e all =
    All-cons P y ys (All-head P y (take k ys) all) (all_walked P ys k e (All-tail P y (take k ys) all))

-- a test that gives 0 for each gives 0 for the one at a place
pub none_there : {X : Type 0} (f : X → ℕ) (xs : List X) (k n : ℕ) → All (λ x. f x ≡ 0) xs →
    option_map f (slice_get xs k) ≡ Some n → n ≡ 0
none_there f [] k n all e = absurd cc
none_there f (y ∷ ys) zero n all e = let is : f y ≡ n = cc in sym is ∙ All-head (λ x. f x ≡ 0) y ys all
none_there f (y ∷ ys) (suc k) n all e = none_there f ys k n (All-tail (λ x. f x ≡ 0) y ys all) e

-- ---- words by their numbers

module _ (t : Text) (base : t.base % 16 ≡ 0) (size : length t.bytes % 16 ≡ 0) where
  pub numbered_place : (k : ℕ) → k < length t.bytes / 4 → IsPlace t (t.base + 4 * k)
  numbered_place k below = record { from = omega arith; below = omega arith; even = omega arith }

  pub none_before : (k : ℕ) → ((j : ℕ) → j < k → reason_at t (t.base + 4 * j) ≡ 0) → (y : ℕ) → IsPlace t y →
      y < t.base + 4 * k → reason_at t y ≡ 0
  none_before k each y place before =
      let from = place.from in
      let even = place.even in
      let is : t.base + 4 * ((y - t.base) / 4) ≡ y = omega arith in
      subst (λ x. reason_at t x ≡ 0) is (each ((y - t.base) / 4) (omega arith))

  pub none_at_all : (k : ℕ) → length t.bytes / 4 ≡ k → ((j : ℕ) → j < k → reason_at t (t.base + 4 * j) ≡ 0) → NoWord t
  none_at_all k all each x place = let below = place.below in none_before k each x place (omega arith)
