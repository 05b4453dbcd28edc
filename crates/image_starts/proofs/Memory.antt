-- The memory to which an image loads.
use Rattle.std.proofs.Common.{◌≡◌, ℕ, ◌+◌, ◌-◌, ◌*◌, ◌/◌, ◌%◌, ◌^◌, ◌<◌, ◌≤◌, ◌⊎◌, true, false, List, [], ◌∷◌, length}
use Rattle.std.proofs.Common.{Some, Ok, sym, ap, ◌∙◌, arith, inl, inr}
use Rattle.std.specs.Prelude.{All, slice_index}
use Rattle.std.proofs.lemmas.Bool.{cases_Bool, cases_lt}
use Rattle.tag_mem.specs.Areas.{Area, IsMemory, is_inside, byte_at, tag_at}
use Rattle.tag_mem.specs.Memory.{written, fits_inside, granules_to, number_at, Spells}
use Rattle.tag_mem.specs.Regions.{LieFrom, lies_in, fresh, IsZeroed}
use Rattle.tag_mem.specs.declared.region.Region.{Region}
use Rattle.tag_mem.proofs.ByAddress.{IsMemory-written, Writes-written, written-outside}
use Rattle.tag_mem.proofs.Fresh.{IsMemory-fresh, IsZeroed-fresh}
use Rattle.tag_mem.proofs.Laws.{byte_at-written_other, is_inside-written, fits_inside-written}
use Rattle.tag_mem.proofs.Reading.{number_at-Spells}
use Rattle.cap_reloc.specs.Begins.{IsInside}
use Rattle.elf_file.specs.declared.image.Image.{Image}
use Rattle.image_load.specs.Judging.{Extent, end_of, text_of, initial_of, overlap, segments_of, judged}
use Rattle.image_load.specs.State.{regions_of, memory_of}
use Rattle.image_load.proofs.Judged.{IsJudged, judged_is, no_both}
use Rattle.image_load.proofs.Sorted.{regions_lie}
use Rattle.image_starts.specs.Images.{HasBytes}
use Rattle.image_starts.proofs.Regions.{added_here, added_other, with_here, with_other, fits_among}
use Rattle.image_starts.proofs.Relocated.{relocated_memory, relocated_inside, relocated_bytes, relocated_tags, all_good}

-- no tag anywhere
abbrev pub IsUntagged : List Area → Type 0
IsUntagged m = (x : ℕ) → is_inside m x ≡ true → tag_at m x ≡ Some false

written_untagged : (m : List Area) (at : ℕ) (new : List ℕ) → IsMemory m → IsUntagged m
    → IsUntagged (written m at new false)
written_untagged m at new h clear x e =
    elim (cases_Bool (fits_inside m at (length new))) as (λ _. tag_at (written m at new false) x ≡ Some false) [
      | inr past ↦
          let same = written-outside m at new false past in
          ap (λ m'. tag_at m' x) same ∙ clear x (sym (ap (λ m'. is_inside m' x) same) ∙ e)
      | inl fits ↦
          let w = Writes-written m at new false h fits in
          let was : is_inside m x ≡ true = sym (w.same_inside x) ∙ e in
          elim (cases_lt (x / 16) (at / 16)) as (λ _. tag_at (written m at new false) x ≡ Some false) [
            | inl before ↦ w.other_tags x (inl before) ∙ clear x was
            | inr from ↦ elim (cases_lt (x / 16) (granules_to (at + length new)))
                as (λ _. tag_at (written m at new false) x ≡ Some false) [
                  | inl within ↦ w.tags_there x from within
                  | inr behind ↦ w.other_tags x (inr behind) ∙ clear x was
                ]
          ]
    ]

-- an address of one extent is none of another
pub out_of : (a b : Extent) → overlap a b ≡ false → (x : ℕ) → a.0 ≤ x → x < end_of a → (x < b.0) ⊎ (end_of b ≤ x)
out_of a b h x from to = elim (cases_lt x b.0) as (λ _. (x < b.0) ⊎ (end_of b ≤ x)) [
  | inl before ↦ inl before
  | inr low ↦ elim (cases_lt x (end_of b)) as (λ _. (x < b.0) ⊎ (end_of b ≤ x)) [
    | inl high ↦ absurd (no_both a b h x from to low high)
    | inr behind ↦ inr behind
  ]
]

pub into : (a b : Extent) → overlap a b ≡ false → (x : ℕ) → b.0 ≤ x → x < end_of b → (x < a.0) ⊎ (end_of a ≤ x)
into a b h x from to = elim (cases_lt x a.0) as (λ _. (x < a.0) ⊎ (end_of a ≤ x)) [
  | inl before ↦ inl before
  | inr low ↦ elim (cases_lt x (end_of a)) as (λ _. (x < a.0) ⊎ (end_of a ≤ x)) [
    | inl high ↦ absurd (no_both a b h x low high from to)
    | inr behind ↦ inr behind
  ]
]

module _ (i : Image) (fine : judged i ≡ Ok tt) (small : HasBytes i) where
  abbrev all : List Region
  all = regions_of (segments_of i)

  lie : LieFrom 0 all
  lie = regions_lie i fine

  pub facts : IsJudged i
  facts = judged_is i fine

  abbrev first : List Area
  first = fresh all

  first_memory : IsMemory first
  first_memory = IsMemory-fresh all lie

  zeroed : IsZeroed first all
  zeroed = IsZeroed-fresh all lie

  abbrev second : List Area
  second = written first i.text_base i.text false

  second_memory : IsMemory second
  second_memory = IsMemory-written first i.text_base i.text false first_memory small.text

  -- before the relocations
  abbrev pub third : List Area
  third = written second i.initial_base i.initial false

  pub third_memory : IsMemory third
  third_memory = IsMemory-written second i.initial_base i.initial false second_memory small.initial

  -- ---- places

  third_inside : (x : ℕ) → lies_in all x ≡ true → is_inside third x ≡ true
  third_inside x h =
      is_inside-written second i.initial_base i.initial false x ∙ is_inside-written first i.text_base i.text false x
      ∙ zeroed.inside x ∙ h

  lies_initial : (x : ℕ) → i.initial_base ≤ x → x < i.initial_base + length i.initial → lies_in all x ≡ true
  lies_initial x from to = added_other (text_of i) _ x
      (added_here (initial_of i) (regions_of (i.heap ∷ i.stack ∷ [])) x from to)

  lies_heap : (x : ℕ) → i.heap.0 ≤ x → x < end_of i.heap → lies_in all x ≡ true
  lies_heap x from to = added_other (text_of i) _ x (added_other (initial_of i) _ x
      (added_here i.heap (regions_of (i.stack ∷ [])) x from to))

  lies_stack : (x : ℕ) → i.stack.0 ≤ x → x < end_of i.stack → lies_in all x ≡ true
  lies_stack x from to = added_other (text_of i) _ x (added_other (initial_of i) _ x
      (added_other i.heap _ x (added_here i.stack [] x from to)))

  pub initial_inside : (x : ℕ) → i.initial_base ≤ x → x < i.initial_base + length i.initial
      → is_inside third x ≡ true
  initial_inside x from to = third_inside x (lies_initial x from to)

  -- ---- before the relocations

  pub third_untagged : IsUntagged third
  third_untagged =
      written_untagged second i.initial_base i.initial second_memory
      (written_untagged first i.text_base i.text first_memory
      (λ x e. zeroed.tags x (sym (zeroed.inside x) ∙ e)))

  pub initial_byte : (x : ℕ) → i.initial_base ≤ x → x < i.initial_base + length i.initial
      → byte_at third x ≡ Some (slice_index i.initial (x - i.initial_base))
  initial_byte x from to =
      let some : 0 < length i.initial = omega arith in
      let fits = fits_among (initial_of i) all
      (with_other (text_of i) _ _ (with_here (initial_of i) (regions_of (i.heap ∷ i.stack ∷ [])) some)) lie some in
      (Writes-written second i.initial_base i.initial false second_memory
      (fits_inside-written first i.text_base i.text false i.initial_base (length i.initial) ∙ fits)).bytes_there x from
      to

  text_byte_before : (x : ℕ) → i.text_base ≤ x → x < i.text_base + length i.text
      → byte_at third x ≡ Some (slice_index i.text (x - i.text_base))
  text_byte_before x from to =
      let some : 0 < length i.text = omega arith in
      byte_at-written_other second i.initial_base i.initial false second_memory x
      (out_of (text_of i) (initial_of i) facts.well.spread.td x from to)
      ∙ (Writes-written first i.text_base i.text false first_memory
      (fits_among (text_of i) all (with_here (text_of i) _ some) lie some)).bytes_there x from to

  heap_byte_before : (x : ℕ) → i.heap.0 ≤ x → x < end_of i.heap → byte_at third x ≡ Some 0
  heap_byte_before x from to =
      byte_at-written_other second i.initial_base i.initial false second_memory x
      (into (initial_of i) i.heap facts.well.spread.dh x from to)
      ∙ byte_at-written_other first i.text_base i.text false first_memory x
      (into (text_of i) i.heap facts.well.spread.th x from to)
      ∙ zeroed.bytes x (lies_heap x from to)

  -- ---- behind them

  pub places : All (IsInside i.initial_base (length i.initial)) i.relocs
  places = all_good i.relocs (initial_of i) facts.well.relocs

  pub is_memory : IsMemory (memory_of i)
  unfolding memory_of
  is_memory = relocated_memory third i.relocs third_memory

  pub stack_inside : (x : ℕ) → i.stack.0 ≤ x → x < end_of i.stack → is_inside (memory_of i) x ≡ true
  unfolding memory_of
  stack_inside x from to = relocated_inside third i.relocs x ∙ third_inside x (lies_stack x from to)

  pub heap_byte : (x : ℕ) → i.heap.0 ≤ x → x < end_of i.heap → byte_at (memory_of i) x ≡ Some 0
  unfolding memory_of
  heap_byte x from to =
      relocated_bytes i.initial_base (length i.initial) x (into (initial_of i) i.heap facts.well.spread.dh x from to)
      third i.relocs third_memory places
      ∙ heap_byte_before x from to

  pub heap_tag : (x : ℕ) → i.heap.0 ≤ x → x < end_of i.heap → tag_at (memory_of i) x ≡ Some false
  unfolding memory_of
  heap_tag x from to =
      relocated_tags i.initial_base (length i.initial) x (into (initial_of i) i.heap facts.well.spread.dh x from to)
      third i.relocs third_memory places
      ∙ third_untagged x (third_inside x (lies_heap x from to))

  text_byte : (x : ℕ) → i.text_base ≤ x → x < i.text_base + length i.text
      → byte_at (memory_of i) x ≡ Some (slice_index i.text (x - i.text_base))
  unfolding memory_of
  text_byte x from to =
      relocated_bytes i.initial_base (length i.initial) x
      (out_of (text_of i) (initial_of i) facts.well.spread.td x from to) third i.relocs third_memory places
      ∙ text_byte_before x from to

  -- a word of the text
  pub text_word : (k v : ℕ) → 4 * k + 4 ≤ length i.text → v < 2 ^ 32
      → ((j : ℕ) → j < 4 → slice_index i.text (4 * k + j) ≡ v / 256 ^ j % 256)
      → number_at (memory_of i) (i.text_base + 4 * k) 4 ≡ Some v
  unfolding Spells
  text_word k v below word bytes =
      let even = facts.well.spread.text.base in
      number_at-Spells (memory_of i) (i.text_base + 4 * k) 4 v is_memory (omega arith) (omega arith) (omega arith)
      (λ j lt.
      text_byte (i.text_base + 4 * k + j) (omega arith) (omega arith)
      ∙ ap (λ n. Some (slice_index i.text n)) (let q : i.text_base + 4 * k + j - i.text_base ≡ 4 * k + j = omega arith
      in q)
      ∙ ap (λ (b : ℕ). Some b) (bytes j lt))
