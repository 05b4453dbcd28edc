-- The first state of a contained image is contained.
use Rattle.std.proofs.Common.{◌≡◌, ℕ, zero, suc, ◌+◌, ◌/◌, ◌%◌, ◌^◌, ◌<◌, ◌≤◌, ◌⊎◌, inl, inr, Bool, true, false, cond}
use Rattle.std.proofs.Common.{eqb, List, [], ◌∷◌, length, get_or, Option, Some, None, Ok, refl, sym, ap, ◌∙◌, subst}
use Rattle.std.proofs.Common.{arith, replicate}
use Rattle.std.specs.Prelude.{All, ◌&&◌, ◌||◌, not, nat_eq, nat_lt, nat_le, slice_index, slice_index_or, slice_set, map}
use Rattle.std.specs.Prelude.{Contains, if◌then◌else◌}
use Rattle.std.specs.List.{filter, insert, prefix_len}
use Rattle.std.proofs.lemmas.Bool.{false≢true, cases_Bool, cases_lt, both_ways, not_from_false, ne_eqb}
use Rattle.std.proofs.lemmas.List.{get_or-replicate, get_or_past}
use Rattle.std.proofs.lemmas.List.Edits.{get_or-insert_at}
use Rattle.std.proofs.lemmas.List.Elements.{All-cons, All-head, All-tail, All-contains, All-contains_itself}
use Rattle.std.proofs.lemmas.List.Sums.{prefix_len-le-length}
use Rattle.std.proofs.lemmas.Option.{same_Some}
use Rattle.cap_concentrate.specs.Rounding.{Encodable}
use Rattle.cap_concentrate.specs.Encoding.{with_bounds}
use Rattle.cap_ops.specs.declared.capability.TheConstants.{UNSEALED, SENTRY, EXECUTE}
use Rattle.cap_ops.specs.Capability.{permits, lacks, null_at}
use Rattle.cap_ops.specs.Bounded.{bounded}
use Rattle.cap_ops.proofs.Laws.{bounded_bounds}
use Rattle.rv_instr.specs.declared.instr.Instr.TheVariants.{Ecall}
use Rattle.tag_mem.specs.Areas.{Area, IsMemory, is_inside, tag_at}
use Rattle.tag_mem.specs.Memory.{written, fits_inside, granules_to}
use Rattle.tag_mem.specs.Numbers.{little_bytes}
use Rattle.tag_mem.specs.Regions.{LieFrom, lies_in, fresh, IsZeroed}
use Rattle.tag_mem.specs.declared.region.Region.{Region}
use Rattle.tag_mem.proofs.ByAddress.{IsMemory-written, Writes-written, written-outside, fits_inside-granule}
use Rattle.tag_mem.proofs.Fresh.{IsMemory-fresh, IsZeroed-fresh, fits_inside-fresh}
use Rattle.tag_mem.proofs.LittleEndian.{length-little_bytes}
use Rattle.tag_mem.proofs.Reading.{capability_at-parts, is_some-tag_at}
use Rattle.tag_mem.proofs.Laws.{byte_at-written_other, tag_at-written_other}
use Rattle.cap_machine.specs.Rows.{memory_bits}
use Rattle.elf_file.specs.declared.image.Image.{Image}
use Rattle.elf_file.specs.declared.image.Reloc.{Reloc}
use Rattle.image_load.specs.Judging.{Extent, text_of, initial_of, is_sentry, address_of, capability_of, judged_relocs}
use Rattle.image_load.specs.Judging.{judged}
use Rattle.image_load.specs.Judging as judging
use Rattle.image_load.specs.State.{region_of, with_region, regions_of, relocated, memory_of, of_extent, registers_of}
use Rattle.image_load.specs.State.{machine_of}
use Rattle.image_load.proofs.Sorted.{regions_lie}
use Rattle.cap_machine.specs.ContainedText.{Text, end_of, LiesWell, IsPlace, Stands}
use Rattle.cap_machine.specs.Containment.{IsCounter, IsTextSentry, IsApart, IsConfined, IsContainedMemory, IsContained}
use Rattle.cap_machine.proofs.ConfinedCaps.{null_confined}
use Rattle.cap_machine.proofs.TextMemory.{capability_has}
use Rattle.cap_machine.proofs.Registers.{set_each}
use Rattle.image_load.specs.Contained.{executes, entries_of, text_in, IsContainedReloc, Contained}
use Rattle.image_load.proofs.Judged.{IsJudged, judged_is, exact_encodable, no_both, IsGood, good_first}

-- ---- no tag anywhere

abbrev Untagged : List Area → Type 0
Untagged m = (x : ℕ) → tag_at m x ≡ Some true → ⊥

fresh_untagged : (rs : List Region) → LieFrom 0 rs → Untagged (fresh rs)
fresh_untagged rs lie x e = by (lies_in rs x) refl
  where
    zeroed : IsZeroed (fresh rs) rs
    zeroed = IsZeroed-fresh rs lie

    none : (o : Option Bool) → Rattle.std.specs.Prelude.is_some o ≡ false → o ≡ Some true → ⊥
    none None h g = cc
    none (Some b) h g = false≢true (sym h)

    by : (b : Bool) → lies_in rs x ≡ b → ⊥
    by true h = false≢true (same_Some false true (sym (zeroed.tags x h) ∙ e))
    by false h = none (tag_at (fresh rs) x) (is_some-tag_at (fresh rs) x ∙ zeroed.inside x ∙ h) e

written_untagged : (m : List Area) (at : ℕ) (new : List ℕ) → IsMemory m → Untagged m → Untagged (written m at new false)
written_untagged m at new h none x e = elim (cases_Bool (fits_inside m at (length new))) [
  | inr past ↦ none x (ap (λ m'. tag_at m' x) (sym (written-outside m at new false past)) ∙ e)
  | inl fits ↦
      let w = Writes-written m at new false h fits in
      elim (cases_lt (x / 16) (at / 16)) [
        | inl before ↦ none x (sym (w.other_tags x (inl before)) ∙ e)
        | inr from ↦ elim (cases_lt (x / 16) (granules_to (at + length new))) [
          | inl within ↦ false≢true (same_Some false true (sym (w.tags_there x from within) ∙ e))
          | inr behind ↦ none x (sym (w.other_tags x (inr behind)) ∙ e)
        ]
      ]
]

-- ---- the text's region

not_empty : (n : ℕ) → 0 < n → eqb n 0 ≡ false
not_empty n h = ne_eqb n 0 (λ e. omega arith)

with_is : (e : Extent) (rs : List Region) → 0 < e.1 →
    with_region e rs ≡ insert rs (prefix_len (λ r. nat_lt r.base e.0) rs) (region_of e)
unfolding with_region
with_is e rs some = ap (λ b. cond b rs (insert rs (prefix_len (λ r. nat_lt r.base e.0) rs) (region_of e)))
    (not_empty e.1 some)

-- the first of the extents fits where it stands
fits_first : (e : Extent) (rs : List Region) → 0 < e.1 → LieFrom 0 (with_region e rs) →
    fits_inside (fresh (with_region e rs)) e.0 e.1 ≡ true
fits_first e rs some lie =
    let k = prefix_len (λ r. nat_lt r.base e.0) rs in
    let all = insert rs k (region_of e) in
    let at : get_or all k (region_of e) ≡ region_of e =
    get_or-insert_at rs k (region_of e) (region_of e) (prefix_len-le-length (λ r. nat_lt r.base e.0) rs) in
    let le : LieFrom 0 all = subst (LieFrom 0) (with_is e rs some) lie in
    subst (λ z. fits_inside (fresh z) e.0 e.1 ≡ true) (sym (with_is e rs some))
    (subst (λ (r : Region). fits_inside (fresh all) r.base e.1 ≡ true) at
    (fits_inside-fresh 0 all k e.1 (region_of e) le
    (inserted_longer rs k (region_of e) (prefix_len-le-length (λ r. nat_lt r.base e.0) rs))
    (omega (arith, ap (λ (r : Region). r.length) at, some)) (omega (arith, ap (λ (r : Region). r.length) at))))
  where
    inserted_longer : (rs : List Region) (k : ℕ) (r : Region) → k ≤ length rs → k < length (insert rs k r)
    inserted_longer rs zero r le = omega arith
    inserted_longer [] (suc k) r le = absurd (omega arith)
    inserted_longer (q ∷ rs) (suc k) r le = let h = inserted_longer rs k r (omega arith) in omega arith

-- ---- entry places

-- each relocation with Execute has its address among the entry places
entries_have : (rs : List Reloc) (P : ℕ → Type 0) → All P (map address_of (filter executes rs)) →
    All (λ r. executes r ≡ true → P (address_of r)) rs
entries_have [] P all = λ k d lt. absurd (omega arith)
entries_have (r ∷ rs) P all = by (λ rest. entries_have rs P rest) (executes r) refl
  where
    by : (All P (map address_of (filter executes rs)) → All (λ r. executes r ≡ true → P (address_of r)) rs) →
        (b : Bool) → executes r ≡ b → All (λ r. executes r ≡ true → P (address_of r)) (r ∷ rs)
    by again true e =
        let whole : All P (address_of r ∷ map address_of (filter executes rs)) =
        subst (λ b. All P (map address_of (cond b (r ∷ filter executes rs) (filter executes rs)))) e all in
        All-cons (λ r. executes r ≡ true → P (address_of r)) r rs
        (λ _. All-head P (address_of r) (map address_of (filter executes rs)) whole)
        (again (All-tail P (address_of r) (map address_of (filter executes rs)) whole))
    by again false e =
        let rest : All P (map address_of (filter executes rs)) =
        subst (λ b. All P (map address_of (cond b (r ∷ filter executes rs) (filter executes rs)))) e all in
        All-cons (λ r. executes r ≡ true → P (address_of r)) r rs (λ h. absurd (both_ways (executes r) e h))
        (again rest)

-- what holds of the address of each relocation with Execute holds of those entry places
entries_are : (rs : List Reloc) (P : ℕ → Type 0) → All (λ r. executes r ≡ true → P (address_of r)) rs →
    All P (map address_of (filter executes rs))
entries_are [] P all = λ k d lt. absurd (omega arith)
entries_are (r ∷ rs) P all =
    by (entries_are rs P (All-tail (λ r. executes r ≡ true → P (address_of r)) r rs all)) (executes r) refl
  where
    by : All P (map address_of (filter executes rs)) → (b : Bool) → executes r ≡ b →
        All P (map address_of (cond b (r ∷ filter executes rs) (filter executes rs)))
    by rest true e = All-cons P (address_of r) (map address_of (filter executes rs))
        (All-head (λ r. executes r ≡ true → P (address_of r)) r rs all e) rest
    by rest false e = rest

-- ---- capabilities that loading makes

record Made (low high perms otype address : ℕ) : Type 0 where
  sealed_as : (bounded low high perms otype address).fields.otype ≡ otype % 2 ^ 18
  permitted : (bounded low high perms otype address).fields.perms ≡ perms % 4096
  stands_at : (bounded low high perms otype address).fields.address ≡ address

made : (low high perms otype address : ℕ) → Made low high perms otype address
unfolding with_bounds
made low high perms otype address = record { sealed_as = refl; permitted = refl; stands_at = refl }

-- a capability without Execute that has the bounds of an extent that doesn't meet the text
extent_confined : (t : Text) (e : Extent) (at : ℕ) → Encodable e.0 (judging.end_of e) → e.0 ≤ at →
    at ≤ judging.end_of e → judging.end_of e ≤ 2 ^ 40
    → ((x : ℕ) → e.0 ≤ x → x < judging.end_of e → t.base ≤ x → x < end_of t → ⊥) → IsConfined t (of_extent e 125 at)
extent_confined t e at enc from to small out =
    let m = made e.0 (judging.end_of e) 125 UNSEALED at in
    let b = bounded_bounds e.0 (judging.end_of e) 125 UNSEALED at enc (omega arith) from to in
    record {
      address = omega (arith, m.stands_at);
      tagged = λ _. inr (record {
        no_execute = ap (λ p. lacks p EXECUTE) m.permitted;
        outside = λ x low high. out x (omega (arith, b.0)) (omega (arith, b.1));
      });
    }

reloc_confined : (t : Text) (r : Reloc) (i : Extent) → IsGood i r → IsContainedReloc t r →
    (executes r ≡ true → Contains t.entries (address_of r)) → IsConfined t (capability_of r)
reloc_confined t r i good contained entry =
    let otype = if is_sentry r.perms then SENTRY else UNSEALED in
    let m = made r.base (r.base + r.length) (r.perms % 128) otype (address_of r) in
    let q : r.perms % 128 % 4096 / 2 ^ EXECUTE % 2 ≡ r.perms / 2 ^ EXECUTE % 2 = omega arith in
    let perms : permits (capability_of r).fields.perms EXECUTE ≡ executes r =
    ap (λ p. permits p EXECUTE) m.permitted ∙ ap (λ n. eqb n 1) q in
    record {
      address = omega (arith, m.stands_at);
      tagged = λ _. elim (cases_Bool (executes r)) as
          (λ _. IsTextSentry t (capability_of r) ⊎ IsApart t (capability_of r)) [
            | inl has ↦ inl (record {
              sentry = m.sealed_as ∙ ap (λ b. (if b then SENTRY else UNSEALED) % 2 ^ 18) (contained.entry has).sentry;
              execute = perms ∙ has;
              low = good.base ∙ (contained.entry has).base;
              high = let base = (contained.entry has).base in let length = (contained.entry has).length in
                  omega (arith, good.top);
              place = inl (subst (λ x. Contains t.entries x) (sym m.stands_at) (entry has));
            })
            | inr none ↦ inr (record {
              no_execute = not_from_false (permits (capability_of r).fields.perms EXECUTE) (perms ∙ none);
              outside = λ x low high. contained.other none x (omega (arith, good.base)) (omega (arith, good.top));
            })
          ];
    }

-- ---- the relocations

relocs_kept : (t : Text) → LiesWell t → (initial : Extent) →
    ((x : ℕ) → initial.0 ≤ x → x < judging.end_of initial → t.base ≤ x → x < end_of t → ⊥)
    → (rs : List Reloc) (m : List Area) → judged_relocs initial rs (Ok tt) ≡ Ok tt → All (IsContainedReloc t) rs →
    All (λ r. executes r ≡ true → Contains t.entries (address_of r)) rs
    → IsContainedMemory t m → IsContainedMemory t (relocated m rs)
unfolding relocated
relocs_kept t well initial out [] m h contained entries has = has
relocs_kept t well initial out (r ∷ rs) m h contained entries has =
    let g = good_first r rs initial h in
    let new = little_bytes 16 (memory_bits (capability_of r).fields) in
    let held = reloc_confined t r initial g.0 (All-head (IsContainedReloc t) r rs contained)
    (All-head (λ r. executes r ≡ true → Contains t.entries (address_of r)) r rs entries) in
    let from = g.0.from in
    let to = g.0.to in
    let even = g.0.even in
    let apart : (r.place < t.base) ⊎ (end_of t ≤ r.place) =
    elim (cases_lt r.place t.base) as (λ _. (r.place < t.base) ⊎ (end_of t ≤ r.place)) [
      | inl before ↦ inl before
      | inr behind ↦ elim (cases_lt r.place (end_of t)) as (λ _. (r.place < t.base) ⊎ (end_of t ≤ r.place)) [
        | inl within ↦ absurd (out r.place from (omega arith) behind within)
        | inr past ↦ inr past
      ]
    ] in
    let one : IsContainedMemory t (written m r.place new true) =
    elim (cases_Bool (is_inside m r.place)) as (λ _. IsContainedMemory t (written m r.place new true)) [
      | inl inside ↦ capability_has t well m has r.place (capability_of r) inside even apart held
      | inr nowhere ↦
          let misfits : fits_inside m r.place (length new) ≡ false =
          rw (length-little_bytes 16 (memory_bits (capability_of r).fields))
          (fits_inside-granule m r.place 16 has.memory (omega arith) ∙ nowhere) in
          subst (λ m'. IsContainedMemory t m') (sym (written-outside m r.place new true misfits)) has
    ] in
    relocs_kept t well initial out rs (written m r.place new true) g.1
    (All-tail (IsContainedReloc t) r rs contained)
    (All-tail (λ r. executes r ≡ true → Contains t.entries (address_of r)) r rs entries) one

-- ---- the first state

module _ (i : Image) (fine : judged i ≡ Ok tt) (contained : Contained i) (text_small : All (λ b. b < 256) i.text)
    (initial_small : All (λ b. b < 256) i.initial) where
  facts : IsJudged i
  facts = judged_is i fine

  places : All (λ x. IsPlace (text_in i) x) (entries_of i)
  places =
      let e = facts.entry in
      All-cons (λ x. IsPlace (text_in i) x) i.entry (map address_of (filter executes i.relocs))
      (record { from = e.0; below = e.1; even = e.2 })
      (entries_are i.relocs (λ x. IsPlace (text_in i) x) (λ k d lt runs. ((contained.relocs k d lt).entry runs).place))

  pub well : LiesWell (text_in i)
  well = record {
    base = facts.well.spread.text.base;
    size = facts.well.spread.text.length;
    low = facts.low;
    high = facts.well.spread.text.end;
    small = text_small;
    entries = λ x among. All-contains (λ x. IsPlace (text_in i) x) (entries_of i) x places among;
  }

  -- the text's addresses are not the initial data's
  apart_initial : (x : ℕ) → i.initial_base ≤ x → x < i.initial_base + length i.initial → i.text_base ≤ x →
      x < i.text_base + length i.text → ⊥
  apart_initial x from to low high = no_both (text_of i) (initial_of i) facts.well.spread.td x low high from to

  -- ---- the memory, in three stages

  others : List Region
  others = regions_of (initial_of i ∷ i.heap ∷ i.stack ∷ [])

  lie : LieFrom 0 (with_region (text_of i) (regions_of (initial_of i ∷ i.heap ∷ i.stack ∷ [])))
  lie = regions_lie i fine

  abbrev first : List Area
  first = fresh (with_region (text_of i) (regions_of (initial_of i ∷ i.heap ∷ i.stack ∷ [])))

  first_memory : IsMemory first
  first_memory = IsMemory-fresh (with_region (text_of i) (regions_of (initial_of i ∷ i.heap ∷ i.stack ∷ []))) lie

  abbrev second : List Area
  second = written first i.text_base i.text false

  second_memory : IsMemory second
  second_memory = IsMemory-written first i.text_base i.text false first_memory text_small

  abbrev third : List Area
  third = written second i.initial_base i.initial false

  some : 0 < length i.text
  some = let e = facts.entry in omega arith

  out_of : (x : ℕ) → i.text_base ≤ x → x < i.text_base + length i.text →
      (x < i.initial_base) ⊎ (i.initial_base + length i.initial ≤ x)
  out_of x low high = elim (cases_lt x i.initial_base) as
      (λ _. (x < i.initial_base) ⊎ (i.initial_base + length i.initial ≤ x)) [
        | inl before ↦ inl before
        | inr from ↦ elim (cases_lt x (i.initial_base + length i.initial)) as
            (λ _. (x < i.initial_base) ⊎ (i.initial_base + length i.initial ≤ x)) [
              | inl to ↦ absurd (apart_initial x from to low high)
              | inr behind ↦ inr behind
            ]
      ]

  third_has : IsContainedMemory (text_in i) third
  third_has =
      let fits = fits_first (text_of i) (regions_of (initial_of i ∷ i.heap ∷ i.stack ∷ [])) some lie in
      let w = Writes-written first i.text_base i.text false first_memory fits in
      let tb = facts.well.spread.text.base in
      let tl = facts.well.spread.text.length in
      let ib = facts.well.spread.initial.base in
      let il = facts.well.spread.initial.length in
      let clear = written_untagged second i.initial_base i.initial second_memory
      (written_untagged first i.text_base i.text first_memory
      (fresh_untagged (with_region (text_of i) (regions_of (initial_of i ∷ i.heap ∷ i.stack ∷ []))) lie)) in
      record {
        memory = IsMemory-written second i.initial_base i.initial false second_memory initial_small;
        text = λ x low high. byte_at-written_other second i.initial_base i.initial false second_memory x
            (out_of x low high) ∙ w.bytes_there x low high;
        untagged = λ x low high.
            let granule : (x / 16 < i.initial_base / 16) ⊎ (granules_to (i.initial_base + length i.initial) ≤ x / 16) =
            elim (out_of x low high) [ inl before ↦ inl (omega arith) | inr behind ↦ inr (omega arith) ] in
            tag_at-written_other second i.initial_base i.initial false second_memory x granule
            ∙ w.tags_there x (omega arith) (omega arith);
        held = λ x bits even e. absurd (clear x (capability_at-parts third x bits true e).1);
      }

  memory_has : IsContainedMemory (text_in i) (memory_of i)
  unfolding memory_of
  memory_has =
      let has = All-contains_itself (entries_of i) in
      let entries = entries_have i.relocs (λ x. Contains (entries_of i) x)
      (All-tail (λ x. Contains (entries_of i) x) i.entry (map address_of (filter executes i.relocs)) has) in
      relocs_kept (text_in i) well (initial_of i) apart_initial i.relocs third facts.well.relocs contained.relocs
      entries third_has

  -- ---- registers and counter

  null_all : (k : ℕ) → IsConfined (text_in i) (slice_index_or (replicate 32 (null_at 0)) k (null_at 0))
  null_all k = elim (cases_lt k 32) as (λ _.
      IsConfined (text_in i) (slice_index_or (replicate 32 (null_at 0)) k (null_at 0))) [
        | inl within ↦ rw (get_or-replicate 32 k (null_at 0) (null_at 0) within)
            (null_confined (text_in i) 0 (omega arith))
        | inr past ↦ rw (get_or_past (replicate 32 (null_at 0)) k (null_at 0) past)
            (null_confined (text_in i) 0 (omega arith))
      ]

  stack_confined : IsConfined (text_in i) (of_extent i.stack 125 (judging.end_of i.stack))
  stack_confined =
      let high = facts.well.spread.stack.end in
      extent_confined (text_in i) i.stack (judging.end_of i.stack) (exact_encodable i.stack facts.well.stack)
      (omega arith) (omega arith) high
      (λ x from to low below. no_both (text_of i) i.stack facts.well.spread.ts x low below from to)

  table_confined : IsConfined (text_in i) (of_extent i.table 125 i.table.0)
  table_confined =
      let high = facts.well.spread.initial.end in
      let inside = facts.table in
      extent_confined (text_in i) i.table i.table.0 (exact_encodable i.table facts.well.table) (omega arith)
      (omega arith) (omega arith)
      (λ x from to low below. apart_initial x (omega arith) (omega arith) low below)

  register_confined : (r : ℕ) → (b : Bool) →
      IsConfined (text_in i) (cond b (null_at 0) (slice_index_or (registers_of i) r (null_at 0)))
  register_confined r true = null_confined (text_in i) 0 (omega arith)
  register_confined r false =
      set_each (IsConfined (text_in i)) (slice_set (replicate 32 (null_at 0)) 2
      (of_extent i.stack 125 (judging.end_of i.stack))) 3 (of_extent i.table 125 i.table.0)
      (null_at 0) r table_confined
      (set_each (IsConfined (text_in i)) (replicate 32 (null_at 0)) 2 (of_extent i.stack 125 (judging.end_of i.stack))
      (null_at 0) r stack_confined (null_all r))

  counter_is : IsCounter (text_in i) (of_extent (text_of i) 3 i.entry)
  counter_is =
      let e = facts.entry in
      let high = facts.well.spread.text.end in
      let m = made i.text_base (i.text_base + length i.text) 3 UNSEALED i.entry in
      let b = bounded_bounds i.text_base (i.text_base + length i.text) 3 UNSEALED i.entry
      (exact_encodable (text_of i) facts.well.text) (omega arith) (omega arith) (omega arith) in
      record {
        tagged = refl;
        unsealed = m.sealed_as;
        execute = ap (λ p. permits p EXECUTE) m.permitted;
        low = b.0;
        high = b.1;
        place = record {
          from = omega (arith, m.stands_at);
          below = omega (arith, m.stands_at);
          even = ap (λ x. x % 4) m.stands_at ∙ e.2;
        };
      }

  entry_is_first : Contains (entries_of i) i.entry
  entry_is_first = (0, omega arith, refl)

  -- loading a contained image gives a contained state
  pub first_contained : IsContained (text_in i) (machine_of i)
  unfolding machine_of
  first_contained =
      let m = made i.text_base (i.text_base + length i.text) 3 UNSEALED i.entry in
      record {
        lies = well;
        pc = counter_is;
        registers = record { count = refl; held = λ r. register_confined r (nat_eq r 0) };
        memory = memory_has;
        service = λ call. absurd (contained.text.no_entry i.entry entry_is_first
            (subst (λ x. Stands (text_in i) x Ecall) m.stands_at call));
      }
