-- What changes in an object leaves the parts of memory that belong to no object, and what stands in the frames, as it
-- was.
use Rattle.std.proofs.Common.{◌≡◌, ℕ, ◌+◌, ◌-◌, ◌*◌, ◌%◌, ◌<◌, ◌≤◌, List, sym, ap, ◌∙◌, arith, Some, inl, inr}
use Rattle.std.specs.Prelude.{slice_get}
use Rattle.std.specs.Option.{option_map}
use Rattle.tag_mem.specs.Areas.{Area, IsMemory, tag_at}
use Rattle.tag_mem.specs.Memory.{number_at}
use Rattle.tag_mem.proofs.Reading.{paired, capability_at-paired}
use Rattle.tag_mem.proofs.Laws.{number_at-same_bytes}
use Rattle.obj_mem.specs.declared.map.Map.{Map}
use Rattle.obj_mem.specs.Values.{Addresses}
use Rattle.obj_mem.specs.Objects.{Shape}
use Rattle.obj_mem.specs.Agreement.{IsNotReturned}
use Rattle.obj_mem.specs.Legal.{Apart, Needs}
use Rattle.obj_mem.specs.Table.{entry_count, heap_entry}
use Rattle.placement.specs.Memories.{IsClear}
use Rattle.place_inject.specs.Objects.{SameOutside}
use Rattle.place_inject.specs.Parts.{Unchanged, capability_in, kept_at, HeapFits, TableFits}

-- ---- extents

pub twice : (base long : ℕ) (loaded old new : List Area) → Unchanged base long loaded old
    → Unchanged base long old new → Unchanged base long loaded new
twice base long loaded old new u v = record {
  bytes = λ x l h. v.bytes x l h ∙ u.bytes x l h;
  tags = λ x l h. v.tags x l h ∙ u.tags x l h;
}

pub part_of : (base long at n : ℕ) (old new : List Area) → base ≤ at → at + n ≤ base + long
    → Unchanged base long old new → Unchanged at n old new
part_of base long at n old new low high u = record {
  bytes = λ x l h. u.bytes x (omega arith) (omega arith);
  tags = λ x l h. u.tags x (omega arith) (omega arith);
}

-- an extent that is apart from the one that changed, both from the beginning of a granule on
pub elsewhere : (b l base long : ℕ) (old new : List Area) → b % 16 ≡ 0 → base % 16 ≡ 0 → Apart b l base long
    → SameOutside b l old new → Unchanged base long old new
elsewhere b l base long old new z y (inl before) same = record {
  bytes = λ x low high. same.bytes x (λ q. omega arith);
  tags = λ x low high. same.tags x (λ q e r. omega arith);
}
elsewhere b l base long old new z y (inr behind) same = record {
  bytes = λ x low high. same.bytes x (λ q. absurd (omega arith));
  tags = λ x low high. same.tags x (λ q e r. absurd (omega arith));
}

-- ---- capabilities in memory

pub kept_same : (base long at : ℕ) (old new : List Area) → IsMemory old → IsMemory new → Unchanged base long old new
    → at % 16 ≡ 0 → base ≤ at → at + 16 ≤ base + long
    → kept_at new at ≡ kept_at old at
kept_same base long at old new h h' u aligned low high =
    let number : number_at new at 16 ≡ number_at old at 16 =
    number_at-same_bytes old new at 16 h h' (omega arith) (omega arith)
    (λ k lt. u.bytes (at + k) (omega arith) (omega arith)) in
    let tag : tag_at new at ≡ tag_at old at = u.tags at low (omega arith) in
    ap (option_map capability_in) (capability_at-paired new at ∙ ap (λ v. paired v (tag_at new at)) number ∙ ap
    (paired (number_at old at 16)) tag ∙ sym (capability_at-paired old at))

-- ---- the heap and the table

module _ (shapes : List Shape) (k : ℕ) (s : Shape) (there : slice_get shapes k ≡ Some s)
    (stays : IsNotReturned s.life) (old new : List Area) (same : SameOutside s.base s.owned old new) where
  pub heap_kept : (a : Addresses) (next : ℕ) → HeapFits a next shapes old → HeapFits a next shapes new
  heap_kept a next f =
      let apart = f.clear.clear k s there stays in
      let to = f.to in
      record {
        from = f.from;
        to = to;
        zeros = λ x low high. same.bytes x
            (λ q. elim apart as (λ _. s.base + s.owned ≤ x) [
              | inl before ↦ omega arith
              | inr behind ↦ absurd
                  (omega arith)
            ]) ∙ f.zeros x low high;
        untagged = λ g low high. same.tags (16 * g)
            (λ y e q. elim apart as (λ _. s.base + s.owned ≤ y) [
              | inl before ↦ omega arith
              | inr behind ↦ absurd
                  (omega arith)
            ]) ∙ f.untagged g low high;
        clear = f.clear;
      }

-- all of the table
pub table_by : (shapes : List Shape) (old new : List Area) → IsMemory old → IsMemory new → (n : Needs) (m : Map)
    (next : ℕ) (loaded : List Area) → m.table.0 % 16 ≡ 0 → Unchanged m.table.0 m.table.1 old new
    → TableFits n m next shapes loaded old → TableFits n m next shapes loaded new
table_by shapes old new h h' n m next loaded y all f =
    let room = f.room in
    record {
      room = room;
      before = twice m.table.0 (16 * heap_entry n) loaded old new f.before
          (part_of m.table.0 m.table.1 m.table.0 (16 * heap_entry n) old new (omega arith) (omega arith) all);
      behind = twice (m.table.0 + 16 * entry_count n) (m.table.1 - 16 * entry_count n) loaded old new f.behind
          (part_of m.table.0 m.table.1 (m.table.0 + 16 * entry_count n) (m.table.1 - 16 * entry_count n) old new
          (omega arith) (omega arith) all);
      heap = kept_same m.table.0 m.table.1 (m.table.0 + 16 * heap_entry n) old new h h' all (omega arith)
          (omega arith) (omega arith) ∙ f.heap;
      clear = f.clear;
    }

-- the heap, of so many bytes
module _ (b l : ℕ) (old new : List Area) (same : SameOutside b l old new) (a : Addresses) (n : ℕ)
    (long : a.heap + n ≡ a.heap_end) where
  beyond : (x : ℕ) → Apart b l a.heap n → a.heap ≤ x → x < a.heap_end → b ≤ x → b + l ≤ x
  beyond x (inl before) low high q = omega arith
  beyond x (inr behind) low high q = absurd (omega arith)

  pub heap_aside : (next : ℕ) (shapes : List Shape) → Apart b l a.heap n → HeapFits a next shapes old
      → HeapFits a next shapes new
  heap_aside next shapes apart f =
      let from = f.from in
      let to = f.to in
      record {
        from = from;
        to = to;
        zeros = λ x low high. same.bytes x (λ q. beyond x apart (omega arith) high q) ∙ f.zeros x low high;
        untagged = λ k low high. same.tags (16 * k) (λ y e q. beyond y apart (omega arith) (omega arith) q)
            ∙ f.untagged k low high;
        clear = f.clear;
      }

-- for an extent that is apart from all that begins with a granule and that no object has
module _ (shapes : List Shape) (b l : ℕ) (aligned : b % 16 ≡ 0)
    (off : (base long : ℕ) → base % 16 ≡ 0 → IsClear shapes base long → Apart b l base long)
    (old new : List Area) (same : SameOutside b l old new) (h : IsMemory old) (h' : IsMemory new) where
  -- what no object has stays
  pub clear_same : (base long : ℕ) → base % 16 ≡ 0 → IsClear shapes base long → Unchanged base long old new
  clear_same base long y c = elsewhere b l base long old new aligned y (off base long y c) same

  pub table_kept : (n : Needs) (m : Map) (next : ℕ) (loaded : List Area) → m.table.0 % 16 ≡ 0
      → TableFits n m next shapes loaded old → TableFits n m next shapes loaded new
  table_kept n m next loaded y f =
      table_by shapes old new h h' n m next loaded y (clear_same m.table.0 m.table.1 y f.clear) f
