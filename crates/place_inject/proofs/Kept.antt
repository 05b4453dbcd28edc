-- Stores that keep an object at its place in the memory of the machine.
use Rattle.std.proofs.Common.{◌≡◌, ℕ, ◌+◌, ◌-◌, ◌/◌, ◌%◌, ◌<◌, ◌≤◌, Bool, true, false, List, length, sym, ap, ◌∙◌}
use Rattle.std.proofs.Common.{arith, Option, Some, None, inl, inr}
use Rattle.std.specs.Prelude.{is_some}
use Rattle.std.proofs.lemmas.Bool.{cases_lt, cases_eq}
use Rattle.tag_mem.specs.Areas.{Area, byte_at, tag_at}
use Rattle.obj_mem.specs.Values.{Value, Addresses, memory_bits}
use Rattle.obj_mem.specs.Objects as object
use Rattle.obj_mem.specs.Objects.{Cell, Byte, Shape, Content, Placed, value_at, cell_or, seen_through, byte_of, base_in}
use Rattle.obj_mem.specs.Objects.{with_bytes, with_value}
use Rattle.obj_mem.specs.Access.{bytes_of}
use Rattle.obj_mem.specs.Legal.{Apart}
use Rattle.place_inject.specs.Objects.{Stands, SameOutside, number_in}
use Rattle.place_inject.proofs.Puts.{cell_at, byte_of_is, bytes_length, bytes_get}
use Rattle.place_inject.proofs.Contents.{bytes_here, bytes_there, bytes_inside, bytes_outside, value_here, value_there}
use Rattle.place_inject.proofs.Wrote.{Wrote}

-- the tag where a granule holds this
abbrev pub tag_of : Option Value → Option Bool
tag_of v = Some (is_some v)

module _ (a : Addresses) (shapes : List Shape) (s : Shape) (c : Content) (i n : ℕ) (old new : List Area)
    (aligned : s.base % 16 ≡ 0) (long : length c.cells ≡ s.owned) where
  -- n plain bytes are stored, over a pointer or not
  pub bytes_kept : (v : ℕ) → i % 16 + n ≤ 16 → i + n ≤ s.owned → Stands a shapes s c old
      → Wrote old new (s.base + i) n v false
      → Stands a shapes s (with_bytes (Placed a) shapes c i (bytes_of n v)) new
  bytes_kept v whole within st w =
      let d = Placed a in
      let cs = bytes_of n v in
      let c' = with_bytes d shapes c i cs in
      let size : length cs ≡ n = bytes_length n v in
      record {
        bytes = λ j h.
            let l : j < length c.cells = omega (arith, long) in
            let apart : (i ≤ j → i + n ≤ j) → byte_at new (s.base + j) ≡ number_in (object.byte_at d shapes c' j) = λ q.
            w.outside (s.base + j) (λ z. let r = q (omega arith) in omega arith) ∙ st.bytes j h
            ∙ ap number_in (sym (bytes_outside d shapes c i cs j (λ r. let z = q r in omega (arith, size)) l)) in
            elim (cases_lt j i) as (λ _. byte_at new (s.base + j) ≡ number_in (object.byte_at d shapes c' j)) [
              | inl low ↦ apart (λ r. absurd (omega arith))
              | inr up ↦ elim (cases_lt j (i + n)) as (λ _. byte_at new (s.base + j) ≡ number_in
                  (object.byte_at d shapes c' j)) [
                    | inl in_it ↦
                        let place : s.base + j ≡ s.base + i + (j - i) = omega arith in
                        let cell : cell_at cs (j - i) ≡ Byte (byte_of v (j - i)) =
                        ap cell_or (bytes_get n v (j - i) (omega arith)) in
                        let seen : object.byte_at d shapes c' j ≡ cell_at cs (j - i) =
                        bytes_inside d shapes c i cs (j - i) j (omega arith) (omega (arith, size))
                        (omega (arith, size)) l in
                        ap (byte_at new) place ∙ w.inside (j - i) (omega arith)
                        ∙ ap (λ x. Some x) (sym (byte_of_is v (j - i))) ∙ ap number_in (sym (seen ∙ cell))
                    | inr behind ↦ apart (λ r. behind)
                  ]
            ];
        tags = λ j h.
            elim (cases_eq (j / 16) (i / 16)) as (λ _. tag_at new (s.base + j) ≡ tag_of (value_at c' (j / 16))) [
              | inl same ↦
                  let none : value_at c' (j / 16) ≡ None = ap (value_at c') same ∙ bytes_here d shapes c i cs in
                  w.tagged (s.base + j) (omega arith) ∙ ap tag_of (sym none)
              | inr other ↦
                  w.others (s.base + j) (λ e. other (omega arith)) ∙ st.tags j h
                  ∙ ap tag_of (sym (bytes_there d shapes c i cs (j / 16) other))
            ];
      }

  -- a tagged value is stored
  pub value_kept : (v : Value) → i % 16 ≡ 0 → i + 16 ≤ s.owned → i / 16 < length c.values → Stands a shapes s c old
      → Wrote old new (s.base + i) 16 (memory_bits a (base_in shapes) v) true → Stands a shapes s (with_value c i v) new
  value_kept v whole within room st w =
      let d = Placed a in
      let c' = with_value c i v in
      let seen : ℕ → Option Value → Option ℕ = λ j x. number_in (seen_through d shapes x (j % 16)
      (cell_at c.cells j)) in
      record {
        bytes = λ j h.
            elim (cases_eq (j / 16) (i / 16)) as (λ _. byte_at new (s.base + j) ≡ number_in
            (object.byte_at d shapes c' j)) [
              | inl same ↦
                  let place : s.base + j ≡ s.base + i + j % 16 = omega arith in
                  let here : value_at c' (j / 16) ≡ Some v = ap (value_at c') same ∙ value_here d shapes c i v room in
                  ap (byte_at new) place ∙ w.inside (j % 16) (omega arith)
                  ∙ ap (λ x. Some x) (sym (byte_of_is (memory_bits a (base_in shapes) v) (j % 16)))
                  ∙ sym (ap (seen j) here)
              | inr other ↦
                  w.outside (s.base + j) (λ q. omega arith) ∙ st.bytes j h
                  ∙ sym (ap (seen j) (value_there d shapes c i v room (j / 16) other))
            ];
        tags = λ j h.
            elim (cases_eq (j / 16) (i / 16)) as (λ _. tag_at new (s.base + j) ≡ tag_of (value_at c' (j / 16))) [
              | inl same ↦ w.tagged (s.base + j) (omega arith)
                  ∙ ap tag_of (sym (ap (value_at c') same ∙ value_here d shapes c i v room))
              | inr other ↦
                  w.others (s.base + j) (λ e. other (omega arith)) ∙ st.tags j h
                  ∙ ap tag_of (sym (value_there d shapes c i v room (j / 16) other))
            ];
      }

-- ---- what else changes

pub wrote_inside : (base long at n v : ℕ) (tag : Bool) (old new : List Area) → base ≤ at → at + n ≤ base + long
    → 0 < n → Wrote old new at n v tag
    → SameOutside base long old new
wrote_inside base long at n v tag old new low high some w = record {
  bytes = λ x off. w.outside x (λ q. let r = off (omega arith) in omega arith);
  tags = λ x off. w.others x (λ e. let r = off at (omega arith) low in absurd (omega arith));
  places = w.places;
}

-- another object stays
pub kept_apart : (a : Addresses) (shapes : List Shape) (t : Shape) (c : Content) (base long : ℕ) (old new : List Area)
    → t.base % 16 ≡ 0 → base % 16 ≡ 0 → Apart t.base t.owned base long → SameOutside base long old new
    → Stands a shapes t c old → Stands a shapes t c new
kept_apart a shapes t c base long old new aligned aligned' apart same st = record {
  bytes = λ i h. same.bytes (t.base + i)
      (λ q. elim apart as (λ _. base + long ≤ t.base + i) [
        | inl before ↦ absurd
            (omega arith)
        | inr behind ↦ omega arith
      ]) ∙ st.bytes i h;
  tags = λ i h. same.tags (t.base + i)
      (λ y e low. elim apart as (λ _. base + long ≤ y) [
        | inl before ↦ absurd
            (omega arith)
        | inr behind ↦ omega arith
      ]) ∙ st.tags i h;
}
