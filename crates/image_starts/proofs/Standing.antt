-- The objects of a program stand in the machine's memory with the bytes with which they begin.
use Rattle.std.proofs.Common.{◌≡◌, ℕ, ◌+◌, ◌/◌, ◌%◌, ◌<◌, false, List, length, get_or, Some, None, sym, ap}
use Rattle.std.proofs.Common.{◌∙◌, subst, arith}
use Rattle.std.specs.Prelude.{slice_get, is_some}
use Rattle.tag_mem.specs.Areas.{Area, IsMemory, byte_at, tag_at}
use Rattle.c_tree.specs.Typing.{Sound}
use Rattle.c_tree.specs.declared.typed.GlobalDef.{GlobalDef}
use Rattle.c_tree.specs.declared.typed.Literal.{Literal}
use Rattle.c_tree.specs.declared.typed.Typed.{Typed}
use Rattle.obj_mem.specs.Needs.{Legal}
use Rattle.obj_mem.specs.Objects.{Shape, Content, Memory, Placed, cell_or, seen_through}
use Rattle.obj_mem.specs.Standing.{IsSpread}
use Rattle.obj_mem.specs.Table.{addresses_of}
use Rattle.obj_mem.specs.Values.{Addresses}
use Rattle.obj_mem.specs.declared.map.Map.{Map}
use Rattle.cap_reloc.specs.Begins.{asked_by}
use Rattle.placement.proofs.Lists.{some_same}
use Rattle.place_inject.specs.Objects.{IsByte, IsSound, Stands, ObjectsFit, number_in}
use Rattle.image_starts.proofs.Begun.{begun, begun_shapes, begun_many, global_begins, literal_begins}
use Rattle.image_starts.proofs.Filled.{HasBegun}
use Rattle.image_starts.proofs.Maps.{shapes, is_spread, global_shape, literal_shape, of_global, of_literal, whose}
use Rattle.image_starts.proofs.Maps.{base_even}

-- in the machine's memory an object has these bytes, zeros behind them, and no tag
pub record HoldsBytes (h : Shape) (of : List ℕ) (memory : List Area) : Type 0 where
  pub bytes : (i : ℕ) → i < h.owned → byte_at memory (h.base + i) ≡ Some (get_or of i 0)
  pub small : (i : ℕ) → i < h.owned → get_or of i 0 < 256
  pub tags : (i : ℕ) → i < h.owned → tag_at memory (h.base + i) ≡ Some false

module _ (functions : ℕ) (a : Addresses) (u : List Shape) (h : Shape) (bytes : List ℕ) (c : Content)
    (has : HasBegun h.owned bytes c) where
  held_sound : IsSound u functions h c
  held_sound = record {
    cells = has.cells;
    granules = has.granules;
    bytes = λ i lt. subst (λ o. IsByte (cell_or o)) (sym (has.each i lt)) (omega arith);
    tagged = λ g v e. absurd (let q : None ≡ Some v = sym (has.none g) ∙ e in cc);
    known = λ g v e. absurd (let q : None ≡ Some v = sym (has.none g) ∙ e in cc);
  }

  held_stands : (memory : List Area) → HoldsBytes h bytes memory → Stands a u h c memory
  held_stands memory holds = record {
    bytes = λ i lt.
        let small = holds.small i lt in
        let same : get_or bytes i 0 ≡ get_or bytes i 0 % 256 = omega arith in
        holds.bytes i lt ∙ ap (λ b. Some b) same
        ∙ ap (λ o. number_in (seen_through (Placed a) u None (i % 16) (cell_or o))) (sym (has.each i lt))
        ∙ ap (λ o. number_in (seen_through (Placed a) u o (i % 16) (cell_or (slice_get c.cells i))))
        (sym (has.none (i / 16)));
    tags = λ i lt. holds.tags i lt ∙ ap (λ o. Some (is_some o)) (sym (has.none (i / 16)));
  }

module _ (p : Typed) (sound : Sound p) (m : Map) (legal : Legal p m) (memory : List Area) where
  pub record HoldsObjects : Type 0 where
    pub areas : IsMemory memory
    pub globals : (k : ℕ) (g : GlobalDef) → slice_get p.globals k ≡ Some g
        → HoldsBytes (global_shape p sound m legal k g) g.bytes memory
    pub literals : (k : ℕ) (l : Literal) → slice_get p.literals k ≡ Some l
        → HoldsBytes (literal_shape p sound m legal k l) l.bytes memory

  module _ (holds : HoldsObjects) where
    abbrev u : List Shape
    u = shapes p sound m legal

    abbrev functions : ℕ
    functions = length (asked_by p).functions

    abbrev first : Memory
    first = (begun p sound m legal).memory

    -- an object's bytes, in the meaning and in the machine
    record Held (k : ℕ) (h : Shape) (c : Content) : Type 0 where
      of : List ℕ
      begins : HasBegun h.owned of c
      machine : HoldsBytes h of memory

    held : (k : ℕ) (h : Shape) (c : Content) → slice_get u k ≡ Some h → slice_get first.contents k ≡ Some c → Held k h c
    held k h c e f = elim (whose p sound m legal k h e) as (λ _. Held k h c) [
      | of_global g there is ↦
          let b = global_begins p sound m legal k g there in
          let same = some_same (slice_get first.contents k) b.0 c b.1 f in
          subst (λ x. Held k x c) (sym is) (subst (Held k (global_shape p sound m legal k g)) same (record {
            of = g.bytes;
            begins = b.2;
            machine = holds.globals k g there;
          }))
      | of_literal j l at there is ↦
          let b = literal_begins p sound m legal j l there in
          let same = some_same (slice_get first.contents k) b.0 c (ap (slice_get first.contents) at ∙ b.1) f in
          subst (λ x. Held k x c) (sym is) (subst (Held k (literal_shape p sound m legal j l)) same (record {
            of = l.bytes;
            begins = b.2;
            machine = holds.literals j l there;
          }))
    ]

    pub begun_fits : ObjectsFit functions (addresses_of m) first memory
    begun_fits =
        let are = begun_shapes p sound m legal in
        let at : (k : ℕ) (h : Shape) → slice_get first.shapes k ≡ Some h → slice_get u k ≡ Some h =
        λ k h e. ap (λ hs. slice_get hs k) (sym are) ∙ e in
        record {
          areas = holds.areas;
          spread = subst (λ hs. IsSpread hs functions (addresses_of m)) (sym are) (is_spread p sound m legal);
          aligned = λ k h e. base_even p sound m legal k h (at k h e);
          one_each = begun_many p sound m legal;
          sound = λ k h c e f.
              let x = held k h c (at k h e) f in held_sound functions (addresses_of m) first.shapes h x.of c x.begins;
          stands = λ k h c e f active.
              let x = held k h c (at k h e) f in
              held_stands functions (addresses_of m) first.shapes h x.of c x.begins memory x.machine;
        }
