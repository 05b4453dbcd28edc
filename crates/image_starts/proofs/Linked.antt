-- The pointers in globals: the meaning stores them as the relocations do.
use Rattle.std.proofs.Common.{◌≡◌, ℕ, zero, suc, ◌+◌, ◌%◌, ◌^◌, ◌<◌, ◌≤◌, true, List, [], ◌∷◌, length, map, Some}
use Rattle.std.proofs.Common.{Ok, refl, sym, ap, ◌∙◌, subst, arith, inr}
use Rattle.std.specs.Prelude.{slice_get, slice_set, slice_index_or}
use Rattle.std.specs.List.{flat_map, zip}
use Rattle.cap_ops.specs.Capability.{null_at}
use Rattle.cap_ops.specs.declared.capability.Cap.{Cap}
use Rattle.tag_mem.specs.Areas.{Area, is_inside}
use Rattle.tag_mem.specs.Memory.{written}
use Rattle.tag_mem.specs.Numbers.{little_bytes}
use Rattle.cap_machine.specs.Rows.{store_checked, stored, memory_bits}
use Rattle.cap_machine.specs.declared.end.Step.{Step}
use Rattle.cap_machine.specs.declared.machine.Machine.{Machine}
use Rattle.elf_file.specs.declared.image.Reloc.{Reloc}
use Rattle.image_load.specs.Judging.{capability_of as capability_in}
use Rattle.image_load.specs.State.{relocated}
use Rattle.c_tree.specs.Typing.{Sound}
use Rattle.c_tree.specs.WellTyped.{LinkFits}
use Rattle.c_tree.specs.declared.typed.GlobalDef.{GlobalDef}
use Rattle.c_tree.specs.declared.typed.Link.{Link}
use Rattle.c_tree.specs.declared.typed.Typed.{Typed}
use Rattle.obj_mem.specs.Access.{Spot, Tagged, onward, at_spot, with_piece, put, stored_piece, store}
use Rattle.obj_mem.specs.Agreement.{Paired}
use Rattle.obj_mem.specs.Needs.{Legal}
use Rattle.obj_mem.specs.Objects.{Active, Shape, Content, Memory, base_in}
use Rattle.obj_mem.specs.Table.{addresses_of, object_base, start_capability}
use Rattle.obj_mem.specs.Values.{Value, Int, Live, Fun, Raw, Addresses, capability_of, bits, is_tagged}
use Rattle.obj_mem.specs.Values as value
use Rattle.obj_mem.specs.declared.map.Map.{Map}
use Rattle.cap_reloc.specs.Begins.{asked_by, link_begun, links_begun, IsRelocation}
use Rattle.cheri_c_sem.specs.Calls.{written as put_in, with_links, link_globals}
use Rattle.cheri_c_sem.specs.Modes.{Store}
use Rattle.cheri_c_sem.specs.Programs.{value_at, global_tree}
use Rattle.cheri_c_sem.specs.Tree.{Starting}
use Rattle.place_inject.specs.Objects.{ObjectsFit, ChangedInside}
use Rattle.place_inject.specs.Parts.{Unchanged}
use Rattle.place_inject.specs.Steps.{Stored}
use Rattle.place_inject.specs.Values.{IsKnown}
use Rattle.place_inject.proofs.Elsewhere.{twice, elsewhere}
use Rattle.place_inject.proofs.StoresKeep.{same_memory}
use Rattle.place_inject.proofs.Storing.{Spelled, goes_on, lies}
use Rattle.image_starts.proofs.Filled.{ops, mode, reached_granule, at_it, written_is}
use Rattle.image_starts.proofs.Links.{good, link_inside}
use Rattle.image_starts.proofs.Maps.{typed, shapes, global_shape, global_at, base_even, off_table}
use Rattle.image_starts.proofs.Relocated.{relocated_both}
use Rattle.image_starts.proofs.Relocated as reloc
use Rattle.image_starts.proofs.Tables.{place_of, split}

tagged_piece : (v : Value) → is_tagged v ≡ true → stored_piece 16 v ≡ Tagged v
tagged_piece (Int n) e = absurd cc
tagged_piece (Live o low high at w) e = refl
tagged_piece (Fun f) e = refl
tagged_piece (Raw x y) e = absurd cc

-- ---- a pointer that is stored to an object, by the meaning and in the machine's memory

module _ (m : Map) (functions : ℕ) (s : Store) (memory : List Area)
    (fit : ObjectsFit functions (addresses_of m) s.memory memory) (k at : ℕ) (h : Shape) (c : Content)
    (there : slice_get s.memory.shapes k ≡ Some h) (has : slice_get s.memory.contents k ≡ Some c)
    (active : h.life ≡ Active) (even : at % 16 ≡ 0) (room : at + 16 ≤ h.owned) (v : Value)
    (tagged : is_tagged v ≡ true) (known : IsKnown s.memory.shapes functions v) where
  after : Memory
  after =
      let d = with_piece (mode m) s.memory.shapes c at (Tagged v) in
      record s.memory { contents = slice_set s.memory.contents k d }

  abbrev in_memory : ℕ
  in_memory = value.memory_bits (addresses_of m) (base_in s.memory.shapes) v

  abbrev new : List Area
  new = written memory (h.base + at) (little_bytes 16 in_memory) true

  -- any machine with this memory
  abbrev machine : Machine
  machine = record { regs = []; pc = null_at 0; mem = memory }

  goes : Stored functions (addresses_of m) s.memory after machine
      (store_checked machine 16 in_memory true (Ok (h.base + at)))
  unfolding after
  goes =
      goes_on functions (addresses_of m) s.memory machine fit k at 16 h c there has active even
      (inr (inr (inr (inr refl)))) room (Tagged v) in_memory true (Spelled.value v refl tagged known)

  there_too : is_inside memory (h.base + at) ≡ true
  there_too =
      lies functions (addresses_of m) s.memory machine fit k at 16 h c there has active even
      (inr (inr (inr (inr refl)))) room

  same : goes.memory ≡ new
  same =
      ap (λ (q : Step × Machine). q.1.mem)
      (sym goes.goes ∙ ap (stored machine (h.base + at) 16 in_memory true) there_too)

  stores : store (mode m) s.memory (Live k 0 h.owned at 125) 16 v ≡ Ok after
  unfolding store after
  stores =
      ap (put (mode m) s.memory (Live k 0 h.owned at 125) 16) (tagged_piece v tagged)
      ∙ ap (λ r. onward r (λ (p : Spot). at_spot (mode m) s.memory p 16 (λ (d : Content). Ok (record s.memory {
        contents = slice_set s.memory.contents p.object (with_piece (mode m) s.memory.shapes d p.at (Tagged v));
      })))) (reached_granule k h.owned at room even)
      ∙ at_it m s.memory k h.owned at 16 h c _ there has active

  -- what it does
  record Does : Type 0 where
    after : Memory
    means : put_in (ops m) s k at 16 v ≡ record s { memory = after }
    shapes : after.shapes ≡ s.memory.shapes
    fits : ObjectsFit functions (addresses_of m) after new
    inside : ChangedInside s.memory.shapes memory new

  does : at < 2 ^ 64 → Does
  unfolding after
  does small = record {
    after = after;
    means = written_is m s k at 16 v h there small after stores;
    shapes = refl;
    fits = subst (ObjectsFit functions (addresses_of m) after) same goes.fit;
    inside = subst (ChangedInside s.memory.shapes memory) same goes.inside;
  }

-- ---- those of a program

module _ (p : Typed) (sound : Sound p) (m : Map) (legal : Legal p m) where
  abbrev u : List Shape
  u = shapes p sound m legal

  abbrev functions : ℕ
  functions = length (asked_by p).functions

  -- what they lead to
  pub record Linked (s t : Store) (old new : List Area) : Type 0 where
    pub shapes : t.memory.shapes ≡ s.memory.shapes
    pub heap : t.heap ≡ s.heap
    pub fit : ObjectsFit functions (addresses_of m) t.memory new
    pub table : Unchanged m.table.0 m.table.1 old new

  no_links : (s : Store) (memory : List Area) → ObjectsFit functions (addresses_of m) s.memory memory
      → Linked s s memory memory
  no_links s memory fit = record {
    shapes = refl;
    heap = refl;
    fit = fit;
    table = same_memory m.table.0 m.table.1 memory;
  }

  both_linked : (s t v : Store) (a b c : List Area) → Linked s t a b → Linked t v b c → Linked s v a c
  both_linked s t v a b c f g = record {
    shapes = g.shapes ∙ f.shapes;
    heap = g.heap ∙ f.heap;
    fit = g.fit;
    table = twice m.table.0 m.table.1 a b c f.table g.table;
  }

  content_at : (s : Store) (memory : List Area) → ObjectsFit functions (addresses_of m) s.memory memory
      → (k : ℕ) (h : Shape) → slice_get s.memory.shapes k ≡ Some h
      → (c : Content) × (slice_get s.memory.contents k ≡ Some c)
  content_at s memory fit k h e = by s.memory.shapes s.memory.contents k fit.one_each e
    where
      by : (hs : List Shape) (cs : List Content) (k : ℕ) → length cs ≡ length hs → slice_get hs k ≡ Some h
          → (c : Content) × (slice_get cs k ≡ Some c)
      by [] cs k l e = absurd cc
      by (g ∷ hs) [] k l e = absurd (omega arith)
      by (g ∷ hs) (c ∷ cs) zero l e = (c, refl)
      by (g ∷ hs) (c ∷ cs) (suc k) l e = by hs cs k (omega arith) e

  module _ (k : ℕ) (g : GlobalDef) (e : slice_get p.globals k ≡ Some g) where
    abbrev h : Shape
    h = global_shape p sound m legal k g

    abbrev size : ℕ
    size = ((typed p sound m legal).globals k g e).extent.size

    abbrev starting : Link → Starting
    starting l = record { at = l.at; value = value_at p l l.target }

    one : (l : Link) → LinkFits p size l → (r : Reloc) → IsRelocation m (link_begun (asked_by p) h.base l) r
        → (s : Store) (memory : List Area) → s.memory.shapes ≡ u
        → ObjectsFit functions (addresses_of m) s.memory memory
        → Linked s (put_in (ops m) s k l.at 16 (value_at p l l.target)) memory (reloc.stored memory r)
    unfolding bits
    one l f r is s memory alike fit =
        let v = value_at p l l.target in
        let x = good p sound m legal size l f in
        let there : slice_get s.memory.shapes k ≡ Some h =
        ap (λ hs. slice_get hs k) alike ∙ global_at p sound m legal k g e in
        let c = content_at s memory fit k h there in
        let room = link_inside p sound m legal k g e l f in
        let known : IsKnown s.memory.shapes functions v = subst (λ hs. IsKnown hs functions v) (sym alike) x.known in
        let to = (fit.spread.placed k h there).to in
        let cap : capability_in r ≡ capability_of (addresses_of m) (base_in s.memory.shapes) v =
        is.capability ∙ ap (start_capability (addresses_of m) (object_base m)) x.start ∙ x.alike
        ∙ ap (λ hs. capability_of (addresses_of m) (base_in hs) v) (sym alike) in
        let place : r.place ≡ h.base + l.at = place_of m (link_begun (asked_by p) h.base l) r is in
        let new = written memory (h.base + l.at)
        (little_bytes 16 (memory_bits (capability_of (addresses_of m) (base_in s.memory.shapes) v).fields)) true in
        let stored_is : reloc.stored memory r ≡ new =
        ap (λ x. written memory x (reloc.bytes_of r) true) place
        ∙ ap (λ (d : Cap). written memory (h.base + l.at) (little_bytes 16 (memory_bits d.fields)) true) cap in
        let does = does m functions s memory fit k l.at h c.0 there c.1 refl f.aligned room v x.tagged known
        (omega (arith, room, to)) in
        let w = does.inside in
        let there' : slice_get u w.object ≡ Some w.shape = ap (λ hs. slice_get hs w.object) (sym alike) ∙ w.there in
        subst (λ t. Linked s t memory (reloc.stored memory r)) (sym does.means)
        (subst (Linked s (record s { memory = does.after }) memory) (sym stored_is) (record {
          shapes = does.shapes;
          heap = refl;
          fit = does.fits;
          table = elsewhere w.shape.base w.shape.owned m.table.0 m.table.1 memory new
              (base_even p sound m legal w.object w.shape there') legal.table_aligned
              (off_table p sound m legal w.object w.shape there') w.same;
        }))

    -- those of a global
    links : (ls : List Link) → ((j : ℕ) (l : Link) → slice_get ls j ≡ Some l → LinkFits p size l) → (rs : List Reloc)
        → Paired (IsRelocation m) (map (link_begun (asked_by p) h.base) ls) rs
        → (s : Store) (memory : List Area) → s.memory.shapes ≡ u
        → ObjectsFit functions (addresses_of m) s.memory memory
        → Linked s (with_links (ops m) s k (map starting ls)) memory (relocated memory rs)
    unfolding relocated
    links [] f [] paired s memory alike fit = no_links s memory fit
    links [] f (r ∷ rs) paired s memory alike fit = absurd paired
    links (l ∷ ls) f [] paired s memory alike fit = absurd paired
    links (l ∷ ls) f (r ∷ rs) paired s memory alike fit =
        let t = put_in (ops m) s k l.at 16 (value_at p l l.target) in
        let first = one l (f 0 l refl) r paired.0 s memory alike fit in
        both_linked s t (with_links (ops m) t k (map starting ls)) memory (reloc.stored memory r)
        (relocated (reloc.stored memory r) rs) first
        (links ls (λ j. f (suc j)) rs paired.1 t (reloc.stored memory r) (first.shapes ∙ alike) first.fit)

  -- of all globals from one on
  pub all_linked : (gs : List GlobalDef) (bs : List ℕ) (k : ℕ) → length bs ≡ length gs
      → ((j : ℕ) (g : GlobalDef) → slice_get gs j ≡ Some g → slice_get p.globals (k + j) ≡ Some g)
      → ((j : ℕ) → slice_index_or m.globals (k + j) 0 ≡ slice_index_or bs j 0) → (rs : List Reloc)
      → Paired (IsRelocation m) (flat_map (links_begun (asked_by p)) (zip gs bs)) rs
      → (s : Store) (memory : List Area) → s.memory.shapes ≡ u
      → ObjectsFit functions (addresses_of m) s.memory memory
      → Linked s (link_globals (ops m) s k (map (global_tree p) gs)) memory (relocated memory rs)
  unfolding relocated
  all_linked [] bs k long there at [] paired s memory alike fit = no_links s memory fit
  all_linked [] bs k long there at (r ∷ rs) paired s memory alike fit = absurd paired
  all_linked (g ∷ gs) [] k long there at rs paired s memory alike fit = absurd (omega arith)
  all_linked (g ∷ gs) (b ∷ bs) k long there at rs paired s memory alike fit =
      let z : k + 0 ≡ k = omega arith in
      let e : slice_get p.globals k ≡ Some g = ap (slice_get p.globals) (sym z) ∙ there 0 g refl in
      let base : slice_index_or m.globals k 0 ≡ b = ap (λ i. slice_index_or m.globals i 0) (sym z) ∙ at 0 in
      let next : (j : ℕ) → suc k + j ≡ k + suc j = λ j. omega arith in
      let q = split (IsRelocation m) (links_begun (asked_by p) (g, b)) (flat_map (links_begun (asked_by p)) (zip gs bs))
      rs paired in
      let t = with_links (ops m) s k (map (starting k g e) g.links) in
      let first = links k g e g.links ((typed p sound m legal).globals k g e).links q.front
      (subst (λ x. Paired (IsRelocation m) (map (link_begun (asked_by p) x) g.links) q.front) (sym base) q.first) s
      memory alike fit in
      let rest = all_linked gs bs (suc k) (omega arith) (λ j x f. ap (slice_get p.globals) (next j) ∙ there (suc j) x f)
      (λ j. ap (λ i. slice_index_or m.globals i 0) (next j) ∙ at (suc j)) q.back q.second t (relocated memory q.front)
      (first.shapes ∙ alike) first.fit in
      subst (Linked s (link_globals (ops m) t (suc k) (map (global_tree p) gs)) memory)
      (sym (ap (relocated memory) q.is ∙ relocated_both memory q.front q.back))
      (both_linked s t (link_globals (ops m) t (suc k) (map (global_tree p) gs)) memory (relocated memory q.front)
      (relocated (relocated memory q.front) q.back) first rest)
