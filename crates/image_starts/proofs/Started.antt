-- The machine to which an image loads stands for the first state of the program.
use Rattle.std.proofs.Common.{◌≡◌, ℕ, ◌+◌, ◌-◌, ◌*◌, ◌<◌, ◌≤◌, ◌⊎◌, true, false, List, ◌++◌, length, map, Some, refl}
use Rattle.std.proofs.Common.{sym}
use Rattle.std.proofs.Common.{ap, ◌∙◌, subst, arith, inl, inr}
use Rattle.std.specs.Prelude.{All, slice_get, slice_index_or}
use Rattle.std.specs.List.{flat_map, zip}
use Rattle.std.proofs.lemmas.List.Elements.{All-get_or}
use Rattle.std.proofs.lemmas.Option.{slice_get_within}
use Rattle.std.proofs.Common.{length-append}
use Rattle.cap_concentrate.proofs.Owned.{owned_ge}
use Rattle.cap_ops.specs.Bounded.{bounded}
use Rattle.cap_ops.specs.Permissions.{data_permissions}
use Rattle.cap_ops.specs.declared.capability.TheConstants.{UNSEALED}
use Rattle.tag_mem.specs.Areas.{Area, IsMemory, is_inside, byte_at, tag_at}
use Rattle.cap_machine.specs.State.{register}
use Rattle.cap_machine.specs.declared.machine.Machine.{Machine}
use Rattle.elf_file.specs.declared.image.Image.{Image}
use Rattle.image_load.specs.Judging.{end_of}
use Rattle.image_load.specs.State.{relocated, memory_of, machine_of}
use Rattle.typing_laws.proofs.Sound.{well_typed}
use Rattle.c_tree.specs.declared.typed.Typed.{Typed}
use Rattle.rv_instr.specs.declared.instr.Instr.{Instr}
use Rattle.obj_mem.specs.Legal.{Needs}
use Rattle.obj_mem.specs.Objects.{Active, Shape}
use Rattle.obj_mem.specs.Standing.{HaveBounds}
use Rattle.obj_mem.specs.Table.{Start, Holds, WholeHeap, table_starts, heap_entry, entry_count, function_entry}
use Rattle.obj_mem.specs.Table.{start_capability, addresses_of, object_base, pointer_to}
use Rattle.obj_mem.specs.Values.{Fun}
use Rattle.obj_mem.specs.declared.map.Map.{Map}
use Rattle.cap_reloc.specs.Begins.{Begun, asked_by, entries_from, links_begun, IsRelocation, IsInside}
use Rattle.cap_reloc.specs.Initial.{BeginsAs}
use Rattle.cap_reloc.proofs.Objects.{objects_begin}
use Rattle.cap_reloc.proofs.Under.{globals_length}
use Rattle.cheri_c_sem.specs.Calls.{start, link_globals}
use Rattle.cheri_c_sem.specs.Modes.{Store, operations, placed_plan}
use Rattle.cheri_c_sem.specs.Programs.{global_tree, program_tree}
use Rattle.placement.proofs.Lawful.{length_needed}
use Rattle.placement.proofs.TypedFits.{literals_lengths}
use Rattle.place_inject.specs.Frames.{Setting, functions_of}
use Rattle.place_inject.specs.Objects.{ObjectsFit}
use Rattle.place_inject.specs.Parts.{kept_at}
use Rattle.place_inject.specs.Starts.{IsMapOf, IsLoaded, StartFits}
use Rattle.place_inject.specs.Tables.{TableIsThere}
use Rattle.place_inject.proofs.Elsewhere.{kept_same}
use Rattle.image_starts.specs.Images.{IsImageOf, ImagesFit, ImagesHaveTables}
use Rattle.image_starts.proofs.Begun.{begun, begun_shapes}
use Rattle.image_starts.proofs.Filled.{ops}
use Rattle.image_starts.proofs.Linked.{Linked, all_linked}
use Rattle.image_starts.proofs.Loaded.{loaded_memory, is_legal, areas}
use Rattle.image_starts.proofs.Maps.{exact, same_lengths, aligned, shapes, global_shape, literal_shape, global_at}
use Rattle.image_starts.proofs.Maps.{literal_at, off_table, of_global, of_literal, whose}
use Rattle.image_starts.proofs.Memory.{facts, third, third_memory, third_untagged, initial_inside, initial_byte}
use Rattle.image_starts.proofs.Memory.{heap_byte}
use Rattle.image_starts.proofs.Memory.{heap_tag}
use Rattle.image_starts.proofs.Relocated.{relocated_both, relocated_memory, relocated_bytes}
use Rattle.image_starts.proofs.Relocated.{relocated_tags}
use Rattle.image_starts.proofs.Standing.{HoldsBytes, HoldsObjects, begun_fits}
use Rattle.image_starts.proofs.Tables.{Split, split, entries_inside, entries_kept, starts_length, object_start}
use Rattle.image_starts.proofs.Tables.{function_start, heap_start}

off : (x base long from size i : ℕ) → x ≡ base + i → i < long → (base + long ≤ from) ⊎ (from + size ≤ base)
    → (x < from) ⊎ (from + size ≤ x)
off x base long from size i e lt (inl before) = inl (omega (arith, e, lt, before))
off x base long from size i e lt (inr behind) = inr (omega (arith, e, behind))

module _ (p : Typed) (s : Setting) (code : List Instr) (i : Image) (h : IsImageOf p s code i) where
  abbrev m : Map
  m = s.map

  abbrev n : Needs
  n = asked_by p

  -- ---- the table's entries are stored first

  abbrev pointers : List Begun
  pointers = flat_map (links_begun n) (zip p.globals m.globals)

  parts : Split (IsRelocation m) (entries_from m.table.0 (table_starts n)) pointers i.relocs
  parts = split (IsRelocation m) (entries_from m.table.0 (table_starts n)) pointers i.relocs h.relocates

  abbrev before : List Area
  before = third i h.fine h.bytes

  before_memory : IsMemory before
  before_memory = third_memory i h.fine h.bytes

  abbrev tabled : List Area
  tabled = relocated before parts.front

  room : 16 * entry_count n ≤ m.table.1
  room = omega (arith, h.table_long, owned_ge (16 * entry_count n))

  front_inside : All (IsInside m.table.0 m.table.1) parts.front
  front_inside =
      entries_inside m (table_starts n) m.table.0 m.table.0 m.table.1 parts.front h.legal.table_aligned (omega arith)
      (omega (arith, starts_length n, room)) parts.first

  table_inside : (x : ℕ) → m.table.0 ≤ x → x < m.table.0 + m.table.1 → is_inside before x ≡ true
  table_inside x from to =
      let lies : (i.initial_base ≤ m.table.0) × (end_of m.table ≤ i.initial_base + length i.initial) =
      subst (λ (e : ℕ × ℕ). (i.initial_base ≤ e.0) × (end_of e ≤ i.initial_base + length i.initial)) h.table
      (facts i h.fine h.bytes).table in
      initial_inside i h.fine h.bytes x (omega (arith, lies.0, from)) (omega (arith, lies.1, to))

  entries : (k : ℕ) (x : Start) → slice_get (table_starts n) k ≡ Some x
      → kept_at tabled (m.table.0 + 16 * k) ≡ Some (start_capability (addresses_of m) (object_base m) x)
  entries k x e =
      entries_kept m (table_starts n) m.table.0 parts.front before parts.first before_memory h.legal.table_aligned
      (λ x from to. table_inside x from (omega (arith, to, starts_length n, room))) k x e

  -- ---- objects stand with their bytes

  -- bytes of the initial data, zeros behind them
  holds : (k : ℕ) (shape : Shape) → slice_get (shapes p h.sound m h.legal) k ≡ Some shape → (bytes : List ℕ)
      → BeginsAs i.initial_base i.initial shape.base shape.owned bytes → HoldsBytes shape bytes tabled
  holds k shape e bytes b =
      let above = b.above in
      let below = b.below in
      let out : (j : ℕ) → j < shape.owned → (shape.base + j < m.table.0) ⊎ (m.table.0 + m.table.1 ≤ shape.base + j) =
      λ j lt. off (shape.base + j) shape.base shape.owned m.table.0 m.table.1 j refl lt
      (off_table p h.sound m h.legal k shape e) in
      record {
        bytes = λ j lt.
            relocated_bytes m.table.0 m.table.1 (shape.base + j) (out j lt) before parts.front before_memory
            front_inside
            ∙ initial_byte i h.fine h.bytes (shape.base + j) (omega (arith, above)) (omega (arith, lt, below))
            ∙ ap (λ v. Some v) (b.each j lt);
        small = λ j lt. subst (λ v. v < 256) (b.each j lt)
            (All-get_or (λ v. v < 256) i.initial (shape.base + j - i.initial_base) 0 (omega (arith, above, below, lt))
            h.bytes.initial);
        tags = λ j lt.
            relocated_tags m.table.0 m.table.1 (shape.base + j) (out j lt) before parts.front before_memory front_inside
            ∙ third_untagged i h.fine h.bytes (shape.base + j)
            (initial_inside i h.fine h.bytes (shape.base + j) (omega (arith, above)) (omega (arith, lt, below)));
      }

  objects : HoldsObjects p h.sound m h.legal tabled
  objects =
      let b = objects_begin p m h.legal (well_typed p h.sound) i.initial_base i.initial
      h.begins in
      record {
        areas = relocated_memory before parts.front before_memory;
        globals = λ k g e.
            holds k (global_shape p h.sound m h.legal k g) (global_at p h.sound m h.legal k g e) g.bytes
            (b.globals k g e);
        literals = λ k l e.
            holds (length p.globals + k) (literal_shape p h.sound m h.legal k l) (literal_at p h.sound m h.legal k l e)
            l.bytes (b.literals k l e);
      }

  -- ---- and with their pointers

  abbrev first : Store
  first = begun p h.sound m h.legal

  abbrev last : Store
  last = link_globals (ops m) first 0 (map (global_tree p) p.globals)

  linked : Linked p h.sound m h.legal first last tabled (relocated tabled parts.back)
  linked =
      all_linked p h.sound m h.legal p.globals m.globals 0 (globals_length p m h.legal)
      (λ j g e. let z : 0 + j ≡ j = omega arith in ap (slice_get p.globals) z ∙ e)
      (λ j. let z : 0 + j ≡ j = omega arith in ap (λ k. slice_index_or m.globals k 0) z) parts.back parts.second first
      tabled
      (begun_shapes p h.sound m h.legal) (begun_fits p h.sound m h.legal tabled objects)

  memory_is : memory_of i ≡ relocated tabled parts.back
  unfolding memory_of
  memory_is = ap (relocated before) parts.is ∙ relocated_both before parts.front parts.back

  started : start (operations (placed_plan m)) (program_tree p) ≡ last
  unfolding start program_tree
  started = refl

  fit : ObjectsFit (length n.functions) (addresses_of m) last.memory s.loaded.mem
  fit = subst (ObjectsFit (length n.functions) (addresses_of m) last.memory)
      (sym (loaded_memory p s code i h ∙ memory_is)) linked.fit

  -- the entries are kept
  kept : (k : ℕ) (x : Start) → slice_get (table_starts n) k ≡ Some x → k ≤ heap_entry n
      → kept_at s.loaded.mem (m.table.0 + 16 * k) ≡ Some (start_capability (addresses_of m) (object_base m) x)
  kept k x e le =
      let even = h.legal.table_aligned in
      ap (λ a. kept_at a (m.table.0 + 16 * k)) (loaded_memory p s code i h ∙ memory_is)
      ∙ kept_same m.table.0 m.table.1 (m.table.0 + 16 * k) tabled (relocated tabled parts.back)
      (relocated_memory before parts.front before_memory) linked.fit.areas linked.table (omega arith) (omega arith)
      (omega (arith, le, room))
      ∙ entries k x e

  -- ---- registers

  machine_register : (j : ℕ) → register s.loaded j ≡ register (machine_of i) j
  machine_register j = ap (λ x. register x j) h.loaded

  table_register : register (machine_of i) 3 ≡ bounded i.table.0 (end_of i.table) data_permissions UNSEALED i.table.0
  unfolding machine_of
  table_register = refl

  stack_register : register (machine_of i) 2
      ≡ bounded i.stack.0 (end_of i.stack) data_permissions UNSEALED (end_of i.stack)
  unfolding machine_of
  stack_register = refl

  registers_long : length (machine_of i).regs ≡ 32
  unfolding machine_of
  registers_long = refl

  heap_byte_is : (x : ℕ) → m.heap.0 ≤ x → x < m.heap.0 + m.heap.1 → byte_at s.loaded.mem x ≡ Some 0
  heap_byte_is x from to =
      ap (λ a. byte_at a x) (loaded_memory p s code i h)
      ∙ heap_byte i h.fine h.bytes x (subst (λ (e : ℕ × ℕ). e.0 ≤ x) (sym h.heap) from)
      (subst (λ (e : ℕ × ℕ). x < e.0 + e.1) (sym h.heap) to)

  heap_tag_is : (x : ℕ) → m.heap.0 ≤ x → x < m.heap.0 + m.heap.1 → tag_at s.loaded.mem x ≡ Some false
  heap_tag_is x from to =
      ap (λ a. tag_at a x) (loaded_memory p s code i h)
      ∙ heap_tag i h.fine h.bytes x (subst (λ (e : ℕ × ℕ). e.0 ≤ x) (sym h.heap) from)
      (subst (λ (e : ℕ × ℕ). x < e.0 + e.1) (sym h.heap) to)

  -- ---- the table

  table : TableIsThere s
  table = record {
    areas = areas p s code i h;
    table = machine_register 3 ∙ table_register
        ∙ ap (λ (e : ℕ × ℕ). bounded e.0 (e.0 + e.1) data_permissions UNSEALED e.0) h.table;
    objects = λ k need e.
        let e' : slice_get (n.globals ++ n.literals) k ≡ Some need =
        subst (λ (x : Needs). slice_get (x.globals ++ x.literals) k ≡ Some need) h.needs e in
        kept k (pointer_to need k) (object_start n k need e')
        (omega (
          arith,
          slice_get_within (n.globals ++ n.literals) k need e',
          length-append n.globals n.literals,
        ));
    functions = λ f lt.
        let lt' : f < length n.functions = subst (λ (x : Needs). f < length x.functions) h.needs lt in
        ap (λ (x : Needs). kept_at s.loaded.mem (m.table.0 + 16 * function_entry x f)) h.needs
        ∙ kept (function_entry n f) (Holds (Fun f)) (function_start n f lt') (omega (arith, lt'));
  }

  -- ---- the first state

  is_map : IsMapOf s (program_tree p)
  unfolding program_tree
  is_map =
      let back = sym h.needs in
      let both = exact p h.sound m h.legal in
      record {
        legal = is_legal p s code i h;
        exact_globals = subst (λ (x : Needs). HaveBounds x.globals m.globals) back both.0;
        exact_literals = subst (λ (x : Needs). HaveBounds x.literals m.literals) back both.1;
        globals = same_lengths p h.sound m h.legal ∙ ap (λ (x : Needs). map length_needed x.globals) back;
        literals = literals_lengths p.literals ∙ ap (λ (x : Needs). map length_needed x.literals) back;
        aligned = aligned p h.sound m h.legal;
        table = subst (λ (x : Needs). 16 * entry_count x ≤ m.table.1) back room;
      }

  all_active : (k : ℕ) (shape : Shape) → slice_get last.memory.shapes k ≡ Some shape → shape.life ≡ Active
  all_active k shape e =
      let there : slice_get (shapes p h.sound m h.legal) k ≡ Some shape =
      ap (λ hs. slice_get hs k) (sym (linked.shapes ∙ begun_shapes p h.sound m h.legal)) ∙ e in
      elim (whose p h.sound m h.legal k shape there) as (λ _. shape.life ≡ Active) [
        | of_global g is same ↦ ap (λ (x : Shape). x.life) same
        | of_literal j l at is same ↦ ap (λ (x : Shape). x.life) same
      ]

  fits_by : ObjectsFit (functions_of s) (addresses_of m) last.memory s.loaded.mem
  fits_by = subst (λ (x : Needs). ObjectsFit (length x.functions) (addresses_of m) last.memory s.loaded.mem)
      (sym h.needs) fit

  is_loaded : IsLoaded s last.memory
  is_loaded = record {
    registers = ap (λ (x : Machine). length x.regs) h.loaded ∙ registers_long;
    areas = areas p s code i h;
    stack = machine_register 2 ∙ stack_register
        ∙ ap (λ (e : ℕ × ℕ). bounded e.0 (e.0 + e.1) data_permissions UNSEALED (e.0 + e.1)) h.stack;
    zeros = heap_byte_is;
    untagged = λ g from to. heap_tag_is (16 * g) from (omega (arith, to));
    heap = ap (λ (x : Needs). kept_at s.loaded.mem (m.table.0 + 16 * heap_entry x)) h.needs
        ∙ kept (heap_entry n) WholeHeap (heap_start n) (omega arith);
    sound = fits_by.sound;
    stands = λ k g c e f. fits_by.stands k g c e f (all_active k g e);
  }

  loaded_so : IsLoaded s (start (operations (placed_plan m)) (program_tree p)).memory
  loaded_so = subst (λ (x : Store). IsLoaded s x.memory) (sym started) is_loaded

pub images_have_tables_law : ImagesHaveTables
images_have_tables_law p s code i h = table p s code i h

-- where the laws of loaded machines give the rest
pub images_fit_by : StartFits → ImagesFit
images_fit_by fits p s code i h turns = fits s (program_tree p) (is_map p s code i h) (loaded_so p s code i h) turns
