-- What stands in the objects of a program before the pointers in them are written.
use Rattle.std.proofs.Common.{◌≡◌, ℕ, zero, suc, ◌+◌, ◌-◌, ◌%◌, ◌^◌, ◌<◌, List, [], ◌∷◌, ◌++◌, length, get_or}
use Rattle.obj_mem.specs.Objects.{Byte}
use Rattle.cheri_c_sem.specs.Types.{size_of_extent}
use Rattle.std.proofs.Common.{map, replicate, Some, refl, sym, ap, ◌∙◌, subst, arith, inl, inr, length-append}
use Rattle.std.specs.Prelude.{slice_get}
use Rattle.std.proofs.lemmas.List.{length-replicate}
use Rattle.std.proofs.lemmas.Option.{slice_get_within}
use Rattle.cap_concentrate.proofs.Owned.{owned_ge}
use Rattle.c_tree.specs.Typing.{Sound}
use Rattle.c_tree.specs.declared.typed.GlobalDef.{GlobalDef}
use Rattle.c_tree.specs.declared.typed.Literal.{Literal}
use Rattle.c_tree.specs.declared.typed.Typed.{Typed}
use Rattle.obj_mem.specs.Needs.{Legal, global_need}
use Rattle.obj_mem.specs.Objects.{Shape, Content}
use Rattle.obj_mem.specs.declared.map.Map.{Map}
use Rattle.cap_reloc.specs.Begins.{asked_by}
use Rattle.cap_reloc.proofs.Under.{size_is}
use Rattle.cheri_c_sem.specs.Calls.{add_globals, add_literals, all_bytes, fill_globals, fill_literals}
use Rattle.cheri_c_sem.specs.Modes.{Store, operations, placed_plan}
use Rattle.cheri_c_sem.specs.Programs.{global_tree}
use Rattle.cheri_c_sem.specs.Tree.{Global}
use Rattle.placement.proofs.Lists.{map_get, map_from, map_length}
use Rattle.placement.proofs.Lawful.{length_needed}
use Rattle.placement.proofs.Objects.{shapes_from, globals_added, literals_added}
use Rattle.placement.proofs.TypedFits.{literals_lengths}
use Rattle.image_starts.proofs.Filled.{ops, HasBegun, IsReady, Filled, filled, globals_as_rows, AreBlank, globals_blank}
use Rattle.image_starts.proofs.Filled.{literals_blank, blank_at}
use Rattle.image_starts.proofs.Maps.{typed, shapes, is_spread, same_lengths, global_shape, global_at, literal_at}
use Rattle.image_starts.proofs.Maps.{literal_shape}

-- zeros behind bytes
abbrev zeros : ℕ → List ℕ
zeros n = replicate n 0

zeros_at : (n i : ℕ) → get_or (zeros n) i 0 ≡ 0
zeros_at zero i = refl
zeros_at (suc n) zero = refl
zeros_at (suc n) (suc i) = zeros_at n i

padded_at : (bytes : List ℕ) (n i : ℕ) → get_or (bytes ++ zeros n) i 0 ≡ get_or bytes i 0
padded_at [] n i = zeros_at n i
padded_at (b ∷ bytes) n zero = refl
padded_at (b ∷ bytes) n (suc i) = padded_at bytes n i

module _ (p : Typed) (sound : Sound p) (m : Map) (legal : Legal p m) where
  abbrev globals : List Global
  globals = map (global_tree p) p.globals

  abbrev literals : List (List ℕ)
  literals = map (λ (l : Literal). l.bytes) p.literals

  abbrev rows : List (List ℕ)
  rows = map (all_bytes (ops m)) globals

  -- the objects, of which nothing is written
  abbrev objects : Store
  objects = add_literals (ops m) (add_globals (ops m) (ops m).empty 0 globals) 0 literals

  -- with their bytes
  abbrev half : Store
  half = fill_literals (ops m) objects 0 rows

  abbrev pub begun : Store
  begun = fill_literals (ops m) (fill_globals (ops m) objects 0 globals) (length globals) literals

  begun_is : begun ≡ fill_literals (ops m) half (length globals) literals
  begun_is = ap (λ s. fill_literals (ops m) s (length globals) literals) (globals_as_rows m globals objects 0)

  objects_shapes : objects.memory.shapes ≡ shapes p sound m legal
  unfolding operations
  objects_shapes =
      let s = add_globals (ops m) (ops m).empty 0 globals in
      let g = globals_added (placed_plan m) globals (ops m).empty 0 in
      let l = literals_added (placed_plan m) literals s 0 in
      l.shapes
      ∙ ap (λ x. x ++ shapes_from (placed_plan m).literal 0 (map length literals)) g.shapes
      ∙ ap (λ v. shapes_from (placed_plan m).global 0 v ++ shapes_from (placed_plan m).literal 0 (map length literals))
      (same_lengths p sound m legal)
      ∙ ap (λ v. shapes_from (placed_plan m).global 0 (map length_needed (asked_by p).globals)
      ++ shapes_from (placed_plan m).literal 0 v) (literals_lengths p.literals)

  objects_heap : objects.heap ≡ m.heap.0
  unfolding operations
  objects_heap =
      (literals_added (placed_plan m) literals (add_globals (ops m) (ops m).empty 0 globals) 0).heap
      ∙ (globals_added (placed_plan m) globals (ops m).empty 0).heap

  objects_blank : AreBlank m objects
  unfolding operations
  objects_blank =
      literals_blank m literals (add_globals (ops m) (ops m).empty 0 globals) 0
      (globals_blank m globals (ops m).empty 0 refl)

  owned_below : (k : ℕ) (h : Shape) → slice_get (shapes p sound m legal) k ≡ Some h → h.owned < 2 ^ 64
  owned_below k h e = let to = ((is_spread p sound m legal).placed k h e).to in omega arith

  -- ---- the globals

  row_length : (k : ℕ) (g : GlobalDef) → slice_get p.globals k ≡ Some g
      → length (all_bytes (ops m) (global_tree p g)) ≡ (global_need p.types g).length
  row_length k g e =
      let w = typed p sound m legal in
      let f = w.globals k g e in
      let t = global_tree p g in
      let bytes = f.bytes in
      let size : t.length ≡ f.extent.size = ap size_of_extent f.own in
      omega (
        arith,
        length-append g.bytes (replicate (t.length - length g.bytes) 0),
        length-replicate {A = ℕ} (t.length - length g.bytes) 0,
        size_is p w k g e,
        size,
        bytes,
      )

  ready_global : (j : ℕ) (bytes : List ℕ) → slice_get rows j ≡ Some bytes → IsReady m objects (0 + j) bytes
  ready_global j bytes e =
      let t = map_from (all_bytes (ops m)) globals j bytes e in
      let g = map_from (global_tree p) p.globals j t.0 t.1 in
      let z : j ≡ 0 + j = omega arith in
      let h = global_shape p sound m legal j g.0 in
      let at = global_at p sound m legal j g.0 g.1 in
      let there : slice_get objects.memory.shapes j ≡ Some h = ap (λ hs. slice_get hs j) objects_shapes ∙ at in
      let same : all_bytes (ops m) (global_tree p g.0) ≡ bytes = ap (all_bytes (ops m)) g.2 ∙ t.2 in
      let long = row_length j g.0 g.1 in
      subst (λ i. IsReady m objects i bytes) z (record {
        shape = h;
        there = there;
        has = blank_at m objects objects_blank j h there;
        active = refl;
        room = omega (arith, ap length same, long, owned_ge (global_need p.types g.0).length);
        small = owned_below j h at;
      })

  first_half : Filled m objects half 0 rows
  first_half = filled m rows objects 0 ready_global

  -- ---- the literals

  count : length globals ≡ length p.globals
  count = map_length (global_tree p) p.globals

  rows_count : length rows ≡ length globals
  rows_count = map_length (all_bytes (ops m)) globals

  ready_literal : (j : ℕ) (bytes : List ℕ) → slice_get literals j ≡ Some bytes
      → IsReady m half (length globals + j) bytes
  ready_literal j bytes e =
      let l = map_from (λ (x : Literal). x.bytes) p.literals j bytes e in
      let h = literal_shape p sound m legal j l.0 in
      let at = literal_at p sound m legal j l.0 l.1 in
      let k = length p.globals + j in
      let there : slice_get objects.memory.shapes k ≡ Some h = ap (λ hs. slice_get hs k) objects_shapes ∙ at in
      subst (λ n. IsReady m half (n + j) bytes) (sym count) (record {
        shape = h;
        there = ap (λ hs. slice_get hs k) first_half.shapes ∙ there;
        has = first_half.others k (inr (omega (arith, rows_count, count))) ∙ blank_at m objects objects_blank k h there;
        active = refl;
        room = omega (arith, ap length l.2, owned_ge (length l.0.bytes));
        small = owned_below k h at;
      })

  second_half : Filled m half (fill_literals (ops m) half (length globals) literals) (length globals) literals
  second_half = filled m literals half (length globals) ready_literal

  -- ---- all

  pub begun_shapes : begun.memory.shapes ≡ shapes p sound m legal
  begun_shapes =
      ap (λ (s : Store). s.memory.shapes) begun_is ∙ second_half.shapes ∙ first_half.shapes ∙ objects_shapes

  pub begun_heap : begun.heap ≡ m.heap.0
  begun_heap = ap (λ (s : Store). s.heap) begun_is ∙ second_half.heap ∙ first_half.heap ∙ objects_heap

  pub begun_many : length begun.memory.contents ≡ length begun.memory.shapes
  begun_many =
      ap (λ (s : Store). length s.memory.contents) begun_is ∙ second_half.many ∙ first_half.many
      ∙ ap length objects_blank ∙ map_length _ objects.memory.shapes
      ∙ ap length (objects_shapes ∙ sym begun_shapes)

  abbrev pub Begins : (k owns : ℕ) → List ℕ → Type 0
  Begins k owns bytes =
      (c : Content) × (slice_get begun.memory.contents k ≡ Some c) × HasBegun owns bytes c

  pub global_begins : (k : ℕ) (g : GlobalDef) → slice_get p.globals k ≡ Some g
      → Begins k (global_shape p sound m legal k g).owned g.bytes
  global_begins k g e =
      let z : 0 + k ≡ k = omega arith in
      let h = global_shape p sound m legal k g in
      let row = all_bytes (ops m) (global_tree p g) in
      let there : slice_get objects.memory.shapes (0 + k) ≡ Some h =
      ap (slice_get objects.memory.shapes) z ∙ ap (λ hs. slice_get hs k) objects_shapes
      ∙ global_at p sound m legal k g e in
      let f = first_half.each k row h
      (map_get (all_bytes (ops m)) globals k (global_tree p g) (map_get (global_tree p) p.globals k g e)) there in
      let lt = slice_get_within p.globals k g e in
      let c = f.2 in (
        f.0,
        ap (λ (s : Store). slice_get s.memory.contents k) begun_is
            ∙ second_half.others k (inl (omega (arith, lt, count)))
            ∙ ap (slice_get half.memory.contents) (sym z) ∙ f.1,
        record {
          cells = c.cells;
          granules = c.granules;
          none = c.none;
          each = λ i l. c.each i l
              ∙ ap (λ b. Some (Byte (b % 256)))
              (padded_at g.bytes ((global_tree p g).length - length g.bytes) i);
        },
      )

  pub literal_begins : (k : ℕ) (l : Literal) → slice_get p.literals k ≡ Some l
      → Begins (length p.globals + k) (literal_shape p sound m legal k l).owned l.bytes
  literal_begins k l e =
      let h = literal_shape p sound m legal k l in
      let at = length globals + k in
      let is : at ≡ length p.globals + k = ap (λ n. n + k) count in
      let there : slice_get half.memory.shapes at ≡ Some h =
      ap (slice_get half.memory.shapes) is ∙ ap (λ hs. slice_get hs (length p.globals + k))
      (first_half.shapes ∙ objects_shapes) ∙ literal_at p sound m legal k l e in
      let f = second_half.each k l.bytes h (map_get (λ (x : Literal). x.bytes) p.literals k l e) there in (
        f.0,
        ap (λ (s : Store). slice_get s.memory.contents (length p.globals + k)) begun_is
            ∙ ap (slice_get (fill_literals (ops m) half (length globals) literals).memory.contents) (sym is) ∙ f.1,
        f.2,
      )
