-- What stands in objects when the bytes with which they begin were written.
use Rattle.std.proofs.Common.{◌≡◌, ℕ, zero, suc, ◌+◌, ◌/◌, ◌%◌, ◌^◌, ◌<◌, ◌≤◌, ◌⊎◌, true, false, not, List, []}
use Rattle.std.proofs.Common.{◌∷◌, ◌++◌, length, get_or, map, replicate, Option, Some, None, Result, Ok, refl, sym, ap}
use Rattle.std.proofs.Common.{◌∙◌, subst, arith, inl, inr}
use Rattle.std.specs.Prelude.{◌==◌, ◌||◌, nat_lt, slice_get, slice_set}
use Rattle.std.proofs.lemmas.Bool.{cases_lt, eq-eqb}
use Rattle.std.proofs.lemmas.Bool.Decides.{nat_tests}
use Rattle.std.proofs.lemmas.Option.{slice_get-get_or}
use Rattle.cap_concentrate.specs.Rounding.{owned}
use Rattle.cap_ops.specs.Capability.{permits}
use Rattle.cap_ops.specs.declared.access.Access.TheVariants as A
use Rattle.cap_ops.specs.declared.capability.TheConstants.{LOAD_CAPABILITY}
use Rattle.obj_mem.specs.Access.{Spot, misses, unless, reach, onward, at_spot, at_place, outside_unless_active}
use Rattle.obj_mem.specs.Access.{with_piece, store, Plain, bytes_of}
use Rattle.obj_mem.specs.Objects.{Byte, Active, Shape, Content, Memory, Mode, Placed, held, value_at, opened_by}
use Rattle.obj_mem.specs.Objects.{put_at, blank, owned_of_shape, with_bytes as put_bytes}
use Rattle.obj_mem.specs.Table.{addresses_of}
use Rattle.obj_mem.specs.Values.{Value, Int, Live}
use Rattle.obj_mem.specs.declared.ending.Fault.{Fault}
use Rattle.obj_mem.specs.declared.map.Map.{Map}
use Rattle.cheri_c_sem.specs.Calls.{add_globals, add_literals, memory_or, written, with_bytes, all_bytes, fill_globals}
use Rattle.cheri_c_sem.specs.Calls.{fill_literals}
use Rattle.cheri_c_sem.specs.Modes.{Store, stored, operations, placed_plan, with_object}
use Rattle.cheri_c_sem.specs.Operations.{Operations}
use Rattle.cheri_c_sem.specs.Tree.{Global}
use Rattle.placement.proofs.Lists.{some_same, map_get, map_join}
use Rattle.place_inject.proofs.ReadBack.{none_fails}
use Rattle.place_inject.proofs.Results.{set_same, set_apart, set_length}

abbrev spot_of : (k owned at : ℕ) → Spot
spot_of k owned at = record { object = k; low = 0; high = owned; at = at; carries = permits 125 LOAD_CAPABILITY }

-- an access by the pointer to a whole object
reached_byte : (k owned at : ℕ) → at + 1 ≤ owned → reach (A.Store 1) (Live k 0 owned at 125) ≡ Ok (spot_of k owned at)
reached_byte k owned at fits =
    let bounds : (nat_lt at 0 || nat_lt owned (at + 1)) ≡ false = grind (arith, nat_tests) in
    let align : not (at % 1 == 0) ≡ false = ap not (eq-eqb (at % 1) 0 (omega arith)) in
    ap (λ o. unless o (Ok (spot_of k owned at)))
    (none_fails (misses 0 owned at 125 (A.Store 1)) refl refl refl refl refl refl bounds align)

pub reached_granule : (k owned at : ℕ) → at + 16 ≤ owned → at % 16 ≡ 0
    → reach (A.StoreCap true) (Live k 0 owned at 125) ≡ Ok (spot_of k owned at)
reached_granule k owned at fits even =
    let bounds : (nat_lt at 0 || nat_lt owned (at + 16)) ≡ false = grind (arith, nat_tests) in
    let align : not (at % 16 == 0) ≡ false = ap not (eq-eqb (at % 16) 0 even) in
    ap (λ o. unless o (Ok (spot_of k owned at)))
    (none_fails (misses 0 owned at 125 (A.StoreCap true)) refl refl refl refl refl refl bounds align)

-- ---- a content in which nothing but bytes stands

pub record HasBegun (owns : ℕ) (bytes : List ℕ) (c : Content) : Type 0 where
  pub cells : length c.cells ≡ owns
  pub granules : length c.values ≡ (owns + 15) / 16
  pub none : (g : ℕ) → value_at c g ≡ None
  pub each : (i : ℕ) → i < owns → slice_get c.cells i ≡ Some (Byte (get_or bytes i 0 % 256))

-- bytes from a place on over what was there
record IsOver (c d : Content) (at : ℕ) (bytes : List ℕ) : Type 0 where
  cells : length d.cells ≡ length c.cells
  values : d.values ≡ c.values
  inside : (j : ℕ) → j < length bytes → slice_get d.cells (at + j) ≡ Some (Byte (get_or bytes j 0 % 256))
  outside : (i : ℕ) → (i < at) ⊎ (at + length bytes ≤ i) → slice_get d.cells i ≡ slice_get c.cells i

abbrev nothing : Option Value
nothing = None

none_held : (n g : ℕ) → held (slice_get (replicate n nothing) g) ≡ None
none_held zero g = refl
none_held (suc n) zero = refl
none_held (suc n) (suc g) = none_held n g

replicate_length : {A : Type 0} (n : ℕ) (x : A) → length (replicate n x) ≡ n
replicate_length zero x = refl
replicate_length (suc n) x = ap suc (replicate_length n x)

replicate_get : {A : Type 0} (n i : ℕ) (x : A) → i < n → slice_get (replicate n x) i ≡ Some x
replicate_get zero i x lt = absurd (omega arith)
replicate_get (suc n) zero x lt = refl
replicate_get (suc n) (suc i) x lt = replicate_get n i x (omega arith)

past_end : (bs : List ℕ) (i : ℕ) → length bs ≤ i → get_or bs i 0 ≡ 0
past_end [] i le = refl
past_end (b ∷ bs) zero le = absurd (omega arith)
past_end (b ∷ bs) (suc i) le = past_end bs i (omega arith)

module _ (m : Map) where
  abbrev pub ops : Operations Store
  ops = operations (placed_plan m)

  abbrev pub mode : Mode
  mode = Placed (addresses_of m)

  abbrev pub blank_of : Shape → Content
  blank_of h = blank mode h.owned

  begun_over : (owns : ℕ) (bytes : List ℕ) (d : Content) → length bytes ≤ owns
      → IsOver (blank mode owns) d 0 bytes → HasBegun owns bytes d
  begun_over owns bytes d fits o = record {
    cells = o.cells ∙ replicate_length owns (Byte 0);
    granules = ap length o.values ∙ replicate_length ((owns + 15) / 16) nothing;
    none = λ g. ap (λ vs. held (slice_get vs g)) o.values ∙ none_held ((owns + 15) / 16) g;
    each = λ i lt. elim (cases_lt i (length bytes)) as
        (λ _. slice_get d.cells i ≡ Some (Byte (get_or bytes i 0 % 256))) [
          | inl within ↦
              let z : 0 + i ≡ i = omega arith in
              ap (slice_get d.cells) (sym z) ∙ o.inside i within
          | inr past ↦
              o.outside i (inr (omega (arith, past))) ∙ replicate_get owns i (Byte 0) lt
              ∙ ap (λ b. Some (Byte (b % 256))) (sym (past_end bytes i past))
        ];
  }

  -- ---- a store to an object

  pub at_it : {R : Type 0} (mem : Memory) (k owned at n : ℕ) (h : Shape) (c : Content) (f : Content → Result R Fault)
      → slice_get mem.shapes k ≡ Some h → slice_get mem.contents k ≡ Some c → h.life ≡ Active
      → at_spot mode mem (spot_of k owned at) n f ≡ f c
  at_it mem k owned at n h c f there has active =
      ap (λ o. at_place mode mem (spot_of k owned at) n o (slice_get mem.contents k) f) there
      ∙ ap (λ o. at_place mode mem (spot_of k owned at) n (Some h) o f) has
      ∙ ap (λ l. outside_unless_active l (f c)) active

  byte_stored : (mem : Memory) (k at b : ℕ) (h : Shape) (c : Content) → slice_get mem.shapes k ≡ Some h
      → slice_get mem.contents k ≡ Some c → h.life ≡ Active → at + 1 ≤ h.owned
      → store mode mem (Live k 0 h.owned at 125) 1 (Int b)
      ≡ Ok (record mem { contents = slice_set mem.contents k (put_bytes mode mem.shapes c at (bytes_of 1 b)) })
  unfolding store
  byte_stored mem k at b h c there has active fits =
      ap (λ r. onward r (λ (s : Spot). at_spot mode mem s 1 (λ (d : Content). Ok (record mem {
        contents = slice_set mem.contents s.object (with_piece mode mem.shapes d s.at (Plain (bytes_of 1 b)));
      })))) (reached_byte k h.owned at fits)
      ∙ at_it mem k h.owned at 1 h c _ there has active

  pub written_is : (s : Store) (k at n : ℕ) (v : Value) (h : Shape) → slice_get s.memory.shapes k ≡ Some h
      → at < 2 ^ 64 → (after : Memory) → store mode s.memory (Live k 0 h.owned at 125) n v ≡ Ok after
      → written ops s k at n v ≡ record s { memory = after }
  unfolding operations
  written_is s k at n v h there small after e =
      let off : (0 + at) % 2 ^ 64 ≡ at = omega arith in
      ap (λ o. memory_or ops s (stored s (store mode s.memory
      (Live k 0 (owned_of_shape o) ((0 + at) % 2 ^ 64) 125) n v))) there
      ∙ ap (λ x. memory_or ops s (stored s (store mode s.memory (Live k 0 h.owned x 125) n v))) off
      ∙ ap (λ r. memory_or ops s (stored s r)) e

  -- the bytes of an object in which no value stands
  plain_put : (shapes : _) (c : Content) (at b : ℕ) → ((g : ℕ) → value_at c g ≡ None)
      → put_bytes mode shapes c at (bytes_of 1 b)
      ≡ record { cells = slice_set c.cells at (Byte (b % 256)); values = c.values }
  plain_put shapes c at b none =
      ap (λ (o : Content). record { cells = put_at o.cells at (Byte (b % 256) ∷ []); values = o.values })
      (ap (opened_by mode shapes c (at / 16)) (none (at / 16)))

  -- ---- bytes, one after another

  record Fills (s t : Store) (k at : ℕ) (bytes : List ℕ) (c : Content) : Type 0 where
    shapes : t.memory.shapes ≡ s.memory.shapes
    many : length t.memory.contents ≡ length s.memory.contents
    heap : t.heap ≡ s.heap
    content : Content
    there : slice_get t.memory.contents k ≡ Some content
    over : IsOver c content at bytes
    others : (j : ℕ) → (j ≡ k → ⊥) → slice_get t.memory.contents j ≡ slice_get s.memory.contents j

  fills : (bytes : List ℕ) (s : Store) (k at : ℕ) (h : Shape) (c : Content) → slice_get s.memory.shapes k ≡ Some h
      → slice_get s.memory.contents k ≡ Some c → h.life ≡ Active → ((g : ℕ) → value_at c g ≡ None)
      → length c.cells ≡ h.owned → at + length bytes ≤ h.owned → h.owned < 2 ^ 64
      → Fills s (with_bytes ops s k at bytes) k at bytes c
  fills [] s k at h c there has active none cells room small = record {
    shapes = refl;
    many = refl;
    heap = refl;
    content = c;
    there = has;
    over = record { cells = refl; values = refl; inside = λ j lt. absurd (omega arith); outside = λ i o. refl };
    others = λ j ne. refl;
  }
  fills (b ∷ bytes) s k at h c there has active none cells room small =
      let d : Content = record { cells = slice_set c.cells at (Byte (b % 256)); values = c.values } in
      let mem : Memory = record s.memory { contents = slice_set s.memory.contents k d } in
      let step : written ops s k at 1 (Int b) ≡ record s { memory = mem } =
      written_is s k at 1 (Int b) h there (omega (arith, room, small)) mem
      (byte_stored s.memory k at b h c there has active (omega (arith, room))
      ∙ ap (λ e. Ok (record s.memory { contents = slice_set s.memory.contents k e }))
      (plain_put s.memory.shapes c at b none)) in
      let f = fills bytes (record s { memory = mem }) k (suc at) h d there (set_same s.memory.contents k d c has) active
      none (set_length c.cells at (Byte (b % 256)) ∙ cells) (omega (arith, room)) small in
      let o = f.over in
      let was = slice_get-get_or c.cells at (Byte 0) (omega (arith, room, cells)) in
      subst (λ t. Fills s (with_bytes ops t k (suc at) bytes) k at (b ∷ bytes) c) (sym step) (record {
        shapes = f.shapes;
        many = f.many ∙ set_length s.memory.contents k d;
        heap = f.heap;
        content = f.content;
        there = f.there;
        over = record {
          cells = o.cells ∙ set_length c.cells at (Byte (b % 256));
          values = o.values;
          inside = λ j lt. byte_at f.content o was j lt;
          outside = λ i out. o.outside i (elim out [
            | inl low ↦ inl (omega (arith, low))
            | inr high ↦ inr (omega (arith, high))
          ]) ∙ set_apart c.cells at i (Byte (b % 256)) (λ e. elim out as (λ _. ⊥) [
            | inl low ↦ omega (arith, low, e)
            | inr high ↦ omega (arith, high, e)
          ]);
        };
        others = λ j ne. f.others j ne ∙ set_apart s.memory.contents k j d ne;
      })
    where
      byte_at : (e : Content)
          → IsOver (record { cells = slice_set c.cells at (Byte (b % 256)); values = c.values }) e (suc at) bytes
          → slice_get c.cells at ≡ Some (get_or c.cells at (Byte 0)) → (j : ℕ) → j < suc (length bytes)
          → slice_get e.cells (at + j) ≡ Some (Byte (get_or (b ∷ bytes) j 0 % 256))
      byte_at e o was zero lt =
          let z : at + 0 ≡ at = omega arith in
          ap (slice_get e.cells) z ∙ o.outside at (inl (omega arith))
          ∙ set_same c.cells at (Byte (b % 256)) (get_or c.cells at (Byte 0)) was
      byte_at e o was (suc j) lt =
          let z : at + suc j ≡ suc at + j = omega arith in
          ap (slice_get e.cells) z ∙ o.inside j (omega arith)

  -- ---- objects, one after another

  -- an active object of which nothing is written so far, with room for these bytes
  pub record IsReady (s : Store) (k : ℕ) (bytes : List ℕ) : Type 0 where
    pub shape : Shape
    pub there : slice_get s.memory.shapes k ≡ Some shape
    pub has : slice_get s.memory.contents k ≡ Some (blank_of shape)
    pub active : shape.life ≡ Active
    pub room : length bytes ≤ shape.owned
    pub small : shape.owned < 2 ^ 64

  pub record Filled (s t : Store) (k : ℕ) (rows : List (List ℕ)) : Type 0 where
    pub shapes : t.memory.shapes ≡ s.memory.shapes
    pub many : length t.memory.contents ≡ length s.memory.contents
    pub heap : t.heap ≡ s.heap
    pub each : (j : ℕ) (bytes : List ℕ) (h : Shape) → slice_get rows j ≡ Some bytes
        → slice_get s.memory.shapes (k + j) ≡ Some h
        → (c : Content) × (slice_get t.memory.contents (k + j) ≡ Some c) × HasBegun h.owned bytes c
    pub others : (i : ℕ) → (i < k) ⊎ (k + length rows ≤ i)
        → slice_get t.memory.contents i ≡ slice_get s.memory.contents i

  pub filled : (rows : List (List ℕ)) (s : Store) (k : ℕ)
      → ((j : ℕ) (bytes : List ℕ) → slice_get rows j ≡ Some bytes → IsReady s (k + j) bytes)
      → Filled s (fill_literals ops s k rows) k rows
  filled [] s k ready = record {
    shapes = refl;
    many = refl;
    heap = refl;
    each = λ j bytes h e there. absurd cc;
    others = λ i out. refl;
  }
  filled (row ∷ rows) s k ready =
      let z : k + 0 ≡ k = omega arith in
      let r : IsReady s k row = subst (λ i. IsReady s i row) z (ready 0 row refl) in
      let t = with_bytes ops s k 0 row in
      let f = fills row s k 0 r.shape (blank_of r.shape) r.there r.has r.active (none_held ((r.shape.owned + 15) / 16))
      (replicate_length r.shape.owned (Byte 0)) (let room = r.room in omega arith) r.small in
      let next : (j : ℕ) → k + suc j ≡ suc k + j = λ j. omega arith in
      let rest = filled rows t (suc k) (λ j bytes e.
      let q = subst (λ i. IsReady s i bytes) (next j) (ready (suc j) bytes e) in
      record {
        shape = q.shape;
        there = ap (λ hs. slice_get hs (suc k + j)) f.shapes ∙ q.there;
        has = f.others (suc k + j) (λ same. absurd (omega (arith, same))) ∙ q.has;
        active = q.active;
        room = q.room;
        small = q.small;
      }) in
      record {
        shapes = rest.shapes ∙ f.shapes;
        many = rest.many ∙ f.many;
        heap = rest.heap ∙ f.heap;
        each = λ j bytes h e there. one r f rest j bytes h e there;
        others = λ i out. rest.others i (elim out [
          | inl low ↦ inl (omega (arith, low))
          | inr high ↦ inr (omega (arith, high))
        ]) ∙ f.others i (λ e. elim out as (λ _. ⊥) [
          | inl low ↦ omega (arith, low, e)
          | inr high ↦ omega (arith, high, e)
        ]);
      }
    where
      one : (r : IsReady s k row) → Fills s (with_bytes ops s k 0 row) k 0 row (blank_of r.shape)
          → Filled (with_bytes ops s k 0 row) (fill_literals ops (with_bytes ops s k 0 row) (suc k) rows) (suc k) rows
          → (j : ℕ) (bytes : List ℕ) (h : Shape) → slice_get (row ∷ rows) j ≡ Some bytes
          → slice_get s.memory.shapes (k + j) ≡ Some h
          → (c : Content) × (slice_get (fill_literals ops (with_bytes ops s k 0 row) (suc k) rows).memory.contents
          (k + j) ≡ Some c) × HasBegun h.owned bytes c
      one r f rest zero bytes h e there =
          let z : k + 0 ≡ k = omega arith in
          let same : row ≡ bytes = cc in
          let shape : r.shape ≡ h = some_same (slice_get s.memory.shapes k) r.shape h r.there
          (ap (slice_get s.memory.shapes) (sym z) ∙ there) in (
            f.content,
            ap (slice_get (fill_literals ops (with_bytes ops s k 0 row) (suc k) rows).memory.contents) z
                ∙ rest.others k (inl (omega arith)) ∙ f.there,
            subst (λ bs. HasBegun h.owned bs f.content) same
                (subst (λ (g : Shape). HasBegun g.owned row f.content) shape
                (begun_over r.shape.owned row f.content r.room f.over)),
          )
      one r f rest (suc j) bytes h e there =
          let z : k + suc j ≡ suc k + j = omega arith in
          let g = rest.each j bytes h e (ap (λ hs. slice_get hs (suc k + j)) f.shapes
          ∙ ap (slice_get s.memory.shapes) (sym z) ∙ there) in
          (g.0, ap (slice_get (fill_literals ops (with_bytes ops s k 0 row) (suc k) rows).memory.contents) z ∙ g.1, g.2)

  pub globals_as_rows : (gs : List Global) (s : Store) (k : ℕ)
      → fill_globals ops s k gs ≡ fill_literals ops s k (map (all_bytes ops) gs)
  globals_as_rows [] s k = refl
  globals_as_rows (g ∷ gs) s k = globals_as_rows gs (with_bytes ops s k 0 (all_bytes ops g)) (suc k)

  -- ---- objects that were added

  abbrev pub AreBlank : Store → Type 0
  AreBlank s = s.memory.contents ≡ map blank_of s.memory.shapes

  added_blank : (s : Store) (n base : ℕ) → AreBlank s → AreBlank (with_object (placed_plan m) s n base)
  added_blank s n base e =
      ap (λ cs. cs ++ blank mode (owned n) ∷ []) e
      ∙ sym (map_join blank_of s.memory.shapes
      (record { length = n; owned = owned n; life = Active; base = base } ∷ []))

  pub globals_blank : (gs : List Global) (s : Store) (k : ℕ) → AreBlank s → AreBlank (add_globals ops s k gs)
  unfolding operations
  globals_blank [] s k e = e
  globals_blank (g ∷ gs) s k e =
      globals_blank gs (with_object (placed_plan m) s g.length ((placed_plan m).global k)) (suc k)
      (added_blank s g.length ((placed_plan m).global k) e)

  pub literals_blank : (ls : List (List ℕ)) (s : Store) (k : ℕ) → AreBlank s → AreBlank (add_literals ops s k ls)
  unfolding operations
  literals_blank [] s k e = e
  literals_blank (l ∷ ls) s k e =
      literals_blank ls (with_object (placed_plan m) s (length l) ((placed_plan m).literal k)) (suc k)
      (added_blank s (length l) ((placed_plan m).literal k) e)

  pub blank_at : (s : Store) → AreBlank s → (k : ℕ) (h : Shape) → slice_get s.memory.shapes k ≡ Some h
      → slice_get s.memory.contents k ≡ Some (blank_of h)
  blank_at s e k h there =
      ap (λ cs. slice_get cs k) e ∙ map_get blank_of s.memory.shapes k h there
