-- The objects with which a program begins, by the meaning.
use Rattle.std.proofs.Common.{◌≡◌, ℕ, zero, suc, List, [], ◌∷◌, ◌++◌, length, map, Option, Some, None, Result, Ok, Err}
use Rattle.std.proofs.Common.{refl, sym, ap, ◌∙◌}
use Rattle.std.specs.Prelude.{slice_set}
use Rattle.obj_mem.specs.declared.map.Map.{Map}
use Rattle.obj_mem.specs.declared.ending.Fault.{Fault}
use Rattle.obj_mem.specs.Values.{Value, Int}
use Rattle.obj_mem.specs.Objects.{Shape, Content, Memory, Mode, Placed, no_objects}
use Rattle.obj_mem.specs.Access.{Spot, reach, onward, at_place, store_access, stored_piece, store}
use Rattle.obj_mem.specs.Table.{addresses_of}
use Rattle.cheri_c_sem.specs.Calls.{start, add_globals, add_literals, memory_or, written, with_bytes, with_links}
use Rattle.cheri_c_sem.specs.Calls.{all_bytes, fill_globals, link_globals, fill_literals}
use Rattle.cheri_c_sem.specs.Modes.{Store, stored, operations, placed_plan}
use Rattle.cheri_c_sem.specs.Tree.{Global, Starting, Program}
use Rattle.placement.proofs.Good.{WhereOk}
use Rattle.placement.proofs.Stored.{padded, living}
use Rattle.placement.proofs.Objects.{shapes_from, length_of, globals_added, literals_added}

-- ---- a store leaves the objects

record Leaves (m x : Memory) : Type 0 where
  shapes : x.shapes ≡ m.shapes
  as_many : length x.contents ≡ length m.contents

set_length : {A : Type 0} (xs : List A) (i : ℕ) (x : A) → length (slice_set xs i x) ≡ length xs
set_length [] i x = refl
set_length (y ∷ xs) zero x = refl
set_length (y ∷ xs) (suc i) x = ap suc (set_length xs i x)

placed_ok : {A : Type 0} (Q : A → Type 0) (d : Mode) (m : Memory) (p : Spot) (n : ℕ) (a : Option Shape)
    (b : Option Content) (f : Content → Result A Fault) → ((c : Content) → WhereOk Q (f c))
    → WhereOk Q (at_place d m p n a b f)
placed_ok Q d m p n None b f h = tt
placed_ok Q d m p n (Some x) None f h = tt
placed_ok Q d m p n (Some x) (Some c) f h = living Q x.life _ (padded Q _ _ (h c))

reached_ok : {A B : Type 0} (Q : B → Type 0) (x : Result A Fault) (f : A → Result B Fault)
    → ((v : A) → WhereOk Q (f v)) → WhereOk Q (onward x f)
reached_ok Q (Ok v) f h = h v
reached_ok Q (Err e) f h = tt

store_leaves : (d : Mode) (m : Memory) (p : Value) (n : ℕ) (v : Value) → WhereOk (Leaves m) (store d m p n v)
unfolding store
store_leaves d m p n v = reached_ok (Leaves m) (reach (store_access n (stored_piece n v)) p) _ (λ s.
    placed_ok (Leaves m) d m s n _ _ _
    (λ c. record { shapes = refl; as_many = set_length m.contents s.object _ }))

-- ---- what is written at the start leaves them, and the heap

record Kept (s t : Store) : Type 0 where
  shapes : t.memory.shapes ≡ s.memory.shapes
  as_many : length t.memory.contents ≡ length s.memory.contents
  heap : t.heap ≡ s.heap

same : (s : Store) → Kept s s
same s = record { shapes = refl; as_many = refl; heap = refl }

twice : (s t u : Store) → Kept s t → Kept t u → Kept s u
twice s t u f g = record {
  shapes = g.shapes ∙ f.shapes;
  as_many = g.as_many ∙ f.as_many;
  heap = g.heap ∙ f.heap;
}

module _ (m : Map) where
  by_answer : (s : Store) (r : Result Memory Fault) → WhereOk (Leaves s.memory) r
      → Kept s (memory_or (operations (placed_plan m)) s (stored s r))
  by_answer s (Ok x) l = record { shapes = l.shapes; as_many = l.as_many; heap = refl }
  by_answer s (Err e) l = same s

  one : (s : Store) (object at bytes : ℕ) (v : Value)
      → Kept s (written (operations (placed_plan m)) s object at bytes v)
  unfolding operations
  one s object at bytes v = by_answer s (store (Placed (addresses_of m)) s.memory _ bytes v)
      (store_leaves (Placed (addresses_of m)) s.memory _ bytes v)

  bytes_kept : (bs : List ℕ) (s : Store) (object at : ℕ)
      → Kept s (with_bytes (operations (placed_plan m)) s object at bs)
  bytes_kept [] s object at = same s
  bytes_kept (b ∷ bs) s object at =
      let t = written (operations (placed_plan m)) s object at 1 (Int b) in
      twice s t _ (one s object at 1 (Int b)) (bytes_kept bs t object (suc at))

  links_kept : (ls : List Starting) (s : Store) (object : ℕ)
      → Kept s (with_links (operations (placed_plan m)) s object ls)
  links_kept [] s object = same s
  links_kept (l ∷ ls) s object =
      let t = written (operations (placed_plan m)) s object l.at 16 l.value in
      twice s t _ (one s object l.at 16 l.value) (links_kept ls t object)

  globals_filled : (gs : List Global) (s : Store) (object : ℕ)
      → Kept s (fill_globals (operations (placed_plan m)) s object gs)
  globals_filled [] s object = same s
  globals_filled (g ∷ gs) s object =
      let t = with_bytes (operations (placed_plan m)) s object 0 (all_bytes (operations (placed_plan m)) g) in
      twice s t _ (bytes_kept (all_bytes (operations (placed_plan m)) g) s object 0) (globals_filled gs t (suc object))

  globals_linked : (gs : List Global) (s : Store) (object : ℕ)
      → Kept s (link_globals (operations (placed_plan m)) s object gs)
  globals_linked [] s object = same s
  globals_linked (g ∷ gs) s object =
      let t = with_links (operations (placed_plan m)) s object g.links in
      twice s t _ (links_kept g.links s object) (globals_linked gs t (suc object))

  literals_filled : (ls : List (List ℕ)) (s : Store) (object : ℕ)
      → Kept s (fill_literals (operations (placed_plan m)) s object ls)
  literals_filled [] s object = same s
  literals_filled (bs ∷ ls) s object =
      let t = with_bytes (operations (placed_plan m)) s object 0 bs in
      twice s t _ (bytes_kept bs s object 0) (literals_filled ls t (suc object))

  -- ---- the start

  pub record Begun (p : Program) (s : Store) : Type 0 where
    pub shapes : s.memory.shapes ≡ shapes_from (placed_plan m).global 0 (map length_of p.globals) ++ shapes_from
        (placed_plan m).literal 0 (map length p.literals)
    pub as_many : length s.memory.contents ≡ length s.memory.shapes
    pub heap : s.heap ≡ m.heap.0

  abbrev empty : Store
  empty = record { memory = no_objects; heap = m.heap.0 }

  pub begun : (p : Program) → Begun p (start (operations (placed_plan m)) p)
  unfolding start operations
  begun p =
      let s = add_globals (operations (placed_plan m)) empty 0 p.globals in
      let t = add_literals (operations (placed_plan m)) s 0 p.literals in
      let g = globals_added (placed_plan m) p.globals empty 0 in
      let l = literals_added (placed_plan m) p.literals s 0 in
      let u = fill_globals (operations (placed_plan m)) t 0 p.globals in
      let v = fill_literals (operations (placed_plan m)) u (length p.globals) p.literals in
      let k = twice t u _ (globals_filled p.globals t 0)
      (twice u v _ (literals_filled p.literals u (length p.globals)) (globals_linked p.globals v 0)) in
      record {
        shapes = k.shapes ∙ l.shapes
            ∙ ap (λ x. x ++ shapes_from (placed_plan m).literal 0 (map length p.literals)) g.shapes;
        as_many = k.as_many ∙ l.as_many (g.as_many refl) ∙ sym (ap length k.shapes);
        heap = k.heap ∙ l.heap ∙ g.heap;
      }
