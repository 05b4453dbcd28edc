-- At each moment of a run under a legal map the objects stand apart.
use Rattle.std.proofs.Common.{◌≡◌, ℕ, zero, suc, ◌+◌, ◌-◌, ◌<◌, ◌≤◌, Bool, true, false, nat_lt, List, [], ◌∷◌, ◌++◌}
use Rattle.std.proofs.Common.{◌⊎◌, length, map, Option, Some, None, Result, Ok, Err, refl, sym, ap, ◌∙◌, subst, arith}
use Rattle.std.proofs.Common.{inl, inr}
use Rattle.std.proofs.Common.{append_assoc}
use Rattle.std.specs.Prelude.{slice_get, slice_set, slice_index_or, if◌then◌else◌}
use Rattle.std.specs.List.{filter}
use Rattle.std.proofs.lemmas.Bool.Decides.{nat_tests}
use Rattle.std.proofs.lemmas.List.{append-nil}
use Rattle.ck_base.specs.World.{nothing_done}
use Rattle.cap_concentrate.specs.Rounding.{owned, rounded_up}
use Rattle.cap_concentrate.proofs.Least.{rounded_up_ge}
use Rattle.cap_ops.specs.Permissions.{data_permissions}
use Rattle.typing_laws.proofs.Sound.{well_typed}
use Rattle.c_tree.specs.Types.{bare}
use Rattle.c_tree.specs.Views.{IsOrdered}
use Rattle.c_tree.specs.WellTyped.{WellTyped, outside}
use Rattle.c_tree.specs.declared.typed.FunDef.{FunDef}
use Rattle.c_tree.specs.declared.typed.Typed.{Typed}
use Rattle.c_tree.specs.declared.typed.VarDef.{VarDef}
use Rattle.obj_mem.specs.Access.{store, copy_unit}
use Rattle.obj_mem.specs.Agreement.{IsNotReturned}
use Rattle.obj_mem.specs.Heap.{allocation_alignment, Allocation, allocated, refused}
use Rattle.obj_mem.specs.Legal.{ObjectNeed, Needs, owned_of, AreApart, IsApartFrom, AllApart, placed_at, AreAligned}
use Rattle.obj_mem.specs.Legal.{objects_of, parts_of, IsFrame, AreFrames, IsLegal}
use Rattle.obj_mem.specs.Needs.{local_need, is_object, function_needs, needs_of, weight_in}
use Rattle.obj_mem.specs.Objects.{Life, Active, Inactive, Returned, Shape, Memory, Placed, with_life_by, end}
use Rattle.obj_mem.specs.Table.{addresses_of}
use Rattle.obj_mem.specs.Values.{Value, Addresses}
use Rattle.obj_mem.specs.declared.ending.Fault.{Fault}
use Rattle.obj_mem.specs.declared.ending.UnitFault.{UnitFault}
use Rattle.obj_mem.specs.declared.map.Frame.{Frame}
use Rattle.obj_mem.specs.declared.map.Map.{Map}
use Rattle.cheri_c_sem.specs.Meaning.{further}
use Rattle.cheri_c_sem.specs.Calls.{add_locals, end_locals, add_globals, add_literals, memory_or, written, with_bytes}
use Rattle.cheri_c_sem.specs.Calls.{with_links}
use Rattle.cheri_c_sem.specs.Calls.{all_bytes, fill_globals, link_globals, fill_literals, start}
use Rattle.cheri_c_sem.specs.Modes.{Store, with_memory, stored, copied, taken, with_local, operations}
use Rattle.cheri_c_sem.specs.Modes.{slot_offset, local_offset, placed_plan}
use Rattle.cheri_c_sem.specs.Operations.{Operations}
use Rattle.cheri_c_sem.specs.Programs.{lengths_of, function_tree, function_trees, program_tree}
use Rattle.cheri_c_sem.specs.Tree.{Fun, Starting, Global, Program}
use Rattle.mean_steps.specs.Machine.{Caller, Moment, first_moment}
use Rattle.placement.specs.Memories.{local_at}
use Rattle.placement.specs.Trees.{FunctionFit, FunctionsFit}
use Rattle.placement.proofs.Added.{last_is}
use Rattle.placement.proofs.Ended.{Ended, ends}
use Rattle.placement.proofs.FitStatements.{parameters_fit, statement_fit}
use Rattle.placement.proofs.Entered.{room_for}
use Rattle.placement.proofs.Good.{WhereOk}
use Rattle.placement.proofs.Lawful.{length_needed}
use Rattle.placement.proofs.Lists.{map_get, map_join, map_length, below_get}
use Rattle.placement.proofs.Objects.{shapes_from, length_of, globals_added, literals_added}
use Rattle.placement.proofs.Shapes.{swap, get_set}
use Rattle.placement.proofs.Stored.{WhereUnitOk, store_shapes, copy_shapes}
use Rattle.placement.proofs.TypedFits.{globals_same_lengths, literals_lengths, frames_fit}
use Rattle.placed_objects.specs.Calls.{Call, calls_from, functions_of}
use Rattle.placed_objects.specs.Extents.{extent_of, IsLocalOf, IsWithin, IsAlive, ExtentsAreApart, ExtentsStayApart}
use Rattle.placed_objects.proofs.Moments.{locals_in, Keeps, run_kept}
use Rattle.placed_objects.proofs.Places.{Extent, get_below, Place, old, new, place_of, Serves, Stand}
use Rattle.placed_objects.proofs.Places.{allocated as more_allocated}
use Rattle.placed_objects.proofs.Places.{locals_at, entered, left, frames_of, alive_apart, alive_off}

-- ---- extents of objects

abbrev view : Store → List Shape × ℕ
view s = (s.memory.shapes, s.heap)

set_extents : (t : List Shape) (k : ℕ) (g h : Shape) → slice_get t k ≡ Some g → extent_of h ≡ extent_of g
    → map extent_of (slice_set t k h) ≡ map extent_of t
set_extents [] k g h e q = absurd cc
set_extents (x ∷ t) zero g h e q =
    let r : x ≡ g = cc in ap (λ v. v ∷ map extent_of t) (q ∙ ap extent_of (sym r))
set_extents (x ∷ t) (suc k) g h e q = ap (λ v. extent_of x ∷ v) (set_extents t k g h e q)

life_extents : (l : Life) (t : List Shape) (k : ℕ) (o : Option Shape) → slice_get t k ≡ o
    → map extent_of (with_life_by l t k o) ≡ map extent_of t
life_extents l t k None e = refl
life_extents l t k (Some g) e = set_extents t k g (record g { life = l }) e refl

stored_view : (s s' : Store) (r : Result Memory Fault) → WhereOk (λ x. x.shapes ≡ s.memory.shapes) r
    → stored s r ≡ Ok s' → view s' ≡ view s
stored_view s s' (Ok m) h e =
    let q : with_memory s m ≡ s' = cc in
    subst (λ v. view v ≡ view s) q (ap (λ t. (t, s.heap)) h)
stored_view s s' (Err f) h e = absurd cc

copied_view : (s s' : Store) (r : Result Memory UnitFault) → WhereUnitOk (λ x. x.shapes ≡ s.memory.shapes) r
    → copied s r ≡ Ok s' → view s' ≡ view s
copied_view s s' (Ok m) h e =
    let q : with_memory s m ≡ s' = cc in
    subst (λ v. view v ≡ view s) q (ap (λ t. (t, s.heap)) h)
copied_view s s' (Err f) h e = absurd cc

-- ---- lives

-- of objects with bytes only locals of functions that have returned are not alive
abbrev Lives : Map → List Shape → List Call → Type 0
Lives m t calls = (k : ℕ) (s : Shape) → slice_get t k ≡ Some s → IsNotReturned s.life → 0 < s.owned
    → IsAlive m calls k (extent_of s)

-- a local of a call in progress comes to life
active_lives : (m : Map) (t : List Shape) (calls : List Call) (k : ℕ) (o : Option Shape) → slice_get t k ≡ o
    → IsLocalOf calls k → Lives m t calls → Lives m (with_life_by Active t k o) calls
active_lives m t calls k None is local h i s e x p = h i s e x p
active_lives m t calls k (Some g) is local h i s e x p = go (get_set t k g (record g { life = Active }) is i s e)
  where
    go : ((i ≡ k) × (s ≡ record g { life = Active })) ⊎ ((i ≡ k → ⊥) × (slice_get t i ≡ Some s))
        → IsAlive m calls i (extent_of s)
    go (inl q) = λ w. subst (IsLocalOf calls) (sym q.0) local
    go (inr q) = h i s q.1 x p

-- objects more that are alive
more_lives : (m : Map) (t more : List Shape) (calls : List Call)
    → ((i : ℕ) (s : Shape) → slice_get more i ≡ Some s → 0 < s.owned → IsAlive m calls (length t + i) (extent_of s))
    → Lives m t calls → Lives m (t ++ more) calls
more_lives m t more calls f h k s e x p = go (place_of t more k s e)
  where
    go : Place t more k s → IsAlive m calls k (extent_of s)
    go (old q) = h k s q x p
    go (new i is q) = subst (λ j. IsAlive m calls j (extent_of s)) (sym is) (f i s q p)

-- the locals of the newest call end
ended_lives : (m : Map) (t u : List Shape) (c : Call) (calls : List Call)
    → Ended c.first (length c.function.objects) t u → Lives m t (c ∷ calls) → Lives m u calls
ended_lives m t u c calls e h k s is x p =
    let b = e.back k s is in
    let g = b.0 in
    let from = b.2 in
    let own = from.owned in
    let base = from.base in
    λ w. let lower = w.0 in let upper = w.1 in
    go (b.3 x) (h k g b.1 (from.stayed x) (omega (arith, own, p)) (
      omega (arith, lower, base),
      omega (arith, upper, base, own),
    ))
  where
    go : (k < c.first) ⊎ (c.first + length c.function.objects ≤ k) → IsLocalOf (c ∷ calls) k → IsLocalOf calls k
    go (inl l) (inl y) = let a = y.0 in absurd (omega (arith, l, a))
    go (inr l) (inl y) = let a = y.1 in absurd (omega (arith, l, a))
    go l (inr y) = y

-- ---- a run

not_below : (a b : ℕ) → nat_lt a b ≡ false → b ≤ a
not_below a b e = grind (arith, nat_tests)

module _ (funs : List Fun) (m : Map) where
  abbrev a : Addresses
  a = addresses_of m

  abbrev ops : Operations Store
  ops = operations (placed_plan m)

  -- the objects stand, each function has a caller, and what lives is alive
  record Holds_at (v : List Shape × ℕ) (first frame : ℕ) (gs : List Fun) (cs : List Caller) : Type 0 where
    stand : Stand funs m (map extent_of v.0) v.1 frame (calls_from gs first frame cs)
    callers : length gs ≡ length cs
    lives : Lives m v.0 (calls_from gs first frame cs)

  local_number : (gs : List Fun) (cs : List Caller) (first frame j : ℕ) → length gs ≡ length cs → j < locals_in gs
      → IsLocalOf (calls_from gs first frame cs) (first + j)
  local_number [] cs first frame j e l = absurd (omega arith)
  local_number (g ∷ gs) [] first frame j e l = absurd (omega arith)
  local_number (g ∷ gs) (c ∷ cs) first frame j e l = inl (omega arith, omega arith)

  store_view : (s s' : Store) (to : Value) (k : ℕ) (x : Value) → ops.store s to k x ≡ Ok s' → view s' ≡ view s
  unfolding operations
  store_view s s' to k x e = stored_view s s' (store (Placed a) s.memory to k x)
      (store_shapes (Placed a) s.memory to k x) e

  copy_view : (s s' : Store) (from to : Value) (n : ℕ) → ops.copy_unit s from to n ≡ Ok s' → view s' ≡ view s
  unfolding operations
  copy_view s s' from to n e = copied_view s s' (copy_unit (Placed a) s.memory from to n)
      (copy_shapes (Placed a) s.memory from to n) e

  note_view : (s : Store) (v : Value) (own : ℕ) → view (ops.note_member s v own) ≡ view s
  unfolding operations
  note_view s v own = refl

  zeros : (s : Store) (j first frame : ℕ) (gs : List Fun) (cs : List Caller) → j < locals_in gs
      → Holds_at (view s) first frame gs cs → Holds_at (view (ops.zero s (first + j))) first frame gs cs
  unfolding operations
  zeros s j first frame gs cs l h =
      let t = s.memory.shapes in
      let calls = calls_from gs first frame cs in
      record {
        stand = subst (λ es. Stand funs m es s.heap frame calls)
            (sym (life_extents Active t (first + j) (slice_get t (first + j)) refl)) h.stand;
        callers = h.callers;
        lives = active_lives m t calls (first + j) (slice_get t (first + j)) refl
            (local_number gs cs first frame j h.callers l) h.lives;
      }

  leave_view : (s : Store) (k : ℕ) → view (ops.leave s k) ≡ view s
  unfolding operations
  leave_view s k = refl

  end_extents : (ls : List ℕ) (s : Store) (k : ℕ)
      → map extent_of (end_locals ops s k ls).memory.shapes ≡ map extent_of s.memory.shapes
  unfolding operations
  end_extents [] s k = refl
  end_extents (l ∷ ls) s k =
      end_extents ls (with_memory s (end s.memory k)) (suc k)
      ∙ life_extents Returned s.memory.shapes k (slice_get s.memory.shapes k) refl

  closes : (s : Store) (first frame : ℕ) (g : Fun) (gs : List Fun) (c : Caller) (cs : List Caller)
      → Holds_at (view s) first frame (g ∷ gs) (c ∷ cs)
      → Holds_at (view (end_locals ops s first g.objects)) c.first c.frame gs cs
  closes s first frame g gs c cs h =
      let call : Call = record { function = g; first = first; frame = frame; above = c.frame } in
      let calls = calls_from gs c.first c.frame cs in
      let t = end_locals ops s first g.objects in
      let e = ends (placed_plan m) g.objects s first in
      let n = h.callers in
      record {
        stand = subst (λ es. Stand funs m es t.heap c.frame calls) (sym (end_extents g.objects s first))
            (subst (λ k. Stand funs m (map extent_of s.memory.shapes) k c.frame calls) (sym e.heap)
            (left funs m (map extent_of s.memory.shapes) s.heap frame call calls h.stand));
        callers = omega (arith, n);
        lives = ended_lives m s.memory.shapes t.memory.shapes call calls e.shapes h.lives;
      }

  closes_alone : (s : Store) (first frame : ℕ) (g : Fun) (gs : List Fun) → Holds_at (view s) first frame (g ∷ gs) []
      → Holds_at (view (end_locals ops s first g.objects)) first frame gs []
  closes_alone s first frame g gs h = let n = h.callers in absurd (omega (arith, n))

  -- an allocation
  module _ (text_heap : AreApart m.text m.heap) (table_heap : AreApart m.table m.heap)
      (heap_stack : AreApart m.heap m.stack) where
    allocates : (s : Store) (r : Value × Store) (n first frame : ℕ) (gs : List Fun) (cs : List Caller)
        → ops.allocate s n ≡ Ok r → Holds_at (view s) first frame gs cs → Holds_at (view r.1) first frame gs cs
    unfolding operations
    allocates s r n first frame gs cs e h =
        go (nat_lt (a.heap_end - a.heap) n) (nat_lt a.heap_end (start_at + owned n)) refl e
      where
        start_at : ℕ
        start_at = rounded_up s.heap (allocation_alignment n)

        from : s.heap ≤ start_at
        from =
            let al : 16 ≤ allocation_alignment n = omega arith in
            rounded_up_ge s.heap (allocation_alignment n) (omega (arith, al))

        Q : Value × Store → Type 0
        Q v = Holds_at (view v.1) first frame gs cs

        off_stack : m.heap.0 ≤ s.heap → start_at + owned n ≤ m.heap.0 + m.heap.1 → 0 < owned n
            → IsWithin (start_at, owned n) m.stack → ⊥
        off_stack hf to p w = by heap_stack
          where
            by : AreApart m.heap m.stack → ⊥
            by (inl x) = let lower = w.0 in absurd (omega (arith, x, lower, to, p))
            by (inr x) = let upper = w.1 in let f = from in absurd (omega (arith, x, upper, f, hf, p))

        fresh : Shape
        fresh = record { length = n; owned = owned n; life = Active; base = start_at }

        alive : m.heap.0 ≤ s.heap → start_at + owned n ≤ m.heap.0 + m.heap.1 → (i : ℕ) (x : Shape)
            → slice_get (fresh ∷ []) i ≡ Some x → 0 < x.owned
            → IsAlive m (calls_from gs first frame cs) (length s.memory.shapes + i) (extent_of x)
        alive hf to zero x q p =
            let is : fresh ≡ x = cc in
            let own : 0 < owned n = subst (λ (z : Shape). 0 < z.owned) (sym is) p in
            λ w. absurd (off_stack hf to own (subst (λ (z : Shape). IsWithin (extent_of z) m.stack) (sym is) w))
        alive hf to (suc i) x q p = absurd cc

        go : (b c : Bool) → nat_lt a.heap_end (start_at + owned n) ≡ c
            → taken (Ok (if b then refused s.memory s.heap else if c then refused s.memory s.heap
            else allocated (Placed a) s.memory n start_at (start_at + owned n))) ≡ Ok r
            → Q r
        go true c q f = let w : ((refused s.memory s.heap).pointer, s) ≡ r = cc in subst Q w h
        go false true q f = let w : ((refused s.memory s.heap).pointer, s) ≡ r = cc in subst Q w h
        go false false q f =
            let x : Allocation = allocated (Placed a) s.memory n start_at (start_at + owned n) in
            let y : Store = record { memory = x.memory; heap = x.heap } in
            let w : (x.pointer, y) ≡ r = cc in
            let calls = calls_from gs first frame cs in
            let to = not_below a.heap_end (start_at + owned n) q in
            let grown = more_allocated funs m text_heap table_heap heap_stack (map extent_of s.memory.shapes) s.heap
            frame calls start_at (owned n) h.stand from to in
            subst Q w (record {
              stand = subst (λ es. Stand funs m es (start_at + owned n) frame calls)
                  (sym (map_join extent_of s.memory.shapes (fresh ∷ []))) grown;
              callers = h.callers;
              lives = more_lives m s.memory.shapes (fresh ∷ []) calls (alive h.stand.heap_from to) h.lives;
            })

  -- the locals of a call
  abbrev local_shape : ℕ → ℕ → Shape
  local_shape l base = record { length = l; owned = owned l; life = Inactive; base = base }

  local_shapes : Frame → (at j : ℕ) → List ℕ → List Shape
  local_shapes f at j [] = []
  local_shapes f at j (l ∷ ls) = local_shape l (at + local_at f j) ∷ local_shapes f at (suc j) ls

  shapes_extents : (f : Frame) (at j : ℕ) (ls : List ℕ)
      → map extent_of (local_shapes f at j ls) ≡ locals_at funs m f at j ls
  unfolding local_shapes
  shapes_extents f at j [] = refl
  shapes_extents f at j (l ∷ ls) = ap (λ es. (at + local_at f j, owned l) ∷ es) (shapes_extents f at (suc j) ls)

  shapes_count : (f : Frame) (at j : ℕ) (ls : List ℕ) → length (local_shapes f at j ls) ≡ length ls
  unfolding local_shapes
  shapes_count f at j [] = refl
  shapes_count f at j (l ∷ ls) = ap suc (shapes_count f at (suc j) ls)

  set_last : (t : List Shape) (g h : Shape) → slice_set (t ++ g ∷ []) (length t) h ≡ t ++ h ∷ []
  set_last [] g h = refl
  set_last (x ∷ t) g h = ap (λ v. x ∷ v) (set_last t g h)

  local_view : (s : Store) (l base : ℕ)
      → (with_local (placed_plan m) s l base).memory.shapes ≡ s.memory.shapes ++ local_shape l base ∷ []
  local_view s l base =
      let t = s.memory.shapes in
      let h : Shape = record { length = l; owned = owned l; life = Active; base = base } in
      ap (λ o. with_life_by Inactive (t ++ h ∷ []) (length t) o) (last_is t h) ∙ set_last t h (local_shape l base)

  locals_view : (f : Frame) (i at : ℕ) → slice_get m.frames i ≡ Some f → (ls : List ℕ) (j : ℕ) (s : Store)
      → view (add_locals ops s at i j ls) ≡ (s.memory.shapes ++ local_shapes f at j ls, s.heap)
  unfolding operations local_shapes
  locals_view f i at is [] j s = ap (λ t. (t, s.heap)) (sym (append-nil s.memory.shapes))
  locals_view f i at is (l ∷ ls) j s =
      let base : ℕ = at + local_offset (slice_get m.frames i) j in
      let t : Store = with_local (placed_plan m) s l base in
      let base_is : base ≡ at + local_at f j = ap (λ o. at + local_offset o j) is in
      let first = local_view s l base ∙ ap (λ b. s.memory.shapes ++ local_shape l b ∷ []) base_is in
      locals_view f i at is ls (suc j) t
      ∙ ap (λ x. (x ++ local_shapes f at (suc j) ls, s.heap)) first
      ∙ ap (λ x. (x, s.heap)) (append_assoc s.memory.shapes (local_shape l (at + local_at f j) ∷ [])
      (local_shapes f at (suc j) ls))

  module _ (serves : (i : ℕ) (g : Fun) (f : Frame) → slice_get funs i ≡ Some g → slice_get m.frames i ≡ Some f
      → Serves g.objects f) where
    opens : (s : Store) (i at first frame : ℕ) (g : Fun) (vars : List (Option Value)) (gs : List Fun)
        (cs : List Caller) → slice_get funs i ≡ Some g → ops.enter i frame ≡ Some at
        → Holds_at (view s) first frame gs cs
        → Holds_at (view (add_locals ops s at i 0 g.objects)) (ops.count s) at (g ∷ gs)
        (record { vars = vars; first = first; frame = frame } ∷ cs)
    unfolding operations
    opens s i at first frame g vars gs cs is e h =
        let r = room_for m i frame at e in
        let t = s.memory.shapes in
        let calls = calls_from gs first frame cs in
        let more = local_shapes r.it at 0 g.objects in
        let long : length (map extent_of t) ≡ length t = map_length extent_of t in
        let call : Call = record { function = g; first = length t; frame = at; above = frame } in
        let joined : map extent_of (t ++ more) ≡ map extent_of t ++ locals_at funs m r.it at 0 g.objects =
        map_join extent_of t more ∙ ap (λ es. map extent_of t ++ es) (shapes_extents r.it at 0 g.objects) in
        let stand = subst (λ n. Stand funs m (map extent_of t ++ locals_at funs m r.it at 0 g.objects) s.heap at
        (record { function = g; first = n; frame = at; above = frame } ∷ calls)) long
        (entered funs m serves (map extent_of t) s.heap frame calls i at g is e r h.stand) in
        let count = shapes_count r.it at 0 g.objects in
        let new_alive : (k : ℕ) (x : Shape) → slice_get more k ≡ Some x → 0 < x.owned
        → IsAlive m (call ∷ calls) (length t + k) (extent_of x) =
        λ k x q p w. let b = get_below more k x q in inl (omega arith, omega (arith, b, count)) in
        let all : Holds_at (t ++ more, s.heap) (length t) at (g ∷ gs)
        (record { vars = vars; first = first; frame = frame } ∷ cs) =
        record {
          stand = subst (λ es. Stand funs m es s.heap at (call ∷ calls)) (sym joined) stand;
          callers = ap suc h.callers;
          lives = more_lives m t more (call ∷ calls) new_alive (λ k x q y p w. inr (h.lives k x q y p w));
        } in
        subst (λ v. Holds_at v (length t) at (g ∷ gs) (record { vars = vars; first = first; frame = frame } ∷ cs))
        (sym (locals_view r.it i at r.is g.objects 0 s)) all

    keeps : AreApart m.text m.heap → AreApart m.table m.heap → AreApart m.heap m.stack → Keeps ops funs view Holds_at
    keeps text_heap table_heap heap_stack = record {
      stores = store_view;
      copies = copy_view;
      notes = note_view;
      zeros = zeros;
      leaves = leave_view;
      allocates = λ s r n first frame gs cs e h. allocates text_heap table_heap heap_stack s r n first frame gs cs e h;
      opens = opens;
      closes = closes;
      closes_alone = closes_alone;
    }

  -- ---- the start

  abbrev place : Store → (object at : ℕ) → Value
  place s object at = further (ops.whole s object data_permissions) at

  written_view : (s : Store) (object at n : ℕ) (v : Value) → view (written ops s object at n v) ≡ view s
  written_view s object at n v = go (ops.store s (place s object at) n v) refl
    where
      go : (r : Result Store Fault) → ops.store s (place s object at) n v ≡ r → view (memory_or ops s r) ≡ view s
      go (Ok t) e = store_view s t (place s object at) n v e
      go (Err f) e = refl

  bytes_view : (bs : List ℕ) (s : Store) (object at : ℕ) → view (with_bytes ops s object at bs) ≡ view s
  bytes_view [] s object at = refl
  bytes_view (b ∷ bs) s object at = bytes_view bs _ object (suc at) ∙ written_view s object at 1 _

  links_view : (ls : List Starting) (s : Store) (object : ℕ) → view (with_links ops s object ls) ≡ view s
  links_view [] s object = refl
  links_view (l ∷ ls) s object = links_view ls _ object ∙ written_view s object l.at 16 l.value

  globals_filled : (gs : List Global) (s : Store) (k : ℕ) → view (fill_globals ops s k gs) ≡ view s
  globals_filled [] s k = refl
  globals_filled (g ∷ gs) s k = globals_filled gs _ (suc k) ∙ bytes_view (all_bytes ops g) s k 0

  globals_linked : (gs : List Global) (s : Store) (k : ℕ) → view (link_globals ops s k gs) ≡ view s
  globals_linked [] s k = refl
  globals_linked (g ∷ gs) s k = globals_linked gs _ (suc k) ∙ links_view g.links s k

  literals_filled : (ls : List (List ℕ)) (s : Store) (k : ℕ) → view (fill_literals ops s k ls) ≡ view s
  literals_filled [] s k = refl
  literals_filled (bs ∷ ls) s k = literals_filled ls _ (suc k) ∙ bytes_view bs s k 0

-- the extents of objects whose bases are those of a list from a place on
extents_from : (ns : List ObjectNeed) (bs : List ℕ) (base : ℕ → ℕ) (k : ℕ)
    → ((j : ℕ) → base (k + j) ≡ slice_index_or bs j 0) → AreAligned ns bs
    → map extent_of (shapes_from base k (map length_needed ns)) ≡ placed_at ns bs
extents_from [] [] base k h al = refl
extents_from [] (b ∷ bs) base k h al = absurd al
extents_from (n ∷ ns) [] base k h al = absurd al
extents_from (n ∷ ns) (b ∷ bs) base k h al =
    let z : k + 0 ≡ k = omega arith in
    let is : base k ≡ b = ap base (sym z) ∙ h 0 in
    let rest = extents_from ns bs base (suc k) (λ j. ap base (next k j) ∙ h (suc j)) al.1 in
    ap (λ v. (v, owned n.length) ∷ map extent_of (shapes_from base (suc k) (map length_needed ns))) is ∙ ap
    (λ es. (b, owned_of n) ∷ es) rest
  where
    next : (k j : ℕ) → suc k + j ≡ k + suc j
    next k j = omega arith

module _ (pr : Program) (n : Needs) (m : Map) (legal : IsLegal n m)
    (globals_are : map length_of pr.globals ≡ map length_needed n.globals)
    (literals_are : map length pr.literals ≡ map length_needed n.literals) where
  abbrev o : Operations Store
  o = operations (placed_plan m)

  plain : (base : ℕ → ℕ) (j : ℕ) → base (0 + j) ≡ base j
  plain base j = let z : 0 + j ≡ j = omega arith in ap base z

  abbrev seen : Store → List Extent × ℕ
  seen s = (map extent_of s.memory.shapes, s.heap)

  placed_view : seen (add_literals o (add_globals o o.empty 0 pr.globals) 0 pr.literals) ≡ (objects_of n m, m.heap.0)
  unfolding operations
  placed_view =
      let d = placed_plan m in
      let g = globals_added d pr.globals o.empty 0 in
      let l = literals_added d pr.literals (add_globals o o.empty 0 pr.globals) 0 in
      let gs = shapes_from d.global 0 (map length_of pr.globals) in
      let ls = shapes_from d.literal 0 (map length pr.literals) in
      let shapes = l.shapes ∙ ap (λ v. v ++ ls) g.shapes in
      let globals : map extent_of gs ≡ placed_at n.globals m.globals =
      ap (λ v. map extent_of (shapes_from d.global 0 v)) globals_are
      ∙ extents_from n.globals m.globals d.global 0 (plain d.global) legal.globals in
      let literals : map extent_of ls ≡ placed_at n.literals m.literals =
      ap (λ v. map extent_of (shapes_from d.literal 0 v)) literals_are
      ∙ extents_from n.literals m.literals d.literal 0 (plain d.literal) legal.literals in
      ap (λ v. (v, (add_literals o (add_globals o o.empty 0 pr.globals) 0 pr.literals).heap))
      (ap (map extent_of) shapes ∙ map_join extent_of gs ls ∙ ap (λ v. v ++ map extent_of ls) globals
      ∙ ap (λ v. placed_at n.globals m.globals ++ v) literals)
      ∙ ap (λ h. (objects_of n m, h)) (l.heap ∙ g.heap)

  start_view : seen (start o pr) ≡ (objects_of n m, m.heap.0)
  unfolding start
  start_view =
      ap (λ (v : List Shape × ℕ). (map extent_of v.0, v.1)) (globals_linked pr.funs m pr.globals _ 0
      ∙ literals_filled pr.funs m pr.literals _ (length pr.globals) ∙ globals_filled pr.funs m pr.globals _ 0)
      ∙ placed_view

  apart_get : (x y : Extent) (es : List Extent) (k : ℕ) → IsApartFrom x es → slice_get es k ≡ Some y → AreApart x y
  apart_get x y [] k h e = absurd cc
  apart_get x y (z ∷ es) zero h e = let q : z ≡ y = cc in subst (AreApart x) q h.0
  apart_get x y (z ∷ es) (suc k) h e = apart_get x y es k h.1 e

  all_apart : (es : List Extent) (j k : ℕ) (x y : Extent) → AllApart es → (j ≡ k → ⊥) → slice_get es j ≡ Some x
      → slice_get es k ≡ Some y → AreApart x y
  all_apart [] j k x y h d e f = absurd cc
  all_apart (z ∷ es) zero zero x y h d e f = absurd (d refl)
  all_apart (z ∷ es) zero (suc k) x y h d e f =
      let q : z ≡ x = cc in subst (λ v. AreApart v y) q (apart_get z y es k h.0 f)
  all_apart (z ∷ es) (suc j) zero x y h d e f =
      let q : z ≡ y = cc in
      subst (λ v. AreApart x v) q (swap z.0 z.1 x.0 x.1 (apart_get z x es j h.0 e))
  all_apart (z ∷ es) (suc j) (suc k) x y h d e f = all_apart es j k x y h.1 (λ q. d (ap suc q)) e f

  apart : AllApart (parts_of n m)
  apart = legal.apart

  begins : Stand pr.funs m (objects_of n m) m.heap.0 (m.stack.0 + m.stack.1) []
  begins =
      let part = apart in
      record {
        heap_from = omega arith;
        heap_to = omega arith;
        outside = λ k e there x. record {
          text = swap m.text.0 m.text.1 e.0 e.1 (apart_get m.text e (objects_of n m) k part.0.1.1.1 there);
          table = swap m.table.0 m.table.1 e.0 e.1 (apart_get m.table e (objects_of n m) k part.1.0.1.1 there);
          stack = swap m.stack.0 m.stack.1 e.0 e.1 (apart_get m.stack e (objects_of n m) k part.1.1.1.0 there);
          rest = swap m.heap.0 m.heap.1 e.0 e.1 (apart_get m.heap e (objects_of n m) k part.1.1.0.1 there);
        };
        apart = λ j k d e p q x y z. all_apart (objects_of n m) j k d e part.1.1.1.1 x p q;
        stacked = omega arith;
      }

  no_local : (e : Extent) → AreApart m.stack e → 0 < e.1 → IsWithin e m.stack → ⊥
  no_local e (inl x) p w = let upper = w.1 in absurd (omega (arith, x, upper, p))
  no_local e (inr x) p w = let lower = w.0 in absurd (omega (arith, x, lower, p))

  first_holds : Holds_at pr.funs m (view (start o pr)) 0 (m.stack.0 + m.stack.1) [] []
  first_holds =
      let part = apart in
      let shapes = (start o pr).memory.shapes in
      record {
        stand = subst (λ v. Stand pr.funs m v.0 v.1 (m.stack.0 + m.stack.1) []) (sym start_view) begins;
        callers = refl;
        lives = λ k s e x p w. no_local (extent_of s)
            (apart_get m.stack (extent_of s) (objects_of n m) k part.1.1.1.0
            (subst (λ (v : List Extent × ℕ). slice_get v.0 k ≡ Some (extent_of s)) start_view
            (map_get extent_of shapes k s e))) p w;
      }

-- ---- frames of a typed program

counted : (p : Typed) (vs : List VarDef)
    → length (lengths_of p vs) ≡ length (map (local_need p.types) (filter is_object vs))
counted p [] = refl
counted p (v ∷ vs) = go v.simple refl (counted p vs)
  where
    go : (b : Bool) → v.simple ≡ b
        → length (lengths_of p vs) ≡ length (map (local_need p.types) (filter is_object vs))
        → length (lengths_of p (v ∷ vs)) ≡ length (map (local_need p.types) (filter is_object (v ∷ vs)))
    go true e r = rw e r
    go false e r = rw e (ap suc r)

abbrev Saves : List ℕ → Frame → Type 0
Saves lengths f = (f.saved ≤ f.size) × ((n len : ℕ) → slice_get lengths n ≡ Some len → f.saved ≤ local_at f n)

saves : (p : Typed) (vs : List VarDef) (weight : ℕ) (f : Frame)
    → IsFrame (record { locals = map (local_need p.types) (filter is_object vs); weight = weight }) f
    → Saves (lengths_of p vs) f
saves p vs weight f h = (
  h.saved,
  λ n len e.
      let c = counted p vs in
      let l = get_below (lengths_of p vs) n len e in
      let x = below_get (map (local_need p.types) (filter is_object vs)) n (omega (arith, c, l)) in
      let s = h.has_slot n x.0 x.1 in
      let at : local_at f n ≡ s.0.at = ap slot_offset s.1 in
      let past = s.2.past_saved in
      omega (arith, at, past),
)

all_save : (p : Typed) (weight : ℕ → ℕ) (fs : List FunDef) (frames : List Frame) (j k : ℕ)
    → AreFrames (function_needs p.types weight k fs) frames → (i : ℕ) (g : Fun) (f : Frame)
    → slice_get (function_trees p j fs) i ≡ Some g → slice_get frames i ≡ Some f → Saves g.objects f
all_save p weight [] frames j k h i g f e q = absurd cc
all_save p weight (d ∷ fs) [] j k h i g f e q = absurd h
all_save p weight (d ∷ fs) (r ∷ frames) j k h zero g f e q =
    let s : function_tree p j d ≡ g = cc in
    let t : r ≡ f = cc in
    subst (λ z. Saves z.objects f) s (subst (Saves (lengths_of p d.vars)) t (saves p d.vars (weight k) r h.0))
all_save p weight (d ∷ fs) (r ∷ frames) j k h (suc i) g f e q =
    all_save p weight fs frames (suc j) (suc k) h.1 i g f e q

-- ---- functions of a typed program

trees_count : (p : Typed) (fs : List FunDef) (j : ℕ) → length (function_trees p j fs) ≡ length fs
trees_count p [] j = refl
trees_count p (f ∷ fs) j = ap suc (trees_count p fs (suc j))

-- the definition of function i of the tree
record Behind (p : Typed) (fs : List FunDef) (i : ℕ) (f : Fun) : Type 0 where
  number : ℕ
  def : FunDef
  there : slice_get fs i ≡ Some def
  is : function_tree p number def ≡ f

behind : (p : Typed) (fs : List FunDef) (j i : ℕ) (f : Fun) → slice_get (function_trees p j fs) i ≡ Some f
    → Behind p fs i f
behind p [] j i f e = absurd cc
behind p (d ∷ fs) j zero f e = record { number = j; def = d; there = refl; is = cc }
behind p (d ∷ fs) j (suc i) f e =
    let b = behind p fs (suc j) i f e in record { number = b.number; def = b.def; there = b.there; is = b.is }

all_fit : (p : Typed) → IsOrdered p → WellTyped p
    → FunctionsFit (length p.globals + length p.literals) (function_trees p 0 p.funs)
all_fit p o w i f e =
    let b = behind p p.funs 0 i f e in
    let d = b.def in
    let h = w.funs i d b.there in
    let fit : FunctionFit (length p.globals + length p.literals) (length p.funs) f =
    subst (FunctionFit (length p.globals + length p.literals) (length p.funs)) b.is (record {
      params = parameters_fit p d.vars d.params;
      body = statement_fit p d.vars o (bare h.result) d.body (o.funs i d b.there).1 outside h.body;
    }) in
    subst (λ n. FunctionFit (length p.globals + length p.literals) n f) (sym (trees_count p p.funs 0)) fit

-- ---- the law

are_apart : (funs : List Fun) (m : Map) → AreApart m.text m.stack → AreApart m.table m.stack → (t : Moment Store)
    → Holds_at funs m (view t.now.mem) t.now.first t.now.frame (functions_of t.work) t.callers
    → ExtentsAreApart funs m t
are_apart funs m text table t h =
    let es = map extent_of t.now.mem.memory.shapes in
    let cs = calls_from (functions_of t.work) t.now.first t.now.frame t.callers in
    let s = h.stand in
    record {
      objects = alive_apart funs m text table es t.now.mem.heap t.now.frame cs s;
      living = h.lives;
      frames = (frames_of funs m es cs t.now.frame s.stacked).0;
      are_frames = (frames_of funs m es cs t.now.frame s.stacked).1;
      others = alive_off funs m text table es t.now.mem.heap t.now.frame cs s;
    }

pub extents_stay_apart_law : ExtentsStayApart
unfolding program_tree first_moment operations
extents_stay_apart_law p sound m legal w turns n =
    let t = sound.types.types in
    let typed = well_typed p sound in
    let pr : Program = program_tree p in
    let needs : Needs = needs_of (weight_in p) p in
    let part : AllApart (parts_of needs m) = legal.apart in
    let fits = frames_fit p t.program t.ordered t.shows typed (weight_in p) m legal in
    let saved = all_save p (weight_in p) p.funs m.frames 0 0 legal.frames in
    let k = keeps pr.funs m
    (λ i g f e q. record { fits = fits i g f e q; saved = (saved i g f e q).0; past = (saved i g f e q).1 })
    part.0.1.0 part.1.0.0 part.1.1.0.0 in
    are_apart pr.funs m part.0.1.1.0 part.1.0.1.0 _
    (run_kept (operations (placed_plan m)) pr.funs view (Holds_at pr.funs m) k (length p.globals + length p.literals)
    (all_fit p t.ordered typed) w n (first_moment (operations (placed_plan m)) pr turns) nothing_done (
      first_holds pr needs m legal (globals_same_lengths p t.program t.ordered t.shows typed)
          (literals_lengths p.literals),
      (tt, tt),
    )).0
