-- A call takes a frame.
use Rattle.std.proofs.Common.{◌≡◌, ◌⊎◌, ℕ, zero, suc, ◌+◌, ◌-◌, ◌*◌, ◌/◌, ◌%◌, ◌<◌, ◌≤◌, Bool, true, false, ◌||◌}
use Rattle.std.proofs.Common.{nat_lt, List, [], ◌∷◌, ◌++◌, length, Option, Some, None, refl, sym, ap, ◌∙◌, subst, inl}
use Rattle.std.proofs.Common.{inr, arith}
use Rattle.std.specs.Prelude.{slice_get, slice_set, if◌then◌else◌}
use Rattle.std.proofs.lemmas.Nat.{div-add-mod'}
use Rattle.std.proofs.lemmas.Bool.Decides.{nat_tests}
use Rattle.std.proofs.Math.Nat.{mul-mod_left}
use Rattle.cap_concentrate.specs.Rounding.{alignment, owned}
use Rattle.obj_mem.specs.declared.map.Map.{Map}
use Rattle.obj_mem.specs.declared.map.Frame.{Frame}
use Rattle.obj_mem.specs.Values.{Addresses}
use Rattle.obj_mem.specs.Objects.{Active, Inactive, Shape, Memory, Mode, Placed, Strict, add, rest, blank, with_life_by}
use Rattle.obj_mem.specs.Legal.{Apart}
use Rattle.obj_mem.specs.Table.{addresses_of}
use Rattle.obj_mem.specs.Agreement.{SameMemory, IsNotReturned}
use Rattle.obj_mem.specs.Standing.{IsBased, IsSpread}
use Rattle.obj_mem.proofs.Units.{memory_agrees_law}
use Rattle.cheri_c_sem.specs.Modes.{Store, with_local, operations, below, frame_within, local_offset, placed_plan}
use Rattle.cheri_c_sem.specs.Modes.{strict_plan}
use Rattle.cheri_c_sem.specs.Calls.{add_locals, end_locals}
use Rattle.placement.specs.Relations.{Moved, Entry}
use Rattle.placement.specs.Memories.{KeepsShapes, KeepsStack, IsClear, IsLaid, IsThere, IsAlive, ContentsGood, Stand}
use Rattle.placement.specs.Memories.{Later, memories, local_at, FrameFits}
use Rattle.placement.proofs.Shapes.{IsFrom, AreFrom, swap, smaller, apart_as, keeps_same, keeps_twice, there_later}
use Rattle.placement.proofs.Shapes.{alive_later, good_later, good_owned, clear_part, clear_same, clear_later}
use Rattle.placement.proofs.Shapes.{spread_same}
use Rattle.placement.proofs.Stored.{blank_content, content_more}
use Rattle.placement.proofs.Changes.{contents_owned, contents_later}
use Rattle.placement.proofs.Added.{last_is, as_long, keeps_more, spread_add, clear_add}
use Rattle.placement.proofs.Ended.{Ended, Ends, ends, ends_same}

-- ---- a local is added

set_last : (t : List Shape) (g h : Shape) → slice_set (t ++ g ∷ []) (length t) h ≡ t ++ h ∷ []
set_last [] g h = refl
set_last (x ∷ t) g h = ap (λ v. x ∷ v) (set_last t g h)

abbrev local_shape : ℕ → ℕ → Shape
local_shape n base = record { length = n; owned = owned n; life = Inactive; base = base }

local_shapes : (d : Mode) (m : Memory) (n base : ℕ) → (rest (add d m n base) (length m.shapes)).shapes ≡ m.shapes ++
    local_shape n base ∷ []
local_shapes d m n base =
    let h : Shape = record { length = n; owned = owned n; life = Active; base = base } in
    ap (λ o. with_life_by Inactive (m.shapes ++ h ∷ []) (length m.shapes) o) (last_is m.shapes h)
    ∙ set_last m.shapes h (local_shape n base)

multiple_sum : (a b m : ℕ) → a % m ≡ 0 → b % m ≡ 0 → (a + b) % m ≡ 0
multiple_sum a b m h k =
    let e : a + b ≡ (a / m + b / m) * m = omega (arith, div-add-mod' a m, div-add-mod' b m) in
    ap (λ v. v % m) e ∙ mul-mod_left (a / m + b / m) m

multiple_of : (a align n : ℕ) → align % n ≡ 0 → (a * align) % n ≡ 0
multiple_of a align n h =
    let e : align ≡ align / n * n = omega (arith, div-add-mod' align n) in
    let f : a * align ≡ (a * (align / n)) * n = ap (λ v. a * v) e ∙ omega arith in
    ap (λ v. v % n) f ∙ mul-mod_left (a * (align / n)) n

shifted : (a b n c k : ℕ) → Apart b n c k → Apart (a + b) n (a + c) k
shifted a b n c k (inl x) = inl (omega arith)
shifted a b n c k (inr x) = inr (omega arith)

length_more : (t : List Shape) (h : Shape) → length (t ++ h ∷ []) ≡ length t + 1
length_more [] h = refl
length_more (x ∷ t) h = let r = length_more t h in omega (arith, r)

module _ (globals functions : ℕ) (m : Map) (laid : IsLaid (addresses_of m) m.stack.0 m.stack.1) (first at here : ℕ)
  where
    abbrev a : Addresses
    a = addresses_of m

    abbrev In : ℕ → Store → Store → Type 0
    In objects s p = Stand globals functions a m.stack.0 m.stack.1 objects first here s p

    add_one : (j l b : ℕ) (s p : Store) → In j s p → length s.memory.shapes ≡ first + j → IsBased b (owned l) l
        → IsClear p.memory.shapes b (owned l) → Apart b (owned l) m.stack.0 (here - m.stack.0) → m.stack.0 ≤ b
        → b + owned l ≤ m.stack.0 + m.stack.1
        → In (suc j) (with_local strict_plan s l 0) (with_local (placed_plan m) p l b)
    add_one j l b s p e long based clear off from to =
        let s' : List Shape = s.memory.shapes ++ local_shape l 0 ∷ [] in
        let p' : List Shape = p.memory.shapes ++ local_shape l b ∷ [] in
        let is : (with_local strict_plan s l 0).memory.shapes ≡ s' = local_shapes Strict s.memory l 0 in
        let is' : (with_local (placed_plan m) p l b).memory.shapes ≡ p' = local_shapes (Placed a) p.memory l b in
        let keeps = keeps_more s.memory.shapes (local_shape l 0) in
        let length_same = as_long s.memory.shapes p.memory.shapes e.same.shapes in
        let hf = e.heap_from in
        let hl = e.heap_least in
        let ht = e.heap_to in
        let ft = e.frame_to in
        let off_text = swap a.text (a.text_end - a.text) b (owned l)
        (smaller a.text (a.text_end - a.text) m.stack.0 m.stack.1 b (owned l) from to
        (swap m.stack.0 m.stack.1 a.text (a.text_end - a.text) laid.stack_text)) in
        let off_heap = swap a.heap (a.heap_end - a.heap) b (owned l)
        (smaller a.heap (a.heap_end - a.heap) m.stack.0 m.stack.1 b (owned l) from to laid.heap_stack) in
        let added = (memory_agrees_law a).adds s.memory p.memory e.same l 0 b in
        record {
          same = subst (λ k. SameMemory (rest (add Strict s.memory l 0) (length s.memory.shapes))
              (rest (add (Placed a) p.memory l b) k)) length_same
              ((memory_agrees_law a).rests (add Strict s.memory l 0) (add (Placed a) p.memory l b) added
              (length s.memory.shapes));
          spread = subst (λ t. IsSpread t functions a) (sym is')
              (spread_add p.memory.shapes functions a (local_shape l b) e.spread based clear off_text);
          contents = subst (λ t. ContentsGood t functions (s.memory.contents ++ blank Strict (owned l) ∷ [])) (sym is)
              (content_more s' functions s.memory.contents (blank Strict (owned l))
              (contents_later s.memory.shapes s' functions keeps s.memory.contents e.contents)
              (blank_content s' functions (owned l)));
          globals_there = λ i g. subst (λ t. IsThere t i) (sym is)
              (there_later s.memory.shapes s' keeps i (e.globals_there i g));
          locals_alive = λ i g. subst (λ t. IsAlive t (first + i)) (sym is) (alive i g (nat_lt i j) refl);
          heap_from = hf;
          heap_least = hl;
          heap_to = ht;
          heap_clear = subst (λ t. IsClear t p.heap (a.heap_end - p.heap)) (sym is')
              (clear_add p.memory.shapes (local_shape l b) p.heap (a.heap_end - p.heap) e.heap_clear
              (smaller b (owned l) a.heap (a.heap_end - a.heap) p.heap (a.heap_end - p.heap) hf (omega arith)
              off_heap));
          frame_to = ft;
          stack_clear = subst (λ t. IsClear t m.stack.0 (here - m.stack.0)) (sym is')
              (clear_add p.memory.shapes (local_shape l b) m.stack.0 (here - m.stack.0) e.stack_clear off);
        }
      where
        below_it : (i j : ℕ) → nat_lt i j ≡ true → i < j
        below_it i j q = grind (arith, nat_tests)

        at_it : (i j : ℕ) → i < suc j → nat_lt i j ≡ false → i ≡ j
        at_it i j l q = grind (arith, nat_tests)

        alive : (i : ℕ) → i < suc j → (y : Bool) → nat_lt i j ≡ y → IsAlive (s.memory.shapes ++ local_shape l 0 ∷ [])
            (first + i)
        alive i g true q = alive_later s.memory.shapes (s.memory.shapes ++ local_shape l 0 ∷ [])
            (keeps_more s.memory.shapes (local_shape l 0)) (first + i) (e.locals_alive i (below_it i j q))
        alive i g false q =
            let r : length s.memory.shapes ≡ first + i = let w = at_it i j g q in omega (arith, w, long) in
            subst (λ k. IsAlive (s.memory.shapes ++ local_shape l 0 ∷ []) k) r
            (local_shape l 0, last_is s.memory.shapes (local_shape l 0), tt)

    record Built (count : ℕ) (s p s' p' : Store) : Type 0 where
      stand : In count s' p'
      long : length s'.memory.shapes ≡ first + count
      strict : KeepsShapes s.memory.shapes s'.memory.shapes
      placed : KeepsShapes p.memory.shapes p'.memory.shapes

    module _ (i : ℕ) (fr : Frame) (is : slice_get m.frames i ≡ Some fr) (lengths : List ℕ)
        (fits : FrameFits lengths fr) (q : ℕ) (multiple : here ≡ q * fr.align)
        (above : m.stack.0 ≤ here) (within : here + fr.size ≤ m.stack.0 + m.stack.1) where
      add_all : (ls : List ℕ) (j : ℕ) (s p : Store)
          → ((k n : ℕ) → slice_get ls k ≡ Some n → slice_get lengths (j + k) ≡ Some n) → In j s p
          → length s.memory.shapes ≡ first + j
          → ((k n : ℕ) → slice_get ls k ≡ Some n → IsClear p.memory.shapes (here + local_at fr (j + k)) (owned n))
          → Built (j + length ls) s p (add_locals (operations strict_plan) s at i j ls)
          (add_locals (operations (placed_plan m)) p here i j ls)
      unfolding operations
      add_all [] j s p part e long clear = record {
        stand = subst (λ n. In n s p) (none j) e;
        long = let z = none j in omega (arith, long, z);
        strict = keeps_same s.memory.shapes;
        placed = keeps_same p.memory.shapes;
      }
        where
          none : (j : ℕ) → j ≡ j + 0
          none j = omega arith
      add_all (l ∷ ls) j s p part e long clear =
          let zero_j : j + 0 ≡ j = omega arith in
          let there : slice_get lengths j ≡ Some l = subst (λ k. slice_get lengths k ≡ Some l) zero_j (part 0 l refl) in
          let local = fits.locals j l there in
          let b : ℕ = here + local_at fr j in
          let lf = laid.stack_from in
          let lt = laid.stack_to in
          let w = local.within in
          let aligned : b % alignment l ≡ 0 = multiple_sum here (local_at fr j) (alignment l)
          (subst (λ v. v % alignment l ≡ 0) (sym multiple)
          (multiple_of q fr.align (alignment l) local.frame_aligned)) local.aligned in
          let based : IsBased b (owned l) l =
          record { from = omega arith; to = omega arith; owned_is = refl; aligned = aligned } in
          let here_clear : IsClear p.memory.shapes b (owned l) =
          subst (λ k. IsClear p.memory.shapes (here + local_at fr k) (owned l)) zero_j (clear 0 l refl) in
          let s' : Store = with_local strict_plan s l 0 in
          let p' : Store = with_local (placed_plan m) p l b in
          let e' : In (suc j) s' p' = add_one j l b s p e long based here_clear (inr (omega arith)) (omega arith)
          (omega (arith, w)) in
          let is_s = local_shapes Strict s.memory l 0 in
          let is_p = local_shapes (Placed a) p.memory l b in
          let keeps_s : KeepsShapes s.memory.shapes s'.memory.shapes = subst (λ t. KeepsShapes s.memory.shapes t)
          (sym is_s) (keeps_more s.memory.shapes (local_shape l 0)) in
          let keeps_p : KeepsShapes p.memory.shapes p'.memory.shapes = subst (λ t. KeepsShapes p.memory.shapes t)
          (sym is_p) (keeps_more p.memory.shapes (local_shape l b)) in
          let longer : length s'.memory.shapes ≡ first + suc j = subst (λ t. length t ≡ first + suc j) (sym is_s)
          (let z = length_more s.memory.shapes (local_shape l 0) in omega (arith, z, long)) in
          let next : (k n : ℕ) → slice_get ls k ≡ Some n → slice_get lengths (suc j + k) ≡ Some n = λ k n f. subst
          (λ x. slice_get lengths x ≡ Some n) (shift j k) (part (suc k) n f) in
          let clear' : (k n : ℕ) → slice_get ls k ≡ Some n → IsClear p'.memory.shapes (here + local_at fr (suc j + k))
          (owned n) = λ k n f.
          subst (λ t. IsClear t (here + local_at fr (suc j + k)) (owned n)) (sym is_p)
          (clear_add p.memory.shapes (local_shape l b) (here + local_at fr (suc j + k)) (owned n)
          (subst (λ x. IsClear p.memory.shapes (here + local_at fr x) (owned n)) (shift j k) (clear (suc k) n f))
          (shifted here (local_at fr j) (owned l) (local_at fr (suc j + k)) (owned n)
          (fits.apart j (suc j + k) l n there (next k n f) (before j k)))) in
          let offset : (placed_plan m).local here i j ≡ b = ap (λ o. here + local_offset o j) is in
          let r = add_all ls (suc j) s' p' next e' longer clear' in
          let counted : suc j + length ls ≡ j + suc (length ls) = omega arith in
          subst (λ v. Built (j + suc (length ls)) s p (add_locals (operations strict_plan) s' at i (suc j) ls)
          (add_locals (operations (placed_plan m)) (with_local (placed_plan m) p l v) here i (suc j) ls)) (sym offset)
          (subst (λ n. Built n s p (add_locals (operations strict_plan) s' at i (suc j) ls)
          (add_locals (operations (placed_plan m)) p' here i (suc j) ls)) counted
          (record {
            stand = r.stand;
            long = r.long;
            strict = keeps_twice _ _ _ keeps_s r.strict;
            placed = keeps_twice _ _ _ keeps_p r.placed;
          }))
        where
          shift : (j k : ℕ) → j + suc k ≡ suc j + k
          shift j k = omega arith

          before : (j k : ℕ) → j ≡ suc j + k → ⊥
          before j k e = omega arith

past_none : (s : List Shape) (i : ℕ) → length s ≤ i → slice_get s i ≡ None
past_none [] i l = refl
past_none (x ∷ s) zero l = absurd (omega arith)
past_none (x ∷ s) (suc i) l = past_none s i (omega arith)

none_past : (s : List Shape) (i : ℕ) → slice_get s i ≡ None → length s ≤ i
none_past [] i e = omega arith
none_past (x ∷ s) zero e = absurd cc
none_past (x ∷ s) (suc i) e = omega (arith, none_past s i e)

some_below : (s : List Shape) (i : ℕ) (g : Shape) → slice_get s i ≡ Some g → i < length s
some_below [] i g e = absurd cc
some_below (x ∷ s) zero g e = omega arith
some_below (x ∷ s) (suc i) g e = omega (arith, some_below s i g e)

-- the caller's objects are kept where those of the call, the first of which has this number, end
keeps_ended : (s t u : List Shape) (count : ℕ) → KeepsShapes s t → Ended (length s) count t u → KeepsShapes s u
keeps_ended s t u count l e =
    record { kept = λ i g f. let y = l.kept i g f in (y.0, e.below i (some_below s i g f) ∙ y.1, y.2) }

-- ---- where a frame is

pub record Room (m : Map) (i frame here : ℕ) : Type 0 where
  pub it : Frame
  pub is : slice_get m.frames i ≡ Some it
  pub fits : it.size ≤ frame
  pub above : m.stack.0 ≤ here
  pub here_is : here ≡ below frame it

pub room_for : (m : Map) (i frame here : ℕ) → frame_within m.stack.0 frame (slice_get m.frames i) ≡ Some here
    → Room m i frame here
room_for m i frame here e = go (slice_get m.frames i) refl e
  where
    not_below : (a b : ℕ) → nat_lt a b ≡ false → b ≤ a
    not_below a b e = grind (arith, nat_tests)

    tested : (f : Frame) → slice_get m.frames i ≡ Some f → (x y : Bool) → nat_lt frame f.size ≡ x
        → nat_lt (below frame f) m.stack.0 ≡ y → (if x || y then None else Some (below frame f)) ≡ Some here
        → Room m i frame here
    tested f is true y q r e = absurd cc
    tested f is false true q r e = absurd cc
    tested f is false false q r e =
        let here_is : below frame f ≡ here = cc in
        let above = not_below (below frame f) m.stack.0 r in
        record {
          it = f;
          is = is;
          fits = not_below frame f.size q;
          above = omega (arith, above, here_is);
          here_is = sym here_is;
        }

    go : (o : Option Frame) → slice_get m.frames i ≡ o → frame_within m.stack.0 frame o ≡ Some here
        → Room m i frame here
    go None is e = absurd cc
    go (Some f) is e = tested f is (nat_lt frame f.size) (nat_lt (below frame f) m.stack.0) refl refl e

module _ (globals functions : ℕ) (m : Map) (laid : IsLaid (addresses_of m) m.stack.0 m.stack.1)
    (objects cfirst frame : ℕ) (s p : Store)
    (e : Stand globals functions (addresses_of m) m.stack.0 m.stack.1 objects cfirst frame s p)
    (i at here : ℕ) (r : Room m i frame here) (lengths : List ℕ) (fits : FrameFits lengths r.it) where
  abbrev addresses : Addresses
  addresses = addresses_of m

  abbrev number : ℕ
  number = length s.memory.shapes

  abbrev strict_in : Store
  strict_in = add_locals (operations strict_plan) s at i 0 lengths

  abbrev placed_in : Store
  placed_in = add_locals (operations (placed_plan m)) p here i 0 lengths

  room_above : here + r.it.size ≤ frame
  room_above =
      let is = r.here_is in
      let f = r.fits in
      omega (arith, is, f, div-add-mod' (frame - r.it.size) r.it.align)

  -- the stack below the caller's frame is clear, and so is each slot of the new one
  alone : Stand globals functions addresses m.stack.0 m.stack.1 0 number here s p
  alone =
      let h = room_above in
      let f = e.frame_to in
      let above = r.above in
      record {
        same = e.same;
        spread = e.spread;
        contents = e.contents;
        globals_there = e.globals_there;
        locals_alive = λ i l. absurd (omega arith);
        heap_from = e.heap_from;
        heap_least = e.heap_least;
        heap_to = e.heap_to;
        heap_clear = e.heap_clear;
        frame_to = omega arith;
        stack_clear = clear_part p.memory.shapes m.stack.0 (frame - m.stack.0) m.stack.0 (here - m.stack.0)
            (omega arith) (omega arith) e.stack_clear;
      }

  slots_clear : (k n : ℕ) → slice_get lengths k ≡ Some n → IsClear p.memory.shapes (here + local_at r.it (0 + k))
      (owned n)
  slots_clear k n f =
      let h = room_above in
      let w = (fits.locals k n f).within in
      let above = r.above in
      let z : k ≡ 0 + k = omega arith in
      subst (λ x. IsClear p.memory.shapes (here + local_at r.it x) (owned n)) z
      (clear_part p.memory.shapes m.stack.0 (frame - m.stack.0) (here + local_at r.it k) (owned n) (omega arith)
      (omega arith) e.stack_clear)

  built : Built globals functions m laid number at here (length lengths) s p strict_in placed_in
  built =
      let h = room_above in
      let f = e.frame_to in
      let above = r.above in
      let z : 0 + length lengths ≡ length lengths = omega arith in
      subst (λ n. Built globals functions m laid number at here n s p strict_in placed_in) z
      (add_all globals functions m laid number at here i r.it r.is lengths fits ((frame - r.it.size) / r.it.align)
      r.here_is above (omega arith) lengths 0 s p
      (λ k n f. subst (λ x. slice_get lengths x ≡ Some n) (plus k) f) alone (omega arith) slots_clear)
    where
      plus : (k : ℕ) → k ≡ 0 + k
      plus k = omega arith

  module _ (s' p' : Store)
      (st : Stand globals functions addresses m.stack.0 m.stack.1 (length lengths) number here s' p')
      (la : Later globals functions addresses m.stack.0 m.stack.1 strict_in placed_in s' p') where
    abbrev strict_out : Store
    strict_out = end_locals (operations strict_plan) s' number lengths

    abbrev placed_out : Store
    placed_out = end_locals (operations (placed_plan m)) p' number lengths

    strict_ends : Ends strict_plan number (length lengths) s' strict_out
    strict_ends = ends strict_plan lengths s' number

    placed_ends : Ends (placed_plan m) number (length lengths) p' placed_out
    placed_ends = ends (placed_plan m) lengths p' number

    same_number : number ≡ length p.memory.shapes
    same_number = as_long s.memory.shapes p.memory.shapes e.same.shapes

    strict_keeps : KeepsShapes s.memory.shapes strict_out.memory.shapes
    strict_keeps = keeps_ended s.memory.shapes s'.memory.shapes strict_out.memory.shapes (length lengths)
        (keeps_twice _ _ _ built.strict la.strict) strict_ends.shapes

    placed_keeps : KeepsShapes p.memory.shapes placed_out.memory.shapes
    placed_keeps = keeps_ended p.memory.shapes p'.memory.shapes placed_out.memory.shapes (length lengths)
        (keeps_twice _ _ _ built.placed la.placed)
        (subst (λ n. Ended n (length lengths) p'.memory.shapes placed_out.memory.shapes) same_number placed_ends.shapes)

    fresh_apart : KeepsStack m.stack.0 m.stack.1 p.memory.shapes placed_out.memory.shapes
    fresh_apart = record {
      fresh = λ j h f g x. let y = placed_ends.shapes.back j h g in go j h f x y.0 y.1 y.2
          (y.3 x);
    }
      where
        go : (j : ℕ) (h : Shape) → slice_get p.memory.shapes j ≡ None → IsNotReturned h.life → (g : Shape)
            → slice_get p'.memory.shapes j ≡ Some g → IsFrom g h → (j < number) ⊎ (number + length lengths ≤ j)
            → Apart h.base h.owned m.stack.0 m.stack.1
        go j h f x g is from (inl l) = let n = none_past p.memory.shapes j f in let q =
            same_number in absurd (omega (arith, n, q))
        go j h f x g is from (inr l) =
            let long = built.long in
            let also = as_long strict_in.memory.shapes placed_in.memory.shapes built.stand.same.shapes in
            apart_as g.base g.owned m.stack.0 m.stack.1 h.base h.owned from.base from.owned
            (la.kept_stack.fresh j g (past_none placed_in.memory.shapes j (omega (arith, long, also))) is
            (from.stayed x))

    left : Moved (memories globals functions addresses m.stack.0 m.stack.1) objects cfirst frame s p strict_out
        placed_out
    left =
        let hs = strict_ends.heap in
        let hp = placed_ends.heap in
        let hf = st.heap_from in
        let hl = st.heap_least in
        let ht = st.heap_to in
        let ft = e.frame_to in
        let from : AreFrom p'.memory.shapes placed_out.memory.shapes = λ j h g. let y =
        placed_ends.shapes.back j h g in (y.0, y.1, y.2) in (
          record {
            same = ends_same addresses strict_plan (placed_plan m) lengths s' p' number st.same;
            spread = spread_same p'.memory.shapes placed_out.memory.shapes functions addresses from st.spread;
            contents = subst (λ cs. ContentsGood strict_out.memory.shapes functions cs) (sym strict_ends.contents)
                (contents_owned s'.memory.shapes strict_out.memory.shapes functions strict_ends.shapes.forth
                s'.memory.contents st.contents);
            globals_there = λ j l. there_later s.memory.shapes strict_out.memory.shapes strict_keeps j
                (e.globals_there j l);
            locals_alive = λ j l. alive_later s.memory.shapes strict_out.memory.shapes strict_keeps (cfirst + j)
                (e.locals_alive j l);
            heap_from = omega (arith, hp, hf);
            heap_least = omega (arith, hp, hs, hl);
            heap_to = omega (arith, hp, ht);
            heap_clear = subst (λ n. IsClear placed_out.memory.shapes n (addresses.heap_end - n)) (sym hp)
                (clear_same p'.memory.shapes placed_out.memory.shapes from p'.heap (addresses.heap_end - p'.heap)
                st.heap_clear);
            frame_to = ft;
            stack_clear = clear_later m.stack.0 m.stack.1 (frame - m.stack.0) p.memory.shapes
                placed_out.memory.shapes placed_keeps fresh_apart (omega (arith, ft)) e.stack_clear;
          },
          record { strict = strict_keeps; placed = placed_keeps; kept_stack = fresh_apart },
        )

  pub entry : Entry (memories globals functions addresses m.stack.0 m.stack.1) (operations strict_plan)
      (operations (placed_plan m)) globals functions objects cfirst frame s p i lengths at here
  unfolding operations
  entry = record {
    number = as_long s.memory.shapes p.memory.shapes e.same.shapes;
    stand = built.stand;
    climbs = λ v g. good_later s.memory.shapes strict_in.memory.shapes functions built.strict v g;
    leaves = λ s' p' st la. left s' p' st la;
    keeps = λ s' v g. good_owned s'.memory.shapes _ functions (ends strict_plan lengths s' number).shapes.forth v g;
  }
