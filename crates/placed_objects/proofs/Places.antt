-- Where the objects of a run under a legal map are, as calls begin and end and objects are allocated.
use Rattle.std.proofs.Common.{◌≡◌, ◌⊎◌, ℕ, zero, suc, ◌+◌, ◌-◌, ◌<◌, ◌≤◌, List, [], ◌∷◌, ◌++◌, length}
use Rattle.std.proofs.Common.{Some, refl, sym, ap, ◌∙◌, subst, inl, inr, arith}
use Rattle.std.specs.Prelude.{slice_get}
use Rattle.std.proofs.lemmas.Bool.{cases_lt}
use Rattle.std.proofs.lemmas.Nat.{div-add-mod'}
use Rattle.cap_concentrate.specs.Rounding.{owned}
use Rattle.obj_mem.specs.Legal.{Apart, AreApart, IsApartFrom}
use Rattle.obj_mem.specs.declared.map.Frame.{Frame}
use Rattle.obj_mem.specs.declared.map.Map.{Map}
use Rattle.cheri_c_sem.specs.Modes.{frame_within}
use Rattle.cheri_c_sem.specs.Tree.{Fun}
use Rattle.placement.specs.Memories.{local_at, FrameFits}
use Rattle.placement.proofs.Entered.{Room}
use Rattle.placement.proofs.Lists.{some_same, front_get, back_get, below_get}
use Rattle.placement.proofs.Shapes.{swap, smaller}
use Rattle.placed_objects.specs.Calls.{Call}
use Rattle.placed_objects.specs.Extents.{IsLocalOf, IsWithin, IsAlive, IsFrameOf, AreFramesOf, saved_parts}

abbrev pub Extent : Type 0
Extent = ℕ × ℕ

-- ---- lists

pub get_below : {A : Type 0} (xs : List A) (k : ℕ) (x : A) → slice_get xs k ≡ Some x → k < length xs
get_below [] k x e = absurd cc
get_below (y ∷ xs) zero x e = omega arith
get_below (y ∷ xs) (suc k) x e = let h = get_below xs k x e in omega (arith, h)

-- where an item of two lists stands
pub data Place {A : Type 0} (xs ys : List A) (k : ℕ) (x : A) : Type 0 where
  old : slice_get xs k ≡ Some x → Place xs ys k x
  new : (i : ℕ) → k ≡ length xs + i → slice_get ys i ≡ Some x → Place xs ys k x

pub place_of : {A : Type 0} (xs ys : List A) (k : ℕ) (x : A) → slice_get (xs ++ ys) k ≡ Some x → Place xs ys k x
place_of [] ys k x e = let z : k ≡ 0 + k = omega arith in new k z e
place_of (y ∷ xs) ys zero x e = old e
place_of (y ∷ xs) ys (suc k) x e = go (place_of xs ys k x e)
  where
    go : Place xs ys k x → Place (y ∷ xs) ys (suc k) x
    go (old f) = old f
    go (new i q f) = let z : suc k ≡ suc (length xs) + i = omega arith in new i z f

-- ---- extents

pub within_or : (e part : Extent) → IsWithin e part ⊎ (IsWithin e part → ⊥)
within_or e part = go (cases_lt e.0 part.0) (cases_lt (part.0 + part.1) (e.0 + e.1))
  where
    go : (e.0 < part.0) ⊎ (part.0 ≤ e.0) → (part.0 + part.1 < e.0 + e.1) ⊎ (e.0 + e.1 ≤ part.0 + part.1)
        → IsWithin e part ⊎ (IsWithin e part → ⊥)
    go (inl l) b = inr (λ w. let x = w.0 in absurd (omega (arith, l, x)))
    go (inr l) (inl b) = inr (λ w. let x = w.1 in absurd (omega (arith, b, x)))
    go (inr l) (inr b) = inl (l, b)

-- a frame that serves a function with locals of these lengths
pub record Serves (lengths : List ℕ) (f : Frame) : Type 0 where
  pub fits : FrameFits lengths f
  pub saved : f.saved ≤ f.size
  pub past : (n len : ℕ) → slice_get lengths n ≡ Some len → f.saved ≤ local_at f n

module _ (funs : List Fun) (m : Map) where
  abbrev top : ℕ
  top = m.stack.0 + m.stack.1

  abbrev heap_end : ℕ
  heap_end = m.heap.0 + m.heap.1

  -- ---- calls in progress

  -- a call has its locals in its frame, which ends below its caller's
  pub record CallFits (es : List Extent) (c : Call) (f : Frame) : Type 0 where
    pub is : IsFrameOf funs m c f
    pub serves : Serves c.function.objects f
    pub above : c.frame + f.size ≤ c.above
    pub from : m.stack.0 ≤ c.frame
    pub locals : (i len : ℕ) → slice_get c.function.objects i ≡ Some len
        → slice_get es (c.first + i) ≡ Some (c.frame + local_at f i, owned len)

  -- one frame stands on the other, the newest at this address
  abbrev pub Stacked : List Extent → List Call → ℕ → Type 0
  Stacked es [] frame = frame ≤ top
  Stacked es (c ∷ cs) frame = (c.frame ≡ frame) × ((f : Frame) × CallFits es c f) × Stacked es cs c.above

  pub frame_most : (es : List Extent) (cs : List Call) (frame : ℕ) → Stacked es cs frame → frame ≤ top
  frame_most es [] frame s = s
  frame_most es (c ∷ cs) frame s =
      let h = frame_most es cs c.above s.2 in
      let a = s.1.1.above in
      let q = s.0 in
      omega (arith, h, a, q)

  pub stacked_more : (es more : List Extent) (cs : List Call) (frame : ℕ) → Stacked es cs frame
      → Stacked (es ++ more) cs frame
  stacked_more es more [] frame s = s
  stacked_more es more (c ∷ cs) frame s =
      let f = s.1.1 in (
        s.0,
        (
          s.1.0,
          record {
            is = f.is;
            serves = f.serves;
            above = f.above;
            from = f.from;
            locals = λ i len e. front_get es more (c.first + i) (c.frame + local_at s.1.0 i, owned len)
                (f.locals i len e);
          },
        ),
        stacked_more es more cs c.above s.2,
      )

  -- a local of a call
  record IsIn (c : Call) (f : Frame) (k : ℕ) (e : Extent) : Type 0 where
    number : ℕ
    len : ℕ
    there : slice_get c.function.objects number ≡ Some len
    is : k ≡ c.first + number
    base : e.0 ≡ c.frame + local_at f number
    own : e.1 ≡ owned len

  local_in : (es : List Extent) (c : Call) (f : Frame) → CallFits es c f → (k : ℕ) (e : Extent) → c.first ≤ k
      → k < c.first + length c.function.objects → slice_get es k ≡ Some e → IsIn c f k e
  local_in es c f h k e from to there =
      let is : k ≡ c.first + (k - c.first) = omega (arith, from) in
      let x = below_get c.function.objects (k - c.first) (omega (arith, from, to)) in
      let l = h.locals (k - c.first) x.0 x.1 in
      let q : (c.frame + local_at f (k - c.first), owned x.0) ≡ e =
      some_same (slice_get es k) (c.frame + local_at f (k - c.first), owned x.0) e
      (subst (λ j. slice_get es j ≡ Some (c.frame + local_at f (k - c.first), owned x.0)) (sym is) l) there in
      record {
        number = k - c.first;
        len = x.0;
        there = x.1;
        is = is;
        base = ap (λ (v : Extent). v.0) (sym q);
        own = ap (λ (v : Extent). v.1) (sym q);
      }

  -- it is past what the frame saves, and in the frame
  local_past : (es : List Extent) (c : Call) (f : Frame) → CallFits es c f → (k : ℕ) (e : Extent) → IsIn c f k e
      → (c.frame + f.saved ≤ e.0) × (e.0 + e.1 ≤ c.above)
  local_past es c f h k e i =
      let b = i.base in
      let o = i.own in
      let past = h.serves.past i.number i.len i.there in
      let within = (h.serves.fits.locals i.number i.len i.there).within in
      let above = h.above in
      (omega (arith, b, past), omega (arith, b, o, within, above))

  above_frame : (es : List Extent) (cs : List Call) (frame : ℕ) → Stacked es cs frame → (k : ℕ) (e : Extent)
      → IsLocalOf cs k → slice_get es k ≡ Some e → frame ≤ e.0
  above_frame es [] frame s k e l there = absurd l
  above_frame es (c ∷ cs) frame s k e (inl l) there =
      let i = local_in es c s.1.0 s.1.1 k e l.0 l.1 there in
      let p = (local_past es c s.1.0 s.1.1 k e i).0 in
      let q = s.0 in
      omega (arith, p, q)
  above_frame es (c ∷ cs) frame s k e (inr l) there =
      let h = above_frame es cs c.above s.2 k e l there in
      let a = s.1.1.above in
      let q = s.0 in
      omega (arith, h, a, q)

  shifted : (a b n c k : ℕ) → Apart b n c k → Apart (a + b) n (a + c) k
  shifted a b n c k (inl x) = inl (omega arith)
  shifted a b n c k (inr x) = inr (omega arith)

  same_call : (es : List Extent) (c : Call) (f : Frame) → CallFits es c f → (j k : ℕ) (d e : Extent) → IsIn c f j d
      → IsIn c f k e → (j ≡ k → ⊥) → AreApart d e
  same_call es c f h j k d e x y n =
      let differ : x.number ≡ y.number → ⊥ = λ q. n (x.is ∙ ap (λ i. c.first + i) q ∙ sym y.is) in
      let a = shifted c.frame (local_at f x.number) (owned x.len) (local_at f y.number) (owned y.len)
      (h.serves.fits.apart x.number y.number x.len y.len x.there y.there differ) in
      subst (λ v. Apart v d.1 e.0 e.1) (sym x.base) (subst (λ v. Apart (c.frame + local_at f x.number) v e.0 e.1)
      (sym x.own) (subst (λ v. Apart (c.frame + local_at f x.number) (owned x.len) v e.1) (sym y.base)
      (subst (λ v. Apart (c.frame + local_at f x.number) (owned x.len) (c.frame + local_at f y.number) v)
      (sym y.own) a)))

  pub locals_apart : (es : List Extent) (cs : List Call) (frame : ℕ) → Stacked es cs frame → (j k : ℕ) (d e : Extent)
      → IsLocalOf cs j → IsLocalOf cs k → slice_get es j ≡ Some d → slice_get es k ≡ Some e → (j ≡ k → ⊥)
      → AreApart d e
  locals_apart es [] frame s j k d e x y p q n = absurd x
  locals_apart es (c ∷ cs) frame s j k d e (inl x) (inl y) p q n =
      same_call es c s.1.0 s.1.1 j k d e (local_in es c s.1.0 s.1.1 j d x.0 x.1 p)
      (local_in es c s.1.0 s.1.1 k e y.0 y.1 q) n
  locals_apart es (c ∷ cs) frame s j k d e (inl x) (inr y) p q n =
      let a = (local_past es c s.1.0 s.1.1 j d (local_in es c s.1.0 s.1.1 j d x.0 x.1 p)).1 in
      let b = above_frame es cs c.above s.2 k e y q in
      inl (omega (arith, a, b))
  locals_apart es (c ∷ cs) frame s j k d e (inr x) (inl y) p q n =
      let a = (local_past es c s.1.0 s.1.1 k e (local_in es c s.1.0 s.1.1 k e y.0 y.1 q)).1 in
      let b = above_frame es cs c.above s.2 j d x p in
      inr (omega (arith, a, b))
  locals_apart es (c ∷ cs) frame s j k d e (inr x) (inr y) p q n =
      locals_apart es cs c.above s.2 j k d e x y p q n

  -- ---- what frames save

  pub frames_of : (es : List Extent) (cs : List Call) (frame : ℕ) → Stacked es cs frame
      → (fs : List Frame) × AreFramesOf funs m cs fs
      × ((e : Extent) → e.0 + e.1 ≤ frame → IsApartFrom e (saved_parts cs fs))
      × ((e : Extent) → AreApart e m.stack → IsApartFrom e (saved_parts cs fs))
      × ((k : ℕ) (e : Extent) → IsLocalOf cs k → slice_get es k ≡ Some e → IsApartFrom e (saved_parts cs fs))
  frames_of es [] frame s = ([], tt, (λ e h. tt), (λ e h. tt), (λ k e l h. tt))
  frames_of es (c ∷ cs) frame s =
      let r = frames_of es cs c.above s.2 in
      let f = s.1.0 in
      let h = s.1.1 in
      let most = frame_most es cs c.above s.2 in
      let saved = h.serves.saved in
      let above = h.above in
      let from = h.from in
      let q = s.0 in (
        f ∷ r.0,
        (h.is, r.1),
        (λ e l. (inl (omega (arith, l, q)), r.2 e (omega (arith, l, q, above)))),
        (λ e a. (
          smaller e.0 e.1 m.stack.0 m.stack.1 c.frame f.saved from (omega (arith, saved, above, most)) a,
          r.3 e a,
        )),
        (λ k e l there. by r.0 r.2 r.4 k e l there),
      )
    where
      by : (fs : List Frame) → ((e : Extent) → e.0 + e.1 ≤ c.above → IsApartFrom e (saved_parts cs fs))
          → ((k : ℕ) (e : Extent) → IsLocalOf cs k → slice_get es k ≡ Some e → IsApartFrom e (saved_parts cs fs))
          → (k : ℕ) (e : Extent) → IsLocalOf (c ∷ cs) k → slice_get es k ≡ Some e
          → IsApartFrom e (saved_parts (c ∷ cs) (s.1.0 ∷ fs))
      by fs low own k e (inl l) there =
          let p = local_past es c s.1.0 s.1.1 k e (local_in es c s.1.0 s.1.1 k e l.0 l.1 there) in
          let past = p.0 in
          let within = p.1 in
          (inr (omega (arith, past)), low e within)
      by fs low own k e (inr l) there =
          let b = above_frame es cs c.above s.2 k e l there in
          let saved = s.1.1.serves.saved in
          let above = s.1.1.above in
          (inr (omega (arith, b, saved, above)), own k e l there)

  -- ---- all objects

  -- one that is not a local is off the text, the table, the stack and the rest of the heap
  pub record IsOutside (next : ℕ) (e : Extent) : Type 0 where
    pub text : AreApart e m.text
    pub table : AreApart e m.table
    pub stack : AreApart e m.stack
    pub rest : (e.0 + e.1 ≤ next) ⊎ (heap_end ≤ e.0)

  pub record Stand (es : List Extent) (next frame : ℕ) (cs : List Call) : Type 0 where
    pub heap_from : m.heap.0 ≤ next
    pub heap_to : next ≤ heap_end
    pub outside : (k : ℕ) (e : Extent) → slice_get es k ≡ Some e → (IsWithin e m.stack → ⊥) → IsOutside next e
    pub apart : (j k : ℕ) (d e : Extent) → slice_get es j ≡ Some d → slice_get es k ≡ Some e → (j ≡ k → ⊥)
        → (IsWithin d m.stack → ⊥) → (IsWithin e m.stack → ⊥) → AreApart d e
    pub stacked : Stacked es cs frame

  -- ---- allocation

  later : (next next' : ℕ) (e : Extent) → next ≤ next' → IsOutside next e → IsOutside next' e
  later next next' e h o = record { text = o.text; table = o.table; stack = o.stack; rest = go o.rest }
    where
      go : (e.0 + e.1 ≤ next) ⊎ (heap_end ≤ e.0) → (e.0 + e.1 ≤ next') ⊎ (heap_end ≤ e.0)
      go (inl x) = inl (omega arith)
      go (inr x) = inr x

  off_rest : (next start own : ℕ) (e : Extent) → next ≤ start → start + own ≤ heap_end
      → (e.0 + e.1 ≤ next) ⊎ (heap_end ≤ e.0) → AreApart e (start, own)
  off_rest next start own e from to (inl x) = inl (omega arith)
  off_rest next start own e from to (inr x) = inr (omega arith)

  module _ (text_heap : AreApart m.text m.heap) (table_heap : AreApart m.table m.heap)
      (heap_stack : AreApart m.heap m.stack) where
    part_of_heap : (part : Extent) (start own : ℕ) → m.heap.0 ≤ start → start + own ≤ heap_end → AreApart part m.heap
        → AreApart (start, own) part
    part_of_heap part start own from to a =
        swap part.0 part.1 start own (smaller part.0 part.1 m.heap.0 m.heap.1 start own from to a)

    pub allocated : (es : List Extent) (next frame : ℕ) (cs : List Call) (start own : ℕ) → Stand es next frame cs
        → next ≤ start → start + own ≤ heap_end → Stand (es ++ (start, own) ∷ []) (start + own) frame cs
    allocated es next frame cs start own s from to =
        let hf = s.heap_from in
        let first : m.heap.0 ≤ start = omega (arith, hf, from) in
        record {
          heap_from = omega (arith, first);
          heap_to = to;
          outside = λ k e there n. outside k e n (place_of es ((start, own) ∷ []) k e there);
          apart = λ j k d e p q n x y.
              apart j k d e n x y (place_of es ((start, own) ∷ []) j d p) (place_of es ((start, own) ∷ []) k e q);
          stacked = stacked_more es ((start, own) ∷ []) cs frame s.stacked;
        }
      where
        own_is : (i : ℕ) (e : Extent) → slice_get ((start, own) ∷ []) i ≡ Some e → (i ≡ 0) × ((start, own) ≡ e)
        own_is zero e q = (refl, cc)
        own_is (suc i) e q = absurd cc

        fresh : IsOutside (start + own) (start, own)
        fresh =
            let hf = s.heap_from in
            let first : m.heap.0 ≤ start = omega (arith, hf, from) in
            record {
              text = part_of_heap m.text start own first to text_heap;
              table = part_of_heap m.table start own first to table_heap;
              stack = part_of_heap m.stack start own first to (swap m.heap.0 m.heap.1 m.stack.0 m.stack.1 heap_stack);
              rest = inl (omega arith);
            }

        outside : (k : ℕ) (e : Extent) → (IsWithin e m.stack → ⊥) → Place es ((start, own) ∷ []) k e
            → IsOutside (start + own) e
        outside k e n (old p) = later next (start + own) e (omega (arith, from)) (s.outside k e p n)
        outside k e n (new i q p) = subst (IsOutside (start + own)) (own_is i e p).1 fresh

        apart : (j k : ℕ) (d e : Extent) → (j ≡ k → ⊥) → (IsWithin d m.stack → ⊥) → (IsWithin e m.stack → ⊥)
            → Place es ((start, own) ∷ []) j d → Place es ((start, own) ∷ []) k e → AreApart d e
        apart j k d e n x y (old p) (old q) = s.apart j k d e p q n x y
        apart j k d e n x y (old p) (new i r q) =
            subst (AreApart d) (own_is i e q).1 (off_rest next start own d from to (s.outside j d p x).rest)
        apart j k d e n x y (new i r p) (old q) =
            subst (λ v. AreApart v e) (own_is i d p).1
            (swap e.0 e.1 start own (off_rest next start own e from to (s.outside k e q y).rest))
        apart j k d e n x y (new i r p) (new i' r' q) =
            absurd (n (r ∙ ap (λ v. length es + v) ((own_is i d p).0 ∙ sym (own_is i' e q).0) ∙ sym r'))

  -- ---- calls

  -- the locals of a call, from number j of the function's on
  abbrev pub locals_at : Frame → (at j : ℕ) → List ℕ → List Extent
  locals_at f at j [] = []
  locals_at f at j (l ∷ ls) = (at + local_at f j, owned l) ∷ locals_at f at (suc j) ls

  local_get : (f : Frame) (at j : ℕ) (ls : List ℕ) (i len : ℕ) → slice_get ls i ≡ Some len
      → slice_get (locals_at f at j ls) i ≡ Some (at + local_at f (j + i), owned len)
  local_get f at j [] i len e = absurd cc
  local_get f at j (l ∷ ls) zero len e =
      let q : l ≡ len = cc in
      let z : j ≡ j + 0 = omega arith in
      ap (λ v. Some (at + local_at f j, owned v)) q ∙ ap (λ v. Some (at + local_at f v, owned len)) z
  local_get f at j (l ∷ ls) (suc i) len e =
      let z : suc j + i ≡ j + suc i = omega arith in
      local_get f at (suc j) ls i len e ∙ ap (λ v. Some (at + local_at f v, owned len)) z

  local_count : (f : Frame) (at j : ℕ) (ls : List ℕ) → length (locals_at f at j ls) ≡ length ls
  local_count f at j [] = refl
  local_count f at j (l ∷ ls) = ap suc (local_count f at (suc j) ls)

  module _ (serves : (i : ℕ) (g : Fun) (f : Frame) → slice_get funs i ≡ Some g → slice_get m.frames i ≡ Some f
      → Serves g.objects f) where
    pub entered : (es : List Extent) (next frame : ℕ) (cs : List Call) (i at : ℕ) (g : Fun) → slice_get funs i ≡ Some g
        → frame_within m.stack.0 frame (slice_get m.frames i) ≡ Some at → (r : Room m i frame at)
        → Stand es next frame cs
        → Stand (es ++ locals_at r.it at 0 g.objects) next at
        (record { function = g; first = length es; frame = at; above = frame } ∷ cs)
    entered es next frame cs i at g fun enters r s =
        record {
          heap_from = s.heap_from;
          heap_to = s.heap_to;
          outside = λ k e there n. outside k e n (place_of es own k e there);
          apart = λ j k d e p q n x y. apart j k d e n x y (place_of es own j d p) (place_of es own k e q);
          stacked = (refl, (f, call), stacked_more es own cs frame s.stacked);
        }
      where
        f : Frame
        f = r.it

        own : List Extent
        own = locals_at f at 0 g.objects

        serve : Serves g.objects f
        serve = serves i g f fun r.is

        room : at + f.size ≤ frame
        room =
            let is = r.here_is in
            let fits = r.fits in
            omega (arith, is, fits, div-add-mod' (frame - f.size) f.align)

        call : CallFits (es ++ own) (record { function = g; first = length es; frame = at; above = frame }) f
        call = record {
          is = record { number = i; function = fun; there = r.is; stands = stands };
          serves = serve;
          above = room;
          from = r.above;
          locals = λ n len e. back_get es own n ∙ local_get f at 0 g.objects n len e
              ∙ ap (λ k. Some (at + local_at f k, owned len)) (plain n);
        }
          where
            stands : frame_within m.stack.0 frame (Some f) ≡ Some at
            stands = subst (λ o. frame_within m.stack.0 frame o ≡ Some at) r.is enters

            plain : (n : ℕ) → 0 + n ≡ n
            plain n = omega arith

        inside : (n : ℕ) (e : Extent) → slice_get own n ≡ Some e → IsWithin e m.stack
        inside n e p =
            let l = below_get g.objects n (let h = get_below own n e p in let c = local_count f at 0 g.objects in
            omega (arith, h, c)) in
            let z : 0 + n ≡ n = omega arith in
            let x : Extent = (at + local_at f n, owned l.0) in
            let here : x ≡ e = some_same (slice_get own n) x e (local_get f at 0 g.objects n l.0 l.1
            ∙ ap (λ v. Some (at + local_at f v, owned l.0)) z) p in
            let w = (serve.fits.locals n l.0 l.1).within in
            let a = r.above in
            let most = frame_most es cs frame s.stacked in
            let h = room in
            subst (λ v. IsWithin v m.stack) here (omega (arith, a), omega (arith, w, h, most))

        outside : (k : ℕ) (e : Extent) → (IsWithin e m.stack → ⊥) → Place es own k e → IsOutside next e
        outside k e n (old p) = s.outside k e p n
        outside k e n (new j q p) = absurd (n (inside j e p))

        apart : (j k : ℕ) (d e : Extent) → (j ≡ k → ⊥) → (IsWithin d m.stack → ⊥) → (IsWithin e m.stack → ⊥)
            → Place es own j d → Place es own k e → AreApart d e
        apart j k d e n x y (old p) (old q) = s.apart j k d e p q n x y
        apart j k d e n x y (old p) (new i' r' q) = absurd (y (inside i' e q))
        apart j k d e n x y (new i' r' p) q = absurd (x (inside i' d p))

  pub left : (es : List Extent) (next frame : ℕ) (c : Call) (cs : List Call) → Stand es next frame (c ∷ cs)
      → Stand es next c.above cs
  left es next frame c cs s = record {
    heap_from = s.heap_from;
    heap_to = s.heap_to;
    outside = s.outside;
    apart = s.apart;
    stacked = s.stacked.2;
  }

  -- ---- what is alive

  abbrev pub AliveApart : List Extent → List Call → Type 0
  AliveApart es cs = (j k : ℕ) (d e : Extent) → slice_get es j ≡ Some d → slice_get es k ≡ Some e → (j ≡ k → ⊥)
      → IsAlive m cs j d → IsAlive m cs k e → AreApart d e

  module _ (text_stack : AreApart m.text m.stack) (table_stack : AreApart m.table m.stack) where
    in_stack : (e : Extent) (part : Extent) → IsWithin e m.stack → AreApart part m.stack → AreApart e part
    in_stack e part w a =
        let from = w.0 in
        let to = w.1 in
        swap part.0 part.1 e.0 e.1 (smaller part.0 part.1 m.stack.0 m.stack.1 e.0 e.1 from to a)

    pub alive_apart : (es : List Extent) (next frame : ℕ) (cs : List Call) → Stand es next frame cs → AliveApart es cs
    alive_apart es next frame cs s j k d e p q n x y = go (within_or d m.stack) (within_or e m.stack)
      where
        go : IsWithin d m.stack ⊎ (IsWithin d m.stack → ⊥) → IsWithin e m.stack ⊎ (IsWithin e m.stack → ⊥)
            → AreApart d e
        go (inl a) (inl b) = locals_apart es cs frame s.stacked j k d e (x a) (y b) p q n
        go (inl a) (inr b) = in_stack d e a (s.outside k e q b).stack
        go (inr a) (inl b) =
            swap e.0 e.1 d.0 d.1 (in_stack e d b (s.outside j d p a).stack)
        go (inr a) (inr b) = s.apart j k d e p q n a b

    pub alive_off : (es : List Extent) (next frame : ℕ) (cs : List Call) (s : Stand es next frame cs) (k : ℕ)
        (e : Extent) → slice_get es k ≡ Some e → IsAlive m cs k e
        → IsApartFrom e (m.text ∷ m.table ∷ saved_parts cs (frames_of es cs frame s.stacked).0)
    alive_off es next frame cs s k e p x = go (within_or e m.stack)
      where
        go : IsWithin e m.stack ⊎ (IsWithin e m.stack → ⊥)
            → IsApartFrom e (m.text ∷ m.table ∷ saved_parts cs (frames_of es cs frame s.stacked).0)
        go (inl a) = (
          in_stack e m.text a text_stack,
          (in_stack e m.table a table_stack, (frames_of es cs frame s.stacked).4 k e (x a) p),
        )
        go (inr b) =
            let o = s.outside k e p b in
            (o.text, (o.table, (frames_of es cs frame s.stacked).3 e o.stack))
