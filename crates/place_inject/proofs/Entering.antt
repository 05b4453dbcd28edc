-- A call keeps the injection: the callee's frame lies below the caller's, with its locals, which rest.
use Rattle.std.proofs.Common.{◌≡◌, ◌⊎◌, ℕ, suc, ◌+◌, ◌-◌, ◌/◌, ◌%◌, ◌^◌, ◌<◌, ◌≤◌, List, [], ◌∷◌, ◌++◌, length}
use Rattle.std.proofs.Common.{Option, Some, None, refl, sym, ap, ◌∙◌, subst, arith, inl, inr}
use Rattle.std.specs.Prelude.{slice_get}
use Rattle.std.specs.Option.{option_map}
use Rattle.std.proofs.lemmas.List.{length-map}
use Rattle.std.proofs.lemmas.Option.{slice_get_within, slice_get-map}
use Rattle.cap_concentrate.specs.Rounding.{alignment, owned}
use Rattle.cap_machine.specs.declared.machine.Machine.{Machine}
use Rattle.cheri_c_sem.specs.Modes.{Store, frame_within, local_offset}
use Rattle.cheri_c_sem.specs.Steps.{State}
use Rattle.obj_mem.specs.declared.map.Frame.{Frame}
use Rattle.obj_mem.specs.Legal.{Apart, ObjectNeed, IsLegal}
use Rattle.obj_mem.specs.Objects.{Shape}
use Rattle.obj_mem.specs.Standing.{IsBased}
use Rattle.obj_mem.specs.Table.{addresses_of}
use Rattle.obj_mem.specs.Values.{Value}
use Rattle.placement.specs.Memories.{IsClear, local_at}
use Rattle.placement.proofs.Added.{get_front}
use Rattle.placement.proofs.Shapes.{clear_part}
use Rattle.reg_alloc.specs.Placed.{IsKept}
use Rattle.tac_ir.specs.Meaning.{Caller, Running}
use Rattle.tac_ir.specs.declared.code.TacInstr.{TacInstr}
use Rattle.place_inject.specs.Objects.{ObjectsFit}
use Rattle.place_inject.specs.Parts.{Unchanged, TableFits, HeapFits}
use Rattle.place_inject.specs.Frames.{Setting, Point, Registers, IsAt, Waits, IsLive, GlobalsFit, LocalsFit}
use Rattle.place_inject.specs.Frames.{HomesFit, FrameFits, FramesFit, homes_of, functions_of, locals_by, slots_from}
use Rattle.place_inject.specs.Frames.{stack_top, behind_return}
use Rattle.place_inject.specs.Fits.{Fits, registers_in}
use Rattle.place_inject.specs.Homes.{CallersKeep}
use Rattle.place_inject.specs.Entering.{IsFrameOf, HasEntered, caller_of, entered, EntersFit, FirstEntersFit}
use Rattle.place_inject.proofs.Altered.{homes_later}
use Rattle.place_inject.proofs.Changed.{active_stays}
use Rattle.place_inject.proofs.Elsewhere.{twice, elsewhere, table_by, heap_aside}
use Rattle.place_inject.proofs.FramesKept.{calls_kept}
use Rattle.place_inject.proofs.Growing.{power_sixteen}
use Rattle.place_inject.proofs.Kept.{kept_apart}
use Rattle.place_inject.proofs.Leaving.{kept_only}
use Rattle.place_inject.proofs.Locals.{multiple_sixteen, multiple_sum, multiple_of, local_shape, either_part, base_of}
use Rattle.place_inject.proofs.Locals.{locals_from, added, shapes_added, heap_added, local_is, is_local, objects_added}
use Rattle.place_inject.proofs.Lying.{Lies, within}
use Rattle.place_inject.proofs.ReadBack.{under_top}
use Rattle.place_inject.proofs.Reshaped.{Same}

-- A frame that is taken below an address, in a state before
module _ (s : Setting) (legal : IsLegal s.needs s.map) (before : Option Point) (t : State Store) (m : Machine)
    (f : Fits s before t m) (top_is : t.frame ≤ stack_top s) (fun : ℕ) (lengths : List ℕ) (frame : Frame)
    (fo : IsFrameOf s fun lengths frame) (at : ℕ)
    (place : frame_within s.map.stack.0 t.frame (Some frame) ≡ Some at) (link : ℕ) (after : Machine)
    (e : HasEntered s fun at t.frame link frame m after) where
  abbrev shapes : List Shape
  shapes = t.mem.memory.shapes

  lies : Lies s.map.stack.0 t.frame at frame
  lies = within s.map.stack.0 t.frame at frame place

  -- where the frame lies
  record Room : Type 0 where
    low : s.map.stack.0 ≤ at
    high : at + frame.size ≤ t.frame
    top : t.frame ≤ stack_top s
    saved : frame.saved ≤ frame.size
    start : 65536 ≤ s.map.stack.0
    end : stack_top s ≤ 2 ^ 40
    aligned : at % 16 ≡ 0

  align_sixteen : frame.align % 16 ≡ 0
  align_sixteen =
      let k = fo.for_homes.power in
      let least = fo.for_homes.least in
      let is = k.1 in
      ap (λ n. n % 16) is ∙ power_sixteen k.0 (omega arith)

  room : Room
  room = record {
    low = lies.from;
    high = lies.to;
    top = top_is;
    saved = fo.for_homes.inside;
    start = legal.in_range.2.2.2.0;
    end = legal.in_range.2.2.2.1;
    aligned = ap (λ n. n % 16) (sym lies.is)
        ∙ multiple_sixteen ((t.frame - frame.size) / frame.align) frame.align align_sixteen;
  }

  -- ---- what is not in the saved part

  off_old : (base owns : ℕ) → Apart base owns s.map.stack.0 (t.frame - s.map.stack.0) → Apart base owns at frame.saved
  off_old base owns (inl before) = let r = room in let l = r.low in inl (omega arith)
  off_old base owns (inr behind) =
      let r = room in let l = r.low in let h = r.high in let q = r.saved in inr (omega arith)

  off_part : (base long : ℕ) → Apart base long s.map.stack.0 s.map.stack.1 → Apart at frame.saved base long
  off_part base long (inl before) = let r = room in let l = r.low in inr (omega arith)
  off_part base long (inr behind) =
      let r = room in let h = r.high in let q = r.saved in let z = r.top in inl (omega arith)

  -- objects that there are fit in the new memory
  objects_old : ObjectsFit (functions_of s) (addresses_of s.map) t.mem.memory after.mem
  objects_old = record {
    areas = e.areas;
    spread = f.objects.spread;
    aligned = f.objects.aligned;
    one_each = f.objects.one_each;
    sound = f.objects.sound;
    stands = λ k h x q g l.
        kept_apart (addresses_of s.map) shapes h x at frame.saved m.mem after.mem (f.objects.aligned k h q) room.aligned
        (off_old h.base h.owned (f.stack.clear.clear k h q (active_stays h.life l))) e.same
        (f.objects.stands k h x q g l);
  }

  part_still : (base long : ℕ) → base % 16 ≡ 0 → Apart base long s.map.stack.0 s.map.stack.1
      → Unchanged base long m.mem after.mem
  part_still base long z apart =
      elsewhere at frame.saved base long m.mem after.mem room.aligned z (off_part base long apart) e.same

  -- ---- the locals

  abbrev base : ℕ → ℕ
  base = base_of s fun at

  base_is : (n : ℕ) → base n ≡ at + local_at frame n
  base_is n = ap (λ o. at + local_offset o n) fo.is

  -- one lies in the frame, past the saved part
  record Placed_at (n l : ℕ) : Type 0 where
    is : base n ≡ at + local_at frame n
    past : frame.saved ≤ local_at frame n
    within_it : local_at frame n + owned l ≤ frame.size
    inside : local_at frame n < frame.size

  placed_at : (n l : ℕ) → slice_get lengths n ≡ Some l → Placed_at n l
  placed_at n l q = record {
    is = base_is n;
    past = fo.past_saved n (slice_get_within lengths n l q);
    within_it = (fo.holds.locals n l q).within;
    inside = fo.inside n (slice_get_within lengths n l q);
  }

  in_stack : (n l : ℕ) → slice_get lengths n ≡ Some l
      → (s.map.stack.0 ≤ base n) × (base n + owned l ≤ s.map.stack.0 + s.map.stack.1)
  in_stack n l q =
      let p = placed_at n l q in
      let is = p.is in let w = p.within_it in
      let r = room in let lo = r.low in let h = r.high in let z = r.top in
      (omega arith, omega arith)

  local_placed : (n l : ℕ) → slice_get lengths n ≡ Some l → IsBased (base (0 + n)) (owned l) l
      × (base (0 + n) % 16 ≡ 0)
      × Apart (base (0 + n)) (owned l) s.map.text.0 (s.map.text.0 + s.map.text.1 - s.map.text.0)
  local_placed n l q =
      let z : n ≡ 0 + n = omega arith in
      let p = placed_at n l q in
      let is = p.is in
      let local = fo.holds.locals n l q in
      let r = room in let start = r.start in let end = r.end in let a = r.aligned in
      let w = in_stack n l q in let lo = w.0 in let hi = w.1 in
      let own = fo.aligned n (slice_get_within lengths n l q) in
      let at_aligned : at % alignment l ≡ 0 =
      ap (λ k. k % alignment l) (sym lies.is)
      ∙ multiple_of ((t.frame - frame.size) / frame.align) frame.align (alignment l) local.frame_aligned in
      let aligned : base n % alignment l ≡ 0 =
      ap (λ k. k % alignment l) is ∙ multiple_sum at (local_at frame n) (alignment l) at_aligned local.aligned in
      subst (λ k. IsBased (base k) (owned l) l × (base k % 16 ≡ 0)
      × Apart (base k) (owned l) s.map.text.0 (s.map.text.0 + s.map.text.1 - s.map.text.0)) z (
        record { from = omega arith; to = omega arith; owned_is = refl; aligned = aligned },
        omega arith,
        off_text (base n) (owned l) lo hi legal.apart.0.1.1.0,
      )
    where
      off_text : (b o : ℕ) → s.map.stack.0 ≤ b → b + o ≤ s.map.stack.0 + s.map.stack.1
          → Apart s.map.text.0 s.map.text.1 s.map.stack.0 s.map.stack.1
          → Apart b o s.map.text.0 (s.map.text.0 + s.map.text.1 - s.map.text.0)
      off_text b o lo hi (inl before) = inr (omega arith)
      off_text b o lo hi (inr behind) = inl (omega arith)

  local_clear : (n l : ℕ) → slice_get lengths n ≡ Some l → IsClear shapes (base (0 + n)) (owned l)
  local_clear n l q =
      let z : n ≡ 0 + n = omega arith in
      let p = placed_at n l q in
      let is = p.is in let w = p.within_it in
      let r = room in let lo = r.low in let h = r.high in
      subst (λ k. IsClear shapes (base k) (owned l)) z
      (clear_part shapes s.map.stack.0 (t.frame - s.map.stack.0) (base n) (owned l) (omega arith) (omega arith)
      f.stack.clear)

  locals_apart : (j k l l' : ℕ) → slice_get lengths j ≡ Some l → slice_get lengths k ≡ Some l' → (j ≡ k → ⊥)
      → Apart (base (0 + j)) (owned l) (base (0 + k)) (owned l')
  locals_apart j k l l' g h d =
      let zj : j ≡ 0 + j = omega arith in
      let zk : k ≡ 0 + k = omega arith in
      subst (λ x. Apart (base x) (owned l) (base (0 + k)) (owned l')) zj
      (subst (λ x. Apart (base j) (owned l) (base x) (owned l')) zk
      (moved (base_is j) (base_is k) (fo.holds.apart j k l l' g h d)))
    where
      moved : base j ≡ at + local_at frame j → base k ≡ at + local_at frame k
          → Apart (local_at frame j) (owned l) (local_at frame k) (owned l')
          → Apart (base j) (owned l) (base k) (owned l')
      moved u v (inl before) = inl (omega arith)
      moved u v (inr behind) = inr (omega arith)

  abbrev out : Store
  out = added s fun at t.mem 0 lengths

  abbrev news : List Shape
  news = locals_from s fun at 0 lengths

  shapes_are : out.memory.shapes ≡ shapes ++ news
  shapes_are = shapes_added s fun at lengths 0 t.mem

  objects_fit : ObjectsFit (functions_of s) (addresses_of s.map) out.memory after.mem
  objects_fit = objects_added s fun at after.mem lengths 0 t.mem objects_old local_placed local_clear locals_apart

  -- ---- what lies where, with them

  -- a new object
  record IsNew (i : ℕ) (h : Shape) : Type 0 where
    number : ℕ
    long : ℕ
    is : i ≡ length shapes + number
    one : slice_get lengths number ≡ Some long
    base_here : h.base ≡ base number
    owned_here : h.owned ≡ owned long

  which : (i : ℕ) (h : Shape) → slice_get (shapes ++ news) i ≡ Some h → (slice_get shapes i ≡ Some h) ⊎ IsNew i h
  which i h q = elim (either_part shapes news i h q) as (λ _. (slice_get shapes i ≡ Some h) ⊎ IsNew i h) [
    | inl old ↦ inl old
    | inr k ↦
        let l = is_local s fun at lengths 0 k.0 h k.2 in
        let z : 0 + k.0 ≡ k.0 = omega arith in
        inr (record {
          number = k.0;
          long = l.0;
          is = k.1;
          one = l.1;
          base_here = sym (ap (λ (x : Shape). x.base) l.2) ∙ ap base z;
          owned_here = sym (ap (λ (x : Shape). x.owned) l.2);
        })
  ]

  -- what no old object has and the frame doesn't
  clear_more : (from n : ℕ) → IsClear shapes from n
      → ((i : ℕ) (h : Shape) → IsNew i h → Apart h.base h.owned from n) → IsClear (shapes ++ news) from n
  clear_more from n old new = record {
    clear = λ i h q x. elim (which i h q) as (λ _. Apart h.base h.owned from n) [
      | inl o ↦ old.clear i h o x
      | inr k ↦ new i h k
    ];
  }

  -- where a new one lies
  record Lies_new (h : Shape) : Type 0 where
    past : at + frame.saved ≤ h.base
    under : h.base + h.owned ≤ t.frame
    below : h.base < t.frame

  new_lies : (i : ℕ) (h : Shape) → IsNew i h → Lies_new h
  new_lies i h k =
      let p = placed_at k.number k.long k.one in
      let is = p.is in let b = k.base_here in let o = k.owned_here in
      let past_it = p.past in let w = p.within_it in let q = p.inside in
      let r = room in let hi = r.high in
      record { past = omega arith; under = omega arith; below = omega arith }

  off_new : (from n : ℕ) → Apart from n s.map.stack.0 s.map.stack.1 → (i : ℕ) (h : Shape) → IsNew i h
      → Apart h.base h.owned from n
  off_new from n apart i h k =
      let l = new_lies i h k in
      let r = room in
      by (l.past) (l.under) r.low r.top apart
    where
      by : at + frame.saved ≤ h.base → h.base + h.owned ≤ t.frame → s.map.stack.0 ≤ at → t.frame ≤ stack_top s
          → Apart from n s.map.stack.0 s.map.stack.1 → Apart h.base h.owned from n
      by p u l z (inl before) = inr (omega arith)
      by p u l z (inr behind) = inl (omega arith)

  same_more : Same shapes (shapes ++ news)
  same_more = record {
    forth = λ i g q. (
      g,
      get_front shapes news i g q,
      record { base = refl; owned = refl; length = refl; stayed = λ x. x },
    );
  }

  still_at : (o : ℕ) (need : ObjectNeed) (b : ℕ) → IsAt shapes o need b → IsAt (shapes ++ news) o need b
  still_at o need b i = record {
    shape = i.shape;
    there = get_front shapes news o i.shape i.there;
    length = i.length;
    base_is = i.base_is;
    stays = i.stays;
  }

  -- ---- the new frame

  get_behind : {A : Type 0} (xs ys : List A) (k : ℕ) → slice_get (xs ++ ys) (length xs + k) ≡ slice_get ys k
  get_behind [] ys k = let z : 0 + k ≡ k = omega arith in ap (slice_get ys) z
  get_behind (x ∷ xs) ys k =
      let z : suc (length xs) + k ≡ suc (length xs + k) = omega arith in
      ap (slice_get (x ∷ (xs ++ ys))) z ∙ get_behind xs ys k

  abbrev needs_here : List ObjectNeed
  needs_here = locals_by (slice_get s.needs.functions fun)

  local_length : (n : ℕ) (need : ObjectNeed) → slice_get needs_here n ≡ Some need
      → slice_get lengths n ≡ Some need.length
  local_length n need q =
      ap (λ xs. slice_get xs n) fo.needed ∙ slice_get-map (λ (x : ObjectNeed). x.length) needs_here n
      ∙ ap (option_map (λ (x : ObjectNeed). x.length)) q

  locals_fit : LocalsFit s (shapes ++ news) fun (length shapes) at
  locals_fit = record {
    each = λ n need q.
        let z : 0 + n ≡ n = omega arith in
        record {
          shape = local_shape need.length (base (0 + n));
          there = get_behind shapes news n ∙ local_is s fun at lengths 0 n need.length (local_length n need q);
          length = refl;
          base_is = ap base z;
          stays = tt;
        };
  }

  many : length needs_here ≡ length lengths
  many = sym (ap length fo.needed ∙ length-map needs_here (λ (x : ObjectNeed). x.length))

  frame_fits : FrameFits s (shapes ++ news) after.mem fun (length shapes) at t.frame link
  frame_fits = record {
    frame = frame;
    is = fo.is;
    for_homes = fo.for_homes;
    below = place;
    aligned = room.aligned;
    link_kept = e.link_kept;
    stack_kept = e.stack_kept;
    clear = clear_more at frame.saved
        (record { clear = λ i h q x. off_old h.base h.owned (f.stack.clear.clear i h q x) })
        (λ i h k. let l = new_lies i h k in let p = l.past in inr p);
    alone = record {
      others = λ i h q x under. elim (which i h q) as (λ _. Apart h.base h.owned s.map.stack.0
          (t.frame - s.map.stack.0) ⊎ ((length shapes ≤ i) × (i < length shapes + length needs_here))) [
            | inl o ↦ inl (f.stack.clear.clear i h o x)
            | inr k ↦
                let is = k.is in
                let less = slice_get_within lengths k.number k.long k.one in
                let count = many in
                inr (omega arith, omega arith)
          ];
    };
  }

  -- ---- frames above, with the new objects
  frame_more : (fun' first at' above link : ℕ) → t.frame ≤ at'
      → FrameFits s shapes after.mem fun' first at' above link
      → FrameFits s (shapes ++ news) after.mem fun' first at' above link
  frame_more fun' first at' above link up g = record {
    frame = g.frame;
    is = g.is;
    for_homes = g.for_homes;
    below = g.below;
    aligned = g.aligned;
    link_kept = g.link_kept;
    stack_kept = g.stack_kept;
    clear = clear_more at' g.frame.saved g.clear
        (λ i h k. let l = new_lies i h k in let u = l.under in inl (omega arith));
    alone = record {
      others = λ i h q x under. elim (which i h q) as (λ _. Apart h.base h.owned s.map.stack.0
          (above - s.map.stack.0)
          ⊎ ((first ≤ i) × (i < first + length (locals_by (slice_get s.needs.functions fun'))))) [
            | inl o ↦ g.alone.others i h o x under
            | inr k ↦ absurd (never i h (new_lies i h k) under)
          ];
    };
  }
    where
      never : (i : ℕ) (h : Shape) → Lies_new h → Apart h.base h.owned s.map.stack.0 (at' - s.map.stack.0) → ⊥
      never i h l (inl before) =
          let p = l.past in let r = room in let lo = r.low in let z = fo.for_homes.saved in absurd (omega arith)
      never i h l (inr behind) =
          let q = l.below in let r = room in let lo = r.low in let hi = r.high in absurd (omega arith)

  frames_more : (registers : Registers) (fun' first at' : ℕ) (cs : List Caller) → t.frame ≤ at'
      → FramesFit s shapes after.mem registers fun' first at' cs
      → FramesFit s (shapes ++ news) after.mem registers fun' first at' cs
  frames_more registers fun' first at' [] up g = frame_more fun' first at' (stack_top s) s.stub up g
  frames_more registers fun' first at' (d ∷ ds) up g =
      let behind = behind_return s after.mem fun' at' registers in
      let l = within s.map.stack.0 d.frame at' g.0.frame g.0.below in
      let rise = l.to in (
        frame_more fun' first at' d.frame (s.back d.fun d.rest) up g.0,
        record { each = λ n need q. still_at (d.first + n) need _ (g.1.each n need q) },
        homes_later s shapes (shapes ++ news) same_more after.mem behind (homes_of s d.fun) (s.numbers d.fun)
            (slots_from (slice_get s.map.frames d.fun) (homes_of s d.fun) d.frame) (Waits s d) d.vars g.2,
        frames_more behind d.fun d.first d.frame ds (omega arith) g.3,
      )

  -- ---- all of it

  -- with the calls in progress
  module _ (cs : List Caller) (frames : FramesFit s (shapes ++ news) after.mem (registers_in after) fun
      (length shapes) at cs) (code : List TacInstr) (vars : List (Option Value))
      (homes : HomesFit (functions_of s) (addresses_of s.map) shapes after.mem (registers_in after) (homes_of s fun)
      (s.numbers fun) (slots_from (Some frame) (homes_of s fun) at)
      (IsLive s (record { running = record { fun = fun; callers = cs }; rest = code })) vars) where
    abbrev at_entry : Point
    at_entry = record { running = record { fun = fun; callers = cs }; rest = code }

    abbrev all_shapes : List Shape → Type 0
    all_shapes xs =
        GlobalsFit s xs × TableFits s.needs s.map out.heap xs s.loaded.mem after.mem
        × HeapFits (addresses_of s.map) out.heap xs after.mem × IsClear xs s.map.stack.0 (at - s.map.stack.0)
        × LocalsFit s xs fun (length shapes) at
        × HomesFit (functions_of s) (addresses_of s.map) xs after.mem (registers_in after) (homes_of s fun)
        (s.numbers fun) (slots_from (slice_get s.map.frames fun) (homes_of s fun) at)
        (IsLive s at_entry) vars
        × FramesFit s xs after.mem (registers_in after) fun (length shapes) at cs

    table_fits : TableFits s.needs s.map out.heap (shapes ++ news) s.loaded.mem after.mem
    table_fits =
        let g = table_by shapes m.mem after.mem f.objects.areas e.areas s.needs s.map t.mem.heap s.loaded.mem
        legal.table_aligned (part_still s.map.table.0 s.map.table.1 legal.table_aligned legal.apart.1.0.1.0) f.table in
        subst (λ h. TableFits s.needs s.map h (shapes ++ news) s.loaded.mem after.mem)
        (sym (heap_added s fun at lengths 0 t.mem)) (record {
          room = g.room;
          before = g.before;
          behind = g.behind;
          heap = g.heap;
          clear = clear_more s.map.table.0 s.map.table.1 g.clear
              (off_new s.map.table.0 s.map.table.1 legal.apart.1.0.1.0);
        })

    heap_fits : HeapFits (addresses_of s.map) out.heap (shapes ++ news) after.mem
    heap_fits =
        let a = addresses_of s.map in
        let g = heap_aside at frame.saved m.mem after.mem e.same a s.map.heap.1 refl t.mem.heap shapes
        (off_part s.map.heap.0 s.map.heap.1 legal.apart.1.1.0.0) f.heap in
        let from = g.from in
        let to = g.to in
        subst (λ h. HeapFits (addresses_of s.map) h (shapes ++ news) after.mem)
        (sym (heap_added s fun at lengths 0 t.mem)) (record {
          from = from;
          to = to;
          zeros = g.zeros;
          untagged = g.untagged;
          clear = clear_more t.mem.heap (s.map.heap.0 + s.map.heap.1 - t.mem.heap) g.clear
              (off_new t.mem.heap (s.map.heap.0 + s.map.heap.1 - t.mem.heap)
              (rest_of from to legal.apart.1.1.0.0));
        })
      where
        rest_of : s.map.heap.0 ≤ t.mem.heap → t.mem.heap ≤ s.map.heap.0 + s.map.heap.1
            → Apart s.map.heap.0 s.map.heap.1 s.map.stack.0 s.map.stack.1
            → Apart t.mem.heap (s.map.heap.0 + s.map.heap.1 - t.mem.heap) s.map.stack.0 s.map.stack.1
        rest_of l h (inl before) = inl (omega arith)
        rest_of l h (inr behind) = inr (omega arith)

    stack_clear : IsClear (shapes ++ news) s.map.stack.0 (at - s.map.stack.0)
    stack_clear =
        let r = room in let lo = r.low in let hi = r.high in
        clear_more s.map.stack.0 (at - s.map.stack.0)
        (clear_part shapes s.map.stack.0 (t.frame - s.map.stack.0) s.map.stack.0 (at - s.map.stack.0) (omega arith)
        (omega arith) f.stack.clear)
        (λ i h k. let l = new_lies i h k in let p = l.past in inr (omega arith))

    homes_fit : HomesFit (functions_of s) (addresses_of s.map) (shapes ++ news) after.mem (registers_in after)
        (homes_of s fun) (s.numbers fun) (slots_from (slice_get s.map.frames fun) (homes_of s fun) at)
        (IsLive s at_entry) vars
    homes_fit =
        subst (λ o. HomesFit (functions_of s) (addresses_of s.map) (shapes ++ news) after.mem (registers_in after)
        (homes_of s fun) (s.numbers fun) (slots_from o (homes_of s fun) at)
        (IsLive s at_entry) vars) (sym fo.is)
        (homes_later s shapes (shapes ++ news) same_more after.mem (registers_in after) (homes_of s fun) (s.numbers fun)
        (slots_from (Some frame) (homes_of s fun) at) (IsLive s at_entry) vars homes)

    all : all_shapes (shapes ++ news)
    all = (
      record { each = λ k b need q g. still_at k need b (f.globals.each k b need q g) },
      table_fits,
      heap_fits,
      stack_clear,
      locals_fit,
      homes_fit,
      frames,
    )

    enters : Fits s (Some at_entry) (entered s fun at lengths vars t) after
    enters =
        let k = subst all_shapes (sym shapes_are) all in
        record {
          registers = e.registers;
          objects = objects_fit;
          globals = k.0;
          text = twice s.map.text.0 s.map.text.1 s.loaded.mem m.mem after.mem f.text
              (part_still s.map.text.0 s.map.text.1 legal.text_aligned legal.apart.0.1.1.0);
          table = k.1;
          heap = k.2;
          stack = record { stack = e.stack; table = e.table ∙ f.stack.table; clear = k.3 };
          calls = (k.4, k.5, k.6);
          places = λ x. e.same.places x ∙ f.places x;
        }

-- ---- calls

module _ (s : Setting) (legal : IsLegal s.needs s.map) (caller : Running) (left rest : List TacInstr) (to : Option ℕ)
    (t : State Store) (m : Machine) (f : Fits s (Some (record { running = caller; rest = left })) t m)
    (keeps : CallersKeep s (caller_of caller rest to t ∷ caller.callers))
    (waits : (temp : ℕ) → Waits s (caller_of caller rest to t) temp
    → IsLive s (record { running = caller; rest = left }) temp)
    (fun : ℕ) (lengths : List ℕ) (frame : Frame) (fo : IsFrameOf s fun lengths frame) (at : ℕ)
    (place : frame_within s.map.stack.0 t.frame (Some frame) ≡ Some at) (after : Machine)
    (e : HasEntered s fun at t.frame (s.back caller.fun rest) frame m after) where
  abbrev calling : Option Point
  calling = Some (record { running = caller; rest = left })

  abbrev c : Caller
  c = caller_of caller rest to t

  abbrev there : List Shape
  there = t.mem.memory.shapes

  abbrev grown : List Shape
  grown = there ++ locals_from s fun at 0 lengths

  top_below : t.frame ≤ stack_top s
  top_below = under_top s there m.mem (registers_in m) caller.fun t.first t.frame caller.callers f.calls.2

  abbrev behind_it : Registers
  behind_it = behind_return s after.mem fun at (registers_in after)

  abbrev slots : ℕ
  slots = slots_from (slice_get s.map.frames caller.fun) (homes_of s caller.fun) t.frame

  waiting : HomesFit (functions_of s) (addresses_of s.map) there m.mem (registers_in m) (homes_of s caller.fun)
      (s.numbers caller.fun) slots (Waits s c) t.vars
  waiting = record {
    one_each = f.calls.1.one_each;
    kept = λ k h l n q. f.calls.1.kept k h (waits k l) n q;
    numbered = λ k n l q. f.calls.1.numbered k n (waits k l) q;
    known = λ k l. f.calls.1.known k (waits k l);
  }

  -- in the new memory
  callers_there : HomesFit (functions_of s) (addresses_of s.map) there after.mem behind_it (homes_of s caller.fun)
      (s.numbers caller.fun) slots (Waits s c) t.vars
      × FramesFit s there after.mem behind_it caller.fun t.first t.frame caller.callers
  callers_there =
      let r = room s legal calling t m f top_below fun lengths frame fo at place
      (s.back caller.fun rest) after e in let h = r.high in let q = r.saved in
      calls_kept s there m.mem after.mem f.objects.areas e.areas t.frame
      (λ fun' first at' above link g up. elsewhere at frame.saved at' g.frame.saved m.mem after.mem r.aligned g.aligned
      (inl (omega arith)) e.same)
      IsKept (registers_in m) behind_it e.kept caller.fun t.first t.frame (omega arith) caller.callers (functions_of s)
      (addresses_of s.map) (Waits s c) t.vars keeps.0 (kept_only s caller.callers keeps.1) waiting f.calls.2

  frames_there : FramesFit s grown after.mem (registers_in after) fun (length there) at (c ∷ caller.callers)
  frames_there = (
    frame_fits s legal calling t m f top_below fun lengths frame fo at place
        (s.back caller.fun rest) after e,
    record {
      each = λ n need q. still_at s legal calling t m f top_below fun lengths frame fo at place
          (s.back caller.fun rest) after e (t.first + n) need _ (f.calls.0.each n need q);
    },
    homes_later s there grown (same_more s legal calling t m f top_below fun lengths frame fo at place
        (s.back caller.fun rest) after e) after.mem behind_it (homes_of s caller.fun) (s.numbers caller.fun) slots
        (Waits s c) t.vars callers_there.0,
    frames_more s legal calling t m f top_below fun lengths frame fo at place
        (s.back caller.fun rest) after e behind_it caller.fun t.first t.frame caller.callers (omega arith)
        callers_there.1,
  )

pub enters_fit_law : EntersFit
enters_fit_law s legal caller left rest to t m f keeps waits fun lengths frame fo at place after e code vars homes =
    enters s legal (Some (record { running = caller; rest = left })) t m f
    (top_below s legal caller left rest to t m f keeps waits fun lengths frame fo at place after e) fun lengths frame fo
    at place (s.back caller.fun rest) after e (caller_of caller rest to t ∷ caller.callers)
    (frames_there s legal caller left rest to t m f keeps waits fun lengths frame fo at place after e) code vars homes

-- ---- the first function

pub first_enters_fit_law : FirstEntersFit
first_enters_fit_law s legal t m f fun lengths frame fo at place after e code vars homes =
    let top_is : t.frame ≤ stack_top s = let is = f.calls in omega arith in
    enters s legal None t m f top_is fun lengths frame fo at place s.stub after e []
    (subst (λ a. FrameFits s (t.mem.memory.shapes ++ locals_from s fun at 0 lengths) after.mem fun
    (length t.mem.memory.shapes) at a s.stub) f.calls
    (frame_fits s legal None t m f top_is fun lengths frame fo at place s.stub after e)) code vars homes
