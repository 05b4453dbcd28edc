-- An object more.
use Rattle.std.proofs.Common.{◌≡◌, ℕ, zero, suc, ◌+◌, ◌-◌, ◌/◌, ◌%◌, ◌<◌, ◌≤◌, Bool, true, false, nat_lt, List, [], ◌∷◌}
use Rattle.std.proofs.Common.{◌++◌, length, Some, None, Ok, refl, sym, ap, ◌∙◌, subst, inl, arith}
use Rattle.std.specs.Prelude.{slice_get, if◌then◌else◌}
use Rattle.std.proofs.lemmas.Bool.Decides.{nat_tests}
use Rattle.std.proofs.Math.Nat.{mul-mod_left}
use Rattle.cap_concentrate.specs.Rounding.{alignment, owned, rounded_up}
use Rattle.cap_concentrate.proofs.Least.{rounded_up_ge, rounded_up_near}
use Rattle.cap_concentrate.proofs.Owned.{owned_ge}
use Rattle.cap_ops.specs.Permissions.{data_permissions}
use Rattle.obj_mem.specs.declared.ending.Reason.TheVariants as R
use Rattle.obj_mem.specs.Values.{Value, Live, Addresses}
use Rattle.obj_mem.specs.Objects.{Active, Shape, Memory, Placed, Strict, add, blank}
use Rattle.obj_mem.specs.Access.{unspecified}
use Rattle.obj_mem.specs.Heap.{strict_heap, allocation_alignment, allocated, placed_allocate, allocate}
use Rattle.obj_mem.specs.Legal.{Apart}
use Rattle.obj_mem.specs.Agreement.{Paired, IsNotReturned, SameShape, Answers}
use Rattle.obj_mem.specs.Standing.{IsBased, IsGood, IsSpread}
use Rattle.obj_mem.proofs.Powers.{power_one, length_aligned}
use Rattle.obj_mem.proofs.Units.{memory_agrees_law}
use Rattle.cheri_c_sem.specs.Modes.{Store, taken}
use Rattle.placement.specs.Relations.{Moved}
use Rattle.placement.specs.Memories.{KeepsShapes, KeepsStack, IsClear, IsLaid, Stand, memories}
use Rattle.placement.proofs.Shapes.{swap, smaller, kept_same, clear_part, there_later, alive_later}
use Rattle.placement.proofs.Good.{not_below, whole_good}
use Rattle.placement.proofs.Stored.{blank_content, content_more}
use Rattle.placement.proofs.Changes.{contents_later}

-- ---- lists with one item more

pub data Where (t : List Shape) (h : Shape) (i : ℕ) (g : Shape) : Type 0 where
  old : slice_get t i ≡ Some g → Where t h i g
  new : i ≡ length t → h ≡ g → Where t h i g

pub get_last : (t : List Shape) (h : Shape) (i : ℕ) (g : Shape) → slice_get (t ++ h ∷ []) i ≡ Some g → Where t h i g
get_last [] h zero g e = new refl cc
get_last [] h (suc i) g e = absurd cc
get_last (x ∷ t) h zero g e = old e
get_last (x ∷ t) h (suc i) g e = go (get_last t h i g e)
  where
    go : Where t h i g → Where (x ∷ t) h (suc i) g
    go (old f) = old f
    go (new f q) = new (ap suc f) q

pub get_front : (s xs : List Shape) (i : ℕ) (g : Shape) → slice_get s i ≡ Some g → slice_get (s ++ xs) i ≡ Some g
get_front [] xs i g e = absurd cc
get_front (x ∷ s) xs zero g e = e
get_front (x ∷ s) xs (suc i) g e = get_front s xs i g e

pub last_is : (s : List Shape) (h : Shape) → slice_get (s ++ h ∷ []) (length s) ≡ Some h
last_is [] h = refl
last_is (x ∷ s) h = last_is s h

pub as_long : (s t : List Shape) → Paired SameShape s t → length s ≡ length t
as_long [] [] e = refl
as_long [] (h ∷ t) e = absurd e
as_long (g ∷ s) [] e = absurd e
as_long (g ∷ s) (h ∷ t) e = ap suc (as_long s t e.1)

pub keeps_more : (s : List Shape) (h : Shape) → KeepsShapes s (s ++ h ∷ [])
keeps_more s h = record { kept = λ i g e. (g, get_front s (h ∷ []) i g e, kept_same g) }

pub stack_more : (stack size : ℕ) (s : List Shape) (h : Shape) → Apart h.base h.owned stack size
    → KeepsStack stack size s (s ++ h ∷ [])
stack_more stack size s h x = record { fresh = λ i g e f y. go i g e (get_last s h i g f) }
  where
    go : (i : ℕ) (g : Shape) → slice_get s i ≡ None → Where s h i g → Apart g.base g.owned stack size
    go i g e (old f) = absurd cc
    go i g e (new f q) = subst (λ v. Apart v.base v.owned stack size) q x

pub spread_add : (t : List Shape) (functions : ℕ) (a : Addresses) (h : Shape) → IsSpread t functions a
    → IsBased h.base h.owned h.length → IsClear t h.base h.owned → Apart h.base h.owned a.text (a.text_end - a.text)
    → IsSpread (t ++ h ∷ []) functions a
spread_add t functions a h sp p c x = record {
  placed = λ i g e. is_placed i g (get_last t h i g e);
  apart = λ i j g k e f d y z. are_apart i j g k d y z (get_last t h i g e) (get_last t h j k f);
  off_text = λ i g e. is_off i g (get_last t h i g e);
  in_text = sp.in_text;
  text_from = sp.text_from;
  text_to = sp.text_to;
  distinct = sp.distinct;
}
  where
    is_placed : (i : ℕ) (g : Shape) → Where t h i g → IsBased g.base g.owned g.length
    is_placed i g (old e) = sp.placed i g e
    is_placed i g (new e q) = subst (λ v. IsBased v.base v.owned v.length) q p

    is_off : (i : ℕ) (g : Shape) → Where t h i g → Apart g.base g.owned a.text (a.text_end - a.text)
    is_off i g (old e) = sp.off_text i g e
    is_off i g (new e q) = subst (λ v. Apart v.base v.owned a.text (a.text_end - a.text)) q x

    are_apart : (i j : ℕ) (g k : Shape) → (i ≡ j → ⊥) → IsNotReturned g.life → IsNotReturned k.life → Where t h i g
        → Where t h j k → Apart g.base g.owned k.base k.owned
    are_apart i j g k d y z (old e) (old f) = sp.apart i j g k e f d y z
    are_apart i j g k d y z (old e) (new f q) = subst (λ v. Apart g.base g.owned v.base v.owned) q (c.clear i g e y)
    are_apart i j g k d y z (new e q) (old f) = subst (λ v. Apart v.base v.owned k.base k.owned) q
        (swap k.base k.owned h.base h.owned (c.clear j k f z))
    are_apart i j g k d y z (new e q) (new f r) = absurd (d (e ∙ sym f))

pub clear_add : (t : List Shape) (h : Shape) (from n : ℕ) → IsClear t from n → Apart h.base h.owned from n
    → IsClear (t ++ h ∷ []) from n
clear_add t h from n c x = record { clear = λ i g e y. go i g y (get_last t h i g e) }
  where
    go : (i : ℕ) (g : Shape) → IsNotReturned g.life → Where t h i g → Apart g.base g.owned from n
    go i g y (old e) = c.clear i g e y
    go i g y (new e q) = subst (λ v. Apart v.base v.owned from n) q x

-- ---- the heap

not_less : (a b : ℕ) → b ≤ a → nat_lt a b ≡ false
not_less a b h = grind (arith, nat_tests)

-- an alignment of an allocation
own_from : (n : ℕ) → 16 ≤ allocation_alignment n
own_from n = omega arith

own_aligned : (n next : ℕ) → rounded_up next (allocation_alignment n) % alignment n ≡ 0
own_aligned n next =
    length_aligned (record { length = n; align = 1; permissions = 125 }) power_one
    (rounded_up next (allocation_alignment n))
    (mul-mod_left ((next + (allocation_alignment n - 1)) / allocation_alignment n) (allocation_alignment n))

-- Where the strict run has room for an allocation the placed one has it too
record HasRoom (a : Addresses) (next sum n : ℕ) : Type 0 where
  start : ℕ
  given : (m : Memory) → placed_allocate a m next n ≡ allocated (Placed a) m n start (start + owned n)
  from : next ≤ start
  to : start + owned n ≤ a.heap_end
  aligned : start % alignment n ≡ 0
  sums : start + owned n ≤ a.heap + (sum + owned n + allocation_alignment n)

has_room : (a : Addresses) (next sum n : ℕ) → a.heap + 16777216 ≤ a.heap_end → next ≤ a.heap + sum
    → sum + owned n + allocation_alignment n ≤ 16777216 → HasRoom a next sum n
has_room a next sum n enough least fits =
    let al = own_from n in
    let pos : 0 < allocation_alignment n = omega (arith, al) in
    let u = rounded_up_ge next (allocation_alignment n) pos in
    let v = rounded_up_near next (allocation_alignment n) pos in
    let o = owned_ge n in
    let to : rounded_up next (allocation_alignment n) + owned n ≤ a.heap_end = omega (arith, v, fits, enough, least) in
    record {
      start = rounded_up next (allocation_alignment n);
      given = λ m. rw (
        not_less (a.heap_end - a.heap) n (omega (arith, fits, o, enough)),
        not_less a.heap_end
            (rounded_up next (allocation_alignment n) + owned n) to,
      ) refl;
      from = u;
      to = to;
      aligned = own_aligned n next;
      sums = omega (arith, v, least);
    }

module _ (globals functions : ℕ) (a : Addresses) (stack size : ℕ) (laid : IsLaid a stack size)
    (objects first frame : ℕ) (s p : Store) (e : Stand globals functions a stack size objects first frame s p) where
  abbrev New : ℕ → ℕ → Shape
  New n base = record { length = n; owned = owned n; life = Active; base = base }

  allocated_moves : (n : ℕ) → s.heap + owned n + allocation_alignment n ≤ 16777216 → (r : HasRoom a p.heap s.heap n)
      → Moved (memories globals functions a stack size) objects first frame s p
      (record { memory = add Strict s.memory n 0; heap = s.heap + owned n + allocation_alignment n })
      (record { memory = add (Placed a) p.memory n r.start; heap = r.start + owned n })
  allocated_moves n fits r =
      let t = p.memory.shapes in
      let h = New n r.start in
      let from = r.from in
      let to = r.to in
      let hf = e.heap_from in
      let lf = laid.heap_from in
      let lt = laid.heap_to in
      let based : IsBased h.base h.owned h.length =
      record { from = omega arith; to = omega arith; owned_is = refl; aligned = r.aligned } in
      let clear : IsClear t h.base h.owned = clear_part t p.heap (a.heap_end - p.heap) r.start (owned n) from
      (omega arith) e.heap_clear in
      let off_text = swap a.text (a.text_end - a.text) r.start (owned n)
      (smaller a.text (a.text_end - a.text) a.heap (a.heap_end - a.heap) r.start (owned n) (omega arith)
      (omega arith) (swap a.heap (a.heap_end - a.heap) a.text (a.text_end - a.text) laid.heap_text)) in
      let off_stack = swap stack size r.start (owned n)
      (smaller stack size a.heap (a.heap_end - a.heap) r.start (owned n) (omega arith) (omega arith)
      (swap a.heap (a.heap_end - a.heap) stack size laid.heap_stack)) in
      let frame_to = e.frame_to in
      let keeps = keeps_more s.memory.shapes (New n 0) in (
        record {
          same = (memory_agrees_law a).adds s.memory p.memory e.same n 0 r.start;
          spread = spread_add t functions a h e.spread based clear off_text;
          contents = content_more _ functions s.memory.contents (blank Strict (owned n))
              (contents_later s.memory.shapes _ functions keeps s.memory.contents e.contents)
              (blank_content _ functions (owned n));
          globals_there = λ i l. there_later s.memory.shapes _ keeps i (e.globals_there i l);
          locals_alive = λ i l. alive_later s.memory.shapes _ keeps (first + i) (e.locals_alive i l);
          heap_from = omega arith;
          heap_least = r.sums;
          heap_to = to;
          heap_clear = clear_add t h (r.start + owned n) (a.heap_end - (r.start + owned n))
              (clear_part t p.heap (a.heap_end - p.heap) (r.start + owned n) (a.heap_end - (r.start + owned n))
              (omega arith) (omega arith) e.heap_clear) (inl (omega arith));
          frame_to = frame_to;
          stack_clear = clear_add t h stack (frame - stack) e.stack_clear
              (smaller r.start (owned n) stack size stack (frame - stack) (omega arith) (omega arith) off_stack);
        },
        record { strict = keeps; placed = keeps_more t h; kept_stack = stack_more stack size t h off_stack },
      )

  abbrev AllocatesAlike : Value × Store → Value × Store → Type 0
  AllocatesAlike x y = (x.0 ≡ y.0) × IsGood x.1.memory.shapes functions x.0 × Moved
      (memories globals functions a stack size) objects first frame s p x.1 y.1

  pub allocations : (n : ℕ) → Answers AllocatesAlike (taken (allocate Strict s.memory s.heap n))
      (taken (allocate (Placed a) p.memory p.heap n))
  allocations n = go (nat_lt strict_heap (s.heap + owned n + allocation_alignment n)) refl
    where
      total : ℕ
      total = s.heap + owned n + allocation_alignment n

      go : (b : Bool) → nat_lt strict_heap total ≡ b
          → Answers AllocatesAlike
          (taken (if b then unspecified R.Heap else Ok (allocated Strict s.memory n 0 total)))
          (taken (Ok (placed_allocate a p.memory p.heap n)))
      go true f = tt
      go false f =
          let fits : total ≤ 16777216 = not_below 16777216 total f in
          let r = has_room a p.heap s.heap n laid.enough e.heap_least fits in
          let o = owned_ge n in
          let length_same : length s.memory.shapes ≡ length p.memory.shapes =
          as_long s.memory.shapes p.memory.shapes e.same.shapes in
          let good = whole_good (s.memory.shapes ++ New n 0 ∷ []) functions (length s.memory.shapes) data_permissions
          (New n 0) (last_is s.memory.shapes (New n 0)) refl (omega (arith, o, fits)) (omega arith) in
          subst (λ z. Answers AllocatesAlike (taken (Ok (allocated Strict s.memory n 0 total))) (taken (Ok z)))
          (sym (r.given p.memory))
          (ap (λ k. Live k 0 (owned n) 0 data_permissions) length_same, good, allocated_moves n fits r)
