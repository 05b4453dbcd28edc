-- What a legal map gives the objects with which a program begins.
use Rattle.std.proofs.Common.{◌≡◌, ℕ, zero, suc, ◌+◌, ◌-◌, ◌<◌, List, [], ◌∷◌, ◌++◌, length, map, Some, refl, sym, ap}
use Rattle.std.proofs.Common.{◌∙◌, subst, arith}
use Rattle.std.specs.Prelude.{slice_get, slice_index_or}
use Rattle.cap_concentrate.specs.Rounding.{owned}
use Rattle.obj_mem.specs.declared.map.Map.{Map}
use Rattle.obj_mem.specs.Values.{Addresses}
use Rattle.obj_mem.specs.Objects.{Shape}
use Rattle.obj_mem.specs.Legal.{ObjectNeed, Needs, owned_of, Apart, AreApart, IsApartFrom, AllApart, placed_at}
use Rattle.obj_mem.specs.Legal.{AreAligned, objects_of, parts_of, IsLegal}
use Rattle.obj_mem.specs.Table.{addresses_of}
use Rattle.obj_mem.specs.Standing.{IsBased, IsSpread, HaveBounds}
use Rattle.placement.specs.Memories.{IsClear, IsLaid}
use Rattle.placement.proofs.Lists.{map_get, map_join}
use Rattle.placement.proofs.Shapes.{swap}
use Rattle.placement.proofs.Objects.{shapes_from}

abbrev pub length_needed : ObjectNeed → ℕ
length_needed n = n.length

abbrev extent_of : Shape → ℕ × ℕ
extent_of s = (s.base, s.owned)

-- ---- extents by their places

apart_from : (x y : ℕ × ℕ) (es : List (ℕ × ℕ)) (k : ℕ) → IsApartFrom x es → slice_get es k ≡ Some y → AreApart x y
apart_from x y [] k h e = absurd cc
apart_from x y (z ∷ es) zero h e = let q : z ≡ y = cc in subst (AreApart x) q h.0
apart_from x y (z ∷ es) (suc k) h e = apart_from x y es k h.1 e

apart_at : (es : List (ℕ × ℕ)) (j k : ℕ) (x y : ℕ × ℕ) → AllApart es → (j ≡ k → ⊥) → slice_get es j ≡ Some x
    → slice_get es k ≡ Some y → AreApart x y
apart_at [] j k x y h d e f = absurd cc
apart_at (z ∷ es) zero zero x y h d e f = absurd (d refl)
apart_at (z ∷ es) zero (suc k) x y h d e f = let q : z ≡ x =
    cc in subst (λ v. AreApart v y) q (apart_from z y es k h.0 f)
apart_at (z ∷ es) (suc j) zero x y h d e f = let q : z ≡ y = cc in let w =
    subst (λ v. AreApart v x) q (apart_from z x es j h.0 e) in swap y.0 y.1 x.0 x.1 w
apart_at (z ∷ es) (suc j) (suc k) x y h d e f = apart_at es j k x y h.1 (λ q. d (ap suc q)) e f

-- ---- objects at their bases

abbrev base_at : List ℕ → ℕ → ℕ
base_at bs k = slice_index_or bs k 0

-- the extents of objects whose bases are those of a list from a place on
extents_from : (ns : List ObjectNeed) (bs : List ℕ) (base : ℕ → ℕ) (k : ℕ) → ((j : ℕ) → base (k + j) ≡ base_at bs j)
    → AreAligned ns bs → map extent_of (shapes_from base k (map length_needed ns)) ≡ placed_at ns bs
extents_from [] [] base k h al = refl
extents_from [] (b ∷ bs) base k h al = absurd al
extents_from (n ∷ ns) [] base k h al = absurd al
extents_from (n ∷ ns) (b ∷ bs) base k h al =
    let z : k + 0 ≡ k = omega arith in
    let is : base k ≡ b = ap base (sym z) ∙ h 0 in
    let rest = extents_from ns bs base (suc k) (λ j. ap base (next k j) ∙ h (suc j)) al.1 in
    ap (λ v. (v, owned n.length) ∷ map extent_of (shapes_from base (suc k) (map length_needed ns))) is ∙ ap
    (λ es. (b, owned_of n) ∷ es) rest
  where
    next : (k j : ℕ) → suc k + j ≡ k + suc j
    next k j = omega arith

abbrev AllBased : List Shape → Type 0
AllBased [] = Unit {0}
AllBased (s ∷ t) = IsBased s.base s.owned s.length × AllBased t

based_from : (ns : List ObjectNeed) (bs : List ℕ) (base : ℕ → ℕ) (k : ℕ) → ((j : ℕ) → base (k + j) ≡ base_at bs j)
    → HaveBounds ns bs → AllBased (shapes_from base k (map length_needed ns))
based_from [] bs base k h e = tt
based_from (n ∷ ns) [] base k h e = absurd e
based_from (n ∷ ns) (b ∷ bs) base k h e =
    let z : k + 0 ≡ k = omega arith in
    let is : base k ≡ b = ap base (sym z) ∙ h 0 in (
      subst (λ v. IsBased v (owned n.length) n.length) (sym is) e.0.based,
      based_from ns bs base (suc k)
          (λ j. ap base (next k j) ∙ h (suc j)) e.1,
    )
  where
    next : (k j : ℕ) → suc k + j ≡ k + suc j
    next k j = omega arith

based_join : (s t : List Shape) → AllBased s → AllBased t → AllBased (s ++ t)
based_join [] t g h = h
based_join (x ∷ s) t g h = (g.0, based_join s t g.1 h)

based_get : (t : List Shape) (k : ℕ) (s : Shape) → AllBased t → slice_get t k ≡ Some s → IsBased s.base s.owned s.length
based_get [] k s h e = absurd cc
based_get (x ∷ t) zero s h e = let q : x ≡ s = cc in subst (λ z. IsBased z.base z.owned z.length) q h.0
based_get (x ∷ t) (suc k) s h e = based_get t k s h.1 e

same_from : (base : ℕ → ℕ) (j : ℕ) → base (0 + j) ≡ base j
same_from base j = let z : 0 + j ≡ j = omega arith in ap base z

-- ---- a legal map

entry_is : (es : List ℕ) (f : ℕ) → f < length es → (e : ℕ) × (slice_get es f ≡ Some e) × (slice_index_or es f 0 ≡ e)
entry_is [] f l = absurd (omega arith)
entry_is (e ∷ es) zero l = (e, refl, refl)
entry_is (e ∷ es) (suc f) l = entry_is es f (omega arith)

module _ (n : Needs) (m : Map) (legal : IsLegal n m) (exact_globals : HaveBounds n.globals m.globals)
    (exact_literals : HaveBounds n.literals m.literals) where
  abbrev a : Addresses
  a = addresses_of m

  -- the objects of a placed run at its start
  abbrev pub placed_shapes : List Shape
  placed_shapes = shapes_from (base_at m.globals) 0 (map length_needed n.globals) ++ shapes_from (base_at m.literals)
      0 (map length_needed n.literals)

  extents : map extent_of placed_shapes ≡ objects_of n m
  extents =
      map_join extent_of (shapes_from (base_at m.globals) 0 (map length_needed n.globals))
      (shapes_from (base_at m.literals) 0 (map length_needed n.literals))
      ∙ ap (λ es. es ++ map extent_of (shapes_from (base_at m.literals) 0 (map length_needed n.literals)))
      (extents_from n.globals m.globals (base_at m.globals) 0 (same_from (base_at m.globals)) legal.globals)
      ∙ ap (λ es. placed_at n.globals m.globals ++ es)
      (extents_from n.literals m.literals (base_at m.literals) 0 (same_from (base_at m.literals)) legal.literals)

  extent_is : (k : ℕ) (s : Shape) → slice_get placed_shapes k ≡ Some s
      → slice_get (objects_of n m) k ≡ Some (s.base, s.owned)
  extent_is k s e = subst (λ es. slice_get es k ≡ Some (s.base, s.owned)) extents
      (map_get extent_of placed_shapes k s e)

  all_based : AllBased placed_shapes
  all_based = based_join _ _
      (based_from n.globals m.globals (base_at m.globals) 0 (same_from (base_at m.globals)) exact_globals)
      (based_from n.literals m.literals (base_at m.literals) 0 (same_from (base_at m.literals)) exact_literals)

  -- the parts beside text, table, heap and stack are apart from these
  apart : AllApart (parts_of n m)
  apart = legal.apart

  off_text : (k : ℕ) (s : Shape) → slice_get placed_shapes k ≡ Some s → Apart s.base s.owned m.text.0 m.text.1
  off_text k s e = swap m.text.0 m.text.1 s.base s.owned
      (apart_from m.text (s.base, s.owned) (objects_of n m) k apart.0.1.1.1 (extent_is k s e))

  off_heap : (k : ℕ) (s : Shape) → slice_get placed_shapes k ≡ Some s → Apart s.base s.owned m.heap.0 m.heap.1
  off_heap k s e = swap m.heap.0 m.heap.1 s.base s.owned
      (apart_from m.heap (s.base, s.owned) (objects_of n m) k apart.1.1.0.1 (extent_is k s e))

  off_stack : (k : ℕ) (s : Shape) → slice_get placed_shapes k ≡ Some s → Apart s.base s.owned m.stack.0 m.stack.1
  off_stack k s e = swap m.stack.0 m.stack.1 s.base s.owned
      (apart_from m.stack (s.base, s.owned) (objects_of n m) k apart.1.1.1.0 (extent_is k s e))

  as_length : (x y : ℕ) → x + y - x ≡ y
  as_length x y = omega arith

  pub laid : IsLaid a m.stack.0 m.stack.1
  laid =
      let r = legal.in_range in
      let hl = legal.heap_least in
      let heap = as_length m.heap.0 m.heap.1 in
      let text = as_length m.text.0 m.text.1 in
      record {
        heap_from = r.2.2.0;
        heap_to = r.2.2.1;
        enough = omega arith;
        stack_from = r.2.2.2.0;
        stack_to = r.2.2.2.1;
        heap_stack = subst (λ v. Apart m.heap.0 v m.stack.0 m.stack.1) (sym heap) apart.1.1.0.0;
        heap_text = subst (λ v. Apart m.heap.0 v m.text.0 (a.text_end - a.text)) (sym heap)
            (subst (λ v. Apart m.heap.0 m.heap.1 m.text.0 v) (sym text)
            (swap m.text.0 m.text.1 m.heap.0 m.heap.1 apart.0.1.0));
        stack_text = subst (λ v. Apart m.stack.0 m.stack.1 m.text.0 v) (sym text)
            (swap m.text.0 m.text.1 m.stack.0 m.stack.1 apart.0.1.1.0);
      }

  pub spread : IsSpread placed_shapes (length n.functions) a
  spread =
      let r = legal.in_range in
      let text = as_length m.text.0 m.text.1 in
      record {
        placed = λ k s e. based_get placed_shapes k s all_based e;
        apart = λ j k s t e f d x y. apart_at (objects_of n m) j k (s.base, s.owned) (t.base, t.owned) apart.1.1.1.1
            d (extent_is j s e) (extent_is k t f);
        off_text = λ k s e. subst (λ v. Apart s.base s.owned m.text.0 v) (sym text) (off_text k s e);
        in_text = λ f l. let e = entry_is m.entries f (subst (λ v. f < v) (sym legal.entries) l) in
            let i = legal.in_text f e.0 e.1 in
            let is = e.2 in
            let from = i.from in
            let below = i.below in
            (omega (arith, is, from), omega (arith, is, below));
        text_from = r.0;
        text_to = r.1;
        distinct = λ f g l l' q.
            let e = entry_is m.entries f (subst (λ v. f < v) (sym legal.entries) l) in
            let e' = entry_is m.entries g (subst (λ v. g < v) (sym legal.entries) l') in
            legal.distinct f g e.0 e.1 (subst (λ v. slice_get m.entries g ≡ Some v) (sym e'.2 ∙ sym q ∙ e.2) e'.1);
      }

  pub heap_clear : IsClear placed_shapes a.heap (a.heap_end - a.heap)
  heap_clear = record {
    clear = λ k s e x. subst (λ v. Apart s.base s.owned m.heap.0 v)
        (sym (as_length m.heap.0 m.heap.1)) (off_heap k s e);
  }

  pub stack_clear : IsClear placed_shapes m.stack.0 (m.stack.0 + m.stack.1 - m.stack.0)
  stack_clear = record {
    clear = λ k s e x. subst (λ v. Apart s.base s.owned m.stack.0 v)
        (sym (as_length m.stack.0 m.stack.1)) (off_stack k s e);
  }
