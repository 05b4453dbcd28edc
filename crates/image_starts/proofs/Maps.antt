-- What a program asks of its map: objects stand at multiples of 16, with the lengths of their types.
use Rattle.std.proofs.Common.{◌≡◌, ℕ, zero, suc, ◌+◌, ◌-◌, ◌*◌, ◌/◌, ◌%◌, ◌^◌, ◌≤◌, ◌⊎◌, max, Bool, true, false, List}
use Rattle.std.proofs.Common.{[], ◌∷◌, ◌++◌, length, map, Option, Some, None, refl, sym, ap, ◌∙◌, subst, arith, inl}
use Rattle.std.proofs.Common.{inr}
use Rattle.std.specs.Prelude.{nat_le, slice_get, slice_index_or, if◌then◌else◌}
use Rattle.std.proofs.lemmas.Bool.{cases_lt}
use Rattle.std.proofs.lemmas.Nat.{pow-add, div-add-mod'}
use Rattle.std.proofs.lemmas.Option.{slice_get_within, slice_get-get_or}
use Rattle.std.proofs.Math.Pow.{pow-lt}
use Rattle.cap_concentrate.specs.Rounding.{alignment}
use Rattle.cap_ops.specs.Permissions.{data_permissions, const_permissions}
use Rattle.typing_laws.proofs.Sound.{well_typed}
use Rattle.c_tree.specs.Layout.{Extent, extent, size_limit}
use Rattle.c_tree.specs.Typing.{Sound}
use Rattle.c_tree.specs.WellTyped.{WellTyped}
use Rattle.c_tree.specs.declared.typed.CType.{CType}
use Rattle.c_tree.specs.declared.typed.GlobalDef.{GlobalDef}
use Rattle.c_tree.specs.declared.typed.Literal.{Literal}
use Rattle.c_tree.specs.declared.typed.Typed.{Typed}
use Rattle.c_tree.proofs.Aligned.{IsPower, max_power, alignment_is_power, extent_aligned}
use Rattle.obj_mem.specs.Legal.{ObjectNeed, Apart, AreApart, IsApartFrom, AreAligned, alignment_of, owned_of}
use Rattle.obj_mem.specs.Legal.{placed_at, objects_of}
use Rattle.obj_mem.specs.Needs.{Legal, need_by, nothing_of, global_need, literal_need, is_const, weight_in}
use Rattle.obj_mem.specs.Objects.{Shape}
use Rattle.obj_mem.specs.Standing.{HaveBounds, IsSpread}
use Rattle.obj_mem.specs.Table.{addresses_of, object_base}
use Rattle.obj_mem.specs.declared.map.Map.{Map}
use Rattle.obj_mem.proofs.Spread.{objects_are_exact_law}
use Rattle.cap_reloc.specs.Begins.{asked_by}
use Rattle.cap_reloc.proofs.Under.{globals_length, literals_length}
use Rattle.cheri_c_sem.specs.Programs.{global_tree}
use Rattle.placement.proofs.Lawful.{length_needed, placed_shapes, spread}
use Rattle.placement.proofs.Lists.{some_same, map_get, map_from, map_length, front_get, back_get, below_get}
use Rattle.placement.proofs.Objects.{object_shape, shapes_from, length_of}
use Rattle.placement.proofs.Shapes.{swap}
use Rattle.placement.proofs.TypedFits.{globals_same_lengths}

-- ---- alignments are multiples of 16

align_of : ObjectNeed → ℕ
align_of n = n.align

either_align : (b : Bool) (x y : ObjectNeed) → IsPower x.align → IsPower y.align
    → IsPower (align_of (if b then x else y))
unfolding align_of
either_align true x y p q = p
either_align false x y p q = q

need_power : (o : Option Extent) (q : ℕ) → ((x : Extent) → o ≡ Some x → IsPower x.align)
    → IsPower (align_of (need_by o q))
unfolding align_of
need_power None q h = (0, refl)
need_power (Some x) q h =
    either_align (nat_le x.size size_limit) (record { length = x.size; align = x.align; permissions = q })
    (nothing_of q) (h x refl) (0, refl)

global_power : (types : List CType) (g : GlobalDef) → IsPower (global_need types g).align
unfolding align_of
global_power types g = need_power (extent types g.of)
    (if is_const types g.of then const_permissions else data_permissions)
    (λ x e. extent_aligned (length types) types g.of x e)

sixteen_divides : (n base : ℕ) → IsPower n → 16 ≤ n → base % n ≡ 0 → base % 16 ≡ 0
sixteen_divides n base p h e =
    let k = p.0 in
    let le : 4 ≤ k = elim (cases_lt k 4) as (λ _. 4 ≤ k)
    [ inl below ↦ absurd (omega (arith, pow-lt below, p.1)) | inr fine ↦ fine ] in
    let s : k ≡ k - 4 + 4 = omega arith in
    let r : n ≡ 2 ^ (k - 4) * 2 ^ 4 = p.1 ∙ ap (λ v. 2 ^ v) s ∙ pow-add 2 (k - 4) 4 in
    let d = div-add-mod' base n in
    let u : base / n * n ≡ base / n * (2 ^ (k - 4) * 2 ^ 4) = ap (λ v. base / n * v) r in
    omega arith

granular : (n : ObjectNeed) (base : ℕ) → IsPower n.align → base % alignment_of n ≡ 0 → base % 16 ≡ 0
granular n base p e =
    let q = max_power 16 (max n.align (alignment n.length)) (4, refl)
    (max_power n.align (alignment n.length) p (alignment_is_power n.length)) in
    sixteen_divides (alignment_of n) base q (omega arith) e

all_granular : (ns : List ObjectNeed) (bs : List ℕ) → AreAligned ns bs
    → ((j : ℕ) (n : ObjectNeed) → slice_get ns j ≡ Some n → IsPower n.align)
    → (k b : ℕ) → slice_get bs k ≡ Some b → b % 16 ≡ 0
all_granular [] [] al p k b e = absurd cc
all_granular [] (c ∷ bs) al p k b e = absurd al
all_granular (n ∷ ns) [] al p k b e = absurd al
all_granular (n ∷ ns) (c ∷ bs) al p zero b e =
    let same : c ≡ b = cc in
    subst (λ x. x % 16 ≡ 0) same (granular n c (p 0 n refl) al.0)
all_granular (n ∷ ns) (c ∷ bs) al p (suc k) b e = all_granular ns bs al.1 (λ j. p (suc j)) k b e

either_get : {A : Type 0} (xs ys : List A) (k : ℕ) (x : A) → slice_get (xs ++ ys) k ≡ Some x
    → (slice_get xs k ≡ Some x) ⊎ ((j : ℕ) × (k ≡ length xs + j) × (slice_get ys j ≡ Some x))
either_get [] ys k x e = inr (k, omega arith, e)
either_get (y ∷ xs) ys zero x e = inl e
either_get (y ∷ xs) ys (suc k) x e = elim (either_get xs ys k x e) as
    (λ _. (slice_get (y ∷ xs) (suc k) ≡ Some x)
    ⊎ ((j : ℕ) × (suc k ≡ length (y ∷ xs) + j) × (slice_get ys j ≡ Some x))) [
      | inl front ↦ inl front
      | inr back ↦ inr (back.0, omega (arith, back.1), back.2)
    ]

-- ---- shapes

shape_at : (base : ℕ → ℕ) (ns : List ℕ) (j k n : ℕ) → slice_get ns k ≡ Some n
    → slice_get (shapes_from base j ns) k ≡ Some (object_shape n (base (j + k)))
shape_at base [] j k n e = absurd cc
shape_at base (o ∷ ns) j zero n e =
    let same : o ≡ n = cc in
    let z : j ≡ j + 0 = omega arith in
    ap (λ v. Some (object_shape v (base j))) same ∙ ap (λ i. Some (object_shape n (base i))) z
shape_at base (o ∷ ns) j (suc k) n e =
    let z : suc j + k ≡ j + suc k = omega arith in
    shape_at base ns (suc j) k n e ∙ ap (λ i. Some (object_shape n (base i))) z

shapes_length : (base : ℕ → ℕ) (ns : List ℕ) (j : ℕ) → length (shapes_from base j ns) ≡ length ns
shapes_length base [] j = refl
shapes_length base (n ∷ ns) j = ap suc (shapes_length base ns (suc j))

-- ---- extents

placed_get : (ns : List ObjectNeed) (bs : List ℕ) (k b : ℕ) (n : ObjectNeed) → slice_get ns k ≡ Some n
    → slice_get bs k ≡ Some b → slice_get (placed_at ns bs) k ≡ Some (b, owned_of n)
placed_get [] bs k b n e f = absurd cc
placed_get (o ∷ ns) [] k b n e f = absurd cc
placed_get (o ∷ ns) (c ∷ bs) zero b n e f =
    let p : o ≡ n = cc in
    let q : c ≡ b = cc in
    rw (p, q) refl
placed_get (o ∷ ns) (c ∷ bs) (suc k) b n e f = placed_get ns bs k b n e f

placed_length : (ns : List ObjectNeed) (bs : List ℕ) → AreAligned ns bs → length (placed_at ns bs) ≡ length ns
placed_length [] [] al = refl
placed_length [] (b ∷ bs) al = absurd al
placed_length (n ∷ ns) [] al = absurd al
placed_length (n ∷ ns) (b ∷ bs) al = ap suc (placed_length ns bs al.1)

apart_from : (x y : ℕ × ℕ) (es : List (ℕ × ℕ)) (k : ℕ) → IsApartFrom x es → slice_get es k ≡ Some y → AreApart x y
apart_from x y [] k h e = absurd cc
apart_from x y (z ∷ es) zero h e = let q : z ≡ y = cc in subst (AreApart x) q h.0
apart_from x y (z ∷ es) (suc k) h e = apart_from x y es k h.1 e

module _ (p : Typed) (sound : Sound p) (m : Map) (legal : Legal p m) where
  pub typed : WellTyped p
  typed = well_typed p sound

  pub exact : HaveBounds (asked_by p).globals m.globals × HaveBounds (asked_by p).literals m.literals
  exact = objects_are_exact_law (weight_in p) p m legal

  pub aligned : (k base : ℕ) → slice_get (m.globals ++ m.literals) k ≡ Some base → base % 16 ≡ 0
  aligned k base e = elim (either_get m.globals m.literals k base e) as (λ _. base % 16 ≡ 0) [
    | inl front ↦ all_granular (asked_by p).globals m.globals legal.globals
        (λ j n there.
        let g = map_from (global_need p.types) p.globals j n there in
        subst (λ (x : ObjectNeed). IsPower x.align) g.2 (global_power p.types g.0)) k base front
    | inr back ↦ all_granular (asked_by p).literals m.literals legal.literals
        (λ j n there.
        let l = map_from literal_need p.literals j n there in
        subst (λ (x : ObjectNeed). IsPower x.align) l.2 (0, refl)) back.0 base back.2
  ]

  pub same_lengths : map length_of (map (global_tree p) p.globals) ≡ map length_needed (asked_by p).globals
  same_lengths =
      let t = sound.types.types in globals_same_lengths p t.program t.ordered t.shows typed

  -- the objects with which it begins
  abbrev pub shapes : List Shape
  shapes = placed_shapes (asked_by p) m legal exact.0 exact.1

  pub is_spread : IsSpread shapes (length (asked_by p).functions) (addresses_of m)
  is_spread = spread (asked_by p) m legal exact.0 exact.1

  abbrev pub global_shape : ℕ → GlobalDef → Shape
  global_shape k g = object_shape (global_need p.types g).length (slice_index_or m.globals k 0)

  abbrev pub literal_shape : ℕ → Literal → Shape
  literal_shape k l = object_shape (length l.bytes) (slice_index_or m.literals k 0)

  abbrev front : List Shape
  front = shapes_from (λ k. slice_index_or m.globals k 0) 0 (map length_needed (asked_by p).globals)

  abbrev rear : List Shape
  rear = shapes_from (λ k. slice_index_or m.literals k 0) 0 (map length_needed (asked_by p).literals)

  front_length : length front ≡ length p.globals
  front_length =
      shapes_length (λ k. slice_index_or m.globals k 0) (map length_needed (asked_by p).globals) 0
      ∙ map_length length_needed (asked_by p).globals ∙ map_length (global_need p.types) p.globals

  rear_length : length rear ≡ length p.literals
  rear_length =
      shapes_length (λ k. slice_index_or m.literals k 0) (map length_needed (asked_by p).literals) 0
      ∙ map_length length_needed (asked_by p).literals ∙ map_length literal_need p.literals

  pub global_at : (k : ℕ) (g : GlobalDef) → slice_get p.globals k ≡ Some g
      → slice_get shapes k ≡ Some (global_shape k g)
  global_at k g e =
      let z : 0 + k ≡ k = omega arith in
      front_get _ _ k (global_shape k g)
      (shape_at (λ i. slice_index_or m.globals i 0) (map length_needed (asked_by p).globals) 0 k
      (global_need p.types g).length
      (map_get length_needed (asked_by p).globals k (global_need p.types g)
      (map_get (global_need p.types) p.globals k g e))
      ∙ ap (λ i. Some (object_shape (global_need p.types g).length (slice_index_or m.globals i 0))) z)

  pub literal_at : (k : ℕ) (l : Literal) → slice_get p.literals k ≡ Some l
      → slice_get shapes (length p.globals + k) ≡ Some (literal_shape k l)
  literal_at k l e =
      let z : 0 + k ≡ k = omega arith in
      ap (λ i. slice_get shapes (i + k)) (sym front_length)
      ∙ back_get front rear k
      ∙ shape_at (λ i. slice_index_or m.literals i 0) (map length_needed (asked_by p).literals) 0 k (length l.bytes)
      (map_get length_needed (asked_by p).literals k (literal_need l) (map_get literal_need p.literals k l e))
      ∙ ap (λ i. Some (object_shape (length l.bytes) (slice_index_or m.literals i 0))) z

  -- each of them is a global's or a literal's
  pub data Whose (k : ℕ) (h : Shape) : Type 0 where
    of_global : (g : GlobalDef) → slice_get p.globals k ≡ Some g → h ≡ global_shape k g → Whose k h
    of_literal : (j : ℕ) (l : Literal) → k ≡ length p.globals + j → slice_get p.literals j ≡ Some l
        → h ≡ literal_shape j l → Whose k h

  pub whose : (k : ℕ) (h : Shape) → slice_get shapes k ≡ Some h → Whose k h
  whose k h e = elim (either_get front rear k h e) as (λ _. Whose k h) [
    | inl there ↦
        let g = below_get p.globals k (omega (arith, slice_get_within front k h there, front_length)) in
        of_global g.0 g.1 (some_same (slice_get shapes k) h (global_shape k g.0) e (global_at k g.0 g.1))
    | inr there ↦
        let l = below_get p.literals there.0 (omega (arith, slice_get_within rear there.0 h there.2, rear_length)) in
        let is : k ≡ length p.globals + there.0 = omega (arith, there.1, front_length) in
        of_literal there.0 l.0 is l.1
        (some_same (slice_get shapes k) h (literal_shape there.0 l.0) e
        (ap (slice_get shapes) is ∙ literal_at there.0 l.0 l.1))
  ]

  -- ---- where they stand

  get_is : {A : Type 0} (xs : List A) (k : ℕ) (x d : A) → slice_get xs k ≡ Some x → slice_index_or xs k d ≡ x
  get_is [] k x d e = absurd cc
  get_is (y ∷ xs) zero x d e = cc
  get_is (y ∷ xs) (suc k) x d e = get_is xs k x d e

  global_base : (k : ℕ) (g : GlobalDef) → slice_get p.globals k ≡ Some g
      → slice_get m.globals k ≡ Some (slice_index_or m.globals k 0)
  global_base k g e =
      slice_get-get_or m.globals k 0 (omega (arith, slice_get_within p.globals k g e, globals_length p m legal))

  literal_base : (k : ℕ) (l : Literal) → slice_get p.literals k ≡ Some l
      → slice_get m.literals k ≡ Some (slice_index_or m.literals k 0)
  literal_base k l e =
      slice_get-get_or m.literals k 0 (omega (arith, slice_get_within p.literals k l e, literals_length p m legal))

  pub base_at : (k : ℕ) (h : Shape) → slice_get shapes k ≡ Some h
      → slice_get (m.globals ++ m.literals) k ≡ Some h.base
  base_at k h e = elim (whose k h e) as (λ _. slice_get (m.globals ++ m.literals) k ≡ Some h.base) [
    | of_global g there is ↦
        front_get m.globals m.literals k h.base (global_base k g there ∙ ap (λ (x : Shape). Some x.base) (sym is))
    | of_literal j l at there is ↦
        let k' : k ≡ length m.globals + j = omega (arith, at, globals_length p m legal) in
        ap (slice_get (m.globals ++ m.literals)) k' ∙ back_get m.globals m.literals j ∙ literal_base j l there
        ∙ ap (λ (x : Shape). Some x.base) (sym is)
  ]

  pub base_even : (k : ℕ) (h : Shape) → slice_get shapes k ≡ Some h → h.base % 16 ≡ 0
  base_even k h e = aligned k h.base (base_at k h e)

  pub base_is : (k : ℕ) (h : Shape) → slice_get shapes k ≡ Some h → object_base m k ≡ h.base
  base_is k h e = get_is (m.globals ++ m.literals) k h.base 0 (base_at k h e)

  -- ---- they are apart from the table

  extent_at : (k : ℕ) (h : Shape) → slice_get shapes k ≡ Some h
      → slice_get (objects_of (asked_by p) m) k ≡ Some (h.base, h.owned)
  extent_at k h e = elim (whose k h e) as (λ _. slice_get (objects_of (asked_by p) m) k ≡ Some (h.base, h.owned)) [
    | of_global g there is ↦
        front_get (placed_at (asked_by p).globals m.globals) (placed_at (asked_by p).literals m.literals) k
        (h.base, h.owned)
        (placed_get (asked_by p).globals m.globals k (slice_index_or m.globals k 0) (global_need p.types g)
        (map_get (global_need p.types) p.globals k g there) (global_base k g there)
        ∙ ap (λ (x : Shape). Some (x.base, x.owned)) (sym is))
    | of_literal j l at there is ↦
        let long : length (placed_at (asked_by p).globals m.globals) ≡ length p.globals =
        placed_length (asked_by p).globals m.globals legal.globals ∙ map_length (global_need p.types) p.globals in
        let k' : k ≡ length (placed_at (asked_by p).globals m.globals) + j = omega (arith, at, long) in
        ap (slice_get (objects_of (asked_by p) m)) k'
        ∙ back_get (placed_at (asked_by p).globals m.globals) (placed_at (asked_by p).literals m.literals) j
        ∙ placed_get (asked_by p).literals m.literals j (slice_index_or m.literals j 0) (literal_need l)
        (map_get literal_need p.literals j l there) (literal_base j l there)
        ∙ ap (λ (x : Shape). Some (x.base, x.owned)) (sym is)
  ]

  pub off_table : (k : ℕ) (h : Shape) → slice_get shapes k ≡ Some h → Apart h.base h.owned m.table.0 m.table.1
  off_table k h e =
      swap m.table.0 m.table.1 h.base h.owned
      (apart_from m.table (h.base, h.owned) (objects_of (asked_by p) m) k legal.apart.1.0.1.1 (extent_at k h e))
