-- What stands in an object behind a store, by place.
use Rattle.std.proofs.Common.{◌≡◌, ℕ, zero, suc, ◌+◌, ◌*◌, ◌/◌, ◌%◌, ◌<◌, ◌≤◌, List, [], ◌∷◌, length, refl, sym, ap}
use Rattle.std.proofs.Common.{◌∙◌, arith, Option, Some, None, inl, inr, ◌⊎◌}
use Rattle.std.specs.Prelude.{slice_get, slice_set}
use Rattle.std.proofs.lemmas.Bool.{cases_eq}
use Rattle.obj_mem.specs.Values.{Value}
use Rattle.obj_mem.specs.Objects.{Cell, Shape, Content, Mode, held, value_at, cell_or, seen_through, byte_at, part}
use Rattle.obj_mem.specs.Objects.{parts, put_at, opened_by, opened, with_bytes, with_value}
use Rattle.place_inject.proofs.Puts.{get_here, get_there, set_length, cell_at, put_length, put_outside, put_inside}
use Rattle.place_inject.proofs.Puts.{parts_length, parts_get}

-- a granule that gets no value holds none
pub emptied : (xs : List (Option Value)) (g : ℕ) → held (slice_get (slice_set xs g None) g) ≡ None
emptied [] g = refl
emptied (x ∷ xs) zero = refl
emptied (x ∷ xs) (suc g) = emptied xs g

module _ (d : Mode) (shapes : List Shape) where
  -- ---- a granule that is opened keeps its bytes

  opened_by_bytes : (c : Content) (g i : ℕ) (w : Option Value) → value_at c g ≡ w → i < length c.cells
      → byte_at d shapes (opened_by d shapes c g w) i ≡ byte_at d shapes c i
  opened_by_bytes c g i None e l = refl
  opened_by_bytes c g i (Some v) e l =
      let cs = put_at c.cells (16 * g) (parts d shapes v 0 16) in
      let seen : Option Value → Cell → Cell = λ w x. seen_through d shapes w (i % 16) x in
      elim (cases_eq (i / 16) g) as (λ _. byte_at d shapes (opened_by d shapes c g (Some v)) i ≡ byte_at d shapes c i) [
        | inl same ↦
            let none : held (slice_get (slice_set c.values g None) (i / 16)) ≡ None = rw same (emptied c.values g) in
            let some : value_at c (i / 16) ≡ Some v = ap (value_at c) same ∙ e in
            let cell : cell_at cs i ≡ part d shapes v (i % 16) =
            ap cell_or (put_inside c.cells (16 * g) (parts d shapes v 0 16) (i % 16) i (omega arith)
            (omega (arith, parts_length d shapes v 0 16)) l
            ∙ parts_get d shapes v 0 16 (i % 16) (omega arith)) ∙ ap (part d shapes v) (omega arith) in
            ap (λ w. seen w (cell_at cs i)) none ∙ cell ∙ sym (ap (λ w. seen w (cell_at c.cells i)) some)
        | inr other ↦
            let value : held (slice_get (slice_set c.values g None) (i / 16)) ≡ value_at c (i / 16) =
            ap held (get_there c.values g (i / 16) None other) in
            let cell : cell_at cs i ≡ cell_at c.cells i =
            ap cell_or (put_outside c.cells (16 * g) (parts d shapes v 0 16) i
            (λ q. omega (arith, parts_length d shapes v 0 16))) in
            ap (λ w. seen w (cell_at cs i)) value ∙ ap (seen (value_at c (i / 16))) cell
      ]

  pub opened_by_length : (c : Content) (g : ℕ) (w : Option Value)
      → length (opened_by d shapes c g w).cells ≡ length c.cells
  opened_by_length c g None = refl
  opened_by_length c g (Some v) = put_length c.cells (16 * g) (parts d shapes v 0 16)

  opened_by_here : (c : Content) (g : ℕ) (w : Option Value) → value_at c g ≡ w
      → value_at (opened_by d shapes c g w) g ≡ None
  opened_by_here c g None e = e
  opened_by_here c g (Some v) e = emptied c.values g

  opened_by_there : (c : Content) (g h : ℕ) (w : Option Value) → (h ≡ g → ⊥)
      → value_at (opened_by d shapes c g w) h ≡ value_at c h
  opened_by_there c g h None n = refl
  opened_by_there c g h (Some v) n = ap held (get_there c.values g h None n)

  opened_by_granules : (c : Content) (g : ℕ) (w : Option Value)
      → length (opened_by d shapes c g w).values ≡ length c.values
  opened_by_granules c g None = refl
  opened_by_granules c g (Some v) = set_length c.values g None

  -- ---- bytes that are stored inside one granule

  module _ (c : Content) (i : ℕ) (cs : List Cell) where
    pub bytes_cells : length (with_bytes d shapes c i cs).cells ≡ length c.cells
    bytes_cells = put_length (opened d shapes c (i / 16)).cells i cs ∙ opened_by_length c (i / 16) (value_at c (i / 16))

    pub bytes_granules : length (with_bytes d shapes c i cs).values ≡ length c.values
    bytes_granules = opened_by_granules c (i / 16) (value_at c (i / 16))

    pub bytes_here : value_at (with_bytes d shapes c i cs) (i / 16) ≡ None
    bytes_here = opened_by_here c (i / 16) (value_at c (i / 16)) refl

    pub bytes_there : (g : ℕ) → (g ≡ i / 16 → ⊥) → value_at (with_bytes d shapes c i cs) g ≡ value_at c g
    bytes_there g n = opened_by_there c (i / 16) g (value_at c (i / 16)) n

    pub bytes_inside : (k j : ℕ) → j ≡ i + k → i % 16 + length cs ≤ 16 → k < length cs → j < length c.cells
        → byte_at d shapes (with_bytes d shapes c i cs) j ≡ cell_at cs k
    bytes_inside k j e f h l =
        let same : j / 16 ≡ i / 16 = omega arith in
        let none : value_at (with_bytes d shapes c i cs) (j / 16) ≡ None =
        ap (value_at (with_bytes d shapes c i cs)) same ∙ bytes_here in
        let put = put_at (opened d shapes c (i / 16)).cells i cs in
        let cell : cell_at put j ≡ cell_at cs k =
        ap cell_or (put_inside (opened d shapes c (i / 16)).cells i cs k j e h
        (omega (arith, opened_by_length c (i / 16) (value_at c (i / 16))))) in
        ap (λ w. seen_through d shapes w (j % 16) (cell_at put j)) none ∙ cell

    pub bytes_outside : (j : ℕ) → (i ≤ j → i + length cs ≤ j) → j < length c.cells
        → byte_at d shapes (with_bytes d shapes c i cs) j ≡ byte_at d shapes c j
    bytes_outside j n l =
        ap (λ x. seen_through d shapes (value_at (opened d shapes c (i / 16)) (j / 16)) (j % 16) (cell_or x))
        (put_outside (opened d shapes c (i / 16)).cells i cs j n)
        ∙ opened_by_bytes c (i / 16) j (value_at c (i / 16)) refl l

    -- a value that is still held was held before
    pub bytes_held : (g : ℕ) (v : Value) → value_at (with_bytes d shapes c i cs) g ≡ Some v → value_at c g ≡ Some v
    bytes_held g v e = elim (cases_eq g (i / 16)) as (λ _. value_at c g ≡ Some v) [
      | inl q ↦ absurd (let n : None ≡ Some v = sym (ap (value_at (with_bytes d shapes c i cs)) q ∙ bytes_here)
          ∙ e in cc)
      | inr n ↦ sym (bytes_there g n) ∙ e
    ]

  -- ---- a value that is stored

  module _ (c : Content) (i : ℕ) (v : Value) (room : i / 16 < length c.values) where
    pub value_here : value_at (with_value c i v) (i / 16) ≡ Some v
    value_here = ap held (get_here c.values (i / 16) (Some v) room)

    pub value_there : (g : ℕ) → (g ≡ i / 16 → ⊥) → value_at (with_value c i v) g ≡ value_at c g
    value_there g n = ap held (get_there c.values (i / 16) g (Some v) n)

    pub value_held : (g : ℕ) (x : Value) → value_at (with_value c i v) g ≡ Some x → (x ≡ v) ⊎ (value_at c g ≡ Some x)
    value_held g x e = elim (cases_eq g (i / 16)) as (λ _. (x ≡ v) ⊎ (value_at c g ≡ Some x)) [
      | inl q ↦ inl (let z : Some v ≡ Some x = sym (ap (value_at (with_value c i v)) q ∙ value_here) ∙ e in cc)
      | inr n ↦ inr (sym (value_there g n) ∙ e)
    ]
