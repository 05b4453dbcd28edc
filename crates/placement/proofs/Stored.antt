-- What a strict run keeps in memory is good.
use Rattle.std.proofs.Common.{◌≡◌, ℕ, zero, suc, ◌+◌, ◌*◌, ◌/◌, ◌%◌, ◌^◌, ◌<◌, ◌≤◌, ◌==◌, ◌&&◌, Bool, true, false, List}
use Rattle.std.proofs.Common.{[], ◌∷◌, ◌++◌, take, drop, length, replicate, Option, Some, None, Result, Ok, Err, refl}
use Rattle.std.proofs.Common.{ap, arith, subst}
use Rattle.std.specs.Prelude.{slice_get, slice_set, if◌then◌else◌}
use Rattle.std.proofs.Math.Nat.{pow-succ'}
use Rattle.std.proofs.lemmas.List.{length-take, length-drop}
use Rattle.ck_int.specs.declared.kinds.IntKind.TheVariants as int
use Rattle.obj_mem.specs.declared.ending.Fault.{Fault}
use Rattle.obj_mem.specs.declared.ending.UnitFault.{UnitFault}
use Rattle.obj_mem.specs.declared.ending.Reason.{Reason}
use Rattle.obj_mem.specs.declared.ending.Reason.TheVariants as R
use Rattle.obj_mem.specs.Values.{Value, Int, Live, Fun, Raw}
use Rattle.obj_mem.specs.Objects.{Cell, Byte, Unwritten, PartOf, Life, Active, Inactive, Returned, Shape, Content}
use Rattle.obj_mem.specs.Objects.{Memory, Mode, Strict, held, value_at, cell_or, seen_through, bytes_at, put_at, parts}
use Rattle.obj_mem.specs.Objects.{opened_by, opened, blank}
use Rattle.obj_mem.specs.Access.{Spot, reach, onward, outside_unless_active, padding_where, at_place, at_spot, Piece}
use Rattle.obj_mem.specs.Access.{Tagged, Plain, load_access, store_access, piece_of, fetch, with_piece, put}
use Rattle.obj_mem.specs.Access.{has_unwritten, has_part, number_of, read_as, known, loaded, load, bytes_of}
use Rattle.obj_mem.specs.Access.{stored_piece, store, carried, as_load, as_store, then_put, copy_unit}
use Rattle.obj_mem.specs.Standing.{IsGood}
use Rattle.cheri_c_sem.specs.Kinds as kinds
use Rattle.cheri_c_sem.specs.Kinds.{Kind, Plain, Capability}
use Rattle.placement.specs.Memories.{CellGood, CellsGood, ValuesGood, ContentGood, ContentsGood}
use Rattle.placement.proofs.Good.{WhereOk, onward_ok}

-- ---- numbers

one_more : (n : ℕ) → 256 ^ suc n ≡ 256 * 256 ^ n
one_more n = pow-succ' 256 n

pub number_below : (cs : List Cell) → CellsGood cs → number_of cs < 256 ^ length cs
number_below [] g = omega arith
number_below (Byte b ∷ cs) g = let h = number_below cs g.1 in let p = one_more (length cs) in let b' = g.0 in
    omega (arith, h, p, b')
number_below (Unwritten ∷ cs) g = let h = number_below cs g.1 in let p = one_more (length cs) in omega (arith, h, p)
number_below (PartOf v k ∷ cs) g = let h = number_below cs g.1 in let p = one_more (length cs) in omega (arith, h, p)

take_good : (k : ℕ) (cs : List Cell) → CellsGood cs → CellsGood (take k cs)
take_good zero cs g = tt
take_good (suc k) [] g = tt
take_good (suc k) (c ∷ cs) g = (g.0, take_good k cs g.1)

drop_good : (k : ℕ) (cs : List Cell) → CellsGood cs → CellsGood (drop k cs)
drop_good zero cs g = g
drop_good (suc k) [] g = tt
drop_good (suc k) (c ∷ cs) g = drop_good k cs g.1

-- ---- cells

get_cell : (cs : List Cell) (i : ℕ) → CellsGood cs → CellGood (cell_or (slice_get cs i))
get_cell [] i g = tt
get_cell (c ∷ cs) zero g = g.0
get_cell (c ∷ cs) (suc i) g = get_cell cs i g.1

set_cell : (cs : List Cell) (i : ℕ) (c : Cell) → CellsGood cs → CellGood c → CellsGood (slice_set cs i c)
set_cell [] i c g h = tt
set_cell (d ∷ cs) zero c g h = (h, g.1)
set_cell (d ∷ cs) (suc i) c g h = (g.0, set_cell cs i c g.1 h)

put_good : (cs : List Cell) (i : ℕ) (us : List Cell) → CellsGood cs → CellsGood us → CellsGood (put_at cs i us)
put_good cs i [] g h = g
put_good cs i (u ∷ us) g h = put_good (slice_set cs i u) (suc i) us (set_cell cs i u g h.0) h.1

blank_good : (n : ℕ) → CellsGood (replicate n Unwritten)
blank_good zero = tt
blank_good (suc n) = (tt, blank_good n)

pub bytes_good : (n x : ℕ) → CellsGood (bytes_of n x)
bytes_good zero x = tt
bytes_good (suc n) x = (omega arith, bytes_good n (x / 256))

join_good : (cs ds : List Cell) → CellsGood cs → CellsGood ds → CellsGood (cs ++ ds)
join_good [] ds g h = h
join_good (c ∷ cs) ds g h = (g.0, join_good cs ds g.1 h)

parts_good : (shapes : List Shape) (v : Value) (k n : ℕ) → CellsGood (parts Strict shapes v k n)
parts_good shapes v k zero = tt
parts_good shapes v k (suc n) = (tt, parts_good shapes v (suc k) n)

through_good : (shapes : List Shape) (o : Option Value) (k : ℕ) (c : Cell) → CellGood c
    → CellGood (seen_through Strict shapes o k c)
through_good shapes None k c g = g
through_good shapes (Some v) k c g = tt

seen_good : (shapes : List Shape) (c : Content) (i n : ℕ) → CellsGood c.cells → CellsGood (bytes_at Strict shapes c i n)
seen_good shapes c i zero g = tt
seen_good shapes c i (suc n) g =
    (through_good shapes (value_at c (i / 16)) (i % 16) _ (get_cell c.cells i g), seen_good shapes c (suc i) n g)

seen_length : (shapes : List Shape) (c : Content) (i n : ℕ) → length (bytes_at Strict shapes c i n) ≡ n
seen_length shapes c i zero = refl
seen_length shapes c i (suc n) = ap suc (seen_length shapes c (suc i) n)

-- ---- answers

pub padded : {A : Type 0} (Q : A → Type 0) (b : Bool) (x : Result A Fault) → WhereOk Q x → WhereOk Q (padding_where b x)
padded Q true x h = tt
padded Q false x h = h

pub living : {A : Type 0} (Q : A → Type 0) (l : Life) (x : Result A Fault) → WhereOk Q x
    → WhereOk Q (outside_unless_active l x)
living Q Active x h = h
living Q Inactive x h = tt
living Q Returned x h = tt

spot_ok : {A : Type 0} (Q : A → Type 0) (d : Mode) (m : Memory) (p : Spot) (n : ℕ) (f : Content → Result A Fault)
    → ((c : Content) → slice_get m.contents p.object ≡ Some c → WhereOk Q (f c)) → WhereOk Q (at_spot d m p n f)
spot_ok Q d m p n f h = go (slice_get m.shapes p.object) (slice_get m.contents p.object) refl
  where
    go : (a : Option Shape) (b : Option Content) → slice_get m.contents p.object ≡ b
        → WhereOk Q (at_place d m p n a b f)
    go None b e = tt
    go (Some x) None e = tt
    go (Some x) (Some c) e = living Q x.life _ (padded Q _ _ (h c e))

anything : {A : Type 0} (x : Result A Fault) → WhereOk (λ v. Unit {0}) x
anything (Ok v) = tt
anything (Err e) = tt

known_ok : {A : Type 0} (Q : A → Type 0) (b : Bool) (r : Reason) (x : Result A Fault) → WhereOk Q x
    → WhereOk Q (known b r x)
known_ok Q true r x h = tt
known_ok Q false r x h = h

abbrev pub WhereUnitOk : {A : Type 0} → (A → Type 0) → Result A UnitFault → Type 0
WhereUnitOk P (Ok x) = P x
WhereUnitOk P (Err e) = Unit {0}

as_stored : {A : Type 0} (Q : A → Type 0) (x : Result A Fault) → WhereOk Q x → WhereUnitOk Q (as_store x)
as_stored Q (Ok x) h = h
as_stored Q (Err e) h = tt

module _ (s : List Shape) (functions : ℕ) where
  -- ---- values

  abbrev HeldGood : Option Value → Type 0
  HeldGood None = Unit {0}
  HeldGood (Some v) = IsGood s functions v

  get_value : (vs : List (Option Value)) (i : ℕ) → ValuesGood s functions vs → HeldGood (held (slice_get vs i))
  get_value [] i g = tt
  get_value (None ∷ vs) zero g = tt
  get_value (Some v ∷ vs) zero g = g.0
  get_value (None ∷ vs) (suc i) g = get_value vs i g
  get_value (Some v ∷ vs) (suc i) g = get_value vs i g.1

  unset_value : (vs : List (Option Value)) (i : ℕ) → ValuesGood s functions vs
      → ValuesGood s functions (slice_set vs i None)
  unset_value [] i g = tt
  unset_value (None ∷ vs) zero g = g
  unset_value (Some w ∷ vs) zero g = g.1
  unset_value (None ∷ vs) (suc i) g = unset_value vs i g
  unset_value (Some w ∷ vs) (suc i) g = (g.0, unset_value vs i g.1)

  set_value : (vs : List (Option Value)) (i : ℕ) (v : Value) → IsGood s functions v → ValuesGood s functions vs
      → ValuesGood s functions (slice_set vs i (Some v))
  set_value [] i v h g = tt
  set_value (None ∷ vs) zero v h g = (h, g)
  set_value (Some w ∷ vs) zero v h g = (h, g.1)
  set_value (None ∷ vs) (suc i) v h g = set_value vs i v h g
  set_value (Some w ∷ vs) (suc i) v h g = (g.0, set_value vs i v h g.1)

  no_values_good : (n : ℕ) → ValuesGood s functions (replicate n None)
  no_values_good zero = tt
  no_values_good (suc n) = no_values_good n

  -- ---- contents

  pub blank_content : (owns : ℕ) → ContentGood s functions (blank Strict owns)
  blank_content owns = record { cells = blank_good owns; values = no_values_good ((owns + 15) / 16) }

  content_at : (cs : List Content) (i : ℕ) → ContentsGood s functions cs → (c : Content) → slice_get cs i ≡ Some c
      → ContentGood s functions c
  content_at [] i g c e = absurd cc
  content_at (d ∷ cs) zero g c e = let q : d ≡ c = cc in subst (ContentGood s functions) q g.0
  content_at (d ∷ cs) (suc i) g c e = content_at cs i g.1 c e

  pub content_set : (cs : List Content) (i : ℕ) (c : Content) → ContentGood s functions c
      → ContentsGood s functions cs → ContentsGood s functions (slice_set cs i c)
  content_set [] i c h g = tt
  content_set (d ∷ cs) zero c h g = (h, g.1)
  content_set (d ∷ cs) (suc i) c h g = (g.0, content_set cs i c h g.1)

  pub content_more : (cs : List Content) (c : Content) → ContentsGood s functions cs → ContentGood s functions c
      → ContentsGood s functions (cs ++ c ∷ [])
  content_more [] c g h = (h, tt)
  content_more (d ∷ cs) c g h = (g.0, content_more cs c g.1 h)

  -- ---- what is fetched

  abbrev pub PieceGood : Piece → Type 0
  PieceGood (Tagged v) = IsGood s functions v
  PieceGood (Plain cs) = CellsGood cs

  abbrev IsLong : ℕ → Piece → Type 0
  IsLong n (Tagged v) = Unit {0}
  IsLong n (Plain cs) = length cs ≡ n

  choice : (b : Bool) (n : ℕ) (v : Value) (cs : List Cell) → IsGood s functions v → CellsGood cs → length cs ≡ n
      → PieceGood (if b then Tagged v else Plain cs) × IsLong n (if b then Tagged v else Plain cs)
  choice true n v cs g h e = (g, tt)
  choice false n v cs g h e = (h, e)

  piece_good : (m : Memory) (c : Content) (p : Spot) (n : ℕ) → ContentGood s functions c → (o : Option Value)
      → HeldGood o → PieceGood (piece_of Strict m c p n o) × IsLong n (piece_of Strict m c p n o)
  piece_good m c p n g None h = (seen_good m.shapes c p.at n g.cells, seen_length m.shapes c p.at n)
  piece_good m c p n g (Some v) h = choice (p.carries && n == 16) n v (bytes_at Strict m.shapes c p.at n) h
      (seen_good m.shapes c p.at n g.cells) (seen_length m.shapes c p.at n)

  fetch_good : (m : Memory) → ContentsGood s functions m.contents → (p : Value) (n : ℕ)
      → WhereOk (λ u. PieceGood u × IsLong n u) (fetch Strict m p n)
  fetch_good m g p n =
      onward_ok (λ x. Unit {0}) (λ u. PieceGood u × IsLong n u) (reach (load_access n) p) _ (anything _)
      (λ x _. spot_ok (λ u. PieceGood u × IsLong n u) Strict m x n _ (λ c e.
      let h = content_at m.contents x.object g c e in piece_good m c x n h (value_at c (x.at / 16))
      (get_value c.values (x.at / 16) h.values)))

  -- ---- loads

  number_of_some : (cs : List Cell) (n : ℕ) → CellsGood cs → length cs ≡ n → 256 ^ n ≤ 2 ^ 64 → number_of cs < 2 ^ 64
  number_of_some cs n g e h = let b = number_below cs g in let q : 256 ^ length cs ≡ 256 ^ n = ap (λ v. 256 ^ v) e in
      omega (arith, b, q, h)

  eight : (cs : List Cell) → length cs ≡ 16 → (length (take 8 cs) ≡ 8) × (length (drop 8 cs) ≡ 8)
  eight cs e = (omega (arith, length-take 8 cs, e), omega (arith, length-drop 8 cs, e))

  read_good : (j : Kind) (cs : List Cell) → CellsGood cs → length cs ≡ kinds.bytes_of j
      → IsGood s functions (read_as (kinds.bytes_of j) cs)
  read_good (Plain int.Bool) cs g e = number_of_some cs 1 g e (omega arith)
  read_good (Plain int.I8) cs g e = number_of_some cs 1 g e (omega arith)
  read_good (Plain int.U8) cs g e = number_of_some cs 1 g e (omega arith)
  read_good (Plain int.I16) cs g e = number_of_some cs 2 g e (omega arith)
  read_good (Plain int.U16) cs g e = number_of_some cs 2 g e (omega arith)
  read_good (Plain int.I32) cs g e = number_of_some cs 4 g e (omega arith)
  read_good (Plain int.U32) cs g e = number_of_some cs 4 g e (omega arith)
  read_good (Plain int.I64) cs g e = number_of_some cs 8 g e (omega arith)
  read_good (Plain int.U64) cs g e = number_of_some cs 8 g e (omega arith)
  read_good (Capability signed) cs g e =
      let l = eight cs e in (
        number_of_some (take 8 cs) 8 (take_good 8 cs g) l.0 (omega arith),
        number_of_some (drop 8 cs) 8 (drop_good 8 cs g) l.1 (omega arith),
      )

  loaded_good : (j : Kind) (u : Piece) → PieceGood u → IsLong (kinds.bytes_of j) u
      → WhereOk (IsGood s functions) (loaded (kinds.bytes_of j) u)
  loaded_good j (Tagged v) g e = g
  loaded_good j (Plain cs) g e = known_ok (IsGood s functions) (has_unwritten cs) R.Unwritten _
      (known_ok (IsGood s functions) (has_part cs) R.Address _ (read_good j cs g e))

  pub load_good : (m : Memory) → ContentsGood s functions m.contents → (p : Value) (j : Kind)
      → WhereOk (IsGood s functions) (load Strict m p (kinds.bytes_of j))
  unfolding load
  load_good m g p j = onward_ok (λ u. PieceGood u × IsLong (kinds.bytes_of j) u) (IsGood s functions)
      (fetch Strict m p (kinds.bytes_of j)) (loaded (kinds.bytes_of j)) (fetch_good m g p (kinds.bytes_of j))
      (λ u h. loaded_good j u h.0 h.1)

  -- ---- stores

  opened_good : (shapes : List Shape) (c : Content) (i : ℕ) (o : Option Value) → ContentGood s functions c
      → ContentGood s functions (opened_by Strict shapes c i o)
  opened_good shapes c i None g = g
  opened_good shapes c i (Some v) g =
      record {
        cells = put_good c.cells (16 * i) (parts Strict shapes v 0 16) g.cells (parts_good shapes v 0 16);
        values = unset_value c.values i g.values;
      }

  with_good : (shapes : List Shape) (c : Content) (i : ℕ) (u : Piece) → PieceGood u → ContentGood s functions c
      → ContentGood s functions (with_piece Strict shapes c i u)
  with_good shapes c i (Tagged v) h g = record { cells = g.cells; values = set_value c.values (i / 16) v h g.values }
  with_good shapes c i (Plain cs) h g =
      let o = opened_good shapes c (i / 16) (value_at c (i / 16)) g in
      record { cells = put_good (opened Strict shapes c (i / 16)).cells i cs o.cells h; values = o.values }

  pub put_piece_good : (m : Memory) → ContentsGood s functions m.contents → (p : Value) (n : ℕ) (u : Piece)
      → PieceGood u → WhereOk (λ x. ContentsGood s functions x.contents) (put Strict m p n u)
  put_piece_good m g p n u h =
      onward_ok (λ x. Unit {0}) (λ x. ContentsGood s functions x.contents) (reach (store_access n u) p) _
      (anything _) (λ x _. spot_ok (λ y. ContentsGood s functions y.contents) Strict m x n _ (λ c e.
      content_set m.contents x.object _ (with_good m.shapes c x.at u h (content_at m.contents x.object g c e)) g))

  pub stored_good : (n : ℕ) (v : Value) → IsGood s functions v → PieceGood (stored_piece n v)
  stored_good n (Int x) g = bytes_good n x
  stored_good n (Raw a u) g = join_good (bytes_of 8 a) (bytes_of 8 u) (bytes_good 8 a) (bytes_good 8 u)
  stored_good n (Fun f) g = g
  stored_good n (Live o low high at p) g = g

  pub store_good : (m : Memory) → ContentsGood s functions m.contents → (p : Value) (n : ℕ) (v : Value)
      → IsGood s functions v → WhereOk (λ x. ContentsGood s functions x.contents) (store Strict m p n v)
  unfolding store
  store_good m g p n v h = put_piece_good m g p n (stored_piece n v) (stored_good n v h)

  -- ---- copies

  carried_good : (u : Piece) → PieceGood u → WhereOk PieceGood (carried u)
  carried_good (Tagged v) g = g
  carried_good (Plain cs) g = known_ok PieceGood (has_part cs) R.Address _ g

  copied_good : (m : Memory) → ContentsGood s functions m.contents → (to : Value) (n : ℕ) (x : Result Piece Fault)
      → WhereOk PieceGood x → WhereUnitOk (λ y. ContentsGood s functions y.contents)
      (then_put Strict m to n (as_load x))
  copied_good m g to n (Ok u) h = as_stored (λ y. ContentsGood s functions y.contents) (put Strict m to n u)
      (put_piece_good m g to n u h)
  copied_good m g to n (Err e) h = tt

  pub copy_good : (m : Memory) → ContentsGood s functions m.contents → (from to : Value) (n : ℕ)
      → WhereUnitOk (λ y. ContentsGood s functions y.contents) (copy_unit Strict m from to n)
  unfolding copy_unit
  copy_good m g from to n =
      copied_good m g to n _ (onward_ok (λ u. PieceGood u × IsLong n u) PieceGood (fetch Strict m from n) carried
      (fetch_good m g from n) (λ u h. carried_good u h.0))

-- ---- the objects stay the same

module _ (d : Mode) where
  pub put_shapes : (m : Memory) (p : Value) (n : ℕ) (u : Piece) → WhereOk (λ x. x.shapes ≡ m.shapes) (put d m p n u)
  put_shapes m p n u = onward_ok (λ x. Unit {0}) (λ x. x.shapes ≡ m.shapes) (reach (store_access n u) p) _
      (anything _) (λ x _. spot_ok (λ y. y.shapes ≡ m.shapes) d m x n _ (λ c e. refl))

  pub store_shapes : (m : Memory) (p : Value) (n : ℕ) (v : Value) → WhereOk (λ x. x.shapes ≡ m.shapes) (store d m p n v)
  unfolding store
  store_shapes m p n v = put_shapes m p n (stored_piece n v)

  copied_shapes : (m : Memory) (to : Value) (n : ℕ) (x : Result Piece Fault)
      → WhereUnitOk (λ y. y.shapes ≡ m.shapes) (then_put d m to n (as_load x))
  copied_shapes m to n (Ok u) = as_stored (λ y. y.shapes ≡ m.shapes) (put d m to n u) (put_shapes m to n u)
  copied_shapes m to n (Err e) = tt

  pub copy_shapes : (m : Memory) (from to : Value) (n : ℕ)
      → WhereUnitOk (λ y. y.shapes ≡ m.shapes) (copy_unit d m from to n)
  unfolding copy_unit
  copy_shapes m from to n = copied_shapes m to n (onward (fetch d m from n) carried)
