-- Loads, stores, copies and objects that come and go, in the strict mode and in the placed one.
use Rattle.std.proofs.Common.{◌≡◌, ℕ, zero, suc, ◌*◌, ◌/◌, ◌%◌, ◌==◌, ◌&&◌, Bool, true, false, List, [], ◌∷◌, replicate}
use Rattle.std.proofs.Common.{Option, Some, None, Result, Ok, Err, refl, sym, ap, subst}
use Rattle.std.specs.Prelude.{slice_get, slice_set, if◌then◌else◌}
use Rattle.cap_concentrate.specs.Rounding.{owned}
use Rattle.obj_mem.specs.declared.ending.Reason.TheVariants as R
use Rattle.obj_mem.specs.declared.ending.Fault.{Fault}
use Rattle.obj_mem.specs.declared.ending.Fault.TheVariants as F
use Rattle.obj_mem.specs.declared.ending.UnitFault.TheVariants as U
use Rattle.obj_mem.specs.Values.{Value, Int, Live, Fun, Raw, Addresses}
use Rattle.obj_mem.specs.Objects.{Cell, Byte, Unwritten, PartOf, Life, Active, Inactive, Returned, Shape, Content}
use Rattle.obj_mem.specs.Objects.{Memory, Placed, Strict, held, value_at, cell_or, seen_through, byte_at, bytes_at}
use Rattle.obj_mem.specs.Objects.{put_at, parts, opened_by, opened, blank, with_life_by, owned_of_shape, note_member}
use Rattle.obj_mem.specs.Access.{Spot, reach, onward, outside_unless_active, padding_where, at_place, at_spot, Piece}
use Rattle.obj_mem.specs.Access.{Tagged, Plain, load_access, store_access, piece_of, fetch, with_piece, put}
use Rattle.obj_mem.specs.Access.{has_unwritten, has_part, read_as, known, loaded, load, bytes_of, stored_piece, store}
use Rattle.obj_mem.specs.Access.{carried, as_load, as_store, then_put, copy_unit}
use Rattle.obj_mem.specs.Agreement.{SameCell, Paired, SameContent, IsNotReturned, SameLife, SameShape, SameMemory}
use Rattle.obj_mem.specs.Agreement.{Answers, CopyAnswers, MemoryAgrees}
use Rattle.obj_mem.proofs.Pairs.{join_both, set_both, Both, neither, both, get_both}

-- ---- answers

pub onward_same : {A B C : Type 0} (R : B → C → Type 0) (r : Result A Fault) (f : A → Result B Fault)
    (g : A → Result C Fault) → ((x : A) → Answers R (f x) (g x)) → Answers R (onward r f) (onward r g)
onward_same R (Ok x) f g h = h x
onward_same R (Err (F.Cause c)) f g h = refl
onward_same R (Err F.Outside) f g h = tt
onward_same R (Err (F.Unspecified r)) f g h = tt

pub onward_both : {A B C D : Type 0} (Q : A → B → Type 0) (R : C → D → Type 0) (r : Result A Fault) (q : Result B Fault)
    (f : A → Result C Fault) (g : B → Result D Fault) → Answers Q r q →
    ((x : A) (y : B) → Q x y → Answers R (f x) (g y)) → Answers R (onward r f) (onward q g)
onward_both Q R (Ok x) (Ok y) f g a h = h x y a
onward_both Q R (Ok x) (Err e) f g a h = absurd a
onward_both Q R (Err (F.Cause c)) q f g a h = subst (λ z. Answers R (Err (F.Cause c)) (onward z g)) (sym a) refl
onward_both Q R (Err F.Outside) q f g a h = tt
onward_both Q R (Err (F.Unspecified r)) q f g a h = tt

life_same : {A B : Type 0} (R : A → B → Type 0) (l l' : Life) → SameLife l l' →
    (pad : Bool) (r : Result A Fault) (q : Result B Fault) → Answers R r q →
    Answers R (outside_unless_active l (padding_where pad r)) (outside_unless_active l' (padding_where false q))
life_same R Active l' e true r q h = tt
life_same R Active l' e false r q h = subst (λ z. Answers R r (outside_unless_active z q)) (sym e) h
life_same R Inactive l' e pad r q h = tt
life_same R Returned l' e pad r q h = tt

-- ---- cells

put_same : (i : ℕ) (xs us ys vs : List Cell) → Paired SameCell xs ys → Paired SameCell us vs →
    Paired SameCell (put_at xs i us) (put_at ys i vs)
put_same i xs [] ys [] h k = h
put_same i xs [] ys (v ∷ vs) h k = absurd k
put_same i xs (u ∷ us) ys [] h k = absurd k
put_same i xs (u ∷ us) ys (v ∷ vs) h k =
    put_same (suc i) (slice_set xs i u) us (slice_set ys i v) vs (set_both SameCell i xs ys u v h k.0) k.1

bytes_same : (n x : ℕ) → Paired SameCell (bytes_of n x) (bytes_of n x)
bytes_same zero x = tt
bytes_same (suc n) x = (refl, bytes_same n (x / 256))

all_known : (cs ds : List Cell) → Paired SameCell cs ds → has_unwritten cs ≡ false → has_part cs ≡ false → ds ≡ cs
all_known [] [] h e f = refl
all_known [] (d ∷ ds) h e f = absurd h
all_known (c ∷ cs) [] h e f = absurd h
all_known (Byte b ∷ cs) (d ∷ ds) h e f = let t : ds ≡ cs = all_known cs ds h.1 e f in let u : d ≡ Byte b = h.0 in cc
all_known (Unwritten ∷ cs) (d ∷ ds) h e f = absurd cc
all_known (PartOf v k ∷ cs) (d ∷ ds) h e f = absurd cc

none_part : (cs ds : List Cell) → Paired SameCell cs ds → has_part ds ≡ false
none_part [] [] h = refl
none_part [] (d ∷ ds) h = absurd h
none_part (c ∷ cs) [] h = absurd h
none_part (Byte b ∷ cs) (d ∷ ds) h = subst (λ z. has_part (z ∷ ds) ≡ false) (sym h.0) (none_part cs ds h.1)
none_part (Unwritten ∷ cs) (Byte b ∷ ds) h = none_part cs ds h.1
none_part (Unwritten ∷ cs) (Unwritten ∷ ds) h = none_part cs ds h.1
none_part (Unwritten ∷ cs) (PartOf w j ∷ ds) h = absurd h.0
none_part (PartOf v k ∷ cs) (Byte b ∷ ds) h = none_part cs ds h.1
none_part (PartOf v k ∷ cs) (Unwritten ∷ ds) h = none_part cs ds h.1
none_part (PartOf v k ∷ cs) (PartOf w j ∷ ds) h = absurd h.0

-- ---- units

abbrev SamePiece : Piece → Piece → Type 0
SamePiece (Tagged v) u = u ≡ Tagged v
SamePiece (Plain cs) (Plain ds) = Paired SameCell cs ds
SamePiece (Plain cs) (Tagged v) = ⊥

known_same : (k : ℕ) (cs ds : List Cell) → Paired SameCell cs ds → (u p : Bool) → has_unwritten cs ≡ u → has_part cs ≡ p
    → Answers ◌≡◌ (known u R.Unwritten (known p R.Address (Ok (read_as k cs))))
    (known (has_unwritten ds) R.Unwritten (known (has_part ds) R.Address (Ok (read_as k ds))))
known_same k cs ds h true p e f = tt
known_same k cs ds h false true e f = tt
known_same k cs ds h false false e f =
    subst (λ z. Answers ◌≡◌ (Ok (read_as k cs))
    (known (has_unwritten z) R.Unwritten (known (has_part z) R.Address (Ok (read_as k z)))))
    (sym (all_known cs ds h e f))
    (subst (λ b. Answers ◌≡◌ (Ok (read_as k cs))
    (known b R.Unwritten (known (has_part cs) R.Address (Ok (read_as k cs))))) (sym e)
    (subst (λ b. Answers ◌≡◌ (Ok (read_as k cs)) (known b R.Address (Ok (read_as k cs)))) (sym f) refl))

loaded_same : (k : ℕ) (u w : Piece) → SamePiece u w → Answers ◌≡◌ (loaded k u) (loaded k w)
loaded_same k (Tagged v) w h = subst (λ z. Answers ◌≡◌ (Ok v) (loaded k z)) (sym h) refl
loaded_same k (Plain cs) (Plain ds) h = known_same k cs ds h (has_unwritten cs) (has_part cs) refl refl
loaded_same k (Plain cs) (Tagged v) h = absurd h

carried_cells : (cs ds : List Cell) → Paired SameCell cs ds → (p : Bool) →
    Answers SamePiece (known p R.Address (Ok (Plain cs))) (known (has_part ds) R.Address (Ok (Plain ds)))
carried_cells cs ds h true = tt
carried_cells cs ds h false =
    subst (λ b. Answers SamePiece (Ok (Plain cs)) (known b R.Address (Ok (Plain ds)))) (sym (none_part cs ds h)) h

carried_same : (u w : Piece) → SamePiece u w → Answers SamePiece (carried u) (carried w)
carried_same (Tagged v) w h = subst (λ z. Answers SamePiece (Ok (Tagged v)) (carried z)) (sym h) refl
carried_same (Plain cs) (Plain ds) h = carried_cells cs ds h (has_part cs)
carried_same (Plain cs) (Tagged v) h = absurd h

stored_same : (k : ℕ) (v : Value) → SamePiece (stored_piece k v) (stored_piece k v)
stored_same k (Int x) = bytes_same k x
stored_same k (Raw a u) =
    join_both SameCell (bytes_of 8 a) (bytes_of 8 a) (bytes_of 8 u) (bytes_of 8 u) (bytes_same 8 a) (bytes_same 8 u)
stored_same k (Fun f) = refl
stored_same k (Live o low high at p) = refl

-- ---- memories

module _ (a : Addresses) where
  parts_same : (s t : List Shape) (v : Value) (k j : ℕ) →
      Paired SameCell (parts Strict s v k j) (parts (Placed a) t v k j)
  parts_same s t v k zero = tt
  parts_same s t v k (suc j) = (tt, parts_same s t v (suc k) j)

  opened_by_same : (s t : List Shape) (c d : Content) (g : ℕ) (o : Option Value) → SameContent c d →
      SameContent (opened_by Strict s c g o) (opened_by (Placed a) t d g o)
  opened_by_same s t c d g None h = h
  opened_by_same s t c d g (Some v) h = record {
    cells = put_same (16 * g) c.cells (parts Strict s v 0 16) d.cells (parts (Placed a) t v 0 16) h.cells
        (parts_same s t v 0 16);
    values = ap (λ vs. slice_set vs g None) h.values;
  }

  opened_same : (s t : List Shape) (c d : Content) (g : ℕ) → SameContent c d →
      SameContent (opened Strict s c g) (opened (Placed a) t d g)
  opened_same s t c d g h =
      subst (λ vs. SameContent (opened Strict s c g) (opened_by (Placed a) t d g (held (slice_get vs g)))) h.values
      (opened_by_same s t c d g (value_at c g) h)

  cell_same : (c d : Option Cell) → Both SameCell c d → SameCell (cell_or c) (cell_or d)
  cell_same c d neither = tt
  cell_same c d (both x y r) = r

  seen_same : (s t : List Shape) (o : Option Value) (k : ℕ) (c d : Cell) → SameCell c d →
      SameCell (seen_through Strict s o k c) (seen_through (Placed a) t o k d)
  seen_same s t None k c d h = h
  seen_same s t (Some v) k c d h = tt

  byte_same : (s t : List Shape) (c d : Content) (i : ℕ) → SameContent c d →
      SameCell (byte_at Strict s c i) (byte_at (Placed a) t d i)
  byte_same s t c d i h =
      subst (λ vs. SameCell (byte_at Strict s c i)
      (seen_through (Placed a) t (held (slice_get vs (i / 16))) (i % 16) (cell_or (slice_get d.cells i))))
      h.values
      (seen_same s t (value_at c (i / 16)) (i % 16) _ _ (cell_same _ _ (get_both SameCell i c.cells d.cells h.cells)))

  all_same : (s t : List Shape) (c d : Content) (i n : ℕ) → SameContent c d →
      Paired SameCell (bytes_at Strict s c i n) (bytes_at (Placed a) t d i n)
  all_same s t c d i zero h = tt
  all_same s t c d i (suc n) h = (byte_same s t c d i h, all_same s t c d (suc i) n h)

  choice : (b : Bool) (v : Value) (cs ds : List Cell) → Paired SameCell cs ds →
      SamePiece (if b then Tagged v else Plain cs) (if b then Tagged v else Plain ds)
  choice true v cs ds h = refl
  choice false v cs ds h = h

  piece_same : (m n : Memory) (c d : Content) (s : Spot) (k : ℕ) (o : Option Value) → SameContent c d →
      SamePiece (piece_of Strict m c s k o) (piece_of (Placed a) n d s k o)
  piece_same m n c d s k None h = all_same m.shapes n.shapes c d s.at k h
  piece_same m n c d s k (Some v) h =
      choice (s.carries && k == 16) v (bytes_at Strict m.shapes c s.at k) (bytes_at (Placed a) n.shapes d s.at k)
      (all_same m.shapes n.shapes c d s.at k h)

  place_same : {A B : Type 0} (R : A → B → Type 0) (m n : Memory) (s : Spot) (k : ℕ) (f : Content → Result A Fault)
      (g : Content → Result B Fault)
      → ((c d : Content) → SameContent c d → Answers R (f c) (g d))
      → (o o' : Option Shape) → Both SameShape o o' → (c d : Option Content) → Both SameContent c d
      → Answers R (at_place Strict m s k o c f) (at_place (Placed a) n s k o' d g)
  place_same R m n s k f g h o o' neither c d q = tt
  place_same R m n s k f g h o o' (both x y r) c d neither = tt
  place_same R m n s k f g h o o' (both x y r) c d (both u w q) =
      life_same R x.life y.life r.life _ (f u) (g w) (h u w q)

  spot_same : {A B : Type 0} (R : A → B → Type 0) (m n : Memory) → SameMemory m n →
      (s : Spot) (k : ℕ) (f : Content → Result A Fault) (g : Content → Result B Fault)
      → ((c d : Content) → SameContent c d → Answers R (f c) (g d)) →
      Answers R (at_spot Strict m s k f) (at_spot (Placed a) n s k g)
  spot_same R m n e s k f g h =
      place_same R m n s k f g h _ _ (get_both SameShape s.object m.shapes n.shapes e.shapes) _ _
      (get_both SameContent s.object m.contents n.contents e.contents)

  fetch_same : (m n : Memory) → SameMemory m n → (p : Value) (k : ℕ) →
      Answers SamePiece (fetch Strict m p k) (fetch (Placed a) n p k)
  fetch_same m n e p k = onward_same SamePiece (reach (load_access k) p) _ _
      (λ s. spot_same SamePiece m n e s k _ _ (λ c d h.
      subst (λ vs. SamePiece (piece_of Strict m c s k (value_at c (s.at / 16)))
      (piece_of (Placed a) n d s k (held (slice_get vs (s.at / 16))))) h.values
      (piece_same m n c d s k (value_at c (s.at / 16)) h)))

  with_same : (s t : List Shape) (c d : Content) (i : ℕ) (u w : Piece) → SameContent c d → SamePiece u w →
      SameContent (with_piece Strict s c i u) (with_piece (Placed a) t d i w)
  with_same s t c d i (Tagged v) w h r =
      subst (λ z. SameContent (with_piece Strict s c i (Tagged v)) (with_piece (Placed a) t d i z)) (sym r)
      (record { cells = h.cells; values = ap (λ vs. slice_set vs (i / 16) (Some v)) h.values })
  with_same s t c d i (Plain cs) (Plain ds) h r =
      let q : SameContent (opened Strict s c (i / 16)) (opened (Placed a) t d (i / 16)) =
      opened_same s t c d (i / 16) h in
      record {
        cells = put_same i (opened Strict s c (i / 16)).cells cs
            (opened (Placed a) t d (i / 16)).cells ds q.cells r;
        values = q.values;
      }
  with_same s t c d i (Plain cs) (Tagged v) h r = absurd r

  access_same : (k : ℕ) (u w : Piece) → SamePiece u w → store_access k u ≡ store_access k w
  access_same k (Tagged v) w h = sym (ap (store_access k) h)
  access_same k (Plain cs) (Plain ds) h = refl
  access_same k (Plain cs) (Tagged v) h = absurd h

  put_piece_same : (m n : Memory) → SameMemory m n → (p : Value) (k : ℕ) (u w : Piece) → SamePiece u w →
      Answers SameMemory (put Strict m p k u) (put (Placed a) n p k w)
  put_piece_same m n e p k u w r =
      subst (λ x. Answers SameMemory (put Strict m p k u)
      (onward (reach x p) (λ s. at_spot (Placed a) n s k
      (λ c. Ok (record n {
        contents = slice_set n.contents s.object
            (with_piece (Placed a) n.shapes c s.at w);
      }))))) (access_same k u w r)
      (onward_same SameMemory (reach (store_access k u) p) _ _ (λ s. spot_same SameMemory m n e s k _ _ (λ c d h.
      record {
        shapes = e.shapes;
        contents = set_both SameContent s.object m.contents n.contents _ _ e.contents
            (with_same m.shapes n.shapes c d s.at u w h r);
      })))

  copied_same : (m n : Memory) → SameMemory m n → (q : Value) (k : ℕ) (r r' : Result Piece Fault) →
      Answers SamePiece r r' → CopyAnswers SameMemory (then_put Strict m q k (as_load r))
      (then_put (Placed a) n q k (as_load r'))
  copied_same m n e q k (Ok u) (Ok w) h =
      stored (put Strict m q k u) (put (Placed a) n q k w) (put_piece_same m n e q k u w h)
    where
      stored : (x y : Result Memory Fault) → Answers SameMemory x y → CopyAnswers SameMemory (as_store x) (as_store y)
      stored (Ok x) (Ok y) h = h
      stored (Ok x) (Err f) h = absurd h
      stored (Err (F.Cause c)) y h =
          subst (λ z. CopyAnswers SameMemory (Err (U.Store (F.Cause c))) (as_store z)) (sym h) refl
      stored (Err F.Outside) y h = tt
      stored (Err (F.Unspecified r)) y h = tt
  copied_same m n e q k (Ok u) (Err f) h = absurd h
  copied_same m n e q k (Err (F.Cause c)) r' h =
      subst (λ z. CopyAnswers SameMemory (Err (U.Load (F.Cause c))) (then_put (Placed a) n q k (as_load z)))
      (sym h) refl
  copied_same m n e q k (Err F.Outside) r' h = tt
  copied_same m n e q k (Err (F.Unspecified r)) r' h = tt

  -- ---- objects that come and go

  blank_cells : (k : ℕ) → Paired SameCell (replicate k Unwritten) (replicate k (Byte 0))
  blank_cells zero = tt
  blank_cells (suc k) = (tt, blank_cells k)

  blank_same : (x y : ℕ) → x ≡ y → SameContent (blank Strict x) (blank (Placed a) y)
  blank_same x y e = subst (λ v. SameContent (blank Strict x) (blank (Placed a) v)) e
      (record { cells = blank_cells x; values = refl })

  owned_same : (o o' : Option Shape) → Both SameShape o o' → owned_of_shape o ≡ owned_of_shape o'
  owned_same o o' neither = refl
  owned_same o o' (both g h r) = r.owned

  life_set : (l : Life) → SameLife l l → (s t : List Shape) → Paired SameShape s t → (k : ℕ) (o o' : Option Shape) →
      Both SameShape o o' → Paired SameShape (with_life_by l s k o) (with_life_by l t k o')
  life_set l r s t e k o o' neither = e
  life_set l r s t e k o o' (both g h q) =
      set_both SameShape k s t _ _ e (record { length = q.length; owned = q.owned; life = r })

  lives_same : (l : Life) → SameLife l l → (m n : Memory) → SameMemory m n → (k : ℕ) →
      Paired SameShape (with_life_by l m.shapes k (slice_get m.shapes k))
      (with_life_by l n.shapes k (slice_get n.shapes k))
  lives_same l r m n e k = life_set l r m.shapes n.shapes e.shapes k _ _
      (get_both SameShape k m.shapes n.shapes e.shapes)

  inactive : (s t : List Shape) → Paired SameShape s t → (k : ℕ) →
      ((h : Shape) → slice_get t k ≡ Some h → IsNotReturned h.life) →
      Paired SameShape (with_life_by Inactive s k (slice_get s k)) t
  inactive [] [] e k l = tt
  inactive [] (h ∷ t) e k l = absurd e
  inactive (g ∷ s) [] e k l = absurd e
  inactive (g ∷ s) (h ∷ t) e zero l =
      let q = e.0 in (record { length = q.length; owned = q.owned; life = l h refl }, e.1)
  inactive (g ∷ s) (h ∷ t) e (suc k) l = tail (slice_get s k) (inactive s t e.1 k l)
    where
      tail : (o : Option Shape) → Paired SameShape (with_life_by Inactive s k o) t →
          Paired SameShape (with_life_by Inactive (g ∷ s) (suc k) o) (h ∷ t)
      tail None r = (e.0, r)
      tail (Some x) r = (e.0, r)

  noted_same : (m n : Memory) → SameMemory m n → (v : Value) (own : ℕ) →
      SameMemory (note_member Strict m v own) (note_member (Placed a) n v own)
  noted_same m n e (Int x) own = e
  noted_same m n e (Raw x y) own = e
  noted_same m n e (Fun f) own = e
  noted_same m n e (Live o low high at p) own = record { shapes = e.shapes; contents = e.contents }

  pub memory_agrees_law : MemoryAgrees a
  unfolding load store copy_unit
  memory_agrees_law = record {
    loads = λ m n e p k. onward_both SamePiece ◌≡◌ _ _ _ _ (fetch_same m n e p k) (loaded_same k);
    stores = λ m n e p k v. put_piece_same m n e p k _ _ (stored_same k v);
    copies = λ m n e p q k. copied_same m n e q k _ _
        (onward_both SamePiece SamePiece _ _ _ _ (fetch_same m n e p k) carried_same);
    adds = λ m n e length base base'. record {
      shapes = join_both SameShape m.shapes n.shapes _ _ e.shapes
          (record { length = refl; owned = refl; life = refl }, tt);
      contents = join_both SameContent m.contents n.contents _ _ e.contents
          (blank_same (owned length) (owned length) refl, tt);
    };
    zeros = λ m n e k. record {
      shapes = lives_same Active refl m n e k;
      contents = set_both SameContent k m.contents n.contents _ _ e.contents
          (blank_same _ _ (owned_same _ _ (get_both SameShape k m.shapes n.shapes e.shapes)));
    };
    rests = λ m n e k. record { shapes = lives_same Inactive tt m n e k; contents = e.contents };
    leaves = λ m n e k l. record { shapes = inactive m.shapes n.shapes e.shapes k l; contents = e.contents };
    ends = λ m n e k. record { shapes = lives_same Returned refl m n e k; contents = e.contents };
    notes = noted_same;
  }
