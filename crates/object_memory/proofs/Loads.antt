-- Bytes of an object as a value.
use Rattle.std.proofs.Common.{◌≡◌, ℕ, zero, suc, ◌+◌, List, [], ◌∷◌, ◌++◌, Bool, true, false, ◌||◌, refl, ap, ◌∙◌}
use Rattle.std.proofs.Common.{arith, Some, None, Ok, Result}
use Rattle.std.specs.Prelude.{◌/◌, ◌==◌, ◌&&◌, if◌then◌else◌, slice_get, Option, Err}
use Rattle.obj_mem.specs.declared.ending.Fault.{Fault}
use Rattle.obj_mem.specs.declared.ending.Fault.TheVariants as F
use Rattle.obj_mem.specs.declared.ending.Reason.TheVariants as R
use Rattle.obj_mem.specs.Values.{Value, Raw}
use Rattle.obj_mem.specs.Objects.{Cell, Byte, Unwritten, PartOf, Life, Active, Inactive, Returned, Shape, Content}
use Rattle.obj_mem.specs.Objects.{Memory, Mode, is_strict, byte_at, bytes_at, value_at}
use Rattle.obj_mem.specs.Access.{Plain, Tagged, Spot, at_place, at_spot, outside_unless_active, padding_where, piece_of}
use Rattle.obj_mem.specs.Access.{takes_padding, unspecified, has_unwritten, has_part, number_of, known, loaded, onward}
use Rattle.obj_mem.specs.Access.{carried, load, load_access, reach, read_as}
use Rattle.object_memory.specs.declared.access.Sum as summed
use Rattle.object_memory.specs.Copies.{carried_at}
use Rattle.object_memory.specs.Memories.{IsSum, loaded_at, reached}

bytes_split : (d : Mode) (s : List Shape) (c : Content) (i n m : ℕ) →
    bytes_at d s c i (n + m) ≡ bytes_at d s c i n ++ bytes_at d s c (i + n) m
bytes_split d s c i zero m = let e : i + 0 ≡ i = omega arith in let f : 0 + m ≡ m = omega arith in rw (e, f) refl
bytes_split d s c i (suc n) m =
    let e : suc n + m ≡ suc (n + m) = omega arith in
    let f : i + suc n ≡ suc i + n = omega arith in
    rw (e, f) (ap (λ cs. byte_at d s c i ∷ cs) (bytes_split d s c (suc i) n m))

unwritten_append : (xs ys : List Cell) → has_unwritten (xs ++ ys) ≡ (has_unwritten xs || has_unwritten ys)
unwritten_append [] ys = refl
unwritten_append (Byte b ∷ xs) ys = unwritten_append xs ys
unwritten_append (Unwritten ∷ xs) ys = refl
unwritten_append (PartOf v k ∷ xs) ys = unwritten_append xs ys

part_append : (xs ys : List Cell) → has_part (xs ++ ys) ≡ (has_part xs || has_part ys)
part_append [] ys = refl
part_append (Byte b ∷ xs) ys = part_append xs ys
part_append (Unwritten ∷ xs) ys = part_append xs ys
part_append (PartOf v k ∷ xs) ys = refl

halves : (d : Mode) (s : List Shape) (c : Content) (i : ℕ) →
    read_as 16 (bytes_at d s c i 8 ++ bytes_at d s c (i + 8) 8)
    ≡ Raw (number_of (bytes_at d s c i 8)) (number_of (bytes_at d s c (i + 8) 8))
halves d s c i = refl

-- sixteen bytes, by their halves
pub loaded_pair : (d : Mode) (s : List Shape) (c : Content) (i : ℕ) (low high : summed.Sum) →
    IsSum low (bytes_at d s c i 8) → IsSum high (bytes_at d s c (i + 8) 8)
    → loaded 16 (Plain (bytes_at d s c i 16))
    ≡ known (low.unwritten || high.unwritten) R.Unwritten
    (known (low.part || high.part) R.Address (Ok (Raw low.number high.number)))
loaded_pair d s c i low high l h =
    let xs = bytes_at d s c i 8 in
    let ys = bytes_at d s c (i + 8) 8 in
    let split : bytes_at d s c i 16 ≡ xs ++ ys = bytes_split d s c i 8 8 in
    let go : loaded 16 (Plain (xs ++ ys)) ≡ known (low.unwritten || high.unwritten) R.Unwritten
    (known (low.part || high.part) R.Address (Ok (Raw low.number high.number))) =
    rw (l.unwritten, h.unwritten, l.part, h.part, l.number, h.number, ← unwritten_append xs ys, ← part_append xs ys)
    refl in
    ap (λ cs. loaded 16 (Plain cs)) split ∙ go

-- ---- loads, step by step

by_life : {A : Type 0} (f : Content → Result A Fault) (c c' : Content) (l : Life) (b : Bool) →
    outside_unless_active l (padding_where b (Ok c')) ≡ Ok c → outside_unless_active l (padding_where b (f c')) ≡ f c
by_life f c c' Active false e = let same : c' ≡ c = cc in rw same refl
by_life f c c' Active true e =
    let bad : Result Content Fault = unspecified R.Padding in let no : bad ≡ Ok c = e in absurd cc
by_life f c c' Inactive b e = let bad : Result Content Fault = Err F.Outside in let no : bad ≡ Ok c = e in absurd cc
by_life f c c' Returned b e = let bad : Result Content Fault = Err F.Outside in let no : bad ≡ Ok c = e in absurd cc

by_place : {A : Type 0} (d : Mode) (m : Memory) (s : Spot) (n : ℕ) (f : Content → Result A Fault) (c : Content)
    (o : Option Shape) (x : Option Content) → at_place d m s n o x (λ y. Ok y) ≡ Ok c → at_place d m s n o x f ≡ f c
by_place d m s n f c (Some o) (Some x) e = by_life f c x o.life (is_strict d && takes_padding m.notes o s n) e
by_place d m s n f c (Some o) None e =
    let bad : Result Content Fault = Err F.Outside in let no : bad ≡ Ok c = e in absurd cc
by_place d m s n f c None x e = let bad : Result Content Fault = Err F.Outside in let no : bad ≡ Ok c = e in absurd cc

-- what is done with the object that an access reaches
pub at_spot_by : {A : Type 0} (d : Mode) (m : Memory) (s : Spot) (n : ℕ) (f : Content → Result A Fault) (c : Content) →
    reached d m s n ≡ Ok c → at_spot d m s n f ≡ f c
at_spot_by d m s n f c e = by_place d m s n f c (slice_get m.shapes s.object) (slice_get m.contents s.object) e

fails_by_life : {A : Type 0} (f : Content → Result A Fault) (e : Fault) (c : Content) (l : Life) (b : Bool) →
    outside_unless_active l (padding_where b (Ok c)) ≡ Err e → outside_unless_active l (padding_where b (f c)) ≡ Err e
fails_by_life f e c Active false h = let good : Result Content Fault = Ok c in let no : good ≡ Err e = h in absurd cc
fails_by_life f e c Active true h =
    let bad : Result Content Fault = unspecified R.Padding in let same : bad ≡ Err e = h in
    let is : F.Unspecified R.Padding ≡ e = cc in rw is refl
fails_by_life f e c Inactive b h =
    let bad : Result Content Fault = Err F.Outside in let same : bad ≡ Err e = h in let is : F.Outside ≡ e = cc in
    rw is refl
fails_by_life f e c Returned b h =
    let bad : Result Content Fault = Err F.Outside in let same : bad ≡ Err e = h in let is : F.Outside ≡ e = cc in
    rw is refl

fails_by_place : {A : Type 0} (d : Mode) (m : Memory) (s : Spot) (n : ℕ) (f : Content → Result A Fault) (e : Fault)
    (o : Option Shape) (x : Option Content) → at_place d m s n o x (λ y. Ok y) ≡ Err e → at_place d m s n o x f ≡ Err e
fails_by_place d m s n f e (Some o) (Some x) h =
    fails_by_life f e x o.life (is_strict d && takes_padding m.notes o s n) h
fails_by_place d m s n f e (Some o) None h =
    let bad : Result Content Fault = Err F.Outside in let same : bad ≡ Err e = h in let is : F.Outside ≡ e = cc in
    rw is refl
fails_by_place d m s n f e None x h =
    let bad : Result Content Fault = Err F.Outside in let same : bad ≡ Err e = h in let is : F.Outside ≡ e = cc in
    rw is refl

-- an access that reaches no object fails alike, whatever is to be done
pub at_spot_fails : {A : Type 0} (d : Mode) (m : Memory) (s : Spot) (n : ℕ) (f : Content → Result A Fault) (e : Fault) →
    reached d m s n ≡ Err e → at_spot d m s n f ≡ Err e
at_spot_fails d m s n f e h = fails_by_place d m s n f e (slice_get m.shapes s.object) (slice_get m.contents s.object) h

no_tag : (b : Bool) (v : Value) (cs : List Cell) → (if b then Some v else None) ≡ None →
    (if b then Tagged v else Plain cs) ≡ Plain cs
no_tag false v cs e = refl
no_tag true v cs e = absurd cc

plain_piece : (d : Mode) (m : Memory) (c : Content) (s : Spot) (n : ℕ) (o : Option Value) →
    (if s.carries && n == 16 then o else None) ≡ None → piece_of d m c s n o ≡ Plain (bytes_at d m.shapes c s.at n)
plain_piece d m c s n None e = refl
plain_piece d m c s n (Some v) e = no_tag (s.carries && n == 16) v (bytes_at d m.shapes c s.at n) e

pub load_plain : (d : Mode) (m : Memory) (s : Spot) (n : ℕ) (c : Content) → reached d m s n ≡ Ok c →
    (if s.carries && n == 16 then value_at c (s.at / 16) else None) ≡ None →
    loaded_at d m s n ≡ loaded n (Plain (bytes_at d m.shapes c s.at n))
load_plain d m s n c e h =
    let there = at_spot_by d m s n (λ x. Ok (piece_of d m x s n (value_at x (s.at / 16)))) c e in
    ap (λ r. onward r (loaded n)) there ∙ ap (loaded n) (plain_piece d m c s n (value_at c (s.at / 16)) h)

-- a load, by what it reaches
pub load_there : (d : Mode) (m : Memory) (p : Value) (n : ℕ) (s : Spot) → reach (load_access n) p ≡ Ok s →
    load d m p n ≡ loaded_at d m s n
unfolding load
load_there d m p n s h = rw h refl

pub load_fails : (d : Mode) (m : Memory) (s : Spot) (n : ℕ) (e : Fault) → reached d m s n ≡ Err e →
    loaded_at d m s n ≡ Err e
load_fails d m s n e h =
    ap (λ r. onward r (loaded n))
    (at_spot_fails d m s n (λ c. Ok (piece_of d m c s n (value_at c (s.at / 16)))) e h)

-- ---- what a copy takes, alike

pub carried_fails : (d : Mode) (m : Memory) (s : Spot) (n : ℕ) (e : Fault) → reached d m s n ≡ Err e →
    carried_at d m s n ≡ Err e
carried_fails d m s n e h =
    ap (λ r. onward r carried)
    (at_spot_fails d m s n (λ c. Ok (piece_of d m c s n (value_at c (s.at / 16)))) e h)

pub carried_plain : (d : Mode) (m : Memory) (s : Spot) (n : ℕ) (c : Content) → reached d m s n ≡ Ok c →
    (if s.carries && n == 16 then value_at c (s.at / 16) else None) ≡ None →
    carried_at d m s n ≡ carried (Plain (bytes_at d m.shapes c s.at n))
carried_plain d m s n c e h =
    let there = at_spot_by d m s n (λ x. Ok (piece_of d m x s n (value_at x (s.at / 16)))) c e in
    ap (λ r. onward r carried) there ∙ ap carried (plain_piece d m c s n (value_at c (s.at / 16)) h)
