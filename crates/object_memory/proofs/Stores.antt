-- A piece put into an object.
use Rattle.std.proofs.Common.{◌≡◌, ℕ, zero, suc, ◌/◌, ◌<◌, List, [], ◌∷◌, map, length, get_or, set, refl, sym, ap, ◌∙◌}
use Rattle.std.proofs.Common.{arith, Some, None, Option, Ok}
use Rattle.std.specs.Prelude.{slice_get, option_map, Err}
use Rattle.std.proofs.lemmas.List.{map-set}
use Rattle.std.proofs.lemmas.Option.{slice_get-get_or}
use Rattle.obj_mem.specs.Values.{Value}
use Rattle.obj_mem.specs.Objects.{Cell, Shape, Content, Memory, Mode, parts, put_at, value_at, opened_by, with_bytes}
use Rattle.obj_mem.specs.Objects.{with_value}
use Rattle.obj_mem.specs.declared.ending.Fault.{Fault}
use Rattle.obj_mem.specs.Access.{Piece, Spot, Tagged, Plain, with_piece}
use Rattle.object_memory.specs.declared.notes.Note as noted
use Rattle.object_memory.specs.Views.{ObjectView, put_over}
use Rattle.object_memory.specs.Answers.{shape_of, content_of, shapes_of}
use Rattle.object_memory.specs.Memories.{Leaves, memory_at, put_there, reached, with_content}
use Rattle.object_memory.proofs.Loads.{at_spot_by, at_spot_fails}

by_held : (d : Mode) (s : List Shape) (c : Content) (i : ℕ) (cs : List Cell) (o : Option Value) →
    (record { cells = put_at (opened_by d s c (i / 16) o).cells i cs; values = (opened_by d s c (i / 16) o).values })
    ≡ put_over (option_map (λ v. parts d s v 0 16) o) c i cs
by_held d s c i cs None = refl
by_held d s c i cs (Some v) = refl

over_is : (d : Mode) (s : List Shape) (c : Content) (i : ℕ) (cs : List Cell) →
    with_bytes d s c i cs ≡ put_over (option_map (λ v. parts d s v 0 16) (value_at c (i / 16))) c i cs
over_is d s c i cs = by_held d s c i cs (value_at c (i / 16))

same_shape : (os : List ObjectView) (k : ℕ) (x y : ObjectView) → k < length os → x ≡ get_or os k x → y.shape ≡ x.shape →
    map shape_of (set os k y) ≡ map shape_of os
same_shape [] k x y h e c = refl
same_shape (o ∷ os) zero x y h e c = rw (c, e) refl
same_shape (o ∷ os) (suc k) x y h e c = ap (λ cs. o.shape ∷ cs) (same_shape os k x y (omega arith) e c)

content_set : (os : List ObjectView) (ns : List noted.Note) (k : ℕ) (x : ObjectView) (c : Content) → k < length os →
    x ≡ get_or os k x → memory_at (set os k (record x { content = c })) ns ≡ with_content (memory_at os ns) k c
content_set os ns k x c h e =
    let y : ObjectView = record x { content = c } in
    rw (same_shape os k x y h e refl, map-set content_of os k y) refl

pub found : (os : List ObjectView) (k : ℕ) (x o : ObjectView) → k < length os → x ≡ get_or os k x →
    slice_get os k ≡ Some o → o ≡ x
found os k x o h e s =
    let there : Some o ≡ Some x = sym s ∙ slice_get-get_or os k x h ∙ ap (λ y. Some y) (sym e) in
    cc

pub put_tagged : (d : Mode) (os : List ObjectView) (ns : List noted.Note) (k at : ℕ) (v : Value) (x o : ObjectView) →
    k < length os → x ≡ get_or os k x → slice_get os k ≡ Some o
    → memory_at (set os k (record x { content = with_value x.content at v })) ns
    ≡ with_content (memory_at os ns) k (with_piece d (shapes_of os) o.content at (Tagged v))
put_tagged d os ns k at v x o h e s = rw (found os k x o h e s) (content_set os ns k x (with_value x.content at v) h e)

pub put_plain : (d : Mode) (os : List ObjectView) (ns : List noted.Note) (k at : ℕ) (cs : List Cell)
    (held : Option (List Cell)) (x o : ObjectView) → k < length os → x ≡ get_or os k x → slice_get os k ≡ Some o →
    held ≡ option_map (λ v. parts d (shapes_of os) v 0 16) (value_at o.content (at / 16))
    → memory_at (set os k (record x { content = put_over held x.content at cs })) ns
    ≡ with_content (memory_at os ns) k (with_piece d (shapes_of os) o.content at (Plain cs))
put_plain d os ns k at cs held x o h e s l =
    let same = found os k x o h e s in
    let over = over_is d (shapes_of os) o.content at cs in
    let is : put_over held x.content at cs ≡ with_bytes d (shapes_of os) o.content at cs = rw (l, ← same) (sym over) in
    content_set os ns k x (put_over held x.content at cs) h e ∙ ap (with_content (memory_at os ns) k) is

-- ---- what is left of a store

pub leaves_fault : (U : Type 0) (d : Mode) (m : Memory) (s : Spot) (n : ℕ) (u : Piece) (e : Fault) →
    reached d m s n ≡ Err e → Leaves {U = U} (put_there d m s n u) m (Err e) m
leaves_fault U d m s n u e h =
    let fails : put_there d m s n u ≡ Err e =
    at_spot_fails d m s n (λ c. Ok (with_content m s.object (with_piece d m.shapes c s.at u))) e h in
    rw fails (refl, refl)

pub leaves_put : {U : Type 0} (d : Mode) (m after : Memory) (s : Spot) (n : ℕ) (u : Piece) (c : Content) (x : U) →
    reached d m s n ≡ Ok c → after ≡ with_content m s.object (with_piece d m.shapes c s.at u) →
    Leaves (put_there d m s n u) m (Ok x) after
leaves_put d m after s n u c x h e =
    let done : put_there d m s n u ≡ Ok (with_content m s.object (with_piece d m.shapes c s.at u)) =
    at_spot_by d m s n (λ y. Ok (with_content m s.object (with_piece d m.shapes y s.at u))) c h in
    rw done e
