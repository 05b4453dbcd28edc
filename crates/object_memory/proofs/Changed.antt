-- Memory in which one object changed, or one was added.
use Rattle.std.proofs.Common.{◌≡◌, ℕ, zero, suc, ◌^◌, ◌<◌, ◌≤◌, List, [], ◌∷◌, map, length, get_or, set, refl, sym, ap}
use Rattle.std.proofs.Common.{◌∙◌, arith, Some, None}
use Rattle.std.specs.Prelude.{slice_get, option_map}
use Rattle.std.proofs.lemmas.List.{map-set, set_past, length-map, map-append}
use Rattle.std.proofs.lemmas.Option.{slice_get-map, slice_get_past, slice_get-get_or}
use Rattle.cap_concentrate.specs.Rounding.{owned}
use Rattle.cap_concentrate.proofs.Owned.{owned_near}
use Rattle.obj_mem.specs.Objects.{Life, Active, Mode, fresh, with_life, zero_object}
use Rattle.object_memory.proofs.Roundings.{alignment_below}
use Rattle.object_memory.specs.declared.notes.Note as noted
use Rattle.object_memory.specs.Views.{ObjectView, filled}
use Rattle.object_memory.specs.Answers.{shape_of, content_of, shapes_of, contents_of}
use Rattle.object_memory.specs.Memories.{memory_at}

pub owned_bound : (n : ℕ) → n ≤ 2 ^ 40 → owned n < 2 ^ 63
owned_bound n h = omega (arith, owned_near n, alignment_below n, h)

pub owned_most : (n : ℕ) → n < 2 ^ 63 → owned n < 2 ^ 64
owned_most n h = omega (arith, owned_near n, alignment_below n, h)

-- the list of objects gains one
pub ruleset pushes = (map-append, length-map)

here : (os : List ObjectView) (k : ℕ) (x : ObjectView) → k < length os → x ≡ get_or os k x → slice_get os k ≡ Some x
here os k x h e = slice_get-get_or os k x h ∙ ap (λ y. Some y) (sym e)

shape_here : (os : List ObjectView) (k : ℕ) (x : ObjectView) → k < length os → x ≡ get_or os k x →
    slice_get (shapes_of os) k ≡ Some x.shape
shape_here os k x h e = slice_get-map shape_of os k ∙ ap (option_map shape_of) (here os k x h e)

same_content : (os : List ObjectView) (k : ℕ) (x y : ObjectView) → k < length os → x ≡ get_or os k x →
    y.content ≡ x.content → map content_of (set os k y) ≡ map content_of os
same_content [] k x y h e c = refl
same_content (o ∷ os) zero x y h e c = rw (c, e) refl
same_content (o ∷ os) (suc k) x y h e c = ap (λ cs. o.content ∷ cs) (same_content os k x y (omega arith) e c)

-- an object's life changes
pub life_set : (os : List ObjectView) (ns : List noted.Note) (k : ℕ) (l : Life) (x : ObjectView) → k < length os →
    x ≡ get_or os k x
    → memory_at (set os k (record x { shape = record x.shape { life = l } })) ns ≡ with_life l (memory_at os ns) k
life_set os ns k l x h e =
    let y : ObjectView = record x { shape = record x.shape { life = l } } in
    rw (shape_here os k x h e, map-set shape_of os k y, same_content os k x y h e refl) refl

pub life_past : (os : List ObjectView) (ns : List noted.Note) (k : ℕ) (l : Life) → length os ≤ k →
    memory_at os ns ≡ with_life l (memory_at os ns) k
life_past os ns k l h =
    let none : slice_get (shapes_of os) k ≡ None =
    slice_get_past (shapes_of os) k (omega (arith, h, length-map os shape_of)) in
    rw none refl

-- nothing is written in an object from here on, and it is active
pub zero_set : (d : Mode) (os : List ObjectView) (ns : List noted.Note) (k : ℕ) (x : ObjectView) → k < length os →
    x ≡ get_or os k x
    → memory_at (set os k (record {
      shape = record x.shape { life = Active };
      content = filled (fresh d) x.shape.owned;
    })) ns ≡ zero_object d (memory_at os ns) k
zero_set d os ns k x h e =
    let y : ObjectView = record { shape = record x.shape { life = Active }; content = filled (fresh d) x.shape.owned }
    in
    rw (shape_here os k x h e, map-set shape_of os k y, map-set content_of os k y) refl

pub zero_past : (d : Mode) (os : List ObjectView) (ns : List noted.Note) (k : ℕ) → length os ≤ k →
    memory_at os ns ≡ zero_object d (memory_at os ns) k
zero_past d os ns k h =
    let none : slice_get (shapes_of os) k ≡ None =
    slice_get_past (shapes_of os) k (omega (arith, h, length-map os shape_of)) in
    rw (none, set_past (contents_of os) k (filled (fresh d) 0) (omega (arith, h, length-map os content_of))) refl
