-- The size of a type, level by level.
use Rattle.std.proofs.Common.{◌≡◌, ℕ, ◌*◌, ◌<◌, ◌≤◌, List, length, take, Option, Some, None, refl, ap, ◌∙◌, arith}
use Rattle.std.specs.Prelude.{slice_get}
use Rattle.std.proofs.lemmas.Option.{slice_get_within}
use Rattle.c_tree.specs.declared.typed.CType.{CType}
use Rattle.c_tree.specs.Layout.{Extent, with_extent, times}
use Rattle.c_tree.specs.Types.{Ty}
use Rattle.c_tree.specs.Views.{type_from, type_at, types_of}
use Rattle.c_tree.specs.Scopes.{TagState, type_extent}
use Rattle.c_interner.specs.Heads.{Head, built, params_of}
use Rattle.c_interner.specs.Numbers.{SeesBefore}
use Rattle.c_interner.proofs.Growing.{type_at-level, sees_before}
use Rattle.c_type_sizes.specs.Sizes.{step_extent, numbered_extent}
use Rattle.c_type_sizes.specs.declared.extents.Step.{Step}

pub none_of : (e : Option Extent) (n : ℕ) → n ≡ 0 → with_extent e (times n) ≡ None
none_of None n h = refl
none_of (Some x) n h = ap (λ m. times m x) h

pub once : (o : Option Extent) → with_extent o (times 1) ≡ o
once None = refl
once (Some x) = let e : 1 * x.size ≡ x.size = omega arith in
    ap (λ (n : ℕ). Some (record { size = n; align = x.align })) e

pub part_past : (tags : List TagState) (types : List CType) (seen : ℕ → Ty) (t i n : ℕ) → SeesBefore types t seen →
    t ≤ i → with_extent (type_extent tags (seen i)) (times n) ≡ None
part_past tags types seen t i n h le = rw (h.past i le) refl

pub part_below : (tags : List TagState) (types : List CType) (seen : ℕ → Ty) (t i n : ℕ) → SeesBefore types t seen →
    i < t → with_extent (type_extent tags (seen i)) (times n) ≡ with_extent (numbered_extent tags types i) (times n)
part_below tags types seen t i n h lt = ap (λ x. with_extent (type_extent tags x) (times n)) (h.below i lt)

-- a type of the list, by its level
pub level_extent : (tags : List TagState) (cs : List CType) (k : ℕ) (c : CType) (h : Head) (s : Step) →
    slice_get cs k ≡ Some c → ((go : ℕ → Ty) → type_from c go ≡ built h (params_of c) go) →
    ((seen : ℕ → Ty) (ps : List ℕ) → SeesBefore cs k seen →
    type_extent tags (built h ps seen) ≡ step_extent tags cs s) → numbered_extent tags cs k ≡ step_extent tags cs s
level_extent tags cs k c h s e t l =
    let lt = slice_get_within cs k c e in
    let le : k ≤ length cs = omega arith in
    let seen = type_at (types_of (take k cs)) in
    ap (type_extent tags) (type_at-level cs k c e ∙ t seen) ∙ l seen (params_of c) (sees_before cs k le)
