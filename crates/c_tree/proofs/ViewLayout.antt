-- The layout of a type does not hang on its number: programs that stand for one program have the same extents and the
-- same room.
use Rattle.std.proofs.Common.{◌≡◌, ℕ, zero, suc, ◌+◌, ◌<◌, List, [], ◌∷◌, length, get_or, Option, Some, None, refl, sym}
use Rattle.std.proofs.Common.{ap, ◌∙◌, arith}
use Rattle.std.specs.Prelude.{slice_get, slice_index_or, map}
use Rattle.std.proofs.lemmas.Option.{slice_get-get_or}
use Rattle.c_tree.specs.declared.typed.CType.{CType}
use Rattle.c_tree.specs.declared.typed.CType.TheVariants as ctypes
use Rattle.c_tree.specs.declared.typed.Member.{Member}
use Rattle.c_tree.specs.declared.typed.Typed.{Typed}
use Rattle.c_tree.specs.Layout.{Extent, with_extent, times, behind, beside, no_members, members, whole, extent_of}
use Rattle.c_tree.specs.Layout.{extent_within, extent}
use Rattle.c_tree.specs.Types.{Ty, Void}
use Rattle.c_tree.specs.Terms.{Program}
use Rattle.c_tree.specs.TreeLayout.{tree_members, type_level, tree_extent}
use Rattle.c_tree.specs.Views.{type_from, types_of, type_at, member_of, Shows, IsOrdered}
use Rattle.c_tree.proofs.Forest.{forest_reads}
use Rattle.c_tree.proofs.Depth.{up, depth_enough}

with_same : {A : Type 0} (o r : Option Extent) (f g : Extent → Option A) → o ≡ r → ((y : Extent) → f y ≡ g y) →
    with_extent o f ≡ with_extent r g
with_same None r f g e h = rw (← e) refl
with_same (Some x) r f g e h = rw (← e) (h x)

-- the extents of two ways of naming types agree on the members
members_same : (place : Extent → Extent → Extent) (f : ℕ → Option Extent) (g : Ty → Option Extent) (ts : List Ty)
    (n : ℕ) (ms : List Member) (x : Extent) → ((u : ℕ) → u < n → f u ≡ g (type_at ts u)) →
    ((j : ℕ) (m : Member) → slice_get ms j ≡ Some m → m.of < n) →
    members place f ms x ≡ tree_members place g (map (member_of ts) ms) x
unfolding members
members_same place f g ts n [] x h b = refl
members_same place f g ts n (m ∷ ms) x h b =
    with_same (f m.of) (g (type_at ts m.of)) (λ y. members place f ms (place y x))
    (λ y. tree_members place g (map (member_of ts) ms) (place y x))
    (h m.of (b 0 m refl)) (λ y. members_same place f g ts n ms (place y x) h (λ j k e. b (suc j) k e))

level : (p : Typed) (q : Program) (o : IsOrdered p) (s : Shows p q) (f : ℕ → Option Extent) (g : Ty → Option Extent) →
    ((u : ℕ) → u < length p.types → f u ≡ g (type_at (types_of p.types) u)) → (t : ℕ) (c : CType) →
    slice_get p.types t ≡ Some c → t < length p.types → (go : ℕ → Ty) →
    ((j : ℕ) → j < t → go j ≡ type_at (types_of p.types) j) →
    extent_of (Some c) f ≡ type_level q.tags (type_from c go) g
level p q o s f g h t ctypes.Void e lt go b = refl
level p q o s f g h t (ctypes.Int k n) e lt go b = refl
level p q o s f g h t (ctypes.Cap u) e lt go b = refl
level p q o s f g h t (ctypes.Pointer u) e lt go b = refl
level p q o s f g h t (ctypes.Array u n) e lt go b =
    let l = o.types t (ctypes.Array u n) e in
    ap (λ x. with_extent x (times n)) (h u (omega arith)) ∙ ap (λ v. with_extent (g v) (times n)) (sym (b u l))
level p q o s f g h t (ctypes.Struct tag ms) e lt go b =
    let a = s.tags t (ctypes.Struct tag ms) e in
    let m = members_same behind f g (types_of p.types) (length p.types) ms no_members h
    (o.types t (ctypes.Struct tag ms) e) in
    rw a (ap (λ x. with_extent x whole) m)
level p q o s f g h t (ctypes.Union tag ms) e lt go b =
    let a = s.tags t (ctypes.Union tag ms) e in
    let m = members_same beside f g (types_of p.types) (length p.types) ms no_members h
    (o.types t (ctypes.Union tag ms) e) in
    rw a (ap (λ x. with_extent x whole) m)
level p q o s f g h t (ctypes.Function u ps) e lt go b = refl
level p q o s f g h t (ctypes.Const u) e lt go b =
    let l = o.types t (ctypes.Const u) e in
    h u (omega arith) ∙ ap g (sym (b u l))
level p q o s f g h t (ctypes.Incomplete tag) e lt go b =
    let a = s.tags t (ctypes.Incomplete tag) e in
    rw (a.1, a.2) refl

-- at every depth a number's extent is that of the type that it stands for
pub view_extent : (p : Typed) (q : Program) → IsOrdered p → Shows p q → (d t : ℕ) → t < length p.types →
    extent_within d p.types t ≡ tree_extent d q.tags (type_at (types_of p.types) t)
unfolding extent_within tree_extent
view_extent p q o s zero t lt = refl
view_extent p q o s (suc d) t lt =
    let c = get_or p.types t ctypes.Void in
    let e : slice_get p.types t ≡ Some c = slice_get-get_or p.types t ctypes.Void lt in
    let r = forest_reads type_from Void p.types t c e in
    let go : ℕ → Ty = λ j. slice_index_or r.seen j Void in
    rw (e, r.is) (level p q o s (extent_within d p.types) (tree_extent d q.tags)
    (λ u l. view_extent p q o s d u l) t c e lt go r.before)

options_equal : (o r : Option Extent) → ((x : Extent) → o ≡ Some x → r ≡ Some x) →
    ((x : Extent) → r ≡ Some x → o ≡ Some x) → o ≡ r
options_equal None None f g = refl
options_equal None (Some x) f g = g x refl
options_equal (Some x) r f g = sym (f x refl)

deeper : (types : List CType) (k t : ℕ) → extent types t ≡ extent_within (length types + k) types t
deeper types k t =
    options_equal (extent types t) (extent_within (length types + k) types t) (λ x e. up types (length types) k t x e)
    (λ x e. depth_enough types (length types + k) t x e)

-- the extent of a type in a program, whatever its number
pub extent_is : (p : Typed) (q : Program) → IsOrdered p → Shows p q → (k t : ℕ) → t < length p.types →
    extent p.types t ≡ tree_extent (length p.types + k) q.tags (type_at (types_of p.types) t)
extent_is p q o s k t lt = deeper p.types k t ∙ view_extent p q o s (length p.types + k) t lt
