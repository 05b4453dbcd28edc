-- Where a member begins is the same at each number of its struct or union, and so is whether a type is const.
use Rattle.std.proofs.Common.{◌≡◌, ℕ, zero, suc, ◌<◌, ◌≤◌, List, [], ◌∷◌, length, get_or, map, Option, Some, None}
use Rattle.std.proofs.Common.{refl, ap, arith}
use Rattle.std.specs.Prelude.{slice_get}
use Rattle.std.proofs.lemmas.Option.{slice_get-get_or}
use Rattle.c_tree.specs.declared.typed.CType.{CType}
use Rattle.c_tree.specs.declared.typed.CType.TheVariants as ctypes
use Rattle.c_tree.specs.declared.typed.Member.{Member}
use Rattle.c_tree.specs.declared.typed.Typed.{Typed}
use Rattle.c_tree.specs.Layout.{Extent, with_extent, behind, member_offset, no_members, bare, extent, struct_offset}
use Rattle.c_tree.specs.Layout.{union_offset, offset_of_member}
use Rattle.c_tree.specs.Types.{Ty}
use Rattle.c_tree.specs.Types as ty
use Rattle.c_tree.specs.Terms.{Program}
use Rattle.c_tree.specs.TreeLayout.{tree_extent}
use Rattle.c_tree.specs.Views.{type_from, types_of, type_at, member_of, Shows, IsOrdered}
use Rattle.obj_mem.specs.Needs.{is_const_of, is_const_within, is_const}
use Rattle.cheri_c_sem.specs.Types.{offset_in, offset_or_zero}
use Rattle.same_programs.specs.Types.{peeled, tree_struct_offset, tree_union_offset, tree_member_at, tree_offset}
use Rattle.same_programs.proofs.Nodes.{type_is}
use Rattle.same_programs.proofs.Types.{bare_is, extent_same}

-- ---- members

with_same : {A : Type 0} (o r : Option Extent) (f g : Extent → Option A) → o ≡ r → ((y : Extent) → f y ≡ g y) →
    with_extent o f ≡ with_extent r g
with_same None r f g e h = rw (← e) refl
with_same (Some x) r f g e h = rw (← e) (h x)

struct_same : (f : ℕ → Option Extent) (g : Ty → Option Extent) (ts : List Ty) (n : ℕ) (ms : List Member) (k : ℕ)
    (x : Extent) → ((u : ℕ) → u < n → f u ≡ g (type_at ts u)) →
    ((j : ℕ) (m : Member) → slice_get ms j ≡ Some m → m.of < n) →
    struct_offset f ms k x ≡ tree_struct_offset g (map (member_of ts) ms) k x
unfolding struct_offset
struct_same f g ts n [] k x h b = refl
struct_same f g ts n (m ∷ ms) zero x h b =
    ap (λ y. with_extent y (λ z. Some (member_offset z x))) (h m.of (b 0 m refl))
struct_same f g ts n (m ∷ ms) (suc k) x h b =
    with_same (f m.of) (g (type_at ts m.of)) (λ y. struct_offset f ms k (behind y x))
    (λ y. tree_struct_offset g (map (member_of ts) ms) k (behind y x))
    (h m.of (b 0 m refl)) (λ y. struct_same f g ts n ms k (behind y x) h (λ j. b (suc j)))

union_same : (ts : List Ty) (ms : List Member) (k : ℕ) →
    union_offset (slice_get ms k) ≡ tree_union_offset (slice_get (map (member_of ts) ms) k)
union_same ts [] k = refl
union_same ts (m ∷ ms) zero = refl
union_same ts (m ∷ ms) (suc k) = union_same ts ms k

module _ (p : Typed) (o : IsOrdered p) (q : Program) (s : Shows p q) (d : ℕ) (deep : length p.types ≤ d) where
  abbrev ts : List Ty
  ts = types_of p.types

  member_level : (t n : ℕ) (c : CType) → slice_get p.types t ≡ Some c →
      offset_of_member (Some c) (extent p.types) n
      ≡ tree_member_at q.tags (type_from c (type_at ts)) (tree_extent d q.tags) n
  member_level t n (ctypes.Struct tag ms) e =
      let a = s.tags t (ctypes.Struct tag ms) e in
      rw a (struct_same (extent p.types) (tree_extent d q.tags) ts (length p.types) ms n no_members
      (extent_same p o q s d deep) (o.types t (ctypes.Struct tag ms) e))
  member_level t n (ctypes.Union tag ms) e =
      let a = s.tags t (ctypes.Union tag ms) e in
      rw a (union_same ts ms n)
  member_level t n (ctypes.Incomplete tag) e = let a = s.tags t (ctypes.Incomplete tag) e in rw (a.1, a.2) refl
  member_level t n c e = refl

  pub offset_is : (t n : ℕ) → t < length p.types → offset_in p.types t n ≡ tree_offset d q.tags (type_at ts t) n
  offset_is t n lt =
      let b = bare_is p o t lt in
      let e : offset_of_member (bare p.types t) (extent p.types) n
      ≡ tree_member_at q.tags (peeled (type_at ts t)) (tree_extent d q.tags) n =
      rw (b.is, b.tree) (member_level b.number n b.type b.there) in
      ap offset_or_zero e

-- ---- const

module _ (p : Typed) (o : IsOrdered p) where
  const_level : (d t : ℕ) (c : CType) → slice_get p.types t ≡ Some c → t < suc d → t < length p.types →
      ((u : ℕ) → u < d → u < length p.types →
      is_const_within d p.types u ≡ ty.is_const (type_at (types_of p.types) u)) →
      is_const_of (Some c) (is_const_within d p.types) ≡ ty.is_const (type_from c (type_at (types_of p.types)))
  const_level d t (ctypes.Array u n) e lt there h =
      let l : u < t = o.types t (ctypes.Array u n) e in
      h u (omega arith) (omega arith)
  const_level d t (ctypes.Const u) e lt there h = refl
  const_level d t c e lt there h = refl

  const_within : (d t : ℕ) → t < d → t < length p.types →
      is_const_within d p.types t ≡ ty.is_const (type_at (types_of p.types) t)
  unfolding is_const_within
  const_within zero t lt there = absurd (omega arith)
  const_within (suc d) t lt there =
      let c = get_or p.types t ctypes.Void in
      let e : slice_get p.types t ≡ Some c = slice_get-get_or p.types t ctypes.Void there in
      rw (e, type_is p o t c e) (const_level d t c e lt there (const_within d))

  pub const_is : (t : ℕ) → t < length p.types → is_const p.types t ≡ ty.is_const (type_at (types_of p.types) t)
  const_is t lt = const_within (length p.types) t lt lt
