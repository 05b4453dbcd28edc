-- What the meaning asks of a type is the same at each number that stands for it.
use Rattle.std.proofs.Common.{◌≡◌, ℕ, zero, suc, ◌+◌, ◌<◌, ◌≤◌, List, length, get_or}
use Rattle.std.proofs.Common.{Some, refl, sym, ap, subst, ◌∙◌, arith}
use Rattle.std.specs.Prelude.{slice_get, ◌-◌}
use Rattle.std.proofs.lemmas.Option.{slice_get-get_or}
use Rattle.c_tree.specs.declared.typed.CType.{CType}
use Rattle.c_tree.specs.declared.typed.CType.TheVariants as ctypes
use Rattle.c_tree.specs.declared.typed.Typed.{Typed}
use Rattle.c_tree.specs.Layout.{bare_within, bare, extent}
use Rattle.c_tree.specs.Types.{Ty, Pointer}
use Rattle.c_tree.specs.Terms.{Program}
use Rattle.c_tree.specs.TreeLayout.{tree_extent}
use Rattle.c_tree.specs.Views.{type_from, types_of, type_at, Shows, IsOrdered}
use Rattle.c_tree.proofs.ViewLayout.{extent_is}
use Rattle.cheri_c_sem.specs.Types.{size_in, align_in, scalar_of, kind_or_int, kind_of, is_record, is_void, is_plain}
use Rattle.cheri_c_sem.specs.Types.{is_pointer, is_signed_capability, size_of_extent, align_of_extent}
use Rattle.same_programs.specs.Types.{peeled, tree_scalar, tree_kind, is_tree_record, is_tree_void}
use Rattle.same_programs.specs.Types.{is_tree_plain, is_tree_pointer, is_tree_signed, tree_size, tree_align}
use Rattle.same_programs.proofs.Nodes.{type_is}

-- the type behind `const`: it stands at a number of its own
pub record Bared (p : Typed) (d t : ℕ) : Type 0 where
  pub number : ℕ
  pub type : CType
  pub there : slice_get p.types number ≡ Some type
  pub no_later : number ≤ t
  pub is : bare_within d p.types t ≡ Some type
  pub tree : peeled (type_at (types_of p.types) t) ≡ type_from type (type_at (types_of p.types))

module _ (p : Typed) (o : IsOrdered p) where
  abbrev ts : List Ty
  ts = types_of p.types

  abbrev go : ℕ → Ty
  go = type_at ts

  own : (d t : ℕ) (c : CType) → slice_get p.types t ≡ Some c → bare_within (suc d) p.types t ≡ Some c →
      peeled (type_from c go) ≡ type_from c go → Bared p (suc d) t
  own d t c e i h = record {
    number = t;
    type = c;
    there = e;
    no_later = omega arith;
    is = i;
    tree = ap peeled (type_is p o t c e) ∙ h;
  }

  bared_level : (d t : ℕ) (c : CType) → t < suc d → t < length p.types → slice_get p.types t ≡ Some c →
      ((u : ℕ) → u < d → u < length p.types → Bared p d u) → Bared p (suc d) t
  unfolding bare_within peeled
  bared_level d t (ctypes.Const u) lt there e h =
      let l : u < t = o.types t (ctypes.Const u) e in
      let b = h u (omega arith) (omega arith) in
      record {
        number = b.number;
        type = b.type;
        there = b.there;
        no_later = omega (arith, b.no_later);
        is = rw e b.is;
        tree = ap peeled (type_is p o t (ctypes.Const u) e) ∙ b.tree;
      }
  bared_level d t c lt there e h = own d t c e (rw e refl) refl

  bared : (d t : ℕ) → t < d → t < length p.types → Bared p d t
  bared zero t lt there = absurd (omega arith)
  bared (suc d) t lt there =
      bared_level d t (get_or p.types t ctypes.Void) lt there (slice_get-get_or p.types t ctypes.Void there) (bared d)

  pub bare_is : (t : ℕ) → t < length p.types → Bared p (length p.types) t
  bare_is t lt = bared (length p.types) t lt lt

  -- ---- kinds

  scalar_level : (c : CType) (g : ℕ → Ty) → scalar_of (Some c) ≡ tree_scalar (type_from c g)
  scalar_level (ctypes.Int k n) g = refl
  scalar_level (ctypes.Cap signed) g = refl
  scalar_level (ctypes.Pointer t) g = refl
  scalar_level c g = refl

  pub scalar_is : (t : ℕ) → t < length p.types → scalar_of (bare p.types t) ≡ tree_scalar (peeled (type_at ts t))
  scalar_is t lt = let b = bare_is t lt in rw (b.is, b.tree) (scalar_level b.type go)

  pub kind_is : (t : ℕ) → t < length p.types → kind_of (bare p.types t) ≡ tree_kind (type_at ts t)
  kind_is t lt = ap kind_or_int (scalar_is t lt)

  void_level : (c : CType) (g : ℕ → Ty) → is_void (Some c) ≡ is_tree_void (type_from c g)
  void_level ctypes.Void g = refl
  void_level c g = refl

  pub void_is : (t : ℕ) → t < length p.types → is_void (bare p.types t) ≡ is_tree_void (peeled (type_at ts t))
  void_is t lt = let b = bare_is t lt in rw (b.is, b.tree) (void_level b.type go)

  plain_level : (c : CType) (g : ℕ → Ty) → is_plain (Some c) ≡ is_tree_plain (type_from c g)
  plain_level (ctypes.Int k n) g = refl
  plain_level c g = refl

  pub plain_is : (t : ℕ) → t < length p.types → is_plain (bare p.types t) ≡ is_tree_plain (peeled (type_at ts t))
  plain_is t lt = let b = bare_is t lt in rw (b.is, b.tree) (plain_level b.type go)

  signed_level : (c : CType) (g : ℕ → Ty) → is_signed_capability (Some c) ≡ is_tree_signed (type_from c g)
  signed_level (ctypes.Cap signed) g = refl
  signed_level c g = refl

  pub signed_is : (t : ℕ) → t < length p.types →
      is_signed_capability (bare p.types t) ≡ is_tree_signed (peeled (type_at ts t))
  signed_is t lt = let b = bare_is t lt in rw (b.is, b.tree) (signed_level b.type go)

  pointer_level : (c : CType) (g : ℕ → Ty) → is_pointer (Some c) ≡ is_tree_pointer (type_from c g)
  pointer_level (ctypes.Pointer t) g = refl
  pointer_level c g = refl

  pub pointer_is : (t : ℕ) → t < length p.types → is_pointer (bare p.types t) ≡ is_tree_pointer (peeled (type_at ts t))
  pointer_is t lt = let b = bare_is t lt in rw (b.is, b.tree) (pointer_level b.type go)

  -- what a pointer points to
  pub record Points (t : ℕ) (u : Ty) : Type 0 where
    pub number : ℕ
    pub there : number < length p.types
    pub is : bare p.types t ≡ Some (ctypes.Pointer number)
    pub tree : type_at ts number ≡ u

  points_level : (t : ℕ) (u : Ty) (b : Bared p (length p.types) t) (c : CType) → t < length p.types → b.type ≡ c →
      type_from c go ≡ Pointer u → Points t u
  points_level t u b (ctypes.Pointer v) lt e h =
      let g : slice_get p.types b.number ≡ Some (ctypes.Pointer v) = b.there ∙ ap Some e in
      let l : v < b.number = o.types b.number (ctypes.Pointer v) g in
      let z : Pointer (go v) ≡ Pointer u = h in
      record {
        number = v;
        there = omega (arith, b.no_later);
        is = b.is ∙ ap Some e;
        tree = cc;
      }
  points_level t u b ctypes.Void lt e h = absurd cc
  points_level t u b (ctypes.Int k n) lt e h = absurd cc
  points_level t u b (ctypes.Cap signed) lt e h = absurd cc
  points_level t u b (ctypes.Array v n) lt e h = absurd cc
  points_level t u b (ctypes.Struct tag ms) lt e h = absurd cc
  points_level t u b (ctypes.Union tag ms) lt e h = absurd cc
  points_level t u b (ctypes.Function v ps) lt e h = absurd cc
  points_level t u b (ctypes.Const v) lt e h = absurd cc
  points_level t u b (ctypes.Incomplete tag) lt e h = absurd cc

  pub pointee_at : (t : ℕ) (u : Ty) → t < length p.types → peeled (type_at ts t) ≡ Pointer u → Points t u
  pointee_at t u lt h = let b = bare_is t lt in points_level t u b b.type lt refl (sym b.tree ∙ h)

module _ (p : Typed) (o : IsOrdered p) (q : Program) (s : Shows p q) where
  record_level : (k : ℕ) (c : CType) → slice_get p.types k ≡ Some c →
      is_record (Some c) ≡ is_tree_record q.tags (type_from c (type_at (types_of p.types)))
  record_level k (ctypes.Struct tag ms) e = let a = s.tags k (ctypes.Struct tag ms) e in rw a refl
  record_level k (ctypes.Union tag ms) e = let a = s.tags k (ctypes.Union tag ms) e in rw a refl
  record_level k (ctypes.Incomplete tag) e = let a = s.tags k (ctypes.Incomplete tag) e in rw (a.1, a.2) refl
  record_level k c e = refl

  pub record_is : (t : ℕ) → t < length p.types →
      is_record (bare p.types t) ≡ is_tree_record q.tags (peeled (type_at (types_of p.types) t))
  record_is t lt = let b = bare_is p o t lt in rw (b.is, b.tree) (record_level b.number b.type b.there)

  -- ---- layout

  module _ (d : ℕ) (deep : length p.types ≤ d) where
    pub extent_same : (t : ℕ) → t < length p.types →
        extent p.types t ≡ tree_extent d q.tags (type_at (types_of p.types) t)
    extent_same t lt =
        let e : length p.types + (d - length p.types) ≡ d = omega arith in
        subst (λ n. extent p.types t ≡ tree_extent n q.tags (type_at (types_of p.types) t)) e
        (extent_is p q o s (d - length p.types) t lt)

    pub size_is : (t : ℕ) → t < length p.types → size_in p.types t ≡ tree_size d q.tags (type_at (types_of p.types) t)
    size_is t lt = ap size_of_extent (extent_same t lt)

    pub align_is : (t : ℕ) → t < length p.types →
        align_in p.types t ≡ tree_align d q.tags (type_at (types_of p.types) t)
    align_is t lt = ap align_of_extent (extent_same t lt)
