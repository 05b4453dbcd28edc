-- The trees of expressions that are well typed fit.
use Rattle.std.proofs.Common.{◌≡◌, ℕ, zero, suc, ◌+◌, ◌<◌, ◌^◌, Bool, true, false, List, [], ◌∷◌, length, map, get_or}
use Rattle.std.proofs.Common.{Option, Some, None, refl, sym, subst, arith}
use Rattle.std.specs.Prelude.{slice_get, if◌then◌else◌}
use Rattle.std.proofs.lemmas.Option.{slice_get_within, slice_get-get_or}
use Rattle.ck_base.specs.declared.positions.Pos.{Pos}
use Rattle.ck_int.proofs.Laws.{IsKept-below}
use Rattle.cap_ops.specs.Permissions.{data_permissions, const_permissions}
use Rattle.c_tree.specs.declared.typed.CType.{CType}
use Rattle.c_tree.specs.declared.typed.Expr.{Expr}
use Rattle.c_tree.specs.declared.typed.ExprKind.{ExprKind}
use Rattle.c_tree.specs.declared.typed.ExprKind.TheVariants as exprs
use Rattle.c_tree.specs.declared.typed.GlobalDef.{GlobalDef}
use Rattle.c_tree.specs.declared.typed.Typed.{Typed}
use Rattle.c_tree.specs.declared.typed.UnaryOp.{UnaryOp}
use Rattle.c_tree.specs.declared.typed.UnaryOp.TheVariants as unary
use Rattle.c_tree.specs.declared.typed.VarDef.{VarDef}
use Rattle.c_tree.specs.Types as ty
use Rattle.c_tree.specs.Types.{Ty, bare}
use Rattle.c_tree.specs.Layout as layout
use Rattle.c_tree.specs.Terms.{Term, terms}
use Rattle.c_tree.specs.Views.{types_of, type_at, kind_term, expr_from, no_term, terms_of, term_at, operands, IsOrdered}
use Rattle.c_tree.specs.WellTyped.{Frame, TermFits, TermsFit, ConstantFits}
use Rattle.c_tree.proofs.Forest.{forest_reads}
use Rattle.obj_mem.specs.Needs.{is_const}
use Rattle.cheri_c_sem.specs.Kinds.{Kind, Plain, Capability}
use Rattle.cheri_c_sem.specs.Types.{size_in, is_simple, objects_before, is_record, is_void, is_pointer, kind_of}
use Rattle.cheri_c_sem.specs.Types.{scalar_of}
use Rattle.cheri_c_sem.specs.Expressions.{constant, sign_of, arguments, bare_type, permissions_of, variable}
use Rattle.cheri_c_sem.specs.Expressions.{conversion_by, conversion, makes_from_plain, kind_tree, expr_tree}
use Rattle.cheri_c_sem.specs.Programs.{lengths_of}
use Rattle.cheri_c_sem.specs.Tree.{Ex, Load, Aggregate, Discard, Variable, Local}
use Rattle.cheri_c_sem.proofs.Unfold.{expression_node}
use Rattle.placement.specs.Trees.{IsFit, AreFit}
use Rattle.placement.proofs.Ordering.{ordered_of}

-- ---- variables that are objects

-- one that is an object has a number below the count of objects
pub object_within : (p : Typed) (vars : List VarDef) (x : ℕ) → is_simple (slice_get vars x) ≡ false
    → objects_before vars x < length (lengths_of p vars)
object_within p [] x e = absurd cc
object_within p (v ∷ vs) zero e =
    subst (λ b. 0 < length (if b then lengths_of p vs else (size_in p.types v.of ∷ lengths_of p vs))) (sym e)
    (omega arith)
object_within p (v ∷ vs) (suc x) e = go v.simple (object_within p vs x e)
  where
    go : (b : Bool) → objects_before vs x < length (lengths_of p vs)
        → (if b then 0 else 1) + objects_before vs x < length
        (if b then lengths_of p vs else (size_in p.types v.of ∷ lengths_of p vs))
    go true l = omega (arith, l)
    go false l = omega (arith, l)

module _ (p : Typed) (vars : List VarDef) where
  abbrev pub globals : ℕ
  globals = length p.globals + length p.literals

  abbrev pub functions : ℕ
  functions = length p.funs

  abbrev pub objects : ℕ
  objects = length (lengths_of p vars)

  abbrev pub Fits : Ex → Type 0
  Fits e = IsFit globals functions objects e

  chosen : (b : Bool) (x y : Ex) → Fits x → Fits y → Fits (if b then x else y)
  chosen true x y f g = f
  chosen false x y f g = g

  -- ---- nodes

  word_of : (t : Ty) (n : ℕ) → ConstantFits t n → n < 2 ^ 64
  word_of (ty.Int k m) n h = IsKept-below k n h
  word_of ty.Void n h = h
  word_of (ty.Cap s) n h = h
  word_of (ty.Pointer t) n h = h
  word_of (ty.Array t m) n h = h
  word_of (ty.Tagged m) n h = h
  word_of (ty.Function t ps) n h = h
  word_of (ty.Const t) n h = h

  constant_fit : (n : ℕ) (k : Kind) → n < 2 ^ 64 → Fits (constant n k)
  constant_fit n (Plain i) h = h
  constant_fit n (Capability signed) h = h

  variable_fit : (pos : Pos) (x : ℕ) → Fits (variable p vars pos x)
  variable_fit pos x = go (is_simple (slice_get vars x)) refl
    where
      go : (b : Bool) → is_simple (slice_get vars x) ≡ b
          → Fits (if b then Variable pos x else Local pos (objects_before vars x))
      go true e = tt
      go false e = object_within p vars x e

  few : (b : Bool) → (if b then const_permissions else data_permissions) < 4096
  few true = omega arith
  few false = omega arith

  pub permitted : (o : Option GlobalDef) → permissions_of p vars o < 4096
  permitted None = omega arith
  permitted (Some g) = few (is_const p.types g.of)

  convert_fit : (pos : Pos) (a b : Option Kind) (plain : Bool) (e : Ex) → Fits e
      → Fits (conversion_by p vars pos a b plain e)
  convert_fit pos (Some a) (Some b) plain e f = f
  convert_fit pos None b plain e f = f
  convert_fit pos (Some a) None plain e f = f

  conversion_fit : (pos : Pos) (old new : Option CType) (e : Ex) → Fits e → Fits (conversion p vars pos old new e)
  conversion_fit pos old new e f =
      chosen (is_void new) (Discard e)
      (conversion_by p vars pos (scalar_of old) (scalar_of new) (makes_from_plain p vars old new e) e) f
      (convert_fit pos (scalar_of old) (scalar_of new) (makes_from_plain p vars old new e) e f)

  sign_fit : (pos : Pos) (k : Kind) (e : Ex) (op : UnaryOp) → Fits e → Fits (sign_of pos k e op)
  sign_fit pos k e unary.Plus f = f
  sign_fit pos k e unary.Minus f = f
  sign_fit pos k e unary.Complement f = f
  sign_fit pos k e unary.LogicalNot f = f

  abbrev pub F : Ty → Frame
  F gives = record { program = p; vars = vars; gives = gives }

  module _ (gives : Ty) (tree : ℕ → Ex) (go : ℕ → Term) where
    arguments_fit : (xs : List ℕ) → ((j a : ℕ) → slice_get xs j ≡ Some a → TermFits (F gives) (go a) → Fits (tree a))
        → TermsFit (F gives) (terms (map go xs)) → AreFit globals functions objects (arguments tree xs)
    unfolding TermFits
    arguments_fit [] h f = tt
    arguments_fit (x ∷ xs) h f = (h 0 x refl f.0, arguments_fit xs (λ j a e. h (suc j) a e) f.1)

    kind_fit : (kind : ExprKind) (of : ℕ) (pos : Pos) (t : Ty)
        → ((j a : ℕ) → slice_get (operands kind) j ≡ Some a → TermFits (F gives) (go a) → Fits (tree a))
        → TermFits (F gives) (kind_term (types_of p.types) kind t pos go) → Fits (kind_tree p vars tree of pos kind)
    unfolding TermFits
    kind_fit (exprs.Constant n) of pos t h f = constant_fit n (kind_of (layout.bare p.types of))
        (word_of (bare t) n f.1.0)
    kind_fit (exprs.Literal k) of pos t h f = let w = slice_get_within p.literals k f.1.0 f.1.1 in
        let z : length p.globals + k < globals = omega (arith, w) in
        (z, let y : const_permissions < 4096 = omega arith in y)
    kind_fit (exprs.Var x) of pos t h f = variable_fit pos x
    kind_fit (exprs.Global g) of pos t h f = let w = slice_get_within p.globals g f.1.0 f.1.1 in
        (let z : g < globals = omega (arith, w) in z, permitted (slice_get p.globals g))
    kind_fit (exprs.Fun g) of pos t h f = slice_get_within p.funs g f.1.0 f.1.1
    kind_fit (exprs.Load a) of pos t h f = let x = h 0 a refl f.0.0 in chosen (is_record (layout.bare p.types of))
        (Aggregate (tree a)) (Load (kind_of (layout.bare p.types of)) (tree a)) x x
    kind_fit (exprs.Decay a) of pos t h f = h 0 a refl f.0.0
    kind_fit (exprs.Deref a) of pos t h f = h 0 a refl f.0.0
    kind_fit (exprs.Member a k) of pos t h f = h 0 a refl f.0.0
    kind_fit (exprs.Address a) of pos t h f = h 0 a refl f.0.0
    kind_fit (exprs.Convert a) of pos t h f = conversion_fit pos (bare_type p vars a) (layout.bare p.types of)
        (tree a) (h 0 a refl f.0.0)
    kind_fit (exprs.Unary o a) of pos t h f = sign_fit pos _ (tree a) o (h 0 a refl f.0.0)
    kind_fit (exprs.Int o a b) of pos t h f = (h 0 a refl f.0.0, h 1 b refl f.0.1.0)
    kind_fit (exprs.Capability o a b right) of pos t h f = (h 0 a refl f.0.0, h 1 b refl f.0.1.0)
    kind_fit (exprs.Plus a b minus) of pos t h f = let x = h 0 a refl f.0.0 in let y = h 1 b refl f.0.1.0 in
        chosen (is_pointer (bare_type p vars a)) _ _ (x, y) (x, y)
    kind_fit (exprs.Difference a b) of pos t h f = (h 0 a refl f.0.0, h 1 b refl f.0.1.0)
    kind_fit (exprs.Compare o a b) of pos t h f = (h 0 a refl f.0.0, h 1 b refl f.0.1.0)
    kind_fit (exprs.And a b) of pos t h f = (h 0 a refl f.0.0, h 1 b refl f.0.1.0)
    kind_fit (exprs.Or a b) of pos t h f = (h 0 a refl f.0.0, h 1 b refl f.0.1.0)
    kind_fit (exprs.Conditional c a b) of pos t h f = (h 0 c refl f.0.0, h 1 a refl f.0.1.0, h 2 b refl f.0.1.1.0)
    kind_fit (exprs.Comma a b) of pos t h f = (h 0 a refl f.0.0, h 1 b refl f.0.1.0)
    kind_fit (exprs.Assign a b) of pos t h f = let x = h 0 a refl f.0.0 in let y =
        h 1 b refl f.0.1.0 in chosen (is_record (layout.bare p.types of)) _ _ (x, y) (x, y)
    kind_fit (exprs.Compound o a b c) of pos t h f = (h 0 a refl f.0.0, h 1 b refl f.0.1.0)
    kind_fit (exprs.Step a adds front) of pos t h f = (h 0 a refl f.0.0, let z : 1 < 2 ^ 64 = omega arith in z)
    kind_fit (exprs.Call g xs) of pos t h f = (h 0 g refl f.0.0, arguments_fit xs (λ j a e. h (suc j) a e) f.0.1)
    kind_fit (exprs.Library n xs) of pos t h f = arguments_fit xs h f.0

  below_fit : IsOrdered p → (gives : Ty) (n k : ℕ) → k < n → k < length p.exprs
      → TermFits (F gives) (get_or (terms_of p) k no_term) → Fits (expr_tree p vars k)
  below_fit o gives zero k l m f = absurd (omega (arith, l))
  below_fit o gives (suc n) k l m f =
      let c : Expr = get_or p.exprs k
      (record { kind = exprs.Constant 0; of = 0; pos = record { line = 0; col = 0 } }) in
      let e : slice_get p.exprs k ≡ Some c = slice_get-get_or p.exprs k _ m in
      let r = forest_reads (expr_from (types_of p.types)) no_term p.exprs k c e in
      subst Fits (sym (expression_node p vars (ordered_of p o) k c e))
      (kind_fit gives (expr_tree p vars) (λ j. get_or r.seen j no_term) c.kind c.of c.pos
      (type_at (types_of p.types) c.of)
      (λ j a q g. let lt = o.operands_before k j a c e q in below_fit o gives n a (omega (arith, lt, l))
      (omega (arith, lt, m)) (subst (TermFits (F gives)) (r.before a lt) g))
      (subst (TermFits (F gives)) r.is f))

  -- the tree of an expression that is well typed
  pub expression_fit : IsOrdered p → (gives : Ty) (k : ℕ) → k < length p.exprs
      → TermFits (F gives) (term_at (terms_of p) k) → Fits (expr_tree p vars k)
  expression_fit o gives k m f = below_fit o gives (suc k) k (omega arith) m f
