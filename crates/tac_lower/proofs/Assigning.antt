-- Code is shown to be that of pointers that are moved, of assignments and of steps by one.
use Rattle.std.proofs.Common.{◌≡◌, ℕ, Bool, true, false, ◌∷◌, length, Option, Some, None, refl, sym, ap, ◌∙◌}
use Rattle.std.proofs.Common.{subst, arith, inl, Result, Ok, Err, IfOk}
use Rattle.std.specs.Option.{unwrap_or}
use Rattle.std.specs.Prelude.{slice_get, IfSome, ◌≤◌, ◌*◌, ◌%◌, ◌^◌, if◌then◌else◌}
use Rattle.ck_int.specs.declared.kinds.IntKind.{IntKind}
use Rattle.ck_int.specs.declared.kinds.IntKind.TheVariants as int
use Rattle.c_tree.specs.Layout.{bare}
use Rattle.c_tree.specs.Terms.{type_of}
use Rattle.c_tree.specs.Views.{IsOrdered}
use Rattle.c_tree.specs.declared.typed.CType.{CType}
use Rattle.c_tree.specs.declared.typed.CType.TheVariants as types
use Rattle.c_tree.specs.declared.typed.Expr.{Expr}
use Rattle.c_tree.specs.declared.typed.ExprKind.TheVariants as exprs
use Rattle.c_tree.specs.declared.typed.FunDef.{FunDef}
use Rattle.cheri_c_sem.specs.Expressions as sem
use Rattle.cheri_c_sem.specs.Order.{Ordered}
use Rattle.cheri_c_sem.specs.Tree.{Binary, Moved, Apart}
use Rattle.cheri_c_sem.specs.Types.{is_pointer, pointee_of, size_in, size_of_extent}
use Rattle.c_tree.specs.Layout.{size_limit}
use Rattle.c_tree.specs.Types.{Ty}
use Rattle.c_tree.specs.WellTyped.{type_in, PointsToComplete}
use Rattle.c_tree.specs.declared.typed.Typed.{Typed}
use Rattle.tac_ir.specs.Effects.{kind_of}
use Rattle.tac_ir.specs.WellFormed.{constant_fits}
use Rattle.tac_ir.specs.declared.code.Amount.TheVariants as amount
use Rattle.tac_ir.specs.declared.code.TacInstr.TheVariants as instr
use Rattle.tac_ir.specs.declared.code.TacKind.{TacKind}
use Rattle.tac_ir.specs.declared.code.TacKind.TheVariants as kind
use Rattle.tac_emit.specs.declared.emitter.Emitter.{Emitter}
use Rattle.lower_runs.specs.Operating.{stride, difference, moved, moved_temps}
use Rattle.lower_runs.specs.Expressions as rule
use Rattle.lower_runs.specs.Expressions.{IsConstant, more}
use Rattle.lower_runs.specs.Trees.{Values}
use Rattle.tac_lower.specs.Nodes.{IsScalar, points, expression, kind_in, DifferenceNode, SumNode, ConstantNode}
use Rattle.tac_lower.specs.Scenes.{frame_of}
use Rattle.tac_emit.specs.Adding.{mark, Emits, none, one}
use Rattle.tac_lower.specs.Tables.{is_some, target_by, type_at, IsSmall, IsPointed}
use Rattle.tac_lower.specs.Trees.{Setting, tree, IsNode, Peels, TypesFit, ShowsValue, ShowsPair}
use Rattle.tac_lower.specs.Assigning.{IsIndex, IsSum, ShowsMoved, ShowsOwn}
use Rattle.tac_lower.proofs.Deriving.{node_tree, node_kind, kind_is, same_scalar, value_binary, value_as, kept_by_fit}
use Rattle.tac_lower.proofs.Deriving.{mark_more, mark_same}
use Rattle.tac_emit.proofs.Emitting.{added_then}
use Rattle.tac_lower.proofs.Keeping.{scalar_kind}
use Rattle.tac_lower.proofs.Signatures.{pointed}
use Rattle.tac_lower.proofs.Typings.{facts_point, none_kept, none_points, expression_type}
use Rattle.tac_emit.proofs.Wells.{keeps_same, keeps_then}

pub point_is : (c : Option CType) → is_some (target_by c) ≡ is_pointer c
point_is (Some (types.Pointer t)) = refl
point_is (Some c) = refl
point_is None = refl

target_is : (c : Option CType) (n : ℕ) → target_by c ≡ Some n → pointee_of c ≡ n
target_is (Some (types.Pointer t)) n h = cc
target_is (Some c) n h = absurd cc
target_is None n h = absurd cc

-- a value that is given
pub given_is : (P : ℕ → Type 0) (r : Option ℕ) (other : ℕ) → is_some r ≡ true → IfSome r P → P (unwrap_or r other)
given_is P (Some z) other h g = g
given_is P None other h g = absurd cc

pub none_is : (r : Option ℕ) (other : ℕ) → is_some r ≡ false → unwrap_or r other ≡ other
none_is (Some z) other h = absurd cc
none_is None other h = refl

pub points_there : {p : Typed} {t : Ty} → PointsToComplete p t → points t ≡ true
points_there h = ap points h.1

-- what a pointer to a complete type points to is no larger than an object may be
module _ (p : Typed) (t : IsOrdered p) (sizes : TypesFit p) where
  pub element_small : (n : ℕ) → PointsToComplete p (type_in p n) → IsSmall p.types (pointee_of (bare p.types n))
  element_small n h =
      let e = pointed p t n h.0 h.1 in
      let x = h.2.1 in
      let is : size_in p.types e.type ≡ h.2.0.size =
      sizes.sizes e.type x.number (inl (e.names ∙ sym x.is)) ∙ ap size_of_extent x.extent_is in
      subst (λ z. IsSmall p.types z) (sym (target_is (bare p.types n) e.type e.is))
      (subst (λ z. z ≤ size_limit) (sym is) x.within)

  type_is : (k : ℕ) → points (type_of (expression p k)) ≡ true → type_in p (type_at p k) ≡ type_of (expression p k)
  type_is k h = by (slice_get p.exprs k) refl
    where
      by : (e : Option Expr) → slice_get p.exprs k ≡ e → type_in p (type_at p k) ≡ type_of (expression p k)
      by None none = absurd (let q : false ≡ true = sym (none_points p t k none) ∙ h in cc)
      by (Some e) there = ap (λ z. type_in p (sem.type_of z)) there ∙ sym (expression_type p t k e there)

  -- the size of what a node points to
  pub pointed_is : (k : ℕ) {size : ℕ} → PointsToComplete p (type_of (expression p k)) →
      IsPointed p.types (type_at p k) size →
      size ≡ size_in p.types (pointee_of (bare p.types (type_at p k)))
  pointed_is k h e = e.size (element_small (type_at p k)
      (subst (λ z. PointsToComplete p z) (sym (type_is k (points_there h))) h))

module _ (s : Setting) where
  -- ---- a temp for a value that is changed

  pub own_kept : {to : Option ℕ} {t : ℕ} (a : Emitter) → to ≡ Some t → s.fixed ≤ t → ShowsOwn s to t a a
  own_kept {to = to} {t = t} a e h = record {
    added = record { is = λ rest. refl };
    keeps = keeps_same a.kinds.items a.kinds.items refl;
    is = λ g fixed.
        let low : g.fixed ≤ t = omega (arith, fixed, h) in
        subst (λ z. rule.IsOwn g z t (mark a) (mark a)) (sym e) (rule.given low);
  }

  pub own_made : (to : Option ℕ) {t : ℕ} {a b : Emitter} → t ≡ length a.kinds.items → Emits a b 1 none →
      ShowsOwn s to t a b
  own_made to {t = t} {a = a} {b = b} e f = record {
    added = f.added;
    keeps = f.keeps;
    is = λ g fixed.
        subst (λ n. rule.IsOwn g to t (mark a) n) (sym (mark_more f))
        (subst (λ n. rule.IsOwn g to n (mark a) (more 1 (mark a))) (sym e) (rule.fresh {to = to} {m = mark a}));
  }

  pub own_new : {E : Type 0} (to : Option ℕ) (a b : Emitter) (r : Result ℕ E) → IfOk r (λ t. t ≡ length a.kinds.items) →
      IfOk r (λ _. Emits a b 1 none) → IfOk r (λ t. ShowsOwn s to t a b)
  own_new to a b (Ok t) e f = own_made to e f
  own_new to a b (Err n) e f = tt

  module _ (o : Ordered s.program) (t : IsOrdered s.program) where
    -- ---- an index that is known

    pub index_constant : (d : FunDef) {k j v : ℕ} {i : IntKind} → Peels s k j → IsNode s.program j (exprs.Constant v) →
        ConstantNode (frame_of s.program d) j v → IsScalar s.program k (kind.Int i) → IsIndex s k v
    index_constant d {j = j} {v = v} {i = i} peels n node h =
        let own = peels.scalar (kind.Int i) h in
        let same : node.kind ≡ kind.Int i = same_scalar s o t node.is own in
        let is : tree s j ≡ sem.constant v (kind_of (kind.Int i)) = node_tree s o t n
        ∙ ap (sem.constant v) (node_kind s.program t j n.node (kind.Int i) n.there own) in
        record {
          kind = i;
          scalar = h;
          is = peels.constant i v h (subst (λ z. IsConstant i z v) (sym is)
              (rule.number (kept_by_fit i v (subst (λ z. constant_fits z v ≡ true) same node.fits))));
        }

    -- ---- pointers

    pub point_of : {k : ℕ} {j : TacKind} → IsScalar s.program k j →
        is_pointer (sem.bare_type s.program s.vars k) ≡ points (type_of (expression s.program k))
    point_of {k = k} {j = j} h = by (slice_get s.program.exprs k) refl
      where
        by : (e : Option Expr) → slice_get s.program.exprs k ≡ e →
            is_pointer (sem.bare_type s.program s.vars k) ≡ points (type_of (expression s.program k))
        by None none = absurd (let q : None ≡ Some j = sym (none_kept s.program t k none) ∙ h.is in cc)
        by (Some e) there = ap (λ z. is_pointer (bare s.program.types (sem.type_of z))) there
            ∙ sym (point_is (bare s.program.types e.of))
            ∙ facts_point s.program t k e (target_by (bare s.program.types e.of)) there refl

    pub value_distance : (d : FunDef) {l r x y to k size : ℕ} {a b c : Emitter} →
        IsNode s.program k (exprs.Difference l r) → DifferenceNode (frame_of s.program d) k l r →
        IsPointed s.program.types (type_at s.program l) size → ShowsPair s l x r y a b →
        Emits b c 2 (difference size to x y (length b.kinds.items)) → ShowsValue s k to a c
    value_distance d {l = l} {r = r} {size = size} n node e h f =
        value_binary s o t (λ u v. Binary n.node.pos (Apart size) u v) (kind.Cap false)
        (kind.Cap false) (kind.Int int.I64) (λ g u v m. (m.1, m.2))
        (λ g suits. node_tree s o t n ∙ ap (λ z. Binary n.node.pos (Apart z) (tree s l) (tree s r))
        (sym (pointed_is s.program t suits.types l node.pointed e))) node.is node.left node.right h
        f (λ g kinds f operands ints. rule.value_difference operands ints)

    pub sum_first : (d : FunDef) {k l r size by : ℕ} {minus : Bool} → IsNode s.program k (exprs.Plus l r minus) →
        SumNode (frame_of s.program d) k l r → IsScalar s.program l (kind.Cap false) →
        points (type_of (expression s.program l)) ≡ true → IsPointed s.program.types (type_at s.program l) size →
        by ≡ stride size minus → IsSum s k l r false by
    sum_first d {l = l} {r = r} {size = size} {minus = minus} n node left h e i =
        let index = (node.indexed h).1 in
        let bytes = sem.element_size s.program s.vars in
        let q = n.node.pos in
        record {
          pos = q;
          size = size;
          minus = minus;
          count = index.0;
          is = λ g suits. node_tree s o t n
              ∙ ap (λ z. if z then Binary q (Moved (bytes l) minus false (sem.kind_at s.program s.vars r)) (tree s l)
              (tree s r) else Binary q (Moved (bytes r) minus true (sem.kind_at s.program s.vars l)) (tree s l)
              (tree s r)) (point_of left ∙ h)
              ∙ ap (λ z. Binary q (Moved (bytes l) minus false z) (tree s l) (tree s r)) (kind_is s o t index.1)
              ∙ ap (λ z. Binary q (Moved z minus false (kind_of index.0)) (tree s l) (tree s r))
              (sym (pointed_is s.program t suits.types l (node.indexed h).0 e));
          stride = i;
          value = node.is;
          index = index.1;
        }

    pub sum_second : (d : FunDef) {k l r size by : ℕ} {minus : Bool} → IsNode s.program k (exprs.Plus l r minus) →
        SumNode (frame_of s.program d) k l r → points (type_of (expression s.program l)) ≡ false →
        IsPointed s.program.types (type_at s.program r) size → by ≡ stride size minus → IsSum s k l r true by
    sum_second d {l = l} {r = r} {size = size} {minus = minus} n node h e i =
        let index = (node.indexes h).1 in
        let bytes = sem.element_size s.program s.vars in
        let q = n.node.pos in
        record {
          pos = q;
          size = size;
          minus = minus;
          count = index.0;
          is = λ g suits. node_tree s o t n
              ∙ ap (λ z. if z then Binary q (Moved (bytes l) minus false (sem.kind_at s.program s.vars r)) (tree s l)
              (tree s r) else Binary q (Moved (bytes r) minus true (sem.kind_at s.program s.vars l)) (tree s l)
              (tree s r)) (point_of index.1 ∙ h)
              ∙ ap (λ z. Binary q (Moved (bytes r) minus true z) (tree s l) (tree s r)) (kind_is s o t index.1)
              ∙ ap (λ z. Binary q (Moved z minus true (kind_of index.0)) (tree s l) (tree s r))
              (sym (pointed_is s.program t suits.types r (node.indexes h).0 e));
          stride = i;
          value = node.is;
          index = index.1;
        }

    -- moved by an index
    pub value_moved : {l r x y to k by : ℕ} {j : TacKind} {a b c : Emitter} → IsSum s k l r false by →
        IsScalar s.program l (kind.Cap false) → j ≡ kind_in s.program r → ShowsPair s l x r y a b →
        Emits b c (moved_temps j by) (moved j by to x y (length b.kinds.items)) → ShowsValue s k to a c
    value_moved {l = l} {r = r} {x = x} {y = y} {to = to} {k = k} {by = by} {j = j} {b = b} {c = c} n left jk h f =
        let at = length b.kinds.items in
        let kept = subst (λ z. Emits b c (moved_temps z by) (moved z by to x y at)) (jk ∙ scalar_kind n.index) f in
        let done = subst (λ z. Emits b c (moved_temps n.count z) (moved n.count z to x y at)) n.stride kept in
        value_binary s o t (λ u v. Binary n.pos (Moved n.size n.minus false (kind_of n.count)) u v) (kind.Cap false)
        n.count (kind.Cap false) (λ g u v m. (m.1, m.2)) n.is n.value left n.index h done
        (λ g kinds f operands ints. rule.value_moved operands ints)

    pub value_moved_right : {l r x y to k by : ℕ} {j : TacKind} {a b c : Emitter} → IsSum s k l r true by →
        IsScalar s.program r (kind.Cap false) → j ≡ kind_in s.program l → ShowsPair s l x r y a b →
        Emits b c (moved_temps j by) (moved j by to y x (length b.kinds.items)) → ShowsValue s k to a c
    value_moved_right {l = l} {r = r} {x = x} {y = y} {to = to} {k = k} {by = by} {j = j} {b = b} {c = c} n right jk
        h f =
        let at = length b.kinds.items in
        let kept = subst (λ z. Emits b c (moved_temps z by) (moved z by to y x at)) (jk ∙ scalar_kind n.index) f in
        let done = subst (λ z. Emits b c (moved_temps n.count z) (moved n.count z to y x at)) n.stride kept in
        value_binary s o t (λ u v. Binary n.pos (Moved n.size n.minus true (kind_of n.count)) u v) n.count
        (kind.Cap false) (kind.Cap false) (λ g u v m. (m.1, m.2)) n.is n.value n.index right h done
        (λ g kinds f operands ints. rule.value_moved_right operands ints)

    -- moved by an index that is known
    pub value_displaced : {l r to k by v m : ℕ} {a c : Emitter} → IsSum s k l r false by →
        IsScalar s.program l (kind.Cap false) → IsIndex s r v → m ≡ by * v % 2 ^ 64 → ShowsMoved s l m to a c →
        ShowsValue s k to a c
    value_displaced {l = l} {r = r} {to = to} {k = k} {v = v} {a = a} {c = c} n left index e h =
        let b = h.middle in
        let x = h.base in
        let same : n.count ≡ kind.Int index.kind = same_scalar s o t n.index index.scalar in
        let done = subst (λ z. Emits b c 0 (one (instr.Offset to x (amount.Number z))))
        (e ∙ ap (λ z. z * v % 2 ^ 64) n.stride) h.moved in
        record {
          code = λ q. h.operand.code (instr.Offset to x (amount.Number (stride n.size n.minus * v % 2 ^ 64)) ∷ q);
          added = added_then h.operand.added done.added;
          keeps = keeps_then a.kinds.items b.kinds.items c.kinds.items h.operand.keeps done.keeps;
          is = λ g kinds suits keeps j own means.
              let is = n.is g suits
              ∙ ap (λ z. Binary n.pos (Moved n.size n.minus false (kind_of z)) (tree s l) (tree s r)) same in
              let parts : Unit {0} × Values g (tree s l) × Values g (tree s r) = subst (λ z. Values g z) is means in
              let operand = h.operand.is g kinds suits (keeps_then b.kinds.items c.kinds.items kinds done.keeps keeps)
              (kind.Cap false) left parts.1 in
              value_as s o t g kinds (same_scalar s o t n.value own) is (mark_same done)
              (rule.value_displaced index.is operand);
        }

    pub value_displaced_right : {l r to k by v m : ℕ} {a c : Emitter} → IsSum s k l r true by →
        IsScalar s.program r (kind.Cap false) → IsIndex s l v → m ≡ by * v % 2 ^ 64 → ShowsMoved s r m to a c →
        ShowsValue s k to a c
    value_displaced_right {l = l} {r = r} {to = to} {k = k} {v = v} {a = a} {c = c} n right index e h =
        let b = h.middle in
        let x = h.base in
        let same : n.count ≡ kind.Int index.kind = same_scalar s o t n.index index.scalar in
        let done = subst (λ z. Emits b c 0 (one (instr.Offset to x (amount.Number z))))
        (e ∙ ap (λ z. z * v % 2 ^ 64) n.stride) h.moved in
        record {
          code = λ q. h.operand.code (instr.Offset to x (amount.Number (stride n.size n.minus * v % 2 ^ 64)) ∷ q);
          added = added_then h.operand.added done.added;
          keeps = keeps_then a.kinds.items b.kinds.items c.kinds.items h.operand.keeps done.keeps;
          is = λ g kinds suits keeps j own means.
              let is = n.is g suits
              ∙ ap (λ z. Binary n.pos (Moved n.size n.minus true (kind_of z)) (tree s l) (tree s r)) same in
              let parts : Unit {0} × Values g (tree s l) × Values g (tree s r) = subst (λ z. Values g z) is means in
              let operand = h.operand.is g kinds suits (keeps_then b.kinds.items c.kinds.items kinds done.keeps keeps)
              (kind.Cap false) right parts.2 in
              value_as s o t g kinds (same_scalar s o t n.value own) is (mark_same done)
              (rule.value_displaced_right index.is operand);
        }
