-- Code is shown to be that of conditions, which jump where a value is true or where it is false.
use Rattle.std.proofs.Common.{◌≡◌, ℕ, ◌+◌, Bool, true, false, List, ◌∷◌, ◌++◌, Some, None, refl, sym}
use Rattle.std.proofs.Common.{ap, ◌∙◌, subst, not}
use Rattle.std.specs.Prelude.{slice_get, ◌==◌}
use Rattle.std.proofs.Math.Bool.{beq}
use Rattle.c_tree.specs.Views.{IsOrdered}
use Rattle.c_tree.specs.declared.typed.ExprKind.TheVariants as exprs
use Rattle.c_tree.specs.declared.typed.UnaryOp.TheVariants as unary
use Rattle.cheri_c_sem.specs.Expressions as sem
use Rattle.cheri_c_sem.specs.Order.{Ordered}
use Rattle.cheri_c_sem.specs.Tree.{Ex, And, Or, Not}
use Rattle.tac_ir.specs.Effects.{kind_of}
use Rattle.tac_ir.specs.WellFormed.{constant_fits}
use Rattle.tac_ir.specs.declared.code.TacInstr.TheVariants as instr
use Rattle.tac_ir.specs.declared.code.TacKind.{TacKind}
use Rattle.tac_ir.specs.declared.code.TacKind.TheVariants as kind
use Rattle.tac_emit.specs.declared.emitter.Emitter.{Emitter}
use Rattle.tac_lower.specs.declared.writes.Written.TheVariants as write
use Rattle.lower_runs.specs.States.{Scene}
use Rattle.lower_runs.specs.Operating.{Code}
use Rattle.lower_runs.specs.Expressions as relation
use Rattle.lower_runs.specs.Expressions.{Mark, int_kind, labelled, guarded_code, jump_if, IsCondition}
use Rattle.lower_runs.specs.Expressions.{is_junction, value_truth as value_truth_rule}
use Rattle.lower_runs.specs.Expressions.{condition_number, condition_null}
use Rattle.lower_runs.specs.Expressions.{condition_opposite as condition_opposite_rule}
use Rattle.lower_runs.specs.Expressions.{condition_both, condition_either, condition_both_around}
use Rattle.lower_runs.specs.Expressions.{condition_either_around, condition_branch as condition_branch_rule}
use Rattle.lower_runs.specs.Trees.{Values}
use Rattle.tac_emit.specs.Emitted.{Keeps, HasKind, Labelled, Forked}
use Rattle.tac_lower.specs.Nodes.{IsScalar, kind_in}
use Rattle.tac_emit.specs.Adding.{mark, Added, Emits, one}
use Rattle.tac_lower.specs.Trees.{Setting, tree, signatures, IsNode, HasScalar, joined}
use Rattle.tac_lower.specs.Trees.{ShowsCondition, ShowsOperand, ShowsValue}
use Rattle.tac_lower.proofs.Deriving.{node_tree, kind_is, node_kind, same_scalar, kept_by_fit, cover_none, value_as}
use Rattle.tac_lower.proofs.Deriving.{mark_same, forked_mark, forked_next}
use Rattle.tac_emit.proofs.Emitting.{added_then, kind_in_end}
use Rattle.tac_lower.proofs.Junctions.{labelled_mark}
use Rattle.tac_lower.proofs.Keeping.{scalar_kind}
use Rattle.tac_lower.proofs.Typings.{none_kept}
use Rattle.tac_emit.proofs.Wells.{keeps_then}

-- a truth that is not another is its opposite
pub opposite_of : (b when : Bool) → beq b when ≡ false → b ≡ not when
opposite_of true false h = refl
opposite_of false true h = refl
opposite_of true true h = absurd cc
opposite_of false false h = absurd cc

module _ (s : Setting) (o : Ordered s.program) (t : IsOrdered s.program) where
  -- of a kind, a tree and a mark that are equal
  condition_as : (g : Scene) (kinds : List TacKind) {i j : TacKind} {e f : Ex} {when : Bool} {label : ℕ} {l m n : Mark}
      {c : Code} → i ≡ j → f ≡ e → n ≡ m →
      IsCondition s.program (signatures s.program) kinds g i e when label l m c →
      IsCondition s.program (signatures s.program) kinds g j f when label l n c
  condition_as g kinds {j = j} {e = e} {f = f} {when = when} {label = label} {l = l} {m = m} {c = c} k is q h =
      let p = s.program in
      let kept = subst (λ z. IsCondition p (signatures p) kinds g z e when label l m c) k h in
      let there = subst (λ z. IsCondition p (signatures p) kinds g j z when label l m c) (sym is) kept in
      subst (λ z. IsCondition p (signatures p) kinds g j f when label l z c) (sym q) there

  -- ---- a value

  pub condition_branch : {k u : ℕ} {when : Bool} {label : ℕ} {a b c : Emitter} → HasKind b u (kind_in s.program k) →
      ShowsOperand s write.Nothing k u a b → Emits b c 0 (one (instr.Branch u when label)) →
      ShowsCondition s k when label a c
  condition_branch {k = k} {u = u} {when = when} {label = label} {a = a} {b = b} {c = c} has h f = record {
    code = λ r. h.code (instr.Branch u when label ∷ r);
    added = added_then h.added f.added;
    keeps = keeps_then a.kinds.items b.kinds.items c.kinds.items h.keeps f.keeps;
    is = λ g kinds suits keeps j own means.
        let kept = keeps_then b.kinds.items c.kinds.items kinds f.keeps keeps in
        let operand = h.is g kinds suits kept _ j (cover_none write.Nothing) own means in
        let at = kind_in_end b u (kind_in s.program k) has kinds kept ∙ ap kind_of (scalar_kind own) in
        condition_as g kinds refl refl (mark_same f) (condition_branch_rule operand at);
  }

  constant_by : (g : Scene) (kinds : List TacKind) (when : Bool) (label v : ℕ) (m : Mark) (j : TacKind) →
      constant_fits j v ≡ true →
      IsCondition s.program (signatures s.program) kinds g j (sem.constant v (kind_of j)) when label m m
      (jump_if (relation.same when (not (v == 0))) label)
  constant_by g kinds when label v m (kind.Int i) fits = condition_number (kept_by_fit i v fits)
  constant_by g kinds when label v m (kind.Cap z) fits = condition_null

  pub condition_constant : {k v : ℕ} {j : TacKind} {when : Bool} {label : ℕ} {a b : Emitter} →
      IsNode s.program k (exprs.Constant v) → IsScalar s.program k j → constant_fits j v ≡ true →
      Emits a b 0 (jump_if (relation.same when (not (v == 0))) label) → ShowsCondition s k when label a b
  condition_constant {k = k} {v = v} {j = j} {when = when} {label = label} {a = a} {b = b} n scalar fits f = record {
    code = jump_if (relation.same when (not (v == 0))) label;
    added = f.added;
    keeps = f.keeps;
    is = λ g kinds suits keeps z own means.
        let is = node_tree s o t n
        ∙ ap (sem.constant v) (node_kind s.program t k n.node j n.there scalar) in
        condition_as g kinds (same_scalar s o t scalar own) is (mark_same f)
        (constant_by g kinds when label v (mark a) j fits);
  }

  -- a number without a node is no scalar
  pub condition_no_node : {k : ℕ} {when : Bool} {label : ℕ} {a b : Emitter} {n : ℕ} {c : Code} →
      slice_get s.program.exprs k ≡ None → Emits a b n c → ShowsCondition s k when label a b
  condition_no_node {k = k} {c = c} h f = record {
    code = c;
    added = f.added;
    keeps = f.keeps;
    is = λ g kinds suits keeps z scalar means.
        absurd (let e : None ≡ Some z = sym (none_kept s.program t k h) ∙ scalar.is in cc);
  }

  pub condition_opposite : {k x : ℕ} {when : Bool} {label : ℕ} {a b : Emitter} → IsScalar s.program k int_kind →
      HasScalar s.program x → IsNode s.program k (exprs.Unary unary.LogicalNot x) →
      ShowsCondition s x (not when) label a b → ShowsCondition s k when label a b
  condition_opposite {k = k} {x = x} {when = when} {label = label} {a = a} {b = b} scalar value n h = record {
    code = h.code;
    added = h.added;
    keeps = h.keeps;
    is = λ g kinds suits keeps z own means.
        let q = n.node.pos in
        let is = node_tree s o t n ∙ ap (λ v. Not q v (tree s x)) (kind_is s o t value.is) in
        let inner = subst (λ e. Values g e) is means in
        condition_as g kinds (same_scalar s o t scalar own) is refl
        (condition_opposite_rule (h.is g kinds suits keeps value.kind value.is inner));
  }

  -- ---- `&&` and `||`

  module _ (x y k : ℕ) (left : HasScalar s.program x) (right : HasScalar s.program y) where
    both_tree : (n : IsNode s.program k (exprs.And x y)) →
        tree s k ≡ And n.node.pos (kind_of left.kind) (kind_of right.kind) (tree s x) (tree s y)
    both_tree n = node_tree s o t n
        ∙ ap (λ v. And n.node.pos v (sem.kind_at s.program s.vars y) (tree s x) (tree s y)) (kind_is s o t left.is)
        ∙ ap (λ v. And n.node.pos (kind_of left.kind) v (tree s x) (tree s y)) (kind_is s o t right.is)

    either_tree : (n : IsNode s.program k (exprs.Or x y)) →
        tree s k ≡ Or n.node.pos (kind_of left.kind) (kind_of right.kind) (tree s x) (tree s y)
    either_tree n = node_tree s o t n
        ∙ ap (λ v. Or n.node.pos v (sem.kind_at s.program s.vars y) (tree s x) (tree s y)) (kind_is s o t left.is)
        ∙ ap (λ v. Or n.node.pos (kind_of left.kind) v (tree s x) (tree s y)) (kind_is s o t right.is)

    pub operands_of : (both : Bool) → IsNode s.program k (joined both x y) → (g : Scene) → Values g (tree s k) →
        Values g (tree s x) × Values g (tree s y)
    operands_of true n g v = subst (λ e. Values g e) (both_tree n) v
    operands_of false n g v = subst (λ e. Values g e) (either_tree n) v

    pub is_joined : (both : Bool) → IsNode s.program k (joined both x y) → is_junction (tree s k) ≡ true
    is_joined true n = ap is_junction (both_tree n)
    is_joined false n = ap is_junction (either_tree n)

    module _ (g : Scene) (kinds : List TacKind) {l m n : Mark} {c d : Code} {label : ℕ} where
      through : (when : Bool) → IsNode s.program k (joined (not when) x y) →
          IsCondition s.program (signatures s.program) kinds g left.kind (tree s x) when label l m c →
          IsCondition s.program (signatures s.program) kinds g right.kind (tree s y) when label m n d →
          IsCondition s.program (signatures s.program) kinds g int_kind (tree s k) when label l n (λ r. c (d r))
      through false is f h = condition_as g kinds refl (both_tree is) refl (condition_both f h)
      through true is f h = condition_as g kinds refl (either_tree is) refl (condition_either f h)

      around : (when : Bool) → IsNode s.program k (joined when x y) →
          IsCondition s.program (signatures s.program) kinds g left.kind (tree s x) (not when) l.labels (labelled 1 l) m
          c → IsCondition s.program (signatures s.program) kinds g right.kind (tree s y) when label m n d →
          IsCondition s.program (signatures s.program) kinds g int_kind (tree s k) when label l n
          (guarded_code l.labels c d)
      around true is f h = condition_as g kinds refl (both_tree is) refl (condition_both_around f h)
      around false is f h = condition_as g kinds refl (either_tree is) refl (condition_either_around f h)

    pub condition_through : (when : Bool) {label : ℕ} {a b c : Emitter} → IsScalar s.program k int_kind →
        IsNode s.program k (joined (not when) x y) → ShowsCondition s x when label a b →
        ShowsCondition s y when label b c → ShowsCondition s k when label a c
    condition_through when {label = label} {a = a} {b = b} {c = c} scalar n f h = record {
      code = λ r. f.code (h.code r);
      added = added_then f.added h.added;
      keeps = keeps_then a.kinds.items b.kinds.items c.kinds.items f.keeps h.keeps;
      is = λ g kinds suits keeps z own means.
          let parts = operands_of (not when) n g means in
          let kept = keeps_then b.kinds.items c.kinds.items kinds h.keeps keeps in
          condition_as g kinds (same_scalar s o t scalar own) refl refl
          (through g kinds when n (f.is g kinds suits kept left.kind left.is parts.0)
          (h.is g kinds suits keeps right.kind right.is parts.1));
    }

    pub condition_around : (when : Bool) {l label : ℕ} {a b c e f : Emitter} → IsScalar s.program k int_kind →
        IsNode s.program k (joined when x y) → Labelled a b l → ShowsCondition s x (not when) l b c →
        ShowsCondition s y when label c e → Emits e f 0 (one (instr.Label l)) → ShowsCondition s k when label a f
    condition_around when {l = l} {label = label} {a = a} {b = b} {c = c} {e = e} {f = f} scalar n made first second
        stand =
        let start : Added a b (λ r. r) = record { is = λ r. ap (λ z. z ++ r) made.code } in
        let code : ℕ → Code = λ v r. first.code (second.code (instr.Label v ∷ r)) in
        let added : Added a f (code l) =
        added_then start (added_then first.added (added_then second.added stand.added)) in
        record {
          code = code a.labels;
          added = subst (λ v. Added a f (code v)) made.label added;
          keeps = subst (λ z. Keeps z f.kinds.items) made.kinds
              (keeps_then b.kinds.items c.kinds.items f.kinds.items first.keeps
              (keeps_then c.kinds.items e.kinds.items f.kinds.items second.keeps stand.keeps));
          is = λ g kinds suits keeps z own means.
              let p = s.program in
              let parts = operands_of when n g means in
              let in_e = keeps_then e.kinds.items f.kinds.items kinds stand.keeps keeps in
              let in_c = keeps_then c.kinds.items e.kinds.items kinds second.keeps in_e in
              let jumps = first.is g kinds suits in_c left.kind left.is parts.0 in
              let at = subst (λ z. IsCondition p (signatures p) kinds g left.kind (tree s x) (not when) z (mark b)
              (mark c) first.code) made.label jumps in
              let from = subst (λ z. IsCondition p (signatures p) kinds g left.kind (tree s x) (not when) a.labels z
              (mark c) first.code) (labelled_mark s o t made) at in
              condition_as g kinds (same_scalar s o t scalar own) refl (mark_same stand)
              (around g kinds {l = mark a} when n from (second.is g kinds suits in_e right.kind right.is parts.1));
        }

    -- ---- the truth as a value

    pub value_truth : (both : Bool) {to l m : ℕ} {a b c e f h i : Emitter} → IsScalar s.program k int_kind →
        IsNode s.program k (joined both x y) → Forked a b l m → ShowsCondition s k false l b c →
        Emits c e 0 (one (instr.Const to int_kind 1)) → Emits e f 0 (λ r. instr.Jump m ∷ instr.Label l ∷ r) →
        Emits f h 0 (one (instr.Const to int_kind 0)) → Emits h i 0 (one (instr.Label m)) → ShowsValue s k to a i
    value_truth both {to = to} {l = l} {m = m} {a = a} {b = b} {c = c} {e = e} {f = f} {h = h} {i = i} scalar n fork
        test one_way turn other join =
        let forked : Added a b (λ r. r) =
        record { is = λ r. ap (λ z. z ++ r) (fork.second.code ∙ fork.first.code) } in
        let code : (v w : ℕ) → Code = λ v w r. test.code (instr.Const to int_kind 1 ∷ instr.Jump w ∷ instr.Label v
        ∷ instr.Const to int_kind 0 ∷ instr.Label w ∷ r) in
        let added : Added a i (code l m) =
        added_then forked (added_then test.added (added_then one_way.added (added_then turn.added
        (added_then other.added join.added)))) in
        let there : Added a i (code a.labels m) = subst (λ v. Added a i (code v m)) fork.first.label added in
        let behind = keeps_then c.kinds.items e.kinds.items i.kinds.items one_way.keeps
        (keeps_then e.kinds.items f.kinds.items i.kinds.items turn.keeps
        (keeps_then f.kinds.items h.kinds.items i.kinds.items other.keeps join.keeps)) in
        record {
          code = code a.labels (a.labels + 1);
          added = subst (λ w. Added a i (code a.labels w)) (forked_next fork) there;
          keeps = subst (λ z. Keeps z i.kinds.items) (fork.second.kinds ∙ fork.first.kinds)
              (keeps_then b.kinds.items c.kinds.items i.kinds.items test.keeps behind);
          is = λ g kinds suits keeps z own means.
              let p = s.program in
              let in_c = keeps_then c.kinds.items i.kinds.items kinds behind keeps in
              let tested = test.is g kinds suits in_c int_kind scalar means in
              let at = subst (λ z. IsCondition p (signatures p) kinds g int_kind (tree s k) false z (mark b) (mark c)
              test.code) fork.first.label tested in
              let from = subst (λ z. IsCondition p (signatures p) kinds g int_kind (tree s k) false a.labels z
              (mark c) test.code) (forked_mark fork) at in
              value_as s o t g kinds (same_scalar s o t scalar own) refl
              (mark_same join ∙ mark_same other ∙ mark_same turn ∙ mark_same one_way)
              (value_truth_rule {m = mark a} (is_joined both n) from);
        }
