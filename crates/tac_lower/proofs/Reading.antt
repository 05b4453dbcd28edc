-- Code is shown to be that of a reading, and of an operation on one value.
use Rattle.std.proofs.Common.{◌≡◌, ℕ, ◌∷◌, length, Some, refl, sym, ap, ◌∙◌, subst}
use Rattle.std.specs.Prelude.{slice_get, if◌then◌else◌}
use Rattle.ck_base.specs.declared.positions.Pos.{Pos}
use Rattle.c_tree.specs.Layout.{bare}
use Rattle.c_tree.specs.Views.{IsOrdered}
use Rattle.c_tree.specs.declared.typed.ExprKind.TheVariants as exprs
use Rattle.c_tree.specs.declared.typed.FunDef.{FunDef}
use Rattle.c_tree.specs.declared.typed.UnaryOp.{UnaryOp}
use Rattle.c_tree.specs.declared.typed.UnaryOp.TheVariants as unary
use Rattle.cheri_c_sem.specs.Expressions.{sign_of}
use Rattle.cheri_c_sem.specs.Kinds.{Kind}
use Rattle.cheri_c_sem.specs.Order.{Ordered}
use Rattle.cheri_c_sem.specs.Tree.{Ex, Sign, Positive, Negative, Complement, Unary, Not, Load, Aggregate}
use Rattle.cheri_c_sem.specs.Types as sem_types
use Rattle.tac_ir.specs.Effects.{kind_of}
use Rattle.tac_ir.specs.declared.code.TacInstr.TheVariants as instr
use Rattle.tac_ir.specs.declared.code.TacKind.{TacKind}
use Rattle.tac_emit.specs.declared.emitter.Emitter.{Emitter}
use Rattle.tac_lower.specs.declared.writes.Written.TheVariants as write
use Rattle.lower_runs.specs.Operating.{negated, signed, signed_temps, transfer}
use Rattle.lower_runs.specs.Expressions.{value_sign, value_opposite, value_variable, value_load}
use Rattle.lower_runs.specs.Trees.{Places, Values}
use Rattle.tac_lower.specs.Nodes.{IsScalar, kind_in, or_int, SameNode, NotNode, VarNode}
use Rattle.tac_lower.specs.Scenes.{frame_of}
use Rattle.tac_emit.specs.Adding.{Emits, one}
use Rattle.tac_lower.specs.Trees.{Setting, tree, IsNode, IsVariable, Signs, pos_in}
use Rattle.tac_lower.specs.Trees.{Located}
use Rattle.tac_lower.specs.Trees.{ShowsOperand, ShowsOperandIn, ShowsValue, ShowsPointer}
use Rattle.tac_lower.proofs.Deriving.{node_tree, same_scalar, type_kind, kind_is, value_as, mark_more, mark_same}
use Rattle.tac_lower.proofs.Deriving.{cover_none}
use Rattle.tac_emit.proofs.Emitting.{added_then}
use Rattle.tac_lower.proofs.Keeping.{scalar_kind}
use Rattle.tac_lower.proofs.Standing.{kept_node, named, no_record}
use Rattle.tac_emit.proofs.Wells.{keeps_then}

signs_as : (op : UnaryOp) (sign : Sign) (q : Pos) (k : Kind) (e : Ex) → Signs op sign →
    sign_of q k e op ≡ Unary q sign k e
signs_as unary.Plus Positive q k e h = refl
signs_as unary.Minus Negative q k e h = refl
signs_as unary.Complement Complement q k e h = refl
signs_as op sign q k e h = absurd h

module _ (s : Setting) (o : Ordered s.program) (t : IsOrdered s.program) where
  pub value_signed : (d : FunDef) (op : UnaryOp) (sign : Sign) {l x to k : ℕ} {j : TacKind} {a b c : Emitter} →
      Signs op sign → IsNode s.program k (exprs.Unary op l) → SameNode (frame_of s.program d) k l →
      j ≡ kind_in s.program l → ShowsOperandIn s l to x a b →
      Emits b c (signed_temps sign j) (signed sign j to x (length b.kinds.items)) → ShowsValue s k to a c
  value_signed d op sign {l = l} {x = x} {to = to} {k = k} {j = j} {a = a} {b = b} {c = c} signs n node
      jk h f = record {
        code = λ v. h.code (signed sign j to x (length b.kinds.items) v);
        added = added_then h.added f.added;
        keeps = keeps_then a.kinds.items b.kinds.items c.kinds.items h.keeps f.keeps;
        is = λ g kinds suits keeps z own means.
            let scalar : IsScalar s.program l z = record { is = node.same ∙ own.is } in
            let same : j ≡ z = jk ∙ scalar_kind scalar in
            let at : IsScalar s.program l j = record { is = scalar.is ∙ ap Some (sym same) } in
            let q = n.node.pos in
            let is : tree s k ≡ Unary q sign (kind_of j) (tree s l) = node_tree s o t n
            ∙ signs_as op sign q _ (tree s l) signs
            ∙ ap (λ v. Unary q sign v (tree s l)) (kind_is s o t at) in
            let value : Values g (tree s l) = subst (λ e. Values g e) is means in
            let operand = h.is g kinds suits (keeps_then b.kinds.items c.kinds.items kinds f.keeps keeps) j at value in
            value_as s o t g kinds same is (mark_more f) (value_sign operand (f.ints kinds keeps));
      }

  pub value_not : (d : FunDef) {l x to k : ℕ} {j : TacKind} {a b c : Emitter} →
      IsNode s.program k (exprs.Unary unary.LogicalNot l) → NotNode (frame_of s.program d) k l →
      j ≡ kind_in s.program l → ShowsOperand s write.Nothing l x a b →
      Emits b c 1 (negated j to x (length b.kinds.items)) → ShowsValue s k to a c
  value_not d {l = l} {x = x} {to = to} {k = k} {j = j} {a = a} {b = b} {c = c} n node jk h f =
      let done = subst (λ v. Emits b c 1 (negated v to x (length b.kinds.items))) (jk ∙ scalar_kind node.value) f in
      let q = n.node.pos in
      let is : tree s k ≡ Not q (kind_of node.kind) (tree s l) =
      node_tree s o t n ∙ ap (λ v. Not q v (tree s l)) (kind_is s o t node.value) in
      record {
        code = λ v. h.code (negated node.kind to x (length b.kinds.items) v);
        added = added_then h.added done.added;
        keeps = keeps_then a.kinds.items b.kinds.items c.kinds.items h.keeps done.keeps;
        is = λ g kinds suits keeps z own means.
            let value : Values g (tree s l) = subst (λ e. Values g e) is means in
            let kept = keeps_then b.kinds.items c.kinds.items kinds done.keeps keeps in
            let operand = h.is g kinds suits kept _ node.kind (cover_none write.Nothing) node.value value in
            value_as s o t g kinds (same_scalar s o t node.is own) is (mark_more done) (value_opposite operand);
      }

  pub load_tree : {k a : ℕ} {j : TacKind} (n : IsNode s.program k (exprs.Load a)) → IsScalar s.program k j →
      tree s k ≡ Load (kind_of j) (tree s a)
  load_tree {a = a} {j = j} n own =
      let c = bare s.program.types n.node.of in
      node_tree s o t n
      ∙ ap (λ z. if z then Aggregate (tree s a) else Load (sem_types.kind_of c) (tree s a))
      (no_record c j (kept_node s o t n.node n.there own))
      ∙ ap (λ z. Load z (tree s a)) (type_kind c j (kept_node s o t n.node n.there own))

  pub value_read : (d : FunDef) {k a v to : ℕ} {b c : Emitter} → d.vars ≡ s.vars → IsNode s.program k (exprs.Load a) →
      SameNode (frame_of s.program d) k a
      → ((x : ℕ) → IsNode s.program a (exprs.Var x) → VarNode (frame_of s.program d) a x) →
      IsVariable s.program s.homes a v → Emits b c 0 (transfer to v) → ShowsValue s k to b c
  value_read d {k = k} {a = a} {v = v} {to = to} {b = b} {c = c} vars n same typed found f = record {
    code = transfer to v;
    added = f.added;
    keeps = f.keeps;
    is = λ g kinds suits keeps i own means.
        let x = found.number in
        let stand = suits.value x v found.kind found.home in
        let var = typed x found.names in
        let kept : found.kind ≡ i = sym (stand.2 var.var (ap (λ z. slice_get z x) (sym vars) ∙ var.there))
        ∙ ap or_int (sym var.kept ∙ same.same ∙ own.is) in
        let is = load_tree n own ∙ ap (λ z. Load (kind_of i) z) (named s o t found.names stand.0) in
        let home = subst (λ z. g.home x ≡ Some (record { temp = v; kind = z })) kept stand.1 in
        value_as s o t g kinds refl is (mark_same f) (value_variable {q = found.names.node.pos} home);
  }

  pub value_loaded : (d : FunDef) {k l x to : ℕ} {j : TacKind} {q : Pos} {a b c : Emitter} →
      IsNode s.program k (exprs.Load l) → SameNode (frame_of s.program d) k l → j ≡ kind_in s.program k →
      q ≡ pos_in s.program l → Located s l → ShowsPointer s write.Nothing l x a b →
      Emits b c 0 (one (instr.Load to x j q)) →
      ShowsValue s k to a c
  value_loaded d {k = k} {l = l} {x = x} {to = to} {j = j} {q = q} {a = a} {b = b} {c = c} n node jk at located h f =
      record {
        code = λ v. h.code (instr.Load to x j q ∷ v);
        added = added_then h.added f.added;
        keeps = keeps_then a.kinds.items b.kinds.items c.kinds.items h.keeps f.keeps;
        is = λ g kinds suits keeps z own means.
            let same : j ≡ z = jk ∙ scalar_kind own in
            let scalar : IsScalar s.program k j = record { is = own.is ∙ ap Some (sym same) } in
            let is : tree s k ≡ Load (kind_of j) (tree s l) = load_tree n scalar in
            let place : Places g (tree s l) = subst (λ e. Values g e) is means in
            let kept = keeps_then b.kinds.items c.kinds.items kinds f.keeps keeps in
            let pointer = h.is g kinds suits kept _ (cover_none write.Nothing) located place in
            let stands = suits.placed k l (record {
              of = exprs.Load l;
              names = n;
              place = refl;
              kind = z;
              is = record { is = node.same ∙ own.is };
            }) ∙ ap Some (sym at) in
            value_as s o t g kinds same is (mark_same f) (value_load stands pointer);
      }
