-- Code is shown to be that of expressions, way by way.
use Rattle.std.proofs.Common.{◌≡◌, ℕ, ◌+◌, Bool, true, false, List, [], ◌∷◌, ◌++◌, length, Option, Some, None, refl}
use Rattle.std.proofs.Common.{sym}
use Rattle.std.proofs.Common.{ap, ◌∙◌, subst, arith}
use Rattle.std.specs.Prelude.{slice_get, ◌<◌, ◌^◌, ◌⊎◌, if◌then◌else◌}
use Rattle.ck_base.specs.declared.positions.Pos.{Pos}
use Rattle.std.proofs.lemmas.Bool.Decides.{nat_tests}
use Rattle.ck_int.specs.Kinds.{IsKept}
use Rattle.ck_int.specs.declared.kinds.IntKind.{IntKind}
use Rattle.ck_int.specs.declared.kinds.CmpOp.{CmpOp}
use Rattle.ck_int.specs.declared.kinds.IntOp.{IntOp}
use Rattle.c_tree.specs.Layout.{bare}
use Rattle.c_tree.specs.Views.{IsOrdered}
use Rattle.c_tree.specs.declared.typed.CType.{CType}
use Rattle.c_tree.specs.declared.typed.CType.TheVariants as types
use Rattle.c_tree.specs.declared.typed.Expr.{Expr}
use Rattle.c_tree.specs.declared.typed.ExprKind.{ExprKind}
use Rattle.c_tree.specs.declared.typed.ExprKind.TheVariants as exprs
use Rattle.c_tree.specs.declared.typed.FunDef.{FunDef}
use Rattle.c_tree.specs.declared.typed.Typed.{Typed}
use Rattle.cheri_c_sem.specs.Expressions.{kind_tree}
use Rattle.cheri_c_sem.specs.Expressions as sem
use Rattle.cheri_c_sem.specs.Kinds.{Kind, Plain, Capability, int_kind}
use Rattle.cheri_c_sem.specs.Order.{Ordered}
use Rattle.cheri_c_sem.specs.Tree.{Ex, Nil, Cons, Binary, Comma, Compare, Conditional, Whole, Derived}
use Rattle.cheri_c_sem.specs.Types as sem_types
use Rattle.cheri_c_sem.specs.Types.{is_shift}
use Rattle.cheri_c_sem.proofs.Gathered.{trees_of_operands_law}
use Rattle.tac_ir.specs.Effects.{kind_of}
use Rattle.tac_ir.specs.WellFormed.{constant_fits}
use Rattle.tac_ir.specs.declared.code.TacInstr.TheVariants as instr
use Rattle.tac_ir.specs.declared.code.TacKind.{TacKind}
use Rattle.tac_ir.specs.declared.code.TacKind.TheVariants as kind
use Rattle.tac_emit.specs.declared.emitter.Emitter.{Emitter}
use Rattle.tac_lower.specs.declared.writes.Written.{Written}
use Rattle.tac_lower.specs.declared.writes.Written.TheVariants as write
use Rattle.lower_runs.specs.States.{Scene}
use Rattle.lower_runs.specs.Operating.{Code, AreInts, whole, right_temps, derived, address_temps}
use Rattle.lower_runs.specs.Expressions.{Mark, more, spares, IsRight, IsOperand, IsPair}
use Rattle.lower_runs.specs.Expressions.{IsValue, operand_in_place, operand_fresh, given_in_place, given_there, pair}
use Rattle.lower_runs.specs.Expressions.{value_number, value_null, value_whole, value_derived, value_compare}
use Rattle.lower_runs.specs.Expressions.{value_comma as value_comma_rule}
use Rattle.lower_runs.specs.Expressions.{IsCondition, labelled, value_choice as value_choice_rule}
use Rattle.lower_runs.specs.Trees.{DerivesByKind, Places, Values}
use Rattle.tac_emit.specs.Emitted.{Keeps, Forked}
use Rattle.tac_lower.specs.Operands.{RightFits}
use Rattle.tac_lower.specs.Nodes.{IsScalar, kind_in, IntNode, CapabilityNode, CommaNode, CompareNode}
use Rattle.tac_lower.specs.Nodes.{ConditionalNode}
use Rattle.tac_lower.specs.Scenes.{frame_of}
use Rattle.tac_emit.specs.Adding.{mark, Added, Emits, none, one}
use Rattle.tac_lower.specs.Tables.{kept_by}
use Rattle.tac_lower.specs.Trees.{Setting, tree, Suits, Covers, CoversAll, written_in, signatures}
use Rattle.tac_lower.specs.Trees.{IsNode}
use Rattle.tac_lower.specs.Trees.{ShowsInPlace, ShowsOperand, ShowsOperandIn, ShowsPair, ShowsValue, ShowsEffect}
use Rattle.tac_lower.specs.Trees.{ShowsCondition}
use Rattle.tac_emit.proofs.Emitting.{added_then}
use Rattle.tac_lower.proofs.Typings.{facts_kept, none_kept}
use Rattle.tac_lower.proofs.Keeping.{scalar_kind}
use Rattle.tac_emit.proofs.Wells.{keeps_same, keeps_then, and_true}

-- ---- marks

pub mark_more : {a b : Emitter} {n : ℕ} {c : Code} → Emits a b n c → mark b ≡ more n (mark a)
mark_more {a = a} {b = b} e = λ i. record { temps = e.temps i; labels = e.labels i }

pub mark_same : {a b : Emitter} {c : Code} → Emits a b 0 c → mark b ≡ mark a
mark_same {a = a} {b = b} e = let t : length b.kinds.items ≡ length a.kinds.items = omega (arith, e.temps) in
    λ i. record { temps = t i; labels = e.labels i }

-- two labels are made
pub forked_mark : {a b : Emitter} {l m : ℕ} → Forked a b l m → mark b ≡ labelled 2 (mark a)
forked_mark {a = a} {b = b} h =
    let t : length b.kinds.items ≡ length a.kinds.items = ap length (h.second.kinds ∙ h.first.kinds) in
    let l : b.labels ≡ a.labels + 2 = omega (arith, h.first.labels, h.second.labels) in
    λ i. record { temps = t i; labels = l i }

pub forked_next : {a b : Emitter} {l m : ℕ} → Forked a b l m → m ≡ a.labels + 1
forked_next h = h.second.label ∙ h.first.labels

-- ---- kinds

pub type_kind : (c : Option CType) (j : TacKind) → kept_by c ≡ Some j → sem_types.kind_of c ≡ kind_of j
type_kind (Some (types.Int k n)) j h = let e : kind.Int k ≡ j = cc in ap kind_of e
type_kind (Some (types.Cap s)) j h = let e : kind.Cap s ≡ j = cc in ap kind_of e
type_kind (Some (types.Pointer t)) j h = let e : kind.Cap false ≡ j = cc in ap kind_of e
type_kind None j h = absurd cc
type_kind (Some c) j h = absurd cc

-- the kind of a node's values, as the trees have it
module _ (p : Typed) (o : IsOrdered p) where
  pub node_kind : (k : ℕ) (e : Expr) (j : TacKind) → slice_get p.exprs k ≡ Some e → IsScalar p k j →
      sem_types.kind_of (bare p.types e.of) ≡ kind_of j
  node_kind k e j h s = type_kind (bare p.types e.of) j (facts_kept p o k e (kept_by (bare p.types e.of)) h refl ∙ s.is)

pub kept_by_fit : (i : IntKind) (n : ℕ) → constant_fits (kind.Int i) n ≡ true → IsKept i n
kept_by_fit i n h = record { kept = grind (arith, nat_tests) }

-- ---- operands

-- what is evaluated later is one expression, or nothing
pub cover_one : {w : Written} {e : Ex} → Covers w e → CoversAll w (Cons e Nil)
cover_one {e = e} h = record { spared = λ x i. and_true (spares x e) true (h.spared x i) refl }

pub cover_none : (w : Written) → CoversAll w Nil
cover_none w = record { spared = λ x i. refl }

pub right_is : (shift : Bool) (i : IntKind) (k : TacKind) → RightFits shift i k → IsRight shift (kind.Int i) k
right_is true i k h = tt
right_is false i k h = h

module _ (s : Setting) where
  pub operand_held : {later : Written} {k t : ℕ} (a : Emitter) → ShowsInPlace s later k t → ShowsOperand s later k t a a
  operand_held a h = record {
    code = none;
    added = record { is = λ rest. refl };
    keeps = keeps_same a.kinds.items a.kinds.items refl;
    is = λ g kinds suits keeps es j covers scalar means.
        operand_in_place (h.is g es j suits covers scalar means);
  }

  pub operand_in_held : {k to t : ℕ} (a : Emitter) → ShowsInPlace s write.Nothing k t → ShowsOperandIn s k to t a a
  operand_in_held a h = record {
    code = none;
    added = record { is = λ rest. refl };
    keeps = keeps_same a.kinds.items a.kinds.items refl;
    is = λ g kinds suits keeps j scalar means.
        given_in_place (h.is g Nil j suits (cover_none write.Nothing) scalar means);
  }

  pub operand_in_there : {k to : ℕ} {a b : Emitter} → ShowsValue s k to a b → ShowsOperandIn s k to to a b
  operand_in_there h = record {
    code = h.code;
    added = h.added;
    keeps = h.keeps;
    is = λ g kinds suits keeps j scalar means. given_there (h.is g kinds suits keeps j scalar means);
  }

  pub operand_made : (later : Written) {k t : ℕ} {a b c : Emitter} → t ≡ length a.kinds.items → Emits a b 1 none →
      ShowsValue s k t b c → ShowsOperand s later k t a c
  operand_made later {k = k} {t = t} {a = a} {b = b} {c = c} e f h = record {
    code = h.code;
    added = added_then f.added h.added;
    keeps = keeps_then a.kinds.items b.kinds.items c.kinds.items f.keeps h.keeps;
    is = λ g kinds suits keeps es j covers scalar means.
        let is = h.is g kinds suits keeps j scalar means in
        let at = subst (λ m. IsValue s.program (signatures s.program) kinds g j (tree s k) t m (mark c) h.code)
        (mark_more f) is in
        let there = subst (λ n. IsValue s.program (signatures s.program) kinds g j (tree s k) n (more 1 (mark a))
        (mark c) h.code) e at in
        subst (λ n. IsOperand s.program (signatures s.program) kinds g es j (tree s k) n (mark a) (mark c) h.code)
        (sym e) (operand_fresh there);
  }

  pub pair_both : {w : Written} {i x j y : ℕ} {a b c : Emitter} → w ≡ written_in s.writes j →
      ShowsOperand s w i x a b → ShowsOperand s write.Nothing j y b c → ShowsPair s i x j y a c
  pair_both {w = w} {i = i} {x = x} {j = j} {y = y} {a = a} {b = b} {c = c} e f h = record {
    code = λ r. f.code (h.code r);
    added = added_then f.added h.added;
    keeps = keeps_then a.kinds.items b.kinds.items c.kinds.items f.keeps h.keeps;
    is = λ g kinds suits keeps k l left right left_means right_means.
        let covers = subst (λ z. CoversAll z (Cons (tree s j) Nil)) (sym e) (cover_one (suits.written j)) in
        let first = f.is g kinds suits (keeps_then b.kinds.items c.kinds.items kinds h.keeps keeps)
        (Cons (tree s j) Nil) k covers left left_means in
        pair first (h.is g kinds suits keeps Nil l (cover_none write.Nothing) right right_means);
  }

  -- ---- values

  module _ (o : Ordered s.program) (t : IsOrdered s.program) where
    pub node_tree : {k : ℕ} {of : ExprKind} (n : IsNode s.program k of) →
        tree s k ≡ kind_tree s.program s.vars (tree s) n.node.of n.node.pos of
    node_tree {k = k} {of = of} n =
        (trees_of_operands_law s.program o s.vars).expressions k n.node n.there
        ∙ ap (kind_tree s.program s.vars (tree s) n.node.of n.node.pos) n.is

    pub kind_is : {k : ℕ} {j : TacKind} → IsScalar s.program k j → sem.kind_at s.program s.vars k ≡ kind_of j
    kind_is {k = k} {j = j} h = by (slice_get s.program.exprs k) refl
      where
        by : (e : Option Expr) → slice_get s.program.exprs k ≡ e → sem.kind_at s.program s.vars k ≡ kind_of j
        by None none = absurd (let q : None ≡ Some j = sym (none_kept s.program t k none) ∙ h.is in cc)
        by (Some e) there = ap (λ z. sem_types.kind_of (bare s.program.types (sem.type_of z))) there
            ∙ node_kind s.program t k e j there h

    -- of a kind, a tree and a mark that are equal
    pub value_as : (g : Scene) (kinds : List TacKind) {j z : TacKind} {e f : Ex} {to : ℕ} {m n o : Mark} {c : Code} →
        j ≡ z → f ≡ e → o ≡ n → IsValue s.program (signatures s.program) kinds g j e to m n c →
        IsValue s.program (signatures s.program) kinds g z f to m o c
    value_as g kinds {z = z} {e = e} {f = f} {to = to} {m = m} {n = n} {c = c} k t l h =
        let kept = subst (λ j. IsValue s.program (signatures s.program) kinds g j e to m n c) k h in
        let grown = subst (λ e. IsValue s.program (signatures s.program) kinds g z e to m n c) (sym t) kept in
        subst (λ n. IsValue s.program (signatures s.program) kinds g z f to m n c) (sym l) grown

    pub same_scalar : {k : ℕ} {i j : TacKind} → IsScalar s.program k i → IsScalar s.program k j → i ≡ j
    same_scalar {i = i} {j = j} f h = let e : Some i ≡ Some j = sym f.is ∙ h.is in cc

    -- an operation on two operands, whose code follows theirs
    pub value_binary : (node : Ex → Ex → Ex) {l r x y to k n : ℕ} (i j z : TacKind) {d : Code} {a b c : Emitter}
        → ((g : Scene) (u v : Ex) → Values g (node u v) → Values g u × Values g v) →
        ((g : Scene) → Suits s g → tree s k ≡ node (tree s l) (tree s r)) → IsScalar s.program k z →
        IsScalar s.program l i → IsScalar s.program r j → ShowsPair s l x r y a b → Emits b c n d
        → ((g : Scene) (kinds : List TacKind) (f : Code) →
        IsPair s.program (signatures s.program) kinds g i (tree s l) x j (tree s r) y (mark a) (mark b) f →
        AreInts kinds (d []) → IsValue s.program (signatures s.program) kinds g z (node (tree s l) (tree s r)) to
        (mark a) (more n (mark b)) (λ q. f (d q))) → ShowsValue s k to a c
    value_binary node {l = l} {r = r} i j z {d = d} {a = a} {b = b} {c = c} parts is scalar left right h f rule =
        record {
          code = λ q. h.code (d q);
          added = added_then h.added f.added;
          keeps = keeps_then a.kinds.items b.kinds.items c.kinds.items h.keeps f.keeps;
          is = λ g kinds suits keeps o own means.
              let same = is g suits in
              let both = parts g (tree s l) (tree s r) (subst (λ e. Values g e) same means) in
              let operands = h.is g kinds suits (keeps_then b.kinds.items c.kinds.items kinds f.keeps keeps) i j
              left right both.0 both.1 in
              value_as g kinds (same_scalar scalar own) same (mark_more f)
              (rule g kinds h.code operands (f.ints kinds keeps));
        }

    pub value_integer : (d : FunDef) {op : IntOp} {l r x y to k : ℕ} {i : IntKind} {j : TacKind} {a b c : Emitter} →
        IsNode s.program k (exprs.Int op l r) → IntNode (frame_of s.program d) k op l r →
        ((z : IntKind) → kind_in s.program k ≡ kind.Int z → i ≡ z) → j ≡ kind_in s.program r → ShowsPair s l x r y a b →
        Emits b c (right_temps op j) (whole op i j to x y (length b.kinds.items)) → ShowsValue s k to a c
    value_integer d {op = op} {l = l} {r = r} {x = x} {y = y} {to = to} {k = k} {j = j} {b = b} {c = c}
        n node ik jk h f =
        let at = length b.kinds.items in
        let kept = subst (λ z. Emits b c (right_temps op j) (whole op z j to x y at))
        (ik node.kind (scalar_kind node.is)) f in
        let done = subst (λ z. Emits b c (right_temps op z) (whole op node.kind z to x y at))
        (jk ∙ scalar_kind node.right) kept in
        let q = n.node.pos in
        let is : tree s k ≡ Binary q (Whole op node.kind (kind_of node.count)) (tree s l) (tree s r) =
        node_tree n
        ∙ ap (λ z. Binary q (Whole op (int_kind z) (sem.kind_at s.program s.vars r)) (tree s l) (tree s r))
        (node_kind s.program t k n.node (kind.Int node.kind) n.there node.is)
        ∙ ap (λ z. Binary q (Whole op node.kind z) (tree s l) (tree s r)) (kind_is node.right) in
        value_binary (λ u v. Binary q (Whole op node.kind (kind_of node.count)) u v) (kind.Int node.kind) node.count
        (kind.Int node.kind) (λ g u v m. (m.1, m.2)) (λ g suits. is) node.is node.left node.right h done
        (λ g kinds f operands ints. value_whole operands (right_is (is_shift op) node.kind node.count node.right_fits)
        ints)

    signed_by : (c : Option CType) (z : Bool) → kept_by c ≡ Some (kind.Cap z) → sem_types.is_signed_capability c ≡ z
    signed_by (Some (types.Int k n)) z h = absurd cc
    signed_by (Some (types.Cap s)) z h = cc
    signed_by (Some (types.Pointer t)) z h = cc
    signed_by None z h = absurd cc
    signed_by (Some c) z h = absurd cc

    right_from : (right z : Bool) (i : Kind) (j : TacKind) → (right ≡ true → i ≡ Capability z) → i ≡ kind_of j →
        right ≡ true → j ≡ kind.Cap z
    right_from right z i (kind.Int j) h e r = absurd (let q : Plain j ≡ Capability z = sym e ∙ h r in cc)
    right_from right z i (kind.Cap j) h e r = let q : Capability j ≡ Capability z = sym e ∙ h r in cc

    pub value_capability : (d : FunDef) {op : IntOp} {right z : Bool} {l r x y to k : ℕ} {j : TacKind}
        {a b c : Emitter} → IsNode s.program k (exprs.Capability op l r right) →
        CapabilityNode (frame_of s.program d) k op l r → ((y : Bool) → kind_in s.program k ≡ kind.Cap y → z ≡ y) →
        j ≡ kind_in s.program r → ShowsPair s l x r y a b →
        Emits b c (address_temps op j) (derived op z right j to x y (length b.kinds.items)) → ShowsValue s k to a c
    value_capability d {op = op} {right = right} {l = l} {r = r} {x = x} {y = y} {to = to} {k = k} {j = j} {a = a}
        {b = b} {c = c} n node zk jk h f =
        let at = length b.kinds.items in
        let z = node.signed in
        let kept = subst (λ v. Emits b c (address_temps op j) (derived op v right j to x y at))
        (zk z (scalar_kind node.is)) f in
        let done = subst (λ v. Emits b c (address_temps op v) (derived op z right v to x y at))
        (jk ∙ scalar_kind node.right) kept in
        let q = n.node.pos in
        let plain = sem.from_plain (if right then tree s l else tree s r) in
        let is : tree s k ≡ Binary q (Derived op z (kind_of node.count) right plain) (tree s l) (tree s r) =
        node_tree n
        ∙ ap (λ v. Binary q (Derived op v (sem.kind_at s.program s.vars r) right plain) (tree s l) (tree s r))
        (signed_by (bare s.program.types n.node.of) z (facts_kept s.program t k n.node
        (kept_by (bare s.program.types n.node.of)) n.there refl ∙ node.is.is))
        ∙ ap (λ v. Binary q (Derived op z v right plain) (tree s l) (tree s r)) (kind_is node.right) in
        record {
          code = λ v. h.code (derived op z right node.count to x y at v);
          added = added_then h.added done.added;
          keeps = keeps_then a.kinds.items b.kinds.items c.kinds.items h.keeps done.keeps;
          is = λ g kinds suits keeps o own means.
              let parts : DerivesByKind (Derived op z (kind_of node.count) right plain) × Values g (tree s l) ×
              Values g (tree s r) = subst (λ e. Values g e) is means in
              let operands = h.is g kinds suits (keeps_then b.kinds.items c.kinds.items kinds done.keeps keeps)
              (kind.Cap z) node.count node.left node.right parts.1 parts.2 in
              value_as g kinds (same_scalar node.is own) is (mark_more done)
              (value_derived (right_from right z (kind_of node.count) node.count parts.0 refl) operands
              (done.ints kinds keeps));
        }

    pub value_comma : (d : FunDef) {l r to k : ℕ} {a b c : Emitter} → IsNode s.program k (exprs.Comma l r) →
        CommaNode (frame_of s.program d) k l r → ShowsEffect s l a b → ShowsValue s r to b c → ShowsValue s k to a c
    value_comma d {l = l} {r = r} {k = k} {a = a} {b = b} {c = c} n node f h = record {
      code = λ q. f.code (h.code q);
      added = added_then f.added h.added;
      keeps = keeps_then a.kinds.items b.kinds.items c.kinds.items f.keeps h.keeps;
      is = λ g kinds suits keeps o own means.
          let is : tree s k ≡ Comma (tree s l) (tree s r) = node_tree n in
          let parts : (Values g (tree s l) ⊎ Places g (tree s l)) × Values g (tree s r) =
          subst (λ e. Values g e) is means in
          let kept = keeps_then b.kinds.items c.kinds.items kinds h.keeps keeps in
          value_as g kinds refl is refl
          (value_comma_rule (f.is g kinds suits kept parts.0)
          (h.is g kinds suits keeps o (record { is = node.right ∙ own.is }) parts.1));
    }

    pub value_comparison : (d : FunDef) {op : CmpOp} {l r x y to k : ℕ} {j : TacKind} {a b c : Emitter} →
        IsNode s.program k (exprs.Compare op l r) → CompareNode (frame_of s.program d) k l r →
        j ≡ kind_in s.program l → ShowsPair s l x r y a b → Emits b c 0 (one (instr.Cmp op j to x y)) →
        ShowsValue s k to a c
    value_comparison d {op = op} {l = l} {r = r} {x = x} {y = y} {to = to} {a = a} {b = b} {c = c} n node jk h f =
        let z = node.kind in
        let done = subst (λ v. Emits b c 0 (one (instr.Cmp op v to x y))) (jk ∙ scalar_kind node.left) f in
        let q = n.node.pos in
        let is = node_tree n ∙ ap (λ v. Compare q op v (tree s l) (tree s r)) (kind_is node.left) in
        record {
          code = λ v. h.code (instr.Cmp op z to x y ∷ v);
          added = added_then h.added done.added;
          keeps = keeps_then a.kinds.items b.kinds.items c.kinds.items h.keeps done.keeps;
          is = λ g kinds suits keeps o own means.
              let parts : Values g (tree s l) × Values g (tree s r) = subst (λ e. Values g e) is means in
              let operands = h.is g kinds suits (keeps_then b.kinds.items c.kinds.items kinds done.keeps keeps) z z
              node.left (record { is = sym node.same ∙ node.left.is }) parts.0 parts.1 in
              value_as g kinds (same_scalar node.is own) is (mark_same done) (value_compare {op = op} operands);
        }

    pub value_choice : (d : FunDef) {t x y to k l m : ℕ} {a b c e f h i : Emitter} →
        IsNode s.program k (exprs.Conditional t x y) → ConditionalNode (frame_of s.program d) k t x y →
        Forked a b l m → ShowsCondition s t false l b c → ShowsValue s x to c e →
        Emits e f 0 (λ r. instr.Jump m ∷ instr.Label l ∷ r) → ShowsValue s y to f h →
        Emits h i 0 (one (instr.Label m)) → ShowsValue s k to a i
    value_choice d {t = t} {x = x} {y = y} {to = to} {k = k} {l = l} {m = m} {a = a} {b = b} {c = c} {e = e} {f = f}
        {h = h} {i = i} n node fork test first turn second join =
        let forked : Added a b (λ r. r) =
        record { is = λ r. ap (λ z. z ++ r) (fork.second.code ∙ fork.first.code) } in
        let code : (v w : ℕ) → Code = λ v w r. test.code (first.code (instr.Jump w ∷ instr.Label v
        ∷ second.code (instr.Label w ∷ r))) in
        let added : Added a i (code l m) =
        added_then forked (added_then test.added (added_then first.added (added_then turn.added
        (added_then second.added join.added)))) in
        let there : Added a i (code a.labels m) = subst (λ v. Added a i (code v m)) fork.first.label added in
        let q = n.node.pos in
        let is = node_tree n
        ∙ ap (λ v. Conditional q v (tree s t) (tree s x) (tree s y)) (kind_is node.test) in
        record {
          code = code a.labels (a.labels + 1);
          added = subst (λ w. Added a i (code a.labels w)) (forked_next fork) there;
          keeps = subst (λ z. Keeps z i.kinds.items) (fork.second.kinds ∙ fork.first.kinds)
              (keeps_then b.kinds.items c.kinds.items i.kinds.items test.keeps
              (keeps_then c.kinds.items e.kinds.items i.kinds.items first.keeps
              (keeps_then e.kinds.items f.kinds.items i.kinds.items turn.keeps
              (keeps_then f.kinds.items h.kinds.items i.kinds.items second.keeps join.keeps))));
          is = λ g kinds suits keeps o own means.
              let parts : Values g (tree s t) × Values g (tree s x) × Values g (tree s y) =
              subst (λ z. Values g z) is means in
              let in_h = keeps_then h.kinds.items i.kinds.items kinds join.keeps keeps in
              let in_f = keeps_then f.kinds.items h.kinds.items kinds second.keeps in_h in
              let in_e = keeps_then e.kinds.items f.kinds.items kinds turn.keeps in_f in
              let in_c = keeps_then c.kinds.items e.kinds.items kinds first.keeps in_e in
              let p = s.program in
              let tested = test.is g kinds suits in_c node.kind node.test parts.0 in
              let at = subst (λ z. IsCondition p (signatures p) kinds g node.kind (tree s t) false z (mark b) (mark c)
              test.code) fork.first.label tested in
              let from = subst (λ z. IsCondition p (signatures p) kinds g node.kind (tree s t) false a.labels z
              (mark c) test.code) (forked_mark fork) at in
              let one_way = first.is g kinds suits in_e o (record { is = node.left ∙ own.is }) parts.1 in
              let other = second.is g kinds suits in_h o (record { is = node.right ∙ own.is }) parts.2 in
              let way = subst (λ z. IsValue p (signatures p) kinds g o (tree s y) to z (mark h) second.code)
              (mark_same turn) other in
              value_as g kinds refl is (mark_same join) (value_choice_rule {l = mark a} from one_way way);
        }

    pub constant_by : (g : Scene) (kinds : List TacKind) (to n : ℕ) (m : Mark) (j : TacKind) →
        constant_fits j n ≡ true →
        n < 2 ^ 64 → IsValue s.program (signatures s.program) kinds g j (sem.constant n (kind_of j)) to m m
        (λ r. instr.Const to j n ∷ r)
    constant_by g kinds to n m (kind.Int i) fits low = value_number (kept_by_fit i n fits)
    constant_by g kinds to n m (kind.Cap z) fits low = value_null low

    pub value_constant : {j : TacKind} {v k to : ℕ} {a b : Emitter} → IsNode s.program k (exprs.Constant v) →
        j ≡ kind_in s.program k → constant_fits j v ≡ true → v < 2 ^ 64 → Emits a b 0 (one (instr.Const to j v)) →
        ShowsValue s k to a b
    value_constant {j = j} {v = v} {k = k} {to = to} {a = a} {b = b} n jk fits low f = record {
      code = one (instr.Const to j v);
      added = f.added;
      keeps = f.keeps;
      is = λ g kinds suits keeps z scalar means.
          let same : j ≡ z = jk ∙ scalar_kind scalar in
          let is : tree s k ≡ sem.constant v (kind_of j) = node_tree n
          ∙ ap (sem.constant v) (node_kind s.program t k n.node z n.there scalar ∙ ap kind_of (sym same)) in
          value_as g kinds same is (mark_same f) (constant_by g kinds to v (mark a) j fits low);
    }

    -- a place is no value
    pub value_no_node : {k to : ℕ} {a b : Emitter} {n : ℕ} {c : Code} → slice_get s.program.exprs k ≡ None →
        Emits a b n c → ShowsValue s k to a b
    value_no_node {k = k} {c = c} h f = record {
      code = c;
      added = f.added;
      keeps = f.keeps;
      is = λ g kinds suits keeps z scalar means.
          absurd (let e : None ≡ Some z = sym (none_kept s.program t k h) ∙ scalar.is in cc);
    }

    pub value_no_value : {k to : ℕ} {of : ExprKind} {a b : Emitter} {n : ℕ} {c : Code} → IsNode s.program k of →
        ((g : Scene) (q : Pos) (u : ℕ) → Values g (kind_tree s.program s.vars (tree s) u q of) → ⊥) → Emits a b n c →
        ShowsValue s k to a b
    value_no_value {c = c} n never f = record {
      code = c;
      added = f.added;
      keeps = f.keeps;
      is = λ g kinds suits keeps z scalar means.
          absurd (never g n.node.pos n.node.of (subst (λ e. Values g e) (node_tree n) means));
    }
