-- Code is shown to be that of assignments, of compound ones and of steps by one.
use Rattle.std.proofs.Common.{◌≡◌, ℕ, Bool, true, false, List, ◌∷◌, length, Option, Some, None, refl, sym, ap, ◌∙◌}
use Rattle.std.proofs.Common.{subst, arith, not, ⊎_elim}
use Rattle.std.specs.Option.{unwrap_or}
use Rattle.std.proofs.lemmas.Option.{IfSome_then}
use Rattle.std.specs.Prelude.{slice_get, IfSome, ◌&&◌, if◌then◌else◌}
use Rattle.ck_base.specs.declared.positions.Pos.{Pos}
use Rattle.ck_int.specs.declared.kinds.IntKind.{IntKind}
use Rattle.ck_int.specs.declared.kinds.IntKind.TheVariants as int
use Rattle.ck_int.specs.declared.kinds.IntOp.{IntOp}
use Rattle.c_tree.specs.Layout.{bare}
use Rattle.c_tree.specs.Views.{IsOrdered}
use Rattle.c_tree.specs.WellTyped.{type_in}
use Rattle.c_tree.specs.declared.typed.CType.{CType}
use Rattle.c_tree.specs.declared.typed.CType.TheVariants as types
use Rattle.c_tree.specs.declared.typed.Expr.{Expr}
use Rattle.c_tree.specs.declared.typed.ExprKind.{ExprKind}
use Rattle.c_tree.specs.declared.typed.ExprKind.TheVariants as exprs
use Rattle.c_tree.specs.declared.typed.FunDef.{FunDef}
use Rattle.c_tree.specs.declared.typed.Typed.{Typed}
use Rattle.c_tree.specs.declared.typed.VarDef.{VarDef}
use Rattle.cheri_c_sem.specs.Expressions as sem
use Rattle.cheri_c_sem.specs.Kinds.{Kind, Plain, Capability}
use Rattle.cheri_c_sem.specs.Order.{Ordered}
use Rattle.cheri_c_sem.specs.Tree.{Operation, Moved, Derived, Ex, Nil, Cons, Number, Assign, Copy, Compound}
use Rattle.cheri_c_sem.specs.Tree.{Variable}
use Rattle.cheri_c_sem.specs.Types as sem_types
use Rattle.cheri_c_sem.specs.Types.{is_pointer, is_plain, is_record, is_shift, size_in, align_in, unit_of}
use Rattle.cheri_c_sem.specs.Types.{pointee_of, takes_away}
use Rattle.tac_ir.specs.Effects.{kind_of}
use Rattle.tac_ir.specs.declared.code.TacInstr.TheVariants as instr
use Rattle.tac_ir.specs.declared.code.TacKind.{TacKind}
use Rattle.tac_ir.specs.declared.code.TacKind.TheVariants as kind
use Rattle.tac_emit.specs.declared.emitter.Emitter.{Emitter}
use Rattle.tac_lower.specs.declared.operations.Change.{Change}
use Rattle.tac_lower.specs.declared.operations.Pace.{Pace}
use Rattle.tac_lower.specs.declared.writes.Written.{Written}
use Rattle.tac_lower.specs.declared.writes.Written.TheVariants as write
use Rattle.lower_runs.specs.States.{Scene}
use Rattle.lower_runs.specs.Operating.{Code, give, transfer, changed, changed_temps, stepped, stepped_temps}
use Rattle.lower_runs.specs.Expressions as rule
use Rattle.lower_runs.specs.Expressions.{Mark, more, position_in, IsPointer, IsAssignment, IsChange, IsStep, asks_old}
use Rattle.lower_runs.specs.Trees.{Places, Values}
use Rattle.tac_lower.specs.Operands.{ComputedFits}
use Rattle.tac_emit.specs.Emitted.{Keeps}
use Rattle.tac_lower.specs.Nodes.{IsScalar, kind_in, kept_as, or_int, points, expression, AssignNode}
use Rattle.tac_lower.specs.Nodes.{CompoundNode, StepNode, VarNode}
use Rattle.c_tree.specs.Terms.{type_of}
use Rattle.tac_lower.specs.Scenes.{frame_of}
use Rattle.tac_emit.specs.Adding.{mark, Emits, none, one}
use Rattle.tac_lower.specs.Shown.{Changes, ChangesBy, Paces}
use Rattle.tac_lower.specs.Tables.{is_some, kept_by, type_at, IsPointed}
use Rattle.tac_lower.specs.Trees.{Setting, tree, signatures, Suits, CoversAll, IsNode, IsVariable}
use Rattle.tac_lower.specs.Trees.{pos_in, written_in, Located, HasRecord, ShowsStruct, ShowsOperand, ShowsValue}
use Rattle.tac_lower.specs.Trees.{ShowsPointer, ShowsAssignment}
use Rattle.tac_lower.specs.Assigning.{ShowsOwn, IsAssigned, ShowsAssigned, IsChangeOf, Steps}
use Rattle.tac_lower.specs.Assigning.{Renews, RenewsApart}
use Rattle.tac_lower.proofs.Assigning.{point_is, point_of, given_is, none_is, element_small, pointed_is}
use Rattle.tac_lower.proofs.Deriving.{node_tree, kind_is, same_scalar, mark_more, mark_same, cover_none}
use Rattle.tac_lower.proofs.Deriving.{cover_one, right_is}
use Rattle.tac_emit.proofs.Emitting.{added_then}
use Rattle.tac_lower.proofs.Keeping.{scalar_kind}
use Rattle.tac_lower.proofs.Standing.{named, no_record, kept_node}
use Rattle.tac_lower.proofs.Typings.{none_kept, kept_is, points_is}
use Rattle.tac_emit.proofs.Wells.{keeps_then, and_both}

-- ---- the operation of a compound assignment

plain_int : (c : Option CType) (j : TacKind) → is_plain c ≡ true → sem_types.kind_of c ≡ kind_of j →
    (i : IntKind) × (j ≡ kind.Int i)
plain_int (Some (types.Int k n)) (kind.Int i) h e = (i, refl)
plain_int (Some (types.Int k n)) (kind.Cap z) h e = absurd cc
plain_int c j h e = absurd cc

derived_change : (op : IntOp) (z right plain : Bool) (count : Kind) (j k : TacKind) → count ≡ kind_of k →
    (right ≡ true → ((i : IntKind) × (j ≡ kind.Int i)) × (k ≡ kind.Cap z)) →
    IsChange (Derived op z count right plain) j k (Capability z)
derived_change op z false plain count j k e h = (refl, e)
derived_change op z true plain count j k e h =
    let f = h refl in
    subst (λ w. IsChange (Derived op z count true plain) w k (Capability z)) (sym f.0.1) (refl, e, f.1)

not_true : (b : Bool) → not b ≡ true → b ≡ false
not_true true h = absurd cc
not_true false h = refl

-- an operation with the size that the code has
abbrev resized : Option ℕ → Operation → Operation
resized (Some n) (Moved size minus left count) = Moved n minus left count
resized n o = o

module _ (p : Typed) (vars : List VarDef) (op : IntOp) (l r : ℕ) (y : Ex) where
  change_by : (c : Option CType) (j k : TacKind) → sem.kind_at p vars l ≡ kind_of j →
      sem.kind_at p vars r ≡ kind_of k → (is_pointer c ≡ true → j ≡ kind.Cap false) →
      (is_pointer c ≡ false → ComputedFits op (or_int (kept_by c)) k) →
      (is_shift op ≡ false → is_pointer c ≡ false → kept_by c ≡ Some k) →
      IsChange (sem.compound_by p vars op c l r y) j k (sem_types.kind_of c)
  change_by (Some (types.Pointer t)) j k le re moves fits alike =
      subst (λ z. IsChange (Moved (size_in p.types t) (takes_away op) false (sem.kind_at p vars r)) z k
      (Capability false)) (sym (moves refl)) (refl, re)
  change_by (Some (types.Cap z)) j k le re moves fits alike =
      let left = is_plain (sem.bare_type p vars l) in
      let other = if is_plain (sem.bare_type p vars r) then true else sem.from_plain y in
      let right = sem_types.derives_right op left other in
      derived_change op z right (if right then left else other) (sem.kind_at p vars r) j k re
      (λ e. let shift = and_both (not (is_shift op)) (left && not other) e in
      let same : kind.Cap z ≡ k = (let q = alike (not_true (is_shift op) shift.0) refl in cc) in
      (plain_int (sem.bare_type p vars l) j (and_both left (not other) shift.1).0 le, sym same))
  change_by (Some (types.Int i n)) j k le re moves fits alike = (refl, re, right_is (is_shift op) i k (fits refl))
  change_by c j k le re moves fits alike = (refl, re, right_is (is_shift op) int.I32 k (fits refl))

  changes_by : (size : Option ℕ) (done : IntOp) (computed : TacKind) (c : Option CType) → done ≡ op →
      computed ≡ or_int (kept_by c) → is_some size ≡ is_pointer c →
      ChangesBy done computed size (resized size (sem.compound_by p vars op c l r y))
  changes_by (Some n) done computed (Some (types.Pointer t)) de ce e = (refl, ap takes_away (sym de))
  changes_by (Some n) done computed c de ce e = absurd cc
  changes_by None done computed (Some (types.Pointer t)) de ce e = absurd cc
  changes_by None done computed (Some (types.Cap z)) de ce e =
      subst (λ w. ChangesBy done w None (sem.compound_by p vars op (Some (types.Cap z)) l r y)) (sym ce) (sym de, refl)
  changes_by None done computed (Some (types.Int i n)) de ce e =
      subst (λ w. ChangesBy done w None (sem.compound_by p vars op (Some (types.Int i n)) l r y)) (sym ce)
      (sym de, refl)
  changes_by None done computed c de ce e =
      subst (λ w. ChangesBy done w None (sem.compound_by p vars op c l r y)) (sym ce) (sym de, refl)

  resized_is : (size : Option ℕ) (c : Option CType)
      → (is_pointer c ≡ true → IfSome size (λ n. n ≡ size_in p.types (pointee_of c))) →
      resized size (sem.compound_by p vars op c l r y) ≡ sem.compound_by p vars op c l r y
  resized_is None c h = refl
  resized_is (Some n) (Some (types.Pointer t)) h =
      ap (λ z. Moved z (takes_away op) false (sem.kind_at p vars r)) (h refl)
  resized_is (Some n) (Some (types.Cap z)) h = refl
  resized_is (Some n) c h = refl

-- ---- steps

module _ (p : Typed) (vars : List VarDef) (size : ℕ) where
  abbrev stepping_by : Bool → Option CType → Operation
  stepping_by up c = resized (Some size) (sem.step_operation p vars up c)

  abbrev Stepping : Bool → Option CType → TacKind → Type 0
  Stepping up c j = IsStep (stepping_by up c) j (sem.step_kind p vars (sem_types.kind_of c)) ×
      Paces (record { up = up; size = size }) j (stepping_by up c)

  stepping : (up : Bool) (c : Option CType) (j : TacKind) → kept_by c ≡ Some j → (is_pointer c ≡ false → size ≡ 1) →
      Stepping up c j
  stepping true (Some (types.Int i n)) j k h =
      let is : kind.Int i ≡ j = cc in subst (λ z. Stepping true (Some (types.Int i n)) z) is ((refl, refl), refl)
  stepping false (Some (types.Int i n)) j k h =
      let is : kind.Int i ≡ j = cc in subst (λ z. Stepping false (Some (types.Int i n)) z) is ((refl, refl), refl)
  stepping true (Some (types.Cap v)) j k h =
      let is : kind.Cap v ≡ j = cc in
      subst (λ z. Stepping true (Some (types.Cap v)) z) is ((refl, refl), (refl, h refl))
  stepping false (Some (types.Cap v)) j k h =
      let is : kind.Cap v ≡ j = cc in
      subst (λ z. Stepping false (Some (types.Cap v)) z) is ((refl, refl), (refl, h refl))
  stepping up (Some (types.Pointer u)) j k h =
      let is : kind.Cap false ≡ j = cc in
      subst (λ z. Stepping up (Some (types.Pointer u)) z) is (refl, (refl, refl))
  stepping up c j k h = absurd cc

  stepping_is : (up : Bool) (c : Option CType) → (is_pointer c ≡ true → size ≡ size_in p.types (pointee_of c)) →
      stepping_by up c ≡ sem.step_operation p vars up c
  stepping_is up (Some (types.Pointer u)) h = ap (λ z. Moved z (not up) false (Plain int.I32)) (h refl)
  stepping_is up (Some (types.Cap z)) h = refl
  stepping_is up c h = refl

-- where the old value is asked for, a temp is given
asked_old : (old : Bool) (to : Option ℕ) → asks_old old to ≡ true → (u : ℕ) × (to ≡ Some u) × (old ≡ true)
asked_old old (Some u) h = (u, refl, h)
asked_old old None h = absurd cc

-- what is no struct or union is not copied
pub no_copies : {A : Type 0} {p : Typed} {k : ℕ} {of : ExprKind} {record_is : Bool} (n : IsNode p k of) →
    record_is ≡ false → record_is ≡ is_record (bare p.types n.node.of) → HasRecord p k → A
no_copies {p = p} n other e h =
    let is : is_record (bare p.types n.node.of) ≡ true =
    sym (ap (λ z. is_record (bare p.types (sem.type_of z))) n.there) ∙ h in
    absurd (let q : false ≡ true = sym other ∙ (e ∙ is) in cc)

module _ (s : Setting) where
  -- ---- what is assigned

  pub assigned_plain : {k t : ℕ} {to : Option ℕ} {a b : Emitter} → to ≡ None → ShowsOperand s write.Nothing k t a b →
      ShowsAssigned s k to t a b
  assigned_plain {k = k} {t = t} {a = a} {b = b} e h = subst (λ z. ShowsAssigned s k z t a b) (sym e) (record {
    code = h.code;
    added = h.added;
    keeps = h.keeps;
    is = λ g kinds suits keeps j scalar means.
        h.is g kinds suits keeps Nil j (cover_none write.Nothing) scalar means;
  })

  pub assigned_own : {k t u : ℕ} {to : Option ℕ} {a b c : Emitter} → to ≡ Some u → ShowsOwn s to t a b →
      ShowsValue s k t b c → ShowsAssigned s k to t a c
  assigned_own {k = k} {t = t} {u = u} {a = a} {b = b} {c = c} e f h =
      subst (λ z. ShowsAssigned s k z t a c) (sym e) (record {
        code = h.code;
        added = added_then f.added h.added;
        keeps = keeps_then a.kinds.items b.kinds.items c.kinds.items f.keeps h.keeps;
        is = λ g kinds suits keeps j scalar means.
            let own = subst (λ z. rule.IsOwn g z t (mark a) (mark b)) e (f.is g suits.fixed) in
            (mark b, own, h.is g kinds suits keeps j scalar means);
      })

  module _ (o : Ordered s.program) (t : IsOrdered s.program) where
    -- of a kind, a tree and a mark that are equal
    assignment_as : (g : Scene) (kinds : List TacKind) {j z : TacKind} {e f : Ex} {to : Option ℕ} {m n o : Mark}
        {c : Code} → j ≡ z → f ≡ e → o ≡ n → IsAssignment s.program (signatures s.program) kinds g j e to m n c →
        IsAssignment s.program (signatures s.program) kinds g z f to m o c
    assignment_as g kinds {z = z} {e = e} {f = f} {to = to} {m = m} {n = n} {c = c} k is l h =
        let kept = subst (λ j. IsAssignment s.program (signatures s.program) kinds g j e to m n c) k h in
        let grown = subst (λ e. IsAssignment s.program (signatures s.program) kinds g z e to m n c) (sym is) kept in
        subst (λ n. IsAssignment s.program (signatures s.program) kinds g z f to m n c) (sym l) grown

    kept_type : {k : ℕ} {j : TacKind} → IsScalar s.program k j → kept_by (sem.bare_type s.program s.vars k) ≡ Some j
    kept_type {k = k} {j = j} h = by (slice_get s.program.exprs k) refl
      where
        by : (e : Option Expr) → slice_get s.program.exprs k ≡ e →
            kept_by (sem.bare_type s.program s.vars k) ≡ Some j
        by None none = absurd (let q : None ≡ Some j = sym (none_kept s.program t k none) ∙ h.is in cc)
        by (Some e) there = ap (λ z. kept_by (bare s.program.types (sem.type_of z))) there ∙ kept_node s o t e there h

    -- ---- places

    module _ (d : FunDef) (vars : d.vars ≡ s.vars) {a v : ℕ} (found : IsVariable s.program s.homes a v)
        (typed : (x : ℕ) → IsNode s.program a (exprs.Var x) → VarNode (frame_of s.program d) a x) where
      -- a variable in the scene
      pub variable_tree : (g : Scene) → Suits s g →
          tree s a ≡ Variable found.names.node.pos found.number
      variable_tree g suits = named s o t found.names (suits.value found.number v found.kind found.home).0

      pub variable_home : (g : Scene) → Suits s g → {i : TacKind} → IsScalar s.program a i →
          g.home found.number ≡ Some (record { temp = v; kind = i })
      variable_home g suits {i = i} h =
          let x = found.number in
          let stand = suits.value x v found.kind found.home in
          let var = typed x found.names in
          let kept : found.kind ≡ i = sym (stand.2 var.var (ap (λ z. slice_get z x) (sym vars) ∙ var.there))
          ∙ ap or_int (sym var.kept ∙ h.is) in
          subst (λ z. g.home x ≡ Some (record { temp = v; kind = z })) kept stand.1

    -- ---- assignments

    assign_tree : {k a b : ℕ} {j : TacKind} (n : IsNode s.program k (exprs.Assign a b)) → IsScalar s.program k j →
        IsScalar s.program a j → tree s k ≡ Assign (kind_of j) (tree s a) (tree s b)
    assign_tree {a = a} {b = b} {j = j} n own place =
        let of = n.node.of in
        let ts = s.program.types in
        node_tree s o t n
        ∙ ap (λ z. if z then Copy n.node.pos (size_in ts of) (unit_of (align_in ts of)) (tree s a) (tree s b)
        else Assign (sem.kind_at s.program s.vars a) (tree s a) (tree s b))
        (no_record (bare ts of) j (kept_node s o t n.node n.there own))
        ∙ ap (λ z. Assign z (tree s a) (tree s b)) (kind_is s o t place)

    pub assigns_variable : (d : FunDef) {k a b v : ℕ} (to : Option ℕ) {x y z : Emitter} → d.vars ≡ s.vars →
        IsNode s.program k (exprs.Assign a b) → AssignNode (frame_of s.program d) k a b
        → ((x : ℕ) → IsNode s.program a (exprs.Var x) → VarNode (frame_of s.program d) a x) →
        IsVariable s.program s.homes a v → ShowsValue s b v x y → Emits y z 0 (give to v) →
        ShowsAssignment s k to x z
    assigns_variable d {k = k} {a = a} {b = b} {v = v} to {x = x} {y = y} {z = z} vars n node typed found h f =
        record {
          code = λ r. h.code (give to v r);
          added = added_then h.added f.added;
          keeps = keeps_then x.kinds.items y.kinds.items z.kinds.items h.keeps f.keeps;
          is = λ g kinds suits keeps i own means.
              let place : IsScalar s.program a i = record { is = node.left ∙ own.is } in
              let q = found.names.node.pos in
              let is = assign_tree n own place
              ∙ ap (λ e. Assign (kind_of i) e (tree s b)) (variable_tree d vars found typed g suits) in
              let parts : Unit {0} × Values g (tree s b) = subst (λ e. Values g e) is means in
              let value = h.is g kinds suits (keeps_then y.kinds.items z.kinds.items kinds f.keeps keeps) i
              (record { is = node.right ∙ own.is }) parts.1 in
              assignment_as g kinds refl is (mark_same f)
              (rule.assignment_variable {q = q} (variable_home d vars found typed g suits place) value);
        }

    -- a struct or union is no scalar
    pub assigns_record : {k a b u : ℕ} {to : Option ℕ} {x y : Emitter} (n : IsNode s.program k (exprs.Assign a b)) →
        is_record (bare s.program.types n.node.of) ≡ true → ShowsStruct s k u x y → ShowsAssignment s k to x y
    assigns_record n e h = record {
      code = h.code;
      added = h.added;
      keeps = h.keeps;
      is = λ g kinds suits keeps j own means.
          absurd (let q : true ≡ false = sym e ∙ no_record (bare s.program.types n.node.of) j
          (kept_node s o t n.node n.there own) in cc);
    }

    object_rule : (g : Scene) (kinds : List TacKind) {j : TacKind} {e f : Ex} {at v : ℕ} (to : Option ℕ) {q : Pos}
        {l m n : Mark} {c : Code} (d : Code) → position_in e ≡ Some q →
        IsPointer s.program (signatures s.program) kinds g (Cons f Nil) e at l m c →
        IsAssigned s g kinds j f v m n d to
        → IsAssignment s.program (signatures s.program) kinds g j (Assign (kind_of j) e f) to l n
        (λ r. c (d (instr.Store at v j q ∷ give to v r)))
    object_rule g kinds None d p c h = rule.assignment_object p c h
    object_rule g kinds (Some to) d p c h = rule.assignment_object_value p c h.1 h.2

    pub assigns_object : (d : FunDef) {k a b at v : ℕ} {w : Written} {j : TacKind} {q : Pos} (to : Option ℕ)
        {x y z e f : Emitter} → IsNode s.program k (exprs.Assign a b) → AssignNode (frame_of s.program d) k a b →
        w ≡ written_in s.writes b → j ≡ kind_in s.program a → q ≡ pos_in s.program a → Located s a →
        ShowsPointer s w a at x y → ShowsAssigned s b to v y z →
        Emits z e 0 (one (instr.Store at v j q)) → Emits e f 0 (give to v) → ShowsAssignment s k to x f
    assigns_object d {k = k} {a = a} {b = b} {at = at} {v = v} {w = w} {j = j} {q = q} to {x = x} {y = y} {z = z}
        {e = e} {f = f} n node we jk qe there p h store last = record {
          code = λ r. p.code (h.code (instr.Store at v j q ∷ give to v r));
          added = added_then p.added (added_then h.added (added_then store.added last.added));
          keeps = keeps_then x.kinds.items y.kinds.items f.kinds.items p.keeps
              (keeps_then y.kinds.items z.kinds.items f.kinds.items h.keeps
              (keeps_then z.kinds.items e.kinds.items f.kinds.items store.keeps last.keeps));
          is = λ g kinds suits keeps i own means.
              let scalar : IsScalar s.program a i = record { is = node.left ∙ own.is } in
              let same : j ≡ i = jk ∙ scalar_kind scalar in
              let place : IsScalar s.program a j = record { is = scalar.is ∙ ap Some (sym same) } in
              let value : IsScalar s.program k j = record { is = own.is ∙ ap Some (sym same) } in
              let is = assign_tree n value place in
              let parts : Places g (tree s a) × Values g (tree s b) = subst (λ e. Values g e) is means in
              let in_z = keeps_then z.kinds.items e.kinds.items kinds store.keeps
              (keeps_then e.kinds.items f.kinds.items kinds last.keeps keeps) in
              let covers = subst (λ z. CoversAll z (Cons (tree s b) Nil)) (sym we) (cover_one (suits.written b)) in
              let pointer = p.is g kinds suits (keeps_then y.kinds.items z.kinds.items kinds h.keeps in_z)
              (Cons (tree s b) Nil) covers there parts.0 in
              let assigned = h.is g kinds suits in_z j (record { is = node.right ∙ value.is }) parts.1 in
              let stands = suits.placed k a (record {
                of = exprs.Assign a b;
                names = n;
                place = refl;
                kind = j;
                is = place;
              }) ∙ ap Some (sym qe) in
              assignment_as g kinds same is (mark_same last ∙ mark_same store)
              (object_rule g kinds to h.code stands pointer assigned);
        }

    -- ---- compound assignments

    module _ (d : FunDef) {op : IntOp} {k l r of : ℕ} {change : Change}
        (n : IsNode s.program k (exprs.Compound op l r of))
        (node : CompoundNode (frame_of s.program d) k op l r of) (by : IsChangeOf s.program op of change) where
      abbrev computed_type : Option CType
      computed_type = bare s.program.types of

      abbrev operation : Operation
      operation = resized change.element (sem.compound_by s.program s.vars op computed_type l r (tree s r))

      abbrev computed : Kind
      computed = sem_types.kind_of computed_type

      moves_is : is_pointer computed_type ≡ points (type_in s.program of)
      moves_is = sym (point_is computed_type) ∙ points_is s.program t of

      operation_is : (g : Scene) → Suits s g →
          operation ≡ sem.compound_by s.program s.vars op computed_type l r (tree s r)
      operation_is g suits = resized_is s.program s.vars op l r (tree s r) change.element computed_type
          (λ e. IfSome_then change.element by.size (λ z (h : IsPointed s.program.types of z).
          h.size (element_small s.program t suits.types of (node.pointed (sym moves_is ∙ e)))))

      compound_tree : (g : Scene) → Suits s g → {j : TacKind} → IsScalar s.program l j →
          tree s k ≡ Compound n.node.pos operation (kind_of j) computed false (tree s l) (tree s r)
      compound_tree g suits {j = j} place = node_tree s o t n
          ∙ ap (λ z. Compound n.node.pos (sem.compound_by s.program s.vars op computed_type l r (tree s r)) z computed
          false (tree s l) (tree s r)) (kind_is s o t place)
          ∙ ap (λ z. Compound n.node.pos z (kind_of j) computed false (tree s l) (tree s r))
          (sym (operation_is g suits))

      compound_changes : Changes change operation
      compound_changes = changes_by s.program s.vars op l r (tree s r) change.element change.op change.computed
          computed_type by.same (by.computed ∙ ap or_int (sym (kept_is s.program t of))) (by.element ∙ sym moves_is)

      abbrev Moves : Type 0
      Moves = (points (type_in s.program of) ≡ true) × IsScalar s.program l (kind.Cap false)

      abbrev Computes : Type 0
      Computes = (points (type_in s.program of) ≡ false) ×
          ComputedFits op (or_int (kept_as (type_in s.program of))) (kind_in s.program r)

      compound_moves : {j : TacKind} → IsScalar s.program l j → is_pointer computed_type ≡ true → j ≡ kind.Cap false
      compound_moves place e = ⊎_elim (λ (x : Moves). same_scalar s o t place x.1)
          (λ (x : Computes). absurd (let q : true ≡ false = sym e ∙ (moves_is ∙ x.0) in cc)) node.fits

      compound_fits : is_pointer computed_type ≡ false → ComputedFits op (or_int (kept_by computed_type)) node.count
      compound_fits e = ⊎_elim (λ (x : Moves). absurd (let q : false ≡ true = sym e ∙ (moves_is ∙ x.0) in cc))
          (λ (x : Computes). subst (λ z. ComputedFits op (or_int z) node.count) (sym (kept_is s.program t of))
          (subst (λ z. ComputedFits op (or_int (kept_as (type_in s.program of))) z) (scalar_kind node.right) x.1))
          node.fits

      compound_change : (g : Scene) → Suits s g → {j : TacKind} → IsScalar s.program l j →
          IsChange operation j node.count computed
      compound_change g suits {j = j} place =
          let is = change_by s.program s.vars op l r (tree s r) computed_type j node.count (kind_is s o t place)
          (kind_is s o t node.right) (compound_moves place) compound_fits
          (λ shift e. kept_is s.program t of ∙ node.alike shift (sym moves_is ∙ e)) in
          subst (λ z. IsChange z j node.count computed) (sym (operation_is g suits)) is

      pub compounds_variable : {v y : ℕ} {i j : TacKind} (to : Option ℕ) {a b c e : Emitter} → d.vars ≡ s.vars
          → ((x : ℕ) → IsNode s.program l (exprs.Var x) → VarNode (frame_of s.program d) l x) →
          IsVariable s.program s.homes l v → i ≡ kind_in s.program l → j ≡ kind_in s.program r →
          ShowsOperand s write.Nothing r y a b
          → ((o : Operation) → Changes change o →
          Emits b c (changed_temps o i j) (changed o i j v v y (length b.kinds.items))) →
          Emits c e 0 (give to v) → ShowsAssignment s k to a e
      compounds_variable {v = v} {y = y} {i = i} {j = j} to {a = a} {b = b} {c = c} {e = e} vars typed found ik jk h
          work last =
          let count = node.count in
          let raw = work operation compound_changes in
          let at = length b.kinds.items in
          let f = subst (λ z. Emits b c (changed_temps operation i z) (changed operation i z v v y at))
          (jk ∙ scalar_kind node.right) raw in
          record {
            code = λ q. h.code (changed operation i count v v y at (give to v q));
            added = added_then h.added (added_then f.added last.added);
            keeps = keeps_then a.kinds.items b.kinds.items e.kinds.items h.keeps
                (keeps_then b.kinds.items c.kinds.items e.kinds.items f.keeps last.keeps);
            is = λ g kinds suits keeps z own means.
                let scalar : IsScalar s.program l z = record { is = node.left ∙ own.is } in
                let same : i ≡ z = ik ∙ scalar_kind scalar in
                let place : IsScalar s.program l i = record { is = scalar.is ∙ ap Some (sym same) } in
                let q = found.names.node.pos in
                let is = compound_tree g suits place
                ∙ ap (λ u. Compound n.node.pos operation (kind_of i) computed false u (tree s r))
                (variable_tree d vars found typed g suits) in
                let parts : Unit {0} × Values g (tree s r) = subst (λ u. Values g u) is means in
                let in_c = keeps_then c.kinds.items e.kinds.items kinds last.keeps keeps in
                let operand = h.is g kinds suits (keeps_then b.kinds.items c.kinds.items kinds f.keeps in_c) Nil count
                (cover_none write.Nothing) node.right parts.1 in
                assignment_as g kinds same is (mark_same last ∙ mark_more f)
                (rule.assignment_changed_variable {q = n.node.pos} {s = q}
                (variable_home d vars found typed g suits place) (compound_change g suits place) operand
                (f.ints kinds in_c));
          }

      pub compounds_object : {at v y : ℕ} {w : Written} {i j : TacKind} {q q' : Pos} (to : Option ℕ)
          {a b c e f x y' z : Emitter} → w ≡ written_in s.writes r → i ≡ kind_in s.program l → j ≡ kind_in s.program r →
          q ≡ pos_in s.program l → q' ≡ pos_in s.program l → Located s l → ShowsPointer s w l at a b →
          ShowsOperand s write.Nothing r y b c →
          ShowsOwn s to v c e → Emits e f 0 (one (instr.Load v at i q))
          → ((o : Operation) → Changes change o →
          Emits f x (changed_temps o i j) (changed o i j v v y (length f.kinds.items))) →
          Emits x y' 0 (one (instr.Store at v i q')) → Emits y' z 0 (give to v) → ShowsAssignment s k to a z
      compounds_object {at = at} {v = v} {y = y} {w = w} {i = i} {j = j} {q = q} {q' = q'} to {a = a} {b = b}
          {c = c} {e = e} {f = f} {x = x} {y' = y'} {z = z} we ik jk qe qe' there p h own load work put last =
          let count = node.count in
          let store = subst (λ u. Emits x y' 0 (one (instr.Store at v i u))) (qe' ∙ sym qe) put in
          let m = length e.kinds.items in
          let raw = subst (λ u. Emits f x (changed_temps operation i u)
          (changed operation i u v v y (length f.kinds.items))) (jk ∙ scalar_kind node.right)
          (work operation compound_changes) in
          let same_temps : length f.kinds.items ≡ m = omega (arith, load.temps) in
          let done = subst (λ u. Emits f x (changed_temps operation i count) (changed operation i count v v y u))
          same_temps raw in
          let ke = keeps_then x.kinds.items y'.kinds.items z.kinds.items store.keeps last.keeps in
          let kf = keeps_then f.kinds.items x.kinds.items z.kinds.items done.keeps ke in
          let kc = keeps_then e.kinds.items f.kinds.items z.kinds.items load.keeps kf in
          record {
            code = λ u. p.code (h.code (instr.Load v at i q
                ∷ changed operation i count v v y m (instr.Store at v i q ∷ give to v u)));
            added = added_then p.added (added_then h.added (added_then own.added (added_then load.added
                (added_then done.added (added_then store.added last.added)))));
            keeps = keeps_then a.kinds.items b.kinds.items z.kinds.items p.keeps
                (keeps_then b.kinds.items c.kinds.items z.kinds.items h.keeps
                (keeps_then c.kinds.items e.kinds.items z.kinds.items own.keeps kc));
            is = λ g kinds suits keeps z' value means.
                let scalar : IsScalar s.program l z' = record { is = node.left ∙ value.is } in
                let same : i ≡ z' = ik ∙ scalar_kind scalar in
                let place : IsScalar s.program l i = record { is = scalar.is ∙ ap Some (sym same) } in
                let is = compound_tree g suits place in
                let parts : Places g (tree s l) × Values g (tree s r) = subst (λ u. Values g u) is means in
                let in_x = keeps_then x.kinds.items z.kinds.items kinds ke keeps in
                let in_c = keeps_then c.kinds.items e.kinds.items kinds own.keeps
                (keeps_then e.kinds.items z.kinds.items kinds kc keeps) in
                let covers = subst (λ u. CoversAll u (Cons (tree s r) Nil)) (sym we) (cover_one (suits.written r)) in
                let pointer = p.is g kinds suits (keeps_then b.kinds.items c.kinds.items kinds h.keeps in_c)
                (Cons (tree s r) Nil) covers there parts.0 in
                let operand = h.is g kinds suits in_c Nil count (cover_none write.Nothing) node.right parts.1 in
                let stands = suits.placed k l (record {
                  of = exprs.Compound op l r of;
                  names = n;
                  place = refl;
                  kind = i;
                  is = place;
                }) ∙ ap Some (sym qe) in
                assignment_as g kinds same is (mark_same last ∙ (mark_same store
                ∙ (mark_more done ∙ ap (more (changed_temps operation i count)) (mark_same load))))
                (rule.assignment_changed_object {q = n.node.pos} stands (compound_change g suits place) pointer operand
                (own.is g suits.fixed) (done.ints kinds in_x));
          }

    -- ---- steps by one

    pub steps_are : (d : FunDef) {k a : ℕ} {up front : Bool} (r : Option ℕ) {size : ℕ} →
        IsNode s.program k (exprs.Step a up front) → StepNode (frame_of s.program d) k a →
        is_some r ≡ points (type_of (expression s.program a)) →
        IfSome r (IsPointed s.program.types (type_at s.program a)) → size ≡ unwrap_or r 1 →
        Steps s k a front (record { up = up; size = size })
    steps_are d {a = a} {up = up} {front = front} r {size = size} n node e h i =
        let place : IsScalar s.program a node.kind = record { is = node.left ∙ node.is.is } in
        let c = sem.bare_type s.program s.vars a in
        let found : is_some r ≡ is_pointer c = e ∙ sym (point_of s o t place) in
        let is = stepping s.program s.vars size up c node.kind (kept_type place)
        (λ z. i ∙ none_is r 1 (found ∙ z)) in
        let kinds = sem.step_kind s.program s.vars (sem.kind_at s.program s.vars a) in
        record {
          pos = n.node.pos;
          op = stepping_by s.program s.vars size up c;
          kind = node.kind;
          computed = kinds;
          is = λ g suits. node_tree s o t n
              ∙ ap (λ z. Compound n.node.pos (sem.step_operation s.program s.vars up c) z kinds (not front) (tree s a)
              (Number 1)) (kind_is s o t place)
              ∙ ap (λ z. Compound n.node.pos z (kind_of node.kind) kinds (not front) (tree s a) (Number 1))
              (sym (stepping_is s.program s.vars size up c (λ z.
              let pointed = subst (IsPointed s.program.types (type_at s.program a)) (sym i)
              (given_is (IsPointed s.program.types (type_at s.program a)) r 1 (found ∙ z) h) in
              pointed_is s.program t suits.types a (node.pointed (sym e ∙ (found ∙ z))) pointed)));
          value = node.is;
          place = place;
          steps = is.0;
          paces = is.1;
        }

    module _ {k a : ℕ} {front : Bool} {pace : Pace} (st : Steps s k a front pace) where
      abbrev Work : (i : TacKind) → (old new : Emitter) → (n : Operation → ℕ) → (Operation → TacKind → Code) → Type 0
      Work i old new n code = (o : Operation) → Paces pace i o → Emits old new (n o) (code o i)

      -- the work that is done is that of the node
      done_as : {i : TacKind} {x y : Emitter} (n : Operation → ℕ) (code : Operation → TacKind → Code) →
          i ≡ kind_in s.program a → Work i x y n code → Emits x y (n st.op) (code st.op st.kind)
      done_as {i = i} {x = x} {y = y} n code ik work =
          let same : i ≡ st.kind = ik ∙ scalar_kind st.place in
          subst (λ z. Emits x y (n st.op) (code st.op z)) same
          (work st.op (subst (λ z. Paces pace z st.op) (sym same) st.paces))

      pub steps_variable : (d : FunDef) {v : ℕ} {i : TacKind} (to : Option ℕ) {x y z : Emitter} → d.vars ≡ s.vars
          → ((x : ℕ) → IsNode s.program a (exprs.Var x) → VarNode (frame_of s.program d) a x) →
          IsVariable s.program s.homes a v → i ≡ kind_in s.program a → asks_old (not front) to ≡ false →
          Work i x y stepped_temps (λ o j. stepped o j v v (length x.kinds.items)) → Emits y z 0 (give to v) →
          ShowsAssignment s k to x z
      steps_variable d {v = v} to {x = x} {y = y} {z = z} vars typed found ik asks work last =
          let n = length x.kinds.items in
          let done = done_as stepped_temps (λ o j. stepped o j v v n) ik work in
          record {
            code = λ q. stepped st.op st.kind v v n (give to v q);
            added = added_then done.added last.added;
            keeps = keeps_then x.kinds.items y.kinds.items z.kinds.items done.keeps last.keeps;
            is = λ g kinds suits keeps j own means.
                let q = found.names.node.pos in
                let is = st.is g suits
                ∙ ap (λ u. Compound st.pos st.op (kind_of st.kind) st.computed (not front) u (Number 1))
                (variable_tree d vars found typed g suits) in
                assignment_as g kinds (same_scalar s o t st.value own) is (mark_same last ∙ mark_more done)
                (rule.assignment_stepped_variable {old = not front} {q = st.pos} {s = q}
                (variable_home d vars found typed g suits st.place) st.steps asks
                (done.ints kinds (keeps_then y.kinds.items z.kinds.items kinds last.keeps keeps)));
          }

      pub steps_variable_old : (d : FunDef) {v w : ℕ} {i : TacKind} (to : Option ℕ) (x y e f z : Emitter) →
          d.vars ≡ s.vars
          → ((x : ℕ) → IsNode s.program a (exprs.Var x) → VarNode (frame_of s.program d) a x) →
          IsVariable s.program s.homes a v → i ≡ kind_in s.program a → asks_old (not front) to ≡ true →
          ShowsOwn s to w x y → Emits y e 0 (one (instr.Copy w v)) →
          Work i e f stepped_temps (λ o j. stepped o j v v (length e.kinds.items)) → Emits f z 0 (give to w) →
          ShowsAssignment s k to x z
      steps_variable_old d None x y e f z vars typed found ik asks own copy work last = absurd cc
      steps_variable_old d {v = v} {w = w} (Some to) x y e f z vars typed found ik asks own copy work last =
          let n = length y.kinds.items in
          let same_temps : length e.kinds.items ≡ n = omega (arith, copy.temps) in
          let done = subst (λ u. Emits e f (stepped_temps st.op) (stepped st.op st.kind v v u)) same_temps
          (done_as stepped_temps (λ o j. stepped o j v v (length e.kinds.items)) ik work) in
          let ke = keeps_then e.kinds.items f.kinds.items z.kinds.items done.keeps last.keeps in
          record {
            code = λ q. instr.Copy w v ∷ stepped st.op st.kind v v n (transfer to w q);
            added = added_then own.added (added_then copy.added (added_then done.added last.added));
            keeps = keeps_then x.kinds.items y.kinds.items z.kinds.items own.keeps
                (keeps_then y.kinds.items e.kinds.items z.kinds.items copy.keeps ke);
            is = λ g kinds suits keeps j value means.
                let q = found.names.node.pos in
                let is = st.is g suits
                ∙ ap (λ u. Compound st.pos st.op (kind_of st.kind) st.computed u (tree s a) (Number 1)) asks
                ∙ ap (λ u. Compound st.pos st.op (kind_of st.kind) st.computed true u (Number 1))
                (variable_tree d vars found typed g suits) in
                assignment_as g kinds (same_scalar s o t st.value value) is (mark_same last
                ∙ (mark_more done ∙ ap (more (stepped_temps st.op)) (mark_same copy)))
                (rule.assignment_stepped_variable_old {q = st.pos} {s = q}
                (variable_home d vars found typed g suits st.place) st.steps (own.is g suits.fixed)
                (done.ints kinds (keeps_then f.kinds.items z.kinds.items kinds last.keeps keeps)));
          }

      module _ {up : Bool} (m : IsNode s.program k (exprs.Step a up front)) {at v : ℕ} {i : TacKind} {q q' : Pos}
          (to : Option ℕ) (x y e f h u z : Emitter) (ik : i ≡ kind_in s.program a) (qe : q ≡ pos_in s.program a)
          (qe' : q' ≡ pos_in s.program a) (there : Located s a)
          (p : ShowsPointer s write.Nothing a at x y) (own : ShowsOwn s to v y e)
          (load : Emits e f 0 (one (instr.Load v at i q))) where
        same_kind : i ≡ st.kind
        same_kind = ik ∙ scalar_kind st.place

        load_at : Emits e f 0 (one (instr.Load v at st.kind q))
        load_at = subst (λ z. Emits e f 0 (one (instr.Load v at z q))) same_kind load

        same_temps : length f.kinds.items ≡ length e.kinds.items
        same_temps = omega (arith, load.temps)

        kept_to : Keeps f.kinds.items z.kinds.items → Keeps x.kinds.items z.kinds.items
        kept_to keeps = keeps_then x.kinds.items y.kinds.items z.kinds.items p.keeps
            (keeps_then y.kinds.items e.kinds.items z.kinds.items own.keeps
            (keeps_then e.kinds.items f.kinds.items z.kinds.items load.keeps keeps))

        stands : (g : Scene) → Suits s g → position_in (tree s a) ≡ Some q
        stands g suits = suits.placed k a (record {
          of = exprs.Step a up front;
          names = m;
          place = refl;
          kind = st.kind;
          is = st.place;
        }) ∙ ap Some (sym qe)

        points_to : (g : Scene) (kinds : List TacKind) → Suits s g → Keeps f.kinds.items kinds → Values g (tree s k) →
            IsPointer s.program (signatures s.program) kinds g Nil (tree s a) at (mark x) (mark y) p.code
        points_to g kinds suits keeps means =
            let parts : Places g (tree s a) × Unit {0} = subst (λ u. Values g u) (st.is g suits) means in
            p.is g kinds suits (keeps_then y.kinds.items e.kinds.items kinds own.keeps
            (keeps_then e.kinds.items f.kinds.items kinds load.keeps keeps)) Nil (cover_none write.Nothing) there
            parts.0

        store_at : {w t : ℕ} → w ≡ t → Emits h u 0 (one (instr.Store at w i q')) →
            Emits h u 0 (one (instr.Store at t st.kind q))
        store_at {t = t} we put = subst (λ j. Emits h u 0 (one (instr.Store at t j q))) same_kind
            (subst (λ z. Emits h u 0 (one (instr.Store at t i z))) (qe' ∙ sym qe)
            (subst (λ z. Emits h u 0 (one (instr.Store at z i q'))) we put))

        steps_object : {w : ℕ} → asks_old (not front) to ≡ false → w ≡ v →
            Work i f h stepped_temps (λ o j. stepped o j v v (length f.kinds.items)) →
            Emits h u 0 (one (instr.Store at w i q')) → Emits u z 0 (give to v) → ShowsAssignment s k to x z
        steps_object asks we work put last =
            let n = length e.kinds.items in
            let done = subst (λ u. Emits f h (stepped_temps st.op) (stepped st.op st.kind v v u)) same_temps
            (done_as stepped_temps (λ o j. stepped o j v v (length f.kinds.items)) ik work) in
            let store = store_at we put in
            let kh = keeps_then h.kinds.items u.kinds.items z.kinds.items store.keeps last.keeps in
            let kf = keeps_then f.kinds.items h.kinds.items z.kinds.items done.keeps kh in
            record {
              code = λ r. p.code (instr.Load v at st.kind q
                  ∷ stepped st.op st.kind v v n (instr.Store at v st.kind q ∷ give to v r));
              added = added_then p.added (added_then own.added (added_then load_at.added
                  (added_then done.added (added_then store.added last.added))));
              keeps = kept_to kf;
              is = λ g kinds suits keeps j value means.
                  let in_h = keeps_then h.kinds.items z.kinds.items kinds kh keeps in
                  let pointer = points_to g kinds suits (keeps_then f.kinds.items z.kinds.items kinds kf keeps) means in
                  assignment_as g kinds (same_scalar s o t st.value value) (st.is g suits) (mark_same last
                  ∙ (mark_same store
                  ∙ (mark_more done ∙ ap (more (stepped_temps st.op)) (mark_same load_at))))
                  (rule.assignment_stepped_object {old = not front} {q = st.pos} (stands g suits) st.steps asks pointer
                  (own.is g suits.fixed) (done.ints kinds in_h));
            }

        steps_object_old : {w : ℕ} → asks_old (not front) to ≡ true → w ≡ length f.kinds.items →
            Work i f h (λ o. 1) (λ o j. stepped o j w v w) →
            Emits h u 0 (one (instr.Store at w i q')) → Emits u z 0 (give to v) → ShowsAssignment s k to x z
        steps_object_old {w = w} asks we work put last =
            let n = length e.kinds.items in
            let asked = asked_old (not front) to asks in
            let done = subst (λ u. Emits f h 1 (stepped st.op st.kind u v u)) (we ∙ same_temps)
            (done_as (λ o. 1) (λ o j. stepped o j w v w) ik work) in
            let store = store_at (we ∙ same_temps) put in
            let kh = keeps_then h.kinds.items u.kinds.items z.kinds.items store.keeps last.keeps in
            let kf = keeps_then f.kinds.items h.kinds.items z.kinds.items done.keeps kh in
            let code : Option ℕ → Code = λ b r. p.code (instr.Load v at st.kind q
            ∷ stepped st.op st.kind n v n (instr.Store at n st.kind q ∷ give b v r)) in
            record {
              code = code to;
              added = added_then p.added (added_then own.added (added_then load_at.added
                  (added_then done.added (added_then store.added last.added))));
              keeps = kept_to kf;
              is = λ g kinds suits keeps j value means.
                  let in_h = keeps_then h.kinds.items z.kinds.items kinds kh keeps in
                  let pointer = points_to g kinds suits (keeps_then f.kinds.items z.kinds.items kinds kf keeps) means in
                  let owned = subst (λ b. rule.IsOwn g b v (mark y) (mark e)) asked.1 (own.is g suits.fixed) in
                  let is = st.is g suits
                  ∙ ap (λ b. Compound st.pos st.op (kind_of st.kind) st.computed b (tree s a) (Number 1)) asked.2 in
                  let there = rule.assignment_stepped_object_old {q = st.pos} (stands g suits) st.steps pointer owned
                  (done.ints kinds in_h) in
                  let given = subst (λ b. IsAssignment s.program (signatures s.program) kinds g st.kind
                  (Compound st.pos st.op (kind_of st.kind) st.computed true (tree s a) (Number 1)) b (mark x)
                  (more 1 (mark e)) (code b)) (sym asked.1) there in
                  assignment_as g kinds (same_scalar s o t st.value value) is (mark_same last ∙ (mark_same store
                  ∙ (mark_more done ∙ ap (more 1) (mark_same load_at)))) given;
            }

        pub steps_place : (drops : Bool) {w : ℕ} → asks_old (not front) to ≡ not drops
            → (drops ≡ true → Renews pace (record { temp = v; kind = i }) w f h)
            → (drops ≡ false → RenewsApart pace (record { temp = v; kind = i }) w f h) →
            Emits h u 0 (one (instr.Store at w i q')) → Emits u z 0 (give to v) → ShowsAssignment s k to x z
        steps_place true asks same apart put last = let r = same refl in steps_object asks r.0 r.1 put last
        steps_place false asks same apart put last = let r = apart refl in steps_object_old asks r.0 r.1 put last
