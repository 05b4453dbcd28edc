-- Code is shown to be that of statements, kind by kind.
use Rattle.std.proofs.Common.{◌≡◌, ℕ, ◌+◌, true, false, List, [], ◌∷◌, ◌++◌, length, Option, Some, None, refl, sym}
use Rattle.std.proofs.Common.{ap, ◌∙◌, subst, arith, ◌≤◌}
use Rattle.std.proofs.lemmas.List.Sums.{sum_by-cons}
use Rattle.std.specs.Prelude.{slice_get, ◌⊎◌}
use Rattle.std.proofs.Common.{inl}
use Rattle.c_tree.specs.Views.{IsOrdered}
use Rattle.c_tree.specs.Terms as terms
use Rattle.c_tree.specs.Types as ty
use Rattle.c_tree.specs.Types.{Ty, is_integer}
use Rattle.c_tree.specs.WellTyped.{Inside, Frame}
use Rattle.c_tree.specs.WellTyped as typed
use Rattle.c_tree.specs.declared.typed.StmtKind.{StmtKind}
use Rattle.c_tree.specs.declared.typed.StmtKind.TheVariants as stmts
use Rattle.c_tree.specs.declared.typed.Typed.{Typed}
use Rattle.cheri_c_sem.proofs.Gathered.{trees_of_operands_law}
use Rattle.cheri_c_sem.specs.Order.{Ordered}
use Rattle.cheri_c_sem.specs.Programs.{stmt_tree, stmt_kind_tree, stmt_node_tree, stmt_levels, statements, test_in}
use Rattle.cheri_c_sem.specs.Programs.{expression_of}
use Rattle.cheri_c_sem.specs.Tree.{St, If, Do_while, Break, Continue, Empty, Nil}
use Rattle.tac_ir.specs.declared.code.TacInstr.TheVariants as instr
use Rattle.tac_ir.specs.declared.code.TacKind.{TacKind}
use Rattle.tac_ir.specs.declared.code.TacKind.TheVariants as kind
use Rattle.tac_emit.specs.declared.emitter.Emitter.{Emitter}
use Rattle.tac_lower.specs.declared.statements.Circle.{Circle}
use Rattle.tac_lower.specs.declared.writes.Written.TheVariants as write
use Rattle.lower_runs.specs.States.{Scene}
use Rattle.lower_runs.specs.Operating.{Code}
use Rattle.lower_runs.specs.Expressions.{Mark, labelled, IsCondition}
use Rattle.lower_runs.specs.Statements.{Exits, in_loop, loop_code, repeat_code, IsStatement, IsStatements, evaluated}
use Rattle.lower_runs.specs.Statements.{choice, guarded, looped, repeated, leaves, continues, returns, returns_nothing}
use Rattle.lower_runs.specs.Statements.{returns_value, end, seq, empty, IsTest, tested, untested, stepped}
use Rattle.lower_runs.specs.Statements.{unstepped, block, counted, IsEntered}
use Rattle.lower_runs.specs.Trees.{Places, Values, ValuesIfAny, ValuesTested}
use Rattle.tac_emit.specs.Emitted.{Keeps, Labelled, Forked, Pushed}
use Rattle.tac_emit.specs.Adding.{mark, Added, Emits, one}
use Rattle.tac_lower.specs.Trees.{Setting, tree, signatures, ShowsEffect, ShowsCondition}
use Rattle.tac_lower.specs.Trees.{ShowsOperand}
use Rattle.tac_lower.specs.Nodes.{IsScalar, kept_as, expression}
use Rattle.tac_lower.specs.Parts.{TestFits, statement, heft_in, hefts_in}
use Rattle.tac_lower.specs.Statements.{Begun}
use Rattle.tac_lower.specs.Stating.{Routine, stmt, IsStmt, Does, DoAll, Leads, StatementIs}
use Rattle.tac_lower.specs.Stating.{TestIs, StepIs, ShowsStatement, ShowsStatements, ShowsTest, ShowsStep, ShowsBehind}
use Rattle.tac_lower.specs.Stating.{ShowsLoop, ShowsJump, ShowsEntered, ShowsBlock, AreInner, declared_in}
use Rattle.tac_lower.specs.Stating.{HasScalarIfAny}
use Rattle.tac_lower.specs.Trees.{HasScalar}
use Rattle.tac_emit.proofs.Emitting.{added_then, one_emits}
use Rattle.tac_lower.proofs.Deriving.{mark_same, forked_mark, forked_next, kind_is, cover_none}
use Rattle.tac_lower.proofs.Bodies.{scalar_kept}
use Rattle.tac_lower.proofs.Entering.{hefty}
use Rattle.tac_emit.proofs.Wells.{keeps_same, keeps_then}

labelled_mark : {a b : Emitter} {l : ℕ} → Labelled a b l → mark b ≡ labelled 1 (mark a)
labelled_mark {a = a} {b = b} h = let t : length b.kinds.items ≡ length a.kinds.items = ap length h.kinds in
    λ i. record { temps = t i; labels = h.labels i }

-- of a mark that is equal
module _ (r : Routine) (g : Scene) (kinds : List TacKind) where
  abbrev pub Is : Exits → St → Mark → Mark → Code → Type 0
  Is x a m n c = IsStatement r.setting.program (signatures r.setting.program) kinds r.gives g x a m n c

  pub is_as : {x : Exits} {a z : St} {m n o : Mark} {c : Code} → z ≡ a → o ≡ n → Is x a m n c → Is x z m o c
  is_as {x = x} {a = a} {z = z} {m = m} {n = n} {c = c} t l h =
      subst (λ n. Is x z m n c) (sym l) (subst (λ a. Is x a m n c) (sym t) h)

  pub is_from : {x : Exits} {a : St} {m n o : Mark} {c : Code} → m ≡ o → Is x a m n c → Is x a o n c
  is_from {x = x} {a = a} {n = n} {c = c} e h = subst (λ m. Is x a m n c) e h

-- ---- the begin of a loop

module _ {a b : Emitter} {c : Circle} (h : Begun a b c) where
  begun_kinds : b.kinds.items ≡ a.kinds.items
  begun_kinds = h.others.second.kinds ∙ h.others.first.kinds ∙ h.stands.kinds ∙ h.top.kinds

  begun_next : c.next ≡ a.labels + 1
  begun_next = h.others.first.label ∙ h.stands.labels ∙ h.top.labels

  begun_end : c.end ≡ a.labels + 2
  begun_end = omega (arith, h.others.second.label, h.others.first.labels, h.stands.labels, h.top.labels)

  begun_mark : mark b ≡ labelled 3 (mark a)
  begun_mark = let t : length b.kinds.items ≡ length a.kinds.items = ap length begun_kinds in
      let l : b.labels ≡ a.labels + 3 =
      omega (arith, h.others.second.labels, h.others.first.labels, h.stands.labels, h.top.labels) in
      λ i. record { temps = t i; labels = l i }

  begun_added : Added a b (one (instr.Label c.top))
  begun_added = record {
    is = λ q. ap (λ z. z ++ q) (h.others.second.code ∙ h.others.first.code)
        ∙ (one_emits h.made h.stood (instr.Label c.top) refl h.stands).added.is q
        ∙ ap (λ z. z ++ instr.Label c.top ∷ q) h.top.code;
  }

module _ (r : Routine) (o : Ordered r.setting.program) (t : IsOrdered r.setting.program) where
  abbrev s : Setting
  s = r.setting

  abbrev p : Typed
  p = r.setting.program

  pub stmt_is : {k : ℕ} {of : StmtKind} (n : IsStmt p k of) →
      stmt s k ≡ stmt_kind_tree p s.vars (tree s) (stmt s) n.node.pos of
  stmt_is {k = k} n = (trees_of_operands_law p o s.vars).statements k n.node n.there
      ∙ ap (stmt_kind_tree p s.vars (tree s) (stmt s) n.node.pos) n.is

  -- ---- `if`

  pub states_choice : {k e i j l m : ℕ} {x : Exits} {a b c d f h u : Emitter} → IsStmt p k (stmts.If e i (Some j)) →
      HasScalar p e → Forked a b l m → ShowsCondition s e false l b c → ShowsStatement r i x c d →
      Emits d f 0 (λ q. instr.Jump m ∷ instr.Label l ∷ q) → ShowsStatement r j x f h →
      Pushed h u (instr.Label m) → ShowsStatement r k x a u
  states_choice {e = e} {i = i} {j = j} {l = l} {m = m} {x = x} {a = a} {b = b} {c = c} {d = d} {f = f} {h = h}
      {u = u} n scalar fork test first turn second stands =
      let join = one_emits h u (instr.Label m) refl stands in
      let forked : Added a b (λ q. q) = record { is = λ q. ap (λ z. z ++ q) (fork.second.code ∙ fork.first.code) } in
      let code : (v w : ℕ) → Code = λ v w q. test.code (first.code (instr.Jump w ∷ instr.Label v
      ∷ second.code (instr.Label w ∷ q))) in
      let added : Added a u (code l m) =
      added_then forked (added_then test.added (added_then first.added (added_then turn.added
      (added_then second.added join.added)))) in
      let there : Added a u (code a.labels m) = subst (λ v. Added a u (code v m)) fork.first.label added in
      let is = stmt_is n
      ∙ ap (λ v. If n.node.pos v (tree s e) (stmt s i) (stmt s j)) (kind_is s o t scalar.is) in
      record {
        code = code a.labels (a.labels + 1);
        added = subst (λ w. Added a u (code a.labels w)) (forked_next fork) there;
        keeps = subst (λ z. Keeps z u.kinds.items) (fork.second.kinds ∙ fork.first.kinds)
            (keeps_then b.kinds.items c.kinds.items u.kinds.items test.keeps
            (keeps_then c.kinds.items d.kinds.items u.kinds.items first.keeps
            (keeps_then d.kinds.items f.kinds.items u.kinds.items turn.keeps
            (keeps_then f.kinds.items h.kinds.items u.kinds.items second.keeps join.keeps))));
        is = λ g kinds sited keeps inside leads does.
            let parts : Values g (tree s e) × Does r inside g (stmt s i) × Does r inside g (stmt s j) =
            subst (λ z. Does r inside g z) is does in
            let in_h = keeps_then h.kinds.items u.kinds.items kinds join.keeps keeps in
            let in_f = keeps_then f.kinds.items h.kinds.items kinds second.keeps in_h in
            let in_d = keeps_then d.kinds.items f.kinds.items kinds turn.keeps in_f in
            let in_c = keeps_then c.kinds.items d.kinds.items kinds first.keeps in_d in
            let tested = test.is g kinds sited.suits in_c scalar.kind scalar.is parts.0 in
            let at = subst (λ z. IsCondition p (signatures p) kinds g scalar.kind (tree s e) false z (mark b) (mark c)
            test.code) fork.first.label tested in
            let from = subst (λ z. IsCondition p (signatures p) kinds g scalar.kind (tree s e) false a.labels z
            (mark c) test.code) (forked_mark fork) at in
            let one_way = first.is g kinds sited in_d inside leads parts.1 in
            let other = is_from r g kinds (mark_same turn) (second.is g kinds sited in_h inside leads parts.2) in
            is_as r g kinds is (mark_same join) (choice {l = mark a} from one_way other);
      }

  pub states_guarded : {k e i l : ℕ} {x : Exits} {a b c d u : Emitter} → IsStmt p k (stmts.If e i None) →
      HasScalar p e → Labelled a b l → ShowsCondition s e false l b c → ShowsStatement r i x c d →
      Pushed d u (instr.Label l) → ShowsStatement r k x a u
  states_guarded {e = e} {i = i} {l = l} {x = x} {a = a} {b = b} {c = c} {d = d} {u = u} n scalar label test first
      stands =
      let join = one_emits d u (instr.Label l) refl stands in
      let made : Added a b (λ q. q) = record { is = λ q. ap (λ z. z ++ q) label.code } in
      let code : ℕ → Code = λ v q. test.code (first.code (instr.Label v ∷ q)) in
      let added : Added a u (code l) = added_then made (added_then test.added (added_then first.added join.added)) in
      let is = stmt_is n
      ∙ ap (λ v. If n.node.pos v (tree s e) (stmt s i) Empty) (kind_is s o t scalar.is) in
      record {
        code = code a.labels;
        added = subst (λ v. Added a u (code v)) label.label added;
        keeps = subst (λ z. Keeps z u.kinds.items) label.kinds
            (keeps_then b.kinds.items c.kinds.items u.kinds.items test.keeps
            (keeps_then c.kinds.items d.kinds.items u.kinds.items first.keeps join.keeps));
        is = λ g kinds sited keeps inside leads does.
            let parts : Values g (tree s e) × Does r inside g (stmt s i) × Unit {0} =
            subst (λ z. Does r inside g z) is does in
            let in_d = keeps_then d.kinds.items u.kinds.items kinds join.keeps keeps in
            let in_c = keeps_then c.kinds.items d.kinds.items kinds first.keeps in_d in
            let tested = test.is g kinds sited.suits in_c scalar.kind scalar.is parts.0 in
            let at = subst (λ z. IsCondition p (signatures p) kinds g scalar.kind (tree s e) false z (mark b) (mark c)
            test.code) label.label tested in
            let from = subst (λ z. IsCondition p (signatures p) kinds g scalar.kind (tree s e) false a.labels z
            (mark c) test.code) (labelled_mark label) at in
            let way = first.is g kinds sited in_d inside leads parts.1 in
            is_as r g kinds is (mark_same join) (guarded {l = mark a} from way);
      }

  -- ---- loops

  pub states_loop : {test step : Option ℕ} {k : ℕ} {a b c d f u : Emitter} {q : Circle} → Begun a b q →
      ShowsTest r test q.end b c → ShowsBehind r k (in_loop q.end q.next) q.next c d → ShowsStep r step d f →
      Emits f u 0 (λ v. instr.Turn ∷ instr.Jump q.top ∷ instr.Label q.end ∷ v) → ShowsLoop r test step k a u
  states_loop {test = test} {step = step} {k = k} {a = a} {b = b} {c = c} {d = d} {f = f} {u = u} {q = q} begun tests
      body steps back =
      let e = body.middle in
      let join = one_emits e d (instr.Label q.next) refl body.stands in
      let code : (v w z : ℕ) → Code = λ v w z i. instr.Label v ∷ tests.code (body.body.code (instr.Label w
      ∷ steps.states.code (instr.Turn ∷ instr.Jump v ∷ instr.Label z ∷ i))) in
      let whole : Added a u (code q.top q.next q.end) = added_then (begun_added begun) (added_then tests.added
      (added_then body.body.added (added_then join.added (added_then steps.states.added back.added)))) in
      let one : Added a u (code a.labels q.next q.end) = subst (λ v. Added a u (code v q.next q.end)) begun.top.label
      whole in
      let two : Added a u (code a.labels (a.labels + 1) q.end) = subst (λ v. Added a u (code a.labels v q.end))
      (begun_next begun) one in
      let in_f : (kinds : List TacKind) → Keeps u.kinds.items kinds → Keeps f.kinds.items kinds =
      λ kinds k. keeps_then f.kinds.items u.kinds.items kinds back.keeps k in
      let in_d : (kinds : List TacKind) → Keeps u.kinds.items kinds → Keeps d.kinds.items kinds =
      λ kinds k. keeps_then d.kinds.items f.kinds.items kinds steps.states.keeps (in_f kinds k) in
      let in_e : (kinds : List TacKind) → Keeps u.kinds.items kinds → Keeps e.kinds.items kinds =
      λ kinds k. keeps_then e.kinds.items d.kinds.items kinds join.keeps (in_d kinds k) in
      let in_c : (kinds : List TacKind) → Keeps u.kinds.items kinds → Keeps c.kinds.items kinds =
      λ kinds k. keeps_then c.kinds.items e.kinds.items kinds body.body.keeps (in_e kinds k) in
      let in_b : (kinds : List TacKind) → Keeps u.kinds.items kinds → Keeps b.kinds.items kinds =
      λ kinds k. keeps_then b.kinds.items c.kinds.items kinds tests.keeps (in_c kinds k) in
      record {
        tested = tests.code;
        inner = body.body.code;
        stepped = steps.states.code;
        before = mark c;
        behind = mark e;
        added = subst (λ v. Added a u (code a.labels (a.labels + 1) v)) (begun_end begun) two;
        keeps = subst (λ z. Keeps z u.kinds.items) (begun_kinds begun)
            (in_b u.kinds.items (keeps_same u.kinds.items u.kinds.items refl));
        test_is = λ g kinds sited keeps.
            subst (λ m. TestIs r g kinds m (mark c) tests.code test (a.labels + 2)) (begun_mark begun)
            (subst (λ l. TestIs r g kinds (mark b) (mark c) tests.code test l) (begun_end begun)
            (tests.is g kinds sited (in_c kinds keeps)));
        body_is = λ g kinds sited keeps.
            subst (λ l. StatementIs r g kinds (mark c) (mark e) body.body.code (stmt s k) (in_loop (a.labels + 2) l))
            (begun_next begun)
            (subst (λ l. StatementIs r g kinds (mark c) (mark e) body.body.code (stmt s k) (in_loop l q.next))
            (begun_end begun) (body.body.is g kinds sited (in_e kinds keeps)));
        step_is = λ g kinds sited keeps.
            subst (λ m. StepIs r g kinds (mark e) m steps.states.code step) (sym (mark_same back))
            (subst (λ m. StepIs r g kinds m (mark f) steps.states.code step) (mark_same join)
            (steps.states.is g kinds sited (in_f kinds keeps)));
        still = λ none. let h = steps.still none in (h.0, mark_same back ∙ h.1 ∙ mark_same join);
      }

  -- a loop leads where its own jumps lead
  in_loop_leads : (l m : ℕ) → Leads typed.in_loop (in_loop l m)
  in_loop_leads l m = record { breaks = λ h. (l, refl); continues = λ h. (m, refl) }

  pub states_while : {k e i : ℕ} {x : Exits} {a u : Emitter} → IsStmt p k (stmts.While e i) → HasScalar p e →
      ShowsLoop r (Some e) None i a u → ShowsStatement r k x a u
  states_while {e = e} {i = i} {x = x} {a = a} {u = u} n scalar loop =
      let still = loop.still refl in
      let l = a.labels in
      record {
        code = loop_code l loop.tested loop.inner (λ q. q);
        added = subst (λ d. Added a u (loop_code l loop.tested loop.inner d)) still.0 loop.added;
        keeps = loop.keeps;
        is = λ g kinds sited keeps inside leads does.
            let parts : Values g (tree s e) × Does r typed.in_loop g (stmt s i) =
            subst (λ z. Does r inside g z) (stmt_is n) does in
            is_as r g kinds (stmt_is n) still.1
            (looped {l = mark a} (loop.test_is g kinds sited keeps n.node.pos scalar parts.0)
            (loop.body_is g kinds sited keeps typed.in_loop (in_loop_leads (l + 2) (l + 1)) parts.1));
      }

  pub states_repeated : {k e i : ℕ} {x : Exits} {a b d f u : Emitter} {q : Circle} → IsStmt p k (stmts.Do i e) →
      HasScalar p e → Begun a b q → ShowsBehind r i (in_loop q.end q.next) q.next b d →
      ShowsCondition s e false q.end d f → Emits f u 0 (λ v. instr.Turn ∷ instr.Jump q.top ∷ instr.Label q.end ∷ v) →
      ShowsStatement r k x a u
  states_repeated {e = e} {i = i} {x = x} {a = a} {b = b} {d = d} {f = f} {u = u}
      {q = q} n scalar begun body test back =
      let c = body.middle in
      let l = a.labels in
      let join = one_emits c d (instr.Label q.next) refl body.stands in
      let code : (v w z : ℕ) → Code = λ v w z i. instr.Label v ∷ body.body.code (instr.Label w
      ∷ test.code (instr.Turn ∷ instr.Jump v ∷ instr.Label z ∷ i)) in
      let whole : Added a u (code q.top q.next q.end) = added_then (begun_added begun)
      (added_then body.body.added (added_then join.added (added_then test.added back.added))) in
      let one : Added a u (code l q.next q.end) = subst (λ v. Added a u (code v q.next q.end)) begun.top.label whole in
      let two : Added a u (code l (l + 1) q.end) = subst (λ v. Added a u (code l v q.end)) (begun_next begun) one in
      let is = stmt_is n ∙ ap (λ v. Do_while n.node.pos v (stmt s i) (tree s e)) (kind_is s o t scalar.is) in
      let in_f : (kinds : List TacKind) → Keeps u.kinds.items kinds → Keeps f.kinds.items kinds =
      λ kinds k. keeps_then f.kinds.items u.kinds.items kinds back.keeps k in
      let in_c : (kinds : List TacKind) → Keeps u.kinds.items kinds → Keeps c.kinds.items kinds =
      λ kinds k. keeps_then c.kinds.items d.kinds.items kinds join.keeps
      (keeps_then d.kinds.items f.kinds.items kinds test.keeps (in_f kinds k)) in
      record {
        code = repeat_code l body.body.code test.code;
        added = subst (λ v. Added a u (code l (l + 1) v)) (begun_end begun) two;
        keeps = subst (λ z. Keeps z u.kinds.items) (begun_kinds begun)
            (keeps_then b.kinds.items c.kinds.items u.kinds.items body.body.keeps
            (in_c u.kinds.items (keeps_same u.kinds.items u.kinds.items refl)));
        is = λ g kinds sited keeps inside leads does.
            let parts : Does r typed.in_loop g (stmt s i) × Values g (tree s e) =
            subst (λ z. Does r inside g z) is does in
            let inner = body.body.is g kinds sited (in_c kinds keeps) typed.in_loop (in_loop_leads q.end q.next)
            parts.0 in
            let at = subst (λ v. Is r g kinds (in_loop v q.next) (stmt s i) (mark b) (mark c) body.body.code)
            (begun_end begun) inner in
            let there = subst (λ v. Is r g kinds (in_loop (l + 2) v) (stmt s i) (mark b) (mark c) body.body.code)
            (begun_next begun) at in
            let tested = test.is g kinds sited.suits (in_f kinds keeps) scalar.kind scalar.is parts.1 in
            let to = subst (λ v. IsCondition p (signatures p) kinds g scalar.kind (tree s e) false v (mark d) (mark f)
            test.code) (begun_end begun) tested in
            let from = subst (λ m. IsCondition p (signatures p) kinds g scalar.kind (tree s e) false (l + 2) m (mark f)
            test.code) (mark_same join) to in
            is_as r g kinds is (mark_same back)
            (repeated {l = mark a} (is_from r g kinds (begun_mark begun) there) from);
      }

  -- ---- statements without parts

  pub states_evaluated : {k e : ℕ} {x : Exits} {a u : Emitter} → IsStmt p k (stmts.Expr e) → ShowsEffect s e a u →
      ShowsStatement r k x a u
  states_evaluated {e = e} {x = x} {a = a} {u = u} n effect = record {
    code = effect.code;
    added = effect.added;
    keeps = effect.keeps;
    is = λ g kinds sited keeps inside leads does.
        let means : Values g (tree s e) ⊎ Places g (tree s e) = subst (λ z. Does r inside g z) (stmt_is n) does in
        is_as r g kinds (stmt_is n) refl (evaluated (effect.is g kinds sited.suits keeps means));
  }

  states_empty : (k : ℕ) {x : Exits} {a : Emitter} → stmt s k ≡ Empty → ShowsStatement r k x a a
  states_empty k {a = a} e = record {
    code = λ q. q;
    added = record { is = λ q. refl };
    keeps = keeps_same a.kinds.items a.kinds.items refl;
    is = λ g kinds sited keeps inside leads does. is_as r g kinds e refl empty;
  }

  pub states_nothing : {k : ℕ} {x : Exits} {a : Emitter} → IsStmt p k stmts.Empty → ShowsStatement r k x a a
  states_nothing {k = k} n = states_empty k (stmt_is n)

  none_is : (k : ℕ) → slice_get p.stmts k ≡ None → stmt s k ≡ Empty
  unfolding stmt_tree
  none_is k h = ap (stmt_node_tree p s.vars (tree s) (stmt_levels p s.vars k)) h

  pub states_none : (k : ℕ) {x : Exits} {a : Emitter} → slice_get p.stmts k ≡ None → ShowsStatement r k x a a
  states_none k h = states_empty k (none_is k h)

  pub states_break : {k : ℕ} {x : Exits} {a u : Emitter} → IsStmt p k stmts.Break → ShowsJump x.breaks a u →
      ShowsStatement r k x a u
  states_break {x = x} {a = a} {u = u} n jump = record {
    code = jump.code;
    added = jump.added;
    keeps = jump.keeps;
    is = λ g kinds sited keeps inside leads does.
        let may : inside.breakable ≡ true = subst (λ z. Does r inside g z) (stmt_is n) does in
        let there = leads.breaks may in
        let at = jump.leads there.0 there.1 in
        is_as r g kinds (stmt_is n) at.1
        (subst (λ c. Is r g kinds x Break (mark a) (mark a) c) (sym at.0) (leaves there.1));
  }

  pub states_continue : {k : ℕ} {x : Exits} {a u : Emitter} → IsStmt p k stmts.Continue →
      ShowsJump x.continues a u → ShowsStatement r k x a u
  states_continue {x = x} {a = a} {u = u} n jump = record {
    code = jump.code;
    added = jump.added;
    keeps = jump.keeps;
    is = λ g kinds sited keeps inside leads does.
        let may : inside.loop ≡ true = subst (λ z. Does r inside g z) (stmt_is n) does in
        let there = leads.continues may in
        let at = jump.leads there.0 there.1 in
        is_as r g kinds (stmt_is n) at.1
        (subst (λ c. Is r g kinds x Continue (mark a) (mark a) c) (sym at.0) (continues there.1));
  }

  -- ---- `return`

  pub states_returned : {k : ℕ} {x : Exits} {a u : Emitter} → IsStmt p k (stmts.Return None) → r.gives ≡ None →
      Pushed a u (instr.Return None) → ShowsStatement r k x a u
  states_returned {a = a} {u = u} n gives pushed =
      let leave = one_emits a u (instr.Return None) refl pushed in
      record {
        code = one (instr.Return None);
        added = leave.added;
        keeps = leave.keeps;
        is = λ g kinds sited keeps inside leads does. is_as r g kinds (stmt_is n) (mark_same leave) (returns gives);
      }

  pub states_left : {k e : ℕ} {x : Exits} {a b u : Emitter} → IsStmt p k (stmts.Return (Some e)) → r.gives ≡ None →
      ShowsEffect s e a b → Pushed b u (instr.Return None) → ShowsStatement r k x a u
  states_left {e = e} {a = a} {b = b} {u = u} n gives effect pushed =
      let leave = one_emits b u (instr.Return None) refl pushed in
      record {
        code = λ q. effect.code (instr.Return None ∷ q);
        added = added_then effect.added leave.added;
        keeps = keeps_then a.kinds.items b.kinds.items u.kinds.items effect.keeps leave.keeps;
        is = λ g kinds sited keeps inside leads does.
            let means : Values g (tree s e) = subst (λ z. Does r inside g z) (stmt_is n) does in
            is_as r g kinds (stmt_is n) (mark_same leave) (returns_nothing gives
            (effect.is g kinds sited.suits (keeps_then b.kinds.items u.kinds.items kinds leave.keeps keeps)
            (inl means)));
      }

  pub states_given : {k e v : ℕ} {j : TacKind} {x : Exits} {a b u : Emitter} →
      IsStmt p k (stmts.Return (Some e)) → r.gives ≡ Some j → IsScalar p e j →
      ShowsOperand s write.Nothing e v a b → Pushed b u (instr.Return (Some v)) → ShowsStatement r k x a u
  states_given {e = e} {v = v} {j = j} {a = a} {b = b} {u = u} n gives scalar operand pushed =
      let leave = one_emits b u (instr.Return (Some v)) refl pushed in
      record {
        code = λ q. operand.code (instr.Return (Some v) ∷ q);
        added = added_then operand.added leave.added;
        keeps = keeps_then a.kinds.items b.kinds.items u.kinds.items operand.keeps leave.keeps;
        is = λ g kinds sited keeps inside leads does.
            let means : Values g (tree s e) = subst (λ z. Does r inside g z) (stmt_is n) does in
            is_as r g kinds (stmt_is n) (mark_same leave) (returns_value gives
            (operand.is g kinds sited.suits (keeps_then b.kinds.items u.kinds.items kinds leave.keeps keeps) Nil j
            (cover_none write.Nothing) scalar means));
      }

  -- ---- parts of loops, and jumps

  pub states_tested : {test : Option ℕ} {e l : ℕ} {a u : Emitter} → test ≡ Some e → ShowsCondition s e false l a u →
      ShowsTest r test l a u
  states_tested {e = e} {l = l} {a = a} {u = u} there h = subst (λ z. ShowsTest r z l a u) (sym there) (record {
    code = h.code;
    added = h.added;
    keeps = h.keeps;
    is = λ g kinds sited keeps q scalar means.
        subst (λ k. IsTest p (signatures p) kinds r.gives g (Some (q, k, tree s e)) l (mark a) (mark u) h.code)
        (sym (kind_is s o t scalar.is)) (tested (h.is g kinds sited.suits keeps scalar.kind scalar.is means));
  })

  pub states_untested : {test : Option ℕ} {l : ℕ} {a : Emitter} → test ≡ None → ShowsTest r test l a a
  states_untested {l = l} {a = a} there = subst (λ z. ShowsTest r z l a a) (sym there) (record {
    code = λ q. q;
    added = record { is = λ q. refl };
    keeps = keeps_same a.kinds.items a.kinds.items refl;
    is = λ g kinds sited keeps q scalar means. untested;
  })

  pub states_stepped : {step : Option ℕ} {e : ℕ} {a u : Emitter} → step ≡ Some e → ShowsEffect s e a u →
      ShowsStep r step a u
  states_stepped {e = e} {a = a} {u = u} there h = subst (λ z. ShowsStep r z a u) (sym there) (record {
    states = record {
      code = h.code;
      added = h.added;
      keeps = h.keeps;
      is = λ g kinds sited keeps means. stepped (h.is g kinds sited.suits keeps means);
    };
    still = λ none. absurd cc;
  })

  pub states_unstepped : {step : Option ℕ} {a : Emitter} → step ≡ None → ShowsStep r step a a
  states_unstepped {a = a} there = subst (λ z. ShowsStep r z a a) (sym there) (record {
    states = record {
      code = λ q. q;
      added = record { is = λ q. refl };
      keeps = keeps_same a.kinds.items a.kinds.items refl;
      is = λ g kinds sited keeps means. unstepped;
    };
    still = λ none. (refl, refl);
  })

  -- ---- blocks

  seq_behind : {g : Scene} {kinds : List TacKind} {x : Exits} {l m n : Mark} {c d : Code} (t : ℕ → St)
      (ks : List ℕ) (k : ℕ) → IsStatements p (signatures p) kinds r.gives g x (statements t ks) l m c →
      IsStatement p (signatures p) kinds r.gives g x (t k) m n d →
      IsStatements p (signatures p) kinds r.gives g x (statements t (ks ++ k ∷ [])) l n (λ q. c (d q))
  seq_behind t [] k end h = seq h end
  seq_behind t (j ∷ ks) k (seq f g) h = seq f (seq_behind t ks k g h)

  pub all_both : (i : Inside) (g : Scene) (t : ℕ → St) (ks : List ℕ) (k : ℕ) →
      DoAll r i g (statements t (ks ++ k ∷ [])) → DoAll r i g (statements t ks) × Does r i g (t k)
  all_both i g t [] k h = (tt, h.0)
  all_both i g t (j ∷ ks) k h = let b = all_both i g t ks k h.1 in ((h.0, b.0), b.1)

  pub states_end : (x : Exits) (a : Emitter) → ShowsStatements r [] x a a
  states_end x a = record {
    code = λ q. q;
    added = record { is = λ q. refl };
    keeps = keeps_same a.kinds.items a.kinds.items refl;
    is = λ g kinds sited keeps inside leads does. end;
  }

  pub states_same : (x : Exits) {js ks : List ℕ} {a b : Emitter} → ks ≡ js → ShowsStatements r ks x a b →
      ShowsStatements r js x a b
  states_same x {a = a} {b = b} e h = subst (λ z. ShowsStatements r z x a b) e h

  pub states_seq : (ks : List ℕ) (k : ℕ) {js : List ℕ} {x : Exits} {a b c : Emitter} → js ≡ ks ++ k ∷ [] →
      ShowsStatements r ks x a b → ShowsStatement r k x b c → ShowsStatements r js x a c
  states_seq ks k {x = x} {a = a} {b = b} {c = c} e f h =
      subst (λ z. ShowsStatements r z x a c) (sym e) (record {
        code = λ q. f.code (h.code q);
        added = added_then f.added h.added;
        keeps = keeps_then a.kinds.items b.kinds.items c.kinds.items f.keeps h.keeps;
        is = λ g kinds sited keeps inside leads does.
            let both = all_both inside g (stmt s) ks k does in
            seq_behind (stmt s) ks k
            (f.is g kinds sited (keeps_then b.kinds.items c.kinds.items kinds h.keeps keeps) inside leads both.0)
            (h.is g kinds sited keeps inside leads both.1);
      })

  entered_mark : {xs : List ℕ} {a b : Emitter} → ShowsEntered r xs a b → mark b ≡ mark a
  entered_mark h = λ i. record { temps = h.temps i; labels = h.labels i }

  pub states_block : {xs ks : List ℕ} {k : ℕ} {x : Exits} {a u : Emitter} → IsStmt p k (stmts.Block xs ks) →
      ShowsBlock r xs ks x a u → ShowsStatement r k x a u
  states_block {xs = xs} {ks = ks} {x = x} {a = a} {u = u} n h =
      let b = h.entry in
      record {
        code = λ q. h.entered.code (h.body.code q);
        added = added_then h.entered.added h.body.added;
        keeps = keeps_then a.kinds.items b.kinds.items u.kinds.items h.entered.keeps h.body.keeps;
        is = λ g kinds sited keeps inside leads does.
            let parts : AreInner r (declared_in s xs) × ((i : Scene) (c : Code) →
            IsEntered g (declared_in s xs) i c → DoAll r inside i (statements (stmt s) ks)) =
            subst (λ z. Does r inside g z) (stmt_is n) does in
            let entry = h.entered.enters g sited parts.0 in
            let body = h.body.is entry.inner kinds entry.sited keeps inside leads
            (parts.1 entry.inner h.entered.code entry.is) in
            let from = subst (λ m. IsStatements p (signatures p) kinds r.gives entry.inner x (statements (stmt s) ks) m
            (mark u) h.body.code) (entered_mark h.entered) body in
            is_as r g kinds (stmt_is n) refl (block entry.is from);
      }

  pub states_counted : {xs ks : List ℕ} {test step : Option ℕ} {k e : ℕ} {x : Exits} {a b u : Emitter} →
      IsStmt p k (stmts.For xs ks test step e) → HasScalarIfAny p test → ShowsBlock r xs ks x a b →
      ShowsLoop r test step e b u → ShowsStatement r k x a u
  states_counted {xs = xs} {ks = ks} {test = test} {step = step} {e = e} {x = x} {a = a} {b = b} {u = u} n scalar h
      loop =
      let l = b.labels in
      let c = h.entry in
      record {
        code = λ q. h.entered.code (h.body.code (loop_code l loop.tested loop.inner loop.stepped q));
        added = added_then h.entered.added (added_then h.body.added loop.added);
        keeps = keeps_then a.kinds.items c.kinds.items u.kinds.items h.entered.keeps
            (keeps_then c.kinds.items b.kinds.items u.kinds.items h.body.keeps loop.keeps);
        is = λ g kinds sited keeps inside leads does.
            let q = n.node.pos in
            let tests = test_in p s.vars q (tree s) test in
            let steps = expression_of (tree s) step in
            let parts : AreInner r (declared_in s xs) × ((i : Scene) (c : Code) →
            IsEntered g (declared_in s xs) i c → DoAll r inside i (statements (stmt s) ks) ×
            ValuesTested i tests × ValuesIfAny i steps × Does r typed.in_loop i (stmt s e)) =
            subst (λ z. Does r inside g z) (stmt_is n) does in
            let entry = h.entered.enters g sited parts.0 in
            let i = entry.inner in
            let all = parts.1 i h.entered.code entry.is in
            let body = h.body.is i kinds entry.sited (keeps_then b.kinds.items u.kinds.items kinds loop.keeps keeps)
            inside leads all.0 in
            let from = subst (λ m. IsStatements p (signatures p) kinds r.gives i x (statements (stmt s) ks) m
            (mark b) h.body.code) (entered_mark h.entered) body in
            is_as r g kinds (stmt_is n) refl (counted {l = mark b} entry.is from
            (loop.test_is i kinds entry.sited keeps q scalar all.1)
            (loop.body_is i kinds entry.sited keeps typed.in_loop (in_loop_leads (l + 2) (l + 1)) all.3)
            (loop.step_is i kinds entry.sited keeps all.2));
      }

pub jumps_out : {to : Option ℕ} {l : ℕ} {a u : Emitter} → to ≡ Some l → Emits a u 0 (one (instr.Jump l)) →
    ShowsJump to a u
jumps_out {l = l} {a = a} {u = u} there h = subst (λ z. ShowsJump z a u) (sym there) (record {
  code = one (instr.Jump l);
  added = h.added;
  keeps = h.keeps;
  leads = λ m e. let q : Some l ≡ Some m = e in
      let same : l ≡ m = cc in (ap (λ z. one (instr.Jump z)) same, mark_same h);
})

pub stays : {to : Option ℕ} (a : Emitter) → to ≡ None → ShowsJump to a a
stays a there = subst (λ z. ShowsJump z a a) (sym there) (record {
  code = λ q. q;
  added = record { is = λ q. refl };
  keeps = keeps_same a.kinds.items a.kinds.items refl;
  leads = λ m e. absurd cc;
})

-- a test has a scalar
pub test_scalar : {f : Frame} {k : ℕ} → TestFits f k → HasScalar f.program k
test_scalar {f = f} {k = k} h = let q = scalar_kept (terms.type_of (expression f.program k)) h.scalar in
    record { kind = q.0; is = record { is = q.1 } }

pub test_scalar_if_any : {f : Frame} (k : Option ℕ) → ((j : ℕ) → k ≡ Some j → TestFits f j) → HasScalarIfAny f.program k
test_scalar_if_any None h = tt
test_scalar_if_any (Some j) h = test_scalar (h j refl)

-- the value of a `switch` is an integer
integer_kept : (t : Ty) → is_integer t ≡ true → (j : TacKind) × (kept_as t ≡ Some j)
integer_kept (ty.Int j n) h = (kind.Int j, refl)
integer_kept (ty.Cap s) h = (kind.Cap s, refl)
integer_kept t h = absurd cc

pub integer_scalar : {p : Typed} {k : ℕ} → is_integer (terms.type_of (expression p k)) ≡ true → HasScalar p k
integer_scalar {p = p} {k = k} h = let q = integer_kept (terms.type_of (expression p k)) h in
    record { kind = q.0; is = record { is = q.1 } }

-- each statement weighs 1 at least
pub fewer_statements : (p : Typed) (ks : List ℕ) → length ks ≤ hefts_in p ks
fewer_statements p [] = omega arith
fewer_statements p (k ∷ ks) =
    omega (arith, hefty (statement p k), fewer_statements p ks, sum_by-cons (λ k. heft_in p k) k ks)
