-- All code that the relation makes of statements does what they mean, by induction on how it is made.
use Rattle.std.proofs.Common.{◌≡◌, ℕ, ◌+◌, ◌≤◌, Bool, false, List, Option, Some, refl, sym, subst, ◌∙◌, arith}
use Rattle.std.specs.Prelude.{slice_get}
use Rattle.ck_base.specs.World.{World, GivesBytes}
use Rattle.ck_base.specs.declared.positions.Pos.{Pos}
use Rattle.c_tree.specs.declared.typed.Typed.{Typed}
use Rattle.obj_mem.specs.Values.{Value}
use Rattle.cheri_c_sem.specs.Kinds.{Kind}
use Rattle.cheri_c_sem.specs.Modes.{Store}
use Rattle.cheri_c_sem.specs.Operations.{Operations}
use Rattle.cheri_c_sem.specs.Steps.{Then}
use Rattle.cheri_c_sem.specs.Tree.{Ex, Nil, Declared, Label, St, Sts}
use Rattle.tac_ir.specs.Meaning.{Running, kinds_of}
use Rattle.tac_ir.specs.declared.code.Tac.{Tac}
use Rattle.tac_ir.specs.declared.code.TacKind.{TacKind}
use Rattle.lower_runs.specs.States.{Scene, IsScene, IsPlaced}
use Rattle.lower_runs.specs.Operating.{Code}
use Rattle.lower_runs.specs.Expressions.{Mark, Signature, Within, more, labelled, IsOperand, IsEffect, IsCondition}
use Rattle.lower_runs.specs.Statements as rule
use Rattle.lower_runs.specs.Statements.{Exits, in_loop, with_spot, IsEntered, IsTest, IsStep, IsStatement, IsStatements}
use Rattle.lower_runs.specs.Statements.{IsBody, in_switch, count_labels}
use Rattle.lower_runs.specs.Simulation.{OperandRuns, EffectRuns, ConditionRuns}
use Rattle.lower_runs.specs.Following.{StatementRuns, StatementsRun, TestRuns, StepRuns, EnterRuns, BodyRuns}
use Rattle.lower_runs.specs.StatementLaws.{StatementRules, BlockRules, LoopRules}
use Rattle.lower_runs.specs.Calling.{CallsRun}
use Rattle.lower_runs.specs.Result.{StatementsAreRun}
use Rattle.lower_runs.proofs.Switches.{body_end, body_among}
use Rattle.lower_runs.proofs.Switched.{switch_statement}
use Rattle.lower_runs.proofs.GatheredStatements.{statements_law, blocks_law, loops_law}
use Rattle.lower_runs.proofs.Induction.{value_ok, operand_ok, effect_ok, condition_ok, copy_ok}

entered_limit : (g h : Scene) (ds : List Declared) (c : Code) → IsEntered g ds h c → h.limit ≡ g.limit
entered_limit g h ds c (rule.nothing {g = i}) = refl
entered_limit g h ds c (rule.simple {g = i} {h = j} {ds = es} {c = d} home rest) = entered_limit i j es d rest
entered_limit g h ds c (rule.whole {g = i} {h = j} {n = n} {t = t} {ds = es} {c = d} scene same rest) =
    entered_limit (with_spot n t i) j es d rest

module _ (ops : Operations Store) (placed : IsPlaced ops) (world : World) (all : Tac) (p : Typed)
    (objects : ℕ → List ℕ) (running : Running) (call : ℕ → List Value → Then Store Value) (signs : ℕ → Signature)
    (result : Option TacKind) (bytes : GivesBytes world) (limit : ℕ)
    (calls : CallsRun ops world all p objects call signs limit) where
  abbrev temps : List TacKind
  temps = kinds_of (slice_get all.funs running.fun)

  abbrev Statement_runs : (g : Scene) (x : Exits) (a : St) (m n : Mark) (c : Code) → Type 0
  Statement_runs = StatementRuns ops world all p objects running call result

  abbrev Statements_run : (g : Scene) (x : Exits) (ss : Sts) (m n : Mark) (c : Code) → Type 0
  Statements_run = StatementsRun ops world all p objects running call result

  rules : StatementRules ops world all p objects running call result
  rules = statements_law ops placed world all p objects running call result

  blocks : BlockRules ops world all p objects running call result
  blocks = blocks_law ops placed world all p objects running call result

  loops : LoopRules ops world all p objects running call result
  loops = loops_law ops placed world all p objects running call result

  -- ---- expressions, in a scene with the bound of turns

  calls_in : (g : Scene) → g.limit ≡ limit → CallsRun ops world all p objects call signs g.limit
  calls_in g e = subst (CallsRun ops world all p objects call signs) (sym e) calls

  effect_in : (g : Scene) → IsScene g → g.limit ≡ limit → (e : Ex) (m n : Mark) (c : Code) →
      IsEffect p signs temps g e m n c → EffectRuns ops world all p objects running call g e m n c
  effect_in g scene same e m n c h =
      effect_ok ops placed world all p objects running call signs g scene bytes (calls_in g same) e m n c h

  operand_in : (g : Scene) → IsScene g → g.limit ≡ limit → (k : TacKind) (e : Ex) (at : ℕ) (m n : Mark) (c : Code) →
      IsOperand p signs temps g Nil k e at m n c → OperandRuns ops world all p objects running call g Nil k e at m n c
  operand_in g scene same k e at m n c h =
      operand_ok ops placed world all p objects running call signs g scene bytes (calls_in g same) Nil k e at m n c h

  condition_in : (g : Scene) → IsScene g → g.limit ≡ limit → (k : TacKind) (e : Ex) (when : Bool) (label : ℕ)
      (m n : Mark) (c : Code) → IsCondition p signs temps g k e when label m n c →
      ConditionRuns ops world all p objects running call g k e when label m n c
  condition_in g scene same k e when label m n c h =
      condition_ok ops placed world all p objects running call signs g scene bytes (calls_in g same) k e when label m n
      c h

  entered : (g h : Scene) (ds : List Declared) (c : Code) → IsScene g → IsEntered g ds h c →
      EnterRuns ops world all p objects running call result g ds h c
  entered g h ds c scene (rule.nothing {g = i}) = blocks.none i scene
  entered g h ds c scene (rule.simple {g = i} {h = j} {x = x} {t = t} {k = k} {ds = es} {c = d} home rest) =
      blocks.simple i j scene x t k es d home (entered i j es d scene rest)
  entered g h ds c scene (rule.whole {g = i} {h = j} {n = n} {t = t} {ds = es} {c = d} inner same rest) =
      blocks.object i j n t es d scene inner same (entered (with_spot n t i) j es d inner rest)

  test_in : (g : Scene) → IsScene g → g.limit ≡ limit → (o : Option (Pos × Kind × Ex)) (label : ℕ) (m n : Mark)
      (c : Code) → IsTest p signs temps result g o label m n c →
      TestRuns ops world all p objects running call result g o label m n c
  test_in g scene same o label m n c (rule.untested {label = l} {m = i}) = loops.no_test g l i
  test_in g scene same o label m n c (rule.tested {q = q} {j = j} {e = e} {label = l} {m = i} {n = k} {c = d} h) =
      loops.some_test g q j e l i k d (condition_in g scene same j e false l i k d h)

  step_in : (g : Scene) → IsScene g → g.limit ≡ limit → (o : Option Ex) (m n : Mark) (c : Code) →
      IsStep p signs temps result g o m n c → StepRuns ops world all p objects running call result g o m n c
  step_in g scene same o m n c (rule.unstepped {m = i}) = loops.no_step g i
  step_in g scene same o m n c (rule.stepped {e = e} {m = i} {n = k} {c = d} h) =
      loops.some_step g e i k d (effect_in g scene same e i k d h)

  -- ---- statements

  mutual
    pub statement_ok : (g : Scene) → IsScene g → g.limit ≡ limit → (x : Exits) (a : St) (m n : Mark) (c : Code) →
        IsStatement p signs temps result g x a m n c → Statement_runs g x a m n c
    statement_ok g scene same i0 i1 i2 i3 i4 (rule.evaluated {x = x} {e = e} {m = m} {n = n} {c = c} h) =
        rules.evaluated g x e m n c (effect_in g scene same e m n c h)
    statement_ok g scene same i0 i1 i2 i3 i4 (rule.variable {x = x} {v = v} {t = t} {k = k} {e = e} {m = m} {n = n}
        {c = c} home h) = rules.variable g scene x v t k e m n c home
        (value_ok ops placed world all p objects running call signs g scene bytes (calls_in g same) k e t m n c h)
    statement_ok g scene same i0 i1 i2 i3 i4 (rule.object {x = x} {o = o} {base = base} {v = v} {offset = offset}
        {k = k} {e = e} {q = q} {m = m} {n = n} {c = c} spot h) =
        rules.object g scene x q o base offset v k e m n c spot (operand_in g scene same k e v m n c h)
    statement_ok g scene same i0 i1 i2 i3 i4 (rule.struct {x = x} {o = o} {base = base} {offset = offset}
        {bytes = size} {unit = unit} {e = e} {q = q} {m = m} {n = n} {c = c} spot h) =
        rules.struct g scene x q o base offset size unit e m n c spot
        (copy_ok ops placed world all p objects running call signs g scene bytes (calls_in g same)
        (Within base offset) q
        size unit e m n c h)
    statement_ok g scene same i0 i1 i2 i3 i4 (rule.block {h = j} {x = x} {ds = ds} {ss = ss} {m = m} {n = n}
        {c = c} {d = d} enter h) =
        let in_block = entered g j ds c scene enter in
        rules.block g j x ds ss m n c d in_block
        (statements_ok j in_block.scene (entered_limit g j ds c enter ∙ same) x ss m n d h)
    statement_ok g scene same i0 i1 i2 i3 i4 (rule.choice {x = x} {j = j} {e = e} {a = a} {b = b} {q = q} {l = l}
        {m = m} {n = n} {o = o} {c = c} {d = d} {f = f} test one two) =
        rules.choice g x q j e a b l m n o c d f (condition_in g scene same j e false l.labels (labelled 2 l) m c test)
        (statement_ok g scene same x a m n d one)
        (statement_ok g scene same x b n o f two)
    statement_ok g scene same i0 i1 i2 i3 i4 (rule.guarded {x = x} {j = j} {e = e} {a = a} {q = q} {l = l} {m = m}
        {n = n} {c = c} {d = d} test h) =
        rules.guarded g x q j e a a l m n c d (condition_in g scene same j e false l.labels (labelled 1 l) m c test)
        (statement_ok g scene same x a m n d h)
    statement_ok g scene same i0 i1 i2 i3 i4 (rule.looped {x = x} {k = k} {e = e} {b = b} {q = q} {l = l} {m = m}
        {n = n} {c = c} {d = d} test h) =
        loops.looped g x k e b q l m n c d
        (test_in g scene same (Some (q, k, e)) (l.labels + 2) (labelled 3 l) m c test)
        (statement_ok g scene same (in_loop (l.labels + 2) (l.labels + 1)) b m n d h)
    statement_ok g scene same i0 i1 i2 i3 i4 (rule.repeated {x = x} {j = j} {e = e} {b = b} {q = q} {l = l} {m = m}
        {n = n} {c = c} {d = d} h test) =
        loops.repeated g x q j e b l m n c d
        (statement_ok g scene same (in_loop (l.labels + 2) (l.labels + 1)) b (labelled 3 l) m d h)
        (condition_in g scene same j e false (l.labels + 2) m n c test)
    statement_ok g scene same i0 i1 i2 i3 i4 (rule.counted {h = y} {x = x} {ds = ds} {first = first} {test = test}
        {step = step} {b = b} {k = k} {l = l} {m = m} {n = n} {o = o} {a = a} {c = c} {d = d} {f = f}
        {i = i} enter begin
        until h onward) =
        let in_block = entered g y ds a scene enter in
        let bound = entered_limit g y ds a enter ∙ same in
        loops.counted g y x ds first test step b k l m n o a c d f i in_block
        (statements_ok y in_block.scene bound x first k l i
        begin) (test_in y in_block.scene bound test (l.labels + 2) (labelled 3 l) m c until)
        (statement_ok y in_block.scene bound (in_loop (l.labels + 2) (l.labels + 1)) b m n d
        h) (step_in y in_block.scene bound step n o f onward)
    statement_ok g scene same i0 i1 i2 i3 i4 (rule.switched {h = y} {x = x} {j = j} {e = e} {ds = ds} {ls = ls}
        {ss = ss} {v = v} {q = q} {l = l} {m = m} {n = n} {a = a} {c = c} {d = d} operand enter beside test once among
        body) =
        let in_block = entered g y ds a scene enter in
        switch_statement ops placed world all p objects running call result g y scene x j e ds ls ss v q l m n a c d
        (operand_in g scene same j e v l m c operand) in_block beside test once among
        (body_ok y in_block.scene (entered_limit g y ds a enter ∙ same) (in_switch m.labels x) (m.labels + 1) ls 0 ss
        (labelled (1 + count_labels ls) (more 2 m)) n d (omega arith) body)
    statement_ok g scene same i0 i1 i2 i3 i4 (rule.leaves {x = x} {l = l} {m = m} e) = rules.leaves g x l m e
    statement_ok g scene same i0 i1 i2 i3 i4 (rule.continues {x = x} {l = l} {m = m} e) =
        rules.continues g x l m e
    statement_ok g scene same i0 i1 i2 i3 i4 (rule.returns {x = x} {m = m} e) = rules.returns g x m e
    statement_ok g scene same i0 i1 i2 i3 i4 (rule.returns_nothing {x = x} {e = e} {m = m} {n = n} {c = c} void h) =
        rules.returns_nothing g x e m n c void (effect_in g scene same e m n c h)
    statement_ok g scene same i0 i1 i2 i3 i4 (rule.returns_value {x = x} {k = k} {e = e} {v = v} {m = m} {n = n}
        {c = c} gives h) = rules.returns_value g scene x k e v m n c gives (operand_in g scene same k e v m n c h)
    statement_ok g scene same i0 i1 i2 i3 i4 (rule.empty {x = x} {m = m}) = rules.empty g x m

    pub statements_ok : (g : Scene) → IsScene g → g.limit ≡ limit → (x : Exits) (ss : Sts) (m n : Mark) (c : Code) →
        IsStatements p signs temps result g x ss m n c → Statements_run g x ss m n c
    statements_ok g scene same i0 i1 i2 i3 i4 (rule.end {x = x} {m = m}) = rules.end g x m
    statements_ok g scene same i0 i1 i2 i3 i4 (rule.seq {x = x} {a = a} {ss = ss} {l = l} {m = m} {n = n} {c = c}
        {d = d} one more) =
        rules.seq g x a ss l m n c d
        (statement_ok g scene same x a l m c one)
        (statements_ok g scene same x ss m n d more)

    pub body_ok : (g : Scene) → IsScene g → g.limit ≡ limit → (x : Exits) (label : ℕ) (ls : List Label) (number : ℕ)
        (ss : Sts) (m n : Mark) (c : Code) → label + count_labels ls ≤ m.labels →
        IsBody p signs temps result g x label ls number ss m n c →
        BodyRuns ops world all p objects running call result g x label ls number ss m n c
    body_ok g scene same i0 i1 i2 i3 i4 i5 i6 i7 low (rule.behind {x = x} {label = label} {number = number} {ls = ls}
        {m = m}) = body_end ops placed world all p objects running call result g x label number ls m
    body_ok g scene same i0 i1 i2 i3 i4 i5 i6 i7 low (rule.among {x = x} {label = label} {number = number} {ls = ls}
        {a = a} {ss = ss} {l = l} {m = m} {n = n} {c = c} {d = d} one rest) =
        let first = statement_ok g scene same x a l m c one in
        body_among ops placed world all p objects running call result g x label number ls a ss l m n c d low first
        (body_ok g scene same x label ls (number + 1) ss m n d (let le = first.piece.labels in omega arith) rest)

pub statements_are_run : StatementsAreRun
statements_are_run ops placed w t p objects r call signs result g scene bytes calls x a m n c h =
    statement_ok ops placed w t p objects r call signs result bytes g.limit calls g scene refl x a m n c h
