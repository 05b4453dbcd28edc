-- Whose code the lowering of statements adds: that of the trees of a function's statements, where each object whose
-- block is entered has the place that the lowering has for it.
use Rattle.std.specs.Prelude.{◌≡◌, ◌≢◌, ℕ, ◌+◌, ◌<◌, true, List, ◌∷◌, ◌⊎◌, length, map, Option, Some, None}
use Rattle.std.specs.Prelude.{slice_get}
use Rattle.ck_base.specs.declared.positions.Pos.{Pos}
use Rattle.c_tree.specs.WellTyped.{Inside, type_in}
use Rattle.c_tree.specs.declared.typed.Stmt.{Stmt}
use Rattle.c_tree.specs.declared.typed.StmtKind.{StmtKind}
use Rattle.c_tree.specs.declared.typed.StmtKind.TheVariants as stmts
use Rattle.c_tree.specs.declared.typed.Typed.{Typed}
use Rattle.cheri_c_sem.specs.Expressions.{type_of}
use Rattle.cheri_c_sem.specs.Programs.{stmt_tree, statements, declared, test_in, expression_of, initialisation}
use Rattle.cheri_c_sem.specs.Tree.{Declared, St}
use Rattle.cheri_c_sem.specs.Tree.{Sts}
use Rattle.tac_ir.specs.declared.code.TacInstr.TheVariants as instr
use Rattle.tac_ir.specs.declared.code.TacKind.{TacKind}
use Rattle.tac_lower.specs.declared.context.Context.{Context}
use Rattle.tac_lower.specs.declared.context.Home.TheVariants as home
use Rattle.tac_emit.specs.declared.emitter.Emitter.{Emitter}
use Rattle.tac_lower.specs.declared.statements.Exits as lowered
use Rattle.lower_runs.specs.Expressions.{Mark, labelled}
use Rattle.lower_runs.specs.Operating.{Code}
use Rattle.lower_runs.specs.States.{Home, Scene, IsScene}
use Rattle.lower_runs.specs.Statements.{Exits, in_loop, IsEntered, loop_code}
use Rattle.lower_runs.specs.Statements.{IsStatement, IsStatements, IsTest, IsStep}
use Rattle.lower_runs.specs.Trees as trees
use Rattle.lower_runs.specs.Trees.{ValuesIfAny, ValuesTested}
use Rattle.tac_emit.specs.Emitted.{Keeps, Pushed}
use Rattle.tac_lower.specs.Nodes.{kept_as}
use Rattle.tac_lower.specs.Scenes.{given_in}
use Rattle.tac_emit.specs.Adding.{Added, mark}
use Rattle.tac_lower.specs.Tables.{IsSmall, type_at}
use Rattle.tac_lower.specs.Trees.{HasScalar, HasRecord, Setting, setting, tree, Suits}
use Rattle.tac_lower.specs.Trees.{signatures}

-- ---- where statements stand

-- what the lowering of a function's statements reads: also how many of its variables are parameters, and the kind of
-- what it gives
pub record Routine : Type 0 where
  pub setting : Setting
  pub params : ℕ
  pub gives : Option TacKind

abbrev pub routine : Context → Routine
routine cx = record {
  setting = setting cx;
  params = length cx.d.now.params;
  gives = kept_as (given_in (type_in cx.p.now cx.d.now.of));
}

abbrev pub stmt : Setting → ℕ → St
stmt s k = stmt_tree s.program s.vars k

abbrev pub exits_as : lowered.Exits → Exits
exits_as x = record { breaks = x.break_to; continues = x.continue_to }

-- the lowering has a temp for the pointer to an object
abbrev pub Points : Setting → (x n t : ℕ) → Type 0
Points s x n t = slice_get s.homes x ≡ Some (home.Object n t)

-- a statement of this kind
pub record IsStmt (p : Typed) (k : ℕ) (of : StmtKind) : Type 0 where
  pub node : Stmt
  pub there : slice_get p.stmts k ≡ Some node
  pub is : node.kind ≡ of

-- a node has a scalar, or is a struct or union
abbrev pub IsWhole : Typed → ℕ → Type 0
IsWhole p a = HasScalar p a ⊎ HasRecord p a

-- a scene suits, what a variable begins with is whole, and each object has a temp of its own for its pointer, which
-- stands there if its block is entered
pub record Sited (s : Setting) (g : Scene) : Type 0 where
  pub suits : Suits s g
  pub scene : IsScene g
  pub below : (x n t : ℕ) → Points s x n t → t < g.fixed
  pub counted : (x n t : ℕ) → Points s x n t → n < g.objects
  pub own : (x y m n t : ℕ) → Points s x m t → Points s y n t → m ≡ n
  pub one : (x y n t u : ℕ) → Points s x n t → Points s y n u → t ≡ u
  pub apart : (x n t y : ℕ) (h : Home) → Points s x n t → g.home y ≡ Some h → t ≢ h.temp
  pub spots : (n t : ℕ) → g.spot n ≡ Some t → (x : ℕ) × Points s x n t
  pub initial : (k x offset a : ℕ) → IsStmt s.program k (stmts.Init x offset a) → IsWhole s.program a

abbrev pub HasScalarIfAny : Typed → Option ℕ → Type 0
HasScalarIfAny p None = Unit {0}
HasScalarIfAny p (Some k) = HasScalar p k

-- ---- what is known of statements

module _ (r : Routine) where
  -- a block declares no parameter
  abbrev pub AreInner : List Declared → Type 0
  AreInner = trees.AreInner r.setting.vars r.params

  -- expressions are values and places, and jumps stand where they may
  abbrev pub Does : Inside → Scene → St → Type 0
  Does = trees.Does r.setting.vars r.params

  abbrev pub DoAll : Inside → Scene → Sts → Type 0
  DoAll = trees.DoAll r.setting.vars r.params

-- jumps that stand where they may have a place to go to
pub record Leads (i : Inside) (x : Exits) : Type 0 where
  pub breaks : i.breakable ≡ true → (l : ℕ) × (x.breaks ≡ Some l)
  pub continues : i.loop ≡ true → (l : ℕ) × (x.continues ≡ Some l)

-- ---- code of statements

-- Code is added that is the code of something, in each scene with places of objects and whatever temps are made later
pub record States (s : Setting) (old new : Emitter) (Is : Scene → List TacKind → Code → Type 0) : Type 0 where
  pub code : Code
  pub added : Added old new code
  pub keeps : Keeps old.kinds.items new.kinds.items
  pub is : (g : Scene) (kinds : List TacKind) → Sited s g → Keeps new.kinds.items kinds → Is g kinds code

module _ (r : Routine) (g : Scene) (kinds : List TacKind) (m n : Mark) (c : Code) where
  abbrev pub StatementIs : (a : St) (x : Exits) → Type 0
  StatementIs a x = (i : Inside) → Leads i x → Does r i g a →
      IsStatement r.setting.program (signatures r.setting.program) kinds r.gives g x a m n c

  abbrev pub StatementsAre : (ss : Sts) (x : Exits) → Type 0
  StatementsAre ss x = (i : Inside) → Leads i x → DoAll r i g ss →
      IsStatements r.setting.program (signatures r.setting.program) kinds r.gives g x ss m n c

  abbrev pub TestIs : (test : Option ℕ) (label : ℕ) → Type 0
  TestIs test label = let p = r.setting.program in (q : Pos) → HasScalarIfAny p test →
      ValuesTested g (test_in p r.setting.vars q (tree r.setting) test) →
      IsTest p (signatures p) kinds r.gives g (test_in p r.setting.vars q (tree r.setting) test) label m n c

  abbrev pub StepIs : Option ℕ → Type 0
  StepIs step = let p = r.setting.program in ValuesIfAny g (expression_of (tree r.setting) step) →
      IsStep p (signatures p) kinds r.gives g (expression_of (tree r.setting) step) m n c

abbrev pub ShowsStatement : Routine → (k : ℕ) → Exits → (old new : Emitter) → Type 0
ShowsStatement r k x old new =
    States r.setting old new (λ g kinds c. StatementIs r g kinds (mark old) (mark new) c (stmt r.setting k) x)

abbrev pub ShowsStatements : Routine → (ks : List ℕ) → Exits → (old new : Emitter) → Type 0
ShowsStatements r ks x old new = States r.setting old new
    (λ g kinds c. StatementsAre r g kinds (mark old) (mark new) c (statements (stmt r.setting) ks) x)

abbrev pub ShowsTest : Routine → (test : Option ℕ) (label : ℕ) (old new : Emitter) → Type 0
ShowsTest r test label old new =
    States r.setting old new (λ g kinds c. TestIs r g kinds (mark old) (mark new) c test label)

pub record ShowsStep (r : Routine) (step : Option ℕ) (old new : Emitter) : Type 0 where
  pub states : States r.setting old new (λ g kinds c. StepIs r g kinds (mark old) (mark new) c step)
  pub still : step ≡ None → (states.code ≡ (λ q. q)) × (mark new ≡ mark old)

-- the code of the initialisation of a variable, or of a part of an object
abbrev pub ShowsInit : Routine → (x offset a : ℕ) (q : Pos) (old new : Emitter) → Type 0
ShowsInit r x offset a q old new = let p = r.setting.program in States r.setting old new
    (λ g kinds c. (e : Exits) → IsWhole p a → IsSmall p.types (type_at p a) →
    StatementIs r g kinds (mark old) (mark new) c
    (initialisation p r.setting.vars q x offset (type_of (slice_get p.exprs a)) (tree r.setting a)) e)

-- ---- parts of statements

abbrev pub declared_in : Setting → List ℕ → List Declared
declared_in s xs = map (declared s.program s.vars) xs

-- a block is entered by some code, and then there is a place for each of its objects
pub record Enters (s : Setting) (g : Scene) (ds : List Declared) (c : Code) : Type 0 where
  pub inner : Scene
  pub is : IsEntered g ds inner c
  pub sited : Sited s inner

pub record ShowsEntered (r : Routine) (xs : List ℕ) (old new : Emitter) : Type 0 where
  pub code : Code
  pub added : Added old new code
  pub keeps : Keeps old.kinds.items new.kinds.items
  pub temps : length new.kinds.items ≡ length old.kinds.items
  pub labels : new.labels ≡ old.labels
  pub enters : (g : Scene) → Sited r.setting g → AreInner r (declared_in r.setting xs) →
      Enters r.setting g (declared_in r.setting xs) code

-- a block is entered, and then some statements follow
pub record ShowsBlock (r : Routine) (xs ks : List ℕ) (x : Exits) (old new : Emitter) : Type 0 where
  pub entry : Emitter
  pub entered : ShowsEntered r xs old entry
  pub body : ShowsStatements r ks x entry new

-- a jump, if there is a place to go to
pub record ShowsJump (to : Option ℕ) (old new : Emitter) : Type 0 where
  pub code : Code
  pub added : Added old new code
  pub keeps : Keeps old.kinds.items new.kinds.items
  pub leads : (l : ℕ) → to ≡ Some l → (code ≡ (λ q. instr.Jump l ∷ q)) × (mark new ≡ mark old)

-- a statement, and then a label stands
pub record ShowsBehind (r : Routine) (k : ℕ) (x : Exits) (label : ℕ) (old new : Emitter) : Type 0 where
  pub middle : Emitter
  pub body : ShowsStatement r k x old middle
  pub stands : Pushed middle new (instr.Label label)

-- a loop that is tested before its body
pub record ShowsLoop (r : Routine) (test step : Option ℕ) (body : ℕ) (old new : Emitter) : Type 0 where
  pub tested : Code
  pub inner : Code
  pub stepped : Code
  pub before : Mark
  pub behind : Mark
  pub added : Added old new (loop_code old.labels tested inner stepped)
  pub keeps : Keeps old.kinds.items new.kinds.items
  pub test_is : (g : Scene) (kinds : List TacKind) → Sited r.setting g → Keeps new.kinds.items kinds →
      TestIs r g kinds (labelled 3 (mark old)) before tested test (old.labels + 2)
  pub body_is : (g : Scene) (kinds : List TacKind) → Sited r.setting g → Keeps new.kinds.items kinds →
      StatementIs r g kinds before behind inner (stmt r.setting body) (in_loop (old.labels + 2) (old.labels + 1))
  pub step_is : (g : Scene) (kinds : List TacKind) → Sited r.setting g → Keeps new.kinds.items kinds →
      StepIs r g kinds behind (mark new) stepped step
  pub still : step ≡ None → (stepped ≡ (λ q. q)) × (mark new ≡ behind)
