-- The laws of statements, for each rule of the relation.
use Rattle.std.specs.Prelude.{◌≡◌, ℕ, ◌+◌, ◌≤◌, ◌<◌, length, slice_index_or, Bool, true, false, List, [], ◌∷◌, Option}
use Rattle.std.specs.Prelude.{Some, None}
use Rattle.ck_base.specs.World.{World}
use Rattle.ck_base.specs.declared.positions.Pos.{Pos}
use Rattle.c_tree.specs.declared.typed.Typed.{Typed}
use Rattle.obj_mem.specs.Values.{Value}
use Rattle.cheri_c_sem.specs.Expressions.{fits}
use Rattle.cheri_c_sem.specs.Kinds.{Kind}
use Rattle.cheri_c_sem.specs.Modes.{Store}
use Rattle.cheri_c_sem.specs.Operations.{Operations}
use Rattle.cheri_c_sem.specs.Steps.{Then}
use Rattle.cheri_c_sem.specs.Tree.{Ex, Exs, Nil, Cons, Pointer_to, Function, Call, Declared, Label, Simple, Objects, St}
use Rattle.cheri_c_sem.specs.Tree.{Do}
use Rattle.cheri_c_sem.specs.Tree.{Give, Init, Fill, Block, If, While, Do_while, For, Break, Continue, Return, Empty}
use Rattle.cheri_c_sem.specs.Tree.{Sts}
use Rattle.cheri_c_sem.specs.Tree.{End, Seq}
use Rattle.tac_ir.specs.Effects.{kind_of}
use Rattle.tac_ir.specs.Meaning.{Running}
use Rattle.tac_ir.specs.declared.code.Tac.{Tac}
use Rattle.tac_ir.specs.declared.code.TacInstr.TheVariants as instr
use Rattle.tac_ir.specs.declared.code.TacKind.{TacKind}
use Rattle.lower_runs.specs.States.{Scene, IsScene, IsPlaced}
use Rattle.lower_runs.specs.Operating.{Code}
use Rattle.lower_runs.specs.Expressions.{Mark, Signature, pointer_kind, labelled, choice_code, guarded_code, within}
use Rattle.lower_runs.specs.Expressions.{within_temp, within_mark, Within}
use Rattle.lower_runs.specs.Statements.{Exits, stand_code, count_labels, in_loop, with_spot, loop_code, repeat_code}
use Rattle.lower_runs.specs.Simulation.{ValueRuns, OperandRuns, EffectRuns, ConditionRuns, CopyRuns}
use Rattle.lower_runs.specs.Calling.{CallsRun, ArgumentsRun, CallRuns, IsAsked}
use Rattle.lower_runs.specs.Following.{StatementRuns, StatementsRun, TestRuns, StepRuns, EnterRuns, BodyRuns}

-- A law of statements holds over all operations that answer as those under a map do, in every world, in each function
-- of any code, whatever calls do, and whatever the function gives
abbrev pub InEachFunction :
    ((ops : Operations Store) → World → Tac → Typed → (ℕ → List ℕ) → Running → (ℕ → List Value → Then Store Value) →
    Option TacKind → Type 0) → Type 0
InEachFunction law =
    (ops : Operations Store) → IsPlaced ops →
    (w : World) (t : Tac) (p : Typed) (objects : ℕ → List ℕ) (r : Running)
    (call : ℕ → List Value → Then Store Value) (result : Option TacKind) → law ops w t p objects r call result

module _ (ops : Operations Store) (w : World) (t : Tac) (p : Typed) (objects : ℕ → List ℕ) (r : Running)
    (call : ℕ → List Value → Then Store Value) (result : Option TacKind) where
  abbrev Statement_runs : (g : Scene) (x : Exits) (a : St) (m n : Mark) (c : Code) → Type 0
  Statement_runs = StatementRuns ops w t p objects r call result

  abbrev Statements_run : (g : Scene) (x : Exits) (ss : Sts) (m n : Mark) (c : Code) → Type 0
  Statements_run = StatementsRun ops w t p objects r call result

  abbrev Test_runs : (g : Scene) (o : Option (Pos × Kind × Ex)) (label : ℕ) (m n : Mark) (c : Code) → Type 0
  Test_runs = TestRuns ops w t p objects r call result

  abbrev Step_runs : (g : Scene) (o : Option Ex) (m n : Mark) (c : Code) → Type 0
  Step_runs = StepRuns ops w t p objects r call result

  abbrev Enter_runs : (g : Scene) (ds : List Declared) (h : Scene) (c : Code) → Type 0
  Enter_runs = EnterRuns ops w t p objects r call result

  abbrev Effect_runs : (g : Scene) (e : Ex) (m n : Mark) (c : Code) → Type 0
  Effect_runs = EffectRuns ops w t p objects r call

  abbrev Condition_runs : (g : Scene) (k : TacKind) (e : Ex) (when : Bool) (label : ℕ) (m n : Mark) (c : Code) → Type 0
  Condition_runs = ConditionRuns ops w t p objects r call

  abbrev Operand_runs : (g : Scene) (k : TacKind) (e : Ex) (at : ℕ) (m n : Mark) (c : Code) → Type 0
  Operand_runs g = OperandRuns ops w t p objects r call g Nil

  -- `statement` and `statements`, without loops
  pub record StatementRules : Type 0 where
    pub end : (g : Scene) (x : Exits) (m : Mark) → Statements_run g x End m m (λ rest. rest)
    pub seq : (g : Scene) (x : Exits) (a : St) (ss : Sts) (l m n : Mark) (c d : Code) → Statement_runs g x a l m c →
        Statements_run g x ss m n d → Statements_run g x (Seq a ss) l n (λ rest. c (d rest))
    pub evaluated : (g : Scene) (x : Exits) (e : Ex) (m n : Mark) (c : Code) → Effect_runs g e m n c →
        Statement_runs g x (Do e) m n c
    pub variable : (g : Scene) → IsScene g → (x : Exits) (v at : ℕ) (k : TacKind) (e : Ex) (m n : Mark) (c : Code) →
        g.home v ≡ Some (record { temp = at; kind = k }) → ValueRuns ops w t p objects r call g k e at m n c →
        Statement_runs g x (Give v e) m n c
    pub object : (g : Scene) → IsScene g →
        (x : Exits) (q : Pos) (o base offset from : ℕ) (k : TacKind) (e : Ex) (m n : Mark) (c : Code) →
        g.spot o ≡ Some base → Operand_runs g k e from m n c
        → Statement_runs g x (Init q o offset (kind_of k) e) m (within_mark offset n)
        (λ rest. c (within base offset n (instr.Store (within_temp base offset n) from k q ∷ rest)))
    pub struct : (g : Scene) → IsScene g → (x : Exits) (q : Pos) (o base offset bytes unit : ℕ) (e : Ex) (m n : Mark)
        (c : Code) → g.spot o ≡ Some base →
        CopyRuns ops w t p objects r call g (Within base offset) q bytes unit e m n c
        → Statement_runs g x (Fill q o offset bytes unit e) m n c
    pub block : (g h : Scene) (x : Exits) (ds : List Declared) (ss : Sts) (m n : Mark) (c d : Code) →
        Enter_runs g ds h c → Statements_run h x ss m n d → Statement_runs g x (Block ds ss) m n (λ rest. c (d rest))
    pub choice : (g : Scene) (x : Exits) (q : Pos) (j : TacKind) (e : Ex) (a b : St) (l m n o : Mark) (c d f : Code) →
        Condition_runs g j e false l.labels (labelled 2 l) m c → Statement_runs g x a m n d → Statement_runs g x b n o f
        → Statement_runs g x (If q (kind_of j) e a b) l o (choice_code l.labels c d f)
    pub guarded : (g : Scene) (x : Exits) (q : Pos) (j : TacKind) (e : Ex) (a b : St) (l m n : Mark) (c d : Code) →
        Condition_runs g j e false l.labels (labelled 1 l) m c → Statement_runs g x a m n d →
        Statement_runs g x (If q (kind_of j) e a Empty) l n (guarded_code l.labels c d)
    pub leaves : (g : Scene) (x : Exits) (b : ℕ) (m : Mark) → x.breaks ≡ Some b →
        Statement_runs g x Break m m (λ rest. instr.Jump b ∷ rest)
    pub continues : (g : Scene) (x : Exits) (b : ℕ) (m : Mark) → x.continues ≡ Some b →
        Statement_runs g x Continue m m (λ rest. instr.Jump b ∷ rest)
    pub returns : (g : Scene) (x : Exits) (m : Mark) → result ≡ None →
        Statement_runs g x (Return None) m m (λ rest. instr.Return None ∷ rest)
    pub returns_nothing : (g : Scene) (x : Exits) (e : Ex) (m n : Mark) (c : Code) → result ≡ None →
        Effect_runs g e m n c → Statement_runs g x (Return (Some e)) m n (λ rest. c (instr.Return None ∷ rest))
    pub returns_value : (g : Scene) → IsScene g → (x : Exits) (k : TacKind) (e : Ex) (at : ℕ) (m n : Mark) (c : Code) →
        result ≡ Some k → Operand_runs g k e at m n c →
        Statement_runs g x (Return (Some e)) m n (λ rest. c (instr.Return (Some at) ∷ rest))
    pub empty : (g : Scene) (x : Exits) (m : Mark) → Statement_runs g x Empty m m (λ rest. rest)

  -- the body of a `switch`
  pub record BodyRules : Type 0 where
    pub last : (g : Scene) (x : Exits) (label number : ℕ) (ls : List Label) (m : Mark) →
        BodyRuns ops w t p objects r call result g x label ls number End m m (stand_code label number ls)
    pub among : (g : Scene) (x : Exits) (label number : ℕ) (ls : List Label) (a : St) (ss : Sts) (l m n : Mark)
        (c d : Code) → label + count_labels ls ≤ l.labels → Statement_runs g x a l m c →
        BodyRuns ops w t p objects r call result g x label ls (number + 1) ss m n d
        → BodyRuns ops w t p objects r call result g x label ls number (Seq a ss) l n
        (λ rest. stand_code label number ls (c (d rest)))

  -- `enter`
  pub record BlockRules : Type 0 where
    pub none : (g : Scene) → IsScene g → Enter_runs g [] g (λ rest. rest)
    pub simple : (g h : Scene) → IsScene g → (x at : ℕ) (k : TacKind) (ds : List Declared) (c : Code) →
        g.home x ≡ Some (record { temp = at; kind = k }) → Enter_runs g ds h c →
        Enter_runs g (Simple x ∷ ds) h (λ rest. instr.Const at k 0 ∷ c rest)
    pub object : (g h : Scene) (n at : ℕ) (ds : List Declared) (c : Code) → IsScene g → IsScene (with_spot n at g) →
        ((i : ℕ) → g.spot n ≡ Some i → i ≡ at) → Enter_runs (with_spot n at g) ds h c
        → Enter_runs g (Objects n ∷ ds) h (λ rest. instr.Zero n ∷ instr.Local at n ∷ c rest)

  -- loops: `tested_loop` and `repeated_loop`
  pub record LoopRules : Type 0 where
    pub no_test : (g : Scene) (label : ℕ) (m : Mark) → Test_runs g None label m m (λ rest. rest)
    pub some_test : (g : Scene) (q : Pos) (j : TacKind) (e : Ex) (label : ℕ) (m n : Mark) (c : Code) →
        Condition_runs g j e false label m n c → Test_runs g (Some (q, kind_of j, e)) label m n c
    pub no_step : (g : Scene) (m : Mark) → Step_runs g None m m (λ rest. rest)
    pub some_step : (g : Scene) (e : Ex) (m n : Mark) (c : Code) → Effect_runs g e m n c → Step_runs g (Some e) m n c
    pub looped : (g : Scene) (x : Exits) (k : Kind) (e : Ex) (b : St) (q : Pos) (l m n : Mark) (c d : Code) →
        Test_runs g (Some (q, k, e)) (l.labels + 2) (labelled 3 l) m c →
        Statement_runs g (in_loop (l.labels + 2) (l.labels + 1)) b m n d
        → Statement_runs g x (While q k e b) l n (loop_code l.labels c d (λ rest. rest))
    pub repeated : (g : Scene) (x : Exits) (q : Pos) (j : TacKind) (e : Ex) (b : St) (l m n : Mark) (c d : Code) →
        Statement_runs g (in_loop (l.labels + 2) (l.labels + 1)) b (labelled 3 l) m d →
        Condition_runs g j e false (l.labels + 2) m n c
        → Statement_runs g x (Do_while q (kind_of j) b e) l n (repeat_code l.labels d c)
    pub counted : (g h : Scene) (x : Exits) (ds : List Declared) (first : Sts) (test : Option (Pos × Kind × Ex))
        (step : Option Ex) (b : St) (k l m n o : Mark) (a c d f i : Code) → Enter_runs g ds h a →
        Statements_run h x first k l i
        → Test_runs h test (l.labels + 2) (labelled 3 l) m c →
        Statement_runs h (in_loop (l.labels + 2) (l.labels + 1)) b m n d → Step_runs h step n o f
        → Statement_runs g x (For ds first test step b) k o (λ rest. a (i (loop_code l.labels c d f rest)))

-- calls, in a function at a place in its text, where further calls do what the code of their functions does
module _ (ops : Operations Store) (w : World) (t : Tac) (p : Typed) (objects : ℕ → List ℕ) (r : Running)
    (call : ℕ → List Value → Then Store Value) (g : Scene) (signs : ℕ → Signature) where
  pub record CallRules : Type 0 where
    pub no_arguments : (m : Mark) → ArgumentsRun ops w t p objects call signs r g Nil [] [] m m (λ rest. rest)
    pub one_argument : (e : Ex) (es : Exs) (k : TacKind) (ks : List TacKind) (at : ℕ) (ts : List ℕ) (l m n : Mark)
        (c d : Code) → OperandRuns ops w t p objects r call g es k e at l m c →
        ArgumentsRun ops w t p objects call signs r g es ks ts m n d
        → ArgumentsRun ops w t p objects call signs r g (Cons e es) (k ∷ ks) (at ∷ ts) l n (λ rest. c (d rest))
    pub named : CallsRun ops w t p objects call signs g.limit →
        (k : Option TacKind) (to : Option ℕ) (f : ℕ) (fitting : List Bool) (es : Exs) (ks : List TacKind) (ts : List ℕ)
        (q i j : Pos) (m n : Mark) (c : Code) → IsAsked to k
        → slice_index_or fitting f false ≡ true → f < length p.funs → signs f ≡ record { gives = k; takes = ks } →
        ArgumentsRun ops w t p objects call signs r g es ks ts m n c
        → CallRuns ops w t p objects call signs r g k (Call q fitting (Pointer_to i None (Function j f)) es) to m n
        (λ rest. c (instr.Call to f ts ∷ rest))
    pub by_value : CallsRun ops w t p objects call signs g.limit →
        (k : Option TacKind) (to : Option ℕ) (at of : ℕ) (e : Ex) (es : Exs) (ks : List TacKind) (ts : List ℕ) (q : Pos)
        (l m n : Mark) (c d : Code) → IsAsked to k
        → ((f : ℕ) → slice_index_or (fits p [] of) f false ≡ true → signs f ≡ record { gives = k; takes = ks }) →
        OperandRuns ops w t p objects r call g es pointer_kind e at l m c →
        ArgumentsRun ops w t p objects call signs r g es ks ts m n d
        → CallRuns ops w t p objects call signs r g k (Call q (fits p [] of) e es) to l n
        (λ rest. c (d (instr.CallValue to at of ts q ∷ rest)))
