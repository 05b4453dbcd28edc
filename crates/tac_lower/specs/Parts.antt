-- The statements of a function of a typed program: what is known of each, its expressions and the statements in it.
use Rattle.std.specs.Prelude.{◌≡◌, ℕ, ◌+◌, ◌≤◌, nat_lt, if◌then◌else◌, true, Option, Some, None, List, length, sum_by}
use Rattle.std.specs.Prelude.{slice_get}
use Rattle.c_tree.specs.declared.typed.FunDef.{FunDef}
use Rattle.c_tree.specs.declared.typed.StmtKind.{StmtKind}
use Rattle.c_tree.specs.declared.typed.StmtKind.TheVariants as stmts
use Rattle.c_tree.specs.declared.typed.SwitchLabel.{SwitchLabel}
use Rattle.c_tree.specs.declared.typed.Typed.{Typed}
use Rattle.c_tree.specs.Terms.{Action, type_of}
use Rattle.c_tree.specs.TreeWeight.{action_weight}
use Rattle.c_tree.specs.Types.{is_integer, is_scalar, is_void, compatible}
use Rattle.c_tree.specs.Views.{actions_of, action_at}
use Rattle.c_tree.specs.WellTyped.{Frame, Inside, in_loop, in_switch, ActionFits, InitFits, AreVars, declared}
use Rattle.tac_lower.specs.Copied.{copied_in, copies_in, part_copies, all_part_copies}
use Rattle.tac_lower.specs.Nodes.{expression, weight_in, IsTyped}

-- statement k
abbrev pub statement : Typed → ℕ → Action
statement p k = action_at (actions_of p) k

abbrev pub heft_in : Typed → ℕ → ℕ
heft_in p k = action_weight (statement p k)

abbrev pub hefts_in : Typed → List ℕ → ℕ
hefts_in p ks = sum_by (λ k. heft_in p k) ks

-- how many variables that are no parameters some numbers name, each time
abbrev pub is_entered : (params vars x : ℕ) → ℕ
is_entered n m x = if nat_lt x n then 0 else (if nat_lt x m then 1 else 0)

abbrev pub entered : FunDef → List ℕ → ℕ
entered d xs = sum_by (is_entered (length d.params) (length d.vars)) xs

-- a measure of the variables that blocks in a statement declare
abbrev pub declared_by : Typed → (ℕ → ℕ) → ℕ → ℕ
declared_by p g k = sum_by g (declared (statement p k))

abbrev pub all_declared_by : Typed → (ℕ → ℕ) → List ℕ → ℕ
all_declared_by p g ks = sum_by (λ k. declared_by p g k) ks

abbrev pub entered_in : Typed → FunDef → ℕ → ℕ
entered_in p d k = entered d (declared (statement p k))

abbrev pub all_entered_in : Typed → FunDef → List ℕ → ℕ
all_entered_in p d ks = sum_by (λ k. entered_in p d k) ks

-- a measure of what may be absent
abbrev pub or_none : (ℕ → ℕ) → Option ℕ → ℕ
or_none measure None = 0
or_none measure (Some k) = measure k

-- a statement of a function is well typed where it stands
pub record IsPlaced (f : Frame) (i : Inside) (k : ℕ) : Type 0 where
  pub fits : ActionFits f i (statement f.program k)

pub record ArePlaced (f : Frame) (i : Inside) (ks : List ℕ) : Type 0 where
  pub each : (j k : ℕ) → slice_get ks j ≡ Some k → IsPlaced f i k

-- a test is a scalar
pub record TestFits (f : Frame) (a : ℕ) : Type 0 where
  pub typed : IsTyped f a
  pub scalar : is_scalar (type_of (expression f.program a)) ≡ true

-- ---- a statement by its kind

pub record EvaluatePart (f : Frame) (k a : ℕ) : Type 0 where
  pub value : IsTyped f a
  pub weight : heft_in f.program k ≡ 1 + weight_in f.program a
  pub copies : copies_in f.program a ≤ part_copies f.program k

pub record InitPart (f : Frame) (k var offset a : ℕ) : Type 0 where
  pub value : IsTyped f a
  pub lies : InitFits f var offset (type_of (expression f.program a))
  pub weight : heft_in f.program k ≡ 1 + weight_in f.program a
  pub copies : copied_in f.program a + copies_in f.program a ≤ part_copies f.program k

pub record BlockPart (f : Frame) (i : Inside) (k : ℕ) (vars body : List ℕ) : Type 0 where
  pub vars_there : AreVars f vars
  pub body_fits : ArePlaced f i body
  pub weight : heft_in f.program k ≡ 1 + hefts_in f.program body
  pub copies : all_part_copies f.program body ≤ part_copies f.program k
  pub enters : (g : ℕ → ℕ) → sum_by g vars + all_declared_by f.program g body ≡ declared_by f.program g k

pub record IfPart (f : Frame) (i : Inside) (k c a : ℕ) (b : Option ℕ) : Type 0 where
  pub test : TestFits f c
  pub first : IsPlaced f i a
  pub second : (j : ℕ) → b ≡ Some j → IsPlaced f i j
  pub weight : heft_in f.program k ≡ 1 + weight_in f.program c + heft_in f.program a + or_none (heft_in f.program) b
  pub copies : copies_in f.program c + part_copies f.program a + or_none (part_copies f.program) b
      ≤ part_copies f.program k
  pub enters : (g : ℕ → ℕ) →
      declared_by f.program g a + or_none (declared_by f.program g) b ≡ declared_by f.program g k

pub record LoopPart (f : Frame) (k c a : ℕ) : Type 0 where
  pub test : TestFits f c
  pub body_fits : IsPlaced f in_loop a
  pub weight : heft_in f.program k ≡ 1 + weight_in f.program c + heft_in f.program a
  pub copies : copies_in f.program c + part_copies f.program a ≤ part_copies f.program k
  pub enters : (g : ℕ → ℕ) → declared_by f.program g a ≡ declared_by f.program g k

pub record ForPart (f : Frame) (k : ℕ) (vars first : List ℕ) (test step : Option ℕ) (a : ℕ) : Type 0 where
  pub vars_there : AreVars f vars
  pub first_fits : ArePlaced f in_loop first
  pub test_fits : (j : ℕ) → test ≡ Some j → TestFits f j
  pub step_fits : (j : ℕ) → step ≡ Some j → IsTyped f j
  pub body_fits : IsPlaced f in_loop a
  pub weight : heft_in f.program k ≡ 1 + or_none (weight_in f.program) test + or_none (weight_in f.program) step
      + hefts_in f.program first + heft_in f.program a
  pub copies : or_none (copies_in f.program) test + or_none (copies_in f.program) step
      + all_part_copies f.program first + part_copies f.program a ≤ part_copies f.program k
  pub enters : (g : ℕ → ℕ) →
      sum_by g vars + all_declared_by f.program g first + declared_by f.program g a ≡ declared_by f.program g k

pub record SwitchPart (f : Frame) (i : Inside) (k on : ℕ) (vars : List ℕ) (labels : List SwitchLabel) (body : List ℕ) :
    Type 0 where
  pub value : IsTyped f on
  pub integer : is_integer (type_of (expression f.program on)) ≡ true
  pub vars_there : AreVars f vars
  pub body_fits : ArePlaced f (in_switch i) body
  pub weight : heft_in f.program k ≡ 1 + length labels + weight_in f.program on + hefts_in f.program body
  pub copies : copies_in f.program on + all_part_copies f.program body ≤ part_copies f.program k
  pub enters : (g : ℕ → ℕ) → sum_by g vars + all_declared_by f.program g body ≡ declared_by f.program g k

-- a Return gives what the function gives
pub record ReturnPart (f : Frame) (k : ℕ) (a : Option ℕ) : Type 0 where
  pub nothing : a ≡ None → is_void f.gives ≡ true
  pub value : (j : ℕ) → a ≡ Some j → IsTyped f j
  pub given : (j : ℕ) → a ≡ Some j → compatible (type_of (expression f.program j)) f.gives ≡ true
  pub weight : heft_in f.program k ≡ 1 + or_none (weight_in f.program) a
  pub copies : or_none (copies_in f.program) a ≤ part_copies f.program k

abbrev pub PartFits : Frame → Inside → ℕ → StmtKind → Type 0
PartFits f i k (stmts.Expr a) = EvaluatePart f k a
PartFits f i k (stmts.Init var offset a) = InitPart f k var offset a
PartFits f i k (stmts.Block vars body) = BlockPart f i k vars body
PartFits f i k (stmts.If c a b) = IfPart f i k c a b
PartFits f i k (stmts.While c a) = LoopPart f k c a
PartFits f i k (stmts.Do a c) = LoopPart f k c a
PartFits f i k (stmts.For vars first test step a) = ForPart f k vars first test step a
PartFits f i k (stmts.Switch on vars labels body) = SwitchPart f i k on vars labels body
PartFits f i k stmts.Break = i.breakable ≡ true
PartFits f i k stmts.Continue = i.loop ≡ true
PartFits f i k (stmts.Return a) = ReturnPart f k a
PartFits f i k stmts.Empty = Unit {0}
