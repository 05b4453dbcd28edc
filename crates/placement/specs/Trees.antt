-- Trees whose constants are words, and whose objects and functions are there.
use Rattle.std.specs.Prelude.{◌≡◌, ℕ, ◌<◌, ◌^◌, List, [], ◌∷◌, length, Option, Some, None, slice_get}
use Rattle.cheri_c_sem.specs.Tree.{Ex, Number, Null, Load, Aggregate, Pointer_to, Convert, Discard, Unary, Not, Binary}
use Rattle.cheri_c_sem.specs.Tree.{Compare, And, Or, Conditional, Comma, Assign, Copy, Compound, Call, Library}
use Rattle.cheri_c_sem.specs.Tree.{Variable, Local, Object, Function, Deref, Member, Exs, Nil, Cons, Declared, Simple}
use Rattle.cheri_c_sem.specs.Tree.{Objects, St, Do, Give, Init, Fill, Block, If, While, Do_while, For, Switch, Break}
use Rattle.cheri_c_sem.specs.Tree.{Continue, Return, Empty, Sts, End, Seq, Parameter, In_variable, In_object, Fun}
use Rattle.cheri_c_sem.specs.Kinds.{Kind}
use Rattle.ck_base.specs.declared.positions.Pos.{Pos}

-- in a program with so many global objects and functions, in a function with so many objects
module _ (globals functions objects : ℕ) where
  abbrev mutual
    pub IsFit : Ex → Type 0
    IsFit (Number n) = n < 2 ^ 64
    IsFit (Null n) = n < 2 ^ 64
    IsFit (Load k e) = IsFit e
    IsFit (Aggregate e) = IsFit e
    IsFit (Pointer_to p o e) = IsFit e
    IsFit (Convert p old new plain e) = IsFit e
    IsFit (Discard e) = IsFit e
    IsFit (Unary p sign k e) = IsFit e
    IsFit (Not p k e) = IsFit e
    IsFit (Binary p op a b) = IsFit a × IsFit b
    IsFit (Compare p op k a b) = IsFit a × IsFit b
    IsFit (And p j k a b) = IsFit a × IsFit b
    IsFit (Or p j k a b) = IsFit a × IsFit b
    IsFit (Conditional p k c a b) = IsFit c × IsFit a × IsFit b
    IsFit (Comma a b) = IsFit a × IsFit b
    IsFit (Assign k a b) = IsFit a × IsFit b
    IsFit (Copy p bytes unit a b) = IsFit a × IsFit b
    IsFit (Compound p op kind computed old a b) = IsFit a × IsFit b
    IsFit (Call p fits e args) = IsFit e × AreFit args
    IsFit (Library p service args) = AreFit args
    IsFit (Variable p x) = Unit {0}
    IsFit (Local p n) = n < objects
    IsFit (Object p object permissions) = (object < globals) × (permissions < 4096)
    IsFit (Function p f) = f < functions
    IsFit (Deref p e) = IsFit e
    IsFit (Member p offset e) = IsFit e

    pub AreFit : Exs → Type 0
    AreFit Nil = Unit {0}
    AreFit (Cons e es) = IsFit e × AreFit es

  abbrev pub DeclaredFit : Declared → Type 0
  DeclaredFit (Simple x) = Unit {0}
  DeclaredFit (Objects n) = n < objects

  abbrev pub AllDeclaredFit : List Declared → Type 0
  AllDeclaredFit [] = Unit {0}
  AllDeclaredFit (d ∷ ds) = DeclaredFit d × AllDeclaredFit ds

  abbrev pub TestFit : Option (Pos × Kind × Ex) → Type 0
  TestFit None = Unit {0}
  TestFit (Some t) = IsFit t.2

  abbrev pub StepFit : Option Ex → Type 0
  StepFit None = Unit {0}
  StepFit (Some e) = IsFit e

  abbrev mutual
    pub DoesFit : St → Type 0
    DoesFit (Do e) = IsFit e
    DoesFit (Give x e) = IsFit e
    DoesFit (Init p local offset k e) = (local < objects) × IsFit e
    DoesFit (Fill p local offset bytes unit e) = (local < objects) × IsFit e
    DoesFit (Block ds ss) = AllDeclaredFit ds × DoFit ss
    DoesFit (If p k e a b) = IsFit e × DoesFit a × DoesFit b
    DoesFit (While p k e b) = IsFit e × DoesFit b
    DoesFit (Do_while p k b e) = IsFit e × DoesFit b
    DoesFit (For ds first t step b) = AllDeclaredFit ds × DoFit first × TestFit t × StepFit step × DoesFit b
    DoesFit (Switch p k e ds ls ss) = IsFit e × AllDeclaredFit ds × DoFit ss
    DoesFit Break = Unit {0}
    DoesFit Continue = Unit {0}
    DoesFit (Return e) = StepFit e
    DoesFit Empty = Unit {0}

    pub DoFit : Sts → Type 0
    DoFit End = Unit {0}
    DoFit (Seq a ss) = DoesFit a × DoFit ss

  abbrev pub ParameterFit : Parameter → Type 0
  ParameterFit (In_variable x) = Unit {0}
  ParameterFit (In_object n k) = n < objects

  abbrev pub ParametersFit : List Parameter → Type 0
  ParametersFit [] = Unit {0}
  ParametersFit (a ∷ rest) = ParameterFit a × ParametersFit rest

-- a function of such a program
pub record FunctionFit (globals functions : ℕ) (f : Fun) : Type 0 where
  pub params : ParametersFit globals functions (length f.objects) f.params
  pub body : DoesFit globals functions (length f.objects) f.body

abbrev pub FunctionsFit : ℕ → List Fun → Type 0
FunctionsFit globals funs = (i : ℕ) (f : Fun) → slice_get funs i ≡ Some f → FunctionFit globals (length funs) f
