-- Where trees name variables: only such as are declared around them (C11 6.2.1).
use Rattle.ck_base.specs.declared.positions.Pos.{Pos}
use Rattle.std.specs.Prelude.{◌≡◌, ℕ, List, [], ◌∷◌, ◌⊎◌, Option, Some, None, slice_get}
use Rattle.c_tree.specs.declared.typed.FunDef.{FunDef}
use Rattle.c_tree.specs.declared.typed.Typed.{Typed}
use Rattle.cheri_c_sem.specs.Kinds.{Kind}
use Rattle.cheri_c_sem.specs.Programs.{function_tree}
use Rattle.cheri_c_sem.specs.Tree.{Ex, Load, Aggregate, Pointer_to, Convert, Discard, Unary, Not, Binary}
use Rattle.cheri_c_sem.specs.Tree.{Compare, And, Or, Conditional, Comma, Assign, Copy, Compound, Call, Library}
use Rattle.cheri_c_sem.specs.Tree.{Variable, Local, Deref, Member, Exs, Nil, Cons, Declared, Simple}
use Rattle.cheri_c_sem.specs.Tree.{Objects, St, Do, Give, Init, Fill, Block, If, While, Do_while, For, Switch}
use Rattle.cheri_c_sem.specs.Tree.{Return, Sts, End, Seq, Parameter, In_variable, In_object}

-- a variable is among those that are declared
abbrev pub IsDeclared : List Declared → Declared → Type 0
IsDeclared [] d = ⊥
IsDeclared (e ∷ ds) d = (e ≡ d) ⊎ IsDeclared ds d

-- those of a block, and those around it
abbrev pub within_block : List Declared → List Declared → List Declared
within_block [] ds = ds
within_block (e ∷ es) ds = within_block es (e ∷ ds)

-- an expression names variables that are declared
abbrev mutual
  pub Names : List Declared → Ex → Type 0
  Names ds (Load k e) = Names ds e
  Names ds (Aggregate e) = Names ds e
  Names ds (Pointer_to p n e) = Names ds e
  Names ds (Convert p j k plain e) = Names ds e
  Names ds (Discard e) = Names ds e
  Names ds (Unary p sign k e) = Names ds e
  Names ds (Not p k e) = Names ds e
  Names ds (Binary p op a b) = Names ds a × Names ds b
  Names ds (Compare p op k a b) = Names ds a × Names ds b
  Names ds (And p j k a b) = Names ds a × Names ds b
  Names ds (Or p j k a b) = Names ds a × Names ds b
  Names ds (Conditional p k c a b) = Names ds c × Names ds a × Names ds b
  Names ds (Comma a b) = Names ds a × Names ds b
  Names ds (Assign k a b) = Names ds a × Names ds b
  Names ds (Copy p bytes unit a b) = Names ds a × Names ds b
  Names ds (Compound p op j k old a b) = Names ds a × Names ds b
  Names ds (Call p fits e es) = Names ds e × AllName ds es
  Names ds (Library p service es) = AllName ds es
  Names ds (Variable p x) = IsDeclared ds (Simple x)
  Names ds (Local p n) = IsDeclared ds (Objects n)
  Names ds (Deref p e) = Names ds e
  Names ds (Member p offset e) = Names ds e
  Names ds e = Unit {0}

  pub AllName : List Declared → Exs → Type 0
  AllName ds Nil = Unit {0}
  AllName ds (Cons e es) = Names ds e × AllName ds es

abbrev pub NamesIfAny : List Declared → Option Ex → Type 0
NamesIfAny ds None = Unit {0}
NamesIfAny ds (Some e) = Names ds e

abbrev pub NamesTested : List Declared → Option (Pos × Kind × Ex) → Type 0
NamesTested ds None = Unit {0}
NamesTested ds (Some (q, k, e)) = Names ds e

-- a statement does, and what stands in a block may name the block's own
abbrev mutual
  pub Says : List Declared → St → Type 0
  Says ds (Do e) = Names ds e
  Says ds (Give x e) = Names ds e
  Says ds (Init q o offset k e) = IsDeclared ds (Objects o) × Names ds e
  Says ds (Fill q o offset bytes unit e) = IsDeclared ds (Objects o) × Names ds e
  Says ds (Block es ss) = AllSay (within_block es ds) ss
  Says ds (If q k e a b) = Names ds e × Says ds a × Says ds b
  Says ds (While q k e b) = Names ds e × Says ds b
  Says ds (Do_while q k b e) = Says ds b × Names ds e
  Says ds (For es first test step b) =
      AllSay (within_block es ds) first × NamesTested (within_block es ds) test ×
      NamesIfAny (within_block es ds) step × Says (within_block es ds) b
  Says ds (Switch q k e es ls ss) = Names ds e × AllSay (within_block es ds) ss
  Says ds (Return e) = NamesIfAny ds e
  Says ds a = Unit {0}

  pub AllSay : List Declared → Sts → Type 0
  AllSay ds End = Unit {0}
  AllSay ds (Seq a ss) = Says ds a × AllSay ds ss

abbrev pub declared_by : Parameter → Declared
declared_by (In_variable x) = Simple x
declared_by (In_object n k) = Objects n

-- the parameters of a function
abbrev pub with_parameters : List Parameter → List Declared → List Declared
with_parameters [] ds = ds
with_parameters (a ∷ ps) ds = with_parameters ps (declared_by a ∷ ds)

-- the body of each function names its parameters, or variables of its blocks
abbrev pub BodiesName : Typed → Type 0
BodiesName p = (n : ℕ) (d : FunDef) → slice_get p.funs n ≡ Some d →
    Says (with_parameters (function_tree p n d).params []) (function_tree p n d).body
