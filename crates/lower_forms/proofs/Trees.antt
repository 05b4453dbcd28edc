-- What the code of trees asks of them: operations at kinds that the promotions leave as they are, and copies that are
-- no larger than an object may be.
use Rattle.std.specs.Prelude.{◌≤◌, Option, Some, None}
use Rattle.ck_base.specs.declared.positions.Pos.{Pos}
use Rattle.ck_int.specs.Kinds.{form_of, width_of}
use Rattle.ck_int.specs.declared.kinds.IntKind.{IntKind}
use Rattle.c_tree.specs.Layout.{size_limit}
use Rattle.cheri_c_sem.specs.Kinds.{Kind, Plain, Capability}
use Rattle.cheri_c_sem.specs.Tree.{Operation, Whole, Ex, Load, Aggregate, Pointer_to, Convert, Discard, Unary, Not}
use Rattle.cheri_c_sem.specs.Tree.{Binary, Compare, And, Or, Conditional, Comma, Assign, Copy, Compound, Call, Library}
use Rattle.cheri_c_sem.specs.Tree.{Deref, Member, Exs, Nil, Cons, St, Do, Give, Init, Fill, Block, If, While, Do_while}
use Rattle.cheri_c_sem.specs.Tree.{For, Switch, Return, Sts, End, Seq}

abbrev pub IsPromoted : IntKind → Type 0
IsPromoted k = 32 ≤ width_of (form_of k)

abbrev pub IsOperation : Operation → Type 0
IsOperation (Whole op k count) = IsPromoted k
IsOperation op = Unit {0}

abbrev pub IsSigned : Kind → Type 0
IsSigned (Plain k) = IsPromoted k
IsSigned (Capability signed) = Unit {0}

abbrev mutual
  pub Works : Ex → Type 0
  Works (Load k e) = Works e
  Works (Aggregate e) = Works e
  Works (Pointer_to p n e) = Works e
  Works (Convert p j k plain e) = Works e
  Works (Discard e) = Works e
  Works (Unary p sign k e) = IsSigned k × Works e
  Works (Not p k e) = Works e
  Works (Binary p op a b) = IsOperation op × Works a × Works b
  Works (Compare p op k a b) = Works a × Works b
  Works (And p j k a b) = Works a × Works b
  Works (Or p j k a b) = Works a × Works b
  Works (Conditional p k c a b) = Works c × Works a × Works b
  Works (Comma a b) = Works a × Works b
  Works (Assign k a b) = Works a × Works b
  Works (Copy p bytes unit a b) = (bytes ≤ size_limit) × Works a × Works b
  Works (Compound p op j k old a b) = IsOperation op × Works a × Works b
  Works (Call p fits e es) = Works e × AllWork es
  Works (Library p service es) = AllWork es
  Works (Deref p e) = Works e
  Works (Member p offset e) = Works e
  Works e = Unit {0}

  pub AllWork : Exs → Type 0
  AllWork Nil = Unit {0}
  AllWork (Cons e es) = Works e × AllWork es

abbrev pub WorksIfAny : Option Ex → Type 0
WorksIfAny None = Unit {0}
WorksIfAny (Some e) = Works e

abbrev pub WorksTested : Option (Pos × Kind × Ex) → Type 0
WorksTested None = Unit {0}
WorksTested (Some (q, k, e)) = Works e

-- a statement, and its parts
abbrev mutual
  pub Runs : St → Type 0
  Runs (Do e) = Works e
  Runs (Give x e) = Works e
  Runs (Init q o offset k e) = Works e
  Runs (Fill q o offset bytes unit e) = (bytes ≤ size_limit) × Works e
  Runs (Block ds ss) = AllRun ss
  Runs (If q k e a b) = Works e × Runs a × Runs b
  Runs (While q k e b) = Works e × Runs b
  Runs (Do_while q k b e) = Runs b × Works e
  Runs (For ds first test step b) = AllRun first × WorksTested test × WorksIfAny step × Runs b
  Runs (Switch q k e ds ls ss) = Works e × AllRun ss
  Runs (Return e) = WorksIfAny e
  Runs a = Unit {0}

  pub AllRun : Sts → Type 0
  AllRun End = Unit {0}
  AllRun (Seq a ss) = Runs a × AllRun ss
