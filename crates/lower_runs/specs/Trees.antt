-- The trees that have code: values, places and jumps stand where these are asked for, and the blocks of the objects
-- that are named have been entered.
use Rattle.ck_base.specs.declared.positions.Pos.{Pos}
use Rattle.std.specs.Prelude.{◌≡◌, ◌≢◌, ℕ, ◌≤◌, true, List, [], ◌∷◌, ◌⊎◌, Option, Some, None}
use Rattle.c_tree.specs.WellTyped as typed
use Rattle.c_tree.specs.WellTyped.{Inside}
use Rattle.c_tree.specs.declared.typed.VarDef.{VarDef}
use Rattle.cheri_c_sem.specs.Kinds.{Kind, Capability}
use Rattle.cheri_c_sem.specs.Tree.{Operation, Derived, Ex, Number, Null, Load, Aggregate, Pointer_to, Convert, Discard}
use Rattle.cheri_c_sem.specs.Tree.{Unary, Not, Binary, Compare, And, Or, Conditional, Comma, Assign, Copy, Compound}
use Rattle.cheri_c_sem.specs.Tree.{Call, Library, Variable, Local, Object, Function, Deref, Member, Exs, Nil, Cons}
use Rattle.cheri_c_sem.specs.Tree.{Declared, Simple, Objects, St, Do, Give, Init, Fill, Block, If, While, Do_while, For}
use Rattle.cheri_c_sem.specs.Tree.{Switch, Break, Continue, Return, Empty, Sts, End, Seq}
use Rattle.cheri_c_sem.specs.Types.{objects_before}
use Rattle.lower_runs.specs.States.{Scene}
use Rattle.lower_runs.specs.Operating.{Code}
use Rattle.lower_runs.specs.Statements.{IsEntered, IsOnce, AreAmong, count_statements}

-- ---- expressions

-- the block of an object has been entered
abbrev pub HasSpot : Option ℕ → Type 0
HasSpot None = ⊥
HasSpot (Some t) = Unit {0}

-- a result derives from a right operand that is a capability integer of its kind
abbrev pub DerivesByKind : Operation → Type 0
DerivesByKind (Derived op signed count right plain) = right ≡ true → count ≡ Capability signed
DerivesByKind op = Unit {0}

-- a tree is a value, or a place, and so are its parts where these are asked for; and the blocks of the objects that it
-- names have been entered
abbrev mutual
  pub Values : Scene → Ex → Type 0
  Values g (Number n) = Unit {0}
  Values g (Null n) = Unit {0}
  Values g (Load k e) = Places g e
  Values g (Pointer_to p n e) = Places g e
  Values g (Convert p j k plain e) = Values g e
  Values g (Discard e) = Values g e ⊎ Places g e
  Values g (Unary p sign k e) = Values g e
  Values g (Not p k e) = Values g e
  Values g (Binary p op a b) = DerivesByKind op × Values g a × Values g b
  Values g (Compare p op k a b) = Values g a × Values g b
  Values g (And p j k a b) = Values g a × Values g b
  Values g (Or p j k a b) = Values g a × Values g b
  Values g (Conditional p k c a b) = Values g c × Values g a × Values g b
  Values g (Comma a b) = (Values g a ⊎ Places g a) × Values g b
  Values g (Assign k a b) = Places g a × Values g b
  Values g (Compound p op j k old a b) = Places g a × Values g b
  Values g (Call p fits e es) = Values g e × AllValues g es
  Values g (Library p service es) = AllValues g es
  Values g e = ⊥

  pub Places : Scene → Ex → Type 0
  Places g (Variable p x) = Unit {0}
  Places g (Local p n) = HasSpot (g.spot n)
  Places g (Object p n permissions) = Unit {0}
  Places g (Function p f) = Unit {0}
  Places g (Deref p e) = Values g e
  Places g (Member p offset e) = Places g e
  Places g (Aggregate e) = Places g e
  Places g (Comma a b) = (Values g a ⊎ Places g a) × Places g b
  Places g (Conditional p k c a b) = Values g c × Places g a × Places g b
  Places g (Copy p bytes unit a b) = Places g a × Places g b
  Places g e = ⊥

  pub AllValues : Scene → Exs → Type 0
  AllValues g Nil = Unit {0}
  AllValues g (Cons e es) = Values g e × AllValues g es

-- ---- statements

abbrev pub ValuesIfAny : Scene → Option Ex → Type 0
ValuesIfAny g None = Unit {0}
ValuesIfAny g (Some e) = Values g e ⊎ Places g e

abbrev pub ValuesTested : Scene → Option (Pos × Kind × Ex) → Type 0
ValuesTested g None = Unit {0}
ValuesTested g (Some (q, k, e)) = Values g e

-- the variable whose value, or whose pointer, an expression is
abbrev pub held_by : Ex → Option Declared
held_by (Load k (Variable q x)) = Some (Simple x)
held_by (Pointer_to q n (Local at o)) = Some (Objects o)
held_by (Convert q j k plain e) = held_by e
held_by e = None

-- a block declares others
abbrev pub AreOthers : Option Declared → List Declared → Type 0
AreOthers held [] = Unit {0}
AreOthers held (d ∷ ds) = (held ≢ Some d) × AreOthers held ds

-- in a function with these variables, of which so many are parameters
module _ (vars : List VarDef) (params : ℕ) where
  -- a block declares no parameter
  abbrev pub IsInner : Declared → Type 0
  IsInner (Simple x) = params ≤ x
  IsInner (Objects n) = objects_before vars params ≤ n

  abbrev pub AreInner : List Declared → Type 0
  AreInner [] = Unit {0}
  AreInner (d ∷ ds) = IsInner d × AreInner ds

  -- Of a statement in a loop or a `switch`, or in none: its expressions are values, or places, where these are asked
  -- for, jumps stand where they may, and the labels of a `switch` stand among its statements
  abbrev mutual
    pub Does : Inside → Scene → St → Type 0
    Does i g (Do e) = Values g e ⊎ Places g e
    Does i g (Give x e) = Values g e
    Does i g (Init q o offset k e) = HasSpot (g.spot o) × Values g e
    Does i g (Fill q o offset bytes unit e) = HasSpot (g.spot o) × Places g e
    Does i g (Block ds ss) = AreInner ds × ((h : Scene) (c : Code) → IsEntered g ds h c → DoAll i h ss)
    Does i g (If q k e a b) = Values g e × Does i g a × Does i g b
    Does i g (While q k e b) = Values g e × Does typed.in_loop g b
    Does i g (Do_while q k b e) = Does typed.in_loop g b × Values g e
    Does i g (For ds first test step b) = AreInner ds × ((h : Scene) (c : Code) → IsEntered g ds h c →
        DoAll i h first × ValuesTested h test × ValuesIfAny h step × Does typed.in_loop h b)
    Does i g (Switch q k e ds ls ss) = AreInner ds × Values g e × AreOthers (held_by e) ds × IsOnce ls ×
        AreAmong ls (count_statements ss) ×
        ((h : Scene) (c : Code) → IsEntered g ds h c → DoAll (typed.in_switch i) h ss)
    Does i g Break = i.breakable ≡ true
    Does i g Continue = i.loop ≡ true
    Does i g (Return None) = Unit {0}
    Does i g (Return (Some e)) = Values g e
    Does i g Empty = Unit {0}

    pub DoAll : Inside → Scene → Sts → Type 0
    DoAll i g End = Unit {0}
    DoAll i g (Seq a ss) = Does i g a × DoAll i g ss
