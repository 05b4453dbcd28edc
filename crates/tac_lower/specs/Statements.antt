-- What the code of statements adds, and where it leads.
use Rattle.std.specs.Prelude.{◌≡◌, ℕ, List, ◌++◌, drop, map, Option, Some, None, slice_get}
use Rattle.ck_int.specs.declared.kinds.IntKind.TheVariants as int
use Rattle.c_tree.specs.WellTyped.{Frame, Inside}
use Rattle.c_tree.specs.declared.typed.FunDef.{FunDef}
use Rattle.c_tree.specs.declared.typed.Typed.{Typed}
use Rattle.tac_ir.specs.declared.code.TacInstr.TheVariants as instr
use Rattle.tac_ir.specs.declared.code.TacKind.TheVariants as kinds
use Rattle.tac_lower.specs.declared.context.Home.{Home}
use Rattle.tac_emit.specs.declared.emitter.Emitter.{Emitter}
use Rattle.tac_lower.specs.declared.statements.Circle.{Circle}
use Rattle.tac_lower.specs.declared.statements.Exits.{Exits}
use Rattle.tac_lower.specs.declared.switches.Case.{Case}
use Rattle.tac_lower.specs.declared.switches.Cases.{Cases}
use Rattle.tac_lower.specs.declared.switches.Switched.{Switched}
use Rattle.tac_lower.specs.declared.types.TypeFacts.{TypeFacts}
use Rattle.tac_emit.specs.Emitted.{HasKind, IsOpen, Labelled, Forked, Pushed}
use Rattle.tac_lower.specs.Nodes.{IsTyped}
use Rattle.tac_lower.specs.Parts.{IsPlaced}
use Rattle.tac_lower.specs.Scenes.{Lowered, Opened}

-- ---- where a statement stands

-- a statement of a function is well typed, in a loop or not
pub record IsPart (f : Frame) (k : ℕ) : Type 0 where
  pub inside : Inside
  pub placed : IsPlaced f inside k

pub record AreParts (f : Frame) (ks : List ℕ) : Type 0 where
  pub each : (j k : ℕ) → slice_get ks j ≡ Some k → IsPart f k

-- an expression, if there is one, is well typed
pub record IsTypedIfAny (f : Frame) (a : Option ℕ) : Type 0 where
  pub each : (j : ℕ) → a ≡ Some j → IsTyped f j

-- a label, if there is one, does not stand so far
abbrev pub IsExit : Emitter → Option ℕ → Type 0
IsExit e None = Unit {0}
IsExit e (Some l) = IsOpen e l

pub record AreExits (e : Emitter) (x : Exits) : Type 0 where
  pub break_to : IsExit e x.break_to
  pub continue_to : IsExit e x.continue_to

-- ---- loops

-- the label of a loop's begin stands, and those of its step and of its end are made
pub record Begun (old new : Emitter) (c : Circle) : Type 0 where
  pub made : Emitter
  pub stood : Emitter
  pub top : Labelled old made c.top
  pub stands : Pushed made stood (instr.Label c.top)
  pub others : Forked stood new c.next c.end

-- code is added for a part of a function, with at most n temps and n labels, and then a label stands
pub record Behind (p : Typed) (d : FunDef) (types : List TypeFacts) (homes : List Home) (old new : Emitter) (l n : ℕ) :
    Type 0 where
  pub middle : Emitter
  pub lowered : Lowered p d types homes old middle n
  pub stands : Pushed middle new (instr.Label l)

-- ---- switches

-- the labels of a `switch`
abbrev pub labels_of : List Case → List ℕ
labels_of cs = map (λ (c : Case). c.label) cs

abbrev pub labels_in : Cases → List ℕ
labels_in c = labels_of c.cases.items

-- the temps of its comparisons
pub record IsSwitched (e : Emitter) (s : Switched) : Type 0 where
  pub temp : HasKind e s.temp s.kind
  pub value : HasKind e s.value s.kind
  pub answer : HasKind e s.answer (kinds.Int int.I32)

-- from one of some labels on, up to another, they stand that did not so far
pub record StandUpTo (labels : List ℕ) (first at : ℕ) (old new : Emitter) : Type 0 where
  pub opened :
      (p : Typed) (d : FunDef) (types : List TypeFacts) (homes : List Home) (a : Emitter) (ls : List ℕ) (n : ℕ)
      → Opened p d types homes a old (drop first labels ++ ls) n → Opened p d types homes a new (drop at labels ++ ls) n
