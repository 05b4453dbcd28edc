-- What a call on the work answers, against a step of the typing.
use Rattle.std.specs.Prelude.{◌≡◌, ℕ, ◌<◌, ◌≤◌, true, false, List, ◌++◌, length, map, None, Result, Ok, Err}
use Rattle.ck_base.specs.declared.positions.Pos.{Pos}
use Rattle.ck_base.specs.declared.refusal.Refusal.{Refusal}
use Rattle.ck_base.specs.declared.refusal.Refusal.TheVariants.{Code, NoMemory}
use Rattle.c_tree.specs.declared.syntax.RecordKind.{RecordKind}
use Rattle.c_tree.specs.Types.{Ty}
use Rattle.c_tree.specs.Terms.{Action, Term}
use Rattle.c_tree.specs.Conversions as meant
use Rattle.c_tree.specs.Scopes.{StaticState, LocalState, RoutineState, State, Fault, Doing}
use Rattle.c_tree.specs.Declarators.{kind_at}
use Rattle.c_tree.specs.Views.{actions_of, action_at}
use Rattle.c_expressions.specs.Nodes.{IsWhole, type_in, term_in, type_count, term_count}
use Rattle.c_expressions.specs.declared.nodes.Operand.{Operand}
use Rattle.c_elaborator.specs.declared.work.Work.{Work}
use Rattle.c_elaborator.specs.Work.{Shows, ValuesAreThere}

-- the statement that a number names
abbrev pub action_in : Work → ℕ → Action
action_in w k = action_at (actions_of w.nodes.p) k

abbrev pub action_count : Work → ℕ
action_count w = length w.nodes.p.stmts

-- the second list goes on from the first
abbrev pub Begins : {A : Type 0} → List A → List A → Type 0
Begins xs ys = (more : List _) × (ys ≡ xs ++ more)

-- what was named by a number is named by it still
pub record Keeps (old new : Work) : Type 0 where
  pub more_types : type_count old.nodes ≤ type_count new.nodes
  pub more_terms : term_count old.nodes ≤ term_count new.nodes
  pub more_actions : action_count old ≤ action_count new
  pub types : (k : ℕ) → k < type_count old.nodes → type_in new.nodes k ≡ type_in old.nodes k
  pub terms : (k : ℕ) → k < term_count old.nodes → term_in new.nodes k ≡ term_in old.nodes k
  pub values : ValuesAreThere old → ValuesAreThere new
  pub actions : ValuesAreThere old → (k : ℕ) → k < action_count old → action_in new k ≡ action_in old k
  pub file : new.file.now ≡ old.file.now
  pub tree : new.tree.now ≡ old.tree.now

-- nothing was lost of what waits for the end of the function or of the file, and no initial value or function was added
pub record Quiet (old new : Work) : Type 0 where
  pub keeps : Keeps old new
  pub literals : Begins old.nodes.p.literals new.nodes.p.literals
  pub uses : Begins old.uses.items new.uses.items
  pub addressed : Begins old.addressed.items new.addressed.items
  pub fillings : new.fillings ≡ old.fillings
  pub definitions : new.definitions ≡ old.definitions
  pub waiting : new.waiting ≡ old.waiting

abbrev pub unused_static : StaticState → StaticState
unused_static g = record g { used = None }

abbrev pub unused_routine : RoutineState → RoutineState
unused_routine f = record f { used = None }

abbrev pub untaken_local : LocalState → LocalState
untaken_local v = record v { addressed = false }

-- objects, functions and locals are the same, but that they may be used and their addresses taken, and no tag is lost
pub record Still (before after : State) : Type 0 where
  pub tags : length before.tags ≤ length after.tags
  pub kinds : (n : ℕ) (k : RecordKind) → kind_at before n k ≡ true → kind_at after n k ≡ true
  pub statics : map unused_static after.statics ≡ map unused_static before.statics
  pub routines : map unused_routine after.routines ≡ map unused_routine before.routines
  pub locals : map untaken_local after.locals ≡ map untaken_local before.locals
  pub pending : after.pending ≡ before.pending

-- What a step may change, of the work and of the state
pub record Way : Type 1 where
  pub grows : Work → Work → Type 0
  pub stays : State → State → Type 0

-- an expression, or the name of a type: it declares nothing but tags and enumeration constants
abbrev pub quietly : Way
quietly = record { grows = Quiet; stays = Still }

-- a declaration or a statement
abbrev pub freely : Way
freely = record { grows = Keeps; stays = λ s t. Unit {0} }

-- a step gives this result and this state, for which the work stands
pub record Given {A : Type 0} (y : Way) (new : Work) (before : State) (r : Result (A × State) Fault)
    (Is : State → A → Type 0) : Type 0 where
  pub value : A
  pub state : State
  pub is : r ≡ Ok (value, state)
  pub stays : y.stays before state
  pub shows : Shows new state
  pub fits : Is state value

-- From the old work to the new one a step is done, whatever the state. `There` says that what is answered names what is
-- there
pub record Done {A : Type 0} (y : Way) (old new : Work) (d : Doing A) (There : Type 0) (Is : State → A → Type 0) :
    Type 0 where
  pub whole : IsWhole new.nodes
  pub grows : y.grows old new
  pub there : There
  pub gives : (s : State) → Shows old s → Given y new s (d s) Is

-- in each such state the step is refused with this code at this place
abbrev pub Refuses : {A : Type 0} → Work → Doing A → ℕ → Pos → Type 0
Refuses old d code place = (s : State) → Shows old s → d s ≡ Err (record { code = code; place = place })

-- The answer is the step's: its result, or its refusal. Want of memory says nothing, and no refused work is used again
abbrev pub Answers : {A X : Type 0} → Way → (old new : Work) → Doing A → (There : Work → X → Type 0) →
    (Is : Work → X → State → A → Type 0) → Result X Refusal → Type 0
Answers y old new d There Is (Ok x) = Done y old new d (There new x) (Is new x)
Answers y old new d There Is (Err (Code code place)) = Refuses old d code place
Answers y old new d There Is (Err NoMemory) = Unit {0}

-- ---- what is answered

abbrev pub OperandThere : Work → Operand → Type 0
OperandThere w o = o.node < term_count w.nodes

abbrev pub operand_in : Work → Operand → meant.Operand
operand_in w o = record { is = term_in w.nodes o.node; first = o.first }

abbrev pub IsOperand : Work → Operand → State → meant.Operand → Type 0
IsOperand w o s x = x ≡ operand_in w o

abbrev pub TypeThere : Work → ℕ → Type 0
TypeThere w k = k < type_count w.nodes

abbrev pub IsType : Work → ℕ → State → Ty → Type 0
IsType w k s t = t ≡ type_in w.nodes k

abbrev pub TermThere : Work → ℕ → Type 0
TermThere w k = k < term_count w.nodes

abbrev pub IsTerm : Work → ℕ → State → Term → Type 0
IsTerm w k s x = x ≡ term_in w.nodes k

-- nothing is answered but that the step was done
abbrev pub NothingThere : Work → Unit {0} → Type 0
NothingThere w x = Unit {0}

abbrev pub IsNothing : {A : Type 0} → Work → Unit {0} → State → A → Type 0
IsNothing w x s a = Unit {0}
