-- What a rule answers, against a step of the typing that does not look at the state.
use Rattle.std.specs.Prelude.{◌≡◌, ℕ, Result, Ok, Err}
use Rattle.ck_base.specs.declared.positions.Pos.{Pos}
use Rattle.ck_base.specs.declared.refusal.Refusal.{Refusal}
use Rattle.ck_base.specs.declared.refusal.Refusal.TheVariants.{Code, NoMemory}
use Rattle.c_tree.specs.Scopes.{State, Doing}
use Rattle.c_expressions.specs.declared.nodes.Nodes.{Nodes}
use Rattle.c_expressions.specs.Nodes.{Keeps}

-- in every state the step gives this result and leaves the state, and the new nodes show the result beside all that
-- stood in the old ones
pub record Given {A X : Type 0} (old new : Nodes) (d : Doing A) (Shows : Nodes → X → A → Type 0) (x : X) : Type 0 where
  pub value : A
  pub is : (s : State) → d s ≡ Ok (value, s)
  pub keeps : Keeps old new
  pub shows : Shows new x value

-- in every state the step refuses with this code at this place
abbrev pub Refuses : {A : Type 0} → Doing A → ℕ → Pos → Type 0
Refuses d code place = (s : State) → d s ≡ Err (record { code = code; place = place })

-- The answer is the step's: its result, or its refusal. Want of memory says nothing
abbrev pub Answers : {A X : Type 0} → (old new : Nodes) → Doing A → (Nodes → X → A → Type 0) → Result X Refusal → Type 0
Answers old new d Shows (Ok x) = Given old new d Shows x
Answers old new d Shows (Err (Code code place)) = Refuses d code place
Answers old new d Shows (Err NoMemory) = Unit {0}
