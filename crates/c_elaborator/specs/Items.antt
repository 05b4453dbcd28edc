-- What declarations and statements give, by the numbers of statements.
use Rattle.std.specs.Prelude.{◌≡◌, ℕ, ◌<◌, List, [], ◌∷◌, length, map, Some, slice_get}
use Rattle.c_tree.specs.Terms.{Action}
use Rattle.c_tree.specs.Readings as meant
use Rattle.c_tree.specs.Scopes.{State}
use Rattle.c_tree.specs.Views.{values}
use Rattle.c_tree.specs.declared.typed.StmtKind.{StmtKind}
use Rattle.c_expressions.specs.Nodes.{IsWhole, type_in, type_count}
use Rattle.c_elaborator.specs.declared.work.Work.{Work}
use Rattle.c_elaborator.specs.Work.{Shows}
use Rattle.c_elaborator.specs.Answers.{Keeps, action_in, action_count}
use Rattle.c_elaborator.specs.declared.items.Context.{Context}
use Rattle.c_elaborator.specs.declared.items.Items.{Items}

-- ---- where a statement stands

abbrev pub ContextThere : Work → Context → Type 0
ContextThere w c = c.gives < type_count w.nodes

abbrev pub context_in : Work → Context → meant.Context
context_in w c = record { gives = type_in w.nodes c.gives; in_loop = c.in_loop; breakable = c.breakable }

-- ---- statements

-- the expressions that a statement names are there
abbrev pub ValuesThere : ℕ → StmtKind → Type 0
ValuesThere n k = (j a : ℕ) → slice_get (values k) j ≡ Some a → a < n

abbrev pub ActionThere : Work → ℕ → Type 0
ActionThere w k = k < action_count w

abbrev pub IsAction : Work → ℕ → State → Action → Type 0
IsAction w k s x = x ≡ action_in w k

-- a statement that is all that is given
abbrev pub IsOnlyAction : Work → ℕ → State → List Action → Type 0
IsOnlyAction w k s xs = xs ≡ action_in w k ∷ []

-- beside what stood in the old work, the new one has this statement
pub record AddsAction (old new : Work) (k : ℕ) (x : Action) : Type 0 where
  pub whole : IsWhole new.nodes
  pub keeps : Keeps old new
  pub there : k < action_count new
  pub is : action_in new k ≡ x
  pub shows : (s : State) → Shows old s → Shows new s

-- ---- what is given

abbrev pub ActionsThere : Work → List ℕ → Type 0
ActionsThere w [] = Unit {0}
ActionsThere w (k ∷ ks) = (k < action_count w) × ActionsThere w ks

abbrev pub ItemsThere : Work → Items → Type 0
ItemsThere w i = ActionsThere w i.actions.items

-- one statement
abbrev pub OnlyThere : Work → Items → Type 0
OnlyThere w i = ItemsThere w i × (length i.actions.items ≡ 1)

abbrev pub items_in : Work → Items → meant.Items
items_in w i = record { vars = i.vars.items; actions = map (action_in w) i.actions.items }

abbrev pub IsItems : Work → Items → State → meant.Items → Type 0
IsItems w i s a = a ≡ items_in w i
