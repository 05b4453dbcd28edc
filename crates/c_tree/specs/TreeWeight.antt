-- The weight of one function, as a sum over its tree, and its limit; and of a program as that of its functions.
use Rattle.std.specs.Prelude.{◌≡◌, ℕ, ◌+◌, ◌≤◌, length, sum_by, slice_get, Some}
use Rattle.c_tree.specs.declared.typed.FunDef.{FunDef}
use Rattle.c_tree.specs.declared.typed.Typed.{Typed}
use Rattle.c_tree.specs.Terms.{Shape, Call, Library, Term, term, Terms, no_terms, with_term, Form, Switch, Action}
use Rattle.c_tree.specs.Terms.{action, Actions, no_actions, with_action, Routine, Program}
use Rattle.c_tree.specs.Views.{terms_of, term_at, actions_of, action_at}

-- a call weighs 4, one of a library function among them; another expression weighs 1
abbrev pub shape_weight : Shape → ℕ
shape_weight Call = 4
shape_weight (Library k) = 4
shape_weight n = 1

abbrev mutual
  pub term_weight : Term → ℕ
  term_weight (term n xs t p) = shape_weight n + terms_weight xs

  pub terms_weight : Terms → ℕ
  terms_weight no_terms = 0
  terms_weight (with_term x xs) = term_weight x + terms_weight xs

-- a statement weighs 1, and each label of a `switch` weighs 1 beside it
abbrev pub form_weight : Form → ℕ
form_weight (Switch vars labels) = 1 + length labels
form_weight f = 1

abbrev mutual
  pub action_weight : Action → ℕ
  action_weight (action f xs ys p) = form_weight f + terms_weight xs + actions_weight ys

  pub actions_weight : Actions → ℕ
  actions_weight no_actions = 0
  actions_weight (with_action x xs) = action_weight x + actions_weight xs

-- the weight of expression k with its operands, and of statement k with its expressions and parts
abbrev pub expression_weight : Typed → ℕ → ℕ
expression_weight p k = term_weight (term_at (terms_of p) k)

abbrev pub statement_weight : Typed → ℕ → ℕ
statement_weight p k = action_weight (action_at (actions_of p) k)

-- a function weighs 8, and each of its parameters and other locals weighs 1
abbrev pub function_weight : Typed → FunDef → ℕ
function_weight p f = 8 + length f.vars + action_weight (action_at (actions_of p) f.body)

abbrev pub routine_weight : Routine → ℕ
routine_weight r = 8 + length r.vars + action_weight r.body

abbrev pub program_weight : Program → ℕ
program_weight q = sum_by routine_weight q.routines

-- ---- the limit of each function

abbrev pub function_limit : ℕ
function_limit = 7780

pub record HasLightFunctions (p : Typed) : Type 0 where
  pub each : (k : ℕ) (f : FunDef) → slice_get p.funs k ≡ Some f → function_weight p f ≤ function_limit
