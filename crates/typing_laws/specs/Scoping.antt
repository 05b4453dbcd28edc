-- Where a variable may be named (C11 6.2.1): a parameter in its whole function, another variable in the block that
-- declares it.
use Rattle.std.specs.Prelude.{◌≡◌, ℕ, ◌⊎◌, List, [], ◌∷◌, ◌++◌, Some, slice_get}
use Rattle.c_tree.specs.declared.typed.FunDef.{FunDef}
use Rattle.c_tree.specs.declared.typed.Typed.{Typed}
use Rattle.c_tree.specs.Terms.{Shape, Var, Term, Terms, term, no_terms, with_term, Form, Init, For, Action, Actions}
use Rattle.c_tree.specs.Terms.{action, no_actions, with_action}
use Rattle.c_tree.specs.Views.{actions_of, action_at}
use Rattle.c_tree.specs.WellTyped.{form_vars}

-- a variable is in scope, where these are
abbrev pub IsAmong : List ℕ → ℕ → Type 0
IsAmong [] k = ⊥
IsAmong (j ∷ js) k = (j ≡ k) ⊎ IsAmong js k

abbrev pub ShapeScoped : List ℕ → Shape → Type 0
ShapeScoped js (Var k) = IsAmong js k
ShapeScoped js x = Unit {0}

-- an expression names variables that are in scope
abbrev mutual
  pub TermScoped : List ℕ → Term → Type 0
  TermScoped js (term x xs t p) = ShapeScoped js x × TermsScoped js xs

  pub TermsScoped : List ℕ → Terms → Type 0
  TermsScoped js no_terms = Unit {0}
  TermsScoped js (with_term x xs) = TermScoped js x × TermsScoped js xs

-- the variables that a `for` declares are in scope in its test and its step too (6.8.5p5)
abbrev pub in_values : Form → List ℕ → List ℕ
in_values (For vars n a b) js = vars ++ js
in_values x js = js

abbrev pub FormScoped : List ℕ → Form → Type 0
FormScoped js (Init k offset) = IsAmong js k
FormScoped js x = Unit {0}

-- a statement names variables that are in scope: its own block's are in its parts
abbrev mutual
  pub ActionScoped : List ℕ → Action → Type 0
  ActionScoped js (action x xs ys p) =
      FormScoped js x × TermsScoped (in_values x js) xs × ActionsScoped (form_vars x ++ js) ys

  pub ActionsScoped : List ℕ → Actions → Type 0
  ActionsScoped js no_actions = Unit {0}
  ActionsScoped js (with_action x xs) = ActionScoped js x × ActionsScoped js xs

-- each function's body, where its parameters are in scope
abbrev pub AreScoped : Typed → Type 0
AreScoped p = (k : ℕ) (f : FunDef) → slice_get p.funs k ≡ Some f →
    ActionScoped f.params (action_at (actions_of p) f.body)
