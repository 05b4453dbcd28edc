-- Terms whose numbers name what is there.
use Rattle.std.specs.Prelude.{◌≡◌, ℕ, List}
use Rattle.c_tree.specs.declared.typed.Expr.{Expr}
use Rattle.c_tree.specs.declared.typed.Stmt.{Stmt}
use Rattle.c_tree.specs.Types.{Ty}
use Rattle.c_tree.specs.Terms.{Shape, Form, Term, Terms, term, no_terms, with_term, Action, Actions, action}
use Rattle.c_tree.specs.Terms.{no_actions, with_action}
use Rattle.c_tree.specs.Views.{no_term, term_at, action_at}
use Rattle.c_copy.specs.Copying.{terms_in, actions_in}

-- each part is an expression, and what it names is such
abbrev mutual
  pub Stands : (Shape → Type 0) → Term → Type 0
  Stands P (term n xs t p) = P n × StandAll P xs × (term n xs t p ≡ no_term → ⊥)

  pub StandAll : (Shape → Type 0) → Terms → Type 0
  StandAll P no_terms = Unit {0}
  StandAll P (with_term x xs) = Stands P x × StandAll P xs

-- so are all expressions of a statement, and so is the statement itself
abbrev mutual
  pub ActionStands : (Shape → Type 0) → (Form → Type 0) → Action → Type 0
  ActionStands P Q (action f xs ys p) = Q f × StandAll P xs × ActionsStand P Q ys

  pub ActionsStand : (Shape → Type 0) → (Form → Type 0) → Actions → Type 0
  ActionsStand P Q no_actions = Unit {0}
  ActionsStand P Q (with_action x xs) = ActionStands P Q x × ActionsStand P Q xs

-- expression `k` of a list is so, whatever its type is, and statement `k`
pub record StandsIn (P : Shape → Type 0) (es : List Expr) (k : ℕ) : Type 0 where
  pub types : List Ty
  pub stands : Stands P (term_at (terms_in types es) k)

pub record ActionStandsIn (P : Shape → Type 0) (Q : Form → Type 0) (es : List Expr) (ss : List Stmt) (k : ℕ) :
    Type 0 where
  pub types : List Ty
  pub stands : ActionStands P Q (action_at (actions_in types es ss) k)
