-- Sums over the nodes of a tree, of a number for each term and each action.
use Rattle.std.specs.Prelude.{ℕ, ◌+◌}
use Rattle.c_tree.specs.Terms.{Term, term, Terms, no_terms, with_term, Action, action, Actions, no_actions, with_action}

abbrev mutual
  pub term_total : (Term → ℕ) → Term → ℕ
  term_total w (term n xs t p) = w (term n xs t p) + terms_total w xs

  pub terms_total : (Term → ℕ) → Terms → ℕ
  terms_total w no_terms = 0
  terms_total w (with_term x xs) = term_total w x + terms_total w xs

abbrev mutual
  pub action_total : (Term → ℕ) → (Action → ℕ) → Action → ℕ
  action_total w v (action f xs ys p) = v (action f xs ys p) + terms_total w xs + actions_total w v ys

  pub actions_total : (Term → ℕ) → (Action → ℕ) → Actions → ℕ
  actions_total w v no_actions = 0
  actions_total w v (with_action x xs) = action_total w v x + actions_total w v xs
