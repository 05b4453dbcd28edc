-- Sums over the nodes that a node names, as 64 bits count them.
use Rattle.std.proofs.Common.{◌≡◌, ℕ, suc, ◌+◌, ◌<◌, ◌≤◌, List, [], ◌∷◌, ◌++◌, length, get_or, Some}
use Rattle.std.proofs.Common.{refl, ap, ◌∙◌, arith, inl, inr, length-append}
use Rattle.std.specs.Prelude.{slice_get, slice_index, sum_by}
use Rattle.std.proofs.Math.Seq.{get_or-append_seam}
use Rattle.std.proofs.Math.ListN.{get_or-append}
use Rattle.std.proofs.Math.Nat.{eq-or-lt_of_le}
use Rattle.std.proofs.lemmas.List.Sums.{sum_by-cons}
use Rattle.std.proofs.lemmas.Option.{slice_get-get_or}
use Rattle.c_tree.specs.declared.typed.Expr.{Expr}
use Rattle.c_tree.specs.declared.typed.Stmt.{Stmt}
use Rattle.c_tree.specs.declared.typed.Typed.{Typed}
use Rattle.c_tree.specs.TreeWeight.{expression_weight, statement_weight}
use Rattle.c_tree.specs.Views.{operands, values, parts, IsOrdered}
use Rattle.c_tree.specs.Weight.{counted, expr_weight, stmt_weight}
use Rattle.c_tree.proofs.Weighed.{expr_is, stmt_is}
use Rattle.accepted_files.specs.Sums.{AreThere, AreSums}

-- ---- lists

pub are_there : (sums nodes : List ℕ) → ((j k : ℕ) → slice_get nodes j ≡ Some k → k < length sums) → AreThere sums nodes
are_there sums nodes h = λ i d l. h i (get_or nodes i d) (slice_get-get_or nodes i d l)

pub behind : (sums : List ℕ) (k : ℕ) (nodes : List ℕ) → AreThere sums (k ∷ nodes) → AreThere sums nodes
behind sums k nodes t = λ i d l. t (suc i) d (omega arith)

-- the sums of some nodes may stand for their weights
pub sums_are : (weight : ℕ → ℕ) (sums : List ℕ) → AreSums weight sums → (nodes : List ℕ) → AreThere sums nodes →
    (a : ℕ) → counted (a + sum_by (slice_index sums) nodes) ≡ counted (a + sum_by weight nodes)
sums_are weight sums h [] t a = refl
sums_are weight sums h (k ∷ ks) t a =
    omega (
      arith,
      sum_by-cons (slice_index sums) k ks,
      sum_by-cons weight k ks,
      h k (t 0 0 (omega arith)),
      sums_are weight sums h ks (behind sums k ks t) (a + slice_index sums k),
    )

pub one_more : (weight : ℕ → ℕ) (sums : List ℕ) (s : ℕ) → AreSums weight sums → s ≡ counted (weight (length sums)) →
    AreSums weight (sums ++ s ∷ [])
one_more weight sums s h e k l =
    let le : k ≤ length sums = omega (arith, length-append sums (s ∷ [])) in
    elim (eq-or-lt_of_le le) [
      | inl same ↦ rw same (get_or-append_seam sums s [] 0 ∙ e)
      | inr below ↦ get_or-append sums (s ∷ []) 0 k below ∙ h k below
    ]

-- ---- the next node

pub expression_next : (p : Typed) (o : IsOrdered p) (sums : List ℕ) → AreSums (expression_weight p) sums → (e : Expr) →
    slice_get p.exprs (length sums) ≡ Some e → (s : ℕ) →
    s ≡ counted (expr_weight e + sum_by (slice_index sums) (operands e.kind)) →
    AreSums (expression_weight p) (sums ++ s ∷ [])
expression_next p o sums h e g s i =
    let there = are_there sums (operands e.kind) (λ j k n. o.operands_before (length sums) j k e g n) in
    one_more (expression_weight p) sums s h
    (i ∙ sums_are (expression_weight p) sums h (operands e.kind) there (expr_weight e)
    ∙ ap counted (expr_is p o (length sums) e g))

pub statement_next : (p : Typed) (o : IsOrdered p) (exprs sums : List ℕ) → AreSums (expression_weight p) exprs →
    length exprs ≡ length p.exprs → AreSums (statement_weight p) sums → (s : Stmt) →
    slice_get p.stmts (length sums) ≡ Some s → (t : ℕ) →
    t ≡ counted (stmt_weight s + sum_by (slice_index exprs) (values s.kind) + sum_by (slice_index sums) (parts s.kind)) →
    AreSums (statement_weight p) (sums ++ t ∷ [])
statement_next p o exprs sums v n h s g t i =
    let there = are_there exprs (values s.kind) (λ j k m. rw n (o.values_there (length sums) j k s g m)) in
    let inner = are_there sums (parts s.kind) (λ j k m. o.parts_before (length sums) j k s g m) in
    let a = sums_are (expression_weight p) exprs v (values s.kind) there
    (stmt_weight s + sum_by (slice_index sums) (parts s.kind)) in
    let b = sums_are (statement_weight p) sums h (parts s.kind) inner
    (stmt_weight s + sum_by (expression_weight p) (values s.kind)) in
    one_more (statement_weight p) sums t h (omega (arith, i, a, b, stmt_is p o (length sums) s g))
