-- Expressions and statements whose objects and functions have new numbers.
use Rattle.std.proofs.Common.{◌≡◌, ℕ, zero, suc, ◌<◌, List, [], ◌∷◌, ◌++◌, length, get_or, set, take, drop, map, refl}
use Rattle.std.proofs.Common.{sym, ap, ◌∙◌, arith}
use Rattle.std.specs.Prelude.{slice_index_or}
use Rattle.std.proofs.Math.ListN.{get_or-map}
use Rattle.std.proofs.Math.Path.{fun_ext}
use Rattle.std.proofs.lemmas.List.{map-append, map-id}
use Rattle.ck_base.specs.declared.positions.Pos.{Pos}
use Rattle.c_tree.specs.declared.typed.Expr.{Expr}
use Rattle.c_tree.specs.declared.typed.ExprKind.{ExprKind}
use Rattle.c_tree.specs.declared.typed.ExprKind.TheVariants as exprs
use Rattle.c_tree.specs.declared.typed.Stmt.{Stmt}
use Rattle.c_tree.specs.declared.typed.StmtKind.{StmtKind}
use Rattle.c_tree.specs.Types.{Ty}
use Rattle.c_tree.specs.Terms as tree
use Rattle.c_tree.specs.Terms.{Term, Terms, term, terms, with_term, Action, Actions, actions, with_action}
use Rattle.c_tree.specs.Views.{grow, forest, type_at, kind_term, expr_from, no_term, term_at, kind_action, stmt_from}
use Rattle.c_tree.specs.Views.{no_action, values, parts}
use Rattle.c_tree.specs.Programs.{Numbers, term_with, terms_with, action_with, actions_with}
use Rattle.c_copy.specs.Copying.{stmt_form, kind_with, expr_with, terms_in, actions_in}
use Rattle.c_copy.proofs.Copies.{action_is, action_same}

-- ---- lists whose items name earlier items

module _ {N M T : Type 0} (make : N → (ℕ → T) → T) (remake : M → (ℕ → T) → T) (bad : T) (f : T → T) (g : N → M)
    (same_bad : f bad ≡ bad)
    (same : (x : N) (go : ℕ → T) → remake (g x) (λ j. f (go j)) ≡ f (make x go)) where
  grow_mapped : (ns : List N) (ts : List T) → grow remake bad (map g ns) (map f ts) ≡ map f (grow make bad ns ts)
  unfolding grow
  grow_mapped [] ts = refl
  grow_mapped (n ∷ ns) ts =
      let go : ℕ → T = λ k. slice_index_or ts k bad in
      let seen : (λ (k : ℕ). slice_index_or (map f ts) k bad) ≡ (λ (k : ℕ). f (go k)) =
      fun_ext (λ k. ap (get_or (map f ts) k) (sym same_bad) ∙ get_or-map f ts k bad) in
      ap (λ (h : ℕ → T). grow remake bad (map g ns) (map f ts ++ remake (g n) h ∷ [])) seen
      ∙ ap (λ (x : T). grow remake bad (map g ns) (map f ts ++ x ∷ [])) (same n go)
      ∙ ap (grow remake bad (map g ns)) (sym (map-append f ts (make n go ∷ [])))
      ∙ grow_mapped ns (ts ++ make n go ∷ [])

  -- where each item's tree is changed so, all are
  pub forest_mapped : (ns : List N) → forest remake bad (map g ns) ≡ map f (forest make bad ns)
  forest_mapped ns = grow_mapped ns []

-- ---- expressions

terms_mapped : (n : Numbers) (go : ℕ → Term) (ks : List ℕ) →
    terms (map (λ k. term_with n (go k)) ks) ≡ terms_with n (terms (map go ks))
terms_mapped n go [] = refl
terms_mapped n go (k ∷ ks) = ap (λ (xs : Terms). with_term (term_with n (go k)) xs) (terms_mapped n go ks)

kind_renumbered : (n : Numbers) (ts : List Ty) (k : ExprKind) (t : Ty) (p : Pos) (go : ℕ → Term) →
    kind_term ts (kind_with n k) t p (λ j. term_with n (go j)) ≡ term_with n (kind_term ts k t p go)
kind_renumbered n ts (exprs.Call f xs) t p go =
    ap (λ (ys : Terms). term tree.Call (with_term (term_with n (go f)) ys) t p) (terms_mapped n go xs)
kind_renumbered n ts (exprs.Library k xs) t p go =
    ap (λ (ys : Terms). term (tree.Library k) ys t p) (terms_mapped n go xs)
kind_renumbered n ts _ t p go = refl

pub terms_renumbered : (n : Numbers) (ts : List Ty) (es : List Expr) →
    terms_in ts (map (expr_with n) es) ≡ map (term_with n) (terms_in ts es)
terms_renumbered n ts es =
    forest_mapped (expr_from ts) (expr_from ts) no_term (term_with n) (expr_with n) refl
    (λ e go. kind_renumbered n ts e.kind (type_at ts e.of) e.pos go) es

-- ---- statements

actions_mapped : (n : Numbers) (go : ℕ → Action) (ks : List ℕ) →
    actions (map (λ k. action_with n (go k)) ks) ≡ actions_with n (actions (map go ks))
actions_mapped n go [] = refl
actions_mapped n go (k ∷ ks) = ap (λ (xs : Actions). with_action (action_with n (go k)) xs) (actions_mapped n go ks)

stmt_renumbered : (n : Numbers) (es : List Term) (k : StmtKind) (p : Pos) (go : ℕ → Action) →
    kind_action (map (term_with n) es) k p (λ j. action_with n (go j)) ≡ action_with n (kind_action es k p go)
stmt_renumbered n es k p go =
    let now = map (term_with n) es in
    let seen : term_at now ≡ (λ (a : ℕ). term_with n (term_at es a)) =
    fun_ext (λ a. get_or-map (term_with n) es a no_term) in
    action_is now k p (λ j. action_with n (go j))
    ∙ action_same (stmt_form k) (stmt_form k) (terms (map (term_at now) (values k)))
    (terms_with n (terms (map (term_at es) (values k)))) (actions (map (λ j. action_with n (go j)) (parts k)))
    (actions_with n (actions (map go (parts k)))) p p refl
    (ap (λ (h : ℕ → Term). terms (map h (values k))) seen ∙ terms_mapped n (term_at es) (values k))
    (actions_mapped n go (parts k)) refl
    ∙ ap (action_with n) (sym (action_is es k p go))

-- the statements over the expressions with the new numbers
pub actions_renumbered : (n : Numbers) (ts : List Ty) (es : List Expr) (ss : List Stmt) →
    actions_in ts (map (expr_with n) es) ss ≡ map (action_with n) (actions_in ts es ss)
actions_renumbered n ts es ss =
    let old = terms_in ts es in
    ap (λ (xs : List Term). forest (stmt_from xs) no_action ss) (terms_renumbered n ts es)
    ∙ ap (forest (stmt_from (map (term_with n) old)) no_action) (sym (map-id ss))
    ∙ forest_mapped (stmt_from old) (stmt_from (map (term_with n) old)) no_action (action_with n) (λ (s : Stmt). s) refl
    (λ s go. stmt_renumbered n old s.kind s.pos go) ss

-- ---- in place

-- what names no object and no function
pub kind_kept : (n : Numbers) (k : ExprKind) → ((j : ℕ) → k ≡ exprs.Global j → ⊥) → ((j : ℕ) → k ≡ exprs.Fun j → ⊥) →
    kind_with n k ≡ k
kind_kept n (exprs.Global k) g f = absurd (g k refl)
kind_kept n (exprs.Fun k) g f = absurd (f k refl)
kind_kept n _ g f = refl

-- the first so many are changed, and now one more
pub turned : {A : Type 0} (f : A → A) (xs : List A) (k : ℕ) (x : A) → k < length xs →
    x ≡ get_or (map f (take k xs) ++ drop k xs) k x →
    set (map f (take k xs) ++ drop k xs) k (f x) ≡ map f (take (suc k) xs) ++ drop (suc k) xs
turned f [] k x lt e = absurd (omega arith)
turned f (y ∷ ys) zero x lt e = ap (λ z. f z ∷ ys) e
turned f (y ∷ ys) (suc k) x lt e = ap (λ zs. f y ∷ zs) (turned f ys k x (omega arith) e)
