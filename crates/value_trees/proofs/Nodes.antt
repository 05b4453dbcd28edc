-- An expression of a typed program is made of its operands, and a statement of its parts.
use Rattle.std.proofs.Common.{◌≡◌, ℕ, suc, List, [], ◌∷◌, ◌++◌, length, map, get_or, Option, Some, None, refl, sym, ap}
use Rattle.std.proofs.Common.{◌∙◌}
use Rattle.std.specs.Prelude.{slice_get}
use Rattle.std.proofs.lemmas.List.{map-append}
use Rattle.ck_base.specs.declared.positions.Pos.{Pos}
use Rattle.c_tree.specs.Terms as tree
use Rattle.c_tree.specs.Terms.{Shape, Term, term, terms, type_of, Form, Action, action, actions}
use Rattle.c_tree.specs.Types.{Ty}
use Rattle.c_tree.specs.Views.{types_of, type_at, kind_term, expr_from, no_term, terms_of, term_at, operands}
use Rattle.c_tree.specs.Views.{kind_action, stmt_from, no_action, actions_of, action_at, listed, is_some, label_of}
use Rattle.c_tree.specs.Views.{same_number, values, parts, IsOrdered}
use Rattle.c_tree.specs.WellTyped.{type_in}
use Rattle.c_tree.specs.declared.typed.Expr.{Expr}
use Rattle.c_tree.specs.declared.typed.ExprKind.{ExprKind}
use Rattle.c_tree.specs.declared.typed.ExprKind.TheVariants as exprs
use Rattle.c_tree.specs.declared.typed.Stmt.{Stmt}
use Rattle.c_tree.specs.declared.typed.StmtKind.{StmtKind}
use Rattle.c_tree.specs.declared.typed.StmtKind.TheVariants as stmts
use Rattle.c_tree.specs.declared.typed.Typed.{Typed}
use Rattle.c_tree.proofs.Forest.{forest_reads}

map_same : {T : Type 0} (f g : ℕ → T) (xs : List ℕ) → ((j a : ℕ) → slice_get xs j ≡ Some a → f a ≡ g a) →
    map f xs ≡ map g xs
map_same f g [] h = refl
map_same f g (x ∷ xs) h =
    ap (λ z. z ∷ map f xs) (h 0 x refl) ∙ ap (λ z. g x ∷ z) (map_same f g xs (λ j a e. h (suc j) a e))

-- ---- expressions

abbrev pub shape_of : List Ty → ExprKind → Shape
shape_of ts (exprs.Constant n) = tree.Constant n
shape_of ts (exprs.Literal k) = tree.Literal k
shape_of ts (exprs.Var k) = tree.Var k
shape_of ts (exprs.Global k) = tree.Global k
shape_of ts (exprs.Fun k) = tree.Fun k
shape_of ts (exprs.Load a) = tree.Load
shape_of ts (exprs.Decay a) = tree.Decay
shape_of ts (exprs.Deref a) = tree.Deref
shape_of ts (exprs.Member a k) = tree.Member k
shape_of ts (exprs.Address a) = tree.Address
shape_of ts (exprs.Convert a) = tree.Convert
shape_of ts (exprs.Unary o a) = tree.Unary o
shape_of ts (exprs.Int o a b) = tree.Arithmetic o
shape_of ts (exprs.Capability o a b r) = tree.Capability o r
shape_of ts (exprs.Plus a b m) = tree.Plus m
shape_of ts (exprs.Difference a b) = tree.Difference
shape_of ts (exprs.Compare o a b) = tree.Compare o
shape_of ts (exprs.And a b) = tree.And
shape_of ts (exprs.Or a b) = tree.Or
shape_of ts (exprs.Conditional a b c) = tree.Conditional
shape_of ts (exprs.Comma a b) = tree.Comma
shape_of ts (exprs.Assign a b) = tree.Assign
shape_of ts (exprs.Compound o a b of) = tree.Compound o (type_at ts of)
shape_of ts (exprs.Step a adds in_front) = tree.Step adds in_front
shape_of ts (exprs.Call f xs) = tree.Call
shape_of ts (exprs.Library k xs) = tree.Library k

pub kind_is : (ts : List Ty) (k : ExprKind) (t : Ty) (p : Pos) (go : ℕ → Term) →
    kind_term ts k t p go ≡ term (shape_of ts k) (terms (map go (operands k))) t p
kind_is ts (exprs.Constant n) t p go = refl
kind_is ts k t p go = refl

module _ (p : Typed) (o : IsOrdered p) where
  abbrev x : ℕ → Term
  x k = term_at (terms_of p) k

  pub expression_made : (k : ℕ) (e : Expr) → slice_get p.exprs k ≡ Some e →
      x k ≡ term (shape_of (types_of p.types) e.kind) (terms (map x (operands e.kind))) (type_in p e.of) e.pos
  expression_made k e h =
      let r = forest_reads (expr_from (types_of p.types)) no_term p.exprs k e h in
      r.is ∙ kind_is (types_of p.types) e.kind (type_in p e.of) e.pos (λ j. get_or r.seen j no_term)
      ∙ ap (λ zs. term (shape_of (types_of p.types) e.kind) (terms zs) (type_in p e.of) e.pos)
      (map_same (λ j. get_or r.seen j no_term) x (operands e.kind)
      (λ j a s. r.before a (o.operands_before k j a e h s)))

  -- by its kind
  pub expression_is : (k : ℕ) (e : Expr) → slice_get p.exprs k ≡ Some e →
      x k ≡ kind_term (types_of p.types) e.kind (type_in p e.of) e.pos x
  expression_is k e h =
      expression_made k e h ∙ sym (kind_is (types_of p.types) e.kind (type_in p e.of) e.pos x)

  pub expression_type : (k : ℕ) (e : Expr) → slice_get p.exprs k ≡ Some e → type_of (x k) ≡ type_in p e.of
  expression_type k e h = ap type_of (expression_made k e h)

-- ---- statements

abbrev pub form_of : StmtKind → Form
form_of (stmts.Expr a) = tree.Evaluate
form_of (stmts.Init var offset a) = tree.Init var offset
form_of (stmts.Block vars body) = tree.Block vars
form_of (stmts.If a x y) = tree.If
form_of (stmts.While a x) = tree.While
form_of (stmts.Do x a) = tree.Do
form_of (stmts.For vars first a b x) = tree.For vars (length first) (is_some a) (is_some b)
form_of (stmts.Switch a vars labels body) = tree.Switch vars (map label_of labels)
form_of stmts.Break = tree.Break
form_of stmts.Continue = tree.Continue
form_of (stmts.Return a) = tree.Return
form_of stmts.Empty = tree.Empty

two_listed : {T : Type 0} (f : ℕ → T) (a b : Option ℕ) →
    listed f a ++ listed f b ≡ map f (listed same_number a ++ listed same_number b)
two_listed f None None = refl
two_listed f None (Some b) = refl
two_listed f (Some a) None = refl
two_listed f (Some a) (Some b) = refl

one_listed : {T : Type 0} (f : ℕ → T) (a : Option ℕ) → listed f a ≡ map f (listed same_number a)
one_listed f None = refl
one_listed f (Some a) = refl

action_is : (es : List Term) (k : StmtKind) (p : Pos) (go : ℕ → Action) →
    kind_action es k p go ≡ action (form_of k) (terms (map (term_at es) (values k))) (actions (map go (parts k))) p
action_is es (stmts.If a x y) p go =
    ap (λ ys. action tree.If (terms (term_at es a ∷ [])) (actions (go x ∷ ys)) p) (one_listed go y)
action_is es (stmts.For vars first a b x) p go =
    let form = form_of (stmts.For vars first a b x) in
    ap (λ xs. action form (terms xs) (actions (map go first ++ go x ∷ [])) p) (two_listed (term_at es) a b)
    ∙ ap (λ ys. action form (terms (map (term_at es) (listed same_number a ++ listed same_number b))) (actions ys) p)
    (sym (map-append go first (x ∷ [])))
action_is es (stmts.Return a) p go =
    ap (λ xs. action tree.Return (terms xs) (actions []) p) (one_listed (term_at es) a)
action_is es k p go = refl

module _ (p : Typed) (o : IsOrdered p) where
  abbrev st : ℕ → Action
  st k = action_at (actions_of p) k

  pub statement_made : (k : ℕ) (s : Stmt) → slice_get p.stmts k ≡ Some s →
      st k ≡ action (form_of s.kind) (terms (map (term_at (terms_of p)) (values s.kind)))
      (actions (map st (parts s.kind))) s.pos
  statement_made k s h =
      let r = forest_reads (stmt_from (terms_of p)) no_action p.stmts k s h in
      r.is ∙ action_is (terms_of p) s.kind s.pos (λ j. get_or r.seen j no_action)
      ∙ ap (λ zs. action (form_of s.kind) (terms (map (term_at (terms_of p)) (values s.kind))) (actions zs) s.pos)
      (map_same (λ j. get_or r.seen j no_action) st (parts s.kind) (λ j a e. r.before a (o.parts_before k j a s h e)))

  -- by its kind
  pub statement_is : (k : ℕ) (s : Stmt) → slice_get p.stmts k ≡ Some s →
      st k ≡ kind_action (terms_of p) s.kind s.pos st
  statement_is k s h = statement_made k s h ∙ sym (action_is (terms_of p) s.kind s.pos st)
