-- The weight of a program by its lists is that of its functions by their trees, so programs that stand for one program
-- weigh the same.
use Rattle.std.proofs.Common.{◌≡◌, ℕ, zero, suc, ◌+◌, ◌<◌, List, [], ◌∷◌, ◌++◌, length, Some, None, refl, sym, ap, ◌∙◌}
use Rattle.std.proofs.Common.{arith}
use Rattle.std.specs.Prelude.{slice_get, slice_index_or, sum_by, flat_map, map}
use Rattle.std.proofs.lemmas.List.{map_push}
use Rattle.std.proofs.lemmas.List.Sums.{sum_by-cons, sum_by-append}
use Rattle.ck_base.specs.declared.positions.Pos.{Pos}
use Rattle.c_tree.specs.declared.typed.Expr.{Expr}
use Rattle.c_tree.specs.declared.typed.ExprKind.{ExprKind}
use Rattle.c_tree.specs.declared.typed.ExprKind.TheVariants as exprs
use Rattle.c_tree.specs.declared.typed.Stmt.{Stmt}
use Rattle.c_tree.specs.declared.typed.StmtKind.{StmtKind}
use Rattle.c_tree.specs.declared.typed.StmtKind.TheVariants as stmts
use Rattle.c_tree.specs.declared.typed.FunDef.{FunDef}
use Rattle.c_tree.specs.declared.typed.Typed.{Typed}
use Rattle.c_tree.specs.Types.{Ty}
use Rattle.c_tree.specs.Terms.{Term, terms, Action, actions, Program}
use Rattle.c_tree.specs.Weight.{kind_weight, expr_weight, labels_of, stmt_weight, fun_weight, weight}
use Rattle.c_tree.specs.TreeWeight.{term_weight, terms_weight, action_weight, actions_weight, function_weight}
use Rattle.c_tree.specs.TreeWeight.{expression_weight, statement_weight, routine_weight, program_weight}
use Rattle.c_tree.specs.Views.{types_of, type_at, kind_term, expr_from, no_term, terms_of, term_at, kind_action}
use Rattle.c_tree.specs.Views.{stmt_from, no_action, actions_of, action_at, operands, values, parts, expression_uses}
use Rattle.c_tree.specs.Views.{statement_uses, routine_of, Shows, IsOrdered}
use Rattle.c_tree.specs.Views.{label_of, variable_of}
use Rattle.c_tree.proofs.Forest.{forest_reads}
use Rattle.c_tree.proofs.Uses.{each_of, each_append, each_flat, each_map, used_once, sum_upto, sum_same, sum_flat}
use Rattle.c_tree.proofs.Uses.{sum_both, sum_map}

-- ---- one node

terms_map : (go : ℕ → Term) (xs : List ℕ) → terms_weight (terms (map go xs)) ≡ sum_by (λ j. term_weight (go j)) xs
terms_map go [] = refl
terms_map go (x ∷ xs) = omega (arith, sum_by-cons (λ j. term_weight (go j)) x xs, terms_map go xs)

actions_map : (go : ℕ → Action) (xs : List ℕ) →
    actions_weight (actions (map go xs)) ≡ sum_by (λ j. action_weight (go j)) xs
actions_map go [] = refl
actions_map go (x ∷ xs) = omega (arith, sum_by-cons (λ j. action_weight (go j)) x xs, actions_map go xs)

kind_weighs : (ts : List Ty) (k : ExprKind) (t : Ty) (p : Pos) (go : ℕ → Term) →
    term_weight (kind_term ts k t p go) ≡ kind_weight k + sum_by (λ j. term_weight (go j)) (operands k)
kind_weighs ts (exprs.Constant n) t p go = omega arith
kind_weighs ts (exprs.Literal k) t p go = omega arith
kind_weighs ts (exprs.Var k) t p go = omega arith
kind_weighs ts (exprs.Global k) t p go = omega arith
kind_weighs ts (exprs.Fun k) t p go = omega arith
kind_weighs ts (exprs.Load a) t p go = omega arith
kind_weighs ts (exprs.Decay a) t p go = omega arith
kind_weighs ts (exprs.Deref a) t p go = omega arith
kind_weighs ts (exprs.Member a k) t p go = omega arith
kind_weighs ts (exprs.Address a) t p go = omega arith
kind_weighs ts (exprs.Convert a) t p go = omega arith
kind_weighs ts (exprs.Unary o a) t p go = omega arith
kind_weighs ts (exprs.Int o a b) t p go = omega arith
kind_weighs ts (exprs.Capability o a b r) t p go = omega arith
kind_weighs ts (exprs.Plus a b m) t p go = omega arith
kind_weighs ts (exprs.Difference a b) t p go = omega arith
kind_weighs ts (exprs.Compare o a b) t p go = omega arith
kind_weighs ts (exprs.And a b) t p go = omega arith
kind_weighs ts (exprs.Or a b) t p go = omega arith
kind_weighs ts (exprs.Conditional a b c) t p go = omega arith
kind_weighs ts (exprs.Comma a b) t p go = omega arith
kind_weighs ts (exprs.Assign a b) t p go = omega arith
kind_weighs ts (exprs.Compound o a b of) t p go = omega arith
kind_weighs ts (exprs.Step a adds in_front) t p go = omega arith
kind_weighs ts (exprs.Call f xs) t p go = omega (arith, sum_by-cons (λ j. term_weight (go j)) f xs, terms_map go xs)
kind_weighs ts (exprs.Library k xs) t p go = omega (arith, terms_map go xs)

abbrev value_sum : List Term → List ℕ → ℕ
value_sum es xs = sum_by (λ j. term_weight (term_at es j)) xs

abbrev part_sum : (ℕ → Action) → List ℕ → ℕ
part_sum go xs = sum_by (λ j. action_weight (go j)) xs

firsts : (go : ℕ → Action) (first : List ℕ) (x : ℕ) →
    actions_weight (actions (map go first ++ go x ∷ [])) ≡ part_sum go (first ++ x ∷ [])
firsts go first x = ap (λ xs. actions_weight (actions xs)) (sym (map_push go first x))
    ∙ actions_map go (first ++ x ∷ [])

length_map : {A B : Type 0} (f : A → B) (xs : List A) → length (map f xs) ≡ length xs
length_map f [] = refl
length_map f (x ∷ xs) = omega (arith, length_map f xs)

slice_get_below : {A : Type 0} (xs : List A) (k : ℕ) (a : A) → slice_get xs k ≡ Some a → k < length xs
slice_get_below [] k a e = absurd cc
slice_get_below (x ∷ xs) zero a e = omega arith
slice_get_below (x ∷ xs) (suc k) a e = omega (arith, slice_get_below xs k a e)

stmt_weighs : (es : List Term) (k : StmtKind) (p : Pos) (go : ℕ → Action) →
    action_weight (kind_action es k p go) ≡ 1 + labels_of k + value_sum es (values k) + part_sum go (parts k)
stmt_weighs es (stmts.Expr a) p go = omega arith
stmt_weighs es (stmts.Init var offset a) p go = omega arith
stmt_weighs es (stmts.Block vars body) p go = omega (arith, actions_map go body)
stmt_weighs es (stmts.If a x None) p go = omega arith
stmt_weighs es (stmts.If a x (Some y)) p go = omega arith
stmt_weighs es (stmts.While a x) p go = omega arith
stmt_weighs es (stmts.Do x a) p go = omega arith
stmt_weighs es (stmts.For vars first None None x) p go = omega (arith, firsts go first x)
stmt_weighs es (stmts.For vars first None (Some b) x) p go = omega (arith, firsts go first x)
stmt_weighs es (stmts.For vars first (Some a) None x) p go = omega (arith, firsts go first x)
stmt_weighs es (stmts.For vars first (Some a) (Some b) x) p go = omega (arith, firsts go first x)
stmt_weighs es (stmts.Switch a vars labels body) p go = omega (arith, actions_map go body, length_map label_of labels)
stmt_weighs es stmts.Break p go = omega arith
stmt_weighs es stmts.Continue p go = omega arith
stmt_weighs es (stmts.Return None) p go = omega arith
stmt_weighs es (stmts.Return (Some a)) p go = omega arith
stmt_weighs es stmts.Empty p go = omega arith

-- ---- the expressions

pub expr_is : (p : Typed) (o : IsOrdered p) (k : ℕ) (e : Expr) → slice_get p.exprs k ≡ Some e →
    expr_weight e + sum_by (expression_weight p) (operands e.kind) ≡ expression_weight p k
expr_is p o k e g =
    let ts = types_of p.types in
    let r = forest_reads (expr_from ts) no_term p.exprs k e g in
    let go : ℕ → Term = λ j. slice_index_or r.seen j no_term in
    let w = kind_weighs ts e.kind (type_at ts e.of) e.pos go in
    let is : expression_weight p k ≡ term_weight (expr_from ts e go) = ap term_weight r.is in
    let same = sum_same (λ j. term_weight (go j)) (expression_weight p) (operands e.kind)
    (each_of (λ j. term_weight (go j) ≡ expression_weight p j) (operands e.kind)
    (λ i j h. ap term_weight (r.before j (o.operands_before k i j e g h)))) in
    omega (arith, w, is, same)

expressions_sum : (p : Typed) → IsOrdered p →
    sum_by expr_weight p.exprs ≡ sum_by (expression_weight p) (flat_map (λ (s : Stmt). values s.kind) p.stmts)
expressions_sum p o =
    let n = length p.exprs in
    let nodes = sum_upto (λ e. expr_weight e + sum_by (expression_weight p) (operands e.kind)) (expression_weight p)
    p.exprs 0 (λ k e g. let z : 0 + k ≡ k = omega arith in rw z (expr_is p o k e g)) in
    let split = sum_both expr_weight (λ (e : Expr). sum_by (expression_weight p) (operands e.kind)) p.exprs in
    let flat = sum_flat (expression_weight p) (λ (e : Expr). operands e.kind) p.exprs in
    let inner = each_flat (λ x. x < n) (λ (e : Expr). operands e.kind) p.exprs
    (λ k e g. each_of (λ x. x < n) (operands e.kind)
    (λ j a h. let b = o.operands_before k j a e g h in let c = slice_get_below p.exprs k e g in omega arith)) in
    let outer = each_flat (λ x. x < n) (λ (s : Stmt). values s.kind) p.stmts
    (λ k s g. each_of (λ x. x < n) (values s.kind) (λ j a h. o.values_there k j a s g h)) in
    let uses = used_once (expression_weight p) n (expression_uses p) (each_append (λ x. x < n) _ _ inner outer)
    o.expressions_once in
    let sum = sum_by-append (expression_weight p) (flat_map (λ (e : Expr). operands e.kind) p.exprs)
    (flat_map (λ (s : Stmt). values s.kind) p.stmts) in
    omega (arith, nodes, split, flat, uses, sum)

-- ---- the statements

-- a statement with its expressions, without its parts
abbrev pub own : Typed → Stmt → ℕ
own p s = stmt_weight s + sum_by (expression_weight p) (values s.kind)

pub stmt_is : (p : Typed) (o : IsOrdered p) (k : ℕ) (s : Stmt) → slice_get p.stmts k ≡ Some s →
    own p s + sum_by (statement_weight p) (parts s.kind) ≡ statement_weight p k
stmt_is p o k s g =
    let es = terms_of p in
    let r = forest_reads (stmt_from es) no_action p.stmts k s g in
    let go : ℕ → Action = λ j. slice_index_or r.seen j no_action in
    let w = stmt_weighs es s.kind s.pos go in
    let is : statement_weight p k ≡ action_weight (stmt_from es s go) = ap action_weight r.is in
    let same = sum_same (λ j. action_weight (go j)) (statement_weight p) (parts s.kind)
    (each_of (λ j. action_weight (go j) ≡ statement_weight p j) (parts s.kind)
    (λ i j h. ap action_weight (r.before j (o.parts_before k i j s g h)))) in
    omega (arith, w, is, same)

statements_sum : (p : Typed) → IsOrdered p →
    sum_by stmt_weight p.stmts + sum_by (expression_weight p) (flat_map (λ (s : Stmt). values s.kind) p.stmts)
    ≡ sum_by (λ (f : FunDef). statement_weight p f.body) p.funs
statements_sum p o =
    let n = length p.stmts in
    let nodes = sum_upto (λ s. own p s + sum_by (statement_weight p) (parts s.kind)) (statement_weight p) p.stmts 0
    (λ k s g. let z : 0 + k ≡ k = omega arith in rw z (stmt_is p o k s g)) in
    let split = sum_both (own p) (λ (s : Stmt). sum_by (statement_weight p) (parts s.kind)) p.stmts in
    let split_own = sum_both stmt_weight (λ (s : Stmt). sum_by (expression_weight p) (values s.kind)) p.stmts in
    let flat = sum_flat (statement_weight p) (λ (s : Stmt). parts s.kind) p.stmts in
    let flat_values = sum_flat (expression_weight p) (λ (s : Stmt). values s.kind) p.stmts in
    let inner = each_flat (λ x. x < n) (λ (s : Stmt). parts s.kind) p.stmts
    (λ k s g. each_of (λ x. x < n) (parts s.kind)
    (λ j a h. let b = o.parts_before k j a s g h in let c = slice_get_below p.stmts k s g in omega arith)) in
    let outer = each_map (λ x. x < n) (λ (f : FunDef). f.body) p.funs (λ k f g. (o.funs k f g).1) in
    let uses = used_once (statement_weight p) n (statement_uses p) (each_append (λ x. x < n) _ _ inner outer)
    o.statements_once in
    let sum = sum_by-append (statement_weight p) (flat_map (λ (s : Stmt). parts s.kind) p.stmts)
    (map (λ (f : FunDef). f.body) p.funs) in
    let bodies = sum_map (statement_weight p) (λ (f : FunDef). f.body) p.funs in
    omega (arith, nodes, split, split_own, flat, flat_values, uses, sum, bodies)

-- ---- the whole program

pub weight_of_functions : (p : Typed) → IsOrdered p → weight p ≡ sum_by (function_weight p) p.funs
unfolding weight
weight_of_functions p o =
    let bodies = sum_both fun_weight (λ (f : FunDef). statement_weight p f.body) p.funs in
    omega (arith, expressions_sum p o, statements_sum p o, bodies)

routines_weigh : (ts : List Ty) (xs : List Action) (fs : List FunDef) →
    sum_by routine_weight (map (routine_of ts xs) fs)
    ≡ sum_by (λ (f : FunDef). 8 + length f.vars + action_weight (action_at xs f.body)) fs
routines_weigh ts xs [] = refl
routines_weigh ts xs (f ∷ fs) =
    omega (
      arith,
      sum_by-cons routine_weight (routine_of ts xs f) (map (routine_of ts xs) fs),
      sum_by-cons (λ (g : FunDef). 8 + length g.vars + action_weight (action_at xs g.body)) f fs,
      routines_weigh ts xs fs,
      length_map (variable_of ts) f.vars,
    )

pub weight_of_program : (p : Typed) (q : Program) → IsOrdered p → Shows p q → weight p ≡ program_weight q
weight_of_program p q o s =
    weight_of_functions p o ∙ sym (routines_weigh (types_of p.types) (actions_of p) p.funs)
    ∙ ap (sum_by routine_weight) s.routines
