-- The tree of a node is made of the trees of the nodes that it names, whatever stood before it in the list.
use Rattle.std.proofs.Common.{◌≡◌, ℕ, suc, ◌<◌, List, [], ◌∷◌, length, map, Some, None, refl}
use Rattle.std.proofs.Common.{ap, ◌∙◌}
use Rattle.std.specs.Prelude.{slice_get, slice_index_or, ◌++◌}
use Rattle.c_tree.specs.declared.typed.CType.{CType}
use Rattle.c_tree.specs.declared.typed.CType.TheVariants as ctypes
use Rattle.c_tree.specs.declared.typed.Expr.{Expr}
use Rattle.c_tree.specs.declared.typed.ExprKind.{ExprKind}
use Rattle.c_tree.specs.declared.typed.ExprKind.TheVariants as exprs
use Rattle.c_tree.specs.declared.typed.Stmt.{Stmt}
use Rattle.c_tree.specs.declared.typed.StmtKind.{StmtKind}
use Rattle.c_tree.specs.declared.typed.StmtKind.TheVariants as stmts
use Rattle.c_tree.specs.declared.typed.Typed.{Typed}
use Rattle.c_tree.specs.Terms as tree
use Rattle.c_tree.specs.Terms.{Term, terms, step, join, join_three, term, with_term, Action, actions, action}
use Rattle.ck_base.specs.declared.positions.Pos.{Pos}
use Rattle.c_tree.specs.Types.{Ty, Void, Pointer, Array, Function, Const}
use Rattle.c_tree.specs.Views.{tys, type_from, types_of, type_at, Below, IsOrdered, kind_term, expr_from}
use Rattle.c_tree.specs.Views.{no_term, terms_of, term_at, kind_action, stmt_from, no_action, actions_of, action_at}
use Rattle.c_tree.specs.Views.{operands, parts, is_some, label_of, listed}
use Rattle.c_tree.proofs.Forest.{forest_reads}

-- ---- lists of numbers

map_same : {T : Type 0} (f g : ℕ → T) (k : ℕ) (ns : List ℕ) → ((j i : ℕ) → slice_get ns j ≡ Some i → i < k) →
    ((i : ℕ) → i < k → f i ≡ g i) → map f ns ≡ map g ns
map_same f g k [] b h = refl
map_same f g k (n ∷ ns) b h =
    let e = h n (b 0 n refl) in
    let r = map_same f g k ns (λ j. b (suc j)) h in
    cc

-- ---- types

from_same : (n k : ℕ) (c : CType) (f g : ℕ → Ty) → Below n k c → ((i : ℕ) → i < k → f i ≡ g i) →
    type_from c f ≡ type_from c g
from_same n k ctypes.Void f g b h = refl
from_same n k (ctypes.Int i m) f g b h = refl
from_same n k (ctypes.Cap s) f g b h = refl
from_same n k (ctypes.Pointer t) f g b h = ap Pointer (h t b)
from_same n k (ctypes.Array t m) f g b h = ap (λ x. Array x m) (h t b)
from_same n k (ctypes.Struct tag ms) f g b h = refl
from_same n k (ctypes.Union tag ms) f g b h = refl
from_same n k (ctypes.Function t ps) f g b h =
    ap (λ x. Function x (tys (map f ps))) (h t b.0) ∙ ap (λ xs. Function (g t) (tys xs)) (map_same f g k ps b.1 h)
from_same n k (ctypes.Const t) f g b h = ap Const (h t b)
from_same n k (ctypes.Incomplete tag) f g b h = refl

-- the type at a number
pub type_is : (p : Typed) → IsOrdered p → (k : ℕ) (c : CType) → slice_get p.types k ≡ Some c →
    type_at (types_of p.types) k ≡ type_from c (type_at (types_of p.types))
type_is p o k c e =
    let r = forest_reads type_from Void p.types k c e in
    r.is ∙ from_same (length p.types) k c (λ j. slice_index_or r.seen j Void) (type_at (types_of p.types))
    (o.types k c e) r.before

-- ---- expressions

kind_term_same : (ts : List Ty) (kind : ExprKind) (t : Ty) (p : Pos) (f g : ℕ → Term) (k : ℕ) →
    ((j a : ℕ) → slice_get (operands kind) j ≡ Some a → a < k) → ((a : ℕ) → a < k → f a ≡ g a) →
    kind_term ts kind t p f ≡ kind_term ts kind t p g
kind_term_same ts (exprs.Constant n) t p f g k b h = refl
kind_term_same ts (exprs.Literal n) t p f g k b h = refl
kind_term_same ts (exprs.Var n) t p f g k b h = refl
kind_term_same ts (exprs.Global n) t p f g k b h = refl
kind_term_same ts (exprs.Fun n) t p f g k b h = refl
kind_term_same ts (exprs.Load a) t p f g k b h = ap (λ x. step tree.Load x t p) (h a (b 0 a refl))
kind_term_same ts (exprs.Decay a) t p f g k b h = ap (λ x. step tree.Decay x t p) (h a (b 0 a refl))
kind_term_same ts (exprs.Deref a) t p f g k b h = ap (λ x. step tree.Deref x t p) (h a (b 0 a refl))
kind_term_same ts (exprs.Member a m) t p f g k b h = ap (λ x. step (tree.Member m) x t p) (h a (b 0 a refl))
kind_term_same ts (exprs.Address a) t p f g k b h = ap (λ x. step tree.Address x t p) (h a (b 0 a refl))
kind_term_same ts (exprs.Convert a) t p f g k b h = ap (λ x. step tree.Convert x t p) (h a (b 0 a refl))
kind_term_same ts (exprs.Unary op a) t p f g k b h = ap (λ x. step (tree.Unary op) x t p) (h a (b 0 a refl))
kind_term_same ts (exprs.Step a adds front) t p f g k b h =
    ap (λ x. step (tree.Step adds front) x t p) (h a (b 0 a refl))
kind_term_same ts (exprs.Int op x y) t p f g k b h =
    ap (λ z. join (tree.Arithmetic op) z (f y) t p) (h x (b 0 x refl))
    ∙ ap (λ z. join (tree.Arithmetic op) (g x) z t p) (h y (b 1 y refl))
kind_term_same ts (exprs.Capability op x y r) t p f g k b h =
    ap (λ z. join (tree.Capability op r) z (f y) t p) (h x (b 0 x refl))
    ∙ ap (λ z. join (tree.Capability op r) (g x) z t p) (h y (b 1 y refl))
kind_term_same ts (exprs.Plus x y m) t p f g k b h =
    ap (λ z. join (tree.Plus m) z (f y) t p) (h x (b 0 x refl))
    ∙ ap (λ z. join (tree.Plus m) (g x) z t p) (h y (b 1 y refl))
kind_term_same ts (exprs.Difference x y) t p f g k b h =
    ap (λ z. join tree.Difference z (f y) t p) (h x (b 0 x refl))
    ∙ ap (λ z. join tree.Difference (g x) z t p) (h y (b 1 y refl))
kind_term_same ts (exprs.Compare op x y) t p f g k b h =
    ap (λ z. join (tree.Compare op) z (f y) t p) (h x (b 0 x refl))
    ∙ ap (λ z. join (tree.Compare op) (g x) z t p) (h y (b 1 y refl))
kind_term_same ts (exprs.And x y) t p f g k b h =
    ap (λ z. join tree.And z (f y) t p) (h x (b 0 x refl)) ∙ ap (λ z. join tree.And (g x) z t p) (h y (b 1 y refl))
kind_term_same ts (exprs.Or x y) t p f g k b h =
    ap (λ z. join tree.Or z (f y) t p) (h x (b 0 x refl)) ∙ ap (λ z. join tree.Or (g x) z t p) (h y (b 1 y refl))
kind_term_same ts (exprs.Comma x y) t p f g k b h =
    ap (λ z. join tree.Comma z (f y) t p) (h x (b 0 x refl)) ∙ ap (λ z. join tree.Comma (g x) z t p) (h y (b 1 y refl))
kind_term_same ts (exprs.Assign x y) t p f g k b h =
    ap (λ z. join tree.Assign z (f y) t p) (h x (b 0 x refl))
    ∙ ap (λ z. join tree.Assign (g x) z t p) (h y (b 1 y refl))
kind_term_same ts (exprs.Compound op x y of) t p f g k b h =
    ap (λ z. join (tree.Compound op (type_at ts of)) z (f y) t p) (h x (b 0 x refl))
    ∙ ap (λ z. join (tree.Compound op (type_at ts of)) (g x) z t p) (h y (b 1 y refl))
kind_term_same ts (exprs.Conditional c x y) t p f g k b h =
    ap (λ z. join_three tree.Conditional z (f x) (f y) t p) (h c (b 0 c refl))
    ∙ ap (λ z. join_three tree.Conditional (g c) z (f y) t p) (h x (b 1 x refl))
    ∙ ap (λ z. join_three tree.Conditional (g c) (g x) z t p) (h y (b 2 y refl))
kind_term_same ts (exprs.Call a xs) t p f g k b h =
    ap (λ z. term tree.Call (with_term z (terms (map f xs))) t p) (h a (b 0 a refl))
    ∙ ap (λ zs. term tree.Call (with_term (g a) (terms zs)) t p) (map_same f g k xs (λ j. b (suc j)) h)
kind_term_same ts (exprs.Library n xs) t p f g k b h =
    ap (λ zs. term (tree.Library n) (terms zs) t p) (map_same f g k xs b h)

-- the term at a number
pub term_is : (p : Typed) → IsOrdered p → (k : ℕ) (e : Expr) → slice_get p.exprs k ≡ Some e →
    term_at (terms_of p) k ≡ expr_from (types_of p.types) e (term_at (terms_of p))
term_is p o k e h =
    let r = forest_reads (expr_from (types_of p.types)) no_term p.exprs k e h in
    r.is ∙ kind_term_same (types_of p.types) e.kind (type_at (types_of p.types) e.of) e.pos
    (λ j. slice_index_or r.seen j no_term) (term_at (terms_of p)) k (λ j a g. o.operands_before k j a e h g) r.before

-- ---- statements

push_same : {T : Type 0} (f g : ℕ → T) (k : ℕ) (ns : List ℕ) (n : ℕ) →
    ((j i : ℕ) → slice_get (ns ++ n ∷ []) j ≡ Some i → i < k) → ((i : ℕ) → i < k → f i ≡ g i) →
    map f ns ++ f n ∷ [] ≡ map g ns ++ g n ∷ []
push_same f g k [] n b h = ap (λ x. x ∷ []) (h n (b 0 n refl))
push_same f g k (m ∷ ns) n b h =
    let e = h m (b 0 m refl) in
    let r = push_same f g k ns n (λ j. b (suc j)) h in
    cc

kind_action_same : (es : List Term) (kind : StmtKind) (p : Pos) (f g : ℕ → Action) (k : ℕ) →
    ((j a : ℕ) → slice_get (parts kind) j ≡ Some a → a < k) → ((a : ℕ) → a < k → f a ≡ g a) →
    kind_action es kind p f ≡ kind_action es kind p g
kind_action_same es (stmts.Expr a) p f g k b h = refl
kind_action_same es (stmts.Init x offset a) p f g k b h = refl
kind_action_same es (stmts.Block vars body) p f g k b h =
    ap (λ xs. action (tree.Block vars) (terms []) (actions xs) p) (map_same f g k body b h)
kind_action_same es (stmts.If a x None) p f g k b h =
    ap (λ z. action tree.If (terms (term_at es a ∷ [])) (actions (z ∷ [])) p) (h x (b 0 x refl))
kind_action_same es (stmts.If a x (Some y)) p f g k b h =
    ap (λ z. action tree.If (terms (term_at es a ∷ [])) (actions (z ∷ f y ∷ [])) p) (h x (b 0 x refl))
    ∙ ap (λ z. action tree.If (terms (term_at es a ∷ [])) (actions (g x ∷ z ∷ [])) p) (h y (b 1 y refl))
kind_action_same es (stmts.While a x) p f g k b h =
    ap (λ z. action tree.While (terms (term_at es a ∷ [])) (actions (z ∷ [])) p) (h x (b 0 x refl))
kind_action_same es (stmts.Do x a) p f g k b h =
    ap (λ z. action tree.Do (terms (term_at es a ∷ [])) (actions (z ∷ [])) p) (h x (b 0 x refl))
kind_action_same es (stmts.For vars first test next x) p f g k b h =
    ap (λ xs. action (tree.For vars (length first) (is_some test) (is_some next))
    (terms (listed (term_at es) test ++ listed (term_at es) next)) (actions xs) p) (push_same f g k first x b h)
kind_action_same es (stmts.Switch a vars labels body) p f g k b h =
    ap (λ xs. action (tree.Switch vars (map label_of labels)) (terms (term_at es a ∷ [])) (actions xs) p)
    (map_same f g k body b h)
kind_action_same es stmts.Break p f g k b h = refl
kind_action_same es stmts.Continue p f g k b h = refl
kind_action_same es (stmts.Return a) p f g k b h = refl
kind_action_same es stmts.Empty p f g k b h = refl

-- the action at a number
pub action_is : (p : Typed) → IsOrdered p → (k : ℕ) (s : Stmt) → slice_get p.stmts k ≡ Some s →
    action_at (actions_of p) k ≡ stmt_from (terms_of p) s (action_at (actions_of p))
action_is p o k s h =
    let r = forest_reads (stmt_from (terms_of p)) no_action p.stmts k s h in
    r.is ∙ kind_action_same (terms_of p) s.kind s.pos (λ j. slice_index_or r.seen j no_action)
    (action_at (actions_of p)) k (λ j a g. o.parts_before k j a s h g) r.before
