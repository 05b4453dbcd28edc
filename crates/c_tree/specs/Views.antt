-- The program that the lists of a typed program stand for. Numbers of types, expressions and statements are read here,
-- and mean nothing else.
use Rattle.std.specs.Prelude.{◌≡◌, ℕ, ◌<◌, Bool, true, false, ◌==◌, if◌then◌else◌, List, [], ◌∷◌, ◌++◌, length, map}
use Rattle.std.specs.Prelude.{flat_map, sum_by, Option, Some, None, slice_get, slice_index_or}
use Rattle.ck_base.specs.declared.positions.Pos.{Pos}
use Rattle.ck_base.specs.declared.positions.Span.{Span}
use Rattle.c_tree.specs.declared.syntax.RecordKind.TheVariants as record_kinds
use Rattle.c_tree.specs.declared.typed.CType.{CType}
use Rattle.c_tree.specs.declared.typed.CType.TheVariants as ctypes
use Rattle.c_tree.specs.declared.typed.Member.{Member}
use Rattle.c_tree.specs.declared.typed.Expr.{Expr}
use Rattle.c_tree.specs.declared.typed.ExprKind.{ExprKind}
use Rattle.c_tree.specs.declared.typed.ExprKind.TheVariants as exprs
use Rattle.c_tree.specs.declared.typed.Stmt.{Stmt}
use Rattle.c_tree.specs.declared.typed.StmtKind.{StmtKind}
use Rattle.c_tree.specs.declared.typed.StmtKind.TheVariants as stmts
use Rattle.c_tree.specs.declared.typed.SwitchLabel.{SwitchLabel}
use Rattle.c_tree.specs.declared.typed.Target.{Target}
use Rattle.c_tree.specs.declared.typed.Target.TheVariants as targets
use Rattle.c_tree.specs.declared.typed.Link.{Link}
use Rattle.c_tree.specs.declared.typed.GlobalDef.{GlobalDef}
use Rattle.c_tree.specs.declared.typed.Literal.{Literal}
use Rattle.c_tree.specs.declared.typed.VarDef.{VarDef}
use Rattle.c_tree.specs.declared.typed.FunDef.{FunDef}
use Rattle.c_tree.specs.declared.typed.Typed.{Typed}
use Rattle.c_tree.specs.Types.{Ty, Void, Int, Cap, Pointer, Array, Tagged, Function, Const, Tys, no_types, also}
use Rattle.c_tree.specs.Terms as tree
use Rattle.c_tree.specs.Terms.{Shape, Term, Terms, terms, leaf, step, join, join_three, term, with_term, no_terms}
use Rattle.c_tree.specs.Terms.{Label, Form, Action, Actions, action, actions, Aim, Pointing, Variable, Object, Text}
use Rattle.c_tree.specs.Terms.{Routine, Tag, Program}

-- ---- lists whose items name earlier items by their numbers

-- the trees of the items, after those of the items before them; `bad` stands where a number names no earlier item
unfoldable pub grow : {N T : Type 0} → (N → (ℕ → T) → T) → T → List N → List T → List T
grow make bad [] ts = ts
grow make bad (n ∷ ns) ts = grow make bad ns (ts ++ make n (λ k. slice_index_or ts k bad) ∷ [])

abbrev pub forest : {N T : Type 0} → (N → (ℕ → T) → T) → T → List N → List T
forest make bad ns = grow make bad ns []

-- ---- types

abbrev pub tys : List Ty → Tys
tys [] = no_types
tys (t ∷ ts) = also t (tys ts)

abbrev pub type_from : CType → (ℕ → Ty) → Ty
type_from ctypes.Void go = Void
type_from (ctypes.Int k n) go = Int k n
type_from (ctypes.Cap s) go = Cap s
type_from (ctypes.Pointer t) go = Pointer (go t)
type_from (ctypes.Array t n) go = Array (go t) n
type_from (ctypes.Struct tag ms) go = Tagged tag
type_from (ctypes.Union tag ms) go = Tagged tag
type_from (ctypes.Function t ps) go = Function (go t) (tys (map go ps))
type_from (ctypes.Const t) go = Const (go t)
type_from (ctypes.Incomplete tag) go = Tagged tag

abbrev pub types_of : List CType → List Ty
types_of cs = forest type_from Void cs

abbrev pub type_at : List Ty → ℕ → Ty
type_at ts k = slice_index_or ts k Void

-- ---- expressions

abbrev pub kind_term : List Ty → ExprKind → Ty → Pos → (ℕ → Term) → Term
kind_term ts (exprs.Constant n) t p go = leaf (tree.Constant n) t p
kind_term ts (exprs.Literal k) t p go = leaf (tree.Literal k) t p
kind_term ts (exprs.Var k) t p go = leaf (tree.Var k) t p
kind_term ts (exprs.Global k) t p go = leaf (tree.Global k) t p
kind_term ts (exprs.Fun k) t p go = leaf (tree.Fun k) t p
kind_term ts (exprs.Load a) t p go = step tree.Load (go a) t p
kind_term ts (exprs.Decay a) t p go = step tree.Decay (go a) t p
kind_term ts (exprs.Deref a) t p go = step tree.Deref (go a) t p
kind_term ts (exprs.Member a k) t p go = step (tree.Member k) (go a) t p
kind_term ts (exprs.Address a) t p go = step tree.Address (go a) t p
kind_term ts (exprs.Convert a) t p go = step tree.Convert (go a) t p
kind_term ts (exprs.Unary o a) t p go = step (tree.Unary o) (go a) t p
kind_term ts (exprs.Int o a b) t p go = join (tree.Arithmetic o) (go a) (go b) t p
kind_term ts (exprs.Capability o a b r) t p go = join (tree.Capability o r) (go a) (go b) t p
kind_term ts (exprs.Plus a b m) t p go = join (tree.Plus m) (go a) (go b) t p
kind_term ts (exprs.Difference a b) t p go = join tree.Difference (go a) (go b) t p
kind_term ts (exprs.Compare o a b) t p go = join (tree.Compare o) (go a) (go b) t p
kind_term ts (exprs.And a b) t p go = join tree.And (go a) (go b) t p
kind_term ts (exprs.Or a b) t p go = join tree.Or (go a) (go b) t p
kind_term ts (exprs.Conditional a b c) t p go = join_three tree.Conditional (go a) (go b) (go c) t p
kind_term ts (exprs.Comma a b) t p go = join tree.Comma (go a) (go b) t p
kind_term ts (exprs.Assign a b) t p go = join tree.Assign (go a) (go b) t p
kind_term ts (exprs.Compound o a b of) t p go = join (tree.Compound o (type_at ts of)) (go a) (go b) t p
kind_term ts (exprs.Step a adds in_front) t p go = step (tree.Step adds in_front) (go a) t p
kind_term ts (exprs.Call f xs) t p go = term tree.Call (with_term (go f) (terms (map go xs))) t p
kind_term ts (exprs.Library k xs) t p go = term (tree.Library k) (terms (map go xs)) t p

abbrev pub expr_from : List Ty → Expr → (ℕ → Term) → Term
expr_from ts e go = kind_term ts e.kind (type_at ts e.of) e.pos go

abbrev pub nowhere : Pos
nowhere = record { line = 0; col = 0 }

-- no expression of a program is so
abbrev pub no_term : Term
no_term = leaf (tree.Constant 0) Void nowhere

abbrev pub terms_of : Typed → List Term
terms_of p = forest (expr_from (types_of p.types)) no_term p.exprs

abbrev pub term_at : List Term → ℕ → Term
term_at es k = slice_index_or es k no_term

-- ---- statements

abbrev pub listed : {A B : Type 0} → (A → B) → Option A → List B
listed f None = []
listed f (Some a) = f a ∷ []

abbrev pub is_some : {A : Type 0} → Option A → Bool
is_some None = false
is_some (Some a) = true

abbrev pub label_of : SwitchLabel → Label
label_of l = record { value = l.value; before = l.before }

abbrev pub kind_action : List Term → StmtKind → Pos → (ℕ → Action) → Action
kind_action es (stmts.Expr a) p go = action tree.Evaluate (terms (term_at es a ∷ [])) (actions []) p
kind_action es (stmts.Init var offset a) p go = action (tree.Init var offset) (terms (term_at es a ∷ [])) (actions []) p
kind_action es (stmts.Block vars body) p go = action (tree.Block vars) (terms []) (actions (map go body)) p
kind_action es (stmts.If a x y) p go = action tree.If (terms (term_at es a ∷ [])) (actions (go x ∷ listed go y)) p
kind_action es (stmts.While a x) p go = action tree.While (terms (term_at es a ∷ [])) (actions (go x ∷ [])) p
kind_action es (stmts.Do x a) p go = action tree.Do (terms (term_at es a ∷ [])) (actions (go x ∷ [])) p
kind_action es (stmts.For vars first a b x) p go =
    action (tree.For vars (length first) (is_some a) (is_some b))
    (terms (listed (term_at es) a ++ listed (term_at es) b)) (actions (map go first ++ go x ∷ [])) p
kind_action es (stmts.Switch a vars labels body) p go =
    action (tree.Switch vars (map label_of labels)) (terms (term_at es a ∷ [])) (actions (map go body)) p
kind_action es stmts.Break p go = action tree.Break (terms []) (actions []) p
kind_action es stmts.Continue p go = action tree.Continue (terms []) (actions []) p
kind_action es (stmts.Return a) p go = action tree.Return (terms (listed (term_at es) a)) (actions []) p
kind_action es stmts.Empty p go = action tree.Empty (terms []) (actions []) p

abbrev pub stmt_from : List Term → Stmt → (ℕ → Action) → Action
stmt_from es s go = kind_action es s.kind s.pos go

-- no statement of a program is so
abbrev pub no_action : Action
no_action = action tree.Empty (terms []) (actions []) nowhere

abbrev pub actions_of : Typed → List Action
actions_of p = forest (stmt_from (terms_of p)) no_action p.stmts

abbrev pub action_at : List Action → ℕ → Action
action_at xs k = slice_index_or xs k no_action

-- ---- objects and functions

abbrev pub aim_of : Target → Aim
aim_of (targets.Global k) = tree.To_global k
aim_of (targets.Literal k) = tree.To_literal k
aim_of (targets.Fun k) = tree.To_function k

abbrev pub pointing_of : Link → Pointing
pointing_of l = record { at = l.at; aim = aim_of l.target; low = l.low; length = l.length; offset = l.offset }

abbrev pub object_of : List Ty → GlobalDef → Object
object_of ts g = record {
  name = g.name;
  place = g.pos;
  of = type_at ts g.of;
  bytes = g.bytes;
  links = map pointing_of g.links;
}

abbrev pub text_of : Literal → Text
text_of l = record { place = l.pos; bytes = l.bytes }

abbrev pub variable_of : List Ty → VarDef → Variable
variable_of ts v = record { name = v.name; place = v.pos; of = type_at ts v.of; simple = v.simple }

abbrev pub routine_of : List Ty → List Action → FunDef → Routine
routine_of ts xs f = record {
  name = f.name;
  place = f.pos;
  of = type_at ts f.of;
  params = f.params;
  vars = map (variable_of ts) f.vars;
  body = action_at xs f.body;
}

abbrev pub member_of : List Ty → Member → Span × Ty
member_of ts m = (m.name, type_at ts m.of)

-- what a type of the list says of a tag is so
abbrev pub TagAgrees : List Ty → List Tag → CType → Type 0
TagAgrees ts tags (ctypes.Struct tag ms) =
    slice_get tags tag ≡ Some (record { kind = record_kinds.Struct; members = Some (map (member_of ts) ms) })
TagAgrees ts tags (ctypes.Union tag ms) =
    slice_get tags tag ≡ Some (record { kind = record_kinds.Union; members = Some (map (member_of ts) ms) })
TagAgrees ts tags (ctypes.Incomplete tag) = (t : Tag) × (slice_get tags tag ≡ Some t) × (t.members ≡ None)
TagAgrees ts tags c = Unit {0}

-- the lists stand for a program
pub record Shows (p : Typed) (q : Program) : Type 0 where
  pub tags : (k : ℕ) (c : CType) → slice_get p.types k ≡ Some c → TagAgrees (types_of p.types) q.tags c
  pub objects : map (object_of (types_of p.types)) p.globals ≡ q.objects
  pub texts : map text_of p.literals ≡ q.texts
  pub routines : map (routine_of (types_of p.types) (actions_of p)) p.funs ≡ q.routines
  pub main : p.main ≡ q.main

-- ---- numbers

-- a type names types before it, but for the members of structs and unions, which may be completed later
abbrev pub Below : ℕ → ℕ → CType → Type 0
Below n k (ctypes.Pointer t) = t < k
Below n k (ctypes.Array t m) = t < k
Below n k (ctypes.Struct tag ms) = (j : ℕ) (m : Member) → slice_get ms j ≡ Some m → m.of < n
Below n k (ctypes.Union tag ms) = (j : ℕ) (m : Member) → slice_get ms j ≡ Some m → m.of < n
Below n k (ctypes.Function t ps) = (t < k) × ((j i : ℕ) → slice_get ps j ≡ Some i → i < k)
Below n k (ctypes.Const t) = t < k
Below n k c = Unit {0}

-- the expressions that an expression names
abbrev pub operands : ExprKind → List ℕ
operands (exprs.Constant n) = []
operands (exprs.Literal k) = []
operands (exprs.Var k) = []
operands (exprs.Global k) = []
operands (exprs.Fun k) = []
operands (exprs.Load a) = a ∷ []
operands (exprs.Decay a) = a ∷ []
operands (exprs.Deref a) = a ∷ []
operands (exprs.Member a k) = a ∷ []
operands (exprs.Address a) = a ∷ []
operands (exprs.Convert a) = a ∷ []
operands (exprs.Unary o a) = a ∷ []
operands (exprs.Int o a b) = a ∷ b ∷ []
operands (exprs.Capability o a b r) = a ∷ b ∷ []
operands (exprs.Plus a b m) = a ∷ b ∷ []
operands (exprs.Difference a b) = a ∷ b ∷ []
operands (exprs.Compare o a b) = a ∷ b ∷ []
operands (exprs.And a b) = a ∷ b ∷ []
operands (exprs.Or a b) = a ∷ b ∷ []
operands (exprs.Conditional a b c) = a ∷ b ∷ c ∷ []
operands (exprs.Comma a b) = a ∷ b ∷ []
operands (exprs.Assign a b) = a ∷ b ∷ []
operands (exprs.Compound o a b of) = a ∷ b ∷ []
operands (exprs.Step a adds in_front) = a ∷ []
operands (exprs.Call f xs) = f ∷ xs
operands (exprs.Library k xs) = xs

abbrev pub same_number : ℕ → ℕ
same_number n = n

-- the expressions and the statements that a statement names
abbrev pub values : StmtKind → List ℕ
values (stmts.Expr a) = a ∷ []
values (stmts.Init var offset a) = a ∷ []
values (stmts.Block vars body) = []
values (stmts.If a x y) = a ∷ []
values (stmts.While a x) = a ∷ []
values (stmts.Do x a) = a ∷ []
values (stmts.For vars first a b x) = listed same_number a ++ listed same_number b
values (stmts.Switch a vars labels body) = a ∷ []
values stmts.Break = []
values stmts.Continue = []
values (stmts.Return a) = listed same_number a
values stmts.Empty = []

abbrev pub parts : StmtKind → List ℕ
parts (stmts.Expr a) = []
parts (stmts.Init var offset a) = []
parts (stmts.Block vars body) = body
parts (stmts.If a x y) = x ∷ listed same_number y
parts (stmts.While a x) = x ∷ []
parts (stmts.Do x a) = x ∷ []
parts (stmts.For vars first a b x) = first ++ x ∷ []
parts (stmts.Switch a vars labels body) = body
parts stmts.Break = []
parts stmts.Continue = []
parts (stmts.Return a) = []
parts stmts.Empty = []

-- how often a number stands in a list
abbrev pub times_in : ℕ → List ℕ → ℕ
times_in k ks = sum_by (λ j. if j == k then 1 else 0) ks

abbrev pub expression_uses : Typed → List ℕ
expression_uses p = flat_map (λ (e : Expr). operands e.kind) p.exprs ++ flat_map (λ (s : Stmt). values s.kind) p.stmts

abbrev pub statement_uses : Typed → List ℕ
statement_uses p = flat_map (λ (s : Stmt). parts s.kind) p.stmts ++ map (λ (f : FunDef). f.body) p.funs

-- Each number that names something names what is there, and types, operands and parts stand before what names them.
-- Each expression and each statement is used once
pub record IsOrdered (p : Typed) : Type 0 where
  pub types : (k : ℕ) (c : CType) → slice_get p.types k ≡ Some c → Below (length p.types) k c
  pub typed : (k : ℕ) (e : Expr) → slice_get p.exprs k ≡ Some e → e.of < length p.types
  pub operands_before : (k j a : ℕ) (e : Expr) → slice_get p.exprs k ≡ Some e → slice_get (operands e.kind) j ≡ Some a →
      a < k
  pub values_there : (k j a : ℕ) (s : Stmt) → slice_get p.stmts k ≡ Some s → slice_get (values s.kind) j ≡ Some a →
      a < length p.exprs
  pub parts_before : (k j a : ℕ) (s : Stmt) → slice_get p.stmts k ≡ Some s → slice_get (parts s.kind) j ≡ Some a → a < k
  pub globals : (k : ℕ) (g : GlobalDef) → slice_get p.globals k ≡ Some g → g.of < length p.types
  pub funs : (k : ℕ) (f : FunDef) → slice_get p.funs k ≡ Some f → (f.of < length p.types) × (f.body < length p.stmts)
  pub vars : (k j : ℕ) (f : FunDef) (v : VarDef) → slice_get p.funs k ≡ Some f → slice_get f.vars j ≡ Some v →
      v.of < length p.types
  pub expressions_once : (k : ℕ) → k < length p.exprs → times_in k (expression_uses p) ≡ 1
  pub statements_once : (k : ℕ) → k < length p.stmts → times_in k (statement_uses p) ≡ 1
