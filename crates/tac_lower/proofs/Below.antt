-- Operands and parts have smaller numbers.
use Rattle.std.proofs.Common.{◌≡◌, ℕ, zero, suc, ◌<◌, Bool, List, [], ◌∷◌, length, get_or, Option, Some, None, subst}
use Rattle.std.specs.Prelude.{slice_get}
use Rattle.std.specs.List.{AllByRecursion}
use Rattle.std.proofs.lemmas.Option.{slice_get-get_or}
use Rattle.ck_int.specs.declared.kinds.CmpOp.{CmpOp}
use Rattle.ck_int.specs.declared.kinds.IntOp.{IntOp}
use Rattle.c_tree.specs.declared.typed.Expr.{Expr}
use Rattle.c_tree.specs.declared.typed.ExprKind.{ExprKind}
use Rattle.c_tree.specs.declared.typed.ExprKind.TheVariants as exprs
use Rattle.c_tree.specs.declared.typed.Stmt.{Stmt}
use Rattle.c_tree.specs.declared.typed.StmtKind.{StmtKind}
use Rattle.c_tree.specs.declared.typed.StmtKind.TheVariants as stmts
use Rattle.c_tree.specs.declared.typed.SwitchLabel.{SwitchLabel}
use Rattle.c_tree.specs.declared.typed.Typed.{Typed}
use Rattle.c_tree.specs.declared.typed.UnaryOp.{UnaryOp}
use Rattle.cheri_c_sem.specs.Order.{Ordered, IsAfterOperands, IsAfterParts, IsBefore}
use Rattle.tac_lower.specs.Known.{AreBelow}

operands : (p : Typed) (k : ℕ) (e : Expr) (kind : ExprKind) → Ordered p → slice_get p.exprs k ≡ Some e → e.kind ≡ kind →
    IsAfterOperands k kind
operands p k e kind o there is = subst (IsAfterOperands k) is (o.exprs k e there)

parts : (p : Typed) (k : ℕ) (s : Stmt) (kind : StmtKind) → Ordered p → slice_get p.stmts k ≡ Some s → s.kind ≡ kind →
    IsAfterParts k kind
parts p k s kind o there is = subst (IsAfterParts k) is (o.stmts k s there)

listed : (k : ℕ) (xs : List ℕ) (i c : ℕ) → AllByRecursion (λ c. c < k) xs → slice_get xs i ≡ Some c → c < k
listed k [] i c h e = absurd cc
listed k (x ∷ xs) zero c h e = let q : x ≡ c = cc in subst (λ z. z < k) q h.0
listed k (x ∷ xs) (suc i) c h e = listed k xs i c h.1 e

are_below : (k : ℕ) (xs ys : List ℕ) → AllByRecursion (λ c. c < k) xs → ys ≡ xs → AreBelow k ys
are_below k xs ys h e = record { all = λ i c there. listed k xs i c h (subst (λ z. slice_get z i ≡ Some c) e there) }

pub below : (k : ℕ) (xs : List ℕ) (i d : ℕ) → AreBelow k xs → i < length xs → get_or xs i d < k
below k xs i d h lt = h.all i (get_or xs i d) (slice_get-get_or xs i d lt)

before : (k : ℕ) (o : Option ℕ) (b : ℕ) → IsBefore k o → o ≡ Some b → b < k
before k None b h e = absurd cc
before k (Some c) b h e = let q : c ≡ b = cc in subst (λ z. z < k) q h

-- ---- expressions

pub load : (p : Typed) (k : ℕ) (e : Expr) (a : ℕ) → Ordered p → slice_get p.exprs k ≡ Some e → e.kind ≡ exprs.Load a →
    a < k
load p k e a o there is = (operands p k e (exprs.Load a) o there is)

pub decay : (p : Typed) (k : ℕ) (e : Expr) (a : ℕ) → Ordered p → slice_get p.exprs k ≡ Some e → e.kind ≡ exprs.Decay a →
    a < k
decay p k e a o there is = (operands p k e (exprs.Decay a) o there is)

pub deref : (p : Typed) (k : ℕ) (e : Expr) (a : ℕ) → Ordered p → slice_get p.exprs k ≡ Some e → e.kind ≡ exprs.Deref a →
    a < k
deref p k e a o there is = (operands p k e (exprs.Deref a) o there is)

pub address : (p : Typed) (k : ℕ) (e : Expr) (a : ℕ) → Ordered p → slice_get p.exprs k ≡ Some e →
    e.kind ≡ exprs.Address a → a < k
address p k e a o there is = (operands p k e (exprs.Address a) o there is)

pub convert : (p : Typed) (k : ℕ) (e : Expr) (a : ℕ) → Ordered p → slice_get p.exprs k ≡ Some e →
    e.kind ≡ exprs.Convert a → a < k
convert p k e a o there is = (operands p k e (exprs.Convert a) o there is)

pub member : (p : Typed) (k : ℕ) (e : Expr) (a m : ℕ) → Ordered p → slice_get p.exprs k ≡ Some e →
    e.kind ≡ exprs.Member a m → a < k
member p k e a m o there is = (operands p k e (exprs.Member a m) o there is)

pub unary : (p : Typed) (k : ℕ) (e : Expr) (op : UnaryOp) (a : ℕ) → Ordered p → slice_get p.exprs k ≡ Some e →
    e.kind ≡ exprs.Unary op a → a < k
unary p k e op a o there is = (operands p k e (exprs.Unary op a) o there is)

pub step : (p : Typed) (k : ℕ) (e : Expr) (a : ℕ) (adds front : Bool) → Ordered p → slice_get p.exprs k ≡ Some e →
    e.kind ≡ exprs.Step a adds front → a < k
step p k e a adds front o there is = (operands p k e (exprs.Step a adds front) o there is)

pub int_left : (p : Typed) (k : ℕ) (e : Expr) (op : IntOp) (a b : ℕ) → Ordered p → slice_get p.exprs k ≡ Some e →
    e.kind ≡ exprs.Int op a b → a < k
int_left p k e op a b o there is = (operands p k e (exprs.Int op a b) o there is).0

pub int_right : (p : Typed) (k : ℕ) (e : Expr) (op : IntOp) (a b : ℕ) → Ordered p → slice_get p.exprs k ≡ Some e →
    e.kind ≡ exprs.Int op a b → b < k
int_right p k e op a b o there is = (operands p k e (exprs.Int op a b) o there is).1

pub capability_left : (p : Typed) (k : ℕ) (e : Expr) (op : IntOp) (a b : ℕ) (right : Bool) → Ordered p →
    slice_get p.exprs k ≡ Some e → e.kind ≡ exprs.Capability op a b right → a < k
capability_left p k e op a b right o there is = (operands p k e (exprs.Capability op a b right) o there is).0

pub capability_right : (p : Typed) (k : ℕ) (e : Expr) (op : IntOp) (a b : ℕ) (right : Bool) → Ordered p →
    slice_get p.exprs k ≡ Some e → e.kind ≡ exprs.Capability op a b right → b < k
capability_right p k e op a b right o there is = (operands p k e (exprs.Capability op a b right) o there is).1

pub plus_left : (p : Typed) (k : ℕ) (e : Expr) (a b : ℕ) (minus : Bool) → Ordered p → slice_get p.exprs k ≡ Some e →
    e.kind ≡ exprs.Plus a b minus → a < k
plus_left p k e a b minus o there is = (operands p k e (exprs.Plus a b minus) o there is).0

pub plus_right : (p : Typed) (k : ℕ) (e : Expr) (a b : ℕ) (minus : Bool) → Ordered p → slice_get p.exprs k ≡ Some e →
    e.kind ≡ exprs.Plus a b minus → b < k
plus_right p k e a b minus o there is = (operands p k e (exprs.Plus a b minus) o there is).1

pub difference_left : (p : Typed) (k : ℕ) (e : Expr) (a b : ℕ) → Ordered p → slice_get p.exprs k ≡ Some e →
    e.kind ≡ exprs.Difference a b → a < k
difference_left p k e a b o there is = (operands p k e (exprs.Difference a b) o there is).0

pub difference_right : (p : Typed) (k : ℕ) (e : Expr) (a b : ℕ) → Ordered p → slice_get p.exprs k ≡ Some e →
    e.kind ≡ exprs.Difference a b → b < k
difference_right p k e a b o there is = (operands p k e (exprs.Difference a b) o there is).1

pub compare_left : (p : Typed) (k : ℕ) (e : Expr) (op : CmpOp) (a b : ℕ) → Ordered p → slice_get p.exprs k ≡ Some e →
    e.kind ≡ exprs.Compare op a b → a < k
compare_left p k e op a b o there is = (operands p k e (exprs.Compare op a b) o there is).0

pub compare_right : (p : Typed) (k : ℕ) (e : Expr) (op : CmpOp) (a b : ℕ) → Ordered p → slice_get p.exprs k ≡ Some e →
    e.kind ≡ exprs.Compare op a b → b < k
compare_right p k e op a b o there is = (operands p k e (exprs.Compare op a b) o there is).1

pub and_left : (p : Typed) (k : ℕ) (e : Expr) (a b : ℕ) → Ordered p → slice_get p.exprs k ≡ Some e →
    e.kind ≡ exprs.And a b → a < k
and_left p k e a b o there is = (operands p k e (exprs.And a b) o there is).0

pub and_right : (p : Typed) (k : ℕ) (e : Expr) (a b : ℕ) → Ordered p → slice_get p.exprs k ≡ Some e →
    e.kind ≡ exprs.And a b → b < k
and_right p k e a b o there is = (operands p k e (exprs.And a b) o there is).1

pub or_left : (p : Typed) (k : ℕ) (e : Expr) (a b : ℕ) → Ordered p → slice_get p.exprs k ≡ Some e →
    e.kind ≡ exprs.Or a b → a < k
or_left p k e a b o there is = (operands p k e (exprs.Or a b) o there is).0

pub or_right : (p : Typed) (k : ℕ) (e : Expr) (a b : ℕ) → Ordered p → slice_get p.exprs k ≡ Some e →
    e.kind ≡ exprs.Or a b → b < k
or_right p k e a b o there is = (operands p k e (exprs.Or a b) o there is).1

pub comma_left : (p : Typed) (k : ℕ) (e : Expr) (a b : ℕ) → Ordered p → slice_get p.exprs k ≡ Some e →
    e.kind ≡ exprs.Comma a b → a < k
comma_left p k e a b o there is = (operands p k e (exprs.Comma a b) o there is).0

pub comma_right : (p : Typed) (k : ℕ) (e : Expr) (a b : ℕ) → Ordered p → slice_get p.exprs k ≡ Some e →
    e.kind ≡ exprs.Comma a b → b < k
comma_right p k e a b o there is = (operands p k e (exprs.Comma a b) o there is).1

pub assign_left : (p : Typed) (k : ℕ) (e : Expr) (a b : ℕ) → Ordered p → slice_get p.exprs k ≡ Some e →
    e.kind ≡ exprs.Assign a b → a < k
assign_left p k e a b o there is = (operands p k e (exprs.Assign a b) o there is).0

pub assign_right : (p : Typed) (k : ℕ) (e : Expr) (a b : ℕ) → Ordered p → slice_get p.exprs k ≡ Some e →
    e.kind ≡ exprs.Assign a b → b < k
assign_right p k e a b o there is = (operands p k e (exprs.Assign a b) o there is).1

pub compound_left : (p : Typed) (k : ℕ) (e : Expr) (op : IntOp) (a b t : ℕ) → Ordered p → slice_get p.exprs k ≡ Some e →
    e.kind ≡ exprs.Compound op a b t → a < k
compound_left p k e op a b t o there is = (operands p k e (exprs.Compound op a b t) o there is).0

pub compound_right : (p : Typed) (k : ℕ) (e : Expr) (op : IntOp) (a b t : ℕ) → Ordered p →
    slice_get p.exprs k ≡ Some e → e.kind ≡ exprs.Compound op a b t → b < k
compound_right p k e op a b t o there is = (operands p k e (exprs.Compound op a b t) o there is).1

pub conditional_test : (p : Typed) (k : ℕ) (e : Expr) (c a b : ℕ) → Ordered p → slice_get p.exprs k ≡ Some e →
    e.kind ≡ exprs.Conditional c a b → c < k
conditional_test p k e c a b o there is = (operands p k e (exprs.Conditional c a b) o there is).0

pub conditional_left : (p : Typed) (k : ℕ) (e : Expr) (c a b : ℕ) → Ordered p → slice_get p.exprs k ≡ Some e →
    e.kind ≡ exprs.Conditional c a b → a < k
conditional_left p k e c a b o there is = (operands p k e (exprs.Conditional c a b) o there is).1

pub conditional_right : (p : Typed) (k : ℕ) (e : Expr) (c a b : ℕ) → Ordered p → slice_get p.exprs k ≡ Some e →
    e.kind ≡ exprs.Conditional c a b → b < k
conditional_right p k e c a b o there is = (operands p k e (exprs.Conditional c a b) o there is).2

pub called : (p : Typed) (k : ℕ) (e : Expr) (f : ℕ) (args : List ℕ) → Ordered p → slice_get p.exprs k ≡ Some e →
    e.kind ≡ exprs.Call f args → f < k
called p k e f args o there is = (operands p k e (exprs.Call f args) o there is).0

pub call_arguments : (p : Typed) (k : ℕ) (e : Expr) (f : ℕ) (args xs : List ℕ) → Ordered p →
    slice_get p.exprs k ≡ Some e → e.kind ≡ exprs.Call f args → xs ≡ args → AreBelow k xs
call_arguments p k e f args xs o there is q = are_below k args xs (operands p k e (exprs.Call f args) o there is).1 q

pub library_arguments : (p : Typed) (k : ℕ) (e : Expr) (n : ℕ) (args xs : List ℕ) → Ordered p →
    slice_get p.exprs k ≡ Some e → e.kind ≡ exprs.Library n args → xs ≡ args → AreBelow k xs
library_arguments p k e n args xs o there is q =
    are_below k args xs (operands p k e (exprs.Library n args) o there is) q

-- ---- statements

pub block_body : (p : Typed) (k : ℕ) (s : Stmt) (vars body xs : List ℕ) → Ordered p → slice_get p.stmts k ≡ Some s →
    s.kind ≡ stmts.Block vars body → xs ≡ body → AreBelow k xs
block_body p k s vars body xs o there is q = are_below k body xs (parts p k s (stmts.Block vars body) o there is) q

pub if_first : (p : Typed) (k : ℕ) (s : Stmt) (c a : ℕ) (b : Option ℕ) → Ordered p → slice_get p.stmts k ≡ Some s →
    s.kind ≡ stmts.If c a b → a < k
if_first p k s c a b o there is = (parts p k s (stmts.If c a b) o there is).0

pub if_second : (p : Typed) (k : ℕ) (s : Stmt) (c a : ℕ) (b : Option ℕ) (j : ℕ) → Ordered p →
    slice_get p.stmts k ≡ Some s → s.kind ≡ stmts.If c a b → b ≡ Some j → j < k
if_second p k s c a b j o there is q = before k b j (parts p k s (stmts.If c a b) o there is).1 q

pub while_body : (p : Typed) (k : ℕ) (s : Stmt) (c a : ℕ) → Ordered p → slice_get p.stmts k ≡ Some s →
    s.kind ≡ stmts.While c a → a < k
while_body p k s c a o there is = (parts p k s (stmts.While c a) o there is)

pub do_body : (p : Typed) (k : ℕ) (s : Stmt) (a c : ℕ) → Ordered p → slice_get p.stmts k ≡ Some s →
    s.kind ≡ stmts.Do a c → a < k
do_body p k s a c o there is = (parts p k s (stmts.Do a c) o there is)

pub for_first : (p : Typed) (k : ℕ) (s : Stmt) (vars first : List ℕ) (test step : Option ℕ) (a : ℕ) (xs : List ℕ) →
    Ordered p → slice_get p.stmts k ≡ Some s → s.kind ≡ stmts.For vars first test step a → xs ≡ first → AreBelow k xs
for_first p k s vars first test step a xs o there is q =
    are_below k first xs (parts p k s (stmts.For vars first test step a) o there is).0 q

pub for_body : (p : Typed) (k : ℕ) (s : Stmt) (vars first : List ℕ) (test step : Option ℕ) (a : ℕ) → Ordered p →
    slice_get p.stmts k ≡ Some s → s.kind ≡ stmts.For vars first test step a → a < k
for_body p k s vars first test step a o there is = (parts p k s (stmts.For vars first test step a) o there is).1

pub switch_body : (p : Typed) (k : ℕ) (s : Stmt) (on : ℕ) (vars : List ℕ) (labels : List SwitchLabel)
    (body xs : List ℕ) → Ordered p → slice_get p.stmts k ≡ Some s → s.kind ≡ stmts.Switch on vars labels body →
    xs ≡ body → AreBelow k xs
switch_body p k s on vars labels body xs o there is q =
    are_below k body xs (parts p k s (stmts.Switch on vars labels body) o there is) q
