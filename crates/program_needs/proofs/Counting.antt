-- The parts of 16 bytes of a program's objects and copies are few.
use Rattle.std.proofs.Common.{◌≡◌, ℕ, ◌+◌, ◌*◌, ◌≤◌, Bool, true, false, List, [], ◌∷◌, length, Option, Some, None}
use Rattle.std.proofs.Common.{ap, arith}
use Rattle.std.specs.Prelude.{slice_get, sum_by, if◌then◌else◌}
use Rattle.std.proofs.lemmas.List.Sums.{sum_by-cons}
use Rattle.cap_concentrate.specs.Rounding.{owned}
use Rattle.cap_concentrate.proofs.Owned.{owned_small}
use Rattle.c_tree.specs.Counts.{var_granules, fun_granules, granules, copied, expr_copies, kind_copies, value_copies}
use Rattle.c_tree.specs.Counts.{init_copies, stmt_copies, copies, is_record, parts}
use Rattle.c_tree.specs.Layout.{extent, bare, size_of}
use Rattle.c_tree.proofs.Sizes.{size_most}
use Rattle.c_tree.specs.Weight.{kind_weight, expr_weight, stmt_weight, fun_weight, weight}
use Rattle.c_tree.specs.declared.typed.CType.{CType}
use Rattle.c_tree.specs.declared.typed.Expr.{Expr}
use Rattle.c_tree.specs.declared.typed.ExprKind.{ExprKind}
use Rattle.c_tree.specs.declared.typed.ExprKind.TheVariants as exprs
use Rattle.c_tree.specs.declared.typed.StmtKind.{StmtKind}
use Rattle.c_tree.specs.declared.typed.StmtKind.TheVariants as stmts
use Rattle.c_tree.specs.declared.typed.Typed.{Typed}
use Rattle.c_tree.specs.declared.typed.VarDef.{VarDef}

sum_most : {A : Type 0} (f : A → ℕ) (most : ℕ) (xs : List A) → ((x : A) → f x ≤ most) → sum_by f xs ≤ most * length xs
sum_most f most [] h = omega arith
sum_most f most (x ∷ xs) h =
    let e : most * length (x ∷ xs) ≡ most + most * length xs = omega arith in
    omega (arith, sum_by-cons f x xs, h x, sum_most f most xs h)

sum_weighed : {A : Type 0} (f g : A → ℕ) (most : ℕ) (xs : List A) → ((x : A) → f x ≤ most * g x)
    → sum_by f xs ≤ most * sum_by g xs
sum_weighed f g most [] h = omega arith
sum_weighed f g most (x ∷ xs) h =
    let e : most * (g x + sum_by g xs) ≡ most * g x + most * sum_by g xs = omega arith in
    let s = ap (λ v. most * v) (sum_by-cons g x xs) in
    omega (arith, sum_by-cons f x xs, h x, sum_weighed f g most xs h)

either_most : (b : Bool) (n most : ℕ) → n ≤ most → (if b then n else 0) ≤ most
either_most true n most h = h
either_most false n most h = omega arith

neither_most : (b : Bool) (n most : ℕ) → n ≤ most → (if b then 0 else n) ≤ most
neither_most true n most h = omega arith
neither_most false n most h = h

var_most : (types : List CType) (v : VarDef) → var_granules types v ≤ 4194304
var_most types v =
    let own = owned_small (size_of (extent types v.of)) (omega (arith, size_most (extent types v.of))) in
    neither_most v.simple (parts (owned (size_of (extent types v.of)))) 4194304 (omega (arith, own))

copied_most : (types : List CType) (t : ℕ) → copied types t ≤ 4194304
copied_most types t =
    either_most (is_record (bare types t)) (parts (size_of (extent types t))) 4194304
    (omega (arith, size_most (extent types t)))

kind_most : (types : List CType) (k : ExprKind) (t : ℕ) → kind_copies types k t ≤ 4194304
kind_most types (exprs.Assign a b) t = copied_most types t
kind_most types (exprs.Conditional c a b) t = copied_most types t
kind_most types k t = omega arith

value_most : (types : List CType) (o : Option Expr) → value_copies types o ≤ 4194304
value_most types None = omega arith
value_most types (Some e) = copied_most types e.of

init_most : (types : List CType) (es : List Expr) (k : StmtKind) → init_copies types es k ≤ 4194304
init_most types es (stmts.Init x offset a) = value_most types (slice_get es a)
init_most types es k = omega arith

kind_weighs : (k : ExprKind) → 1 ≤ kind_weight k
kind_weighs (exprs.Call f xs) = omega arith
kind_weighs (exprs.Library n xs) = omega arith
kind_weighs k = omega arith

-- a program has at most 4,194,304 parts of 16 bytes for each unit of its weight
pub few_granules : (p : Typed) → granules p ≤ 4194304 * weight p
unfolding granules weight
few_granules p =
    omega (
      arith,
      sum_weighed (fun_granules p.types) fun_weight 4194304 p.funs
          (λ f. omega (arith, sum_most (var_granules p.types) 4194304 f.vars (var_most p.types))),
    )

pub few_copies : (p : Typed) → copies p ≤ 4194304 * weight p
unfolding copies weight
few_copies p =
    omega (
      arith,
      sum_weighed (expr_copies p.types) expr_weight 4194304 p.exprs
          (λ e. omega (arith, kind_most p.types e.kind e.of, kind_weighs e.kind)),
      sum_weighed (stmt_copies p.types p.exprs) stmt_weight 4194304 p.stmts
          (λ s. omega (arith, init_most p.types p.exprs s.kind)),
    )
