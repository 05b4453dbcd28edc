-- Programs in lists of nodes, unfolded into trees and computed in both modes.
use Rattle.std.specs.Prelude.{◌≡◌, ℕ, Bool, true, false, List, [], ◌∷◌, Some, refl}
use Rattle.ck_int.specs.declared.kinds.IntKind.TheVariants as int
use Rattle.ck_int.specs.Arithmetic.{binary_of, compare_of}
use Rattle.ck_int.specs.Kinds.{wrapped, value_of, reduced, kept_of, converted}
use Rattle.cap_concentrate.specs.Decoding as decoding
use Rattle.cap_concentrate.specs.Decoding.{exponent, mantissa, whole_top, high, corrected, base_of, top_of}
use Rattle.cap_concentrate.specs.Encoding.{length_exponent, encoded_internal, encoded_t, encoded_b, with_bounds}
use Rattle.cap_concentrate.specs.Packing.{bits_of}
use Rattle.cap_concentrate.specs.Rounding.{first_from, alignment, owned, bounds_exponent, least_base, least_top}
use Rattle.cap_ops.specs.declared.access.Cause.TheVariants as cause
use Rattle.obj_mem.specs.declared.ending.Ending.TheVariants as ending
use Rattle.obj_mem.specs.declared.ending.Reason.TheVariants as reason
use Rattle.obj_mem.specs.Values.{capability_of, bits}
use Rattle.obj_mem.specs.Access.{load, store, copy_unit}
use Rattle.obj_mem.specs.Pointers.{keeps}
use Rattle.cheri_c_sem.specs.Calls.{start, fate}
use Rattle.cheri_c_sem.specs.Modes.{operations}
use Rattle.ck_base.specs.declared.positions.Span.{Span}
use Rattle.c_tree.specs.Layout.{bare_within, extent_within, members, struct_offset}
use Rattle.c_tree.specs.declared.typed.CType.{CType}
use Rattle.c_tree.specs.declared.typed.CType.TheVariants as types
use Rattle.c_tree.specs.declared.typed.Expr.{Expr}
use Rattle.c_tree.specs.declared.typed.ExprKind.{ExprKind}
use Rattle.c_tree.specs.declared.typed.ExprKind.TheVariants as exprs
use Rattle.c_tree.specs.declared.typed.FunDef.{FunDef}
use Rattle.c_tree.specs.declared.typed.Member.{Member}
use Rattle.c_tree.specs.declared.typed.Stmt.{Stmt}
use Rattle.c_tree.specs.declared.typed.StmtKind.{StmtKind}
use Rattle.c_tree.specs.declared.typed.StmtKind.TheVariants as stmts
use Rattle.c_tree.specs.declared.typed.Typed.{Typed}
use Rattle.c_tree.specs.declared.typed.VarDef.{VarDef}
use Rattle.obj_mem.specs.Needs.{is_const_within}
use Rattle.cheri_c_sem.specs.Compatible.{agree_within}
use Rattle.cheri_c_sem.specs.Expressions.{expr_tree}
use Rattle.cheri_c_sem.specs.Programs.{program_tree, stmt_tree}
use Rattle.cheri_c_sem.specs.Runs.{placed, strict}
use Rattle.cheri_c_sem.proofs.Words.{at, quiet, out, map}

abbrev unnamed : Span
unnamed = record { start = 0; end = 0 }

abbrev node : ExprKind → ℕ → ℕ → Expr
node kind of p = record { kind = kind; of = of; pos = at p }

abbrev line : StmtKind → ℕ → Stmt
line kind p = record { kind = kind; pos = at p }

abbrev local : ℕ → Bool → VarDef
local of simple = record { name = unnamed; pos = at 0; of = of; simple = simple }

abbrev def : ℕ → ℕ → List ℕ → List VarDef → ℕ → FunDef
def pos of params vars body =
    record { name = unnamed; pos = at pos; of = of; params = params; vars = vars; body = body }

abbrev member : ℕ → Member
member of = record { name = unnamed; of = of }

-- 0 int, 1 int(void), 2 int[2], 3 int*, 4 unsigned char, 5 unsigned char[4], 6 struct { unsigned char[4]; int; }, 7
-- unsigned char*, 8 int(*)(void)
abbrev some_types : List CType
some_types =
    types.Int int.I32 0 ∷ types.Function 0 [] ∷ types.Array 0 2 ∷ types.Pointer 0 ∷ types.Int int.U8 0 ∷ types.Array 4 4
    ∷ types.Struct 0 (member 5 ∷ member 0 ∷ []) ∷ types.Pointer 4 ∷ types.Pointer 1 ∷ []

abbrev of_lists : List FunDef → List Expr → List Stmt → Typed
of_lists funs es ss = record {
  types = some_types;
  globals = [];
  literals = [];
  funs = funs;
  exprs = es;
  stmts = ss;
  main = 0;
}

-- int a[2];a[1]=7;return a[2];
abbrev bounds : Typed
bounds = of_lists (def 5 1 [] (local 2 false ∷ []) 2 ∷ [])
    (node (exprs.Var 0) 2 20 ∷ node (exprs.Decay 0) 3 20 ∷ node (exprs.Constant 1) 0 22
    ∷ node (exprs.Plus 1 2 false) 3 21 ∷ node (exprs.Deref 3) 0 21 ∷ node (exprs.Constant 7) 0 25
    ∷ node (exprs.Assign 4 5) 0 24
    ∷ node (exprs.Var 0) 2 40 ∷ node (exprs.Decay 7) 3 40 ∷ node (exprs.Constant 2) 0 42
    ∷ node (exprs.Plus 8 9 false) 3 41 ∷ node (exprs.Deref 10) 0 41 ∷ node (exprs.Load 11) 0 41 ∷ [])
    (line (stmts.Expr 6) 20 ∷ line (stmts.Return (Some 12)) 33 ∷ line (stmts.Block (0 ∷ []) (0 ∷ 1 ∷ [])) 15 ∷ [])

bounds_placed : placed bounds map quiet 10 ≡ out [] (ending.Trap cause.Bounds (at 41))
unfolding fate start operations load store copy_unit owned alignment first_from binary_of compare_of converted wrapped
    value_of reduced kept_of keeps encoded_internal encoded_t encoded_b length_exponent base_of top_of decoding.placed
    corrected exponent mantissa whole_top high bits capability_of bits_of with_bounds least_base least_top
    bounds_exponent program_tree stmt_tree expr_tree bare_within extent_within members struct_offset is_const_within
    agree_within
bounds_placed = refl

bounds_strict : strict bounds quiet 10 ≡ out [] (ending.Trap cause.Bounds (at 41))
unfolding fate start operations load store copy_unit owned alignment first_from binary_of compare_of converted wrapped
    value_of reduced kept_of keeps encoded_internal encoded_t encoded_b length_exponent base_of top_of decoding.placed
    corrected exponent mantissa whole_top high bits capability_of bits_of with_bounds least_base least_top
    bounds_exponent program_tree stmt_tree expr_tree bare_within extent_within members struct_offset is_const_within
    agree_within
bounds_strict = refl

-- struct S s;s.b=65;unsigned char*p=s.a;putchar(s.b);p[4]=2; the member's pointer has its bounds
abbrev narrowed : Typed
narrowed = of_lists (def 5 1 [] (local 6 false ∷ local 7 true ∷ []) 4 ∷ [])
    (node (exprs.Var 0) 6 20 ∷ node (exprs.Member 0 1) 0 21 ∷ node (exprs.Constant 65) 0 25
    ∷ node (exprs.Assign 1 2) 0 24
    ∷ node (exprs.Var 0) 6 40 ∷ node (exprs.Member 4 0) 5 41 ∷ node (exprs.Decay 5) 7 41
    ∷ node (exprs.Var 0) 6 60 ∷ node (exprs.Member 7 1) 0 61 ∷ node (exprs.Load 8) 0 61
    ∷ node (exprs.Library 0 (9 ∷ [])) 0 59
    ∷ node (exprs.Var 1) 7 70 ∷ node (exprs.Load 11) 7 70 ∷ node (exprs.Constant 4) 0 72
    ∷ node (exprs.Plus 12 13 false) 7 71 ∷ node (exprs.Deref 14) 4 71 ∷ node (exprs.Constant 2) 0 75
    ∷ node (exprs.Convert 16) 4 75 ∷ node (exprs.Assign 15 17) 4 74 ∷ [])
    (line (stmts.Expr 3) 20 ∷ line (stmts.Init 1 0 6) 35 ∷ line (stmts.Expr 10) 52 ∷ line (stmts.Expr 18) 70
    ∷ line (stmts.Block (0 ∷ 1 ∷ []) (0 ∷ 1 ∷ 2 ∷ 3 ∷ [])) 15 ∷ [])

narrowed_placed : placed narrowed map quiet 10 ≡ out (65 ∷ []) (ending.Trap cause.Bounds (at 71))
unfolding fate start operations load store copy_unit owned alignment first_from binary_of compare_of converted wrapped
    value_of reduced kept_of keeps encoded_internal encoded_t encoded_b length_exponent base_of top_of decoding.placed
    corrected exponent mantissa whole_top high bits capability_of bits_of with_bounds least_base least_top
    bounds_exponent program_tree stmt_tree expr_tree bare_within extent_within members struct_offset is_const_within
    agree_within
narrowed_placed = refl

narrowed_strict : strict narrowed quiet 10 ≡ out (65 ∷ []) (ending.Trap cause.Bounds (at 71))
unfolding fate start operations load store copy_unit owned alignment first_from binary_of compare_of converted wrapped
    value_of reduced kept_of keeps encoded_internal encoded_t encoded_b length_exponent base_of top_of decoding.placed
    corrected exponent mantissa whole_top high bits capability_of bits_of with_bounds least_base least_top
    bounds_exponent program_tree stmt_tree expr_tree bare_within extent_within members struct_offset is_const_within
    agree_within
narrowed_strict = refl

-- int f(void){putchar(65);} int main(void){return f();} where f has the number 0, and main 1
abbrev calls : Typed
calls = record (of_lists (def 7 1 [] [] 1 ∷ def 50 1 [] [] 2 ∷ [])
    (node (exprs.Constant 65) 0 10 ∷ node (exprs.Library 0 (0 ∷ [])) 0 9 ∷ node (exprs.Fun 0) 1 60
    ∷ node (exprs.Decay 2) 8 60 ∷ node (exprs.Call 3 []) 0 61 ∷ [])
    (line (stmts.Expr 1) 8 ∷ line (stmts.Block [] (0 ∷ [])) 7 ∷ line (stmts.Return (Some 4)) 55 ∷ [])) { main = 1 }

calls_placed : placed calls map quiet 2 ≡ out (65 ∷ []) (ending.Exit 0)
unfolding fate start operations load store copy_unit owned alignment first_from binary_of compare_of converted wrapped
    value_of reduced kept_of keeps encoded_internal encoded_t encoded_b length_exponent base_of top_of decoding.placed
    corrected exponent mantissa whole_top high bits capability_of bits_of with_bounds least_base least_top
    bounds_exponent program_tree stmt_tree expr_tree bare_within extent_within members struct_offset is_const_within
    agree_within
calls_placed = refl

calls_turns : placed calls map quiet 1 ≡ out (65 ∷ []) ending.Turns
unfolding fate start operations load store copy_unit owned alignment first_from binary_of compare_of converted wrapped
    value_of reduced kept_of keeps encoded_internal encoded_t encoded_b length_exponent base_of top_of decoding.placed
    corrected exponent mantissa whole_top high bits capability_of bits_of with_bounds least_base least_top
    bounds_exponent program_tree stmt_tree expr_tree bare_within extent_within members struct_offset is_const_within
    agree_within
calls_turns = refl

calls_strict : strict calls quiet 2 ≡ out (65 ∷ []) (ending.Unspecified reason.Undefined (at 7))
unfolding fate start operations load store copy_unit owned alignment first_from binary_of compare_of converted wrapped
    value_of reduced kept_of keeps encoded_internal encoded_t encoded_b length_exponent base_of top_of decoding.placed
    corrected exponent mantissa whole_top high bits capability_of bits_of with_bounds least_base least_top
    bounds_exponent program_tree stmt_tree expr_tree bare_within extent_within members struct_offset is_const_within
    agree_within
calls_strict = refl
