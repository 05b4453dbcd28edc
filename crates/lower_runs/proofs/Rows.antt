-- A small program and its code, as they stand in the relation.
use Rattle.std.proofs.Common.{◌≡◌, ℕ, ◌≤◌, ◌<◌, ◌==◌, Bool, true, false, List, [], ◌∷◌, length, Some, None, refl, subst}
use Rattle.std.proofs.Common.{arith, if◌then◌else◌}
use Rattle.std.proofs.lemmas.Bool.Decides.{nat_tests}
use Rattle.ck_base.specs.declared.positions.Pos.{Pos}
use Rattle.ck_base.specs.declared.positions.Span.{Span}
use Rattle.ck_int.specs.declared.kinds.IntKind.TheVariants as int
use Rattle.ck_int.specs.declared.kinds.IntOp.TheVariants.{Add, Sub}
use Rattle.c_tree.specs.Layout.{bare_within, extent_within}
use Rattle.c_tree.specs.declared.typed.CType.TheVariants as types
use Rattle.c_tree.specs.declared.typed.Expr.{Expr}
use Rattle.c_tree.specs.declared.typed.ExprKind.{ExprKind}
use Rattle.c_tree.specs.declared.typed.ExprKind.TheVariants as exprs
use Rattle.c_tree.specs.declared.typed.Stmt.{Stmt}
use Rattle.c_tree.specs.declared.typed.StmtKind.{StmtKind}
use Rattle.c_tree.specs.declared.typed.StmtKind.TheVariants as stmts
use Rattle.c_tree.specs.declared.typed.Typed.{Typed}
use Rattle.c_tree.specs.declared.typed.VarDef.{VarDef}
use Rattle.cheri_c_sem.specs.Compatible.{agree_within}
use Rattle.cheri_c_sem.specs.Expressions.{expr_tree}
use Rattle.cheri_c_sem.specs.Kinds.{Plain}
use Rattle.cheri_c_sem.specs.Programs.{stmt_tree}
use Rattle.cheri_c_sem.specs.Tree.{Whole, Ex, Number, Compound, Call, Pointer_to, Variable, Local, Function}
use Rattle.cheri_c_sem.specs.Tree.{Nil, Cons, Objects, Do, Block, While, Return, Empty, End, Seq}
use Rattle.tac_ir.specs.declared.code.Tac.{Tac}
use Rattle.tac_ir.specs.declared.code.TacFun.{TacFun}
use Rattle.tac_ir.specs.declared.code.TacInstr.{TacInstr}
use Rattle.tac_ir.specs.declared.code.TacInstr.TheVariants as instr
use Rattle.tac_ir.specs.declared.code.TacKind.{TacKind}
use Rattle.tac_ir.specs.declared.code.TacKind.TheVariants as kind
use Rattle.lower_runs.specs.Expressions as code
use Rattle.lower_runs.specs.Expressions.{Mark, Signature, IsAssignment, IsCondition, IsEffect}
use Rattle.lower_runs.specs.Functions as taken
use Rattle.lower_runs.specs.Functions.{with_home}
use Rattle.lower_runs.specs.Operating.{Code}
use Rattle.lower_runs.specs.Programs.{IsProgram}
use Rattle.lower_runs.specs.Shortened as short
use Rattle.lower_runs.specs.States.{Home, Scene, IsScene}
use Rattle.lower_runs.specs.Statements as part
use Rattle.lower_runs.specs.Statements.{with_spot, Exits, IsStatement}
use Rattle.lower_runs.proofs.Placed.{same_some}

abbrev at : ℕ → Pos
at n = record { line = 1; col = n }

abbrev unnamed : Span
unnamed = record { start = 0; end = 0 }

abbrev node : ExprKind → ℕ → ℕ → Expr
node kind of p = record { kind = kind; of = of; pos = at p }

abbrev line : StmtKind → ℕ → Stmt
line kind p = record { kind = kind; pos = at p }

abbrev local : Bool → VarDef
local simple = record { name = unnamed; pos = at 0; of = 0; simple = simple }

-- void f(int x){while(x--);return;} int main(void){int a;f(a++);} where `a` is an object
abbrev program : Typed
program = record {
  types = types.Int int.I32 0 ∷ types.Function 0 [] ∷ types.Void ∷ types.Function 2 (0 ∷ []) ∷ types.Pointer 3 ∷ [];
  globals = [];
  literals = [];
  funs = record { name = unnamed; pos = at 6; of = 3; params = 0 ∷ []; vars = local true ∷ []; body = 3 }
      ∷ record { name = unnamed; pos = at 38; of = 1; params = []; vars = local false ∷ []; body = 5 }
      ∷ [];
  exprs = node (exprs.Var 0) 0 21 ∷ node (exprs.Step 0 false false) 0 22 ∷ node (exprs.Fun 0) 3 56
      ∷ node (exprs.Decay 2) 4 56
      ∷ node (exprs.Var 0) 0 58
      ∷ node (exprs.Step 4 true false) 0 59
      ∷ node (exprs.Call 3 (5 ∷ [])) 2 57
      ∷ [];
  stmts = line stmts.Empty 25 ∷ line (stmts.While 1 0) 15 ∷ line (stmts.Return None) 27
      ∷ line (stmts.Block [] (1 ∷ 2 ∷ [])) 14
      ∷ line (stmts.Expr 6) 57
      ∷ line (stmts.Block (0 ∷ []) (4 ∷ [])) 49
      ∷ [];
  main = 1;
}

abbrev i32 : TacKind
i32 = kind.Int int.I32

abbrev made : Pos → ℕ → List TacKind → List TacInstr → TacFun
made name params kinds is =
    record { name = name; params = params; temps = length kinds; kinds = kinds; code = is }

abbrev first_kinds : List TacKind
first_kinds = i32 ∷ i32 ∷ i32 ∷ []

abbrev step_code : Code
step_code r = instr.Copy 1 0 ∷ instr.Const 2 i32 1 ∷ instr.Int Sub int.I32 0 0 2 ∷ r

abbrev loop_code : Code
loop_code r = instr.Label 0 ∷ step_code (instr.Branch 1 false 2 ∷ instr.Label 1 ∷ instr.Turn ∷ instr.Jump 0
    ∷ instr.Label 2
    ∷ r)

abbrev second_kinds : List TacKind
second_kinds = kind.Cap false ∷ i32 ∷ i32 ∷ i32 ∷ []

abbrev change_code : Code
change_code r = instr.Load 1 0 i32 (at 58) ∷ instr.Const 2 i32 1 ∷ instr.Int Add int.I32 2 1 2
    ∷ instr.Store 0 2 i32 (at 58)
    ∷ r

abbrev call_code : Code
call_code r = instr.Zero 0 ∷ instr.Local 0 0 ∷ change_code (instr.Call None 0 (1 ∷ []) ∷ r)

abbrev end : List TacInstr
end = instr.Const 3 i32 0 ∷ instr.Return (Some 3) ∷ []

-- as it is lowered: the first function lacks its end
abbrev lowered : Tac
lowered = record {
  funs = made (at 6) 1 first_kinds (loop_code (instr.Return None ∷ []))
      ∷ made (at 38) 0 second_kinds (call_code end)
      ∷ [];
}

abbrev signs : ℕ → Signature
signs n = if n == 0 then record { gives = None; takes = i32 ∷ [] } else record { gives = Some i32; takes = [] }

abbrev mark : ℕ → ℕ → Mark
mark temps labels = record { temps = temps; labels = labels }

abbrev nowhere : Exits
nowhere = record { breaks = None; continues = None }

-- ---- where variables stand

abbrev scene : (size objects limit : ℕ) → Scene
scene size objects limit = record {
  size = size;
  fixed = 1;
  count = 1;
  objects = objects;
  limit = limit;
  home = λ x. None;
  spot = λ n. None;
}

only : {A : Type 0} (x : ℕ) (new a : A) → (if x == 0 then Some new else None) ≡ Some a → (x ≡ 0) × (new ≡ a)
only {A} x new a = by (x == 0) refl
  where
    by : (b : Bool) → (x == 0) ≡ b → (if b then Some new else None) ≡ Some a → (x ≡ 0) × (new ≡ a)
    by true q e = (grind (arith, nat_tests), same_some new a e)
    by false q e = absurd cc

is_scene : (size objects limit : ℕ) → 1 ≤ size → IsScene (scene size objects limit)
is_scene size objects limit le = record {
  room = le;
  home_below = λ x h e. absurd cc;
  home_counted = λ x h e. absurd cc;
  homes_differ = λ x y h i e. absurd cc;
  spot_below = λ n t e. absurd cc;
  spot_counted = λ n t e. absurd cc;
  spots_differ = λ m n s t e. absurd cc;
  apart = λ x n t h e. absurd cc;
}

abbrev own : Home
own = record { temp = 0; kind = i32 }

housed : (size objects limit : ℕ) → 1 ≤ size → IsScene (with_home 0 own (scene size objects limit))
housed size objects limit le = record {
  room = le;
  home_below = λ x h e. subst (λ z. z.temp < 1) (only x own h e).1 (omega arith);
  home_counted = λ x h e. let o = (only x own h e).0 in omega arith;
  homes_differ = λ x y h i e f same. let o = (only x own h e).0 in let q = (only y own i f).0 in omega arith;
  spot_below = λ n t e. absurd cc;
  spot_counted = λ n t e. absurd cc;
  spots_differ = λ m n s t e. absurd cc;
  apart = λ x n t h e f. absurd cc;
}

spotted : (size limit : ℕ) → 1 ≤ size → IsScene (with_spot 0 0 (scene size 1 limit))
spotted size limit le = record {
  room = le;
  home_below = λ x h e. absurd cc;
  home_counted = λ x h e. absurd cc;
  homes_differ = λ x y h i e. absurd cc;
  spot_below = λ n t e. let o = (only n 0 t e).1 in omega arith;
  spot_counted = λ n t e. let o = (only n 0 t e).0 in omega arith;
  spots_differ = λ m n s t e f same. let o = (only m 0 s e).0 in let q = (only n 0 t f).0 in omega arith;
  apart = λ x n t h e. absurd cc;
}

-- ---- the first function

module _ (limit : ℕ) where
  abbrev g : Scene
  g = with_home 0 own (scene 3 0 limit)

  abbrev step : Ex
  step = Compound (at 22) (Whole Sub int.I32 (Plain int.I32)) (Plain int.I32) (Plain int.I32) true (Variable (at 21) 0)
      (Number 1)

  assigned : IsAssignment program signs first_kinds g i32 step (Some 1) (mark 2 3) (mark 3 3) step_code
  assigned = code.assignment_stepped_variable_old {op = Whole Sub int.I32 (Plain int.I32)} {computed = Plain int.I32}
      {j = i32} {x = 0} {t = 0} {v = 1} {to = 1} {q = at 22} {s = at 21} {m = mark 2 3} {n = mark 2 3} refl (refl, refl)
      (code.given (omega arith)) (refl, tt)

  tested : IsCondition program signs first_kinds g i32 step false 2 (mark 1 3) (mark 3 3)
      (λ r. step_code (instr.Branch 1 false 2 ∷ r))
  tested = code.condition_branch {k = i32} {e = step} {t = 1} {when = false} {label = 2} {m = mark 1 3} {n = mark 3 3}
      {c = step_code}
      (code.operand_fresh {later = Nil} {k = i32} {e = step} {m = mark 1 3} {n = mark 3 3} {c = step_code}
      (code.value_assignment {k = i32} {e = step} {to = 1} {m = mark 2 3} {n = mark 3 3} {c = step_code} assigned)) refl

  looped : IsStatement program signs first_kinds None g nowhere (While (at 15) (Plain int.I32) step Empty) (mark 1 0)
      (mark 3 3) loop_code
  looped = part.looped {g = g} {x = nowhere} {k = Plain int.I32} {e = step} {b = Empty} {q = at 15} {l = mark 1 0}
      {m = mark 3 3} {n = mark 3 3} {c = λ r. step_code (instr.Branch 1 false 2 ∷ r)} {d = λ r. r}
      (part.tested {q = at 15} {j = i32} {e = step} {label = 2} {m = mark 1 3} {n = mark 3 3}
      {c = λ r. step_code (instr.Branch 1 false 2 ∷ r)} tested) part.empty

  first_body : IsStatement program signs first_kinds None g nowhere
      (Block [] (Seq (While (at 15) (Plain int.I32) step Empty) (Seq (Return None) End))) (mark 1 0) (mark 3 3)
      (λ r. loop_code (instr.Return None ∷ r))
  first_body = part.block {g = g} {h = g} {x = nowhere} {m = mark 1 0} {n = mark 3 3} {c = λ r. r}
      {d = λ r. loop_code (instr.Return None ∷ r)} part.nothing
      (part.seq {l = mark 1 0} {m = mark 3 3} {n = mark 3 3} {c = loop_code} {d = λ r. instr.Return None ∷ r} looped
      (part.seq {l = mark 3 3} {m = mark 3 3} {n = mark 3 3} {c = λ r. instr.Return None ∷ r} {d = λ r. r}
      (part.returns refl) part.end))

-- ---- the second one

module _ (limit : ℕ) where
  abbrev h : Scene
  h = with_spot 0 0 (scene 4 1 limit)

  abbrev change : Ex
  change = Compound (at 59) (Whole Add int.I32 (Plain int.I32)) (Plain int.I32) (Plain int.I32) true (Local (at 58) 0)
      (Number 1)

  changed : IsAssignment program signs second_kinds h i32 change (Some 1) (mark 2 0) (mark 3 0) change_code
  changed = code.assignment_stepped_object_old {op = Whole Add int.I32 (Plain int.I32)} {computed = Plain int.I32}
      {j = i32} {a = Local (at 58) 0} {at = 0} {t = 1} {to = 1} {q = at 59} {s = at 58} {l = mark 2 0} {m = mark 2 0}
      {n = mark 2 0} {c = λ r. r} refl (refl, refl) (code.pointer_local refl) (code.given (omega arith)) (refl, tt)

  abbrev called : Ex
  called = Call (at 57) (true ∷ false ∷ []) (Pointer_to (at 56) None (Function (at 56) 0)) (Cons change Nil)

  calls : IsEffect program signs second_kinds h called (mark 1 0) (mark 3 0)
      (λ r. change_code (instr.Call None 0 (1 ∷ []) ∷ r))
  calls = code.effect_call {k = None} {e = called} {m = mark 1 0} {n = mark 3 0}
      {c = λ r. change_code (instr.Call None 0 (1 ∷ []) ∷ r)}
      (code.call_named {k = None} {to = None} {f = 0} {fitting = true ∷ false ∷ []} {es = Cons change Nil}
      {ks = i32 ∷ []} {ts = 1 ∷ []} {q = at 57} {s = at 56} {u = at 56} {m = mark 1 0} {n = mark 3 0} {c = change_code}
      refl (omega arith) refl
      (code.arguments_one {e = change} {es = Nil} {k = i32} {ks = []} {t = 1} {ts = []} {l = mark 1 0} {m = mark 3 0}
      {n = mark 3 0} {c = change_code} {d = λ r. r}
      (code.operand_fresh {later = Nil} {k = i32} {e = change} {m = mark 1 0} {n = mark 3 0} {c = change_code}
      (code.value_assignment {k = i32} {e = change} {to = 1} {m = mark 2 0} {n = mark 3 0} {c = change_code} changed))
      code.arguments_none))

  second_body : IsStatement program signs second_kinds (Some i32) (scene 4 1 limit) nowhere
      (Block (Objects 0 ∷ []) (Seq (Do called) End)) (mark 1 0) (mark 3 0) call_code
  second_body = part.block {g = scene 4 1 limit} {h = h} {x = nowhere} {m = mark 1 0} {n = mark 3 0}
      {c = λ r. instr.Zero 0 ∷ instr.Local 0 0 ∷ r} {d = λ r. change_code (instr.Call None 0 (1 ∷ []) ∷ r)}
      (part.whole {g = scene 4 1 limit} {h = h} {n = 0} {t = 0} {ds = []} {c = λ r. r} (spotted 4 limit (omega arith))
      (λ i e. absurd cc) part.nothing)
      (part.seq {l = mark 1 0} {m = mark 3 0} {n = mark 3 0} {c = λ r. change_code (instr.Call None 0 (1 ∷ []) ∷ r)}
      {d = λ r. r} (part.evaluated calls) part.end)

-- ---- both

first_whole : TacFun
first_whole = made (at 6) 1 first_kinds (loop_code (instr.Return None ∷ instr.Return None ∷ []))

stands : IsProgram program lowered
unfolding stmt_tree expr_tree bare_within agree_within extent_within first_whole
stands = record {
  signs = signs;
  functions = (
    record {
      whole = first_whole;
      short = record {
        name = refl;
        kinds = refl;
        code = short.left (loop_code []) (instr.Return None ∷ []) None tt;
      };
      function = λ limit. record {
        entry = scene 3 0 limit;
        inner = with_home 0 own (scene 3 0 limit);
        take = λ r. r;
        body = λ r. loop_code (instr.Return None ∷ r);
        from = mark 1 0;
        to = mark 3 3;
        start = record {
          scene = is_scene 3 0 limit (omega arith);
          size = refl;
          count = refl;
          objects = refl;
          limited = refl;
          few = omega arith;
          spots = λ n t e. cc;
          homes = λ x h e. absurd cc;
        };
        taken = taken.variable (housed 3 0 limit (omega arith)) taken.none;
        statement = first_body limit;
        low = omega arith;
        high = omega arith;
        at = 0;
        room = tt;
        code = refl;
        ends = tt;
        name = refl;
      };
    },
    (
      record {
        whole = made (at 38) 0 second_kinds (call_code end);
        short = record { name = refl; kinds = refl; code = short.same };
        function = λ limit. record {
          entry = scene 4 1 limit;
          inner = scene 4 1 limit;
          take = λ r. r;
          body = call_code;
          from = mark 1 0;
          to = mark 3 0;
          start = record {
            scene = is_scene 4 1 limit (omega arith);
            size = refl;
            count = refl;
            objects = refl;
            limited = refl;
            few = omega arith;
            spots = λ n t e. cc;
            homes = λ x h e. absurd cc;
          };
          taken = taken.none;
          statement = second_body limit;
          low = omega arith;
          high = omega arith;
          at = 3;
          room = omega arith;
          code = refl;
          ends = refl;
          name = refl;
        };
      },
      tt,
    ),
  );
}
