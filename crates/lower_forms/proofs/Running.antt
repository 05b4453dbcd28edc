-- And so the bodies of its functions, and the code of these.
use Rattle.std.proofs.Common.{◌≡◌, ℕ, zero, suc, ◌/◌, ◌^◌, ◌<◌, ◌≤◌, Bool, true, false, List, [], ◌∷◌}
use Rattle.std.proofs.Common.{Option, Some, None, refl, ap, arith, if◌then◌else◌}
use Rattle.std.specs.Prelude.{slice_get}
use Rattle.std.proofs.lemmas.Bool.{and_parts}
use Rattle.std.proofs.Math.Nat.{div-le_self}
use Rattle.std.proofs.lemmas.Option.{slice_get-get_or}
use Rattle.std.proofs.Common.{get_or}
use Rattle.ck_base.specs.declared.positions.Pos.{Pos}
use Rattle.c_tree.specs.Layout.{bare, size_limit}
use Rattle.c_tree.specs.Typing.{Sound}
use Rattle.c_tree.specs.Views.{values, nowhere}
use Rattle.c_tree.specs.declared.typed.Expr.{Expr}
use Rattle.c_tree.specs.declared.typed.ExprKind.TheVariants as exprs
use Rattle.c_tree.specs.declared.typed.FunDef.{FunDef}
use Rattle.c_tree.specs.declared.typed.Stmt.{Stmt}
use Rattle.c_tree.specs.declared.typed.StmtKind.{StmtKind}
use Rattle.c_tree.specs.declared.typed.StmtKind.TheVariants as stmts
use Rattle.c_tree.specs.declared.typed.Typed.{Typed}
use Rattle.c_tree.specs.declared.typed.VarDef.{VarDef}
use Rattle.cheri_c_sem.specs.Expressions.{expr_tree}
use Rattle.cheri_c_sem.specs.Kinds.{Kind}
use Rattle.cheri_c_sem.specs.Programs.{stmt_tree, stmt_kind_tree, stmt_node_tree, stmt_levels, statements, test_in}
use Rattle.cheri_c_sem.specs.Programs.{expression_of, statement_or_empty}
use Rattle.cheri_c_sem.specs.Tree.{Ex, St, Give, Init, Fill}
use Rattle.cheri_c_sem.specs.Types.{is_record, is_simple}
use Rattle.tac_ir.specs.WellFormed.{instruction_fits, is_unit, is_well_formed, functions_fit, units_fit}
use Rattle.tac_ir.specs.declared.code.Tac.{Tac}
use Rattle.tac_ir.specs.declared.code.TacFun.{TacFun}
use Rattle.tac_ir.specs.declared.code.TacInstr.{TacInstr}
use Rattle.tac_ir.specs.declared.code.TacInstr.TheVariants as instr
use Rattle.value_trees.specs.Nodes.{type_at}
use Rattle.lower_forms.specs.Forms.{EachInstruction, IsCounted, IsMade}
use Rattle.lower_forms.specs.Laws.{CodeIsMade, CopiesAreCounted, CodeHasForm}
use Rattle.lower_forms.proofs.Trees.{Works, WorksIfAny, WorksTested, Runs, AllRun}
use Rattle.lower_forms.proofs.Calling.{calls_are_short}
use Rattle.lower_forms.proofs.Naming.{code_is_named, definition_there, fits_at, functions_at, parts_of}
use Rattle.lower_forms.proofs.Parameters.{main_gives_int, parameters_are_taken}
use Rattle.lower_forms.proofs.Statements.{made}
use Rattle.lower_forms.proofs.Working.{o, size_small, works}

initial_runs : (pos : Pos) (x y offset bytes unit : ℕ) (k : Kind) (e : Ex) (b c : Bool) → bytes ≤ size_limit → Works e →
    Runs (if b then Give x e else if c then Fill pos y offset bytes unit e else Init pos y offset k e)
initial_runs pos x y offset bytes unit k e true c le w = w
initial_runs pos x y offset bytes unit k e false true le w = (le, w)
initial_runs pos x y offset bytes unit k e false false le w = w

module _ (p : Typed) (h : Sound p) (vars : List VarDef) where
  abbrev tr : ℕ → Ex
  tr k = expr_tree p vars k

  abbrev nothing : Expr
  nothing = record { kind = exprs.Constant 0; of = 0; pos = nowhere }

  tested : (pos : Pos) (k : Option ℕ) → WorksTested (test_in p vars pos tr k)
  tested pos None = tt
  tested pos (Some k) = works p h vars k

  stepped : (k : Option ℕ) → WorksIfAny (expression_of tr k)
  stepped None = tt
  stepped (Some k) = works p h vars k

  module _ (t : ℕ → St) (runs : (k : ℕ) → Runs (t k)) where
    all_run : (ks : List ℕ) → AllRun (statements t ks)
    all_run [] = tt
    all_run (k ∷ ks) = (runs k, all_run ks)

    or_empty : (k : Option ℕ) → Runs (statement_or_empty t k)
    or_empty None = tt
    or_empty (Some k) = runs k

    kind_runs : (k : ℕ) (s : Stmt) → slice_get p.stmts k ≡ Some s → (pos : Pos) (kd : StmtKind) → s.kind ≡ kd →
        Runs (stmt_kind_tree p vars tr t pos kd)
    kind_runs k s there pos (stmts.Expr a) i = works p h vars a
    kind_runs k s there pos (stmts.Init y offset a) i =
        let lt = (o p h).values_there k 0 a s there (ap (λ z. slice_get (values z) 0) i) in
        initial_runs pos y _ offset _ _ _ (tr a) (is_simple (slice_get vars y)) (is_record (bare p.types (type_at p a)))
        (size_small p h a (get_or p.exprs a nothing) (slice_get-get_or p.exprs a nothing lt)) (works p h vars a)
    kind_runs k s there pos (stmts.Block xs ks) i = all_run ks
    kind_runs k s there pos (stmts.If c a b) i = (works p h vars c, runs a, or_empty b)
    kind_runs k s there pos (stmts.While c a) i = (works p h vars c, runs a)
    kind_runs k s there pos (stmts.Do a c) i = (runs a, works p h vars c)
    kind_runs k s there pos (stmts.For xs first test step a) i = (all_run first, tested pos test, stepped step, runs a)
    kind_runs k s there pos (stmts.Switch on xs labels ks) i = (works p h vars on, all_run ks)
    kind_runs k s there pos stmts.Break i = tt
    kind_runs k s there pos stmts.Continue i = tt
    kind_runs k s there pos (stmts.Return a) i = stepped a
    kind_runs k s there pos stmts.Empty i = tt

    node_runs : (k : ℕ) (m : Option Stmt) → slice_get p.stmts k ≡ m → Runs (stmt_node_tree p vars tr t m)
    node_runs k None e = tt
    node_runs k (Some s) e = kind_runs k s e s.pos s.kind refl

  levels_run : (n k : ℕ) → Runs (stmt_levels p vars n k)
  levels_run zero k = tt
  levels_run (suc n) k = node_runs (stmt_levels p vars n) (levels_run n) k (slice_get p.stmts k) refl

  pub body_runs : (k : ℕ) → Runs (stmt_tree p vars k)
  unfolding stmt_tree
  body_runs k = levels_run (suc k) k

-- ---- its code

pub code_is_made : CodeIsMade
code_is_made p h t is = made p t is (λ k d e. body_runs p h d.vars d.body)

-- ---- copies

some_unit : (n : ℕ) → is_unit n ≡ true → 0 < n
some_unit zero e = absurd cc
some_unit (suc n) e = omega arith

counted : (bytes unit : ℕ) → units_fit bytes unit ≡ true → bytes ≤ size_limit →
    (0 < unit) × (bytes / unit < 2 ^ 31)
counted bytes unit fits le =
    let u = some_unit unit (and_parts (is_unit unit) _ fits).0 in
    let d = div-le_self bytes unit in (u, omega (arith, d, le))

is_counted : (p : Typed) (d : FunDef) (f : TacFun) (i : TacInstr) → instruction_fits p d f.kinds f.code i ≡ true →
    IsMade i → IsCounted i
is_counted p d f (instr.CopyUnits from to bytes unit q r) fits le = counted bytes unit (and_parts _ _ fits).1 le
is_counted p d f i fits le = tt

all_counted : (p : Typed) (t : Tac) → functions_fit p p.funs t.funs ≡ true → EachInstruction t IsMade →
    EachInstruction t IsCounted
all_counted p t formed made k f e i at =
    let d = definition_there p p.funs t.funs k f formed e in
    let parts = parts_of p d.0 f (functions_at p p.funs t.funs k d.0 f formed d.1 e) in
    is_counted p d.0 f i (fits_at (instruction_fits p d.0 f.kinds f.code) f.code at.0 i parts.each at.1)
    (made k f e i at)

pub copies_are_counted : CopiesAreCounted
unfolding is_well_formed
copies_are_counted p h t is formed = all_counted p t formed (code_is_made p h t is)

-- ---- all

pub code_has_form : CodeHasForm
code_has_form p h light t is formed within = record {
  named = code_is_named p t formed;
  takes = parameters_are_taken p h t formed;
  main = main_gives_int p h;
  made = code_is_made p h t is;
  counted = copies_are_counted p h t is formed;
  short = calls_are_short p light t within.costs;
}
