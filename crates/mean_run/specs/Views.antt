-- What the state of a run is in the words of the machine.
use Rattle.std.specs.Prelude.{ℕ, List, [], map, Option, Some, None, option_map, slice_get}
use Rattle.c_tree.specs.declared.typed.FunDef.{FunDef}
use Rattle.c_tree.specs.declared.typed.Typed.{Typed}
use Rattle.c_tree.specs.declared.typed.VarDef.{VarDef}
use Rattle.obj_mem.specs.Values.{value_of}
use Rattle.cheri_c_sem.specs.Expressions.{expr_tree}
use Rattle.cheri_c_sem.specs.Meaning as meaning
use Rattle.cheri_c_sem.specs.Modes.{Store}
use Rattle.cheri_c_sem.specs.Programs.{function_tree, function_trees, stmt_tree}
use Rattle.cheri_c_sem.specs.Tree.{Number, Declared, St, Block, While, Do_while, For, Switch, Empty, Sts, End}
use Rattle.cheri_c_sem.specs.Tree.{Gives_nothing, Fun}
use Rattle.mean_steps.specs.Machine as machine
use Rattle.mean_steps.specs.Parts.{Now}
use Rattle.mean_run.specs.declared.call.Call.{Call}
use Rattle.mean_run.specs.declared.state.State.{State}
use Rattle.mean_run.specs.Locals.{vars_of}
use Rattle.mean_work.specs.Places.{place_of}
use Rattle.mean_work.specs.declared.work.Work as code_work
use Rattle.mean_work.specs.declared.work.Work.TheVariants as work

abbrev pub caller_of : Call → machine.Caller
caller_of c = record { vars = map (option_map value_of) c.variables.items; first = c.first; frame = c.frame }

-- the loop that a statement is, the statements that it runs through, and what it declares
abbrev pub loop_of : St → machine.Loop
loop_of (While pos k e b) = machine.Before (Some (pos, k, e)) None b
loop_of (Do_while pos k b e) = machine.Behind pos k e b
loop_of (For ds first t u b) = machine.Before t u b
loop_of a = machine.Before None None Empty

abbrev pub parts_of : St → Sts
parts_of (Block ds ss) = ss
parts_of (For ds first t u b) = first
parts_of (Switch pos k e ds ls ss) = ss
parts_of a = End

abbrev pub declared_of : St → List Declared
declared_of (Block ds ss) = ds
declared_of (For ds first t u b) = ds
declared_of (Switch pos k e ds ls ss) = ds
declared_of a = []

-- a function, and what stands for one that is not there
abbrev pub fun_of : Typed → ℕ → Option FunDef → Fun
fun_of p f None = record {
  name = record { line = 0; col = 0 };
  params = [];
  vars = 0;
  objects = [];
  at_end = Gives_nothing;
  body = Empty;
}
fun_of p f (Some d) = function_tree p f d

module _ (p : Typed) where
  -- the variables of a function
  abbrev pub vars_at : ℕ → List VarDef
  vars_at f = vars_of (slice_get p.funs f)

  abbrev pub item_of : code_work.Work → machine.Item
  item_of (work.Value f k) = machine.Evaluate (expr_tree p (vars_at f) k)
  item_of (work.Place f k) = machine.Designate (expr_tree p (vars_at f) k)
  item_of work.One = machine.Evaluate (Number 1)
  item_of work.Drop = machine.Drop
  item_of (work.Finish f k) = machine.Finish (expr_tree p (vars_at f) k)
  item_of (work.FinishPlace f k) = machine.Finish_place (expr_tree p (vars_at f) k)
  item_of (work.Choose f k) = machine.Choose (expr_tree p (vars_at f) k)
  item_of (work.ChoosePlace f k) = machine.Choose_place (expr_tree p (vars_at f) k)
  item_of (work.Decide f k) = machine.Decide (expr_tree p (vars_at f) k)
  item_of (work.Begin f) = machine.Begin f
  item_of (work.Return f first) = machine.Leave_function first (fun_of p f (slice_get p.funs f))
  item_of (work.Statement f k) = machine.Execute (stmt_tree p (vars_at f) k)
  item_of work.Nothing = machine.Execute Empty
  item_of (work.Rest f k n) = machine.Rest (machine.execs_behind (parts_of (stmt_tree p (vars_at f) k)) n)
  item_of (work.Initialize f k) = machine.Initialize (stmt_tree p (vars_at f) k)
  item_of (work.Branch f k) = machine.Branch (stmt_tree p (vars_at f) k)
  item_of (work.Test f k) = machine.Test (loop_of (stmt_tree p (vars_at f) k))
  item_of (work.Tested f k) = machine.Tested (loop_of (stmt_tree p (vars_at f) k))
  item_of (work.Again f k) = machine.Again (loop_of (stmt_tree p (vars_at f) k))
  item_of (work.Turn f k) = machine.Turn (loop_of (stmt_tree p (vars_at f) k))
  item_of (work.Switch f k) = machine.Choose_label (stmt_tree p (vars_at f) k)
  item_of work.SwitchEnd = machine.Switch_end
  item_of (work.Leave f k) = machine.Leave (declared_of (stmt_tree p (vars_at f) k))
  item_of work.Give = machine.Give_back

-- the functions of a program
abbrev pub funs_of : Typed → List Fun
funs_of p = function_trees p 0 p.funs

-- the current call, with what is held of memory
abbrev pub now_of : State → Store → Now Store
now_of s held = record {
  vars = map (option_map value_of) s.call.variables.items;
  first = s.call.first;
  mem = held;
  frame = s.call.frame;
  left = s.left;
}

-- the whole state
abbrev pub moment_of : Typed → State → Store → machine.Moment Store
moment_of p s held = record {
  work = map (item_of p) s.work;
  values = map value_of s.values;
  places = map place_of s.places;
  callers = map caller_of s.callers;
  now = now_of s held;
}
