-- What is made of a function, and of a program.
use Rattle.std.specs.Prelude.{◌≡◌, ℕ, ◌+◌, ◌<◌, ◌≤◌, List, ◌++◌, length, map, take, drop, flat_map, Some, slice_get}
use Rattle.std.specs.Prelude.{slice_index, [], ◌∷◌}
use Rattle.ck_base.specs.declared.positions.Pos.{Pos}
use Rattle.c_tree.specs.declared.syntax.Tree.{Tree}
use Rattle.c_tree.specs.declared.typed.Expr.{Expr}
use Rattle.c_tree.specs.declared.typed.Stmt.{Stmt}
use Rattle.c_tree.specs.declared.typed.StmtKind.{StmtKind}
use Rattle.c_tree.specs.declared.typed.StmtKind.TheVariants as stmts
use Rattle.c_tree.specs.declared.typed.VarDef.{VarDef}
use Rattle.c_tree.specs.declared.typed.FunDef.{FunDef}
use Rattle.c_tree.specs.declared.typed.GlobalDef.{GlobalDef}
use Rattle.c_tree.specs.declared.typed.Typed.{Typed}
use Rattle.c_tree.specs.Syntax.{Syn, StandsAt}
use Rattle.c_tree.specs.Types.{Ty}
use Rattle.c_tree.specs.Terms.{Action, Variable, Routine, Program}
use Rattle.c_tree.specs.Views.{type_at, types_of, actions_of, variable_of, routine_of, object_of, Shows, IsOrdered}
use Rattle.c_tree.specs.Passed.{Names, Passing, result_pointer, written_params, passed_param, copied_param}
use Rattle.c_tree.specs.Passed.{named_variables, variable_number, passing, param_copy, passed_body, passed_routine}
use Rattle.c_tree.specs.Passed.{passed, passed_object, passed_program, call_name, calls_in}
use Rattle.c_copy.specs.Copying.{actions_in, Extends}
use Rattle.c_copy.specs.Standing.{ActionStandsIn}
use Rattle.passing_steps.specs.Source.{Source}
use Rattle.passing_steps.specs.Made.{Made}
use Rattle.c_passing.specs.declared.functions.Whole.{Whole}
use Rattle.c_passing.specs.declared.functions.Standing.{Standing}
use Rattle.c_passing.specs.Lists.{copies_of}
use Rattle.c_passing.specs.Passes.{VarWithin, FormWithin}
use Rattle.passing_steps.specs.Numbered.{TypesFit}
use Rattle.passing_steps.specs.Named.{name_in}
use Rattle.passing_steps.specs.Ordered.{AreThere, VarsThere, TypesThere, Takes}
use Rattle.passing_steps.specs.Steps.{Fits, HasAction, HasActions}

-- what is known of the types and of the names of calls
pub record WholeFits (w : Whole) (ts : List Ty) : Type 0 where
  pub types : TypesFit w.program.now.types w.types.now ts

abbrev pub written_routine : Whole → FunDef → Routine
written_routine w f = routine_of (types_of w.program.now.types) (actions_of w.program.now) f

abbrev pub written_variable : Whole → VarDef → Variable
written_variable w v = variable_of (types_of w.program.now.types) v

abbrev pub source_routine : Source → FunDef → Routine
source_routine s f = routine_of (types_of s.program.now.types) (actions_of s.program.now) f

abbrev pub source_variable : Source → VarDef → Variable
source_variable s v = variable_of (types_of s.program.now.types) v

-- ---- what is asked of a function

abbrev pub IsBlock : StmtKind → Type 0
IsBlock (stmts.Block vars body) = Unit {0}
IsBlock k = ⊥

-- its parameters are among its variables, its body is a block, and what it names is there
pub record HasBody (p : Typed) (f : FunDef) : Type 0 where
  pub params : length f.params ≤ length f.vars
  pub block : (x : Stmt) → slice_get p.stmts f.body ≡ Some x → IsBlock x.kind
  pub there : f.body < length p.stmts
  pub stands : ActionStandsIn (VarWithin (length f.vars)) (FormWithin (length f.vars)) p.exprs p.stmts f.body

abbrev pub HaveBodies : Typed → Type 0
HaveBodies p = (k : ℕ) (f : FunDef) → slice_get p.funs k ≡ Some f → HasBody p f

-- ---- the variables of a function that have names

-- variables, as they are run
pub record AreRun (w : Whole) (vs : List VarDef) (all : List Variable) : Type 0 where
  pub count : length vs ≡ length all
  pub is : (ts : List Ty) → WholeFits w ts → map (variable_of ts) vs ≡ all
  pub typed : TypesThere w.types.now → VarsThere (length w.types.now.list.items) vs

-- one variable, as it is run
pub record IsRun (w : Whole) (v : VarDef) (x : Variable) : Type 0 where
  pub is : (ts : List Ty) → WholeFits w ts → variable_of ts v ≡ x
  pub typed : TypesThere w.types.now → v.of < length w.types.now.list.items

-- the variables of the first so many written ones stand for them
pub record IsNamed (w : Whole) (f : FunDef) (k : ℕ) (n : Standing) (all : List Variable) : Type 0 where
  pub before : n.before ≡ length (result_pointer (written_routine w f))
  pub copied : n.copied ≡ length (flat_map copied_param (take k (written_params (written_routine w f))))
  pub count : length n.numbers.items ≡ k
  pub numbers : (i v : ℕ) → slice_get n.numbers.items i ≡ Some v → variable_number (written_routine w f) i ≡ v
  pub vars : AreRun w n.vars.items all

-- those so far, where the first `k` parameters have been looked at
abbrev pub named_so_far : Routine → ℕ → List Variable
named_so_far r k = result_pointer r ++ map passed_param (written_params r)
    ++ flat_map copied_param (take k (written_params r))

-- one parameter more, with this number
abbrev pub AddsParam : Whole → Standing → Standing → VarDef → ℕ → Type 0
AddsParam w old new v k =
    (f : FunDef) → slice_get f.vars k ≡ Some v → k < length f.params → length f.params ≤ length f.vars →
    IsNamed w f k old (named_so_far (written_routine w f) k) →
    IsNamed w f (k + 1) new (named_so_far (written_routine w f) (k + 1))

-- these are the parameters, and the other locals, of a function
abbrev pub HasParams : Whole → FunDef → List VarDef → Type 0
HasParams w f vs = (vs ≡ take (length f.params) f.vars) × (length f.params ≤ length f.vars)

abbrev pub HasLocals : Whole → FunDef → List VarDef → Type 0
HasLocals w f vs = (vs ≡ drop (length f.params) f.vars) × (length f.params ≤ length f.vars)

-- ---- the body

-- the copy of a parameter that comes by a pointer
pub record IsParamCopy (s : Source) (old new : Made) (v : VarDef) (from to j : ℕ) : Type 0 where
  pub exprs : Extends old.exprs.items new.exprs.items
  pub stmts : Extends old.stmts.items new.stmts.items
  pub vars : new.vars ≡ old.vars
  pub is : (ts : List Ty) (e : Passing) → Fits s ts e →
      HasAction ts new.exprs.items new.stmts.items j (param_copy from to (source_variable s v))
  pub ordered : Takes s.types.now old new [] [] [] (j ∷ [])

-- the copies of parameters go behind other statements
pub record AreParamCopies (s : Source) (old new : Made) (from to : ℕ) (vs : List Variable) (before after : List ℕ) :
    Type 0 where
  pub exprs : Extends old.exprs.items new.exprs.items
  pub stmts : Extends old.stmts.items new.stmts.items
  pub vars : new.vars ≡ old.vars
  pub are : (ts : List Ty) (e : Passing) (ys : List Action) → Fits s ts e →
      HasActions ts old.exprs.items old.stmts.items before ys →
      HasActions ts new.exprs.items new.stmts.items after (ys ++ copies_of from to vs)
  pub ordered : Takes s.types.now old new [] before [] after

-- the body of a function, whose named variables are those of what was made so far
pub record IsBody (s : Source) (r : Routine) (old new : Made) (j : ℕ) : Type 0 where
  pub there : j < length new.stmts.items
  pub is : (ts : List Ty) (names : Names) → Fits s ts (passing names r) →
      length old.vars.items ≡ length (named_variables r) →
      HasAction ts new.exprs.items new.stmts.items j (passed_body names r)
  pub ordered : Takes s.types.now old new [] [] [] (j ∷ [])

-- ---- functions and the program

-- the types of a function, and of its variables
abbrev pub FunctionTyped : Whole → FunDef → Type 0
FunctionTyped w f =
    TypesThere w.types.now →
    (f.of < length w.types.now.list.items) × VarsThere (length w.types.now.list.items) f.vars

-- a function as it is run, over these expressions and statements and whatever stands behind them
pub record IsFunction (w : Whole) (r : Routine) (old new : Made) (f : FunDef) : Type 0 where
  pub exprs : Extends old.exprs.items new.exprs.items
  pub stmts : Extends old.stmts.items new.stmts.items
  pub there : f.body < length new.stmts.items
  pub typed : FunctionTyped w f
  pub ordered : Takes w.types.now old new [] [] [] (f.body ∷ [])
  pub is : (ts : List Ty) (names : Names) (more : List Expr) → WholeFits w ts →
      ((p : Pos) → names p ≡ name_in w.names.now p) →
      routine_of ts (actions_in ts (new.exprs.items ++ more) new.stmts.items) f ≡ passed_routine names r

pub record AreFunctions (w : Whole) (rs : List Routine) (old new : Made) (fs : List FunDef) : Type 0 where
  pub there : (k : ℕ) (f : FunDef) → slice_get fs k ≡ Some f → f.body < length new.stmts.items
  pub typed : (k : ℕ) (f : FunDef) → slice_get fs k ≡ Some f → FunctionTyped w f
  pub ordered : Takes w.types.now old new [] [] [] (map (λ (f : FunDef). f.body) fs)
  pub are : (ts : List Ty) (names : Names) (more : List Expr) → WholeFits w ts →
      ((p : Pos) → names p ≡ name_in w.names.now p) →
      map (routine_of ts (actions_in ts (new.exprs.items ++ more) new.stmts.items)) fs ≡ map (passed_routine names) rs

-- an object with its type as it is run
pub record IsObject (numbers : List ℕ) (old new : GlobalDef) : Type 0 where
  pub is : (types ts : List Ty) → ((k n : ℕ) → slice_index numbers k ≡ n → type_at ts n ≡ passed (type_at types k)) →
      object_of ts new ≡ passed_object (object_of types old)
  pub typed : (n : ℕ) → AreThere n numbers → new.of < n

pub record AreObjects (numbers : List ℕ) (old new : List GlobalDef) : Type 0 where
  pub are : (types ts : List Ty) →
      ((k n : ℕ) → slice_index numbers k ≡ n → type_at ts n ≡ passed (type_at types k)) →
      map (object_of ts) new ≡ map passed_object (map (object_of types) old)
  pub typed : (n : ℕ) → AreThere n numbers → (k : ℕ) (g : GlobalDef) → slice_get new k ≡ Some g → g.of < n

-- The program that is run stands for the passed one, where the calls have the names that the syntax gives them. Its
-- numbers are in order
pub record IsPassedProgram (tree : Tree) (old new : Typed) : Type 0 where
  pub shows : (x : Syn) (q : Program) → StandsAt tree.nodes tree.root x → Shows old q →
      Shows new (passed_program (call_name (calls_in x)) q)
  pub ordered : IsOrdered new
