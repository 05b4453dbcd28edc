-- What the end of a file gives.
use Rattle.std.specs.Prelude.{ℤ, pos, neg_ℤ, ◌≤ℤ◌, ◌^◌}
use Rattle.std.specs.Prelude.{◌≡◌, ℕ, ◌+◌, ◌<◌, ◌≤◌, List, [], ◌∷◌, length, map, flat_map, take}
use Rattle.std.specs.Prelude.{Option, Some, None, Result, Ok, Err, slice_get}
use Rattle.ck_base.specs.declared.positions.Pos.{Pos}
use Rattle.ck_base.specs.declared.refusal.Refusal.{Refusal}
use Rattle.ck_base.specs.declared.refusal.Refusal.TheVariants.{Code, NoMemory}
use Rattle.c_tree.specs.declared.typed.FunDef.{FunDef}
use Rattle.c_tree.specs.declared.typed.GlobalDef.{GlobalDef}
use Rattle.c_tree.specs.declared.typed.Typed.{Typed}
use Rattle.c_tree.specs.Syntax.{Syn, StandsAt}
use Rattle.c_tree.specs.Terms.{Block, Action, action, Actions, no_terms, Program}
use Rattle.c_tree.specs.Passed.{passed_program, call_name, calls_in}
use Rattle.c_tree.specs.Scopes.{Reach, All, Within, Aiming, Body, Fault, State, StaticState, RoutineState}
use Rattle.c_tree.specs.Views.{Shows, IsOrdered, types_of, actions_of, routine_of}
use Rattle.c_tree.specs.Views as views
use Rattle.c_tree.specs.Programs.{action_with}
use Rattle.c_tree.specs.Programs as programs
use Rattle.c_elaborator.specs.declared.work.Filling.{Filling}
use Rattle.c_elaborator.specs.declared.work.Start.{Start}
use Rattle.c_elaborator.specs.declared.work.Work.{Work}
use Rattle.c_elaborator.specs.Work as works
use Rattle.c_copy.specs.declared.numbers.Numbers.{Numbers}
use Rattle.c_copy.specs.Copying.{AreNumbers, expr_with}
use Rattle.c_copy.specs.Standing.{ActionStands}
use Rattle.c_passing.specs.Passes.{VarWithin, FormWithin}
use Rattle.c_plain_rules.specs.MainFunction.{IsMain}
use Rattle.c_finish.specs.declared.file_end.Parts.{Parts}

-- the lists stand for the program that the file is
pub record IsFinished (r : Result Program Fault) (p : Typed) : Type 0 where
  pub program : Program
  pub is : r ≡ Ok program
  pub shows : Shows p program
  pub ordered : IsOrdered p

-- The finished program, or the rule that fails. Want of memory says nothing
abbrev pub Finished : Result Program Fault → Result Typed Refusal → Type 0
Finished r (Ok p) = IsFinished r p
Finished r (Err (Code code place)) = r ≡ Err (record { code = code; place = place })
Finished r (Err NoMemory) = Unit {0}

-- the body of a function is a block, its parameters are among its variables, and it names variables of its own
pub record BodyFits (b : Body) : Type 0 where
  pub vars : List ℕ
  pub parts : Actions
  pub place : Pos
  pub is : b.action ≡ action (Block vars) no_terms parts place
  pub params : length b.params ≤ length b.vars
  pub variables : ActionStands (VarWithin (length b.vars)) (FormWithin (length b.vars)) b.action

-- an address and the beginning of its bounds are near the beginning of what it points to
abbrev pub ReachIsNear : Reach → Type 0
ReachIsNear All = Unit {0}
ReachIsNear (Within low n) = low ≤ 2 ^ 32

abbrev pub IsNear : Reach → ℤ → Type 0
IsNear r z = ReachIsNear r × (neg_ℤ (pos (2 ^ 32)) ≤ℤ z) × (z ≤ℤ pos (2 ^ 32))

-- what typing sees to: initial pointers are near, and bodies fit
pub record IsTyped (s : State) : Type 0 where
  pub near : programs.earliest (programs.last_faults s) ≡ None → (k j : ℕ) (g : StaticState) (i : List ℕ × List Aiming)
      (a : Aiming) → slice_get s.statics k ≡ Some g → g.initial ≡ Some i → slice_get i.1 j ≡ Some a →
      IsNear a.reach a.offset
  pub bodies : (k : ℕ) (f : RoutineState) (b : Body) → slice_get s.routines k ≡ Some f → f.body ≡ Some b → BodyFits b

-- the work stands for some state that typing gives
pub record IsShown (w : Work) : Type 0 where
  pub state : State
  pub shows : works.Shows w state
  pub typed : IsTyped state

-- so are all of an initial value
abbrev pub AreNear : List Start → Type 0
AreNear xs = (j : ℕ) (x : Start) → slice_get xs j ≡ Some x → IsNear (works.reach_of x.bounds) x.offset

-- no rule fails at the end of the file
abbrev pub IsFaultless : Work → Type 0
IsFaultless w = (s : State) → works.Shows w s → programs.earliest (programs.last_faults s) ≡ None

-- the new numbers of objects and functions are those of the program
abbrev pub HaveNumbers : Work → Numbers → Type 0
HaveNumbers w t = (s : State) → works.Shows w s → AreNumbers t (programs.numbers_of s)

-- an initial value
abbrev pub filled : Filling → List ℕ × List Aiming
filled f = (f.bytes.items, map works.aiming_of f.starts.items)

-- the objects that are defined
abbrev pub AreObjects : Work → List GlobalDef → Type 0
AreObjects w os = (s : State) → works.Shows w s →
    map (views.object_of (types_of w.nodes.p.types)) os ≡ flat_map (programs.object_of s) s.statics

-- one object more
abbrev pub AddsObject : Work → ℕ → List GlobalDef → List GlobalDef → Type 0
AddsObject w k os ps =
    (s : State) → works.Shows w s → k < length s.statics →
    map (views.object_of (types_of w.nodes.p.types)) os ≡ flat_map (programs.object_of s) (take k s.statics) →
    map (views.object_of (types_of w.nodes.p.types)) ps ≡ flat_map (programs.object_of s) (take (k + 1) s.statics)

-- the statements of the work, which name objects and functions by their new numbers
abbrev pub new_actions : Work → State → List Action
new_actions w s = map (action_with (programs.numbers_of s)) (actions_of w.nodes.p)

-- the functions that are defined, among the first so many
abbrev pub AreRoutines : Work → State → ℕ → List FunDef → Type 0
AreRoutines w s k fs =
    map (routine_of (types_of w.nodes.p.types) (new_actions w s)) fs
    ≡ flat_map (programs.routine_of s) (take k s.routines)

abbrev pub IsRoutine : Work → ℕ → FunDef → Type 0
IsRoutine w k f = (s : State) (r : RoutineState) → works.Shows w s → slice_get s.routines k ≡ Some r →
    routine_of (types_of w.nodes.p.types) (new_actions w s) f ∷ [] ≡ programs.routine_of s r

-- the bodies of functions are among the statements
abbrev pub BodiesThere : Work → List FunDef → Type 0
BodiesThere w fs = (k : ℕ) (f : FunDef) → slice_get fs k ≡ Some f → f.body < length w.nodes.p.stmts

-- one function more
abbrev pub AddsRoutine : Work → ℕ → List FunDef → List FunDef → Type 0
AddsRoutine w k fs gs =
    (s : State) → works.Shows w s → k < length s.routines → AreRoutines w s k fs → AreRoutines w s (k + 1) gs

-- the lists stand for the program of each state that the work stands for, as it is written
abbrev pub IsWritten : Work → Typed → Type 0
IsWritten w p = (s : State) → works.Shows w s → Shows p (programs.program_of s)

-- the syntax of the file
abbrev pub IsSyntax : Work → Syn → Type 0
IsSyntax w x = StandsAt w.tree.now.nodes w.tree.now.root x

-- and the lists stand for the one that is run, where the calls have the names that the syntax gives them
pub record IsProgram (w : Work) (p : Typed) : Type 0 where
  pub shows : (s : State) (x : Syn) → works.Shows w s → IsSyntax w x →
      Shows p (passed_program (call_name (calls_in x)) (programs.program_of s))
  pub ordered : IsOrdered p

-- ---- what the end of the file makes

-- the program of these parts, with the types, the literals and the statements of the work, and its expressions by the
-- new numbers
abbrev pub program_with : Work → Parts → programs.Numbers → Typed
program_with w p n = record {
  types = w.nodes.p.types;
  globals = p.globals.items;
  literals = w.nodes.p.literals;
  funs = p.funs.items;
  exprs = map (expr_with n) w.nodes.p.exprs;
  stmts = w.nodes.p.stmts;
  main = p.main;
}

abbrev pub IsAssembled : Work → Parts → Typed → Type 0
IsAssembled w x p = (n : programs.Numbers) → AreNumbers x.numbers n → p ≡ program_with w x n

-- the parts of the program as it is written
pub record AreParts (w : Work) (p : Parts) : Type 0 where
  pub numbers : HaveNumbers w p.numbers
  pub written : (s : State) → works.Shows w s →
      Shows (program_with w p (programs.numbers_of s)) (programs.program_of s)
  pub bodies : BodiesThere w p.funs.items

-- the same, where a `main` is defined
pub record HaveMain (w : Work) (p : Parts) : Type 0 where
  pub main : ℕ
  pub is : IsMain w (Some main)
  pub parts : AreParts w p

-- the parts, where no fault is found, or the rule that fails. Want of memory says nothing
abbrev pub EndsIn : Work → (State → Option Fault) → Result Parts Refusal → Type 0
EndsIn w f (Ok p) = ((s : State) → works.Shows w s → f s ≡ None) × HaveMain w p
EndsIn w f (Err e) =
    (s : State) (x : Syn) → works.Shows w s → IsSyntax w x →
    Finished (programs.ended (call_name (calls_in x)) (f s) s) (Err e)
