-- Where a run of three-address code comes: to a function with the calls in progress, the instructions that it goes on
-- with, and a state.
use Rattle.std.specs.Prelude.{◌≡◌, ℕ, Bool, true, false, List, [], ◌∷◌, Option, Some, None, slice_get}
use Rattle.ck_base.specs.World.{World}
use Rattle.rv_instr.specs.declared.instr.Instr.{Instr}
use Rattle.cap_machine.specs.declared.end.End.{End}
use Rattle.c_tree.specs.declared.typed.Typed.{Typed}
use Rattle.obj_mem.specs.Values.{Value}
use Rattle.obj_mem.specs.declared.ending.Ending.{Ending}
use Rattle.cheri_c_sem.specs.Calls.{end_locals}
use Rattle.cheri_c_sem.specs.Kinds.{Kind}
use Rattle.cheri_c_sem.specs.Modes.{Store, operations, placed_plan}
use Rattle.cheri_c_sem.specs.Operations.{Operations}
use Rattle.cheri_c_sem.specs.Programs.{program_tree}
use Rattle.cheri_c_sem.specs.Steps.{State, Fate}
use Rattle.tac_ir.specs.Effects.{Next, On, To, Pause, Back, Into, effect}
use Rattle.tac_ir.specs.Meaning.{Caller, Running, code_of, kinds_of, with_result, in_frame, first_state, objects_in}
use Rattle.tac_ir.specs.Temps.{behind}
use Rattle.tac_ir.specs.WellFormed.{Signature, signature_of_function}
use Rattle.tac_ir.specs.declared.code.TacInstr.{TacInstr}
use Rattle.tac_ir.specs.declared.code.TacInstr.TheVariants as instr
use Rattle.tac_ir.specs.declared.code.TacKind.{TacKind}
use Rattle.place_inject.specs.Frames.{Setting}

-- ---- what is the same in all runs

-- The program, the words of its code, the setting with its three-address code, the word at which the machine goes on
-- with the rest of a function, the acts that an instruction of a function takes at most, those with which a function is
-- entered, those of a whole function, and what an ending of the machine reports
pub record Whole : Type 0 where
  pub program : Typed
  pub code : List Instr
  pub setting : Setting
  pub word : (fun : ℕ) → (rest : List TacInstr) → ℕ
  pub dear : (fun : ℕ) → TacInstr → ℕ
  pub setup : (fun : ℕ) → ℕ
  pub most : ℕ
  pub report : End → Option Ending

abbrev pub ops_of : Whole → Operations Store
ops_of g = operations (placed_plan g.setting.map)

abbrev pub tac_at : Whole → ℕ → List TacInstr
tac_at g fun = code_of (slice_get g.setting.code.funs fun)

abbrev pub kinds_at : Whole → ℕ → List TacKind
kinds_at g fun = kinds_of (slice_get g.setting.code.funs fun)

abbrev pub main_of : Whole → ℕ
main_of g = (program_tree g.program).main

abbrev pub locals_of : Whole → ℕ → List ℕ
locals_of g = objects_in (program_tree g.program)

-- what a function type gives
abbrev pub gives_by : Option Signature → Option Kind
gives_by None = None
gives_by (Some x) = x.gives

abbrev pub gives_at : Whole → ℕ → Option Kind
gives_at g fun = gives_by (signature_of_function g.program fun)

-- the first function, with no call in progress
abbrev pub first_running : Whole → Running
first_running g = record { fun = main_of g; callers = [] }

-- ---- what the meaning does at an instruction

abbrev pub Means : Whole → World → (fun : ℕ) → TacInstr → State Store → Next → State Store → Type 0
Means g w fun i t next u =
    (k : Next → State Store → Fate) → effect (ops_of g) w g.program (kinds_at g fun) i t k ≡ k next u

-- a function's state in a frame
abbrev pub in_frame_of : Whole → World → (address fun : ℕ) → List Value → State Store → State Store
in_frame_of g w address fun vs t =
    in_frame (ops_of g) w g.setting.code g.program (locals_of g) address fun vs t

-- at the start of a program, with so many turns
abbrev pub entry_of : Whole → World → (address turns : ℕ) → State Store
entry_of g w address turns =
    in_frame_of g w address (main_of g) []
    (first_state (ops_of g) w g.setting.code g.program (locals_of g) (program_tree g.program) turns)

-- the caller of a function, from a state on
abbrev pub caller_from : Running → List TacInstr → Option ℕ → State Store → Caller
caller_from r rest to t = record {
  fun = r.fun;
  vars = t.vars;
  first = t.first;
  frame = t.frame;
  rest = rest;
  to = to;
}

abbrev pub called_by : (fun : ℕ) → Running → List TacInstr → Option ℕ → State Store → Running
called_by fun r rest to t = record { fun = fun; callers = caller_from r rest to t ∷ r.callers }

-- a caller's state with the result of the function that ends
abbrev pub back_in : Whole → (fun : ℕ) → Caller → Value → State Store → State Store
back_in g fun c v t = record t {
  vars = with_result c.vars c.to v;
  first = c.first;
  mem = end_locals (ops_of g) t.mem t.first (locals_of g fun);
  frame = c.frame;
}

-- ---- the places

-- A run in a world comes to a list of instructions, before which a Turn stands or not
pub data Visited (g : Whole) (w : World) : Running → Bool → List TacInstr → State Store → Type 0 where
  begun : (address turns : ℕ) → (ops_of g).enter (main_of g) (ops_of g).stack_top ≡ Some address
      → Visited g w (first_running g) false (tac_at g (main_of g)) (entry_of g w address turns)
  on : {r : Running} {b : Bool} {i : TacInstr} {rest : List TacInstr} {t u : State Store}
      → Visited g w r b (i ∷ rest) t → Means g w r.fun i t On u → Visited g w r false rest u
  ahead : {r : Running} {i : TacInstr} {rest : List TacInstr} {t u : State Store} → (l : ℕ)
      → Visited g w r false (i ∷ rest) t → Means g w r.fun i t (To l) u → Visited g w r false (behind l rest) u
  again : {r : Running} {i : TacInstr} {rest : List TacInstr} {t u : State Store} → (l : ℕ)
      → Visited g w r true (i ∷ rest) t → Means g w r.fun i t (To l) u
      → Visited g w r false (behind l (tac_at g r.fun)) u
  paused : {r : Running} {i : TacInstr} {rest : List TacInstr} {t u : State Store}
      → Visited g w r false (i ∷ rest) t → Means g w r.fun i t Pause u → Visited g w r true rest u
  called : {r : Running} {i : TacInstr} {rest : List TacInstr} {t u : State Store}
      → (fun : ℕ) (vs : List Value) (to : Option ℕ) (address : ℕ)
      → Visited g w r false (i ∷ rest) t → Means g w r.fun i t (Into fun vs to) u
      → (ops_of g).enter fun u.frame ≡ Some address
      → Visited g w (called_by fun r rest to u) false (tac_at g fun) (in_frame_of g w address fun vs u)
  returned : {fun : ℕ} {c : Caller} {cs : List Caller} {i : TacInstr} {rest : List TacInstr} {t u : State Store}
      → (v : Value) → Visited g w (record { fun = fun; callers = c ∷ cs }) false (i ∷ rest) t
      → Means g w fun i t (Back v) u
      → Visited g w (record { fun = c.fun; callers = cs }) false c.rest (back_in g fun c v u)
  turn : {r : Running} {b : Bool} {is : List TacInstr} {t : State Store} → (left : ℕ) → Visited g w r b is t
      → Visited g w r b is (record t { left = left })

-- a Turn that was passed is looked back at while its jump is not done
abbrev pub looked_at : Bool → List TacInstr → List TacInstr
looked_at true is = instr.Turn ∷ is
looked_at false is = is
