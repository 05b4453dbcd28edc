-- What three-address code means. It is gone through from the front; turns are the one bound, and between two turns a
-- list of instructions is followed to its end at most once.
use Rattle.std.specs.Prelude.{ℕ, zero, suc, ◌%◌, ◌==◌, Bool, true, false, List, [], ◌∷◌, ◌++◌, length, drop, map}
use Rattle.std.specs.Prelude.{Option, Some, None, slice_get, slice_set, if◌then◌else◌}
use Rattle.ck_base.specs.World.{World, Outcome, nothing_done}
use Rattle.ck_base.specs.declared.positions.Pos.{Pos}
use Rattle.c_tree.specs.declared.typed.Typed.{Typed}
use Rattle.obj_mem.specs.Values.{Value}
use Rattle.obj_mem.specs.declared.ending.Ending.{Ending}
use Rattle.obj_mem.specs.declared.ending.Ending.TheVariants as ending
use Rattle.obj_mem.specs.declared.map.Map.{Map}
use Rattle.cheri_c_sem.specs.Calls.{add_locals, end_locals, start}
use Rattle.cheri_c_sem.specs.Kinds.{number_of, zero_of}
use Rattle.cheri_c_sem.specs.Modes.{operations, placed_plan}
use Rattle.cheri_c_sem.specs.Operations.{Operations}
use Rattle.cheri_c_sem.specs.Programs.{program_tree}
use Rattle.cheri_c_sem.specs.Steps.{State, Fate, over, outcome_of}
use Rattle.cheri_c_sem.specs.Tree.{Fun, Program}
use Rattle.tac_ir.specs.Effects.{kind_of, Next, On, To, Pause, Back, Into, effect, no_position}
use Rattle.tac_ir.specs.declared.code.Tac.{Tac}
use Rattle.tac_ir.specs.declared.code.TacFun.{TacFun}
use Rattle.tac_ir.specs.declared.code.TacInstr.{TacInstr}
use Rattle.tac_ir.specs.declared.code.TacInstr.TheVariants as instr
use Rattle.tac_ir.specs.declared.code.TacKind.{TacKind}

-- a call in progress: the caller, its temps, objects and frame, the instructions that it goes on with, and the temp for
-- the result
pub record Caller : Type 0 where
  pub fun : ℕ
  pub vars : List (Option Value)
  pub first : ℕ
  pub frame : ℕ
  pub rest : List TacInstr
  pub to : Option ℕ

-- the function that runs, and the calls in progress, the newest first
pub record Running : Type 0 where
  pub fun : ℕ
  pub callers : List Caller

-- How a list of instructions is gone through: it runs; a label is looked for; a Turn was just passed; or the frame
-- doesn't fit, and this is the function that was called.
pub data Going : Type 0 where
  Runs : Going
  Seeks : ℕ → Going
  Turned : Going
  Sinks : ℕ → Going

abbrev pub code_of : Option TacFun → List TacInstr
code_of None = []
code_of (Some f) = f.code

abbrev pub kinds_of : Option TacFun → List TacKind
kinds_of None = []
kinds_of (Some f) = f.kinds

abbrev pub name_of : Option TacFun → Pos
name_of None = no_position
name_of (Some f) = f.name

-- the lengths of a function's locals that are objects
abbrev pub objects_of : Option Fun → List ℕ
objects_of None = []
objects_of (Some f) = f.objects

-- at entry the arguments, and 0 or null in every other temp
abbrev pub entry_temps : List TacKind → List Value → List (Option Value)
entry_temps kinds vs = map Some vs ++ map (λ k. Some (zero_of (kind_of k))) (drop (length vs) kinds)

abbrev pub with_result : List (Option Value) → Option ℕ → Value → List (Option Value)
with_result vars None v = vars
with_result vars (Some t) v = slice_set vars t (Some v)

abbrev pub is_label : TacInstr → ℕ → Bool
is_label (instr.Label k) l = k == l
is_label i l = false

-- how many instructions there are up to a label, which counts, or to the end
abbrev pub up_to : ℕ → List TacInstr → ℕ
up_to l [] = 0
up_to l (i ∷ is) = if is_label i l then 1 else suc (up_to l is)

abbrev pub seek : Bool → ℕ → Going
seek true l = Runs
seek false l = Seeks l

module _ {M : Type 0} (ops : Operations M) (w : World) (t : Tac) (p : Typed) (objects : ℕ → List ℕ) where
  -- what goes on behind a turn
  abbrev pub Again : Type 0
  Again = List TacInstr → Going → Running → State M → Fate

  abbrev pub code_at : ℕ → List TacInstr
  code_at f = code_of (slice_get t.funs f)

  -- ---- calls

  -- a function's frame at an address, with its objects and temps
  abbrev pub in_frame : ℕ → ℕ → List Value → State M → State M
  in_frame address f vs s =
      record s {
        vars = entry_temps (kinds_of (slice_get t.funs f)) vs;
        first = ops.count s.mem;
        mem = add_locals ops s.mem address f 0 (objects f);
        frame = address;
      }

  -- A call uses its turn, and then takes the frame, where there is room
  abbrev pub enters : Again → Option ℕ → ℕ → List Value → Running → State M → Fate
  enters again None f vs r s = again [] (Sinks f) r s
  enters again (Some address) f vs r s = again (code_at f) Runs r (in_frame address f vs s)

  abbrev pub into : Again → List TacInstr → ℕ → List Value → Option ℕ → Running → State M → Fate
  into again rest f vs to r s =
      enters again (ops.enter f s.frame) f vs (record {
        fun = f;
        callers = record {
          fun = r.fun;
          vars = s.vars;
          first = s.first;
          frame = s.frame;
          rest = rest;
          to = to;
        } ∷ r.callers;
      }) s

  -- A return: the locals end, and behind a turn the caller has the result. The last return ends the run
  abbrev pub back : Again → Value → ℕ → List Caller → State M → Fate
  back again v f [] s = over (ending.Exit (number_of v % 256)) s
  back again v f (c ∷ cs) s =
      again c.rest Runs (record { fun = c.fun; callers = cs })
      (record s {
        vars = with_result c.vars c.to v;
        first = c.first;
        mem = end_locals ops s.mem s.first (objects f);
        frame = c.frame;
      })

  -- ---- one way through a list, up to the next turn. Code that runs off its end has no meaning of its own

  abbrev pub follow : Again → (Going → Running → State M → Fate) → List TacInstr → Running → Next → State M → Fate
  follow again onward rest r On s = onward Runs r s
  follow again onward rest r (To l) s = onward (Seeks l) r s
  follow again onward rest r Pause s = onward Turned r s
  follow again onward rest r (Back v) s = back again v r.fun r.callers s
  follow again onward rest r (Into f vs to) s = into again rest f vs to r s

  -- behind a Turn stands a jump or branch to a label that is not later, which is looked for from the start of the code
  abbrev pub turned : Again → List TacInstr → Running → Next → State M → Fate
  turned again rest r On s = again rest Runs r s
  turned again rest r (To l) s = again (code_at r.fun) (Seeks l) r s
  turned again rest r Pause s = over ending.Turns s
  turned again rest r (Back v) s = over ending.Turns s
  turned again rest r (Into f vs to) s = over ending.Turns s

  abbrev pub pass : Again → Again
  pass again is (Sinks f) r s = over (ending.Stack (name_of (slice_get t.funs f))) s
  pass again [] Runs r s = over ending.Turns s
  pass again [] (Seeks l) r s = over ending.Turns s
  pass again [] Turned r s = over ending.Turns s
  pass again (i ∷ is) Runs r s =
      effect ops w p (kinds_of (slice_get t.funs r.fun)) i s (follow again (pass again is) is r)
  pass again (i ∷ is) (Seeks l) r s = pass again is (seek (is_label i l) l) r s
  pass again (i ∷ is) Turned r s = effect ops w p (kinds_of (slice_get t.funs r.fun)) i s (turned again is r)

  -- what goes on behind a turn, where so many are left before it
  abbrev pub behind_turn : ℕ → Again
  behind_turn zero is g r s = over ending.Turns s
  behind_turn (suc m) is g r s = pass (behind_turn m) is g r (record s { left = m })

  -- with so many turns left
  abbrev pub turns : ℕ → Again
  turns m = pass (behind_turn m)

  -- the first entry uses no turn
  abbrev pub first_entry : ℕ → Option ℕ → ℕ → State M → Fate
  first_entry m None f s = over (ending.Stack (name_of (slice_get t.funs f))) s
  first_entry m (Some address) f s =
      turns m (code_at f) Runs (record { fun = f; callers = [] }) (in_frame address f [] s)

  abbrev pub first_state : Program → ℕ → State M
  first_state program m = record {
    vars = [];
    first = 0;
    mem = start ops program;
    frame = ops.stack_top;
    left = m;
    done = nothing_done;
  }

  unfoldable pub fate : Program → ℕ → Fate
  fate program m = first_entry m (ops.enter program.main ops.stack_top) program.main (first_state program m)

-- ---- the run of a program's code under a map, with so many turns: output, bytes taken and ending

abbrev pub objects_in : Program → ℕ → List ℕ
objects_in program f = objects_of (slice_get program.funs f)

abbrev pub tac : Tac → Typed → Map → World → ℕ → Outcome Ending
tac t p m w turns =
    let program = program_tree p in
    outcome_of w (fate (operations (placed_plan m)) w t p (objects_in program) program turns)
