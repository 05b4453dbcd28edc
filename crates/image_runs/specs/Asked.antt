-- What is asked of a program's code, of the words that were selected for it and of the machine that was loaded, for its
-- runs to be what the program means.
use Rattle.std.specs.Prelude.{◌≡◌, ℕ, ◌+◌, ◌*◌, ◌<◌, ◌≤◌, true, List, ◌∷◌, ◌++◌, length, Option, Some, None}
use Rattle.std.specs.Prelude.{slice_get}
use Rattle.std.specs.List.{Contains}
use Rattle.ck_base.specs.Agreement.{Sides, DoesWhatIsMeant}
use Rattle.ck_base.specs.World.{World, GivesBytes}
use Rattle.ck_base.specs.declared.positions.Pos.{Pos}
use Rattle.cap_ops.specs.declared.access.Cause.{Cause}
use Rattle.cap_machine.specs.declared.end.End.{End}
use Rattle.cap_machine.specs.declared.end.End.TheVariants as end
use Rattle.cap_machine.specs.declared.machine.Machine.{Machine}
use Rattle.rv_instr.specs.declared.instr.Instr.{Instr}
use Rattle.c_tree.specs.Typing.{Sound}
use Rattle.obj_mem.specs.Needs.{Legal, needs_of, weight_in}
use Rattle.obj_mem.specs.declared.ending.Ending.{Ending}
use Rattle.obj_mem.specs.declared.ending.Ending.TheVariants as ending
use Rattle.obj_mem.specs.declared.map.Frame.{Frame}
use Rattle.cheri_c_sem.specs.Runs.{placed}
use Rattle.purecap_abi.specs.Saving.{registers_at}
use Rattle.tac_ir.specs.Costs.{cost, prologue_cost}
use Rattle.tac_ir.specs.Meaning.{tac}
use Rattle.tac_ir.specs.Temps.{WritesFirst}
use Rattle.tac_ir.specs.WellFormed.{Signature, begins_with, int_result, is_well_formed}
use Rattle.tac_ir.specs.WellFormed.{signature_of_function}
use Rattle.tac_ir.specs.declared.code.TacFun.{TacFun}
use Rattle.tac_ir.specs.declared.code.TacInstr.{TacInstr}
use Rattle.tac_ir.specs.declared.code.TacInstr.TheVariants as instr
use Rattle.place_inject.specs.Entering.{IsFrameOf}
use Rattle.place_inject.specs.Frames.{homes_of}
use Rattle.place_inject.specs.Spills.{StackIsThere}
use Rattle.place_inject.specs.Tables.{TableIsThere}
use Rattle.tracked_runs.specs.Matching.{IsReport, sides_of}
use Rattle.select_words.specs.Services.{KeepSome}
use Rattle.select_words.specs.Entries.{stack_place}
use Rattle.select_words.specs.Zeroing.{ZeroWords, granules}
use Rattle.select_runs.specs.Acts.{place}
use Rattle.select_runs.specs.Copying.{copy_cost}
use Rattle.select_runs.specs.Instructions.{IsOperation}
use Rattle.select_runs.specs.Operands.{IsText, ground_of}
use Rattle.select_runs.specs.Returning.{StubAt}
use Rattle.select_runs.specs.Selecting.{selecting}
use Rattle.select_whole.specs.Matching.{AreFine, Starts}
use Rattle.select_whole.specs.Runs.{IsInteger, last_acts}
use Rattle.select_whole.specs.Visited.{Whole, gives_at, kinds_at, locals_of, main_of}
use Rattle.rv_select.specs.Selected.{AreNumbers, FunctionStands}
use Rattle.tac_live.specs.Calls.{arguments}
use Rattle.temp_homes.specs.Keeping.{KeepsTemps}

-- ---- places in a function's code

-- an instruction of it, with those that follow
pub record IsAt (f : TacFun) (i : TacInstr) (rest : List TacInstr) : Type 0 where
  pub before : List TacInstr
  pub is : f.code ≡ before ++ i ∷ rest

-- the temp for the result of a call of a function, where it is one
abbrev pub called_to : TacInstr → Option (Option ℕ)
called_to (instr.Call to fun args) = Some to
called_to (instr.CallValue to v of args source) = Some to
called_to i = None

module _ (g : Whole) where
  -- the function with a number
  abbrev pub Has : ℕ → TacFun → Type 0
  Has fun f = slice_get g.setting.code.funs fun ≡ Some f

  -- ---- what selection shows

  -- a trap at a word is reported at a place in the source; one at the first store of a prologue, for want of stack
  abbrev pub Says : (word : ℕ) → Pos → Type 0
  Says word source =
      (c : Cause) → g.report (end.Trap c (place (ground_of g.setting g.code) word)) ≡ Some (ending.Trap c source)

  abbrev pub Sinks : (word : ℕ) → Pos → Type 0
  Sinks word name =
      (c : Cause) → g.report (end.Trap c (place (ground_of g.setting g.code) word)) ≡ Some (ending.Stack name)

  -- the map's entry of a function is a word of the code
  abbrev pub Enters : (fun at : ℕ) → Type 0
  Enters fun at = slice_get g.setting.map.entries fun ≡ Some (place (ground_of g.setting g.code) at)

  -- A function: its frame, its words in the order of its instructions, and the words behind its calls, at which the
  -- machine goes on
  pub record FunctionIs (fun : ℕ) (f : TacFun) : Type 0 where
    pub frame : Frame
    pub framed : IsFrameOf g.setting fun (locals_of g fun) frame
    pub entry : ℕ
    pub enters : Enters fun entry
    pub stands : FunctionStands g.code Says Sinks Enters (selecting g.setting fun) frame f (g.word fun) entry
    -- its frame has places for the arguments of its calls
    pub room : (i : TacInstr) → Contains f.code i → (to : Option ℕ) → called_to i ≡ Some to
        → stack_place (length (arguments i)) ≤ registers_at (homes_of g.setting fun) frame
    pub back : (i : TacInstr) (rest : List TacInstr) → IsAt f i rest → (to : Option ℕ) → called_to i ≡ Some to
        → (keep : List Instr) → KeepSome (selecting g.setting fun) to keep → (at : ℕ)
        → at + length keep ≡ g.word fun rest → g.setting.back fun rest ≡ place (ground_of g.setting g.code) at

  -- the acts that are counted for instructions
  pub record AreDear : Type 0 where
    pub each : (fun : ℕ) (i : TacInstr) → cost i ≤ g.dear fun i
    pub copies : (fun : ℕ) (i : TacInstr) → copy_cost i ≤ g.dear fun i
    pub zeroes : (fun var : ℕ) (words : List Instr) (form : ZeroWords (selecting g.setting fun) var words)
        → cost (instr.Zero var) + 8 * granules form.slot ≤ g.dear fun (instr.Zero var)
    pub entered : (fun : ℕ) (f : TacFun) → Has fun f → prologue_cost f.params < g.setup fun

  pub record IsSelected : Type 0 where
    pub functions : (fun : ℕ) (f : TacFun) → Has fun f → FunctionIs fun f
    -- homes keep the temps where control comes; one that is a number is written by its constants alone
    pub homes : (fun : ℕ) (f : TacFun) → Has fun f → KeepsTemps f (homes_of g.setting fun)
    pub numbers : (fun : ℕ) (f : TacFun) → Has fun f → AreNumbers f (g.setting.numbers fun)
    -- behind the first call the run ends
    pub stub : ℕ
    pub ends : StubAt g.setting g.code stub
    pub dear : AreDear

  -- ---- what is of the program and its code alone

  pub record IsCode : Type 0 where
    pub sound : Sound g.program
    pub formed : is_well_formed g.setting.code g.program ≡ true
    -- the first temps of a function are of the kinds of its parameters, of which its type has as many
    pub parameters : (fun : ℕ) (x : Signature) → signature_of_function g.program fun ≡ Some x
        → begins_with (kinds_at g fun) x.params ≡ true
    pub counts : (fun : ℕ) (f : TacFun) (x : Signature) → Has fun f → signature_of_function g.program fun ≡ Some x
        → f.params ≡ length x.params
    -- the first function gives an `int`, and has no parameters
    pub main_gives : gives_at g (main_of g) ≡ Some int_result
    pub main_takes : (f : TacFun) → Has (main_of g) f → f.params ≡ 0
    -- a temp that is no parameter is written before it is read
    pub writes_first : (fun : ℕ) (f : TacFun) → Has fun f → WritesFirst f
    -- operations are at kinds that the promotions leave as they are
    pub promoted : (fun : ℕ) (f : TacFun) → Has fun f → (i : TacInstr) (rest : List TacInstr) → IsAt f i rest
        → IsInteger i → IsOperation i
    -- under a legal map the code means what the program means
    pub same : Legal g.program g.setting.map → (w : World) → GivesBytes w → (turns : ℕ)
        → tac g.setting.code g.program g.setting.map w turns ≡ placed g.program g.setting.map w turns

  -- ---- what is of the machine that was loaded

  -- the map is one for the program, and text, stack and table stand in the machine
  pub record IsLoaded : Type 0 where
    pub legal : Legal g.program g.setting.map
    pub needs : g.setting.needs ≡ needs_of (weight_in g.program) g.program
    pub text : IsText g.setting g.code
    pub stack : StackIsThere g.setting
    pub table : TableIsThere g.setting

  -- ---- all

  pub record IsAsked (first count : ℕ) (m : Machine) : Type 0 where
    pub selected : IsSelected
    pub code : IsCode
    pub loaded : IsLoaded
    -- in so many acts the machine comes to where the first function is entered
    pub starts : (w : World) → GivesBytes w → Starts g w first m
    -- what endings report, and how many acts there are for each turn
    pub reports : IsReport g.report
    pub fine : AreFine g
    pub enough : first + last_acts + g.most ≤ count

-- ---- what is then known

-- in one world, the machine's runs and what the program means
abbrev pub program_sides : Whole → World → Machine → Sides End Ending
program_sides g w m = sides_of g.report w (placed g.program g.setting.map w) m

abbrev pub AskedCodeRuns : Type 0
AskedCodeRuns =
    (g : Whole) (first count : ℕ) (m : Machine) → IsAsked g first count m → (w : World) → GivesBytes w
    → DoesWhatIsMeant (program_sides g w m) count
