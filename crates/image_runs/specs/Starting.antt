-- The machine that was loaded comes to the first function.
use Rattle.std.specs.Prelude.{◌≡◌, ℕ, ◌+◌, ℤ, pos, List, [], ◌∷◌, ◌++◌, length, None, Some, slice_get}
use Rattle.ck_base.specs.World.{World, GivesBytes, nothing_done}
use Rattle.rv_instr.specs.declared.instr.Instr.{Instr}
use Rattle.rv_instr.specs.declared.instr.Instr.TheVariants.{Cjal, Cjalr}
use Rattle.cap_machine.specs.declared.machine.Machine.{Machine}
use Rattle.cheri_c_sem.specs.Programs.{program_tree}
use Rattle.obj_mem.specs.Table.{function_entry}
use Rattle.tac_ir.specs.Meaning.{first_state}
use Rattle.place_inject.specs.Fits.{Fits}
use Rattle.tracked_runs.specs.Tracking.{moment}
use Rattle.select_words.specs.Calling.{FindsEntry}
use Rattle.select_words.specs.Standing.{HasAt}
use Rattle.select_runs.specs.Acts.{counter_at, place}
use Rattle.select_runs.specs.Operands.{ground_of}
use Rattle.select_whole.specs.Matching.{Starts}
use Rattle.select_whole.specs.Runs.{AreWords}
use Rattle.select_whole.specs.Visited.{Whole, locals_of, main_of, ops_of}
use Rattle.rv_emit.specs.Leading.{IsHop}
use Rattle.image_runs.specs.Asked.{Enters, IsCode, IsLoaded, IsSelected}

-- The machine stands for the program's first state, at the first word, and addresses have 64 bits in all that it comes
-- to
pub record IsFirst (g : Whole) (m : Machine) : Type 0 where
  pub fits : (w : World) (turns : ℕ) → Fits g.setting None
      (first_state (ops_of g) w g.setting.code g.program (locals_of g) (program_tree g.program) turns) m
  pub counter : m.pc ≡ counter_at (ground_of g.setting g.code) 0
  pub addresses : (w : World) → GivesBytes w → AreWords w (moment m nothing_done)

-- The first words call the first function, which lies so many bytes ahead, or whose sentry the table has, and behind
-- the call the run ends
pub data CallsFirst (g : Whole) : Type 0 where
  Near : (offset : ℤ) → slice_get g.code 0 ≡ Some (Cjal 1 offset)
      → ((at : ℕ) → Enters g (main_of g) at → IsHop 0 at offset)
      → g.setting.stub ≡ place (ground_of g.setting g.code) 1 → CallsFirst g
  Far : (finds : List Instr) → FindsEntry (function_entry g.setting.needs (main_of g)) finds
      → HasAt g.code 0 (finds ++ Cjalr 1 31 (pos 0) ∷ [])
      → g.setting.stub ≡ place (ground_of g.setting g.code) (length finds + 1) → CallsFirst g

-- In no act beside those with which the first function is entered the machine is there, or finds no room for its frame
abbrev pub FirstStarts : Type 0
FirstStarts = (g : Whole) → IsSelected g → IsCode g → IsLoaded g → CallsFirst g → (m : Machine) → IsFirst g m
    → (w : World) → GivesBytes w → Starts g w 0 m
