-- What is known of the runs of the machine to which an image loads.
use Rattle.std.specs.Prelude.{◌≡◌, ℕ, ◌+◌, ◌*◌, ◌^◌, ◌<◌, List, Ok}
use Rattle.ck_base.specs.World.{World, GivesBytes, nothing_done}
use Rattle.rv_instr.specs.declared.instr.Instr.{Instr}
use Rattle.cap_machine.specs.State.{register}
use Rattle.cap_machine.specs.Step.{act, limits}
use Rattle.cap_machine.specs.declared.machine.Machine.{Machine}
use Rattle.elf_file.specs.declared.image.Image.{Image}
use Rattle.image_load.specs.Contained.{Contained}
use Rattle.image_load.specs.Judging.{judged}
use Rattle.image_load.specs.State.{machine_of}
use Rattle.c_tree.specs.declared.typed.Typed.{Typed}
use Rattle.place_inject.specs.Fits.{HomesAreUsable}
use Rattle.place_inject.specs.Frames.{Setting}
use Rattle.tracked_runs.specs.Tracking.{Moment, Reaches, moment}
use Rattle.select_runs.specs.Acts.{counter_at}
use Rattle.select_runs.specs.Operands.{IsText, ground_of}
use Rattle.image_starts.specs.Images.{IsImageOf, HasBytes}

-- The code is the machine's text
abbrev pub ImagesAreText : Type 0
ImagesAreText = (p : Typed) (s : Setting) (code : List Instr) (i : Image) → IsImageOf p s code i → HomesAreUsable s
    → IsText s code

-- Of a contained image: in a world that gives bytes addresses have 64 bits in all that the machine comes to
abbrev pub ImagesHaveWords : Type 0
ImagesHaveWords = (i : Image) → judged i ≡ Ok tt → Contained i → HasBytes i → (w : World) → GivesBytes w
    → (k : ℕ) (n : Moment Machine) → Reaches limits act w k (moment (machine_of i) nothing_done) n
    → (r : ℕ) → (register n.state r).fields.address < 2 ^ 64

-- The counter is where the image is entered
abbrev pub ImagesBegin : Type 0
ImagesBegin = (p : Typed) (s : Setting) (code : List Instr) (i : Image) → IsImageOf p s code i → (at : ℕ)
    → i.entry ≡ s.map.text.0 + 4 * at → s.loaded.pc ≡ counter_at (ground_of s code) at
