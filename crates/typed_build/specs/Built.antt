-- What it means that an image was built from a typed program.
use Rattle.std.specs.Prelude.{◌≡◌, ℕ, zero, suc, ◌+◌, ◌*◌, ◌<◌, ◌⊎◌, true, List, length}
use Rattle.std.specs.Prelude.{slice_get, Option, Some, None, Ok, ⊤}
use Rattle.std.specs.List.{All}
use Rattle.ck_base.specs.Runs.{outcome, ending_alone}
use Rattle.ck_base.specs.World.{World, GivesBytes}
use Rattle.ck_base.specs.Agreement.{Sides, DoesWhatIsMeant}
use Rattle.ck_base.specs.declared.positions.Pos.{Pos}
use Rattle.ck_base.specs.declared.refusal.Refusal.{Refusal}
use Rattle.ck_base.specs.declared.refusal.Refusal.TheVariants.{Code, NoMemory}
use Rattle.c_tree.specs.declared.typed.Typed.{Typed}
use Rattle.obj_mem.specs.declared.ending.Ending.{Ending}
use Rattle.obj_mem.specs.declared.ending.Ending.TheVariants as meant
use Rattle.obj_mem.specs.declared.map.Map.{Map}
use Rattle.obj_mem.specs.Agreement.{Paired}
use Rattle.obj_mem.specs.Needs.{Legal}
use Rattle.obj_mem.specs.Table.{table_length}
use Rattle.cheri_c_sem.specs.Runs.{placed}
use Rattle.rv_instr.specs.declared.instr.Instr.{Instr}
use Rattle.rv_code.specs.Decoding.{decode_of}
use Rattle.tag_mem.specs.Numbers.{word_in}
use Rattle.cap_ops.specs.declared.access.Cause.{Cause}
use Rattle.cap_machine.specs.declared.end.End.{End}
use Rattle.cap_machine.specs.declared.end.End.TheVariants.{Exit, Trap, Break, Illegal, Steps, ReadFault, WriteFault}
use Rattle.cap_machine.specs.Step.{act, limits}
use Rattle.elf_file.specs.declared.image.Image.{Image}
use Rattle.elf_file.specs.declared.image.Line.{Line}
use Rattle.elf_file.specs.declared.image.Reloc.{Reloc}
use Rattle.elf_file.specs.Image.{position_of}
use Rattle.elf_file.specs.File.{file_of}
use Rattle.image_load.specs.Contained.{Contained, executes}
use Rattle.image_load.specs.Judging.{address_of, text_of}
use Rattle.image_load.specs.Loading.{Loaded, loading}
use Rattle.cap_reloc.specs.Begins.{asked_by, beginning, IsRelocation}
use Rattle.cap_reloc.specs.Initial.{ObjectsBegin}
use Rattle.obj_mem.specs.Counted.{count_of}
use Rattle.obj_mem.specs.Endings.{is_turns, is_outside}
use Rattle.c_tree.specs.File.{HasRoom}
use Rattle.c_tree.specs.Weight.{weight}
use Rattle.accepted_files.specs.Accepted.{IsLight}
use Rattle.typed_build.specs.Text.{IsFilled}

-- ---- what an ending of the machine reports of the program

abbrev pub place_of : Line → Pos
place_of l = record { line = l.line; col = l.col }

-- a line of kind 0 is the place of an access or a call, one of kind 1 that of a prologue's first store
abbrev pub line_report : Cause → Line → ℕ → Option Ending
line_report cause l zero = Some (meant.Trap cause (place_of l))
line_report cause l (suc k) = Some (meant.Stack (place_of l))

abbrev pub trap_report : Cause → Option Line → Option Ending
trap_report cause None = None
trap_report cause (Some l) = line_report cause l l.kind

abbrev pub report : Image → End → Option Ending
report image (Exit n) = Some (meant.Exit n)
report image ReadFault = Some meant.ReadFault
report image WriteFault = Some meant.WriteFault
report image (Trap cause pc) = trap_report cause (position_of image pc)
report image (Break pc) = None
report image (Illegal pc) = None
report image Steps = None

-- ---- built

-- in one world, the runs of the machine that was loaded, and what the program means under the map
abbrev pub sides_in : Typed → Map → Loaded → World → Sides End Ending
sides_in p map loaded w = record {
  machine = λ n. outcome limits act ending_alone loaded.machine n w;
  meaning = λ n. placed p map w n;
  steps = Steps;
  is_turns = is_turns;
  is_outside = is_outside;
  report = report loaded.image;
}

-- the image's extents are the map's
pub record HasExtents (map : Map) (image : Image) : Type 0 where
  pub text : text_of image ≡ map.text
  pub table : image.table ≡ map.table
  pub heap : image.heap ≡ map.heap
  pub stack : image.stack ≡ map.stack

-- What the image of a program is. Under a legal map the file is the one that is written for its image, and it loads at
-- the map's extents.
pub record IsImage (p : Typed) (file : List ℕ) (map : Map) : Type 0 where
  -- each object has room of its own, with exact bounds
  pub legal : Legal p map
  -- the table has one entry for each global, literal and function, one for the heap, and one more
  pub table : map.table.1 ≡ table_length (asked_by p)
  -- the file loads, to this image and this first state of the machine
  pub loaded : Loaded
  pub loads : loading file ≡ Ok loaded
  pub version : loaded.image.version ≡ 2
  -- and it is the file that is written for the image, with nothing behind it
  pub whole : file ≡ file_of loaded.image
  pub extents : HasExtents map loaded.image
  -- the text is code of at most 128 bytes for each unit of the program's weight and 4,096 more, filled with jumps to
  -- themselves
  pub filled : IsFilled (128 * weight p + 4096) loaded.image.text
  -- each of its words is an instruction
  pub words : (k : ℕ) → 4 * k < length loaded.image.text →
      (i : Instr) × (decode_of (word_in loaded.image.text k) ≡ Some i)
  -- its relocations store the capabilities with which the program's pointers begin
  pub relocates : Paired (IsRelocation map) (beginning p map) loaded.image.relocs
  -- and its other bytes are those with which the program's objects begin, and zeros
  pub begins : ObjectsBegin p map loaded.image.initial_base loaded.image.initial

-- In each world that gives bytes the machine does what the program means, and all of it within the count for each turn
abbrev pub RunsAsMeant : Typed → Map → Loaded → (count : ℕ) → Type 0
RunsAsMeant p map loaded count = (w : World) → GivesBytes w → DoesWhatIsMeant (sides_in p map loaded w) count

-- a relocation with Execute is the sentry of a function's entry
abbrev pub EntersFunction : Map → Reloc → Type 0
EntersFunction map r = executes r ≡ true → (function : ℕ) × (slice_get map.entries function ≡ Some (address_of r))

-- What is built of a program: its image, which is contained, its count, and that its runs are what it means
pub record IsBuilt (p : Typed) (file : List ℕ) (map : Map) (count : ℕ) : Type 0 where
  pub image : IsImage p file map
  pub counted : count ≡ count_of p
  -- which the file says
  pub says : image.loaded.image.count ≡ count
  -- no run, whatever it does, leaves the text or makes code of data
  pub contained : Contained image.loaded.image
  -- nor is it entered but at the image's entry and at those of functions
  pub entered : All (EntersFunction map) image.loaded.image.relocs
  -- the machine's runs are what the program means
  pub runs : RunsAsMeant p map image.loaded count

-- ---- refused

abbrev pub start : Pos
start = record { line = 1; col = 1 }

-- At the start of the file: 141 where there is no room for the objects of a program; else 142 where it is too heavy.
-- Want of memory is free.
abbrev pub ExceedsBy : Typed → ℕ → Type 0
ExceedsBy p code = ((code ≡ 141) × (HasRoom p → ⊥)) ⊎ ((code ≡ 142) × HasRoom p × (IsLight p → ⊥))

abbrev pub IsRefusal : Typed → Refusal → Type 0
IsRefusal p (Code code pos) = (pos ≡ start) × ExceedsBy p code
IsRefusal p NoMemory = ⊤
