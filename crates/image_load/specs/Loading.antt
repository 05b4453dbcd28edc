-- Loading: from the bytes of a file to the state of a machine and the image with its positions, or to a refusal and its
-- number.
use Rattle.std.specs.Prelude.{◌≡◌, ℕ, List, Result, Ok, Err}
use Rattle.elf_file.specs.declared.image.Image.{Image}
use Rattle.elf_file.specs.declared.refusal.ElfRefusal.{ElfRefusal}
use Rattle.elf_file.specs.Refusal.{refusal_number}
use Rattle.elf_file.specs.Reading.{reading}
use Rattle.cap_machine.specs.declared.machine.Machine.{Machine}
use Rattle.image_load.specs.declared.refusal.LoadRefusal.{LoadRefusal}
use Rattle.image_load.specs.declared.refusal.LoadRefusal.TheVariants as refusal
use Rattle.image_load.specs.Judging.{Judged, judged}
use Rattle.image_load.specs.State.{machine_of}

-- the number of a refusal; want of memory has none, and is no part of loading
abbrev pub load_number : LoadRefusal → ℕ
load_number refusal.Segment = 11
load_number refusal.Overlap = 12
load_number refusal.Place = 13
load_number refusal.Bounds = 14
load_number refusal.Entry = 15
load_number refusal.NoMemory = 0

-- a loaded file: the image that it shows, and the machine's first state
pub record Loaded : Type 0 where
  pub image : Image
  pub machine : Machine

abbrev pub loaded_as : Image → Judged → Result Loaded ℕ
loaded_as i (Ok fine) = Ok (record { image = i; machine = machine_of i })
loaded_as i (Err e) = Err (load_number e)

abbrev pub after_reading : Result Image ElfRefusal → Result Loaded ℕ
after_reading (Ok i) = loaded_as i (judged i)
after_reading (Err e) = Err (refusal_number e)

unfoldable pub loading : List ℕ → Result Loaded ℕ
loading file = after_reading (reading file)

-- what `load` answers for an image
abbrev pub Loads : Image → Result Machine LoadRefusal → Type 0
Loads i (Ok m) = (judged i ≡ Ok tt) × (m ≡ machine_of i)
Loads i (Err refusal.NoMemory) = judged i ≡ Ok tt
Loads i (Err e) = judged i ≡ Err e
