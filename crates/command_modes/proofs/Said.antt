-- What was found of a file that was read, or could not be.
use Rattle.std.proofs.Common.{◌≡◌, ℕ, List, Result, Ok, Err, refl, sym, ap, ◌∙◌}
use Rattle.ck_base.specs.Calls.{Seen}
use Rattle.ck_base.specs.declared.outside.FileError.TheVariants as errors
use Rattle.elf_file.specs.declared.image.Image.{Image}
use Rattle.elf_file.specs.Reading.{reading}
use Rattle.elf_file.specs.declared.refusal.ElfRefusal.{ElfRefusal}
use Rattle.cap_machine.specs.declared.machine.Machine.{Machine}
use Rattle.image_load.specs.Judging.{Judged, judged}
use Rattle.image_load.specs.State.{machine_of}
use Rattle.image_load.specs.Loading.{Loaded, Loads, loading, loaded_as, after_reading}
use Rattle.image_load.specs.declared.refusal.LoadRefusal.{LoadRefusal}
use Rattle.image_load.specs.declared.refusal.LoadRefusal.TheVariants as refusal
use Rattle.command_modes.proofs.Loads.{loaded_of, is_loaded}
use Rattle.ck_base.specs.declared.refusal.Refusal.{Refusal}
use Rattle.ck_base.specs.declared.refusal.Refusal.TheVariants.{Code, NoMemory}
use Rattle.bounds_place.specs.declared.sizes.Sizes.{Sizes}
use Rattle.cheric_build.specs.FromFile.{IsFileRefusal}
use Rattle.command_modes.specs.Answers.{not_built, refused_as}
use Rattle.command_modes.specs.Modes.{FilesSeen, ExecStopped, NotBuilt}
use Rattle.command_modes.specs.Modes.{BuildSays}

-- ---- files

-- ---- building

-- a file that is not built leaves input and output as they were
pub not_built_says : (s : Seen) (file : List ℕ) (r : Refusal) → IsFileRefusal file r → NotBuilt s s file (not_built r)
not_built_says s file (Code code pos) h = (refl, h)
not_built_says s file NoMemory h = refl

-- and puts no name
pub not_put : (s : FilesSeen) (file elf : List ℕ) (sizes : Sizes) (r : Refusal) → IsFileRefusal file r →
    BuildSays s s file elf sizes (not_built r)
not_put s file elf sizes (Code code pos) h = (refl, h)
not_put s file elf sizes NoMemory h = refl

-- ---- loading

-- a file that loads was read as the image, which was judged fine
loaded_from : (i : Image) (j : Judged) (l : Loaded) → loaded_as i j ≡ Ok l → (l.image ≡ i) × (l.machine ≡ machine_of i)
loaded_from i (Ok fine) l h = (sym (ap (λ r. or_image r i) h), sym (ap (λ r. or_machine r (machine_of i)) h))
  where
    or_image : Result Loaded ℕ → Image → Image
    or_image (Ok m) d = m.image
    or_image (Err e) d = d

    or_machine : Result Loaded ℕ → Machine → Machine
    or_machine (Ok m) d = m.machine
    or_machine (Err e) d = d
loaded_from i (Err e) l h = cc

read_from : (r : Result Image ElfRefusal) (l : Loaded) → after_reading r ≡ Ok l →
    (r ≡ Ok l.image) × (l.machine ≡ machine_of l.image)
read_from (Ok i) l h =
    let p = loaded_from i (judged i) l h in
    (ap Ok (sym p.0), p.1 ∙ ap machine_of (sym p.0))
read_from (Err e) l h = cc

pub image_read : (file : List ℕ) (l : Loaded) → loading file ≡ Ok l →
    (reading file ≡ Ok l.image) × (l.machine ≡ machine_of l.image)
unfolding loading
image_read file l h = read_from (reading file) l h

-- what is said of a file whose load was refused
pub not_loaded : (before after : Seen) (file : List ℕ) (i : Image) (e : LoadRefusal) → after ≡ before →
    reading file ≡ Ok i → Loads i (Err e) → ExecStopped before after file (refused_as e)
unfolding loading
not_loaded before after file i refusal.Segment kept read h = (kept, ap after_reading read ∙ ap (loaded_as i) h)
not_loaded before after file i refusal.Overlap kept read h = (kept, ap after_reading read ∙ ap (loaded_as i) h)
not_loaded before after file i refusal.Place kept read h = (kept, ap after_reading read ∙ ap (loaded_as i) h)
not_loaded before after file i refusal.Bounds kept read h = (kept, ap after_reading read ∙ ap (loaded_as i) h)
not_loaded before after file i refusal.Entry kept read h = (kept, ap after_reading read ∙ ap (loaded_as i) h)
not_loaded before after file i refusal.NoMemory kept read h = (kept, (loaded_of i, is_loaded file i read h))

-- what is loaded of an image is known by the image
pub same_loaded : (l : Loaded) (i : Image) → l.image ≡ i → l.machine ≡ machine_of l.image → loaded_of i ≡ l
same_loaded l i e h = ap loaded_of (sym e) ∙ ap (λ (m : Machine). record { image = l.image; machine = m }) (sym h)
