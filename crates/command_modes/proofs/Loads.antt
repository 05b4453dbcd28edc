-- What a file loads to, by what it is read as and how that is judged.
use Rattle.std.proofs.Common.{◌≡◌, ℕ, List, Ok, Err, ap, ◌∙◌}
use Rattle.elf_file.specs.declared.image.Image.{Image}
use Rattle.elf_file.specs.declared.refusal.ElfRefusal.{ElfRefusal}
use Rattle.elf_file.specs.Reading.{reading}
use Rattle.elf_file.specs.Refusal.{refusal_number}
use Rattle.image_load.specs.Judging.{judged}
use Rattle.image_load.specs.State.{machine_of}
use Rattle.image_load.specs.Loading.{Loaded, loading, loaded_as, load_number, after_reading}
use Rattle.image_load.specs.declared.refusal.LoadRefusal.{LoadRefusal}

abbrev pub loaded_of : Image → Loaded
loaded_of i = record { image = i; machine = machine_of i }

-- an image that was read and judged fine is loaded
pub is_loaded : (file : List ℕ) (i : Image) → reading file ≡ Ok i → judged i ≡ Ok tt → loading file ≡ Ok (loaded_of i)
unfolding loading
is_loaded file i read fine = ap after_reading read ∙ ap (loaded_as i) fine

-- a file that is not read is not loaded
pub not_read : (file : List ℕ) (e : ElfRefusal) → reading file ≡ Err e → loading file ≡ Err (refusal_number e)
unfolding loading
not_read file e read = ap after_reading read

-- and no image that is not judged fine
pub not_judged : (file : List ℕ) (i : Image) (e : LoadRefusal) → reading file ≡ Ok i → judged i ≡ Err e →
    loading file ≡ Err (load_number e)
unfolding loading
not_judged file i e read refused = ap after_reading read ∙ ap (loaded_as i) refused
