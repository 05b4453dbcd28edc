-- The count behind the words of .ck_image.
use Rattle.std.specs.Prelude.{ℕ, Bool, List, [], ◌∷◌, if◌then◌else◌}
use Rattle.elf_file.specs.declared.field.Field.{Field}
use Rattle.elf_file.specs.declared.field.Field.TheVariants.{Xword}

-- the count, which stands in version 2
unfoldable pub count_words : Bool → ℕ → List Field
count_words counted count = if counted then Xword count ∷ [] else []
