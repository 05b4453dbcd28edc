-- What the audit of an image answers.
use Rattle.std.specs.Prelude.{ℕ}
use Rattle.elf_file.specs.declared.image.Image.{Image}
use Rattle.image_load.specs.Contained.{text_in, Contained}
use Rattle.elf_audit.specs.Rules.{IsFirstWord, IsFirstReloc}
use Rattle.elf_audit.specs.declared.verdict.Verdict.{Verdict}
use Rattle.elf_audit.specs.declared.verdict.Verdict.TheVariants as verdict

abbrev pub Answers : Image → Verdict → Type 0
Answers i verdict.Yes = Contained i
Answers i (verdict.Word x reason) = IsFirstWord (text_in i) x reason
Answers i (verdict.Reloc k reason) = IsFirstReloc i k reason
