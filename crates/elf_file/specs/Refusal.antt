-- The numbers of the refusals.
use Rattle.std.specs.Prelude.{ℕ}
use Rattle.elf_file.specs.declared.refusal.ElfRefusal.{ElfRefusal}
use Rattle.elf_file.specs.declared.refusal.ElfRefusal.TheVariants.{Short, Ident, Field, Tables, Part, Version}

abbrev pub refusal_number : ElfRefusal → ℕ
refusal_number Short = 1
refusal_number Ident = 2
refusal_number Field = 3
refusal_number Tables = 4
refusal_number Part = 5
refusal_number Version = 6
