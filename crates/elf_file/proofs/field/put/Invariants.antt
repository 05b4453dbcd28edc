use Rattle.std.proofs.Common.{◌≡◌, ◌++◌, take}
use Rattle.elf_file.specs.Fields.{spelled}
use Rattle.elf_file.proofs.field.put.Given as goal

abbrev pub invariant-loop-field : goal.invariant-loop-field
invariant-loop-field l = l.out.items ≡ l.fn.out.items ++ spelled (take l.field-index l.fields)
