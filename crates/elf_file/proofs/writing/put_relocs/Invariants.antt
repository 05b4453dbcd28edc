use Rattle.std.proofs.Common.{◌≡◌, ◌++◌, take}
use Rattle.std.specs.List.{All}
use Rattle.elf_file.specs.Fields.{Fit}
use Rattle.elf_file.specs.File.{relocs_bytes}
use Rattle.elf_file.specs.Image.{reloc_fields}
use Rattle.elf_file.proofs.writing.put_relocs.Given as goal

abbrev pub invariant-loop-reloc : goal.invariant-loop-reloc
invariant-loop-reloc l = record {
  bytes : l.out.items ≡ l.fn.out.items ++ relocs_bytes (take l.reloc-index l.relocs);
  fits : All (λ x. Fit (reloc_fields x)) (take l.reloc-index l.relocs);
}
