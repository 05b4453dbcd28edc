use Rattle.std.proofs.Common.{◌≡◌, ◌++◌, take}
use Rattle.std.specs.List.{All}
use Rattle.elf_file.specs.Fields.{Fit}
use Rattle.elf_file.specs.File.{lines_bytes}
use Rattle.elf_file.specs.Image.{line_fields}
use Rattle.elf_file.proofs.writing.put_lines.Given as goal

abbrev pub invariant-loop-line : goal.invariant-loop-line
invariant-loop-line l = record {
  bytes : l.out.items ≡ l.fn.out.items ++ lines_bytes (take l.line-index l.lines);
  fits : All (λ x. Fit (line_fields x)) (take l.line-index l.lines);
}
