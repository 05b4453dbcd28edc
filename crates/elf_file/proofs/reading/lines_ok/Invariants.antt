use Rattle.std.proofs.Common.{◌≡◌, drop, map}
use Rattle.elf_file.specs.Image.{line_of, lines_ok}
use Rattle.elf_file.proofs.reading.lines_ok.Given as goal

abbrev pub invariant-loop-bytes : goal.invariant-loop-bytes
invariant-loop-bytes l = lines_ok l.least l.size (map line_of (drop l.bytes-index l.lines))
    ≡ lines_ok 0 l.size (map line_of l.lines)
