use Rattle.std.proofs.Common.{length, sym, ap, ◌∙◌, arith}
use Rattle.elf_file.specs.declared.image.Image.{Image}
use Rattle.elf_file.specs.Image.{lines_ok}
use Rattle.elf_file.proofs.Tested.{has_lines}
use Rattle.elf_file.proofs.reading.read_parts.Goals as goal

pub invariant_of-result : goal.invariant_of-result
invariant_of-result c =
    ap (λ (i : Image). lines_ok 0 (length i.text) i.lines) c.in_file-parts.ensures
    ∙ has_lines c.args.h c.args.file.now (omega (arith, c.end.ensures.value, c.if-end-file.false))
    (sym c.has_contents.ensures ∙ c.if-not-has_contents.false)
