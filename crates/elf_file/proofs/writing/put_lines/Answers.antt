use Rattle.std.proofs.Common.{arith}
use Rattle.std.proofs.lemmas.Grind.{common_steps}
use Rattle.std.proofs.lemmas.List.Elements.{All-more}
use Rattle.elf_file.specs.declared.image.Line.{Line}
use Rattle.elf_file.specs.Fields.{Fit}
use Rattle.elf_file.specs.Image.{line_fields}
use Rattle.elf_file.proofs.writing.put_lines.Goals as goal

pub loop-line-preserved : goal.loop-line-preserved
loop-line-preserved c =
    let zero : Line = record { at = 0; line = 0; col = 0; kind = 0 } in
    record {
      bytes = grind (arith, common_steps);
      fits = All-more (λ l. Fit (line_fields l)) c.args.lines.now c.loop-line.line-index zero c.loop-line-test.true
          c.loop-line.invariant.fits c.line_fields.ensures.fits;
    }
