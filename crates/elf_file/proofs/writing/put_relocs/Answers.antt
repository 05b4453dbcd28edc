use Rattle.std.proofs.Common.{arith}
use Rattle.std.proofs.lemmas.Grind.{common_steps}
use Rattle.std.proofs.lemmas.List.Elements.{All-more}
use Rattle.elf_file.specs.declared.image.Reloc.{Reloc}
use Rattle.elf_file.specs.Fields.{Fit}
use Rattle.elf_file.specs.Image.{reloc_fields}
use Rattle.elf_file.proofs.writing.put_relocs.Goals as goal

pub loop-reloc-preserved : goal.loop-reloc-preserved
loop-reloc-preserved c =
    let zero : Reloc = record { place = 0; base = 0; offset = 0; length = 0; perms = 0 } in
    record {
      bytes = grind (arith, common_steps);
      fits = All-more (λ r. Fit (reloc_fields r)) c.args.relocs.now c.loop-reloc.reloc-index zero c.loop-reloc-test.true
          c.loop-reloc.invariant.fits c.reloc_fields.ensures.fits;
    }
