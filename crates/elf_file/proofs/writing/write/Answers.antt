use Rattle.elf_file.proofs.Again.{written_again}
use Rattle.elf_file.proofs.writing.write.Goals as goal

pub returns-clause-read_back : goal.returns-clause-read_back
returns-clause-read_back c rules =
    written_again c.args.i.now c.file.result rules c.file.ensures.bytes c.file.ensures.short c.file.ensures.fits
