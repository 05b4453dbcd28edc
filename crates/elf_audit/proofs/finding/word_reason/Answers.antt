use Rattle.std.proofs.Common.{arith}
use Rattle.elf_audit.proofs.Sizes.{fits}
use Rattle.elf_audit.proofs.finding.word_reason.Goals as goal

pub overflow_add-at : goal.overflow_add-at
overflow_add-at c = let high = (fits c.args.view.now c.requires.fine).high in
    omega (arith, c.requires.inside, c.place_of-at.ensures)
