use Rattle.std.proofs.Common.{arith}
use Rattle.elf_audit.proofs.Sizes.{fits}
use Rattle.elf_audit.proofs.words.place_of.Goals as goal

pub overflow_mul-result : goal.overflow_mul-result
overflow_mul-result c = let high = (fits c.args.view.now c.requires.fine).high in omega (arith, c.requires.inside)

pub overflow_add-result : goal.overflow_add-result
overflow_add-result c = let high = (fits c.args.view.now c.requires.fine).high in
    omega (arith, c.requires.inside, c.base_of.ensures)
