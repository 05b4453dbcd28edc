use Rattle.std.proofs.Common.{length, ap, arith}
use Rattle.elf_audit.proofs.Sizes.{fits}
use Rattle.elf_audit.proofs.words.end_of.Goals as goal

pub overflow_add-result : goal.overflow_add-result
overflow_add-result c = let high = (fits c.args.view.now c.requires).high in
    omega (arith, c.base_of.ensures, ap length c.text.ensures)

pub returns-clause-small : goal.returns-clause-small
returns-clause-small c = let high = (fits c.args.view.now c.requires).high in
    omega (arith, c.base_of.ensures, ap length c.text.ensures)
