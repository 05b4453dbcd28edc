use Rattle.std.proofs.Common.{◌∙◌, arith}
use Rattle.elf_file.proofs.Again.{file_again}
use Rattle.elf_file.proofs.Found.{found}
use Rattle.elf_file.proofs.view.View.read.Goals as goal

pub returns-clause-found : goal.returns-clause-found
returns-clause-found c = found c.args.file.now c.read.result (λ k. omega (arith, c.type_inv.file k)) c.read.ensures

pub returns-clause-only : goal.returns-clause-only
returns-clause-only c i fits rules is = c.read.ensures ∙ file_again i c.args.file.now fits rules (omega arith) is
