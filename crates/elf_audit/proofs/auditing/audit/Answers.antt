use Rattle.std.proofs.Common.{arith}
use Rattle.elf_audit.proofs.AuditedImage.{contained_image, no_word, no_reloc}
use Rattle.elf_audit.proofs.Noted.{none_there}
use Rattle.elf_audit.specs.Rules.{reloc_reason}
use Rattle.image_load.specs.Contained.{text_in}
use Rattle.elf_audit.proofs.auditing.audit.Goals as goal

pub returns-in-Some-clause-contained : goal.returns-in-Some-clause-contained
returns-in-Some-clause-contained c contained =
    let first = c.in-Some.ensures in
    let none = no_word c.args.view.now c.requires contained c.in-Some.at first.place in
    let some = first.some in
    absurd (omega (arith, first.is, none))

pub returns-in-None-clause-answer : goal.returns-in-None-clause-answer
returns-in-None-clause-answer c = contained_image c.args.view.now c.requires c.in_default.ensures c.in-None.ensures

pub returns-clause-contained : goal.returns-clause-contained
returns-clause-contained c contained =
    let first = c.in-Some-first_reloc.ensures in
    let none = none_there (reloc_reason (text_in c.args.view.now)) c.args.view.now.relocs c.in-Some-first_reloc.k
    c.in-Some-first_reloc.reason (no_reloc c.args.view.now contained) first.is in
    let some = first.some in
    absurd (omega (arith, none))
