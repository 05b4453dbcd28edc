use Rattle.std.proofs.Common.{◌≡◌, ◌-◌, length, take}
use Rattle.std.specs.Prelude.{All}
use Rattle.image_load.specs.Contained.{text_in}
use Rattle.elf_audit.specs.Rules.{reloc_reason}
use Rattle.elf_audit.proofs.finding.first_reloc.Given as goal

abbrev pub invariant-loop-r : goal.invariant-loop-r
invariant-loop-r l = All (λ r. reloc_reason (text_in l.view) r ≡ 0) (take l.k l.view.relocs)

abbrev pub decreases-loop-r : goal.decreases-loop-r
decreases-loop-r l = length l.view.relocs - l.k
