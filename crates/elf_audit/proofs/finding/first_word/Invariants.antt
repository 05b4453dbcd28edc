use Rattle.std.proofs.Common.{◌≡◌, ℕ, ◌+◌, ◌*◌, ◌<◌}
use Rattle.image_load.specs.Contained.{text_in}
use Rattle.elf_audit.specs.Rules.{reason_at}
use Rattle.elf_audit.proofs.finding.first_word.Given as goal

abbrev pub invariant-loop-k : goal.invariant-loop-k
invariant-loop-k l = (j : ℕ) → j < l.k → reason_at (text_in l.view) (l.view.text_base + 4 * j) ≡ 0
