use Rattle.std.proofs.Common.{◌≡◌, false}
use Rattle.c_interner.specs.Known.{has_answer}
use Rattle.c_interner.specs.Levels.{rank}
use Rattle.c_interner.proofs.agreement.Agreements.answer_in.Given as goal

abbrev pub invariant-parts : goal.invariant-parts
invariant-parts l = has_answer l.self.known.entries l.part ≡ false

abbrev pub decreases-parts : goal.decreases-parts
decreases-parts l = rank l.self.void l.part.0
