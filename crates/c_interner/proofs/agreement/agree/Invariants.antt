use Rattle.std.proofs.Common.{◌≡◌}
use Rattle.c_interner.specs.Known.{AreRight, answers_left}
use Rattle.c_interner.proofs.agreement.agree.Given as goal

abbrev pub invariant-steps : goal.invariant-steps
invariant-steps l = record {
  right : AreRight l.agreements;
  types : l.agreements.types.now ≡ l.fn.p.types;
  how :
      l.agreements.how ≡ l.fn.how;
}

abbrev pub decreases-steps : goal.decreases-steps
decreases-steps l = answers_left l.agreements.known.entries
