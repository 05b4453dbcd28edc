use Rattle.std.proofs.Common.{sym, ap, ◌∙◌}
use Rattle.std.specs.Prelude.{is_some}
use Rattle.c_interner.proofs.agreement.agree.Goals as goal

pub next_open-pair-requires-clause-unknown : goal.next_open-pair-requires-clause-unknown
next_open-pair-requires-clause-unknown c = sym c.look.ensures.known ∙ ap is_some c.in-None.is

pub returns-in-Some : goal.returns-in-Some
returns-in-Some c = rw (c.steps.invariant.types, c.steps.invariant.how) at c.in-Some.ensures.agree
