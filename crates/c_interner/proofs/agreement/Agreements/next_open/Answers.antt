use Rattle.std.proofs.Common.{sym, ap, ◌∙◌}
use Rattle.std.specs.Prelude.{is_some}
use Rattle.c_interner.proofs.agreement.Agreements.next_open.Goals as goal

pub returns-in-None : goal.returns-in-None
returns-in-None c = sym c.look.ensures.known ∙ ap is_some c.in-None.is
