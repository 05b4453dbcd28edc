use Rattle.std.proofs.Common.{sym, ◌∙◌}
use Rattle.cap_machine.proofs.KeptCode.{alike_fields}
use Rattle.cap_machine.proofs.code.is_alike.Goals as goal

pub returns : goal.returns
returns c h at = alike_fields c.args.c.now.fields c.args.d.now.fields at (sym c.eq.ensures ∙ h)
