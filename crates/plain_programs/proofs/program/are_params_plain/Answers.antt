use Rattle.std.proofs.Common.{subst}
use Rattle.plain_programs.specs.Plain.{AreFirst}
use Rattle.plain_programs.proofs.program.are_params_plain.Goals as goal

pub returns : goal.returns
returns c = λ e. record {
  first = subst AreFirst c.as_slice-params.ensures (c.are_first.ensures c.if-not-are_first.false);
  plain = rw (c.as_slice-params.ensures, c.as_slice.ensures) at (c.are_vars_plain.ensures e);
}
