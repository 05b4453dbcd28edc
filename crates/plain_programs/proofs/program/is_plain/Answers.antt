use Rattle.std.proofs.Common.{subst}
use Rattle.plain_programs.specs.Plain.{CallsPlain, ReturnsPlain, TypesPlain}
use Rattle.plain_programs.proofs.program.is_plain.Goals as goal

pub returns : goal.returns
returns c = λ e. record {
  types = subst TypesPlain c.as_slice-types.ensures (c.are_types_plain.ensures c.if-not-are_types_plain.false);
  calls = subst (CallsPlain c.args.p.now) c.as_slice-3.ensures (c.are_calls_plain.ensures e);
  returns = subst (ReturnsPlain c.args.p.now) c.as_slice-2.ensures
      (c.are_returns_plain.ensures c.if-not-are_returns_plain.false);
  params = rw (c.as_slice-types.ensures, c.as_slice.ensures) at
      (c.are_functions_plain.ensures c.if-not-are_functions_plain.false);
}
