use Rattle.std.proofs.Common.{sym, ◌∙◌, arith}
use Rattle.cap_ops.specs.Capability.{with_request}
use Rattle.cap_ops.proofs.Inside.{least_inside, exact_bounds}
use Rattle.cap_ops.proofs.operations.narrow_exact.Goals as goal

pub returns-in-Some-clause-exact : goal.returns-in-Some-clause-exact
unfolding with_request
returns-in-Some-clause-exact c _ =
    rw (c.with_bounds.ensures, c.in-Some.ensures.base, c.in-Some.ensures.top)
    (exact_bounds c.args.c c.args.len (omega arith) (sym c.in-Some.ensures.granted)
    (sym c.in-Some.ensures.exact ∙ c.if-bounds.true))

pub returns-in-Some-clause-inside : goal.returns-in-Some-clause-inside
unfolding with_request
returns-in-Some-clause-inside c =
    rw (c.with_bounds.ensures, c.in-Some.ensures.base, c.in-Some.ensures.top)
    (least_inside c.args.c c.args.len (omega arith) (sym c.in-Some.ensures.granted))
