use Rattle.std.proofs.Common.{ℕ, length, ap, sym, arith}
use Rattle.std.specs.Prelude.{◌==◌, if◌then◌else◌}
use Rattle.std.proofs.lemmas.Result.{IfOk-weaker, IfOk-from_err as fails}
use Rattle.tac_lower.proofs.Homes.{parameter_temp}
use Rattle.tac_lower.proofs.functions.next_home.Goals as goal

pub value_temp-requires-clause-parameter : goal.value_temp-requires-clause-parameter
value_temp-requires-clause-parameter c = λ lt.
    let same = ap length c.as_slice.ensures in
    parameter_temp c.args.program.p.now c.args.d.now c.args.out.now c.args.count.variable c.args.v.now _
    c.requires.fits c.requires.parameters c.requires.there (c.kind_of_type-kind.ensures c.requires.ready)
    (omega arith)

pub returns-in_ok-t-clause-home : goal.returns-in_ok-t-clause-home
returns-in_ok-t-clause-home c = (
  c.in_ok-t.ensures.has,
  sym (c.kind_of_type-kind.ensures c.requires.ready),
  c.if-v.true,
)

pub returns-else-v-clause-home : goal.returns-else-v-clause-home
returns-else-v-clause-home c =
    IfOk-weaker c.object_home.result _ _
    (λ h f. f c.args.program.p.now c.args.d.now c.args.v.now (c.requires.object c.if-v.false))
    c.object_home.ensures.home

pub returns-else-v-clause-numbered : goal.returns-else-v-clause-numbered
returns-else-v-clause-numbered c =
    IfOk-weaker c.object_home.result _ _
    (λ h f w. omega (
      arith,
      f w,
      ap {B = ℕ} (λ b. if b then 0 else (if c.args.count.objects == w then 1 else 0)) c.if-v.false,
    ))
    c.object_home.ensures.numbered

pub returns-in_err-t : goal.returns-in_err-t
returns-in_err-t c =
    let e = c.from_residual.ensures.0 in
    record {
      added = fails _ _ e;
      adds = fails _ _ e;
      grown = fails _ _ e;
      home = fails _ _ e;
      next = fails _ _ e;
      numbered = fails _ _ e;
      spent = fails _ _ e;
    }
