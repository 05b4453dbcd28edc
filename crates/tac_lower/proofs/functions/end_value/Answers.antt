use Rattle.std.proofs.lemmas.Result.{IfOk-from_err as fails}
use Rattle.tac_lower.proofs.Constants.{zero_fits}
use Rattle.std.proofs.Common.{sym, subst}
use Rattle.tac_lower.specs.Programs.{EndsWith}
use Rattle.tac_lower.proofs.Ending.{ends_none, ends_some}
use Rattle.tac_lower.proofs.functions.end_value.Goals as goal

pub fresh_constant-requires-clause-value : goal.fresh_constant-requires-clause-value
fresh_constant-requires-clause-value c = zero_fits c.in-Some.kind

pub returns-in-None-clause-ends : goal.returns-in-None-clause-ends
returns-in-None-clause-ends c = λ b h. subst (λ z. EndsWith z c.args.out.now b) (sym c.in-None.is)
    (ends_none c.args.out.now b h)

pub returns-in_ok-t-in-Some-clause-ends : goal.returns-in_ok-t-in-Some-clause-ends
returns-in_ok-t-in-Some-clause-ends c = λ b h. subst (λ z. EndsWith z c.args.out.now b) (sym c.in-Some.is)
    (ends_some c.args.out.now c.fresh_constant.new.self b c.in_ok-t-in-Some.t c.in-Some.kind
    c.in_ok-t-in-Some.ensures.has c.in_ok-t-in-Some.ensures.emits h)

pub returns-in_err-t-in-Some : goal.returns-in_err-t-in-Some
returns-in_err-t-in-Some c =
    let e = c.from_residual.ensures.0 in
    record {
      adds = fails _ _ e;
      ends = fails _ _ e;
      grown = fails _ _ e;
      spent = fails _ _ e;
      value = fails _ _ e;
    }
