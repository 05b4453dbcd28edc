use Rattle.std.proofs.Common.{refl, sym, ap, ◌∙◌, arith}
use Rattle.std.specs.Prelude.{map}
use Rattle.obj_mem.specs.Values.{value_of}
use Rattle.mean_run.specs.declared.state.State.{State}
use Rattle.mean_run.proofs.Calling.{empty_beyond, empty_turned, one_beyond, one_turned, with_values}
use Rattle.mean_run.proofs.state.State.take_values.Goals as goal

pub returns-in-None-clause-values : goal.returns-in-None-clause-values
returns-in-None-clause-values c =
    sym (c.values.invariant.taken ∙ empty_turned _ c.values.self.values _ c.in-None.ensures.0)

pub returns-in-None-clause-state : goal.returns-in-None-clause-state
returns-in-None-clause-state c = λ p held.
    with_values p held c.args.self.now c.values.self c.pop.new.self _ c.values.invariant.kept
    (ap (map value_of) c.in-None.ensures.1
    ∙ sym (c.values.invariant.left ∙ empty_beyond _ c.values.self.values c.in-None.ensures.0))

pub values-preserved : goal.values-preserved
values-preserved c = record {
  kept = ap (λ (s : State). record s { values = c.pop.new.self }) c.values.invariant.kept;
  taken = c.values.invariant.taken ∙ (one_turned c.args.count c.values.counter _ _ c.in-Some.v c.values.values.items
      (omega arith) c.in-Some.ensures ∙ rw (← c.in_ok-push-in-Some.ensures.items) refl);
  left = c.values.invariant.left
      ∙ one_beyond c.args.count c.values.counter _ _ c.in-Some.v (omega arith) c.in-Some.ensures;
}
