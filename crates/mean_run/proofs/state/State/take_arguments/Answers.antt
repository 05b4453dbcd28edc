use Rattle.std.proofs.Common.{◌∷◌, refl, sym, ap, ◌∙◌, arith}
use Rattle.std.specs.Prelude.{map}
use Rattle.obj_mem.specs.Values.{value_of}
use Rattle.cheri_c_sem.specs.Meaning.{first_of, second_of}
use Rattle.mean_run.specs.declared.state.State.{State}
use Rattle.mean_run.proofs.Calling.{empty_beyond, empty_turned, next_turned, one_beyond, with_values}
use Rattle.mean_run.proofs.state.State.take_arguments.Goals as goal

pub returns-in-None-clause-first : goal.returns-in-None-clause-first
returns-in-None-clause-first c =
    let (others, first, second, taken) = c.values.invariant.taken in
    first ∙ ap first_of (sym (taken ∙ empty_turned _ c.values.self.values others c.in-None.ensures.0))

pub returns-in-None-clause-second : goal.returns-in-None-clause-second
returns-in-None-clause-second c =
    let (others, first, second, taken) = c.values.invariant.taken in
    second ∙ ap second_of (sym (taken ∙ empty_turned _ c.values.self.values others c.in-None.ensures.0))

pub returns-in-None-clause-state : goal.returns-in-None-clause-state
returns-in-None-clause-state c = λ p held.
    with_values p held c.args.self.now c.values.self c.pop.new.self _ c.values.invariant.kept
    (ap (map value_of) c.in-None.ensures.1
    ∙ sym (c.values.invariant.left ∙ empty_beyond _ c.values.self.values c.in-None.ensures.0))

pub values-preserved : goal.values-preserved
values-preserved c =
    let (others, first, second, taken) = c.values.invariant.taken in
    record {
      kept = ap (λ (s : State). record s { values = c.pop.new.self }) c.values.invariant.kept;
      taken = (
        value_of c.in-Some.v ∷ others,
        refl,
        first,
        taken ∙ next_turned c.args.count c.values.counter _ _ c.in-Some.v
            others (omega arith) c.in-Some.ensures,
      );
      left = c.values.invariant.left ∙ one_beyond c.args.count c.values.counter _ _ c.in-Some.v (omega arith)
          c.in-Some.ensures;
    }
