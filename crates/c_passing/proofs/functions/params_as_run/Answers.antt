use Rattle.std.proofs.Common.{false, refl, subst, ◌++◌, map}
use Rattle.std.proofs.lemmas.List.{take_all}
use Rattle.c_tree.specs.declared.typed.VarDef.{VarDef}
use Rattle.c_tree.specs.Passed.{passed_param}
use Rattle.c_passing.specs.Routines.{written_variable, AreRun}
use Rattle.c_passing.proofs.Standing.{no_params_run, params_turn}
use Rattle.c_passing.proofs.functions.params_as_run.Goals as goal

pub loop-v-init : goal.loop-v-init
loop-v-init c = λ vs h. no_params_run c.args.whole.now c.args.vars.now.items vs h

pub loop-v-preserved : goal.loop-v-preserved
loop-v-preserved c = λ vs h.
    let d : VarDef = record {
      name = record { start = 0; end = 0 };
      pos = record { line = 0; col = 0 };
      of = 0;
      simple = false;
    } in
    params_turn c.args.whole.now c.args.params.now c.loop-v.v-index d _ c.passed-v.result c.loop-v.vars.items
    c.push.new.self.items vs c.loop-v-test.true refl c.passed-v.ensures c.in_ok-push.ensures.items
    (c.loop-v.invariant vs h)

pub returns : goal.returns
returns c = λ vs h.
    subst (λ ps. AreRun c.args.whole.now c.loop-v.vars.items
    (vs ++ map passed_param (map (written_variable c.args.whole.now) ps)))
    (take_all c.loop-v.v-index c.args.params.now c.loop-v-test.false) (c.loop-v.invariant vs h)
