use Rattle.std.proofs.Common.{◌≡◌, false, length, arith, refl, subst}
use Rattle.c_tree.specs.declared.typed.VarDef.{VarDef}
use Rattle.c_passing.specs.Routines.{written_routine, IsNamed, named_so_far}
use Rattle.c_passing.proofs.Standing.{param_turn}
use Rattle.c_passing.proofs.functions.copied_params.Goals as goal

pub loop-k-init : goal.loop-k-init
loop-k-init c = λ f h s. s

pub loop-k-preserved : goal.loop-k-preserved
loop-k-preserved c =
    let d : VarDef = record {
      name = record { start = 0; end = 0 };
      pos = record { line = 0; col = 0 };
      of = 0;
      simple = false;
    } in
    param_turn c.args.whole.now c.args.params.now c.args.into.now c.loop-k.into c.add_param.new.into d _ c.loop-k.k
    c.in_ok-at.at c.loop-k-test.true c.in_ok-at.ensures refl c.in_ok-add_param.ensures c.loop-k.invariant

pub returns : goal.returns
returns c = λ f h s.
    let past = c.loop-k-test.false in
    let within = c.loop-k.auto.k-end in
    let all : c.loop-k.k ≡ length c.args.params.now = omega arith in
    subst (λ k. IsNamed c.args.whole.now f k c.loop-k.into (named_so_far (written_routine c.args.whole.now f) k)) all
    (c.loop-k.invariant f h s)
