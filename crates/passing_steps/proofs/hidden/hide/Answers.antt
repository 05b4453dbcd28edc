use Rattle.std.proofs.Common.{refl}
use Rattle.passing_steps.proofs.hidden.hide.Goals as goal
use Rattle.passing_nodes.proofs.Calling.{hides_plainly, hides_one}
use Rattle.passing_nodes.proofs.Results.{on_ok}

pub returns-in-Some-clause-hides : goal.returns-in-Some-clause-hides
returns-in-Some-clause-hides c =
    on_ok c.push_var.result _ _ (λ vars. hides_one c.args.source.now c.args.out.now c.push_var.new.self c.args.of
    c.in-Some.t c.number-of.result c.args.pos _ c.in-Some.ensures c.number-of.ensures
    (rw c.name.ensures refl) vars)
    c.push_var.ensures.vars

pub returns-in-None-clause-hides : goal.returns-in-None-clause-hides
returns-in-None-clause-hides c =
    hides_plainly c.args.source.now c.args.out.now c.args.out.now c.args.of c.args.pos c.in-None.ensures refl
