use Rattle.std.proofs.Common.{List, ◌∷◌, None, length, replicate, refl, ap, ◌∙◌}
use Rattle.c_tree.specs.declared.typed.VarDef.{VarDef}
use Rattle.mean_run.specs.declared.call.Call.{Call}
use Rattle.mean_run.proofs.Calling.{frame_entered}
use Rattle.mean_run.proofs.state.State.enter_at.Goals as goal

pub returns-clause-did : goal.returns-clause-did
returns-clause-did g c = λ sized.
    let ops = g.B.Operations.meaning c.args.m.now in
    let held = g.B.Operations.held c.args.m.now in
    let after = c.replace-caller.ensures.after in
    frame_entered ops c.args.s.now.p.now c.args.g c.args.d.now c.args.self.now
    (record c.args.self.now { callers = c.push.new.self; call = c.replace-caller.new.dest }) held _ c.args.address
    (ap (λ (k : Call). k.variables.items) after
    ∙ (c.in_ok-no_values.ensures ∙ ap (λ (vs : List VarDef). replicate (length vs) None) c.as_slice-vars.ensures))
    (ap (λ (k : Call). k.first) after ∙ c.count-first.ensures) (ap (λ (k : Call). k.frame) after)
    (c.in_ok-push.ensures.ok ∙ ap (λ k. k ∷ c.args.self.now.callers) c.replace-caller.ensures.value) refl refl refl refl
    (rw c.as_slice-vars.ensures at c.in_ok-add_objects.ensures.did sized)
