use Rattle.std.proofs.Common.{◌∷◌, refl}
use Rattle.cheri_c_sem.specs.Programs.{stmt_tree}
use Rattle.mean_steps.specs.Machine.{Test}
use Rattle.mean_work.specs.declared.work.Work.TheVariants as work
use Rattle.mean_run.specs.Views.{loop_of, vars_at}
use Rattle.mean_run.proofs.Branching.{turn_ends, turn_used}
use Rattle.mean_run.proofs.state.State.turned.Goals as goal

pub returns-in-Err : goal.returns-in-Err
returns-in-Err c = λ p ops held.
    let f = c.args.f in
    let k = c.args.k in
    turn_ends ops p held c.args.self.now c.turn.new.self c.args.self.now (λ ws. work.Test f k ∷ ws)
    (λ is. Test (loop_of (stmt_tree p (vars_at p f) k)) ∷ is) (λ ws. refl) c.in-Err.stop (c.in-Err.ensures p held)

pub returns-in-Ok : goal.returns-in-Ok
returns-in-Ok c = λ p ops held.
    let f = c.args.f in
    let k = c.args.k in
    turn_used ops p held c.args.self.now c.turn.new.self c.to_test.new.self (λ ws. work.Test f k ∷ ws)
    (λ is. Test (loop_of (stmt_tree p (vars_at p f) k)) ∷ is) (λ ws. refl) _ _ (c.in-Ok.ensures p held)
    c.to_test.ensures
