use Rattle.std.proofs.Common.{refl}
use Rattle.cheri_c_sem.specs.Kinds.{nothing}
use Rattle.mean_run.specs.Views.{moment_of, now_of}
use Rattle.mean_run.proofs.Finishing.{copied_is, leaves_over, same_end}
use Rattle.mean_run.proofs.state.State.copy_over.Goals as goal

pub returns-in-Err-clause-does : goal.returns-in-Err-clause-does
returns-in-Err-clause-does g c = λ p x y.
    let ops = g.B.Operations.meaning c.args.m.now in
    let held = g.B.Operations.held c.args.m.now in
    let t = c.take_place-to.new.self in
    same_end _ _ (moment_of p t held) (moment_of p t held) c.in-Err.stop
    (copied_is ops p held c.args.self.now c.take_place-from.new.self t c.args.pos c.args.bytes c.args.unit
    c.take_place-from.result c.take_place-to.result x y c.take_place-from.ensures.state c.take_place-to.ensures.state
    c.take_place-from.ensures.place c.take_place-to.ensures.place)
    (leaves_over p held t (moment_of p t held) (now_of t held) nothing _ c.in-Err.stop
    (c.in-Err.ensures.did (now_of t held) refl))
