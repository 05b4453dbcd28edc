use Rattle.std.proofs.Common.{refl}
use Rattle.mean_run.specs.Views.{moment_of, now_of}
use Rattle.mean_run.proofs.Placing.{copy_designated, copy_over}
use Rattle.mean_run.proofs.state.State.copy_place.Goals as goal

pub returns-in-Err-clause-does : goal.returns-in-Err-clause-does
returns-in-Err-clause-does g c = λ p x y.
    let ops = g.B.Operations.meaning c.args.m.now in
    let held = g.B.Operations.held c.args.m.now in
    let t = c.take_place-to.new.self in
    copy_over ops p held held c.args.self.now c.take_place-from.new.self t c.args.pos c.args.bytes c.args.unit
    c.take_place-from.result c.take_place-to.result x y c.take_place-from.ensures.state c.take_place-to.ensures.state
    c.take_place-from.ensures.place c.take_place-to.ensures.place c.in-Err.stop (moment_of p t held)
    (c.in-Err.ensures.did (now_of t held) refl)

pub returns-in-Ok-clause-does : goal.returns-in-Ok-clause-does
returns-in-Ok-clause-does g c = λ p x y.
    let ops = g.B.Operations.meaning c.args.m.now in
    let held = g.B.Operations.held c.args.m.now in
    let t = c.take_place-to.new.self in
    copy_designated ops p held (g.B.Operations.held c.copy.new.m) c.args.self.now c.take_place-from.new.self t
    c.args.pos
    c.args.bytes c.args.unit c.take_place-from.result c.take_place-to.result x y c.take_place-from.ensures.state
    c.take_place-to.ensures.state c.take_place-from.ensures.place c.take_place-to.ensures.place c.designate_now.new.self
    c.designate_now.result (c.in-Ok.ensures.did (now_of t held) refl) c.designate_now.ensures
