use Rattle.std.proofs.Common.{refl}
use Rattle.obj_mem.specs.Values.{value_of}
use Rattle.mean_types.specs.Views.{kind_of}
use Rattle.mean_steps.specs.Parts.{store}
use Rattle.mean_run.specs.Views.{moment_of}
use Rattle.mean_work.specs.Places.{place_of}
use Rattle.mean_run.proofs.Finishing.{did_over, done_given, same_act, same_end, stored_is}
use Rattle.mean_run.proofs.state.State.put.Goals as goal

pub returns-in-Err-clause-does : goal.returns-in-Err-clause-does
returns-in-Err-clause-does g c = λ p k x y is_kind.
    let ops = g.B.Operations.meaning c.args.m.now in
    let held = g.B.Operations.held c.args.m.now in
    let t = c.take_place-to.new.self in
    same_end _ _ (moment_of p t held) (moment_of p t held) c.in-Err.stop
    (stored_is ops p held c.args.self.now c.take-v.new.self c.take_place-to.new.self c.take-v.result
    c.take_place-to.result c.take-v.ensures.state c.take_place-to.ensures.state c.take_place-to.ensures.place _ k x y
    is_kind c.take-v.ensures.value)
    (did_over p held held t t (moment_of p t held) (value_of c.take-v.result)
    (store ops (kind_of c.args.kind) (place_of c.take_place-to.result) (value_of c.take-v.result)) c.in-Err.stop
    (c.in-Err.ensures.did p))

pub returns-in-Ok-clause-does : goal.returns-in-Ok-clause-does
returns-in-Ok-clause-does g c = λ p k x y is_kind.
    let ops = g.B.Operations.meaning c.args.m.now in
    let held = g.B.Operations.held c.args.m.now in
    let (done, frame) = c.in-Ok.ensures.did p in
    same_act _ _ _ c.give_value.result
    (stored_is ops p held c.args.self.now c.take-v.new.self c.take_place-to.new.self c.take-v.result
    c.take_place-to.result c.take-v.ensures.state c.take_place-to.ensures.state c.take_place-to.ensures.place _ k x y
    is_kind c.take-v.ensures.value)
    (done_given p held (g.B.Operations.held c.store.new.m) c.take_place-to.new.self c.store.new.self
    c.give_value.new.self c.take-v.result _ _ c.give_value.result refl done frame c.give_value.ensures)
