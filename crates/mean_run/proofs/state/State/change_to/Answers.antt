use Rattle.std.specs.Prelude.{if◌then◌else◌}
use Rattle.obj_mem.specs.Values.{value_of}
use Rattle.mean_types.specs.Views.{kind_of}
use Rattle.mean_steps.specs.Parts.{store}
use Rattle.mean_run.specs.Views.{moment_of, now_of}
use Rattle.mean_work.specs.Places.{place_of}
use Rattle.mean_run.proofs.Finishing.{changes_to, did_over, done_given, same_act, same_end}
use Rattle.mean_run.proofs.state.State.change_to.Goals as goal

pub returns-in-Err-store-clause-does : goal.returns-in-Err-store-clause-does
returns-in-Err-store-clause-does g c = λ p.
    let ops = g.B.Operations.meaning c.args.m.now in
    let held = g.B.Operations.held c.args.m.now in
    let t = c.args.self.now in
    let place = kind_of c.args.change.place in
    let z = value_of c.in-Ok.z in
    same_end _ _ (moment_of p t held) (moment_of p t held) c.in-Err-store.stop
    (changes_to ops c.args.pos (now_of t held) (moment_of p t held) _ place _ c.args.change.old
    (place_of c.args.to) _ _ z c.in-Ok.ensures)
    (did_over p held held t t (moment_of p t held)
    (if c.args.change.old then value_of c.args.x else z) (store ops place (place_of c.args.to) z) c.in-Err-store.stop
    (c.in-Err-store.ensures.did p))

pub returns-in-Ok-store-clause-does : goal.returns-in-Ok-store-clause-does
returns-in-Ok-store-clause-does g c = λ p.
    let ops = g.B.Operations.meaning c.args.m.now in
    let held = g.B.Operations.held c.args.m.now in
    let t = c.args.self.now in
    let (done, frame) = c.in-Ok-store.ensures.did p in
    same_act _ _ _ c.give_value.result
    (changes_to ops c.args.pos (now_of t held) (moment_of p t held) _ _ _ _ _ _ _ _ c.in-Ok.ensures)
    (done_given p held (g.B.Operations.held c.store.new.m) t c.store.new.self c.give_value.new.self c.either.result _ _
    c.give_value.result c.either.ensures done frame c.give_value.ensures)
