use Rattle.std.proofs.Common.{ap, ◌∙◌}
use Rattle.obj_mem.specs.Values.{value_of}
use Rattle.cheri_c_sem.specs.Expressions.{bare_type, fits}
use Rattle.cheri_c_sem.specs.Meaning.{first_of}
use Rattle.cheri_c_sem.specs.Modes.{Store}
use Rattle.cheri_c_sem.specs.Types.{pointee_of}
use Rattle.mean_steps.specs.Machine.{Moment, less_value}
use Rattle.mean_run.specs.Views.{moment_of, now_of}
use Rattle.mean_run.proofs.Calling.{call_opens, called_over, turn_over}
use Rattle.mean_run.proofs.Finishing.{one_taken, same_act}
use Rattle.mean_run.proofs.state.State.call.Goals as goal

pub returns-in-Err-clause-does : goal.returns-in-Err-clause-does
returns-in-Err-clause-does g c = λ fit vars.
    let ops = g.B.Operations.meaning c.args.m.now in
    let held = g.B.Operations.held c.args.m.now in
    let p = c.args.s.now.p.now in
    let s = c.take_values.new.self in
    let t = c.take-callee.new.self in
    let m = moment_of p c.args.self.now held in
    let count = c.args.count in
    let less = c.in_ok-values.ensures.state p held in
    let taken = one_taken p held s t t c.take-callee.ensures.state ∙ ap less_value less in
    let callee = c.take-callee.ensures.value ∙ ap (λ (m : Moment Store). first_of m.values) less in
    let fs = fits p vars (pointee_of (bare_type p vars c.args.through)) in
    called_over ops p c.args.pos fs count c.args.through m t held taken
    (value_of c.take-callee.result) callee c.in-Err.stop
    m (c.in-Err.ensures ops vars (now_of t held))

pub returns-in-Err-turn-clause-does : goal.returns-in-Err-turn-clause-does
returns-in-Err-turn-clause-does g c = λ fit vars.
    let ops = g.B.Operations.meaning c.args.m.now in
    let held = g.B.Operations.held c.args.m.now in
    let p = c.args.s.now.p.now in
    let s = c.take_values.new.self in
    let t = c.take-callee.new.self in
    let m = moment_of p c.args.self.now held in
    let count = c.args.count in
    let less = c.in_ok-values.ensures.state p held in
    let taken = one_taken p held s t t c.take-callee.ensures.state ∙ ap less_value less in
    let callee = c.take-callee.ensures.value ∙ ap (λ (m : Moment Store). first_of m.values) less in
    let fs = fits p vars (pointee_of (bare_type p vars c.args.through)) in
    turn_over ops p c.args.pos fs count c.in-Ok.g m t held taken (value_of c.take-callee.result) callee
    (c.in-Ok.ensures ops vars (now_of t held)) t c.in-Err-turn.stop m (c.in-Err-turn.ensures p held)

pub returns-clause-does : goal.returns-clause-does
returns-clause-does g c = λ fit vars.
    let ops = g.B.Operations.meaning c.args.m.now in
    let held = g.B.Operations.held c.args.m.now in
    let p = c.args.s.now.p.now in
    let s = c.take_values.new.self in
    let t = c.take-callee.new.self in
    let m = moment_of p c.args.self.now held in
    let count = c.args.count in
    let less = c.in_ok-values.ensures.state p held in
    let taken = one_taken p held s t t c.take-callee.ensures.state ∙ ap less_value less in
    let callee = c.take-callee.ensures.value ∙ ap (λ (m : Moment Store). first_of m.values) less in
    let fs = fits p vars (pointee_of (bare_type p vars c.args.through)) in
    same_act _ _ _ c.open.result
    (call_opens ops p c.args.pos fs count c.in-Ok.g m t held taken (value_of c.take-callee.result) callee
    (c.in-Ok.ensures ops vars (now_of t held)) c.turn.new.self _ c.in_ok-values.ensures.values
    (c.in-Ok-turn.ensures p held)) (c.open.ensures.does fit)
