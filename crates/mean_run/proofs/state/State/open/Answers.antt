use Rattle.std.specs.Prelude.{map, reverse}
use Rattle.std.proofs.Common.{Ok, Err, sym}
use Rattle.obj_mem.specs.Values.{value_of}
use Rattle.cheri_c_sem.specs.Modes.{Store}
use Rattle.cheri_c_sem.specs.Operations.{Operations}
use Rattle.cheri_c_sem.specs.Programs.{parameter_of}
use Rattle.mean_steps.specs.Parts.{Part, pass}
use Rattle.mean_run.specs.Views.{moment_of}
use Rattle.mean_run.proofs.Calling.{arguments_over, did_in, body_entered, frame_over, fun_at}
use Rattle.mean_run.proofs.state.State.open.Goals as goal

pub returns-in-None-clause-does : goal.returns-in-None-clause-does
returns-in-None-clause-does g c = λ fit.
    let p = c.args.s.now.p.now in
    rw (fun_at p c.args.g, ← c.in-None.ensures) (c.give_behind.ensures p (g.B.Operations.held c.args.m.now))

pub returns-in-Err-clause-does : goal.returns-in-Err-clause-does
returns-in-Err-clause-does g c = λ fit.
    let ops = g.B.Operations.meaning c.args.m.now in
    let held = g.B.Operations.held c.args.m.now in
    let t = c.args.self.now in
    let p = c.args.s.now.p.now in
    frame_over ops p c.args.first c.args.g c.in-Some.d.now
    (map value_of (reverse c.args.values.now.items)) t t held held
    (sym c.in-Some.ensures) c.in-Err.stop (moment_of p t held)
    (c.in-Err.ensures.did (fit.variables c.args.g c.in-Some.d.now (sym c.in-Some.ensures)))

pub returns-in-Err-pass-clause-does : goal.returns-in-Err-pass-clause-does
returns-in-Err-pass-clause-does g c = λ fit.
    let ops = g.B.Operations.meaning c.args.m.now in
    let held = g.B.Operations.held c.args.m.now in
    let p = c.args.s.now.p.now in
    let s = c.enter_frame.new.self in
    let mid = g.B.Operations.held c.enter_frame.new.m in
    let d = c.in-Some.d.now in
    let vs = map value_of (reverse c.args.values.now.items) in
    let passes : Operations Store → Part Store (Unit {0}) =
    λ o. pass o d.pos (map (parameter_of p d.vars) d.params) vs in
    arguments_over ops p c.args.first c.args.g c.in-Some.d.now (map value_of (reverse c.args.values.now.items))
    c.args.self.now s held mid (sym c.in-Some.ensures)
    (c.in-Ok.ensures.did (fit.variables c.args.g c.in-Some.d.now (sym c.in-Some.ensures))) mid s c.in-Err-pass.stop
    (moment_of p s mid) (did_in passes (λ (u : Unit {0}). u) p s s mid mid (Err c.in-Err-pass.stop) _ ops
    c.enter_frame.ensures.same (c.in-Err-pass.ensures.did (sym c.in-Some.ensures)))

pub returns-in-Ok-pass-clause-does : goal.returns-in-Ok-pass-clause-does
returns-in-Ok-pass-clause-does g c = λ fit.
    let ops = g.B.Operations.meaning c.args.m.now in
    let held = g.B.Operations.held c.args.m.now in
    let p = c.args.s.now.p.now in
    let s = c.enter_frame.new.self in
    let mid = g.B.Operations.held c.enter_frame.new.m in
    let d = c.in-Some.d.now in
    let vs = map value_of (reverse c.args.values.now.items) in
    let passes : Operations Store → Part Store (Unit {0}) =
    λ o. pass o d.pos (map (parameter_of p d.vars) d.params) vs in
    body_entered ops p c.args.first c.args.g c.in-Some.d.now (map value_of (reverse c.args.values.now.items))
    c.args.self.now s held mid (sym c.in-Some.ensures)
    (c.in-Ok.ensures.did (fit.variables c.args.g c.in-Some.d.now (sym c.in-Some.ensures)))
    (g.B.Operations.held c.pass.new.m)
    c.pass.new.self c.enter_body.new.self c.enter_body.result
    (did_in passes (λ (u : Unit {0}). u) p s c.pass.new.self mid (g.B.Operations.held c.pass.new.m) (Ok tt) _ ops
    c.enter_frame.ensures.same (c.in-Ok-pass.ensures.did (sym c.in-Some.ensures))) c.enter_body.ensures
