use Rattle.std.proofs.Common.{Ok, Err, refl, subst, arith}
use Rattle.tac_steps.specs.Machine.{effect}
use Rattle.tac_run.specs.Views.{next_of, now_of, moment_of, ops_in, Comes}
use Rattle.tac_run.proofs.Leading.{act_inside, first_kept, led_not, led_on}
use Rattle.tac_run.proofs.Stepping.{comes_sound}
use Rattle.tac_run.proofs.run.Run.perform.Goals as goal

pub follow-requires-clause-room : goal.follow-requires-clause-room
follow-requires-clause-room c =
    let p = c.args.program.p.now in
    let s = c.args.self.now in
    let m = s.now.memory.map in
    let came = subst (λ ks. Comes next_of (effect (ops_in s) p ks c.args.i.now (now_of s.now)) m (Ok c.in-Ok.next)
    c.perform.new.self) c.kinds.ensures c.in-Ok.ensures in
    let same = first_kept (now_of s.now) _ m c.in-Ok.next c.perform.new.self
    (comes_sound p m c.requires.ready.roomy (moment_of s) c.requires.sound c.args.program.t.now c.args.i.now
    c.requires.names) came in
    let room = c.requires.room in
    omega arith

pub returns-in-Err : goal.returns-in-Err
returns-in-Err c =
    let p = c.args.program.p.now in
    let t = c.args.program.t.now in
    let s = c.args.self.now in
    let came = subst (λ ks. Comes next_of (effect (ops_in s) p ks c.args.i.now (now_of s.now)) s.now.memory.map
    (Err c.in-Err.stop) c.perform.new.self) c.kinds.ensures c.in-Err.ensures in
    rw (act_inside (ops_in s) t p c.args.i.now (moment_of s) c.requires.kind)
    (led_not (Unit {0}) s t p _ c.in-Err.stop c.perform.new.self _ came)

pub returns-in-Ok : goal.returns-in-Ok
returns-in-Ok c =
    let p = c.args.program.p.now in
    let t = c.args.program.t.now in
    let s = c.args.self.now in
    let came = subst (λ ks. Comes next_of (effect (ops_in s) p ks c.args.i.now (now_of s.now)) s.now.memory.map
    (Ok c.in-Ok.next) c.perform.new.self) c.kinds.ensures c.in-Ok.ensures in
    rw (act_inside (ops_in s) t p c.args.i.now (moment_of s) c.requires.kind)
    (led_on (Unit {0}) s t p _ c.in-Ok.next (record s { now = c.perform.new.self }) c.follow.result c.follow.new.self
    came refl c.follow.ensures)
