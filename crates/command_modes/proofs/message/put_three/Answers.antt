use Rattle.std.proofs.Common.{◌++◌}
use Rattle.command_modes.proofs.Puts.{both, a_front, and_front, on_err, map_err}
use Rattle.command_modes.proofs.message.put_three.Goals as goal

pub returns-in_err-put-clause-part : goal.returns-in_err-put-clause-part
returns-in_err-put-clause-part g c =
    let before = g.N.Sink.held c.args.notes.now in
    let one = g.N.Sink.held c.put.new.self in
    on_err c.from_residual.result (a_front before one (c.args.first.now ++ c.args.second.now) c.args.third.now
    (a_front before one c.args.first.now c.args.second.now c.in_err-put.ensures.part))

pub returns-in_err-put-2-clause-part : goal.returns-in_err-put-2-clause-part
returns-in_err-put-2-clause-part g c =
    let before = g.N.Sink.held c.args.notes.now in
    let one = g.N.Sink.held c.put.new.self in
    let two = g.N.Sink.held c.put-2.new.self in
    on_err c.from_residual-in_err-put-2.result (a_front before two (c.args.first.now ++ c.args.second.now)
    c.args.third.now (and_front before one two c.args.first.now c.args.second.now c.in_ok-put.ensures.whole
    c.in_err-put-2.ensures.part))

pub returns-clause-part : goal.returns-clause-part
returns-clause-part g c =
    let before = g.N.Sink.held c.args.notes.now in
    let one = g.N.Sink.held c.put.new.self in
    let two = g.N.Sink.held c.put-2.new.self in
    let three = g.N.Sink.held c.put-3.new.self in
    let first_two = both before one two c.args.first.now c.args.second.now c.in_ok-put.ensures.whole
    c.in_ok-put-2.ensures.whole in
    map_err c.put-3.result (λ part. and_front before two three (c.args.first.now ++ c.args.second.now) c.args.third.now
    first_two part) c.put-3.ensures.part
