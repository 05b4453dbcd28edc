use Rattle.std.proofs.Common.{refl}
use Rattle.mean_run.specs.Views.{moment_of, now_of}
use Rattle.mean_run.proofs.Stating.{part_filled, part_over}
use Rattle.mean_run.proofs.state.State.fill_part.Goals as goal

pub returns-in-Err-clause-does : goal.returns-in-Err-clause-does
returns-in-Err-clause-does g c = λ few p e.
    let ops = g.B.Operations.meaning c.args.m.now in
    let held = g.B.Operations.held c.args.m.now in
    let s = c.take_place-from.new.self in
    part_over ops p held held c.args.self.now s c.args.pos c.args.n c.args.offset e c.args.bytes c.args.unit
    c.take_place-from.result c.take_place-from.ensures.state c.take_place-from.ensures.place c.in-Err.stop
    (moment_of p s held) (c.in-Err.ensures few)

pub returns-in-Ok-clause-does : goal.returns-in-Ok-clause-does
returns-in-Ok-clause-does g c = λ few p e.
    let ops = g.B.Operations.meaning c.args.m.now in
    let held = g.B.Operations.held c.args.m.now in
    let s = c.take_place-from.new.self in
    part_filled ops p held (g.B.Operations.held c.copy.new.m) c.args.self.now s c.args.pos c.args.n c.args.offset e
    c.args.bytes c.args.unit c.take_place-from.result c.take_place-from.ensures.state c.take_place-from.ensures.place
    c.in-Ok.to c.copy.result (c.in-Ok.ensures few) (c.copy.ensures.did (now_of s held) refl)
