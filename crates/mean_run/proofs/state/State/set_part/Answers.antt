use Rattle.mean_run.specs.Views.{moment_of}
use Rattle.mean_run.proofs.Stating.{part_set, set_over}
use Rattle.mean_run.proofs.state.State.set_part.Goals as goal

pub returns-in-Err-clause-does : goal.returns-in-Err-clause-does
returns-in-Err-clause-does g c = λ few p k e is_kind.
    let ops = g.B.Operations.meaning c.args.m.now in
    let held = g.B.Operations.held c.args.m.now in
    let s = c.take-v.new.self in
    set_over ops p held held c.args.self.now s c.args.pos c.args.n c.args.offset e _ k c.take-v.result is_kind
    c.take-v.ensures.state c.take-v.ensures.value c.in-Err.stop (moment_of p s held) (c.in-Err.ensures few)

pub returns-in-Ok-clause-does : goal.returns-in-Ok-clause-does
returns-in-Ok-clause-does g c = λ few p k e is_kind.
    let ops = g.B.Operations.meaning c.args.m.now in
    let held = g.B.Operations.held c.args.m.now in
    part_set ops p held (g.B.Operations.held c.store.new.m) c.args.self.now c.take-v.new.self c.args.pos c.args.n
    c.args.offset e _ k c.take-v.result is_kind c.take-v.ensures.state c.take-v.ensures.value c.in-Ok.to
    c.store.new.self c.store.result (c.in-Ok.ensures few) (c.store.ensures.did p)
