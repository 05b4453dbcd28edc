use Rattle.std.proofs.Common.{refl, subst, Ok}
use Rattle.c_tree.specs.Programs.{last_faults, earliest}
use Rattle.c_finish.specs.Finished.{EndsIn}
use Rattle.c_finish.proofs.Bodies.{bodies_written}
use Rattle.c_finish.proofs.Ending.{at_end, written_is, bodies_are, program_is}
use Rattle.c_finish.proofs.file_end.finish.Goals as goal

pub returns-in-Err : goal.returns-in-Err
returns-in-Err c =
    subst (EndsIn c.args.work (λ s. earliest (last_faults s))) c.in-Err.is c.parts_at_end.ensures

pub returns-in_ok-p-in-Ok : goal.returns-in_ok-p-in-Ok
returns-in_ok-p-in-Ok c =
    let w = c.args.work in
    let e : EndsIn w (λ s. earliest (last_faults s)) (Ok c.in-Ok.parts) =
    subst (EndsIn w (λ s. earliest (last_faults s))) c.in-Ok.is c.parts_at_end.ensures in
    let p = c.assembled-written.result in
    at_end w (λ s. earliest (last_faults s)) c.in-Ok.parts c.in_ok-p-in-Ok.p e
    (program_is w w.tree.now p c.in_ok-p-in-Ok.p refl
    (written_is w c.in-Ok.parts p e.1.parts c.assembled-written.ensures) c.in_ok-p-in-Ok.ensures)

pub pass-requires-clause-bodies : goal.pass-requires-clause-bodies
pass-requires-clause-bodies c =
    let w = c.args.work in
    let e : EndsIn w (λ s. earliest (last_faults s)) (Ok c.in-Ok.parts) =
    subst (EndsIn w (λ s. earliest (last_faults s))) c.in-Ok.is c.parts_at_end.ensures in
    let p = c.assembled-written.result in
    bodies_written w p c.requires.shown (written_is w c.in-Ok.parts p e.1.parts c.assembled-written.ensures)
    (bodies_are w c.in-Ok.parts p c.requires.shown e.1.parts c.assembled-written.ensures)
