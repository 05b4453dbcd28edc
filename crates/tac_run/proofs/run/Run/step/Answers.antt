use Rattle.std.proofs.Common.{◌≡◌, ◌^◌, ◌<◌, Some, None, refl, subst}
use Rattle.std.specs.Prelude.{slice_get}
use Rattle.tac_run.specs.Views.{moment_of, ops_in}
use Rattle.tac_run.proofs.Acts.{names_at}
use Rattle.tac_run.proofs.Stepping.{there, past, act_past, act_there, room, asks}
use Rattle.tac_run.proofs.run.Run.step.Goals as goal

pub act-requires-clause-room : goal.act-requires-clause-room
act-requires-clause-room g c =
    let s = c.args.self.now in
    room c.args.program.p.now s.now.memory.map c.requires.ready.roomy (moment_of s) c.requires.sound
    (subst (λ n. n < 2 ^ 64) c.count-count.ensures c.count-count.type_inv)

pub act-requires-clause-names : goal.act-requires-clause-names
act-requires-clause-names g c =
    let s = c.args.self.now in
    let i = c.in-Some.i.now in
    names_at c.args.program.t.now c.args.program.p.now s.fun s.at i c.requires.formed
    (subst (λ xs. slice_get xs s.at ≡ Some i) c.code.ensures
    (there c.code.result.now s.at i c.in-Some.ensures.lookup.0 c.in-Some.ensures.lookup.1))

pub act-requires-clause-asks : goal.act-requires-clause-asks
act-requires-clause-asks g c =
    let s = c.args.self.now in
    let i = c.in-Some.i.now in
    asks c.args.program.p.now s.now.memory.map c.requires.ready.roomy (moment_of s) c.requires.sound
    (subst (λ n. n < 2 ^ 64) c.count-count.ensures c.count-count.type_inv) i
    (names_at c.args.program.t.now c.args.program.p.now s.fun s.at i c.requires.formed
    (subst (λ xs. slice_get xs s.at ≡ Some i) c.code.ensures
    (there c.code.result.now s.at i c.in-Some.ensures.lookup.0 c.in-Some.ensures.lookup.1)))

pub returns-in-None : goal.returns-in-None
returns-in-None g c =
    let s = c.args.self.now in
    rw (act_past (ops_in s) c.args.program.t.now c.args.program.p.now (moment_of s)
    (subst (λ xs. slice_get xs s.at ≡ None) c.code.ensures
    (past c.code.result.now s.at c.in-None.ensures.lookup.0))) (refl, refl, refl)

pub returns-in-Some : goal.returns-in-Some
returns-in-Some g c =
    let s = c.args.self.now in
    let i = c.in-Some.i.now in
    rw (act_there (ops_in s) c.args.program.t.now c.args.program.p.now (moment_of s) i
    (subst (λ xs. slice_get xs s.at ≡ Some i) c.code.ensures
    (there c.code.result.now s.at i c.in-Some.ensures.lookup.0 c.in-Some.ensures.lookup.1))) c.act.ensures
