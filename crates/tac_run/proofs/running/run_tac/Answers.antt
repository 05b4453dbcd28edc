use Rattle.std.proofs.Common.{◌≡◌, Some, None, sym, ap, ◌∙◌, subst}
use Rattle.std.proofs.lemmas.Result.{MatchResult-weaker, on_err_weaker}
use Rattle.tac_run.specs.Holdings.{Holding, ops_of}
use Rattle.tac_run.specs.Ready.{IsReady}
use Rattle.tac_run.specs.Views.{moment_of}
use Rattle.tac_run.proofs.Readiness.{sound_is_ready}
use Rattle.tac_run.proofs.Whole.{begins_sound, runs, shortened, sinks}
use Rattle.tac_run.proofs.running.run_tac.Goals as goal

pub start-requires-clause-ready : goal.start-requires-clause-ready
start-requires-clause-ready g c =
    sound_is_ready c.args.p.now c.args.m.now c.requires.sound c.requires.legal

pub returns-in-None-clause-run : goal.returns-in-None-clause-run
returns-in-None-clause-run g c =
    let ops = ops_of c.in_ok-memory.memory in
    sinks c.args.t.now c.args.p.now c.args.turns c.in_ok-memory.memory.map c.args.m.now _ c.name.result
    (ap (λ (h : Holding). h.map) c.in_ok-memory.ensures) c.name.ensures c.requires.source_room c.requires.sink_room
    (subst (λ n. ops.enter c.args.p.now.main n ≡ None) c.stack_top.ensures (sym c.in-None.ensures))

pub first-requires-clause-ready : goal.first-requires-clause-ready
first-requires-clause-ready g c =
    subst (IsReady c.args.p.now) (sym (ap (λ (h : Holding). h.map) c.in_ok-memory.ensures))
    (sound_is_ready c.args.p.now c.args.m.now c.requires.sound c.requires.legal)

pub run-requires-clause-ready : goal.run-requires-clause-ready
run-requires-clause-ready g c =
    subst (IsReady c.args.p.now)
    (sym (c.in_ok-first-in-Some.ensures.map ∙ ap (λ (h : Holding). h.map) c.in_ok-memory.ensures))
    (sound_is_ready c.args.p.now c.args.m.now c.requires.sound c.requires.legal)

pub run-requires-clause-sound : goal.run-requires-clause-sound
run-requires-clause-sound g c =
    let ops = ops_of c.in_ok-memory.memory in
    begins_sound c.args.t.now c.args.p.now c.args.turns c.in-Some.address c.in_ok-memory.memory.map
    (moment_of c.in_ok-first-in-Some.field-0)
    (subst (λ n. ops.enter c.args.p.now.main n ≡ Some c.in-Some.address) c.stack_top.ensures (sym c.in-Some.ensures))
    c.in_ok-first-in-Some.ensures.moment
    (subst (IsReady c.args.p.now) (sym (ap (λ (h : Holding). h.map) c.in_ok-memory.ensures))
    (sound_is_ready c.args.p.now c.args.m.now c.requires.sound c.requires.legal))
    c.requires.formed

pub returns-clause-run : goal.returns-clause-run
returns-clause-run g c =
    let ops = ops_of c.in_ok-memory.memory in
    MatchResult-weaker c.run.result c.run.ensures.run
    (λ e r. runs c.args.t.now c.args.p.now c.args.turns c.in-Some.address c.in_ok-memory.memory.map
    (moment_of c.in_ok-first-in-Some.field-0)
    (subst (λ n. ops.enter c.args.p.now.main n ≡ Some c.in-Some.address) c.stack_top.ensures (sym c.in-Some.ensures))
    c.in_ok-first-in-Some.ensures.moment c.in_ok-first-in-Some.field-0.now.memory.map c.args.m.now _ _ e
    c.in_ok-first-in-Some.ensures.map (ap (λ (h : Holding). h.map) c.in_ok-memory.ensures) r) (λ e h. h)

pub returns-clause-short : goal.returns-clause-short
returns-clause-short g c =
    let ops = ops_of c.in_ok-memory.memory in
    on_err_weaker c.run.result
    (shortened c.args.t.now c.args.p.now c.args.turns c.in-Some.address c.in_ok-memory.memory.map
    (moment_of c.in_ok-first-in-Some.field-0)
    (subst (λ n. ops.enter c.args.p.now.main n ≡ Some c.in-Some.address) c.stack_top.ensures (sym c.in-Some.ensures))
    c.in_ok-first-in-Some.ensures.moment c.in_ok-first-in-Some.field-0.now.memory.map c.args.m.now _ _
    c.in_ok-first-in-Some.ensures.map (ap (λ (h : Holding). h.map) c.in_ok-memory.ensures)) c.run.ensures.short
