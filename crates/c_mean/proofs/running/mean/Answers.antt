use Rattle.std.proofs.Common.{◌≡◌, sym, ap, ◌∙◌}
use Rattle.std.proofs.lemmas.Result.{MatchResult-weaker, on_err_weaker}
use Rattle.cheri_c_sem.specs.Calls.{start}
use Rattle.cheri_c_sem.specs.Modes.{operations}
use Rattle.cheri_c_sem.specs.Programs.{program_tree}
use Rattle.c_mean.proofs.Beginning.{at_first}
use Rattle.c_mean.proofs.Fitting.{fit}
use Rattle.c_mean.proofs.Mapped.{roomy_in}
use Rattle.c_mean.proofs.Roomy.{startable}
use Rattle.c_mean.proofs.Whole.{runs, shortened, tells_bases}
use Rattle.c_mean.specs.HeldMemory.{plan_of, store_of}
use Rattle.c_mean.proofs.running.mean.Goals as goal

pub new-requires-4 : goal.new-requires-4
new-requires-4 g c = roomy_in c.args.p.now c.args.mode c.requires.legal

pub start-requires-clause-startable : goal.start-requires-clause-startable
start-requires-clause-startable g c = startable c.args.p.now c.requires.sound c.requires.room

pub run-requires-clause-fit : goal.run-requires-clause-fit
run-requires-clause-fit g c = fit c.args.p.now c.requires.sound c.requires.room

pub run-requires-clause-first : goal.run-requires-clause-first
run-requires-clause-first g c =
    let s = c.in_ok-state.ensures in
    let p = c.args.p.now in
    at_first (operations (plan_of c.start.new.m.mode)) p c.in_ok-state.state (store_of c.start.new.m.memory)
    s.work s.values s.places s.callers s.variables s.first (s.frame ∙ c.stack_top.ensures)
    (c.in_ok-start.ensures.did ∙ ap (λ o. start o (program_tree p)) (sym c.start.ensures.same))

pub run-requires-clause-bases : goal.run-requires-clause-bases
run-requires-clause-bases g c =
    tells_bases c.args.p.now c.args.mode (operations (plan_of c.start.new.m.mode))
    (c.start.ensures.same ∙ ap operations c.in_ok-held.ensures.plan) c.requires.sound c.requires.room c.requires.legal
    c.in_ok-state.state.left

pub returns-clause-run : goal.returns-clause-run
returns-clause-run g c =
    MatchResult-weaker c.run.result (rw c.in_ok-state.ensures.left at c.run.ensures.run)
    (λ e r. runs c.args.p.now c.args.mode (operations (plan_of c.start.new.m.mode))
    (c.start.ensures.same ∙ ap operations c.in_ok-held.ensures.plan) c.args.turns _ _ e r) (λ e h. h)

pub returns-clause-short : goal.returns-clause-short
returns-clause-short g c =
    on_err_weaker c.run.result
    (shortened c.args.p.now c.args.mode (operations (plan_of c.start.new.m.mode))
    (c.start.ensures.same ∙ ap operations c.in_ok-held.ensures.plan) c.args.turns _ _)
    (rw c.in_ok-state.ensures.left at c.run.ensures.short)
