use Rattle.mean_run.proofs.Counts.{Listed}
use Rattle.mean_run.proofs.locals.Locals.new.Given as goal

abbrev pub invariant-funs : goal.invariant-funs
invariant-funs l = Listed l.p.funs l.counts.items l.f-index
