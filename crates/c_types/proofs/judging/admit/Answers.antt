use Rattle.c_types.proofs.Judged.{admits_not, admits_then}
use Rattle.c_types.specs.Judging.{formed_with}
use Rattle.c_types.proofs.judging.admit.Goals as goal

pub returns-then-not-fits : goal.returns-then-not-fits
returns-then-not-fits c of =
    admits_not c.args.fits (formed_with of c.args.faults) c.args.lacks c.args.misfits c.args.pos c.if-not-fits.true

pub returns : goal.returns
returns c of = admits_then c.args.fits (formed_with of c.args.faults) c.args.lacks c.args.misfits c.args.pos
    c.judge.result c.if-not-fits.false (c.judge.ensures of)
