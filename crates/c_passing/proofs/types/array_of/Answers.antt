use Rattle.c_passing.proofs.Numbering.{adds_array}
use Rattle.c_passing.proofs.types.array_of.Goals as goal
use Rattle.passing_steps.proofs.Results.{on_ok}

pub returns : goal.returns
returns c = on_ok c.plainly.result _ _ (adds_array c.args.types.now c.args.into.now c.plainly.new.into c.args.t
    c.number-of.result c.args.n c.number-of.ensures) c.plainly.ensures
