use Rattle.plain_programs.proofs.Unchanged.{runs_as_written}
use Rattle.c_tree.specs.Passed.{call_name, calls_in}
use Rattle.c_passing.proofs.program.pass.Goals as goal

pub returns-then-unchanged : goal.returns-then-unchanged
returns-then-unchanged c =
    let p = c.args.p in
    let h = c.in_ok-unchanged.ensures c.if-unchanged.true in
    record { shows = λ x q s t. runs_as_written p (call_name (calls_in x)) q h.0 h.1 t; ordered = h.0 }
