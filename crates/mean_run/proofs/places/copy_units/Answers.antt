use Rattle.std.proofs.Common.{◌+◌, ◌∙◌, arith}
use Rattle.mean_work.specs.Places.{place_of}
use Rattle.mean_run.proofs.Copying.{next_word, unit_done, unit_over}
use Rattle.mean_run.proofs.places.copy_units.Goals as goal

pub returns-in-Err-clause-did : goal.returns-in-Err-clause-did
returns-in-Err-clause-did g c = λ n e.
    let (at, code_at, left) = c.units.invariant.left in
    unit_over (g.B.Operations.meaning c.args.m.now) c.args.units c.args.unit (place_of c.args.from)
    (place_of c.args.to) n (g.B.Operations.held c.units.m) _ (g.B.Operations.meaning c.units.m)
    c.units.counter at c.units.at (g.B.Operations.held c.units.m) c.in-Err.stop (omega arith) c.units.invariant.same
    code_at c.in-Err.ensures.did (left n e) n

pub units-preserved : goal.units-preserved
units-preserved g c =
    let (at, code_at, left) = c.units.invariant.left in
    record {
      same = c.copy_unit.ensures.same ∙ c.units.invariant.same;
      left = (
        at + c.args.unit,
        next_word c.units.at at c.args.unit code_at,
        λ n e.
            unit_done (g.B.Operations.meaning c.args.m.now) c.args.units c.args.unit (place_of c.args.from)
            (place_of c.args.to) n (g.B.Operations.held c.units.m) _ (g.B.Operations.meaning c.units.m)
            c.units.counter at c.units.at _ (omega arith) c.units.invariant.same code_at c.in-Ok.ensures.did (left n e),
      );
    }
