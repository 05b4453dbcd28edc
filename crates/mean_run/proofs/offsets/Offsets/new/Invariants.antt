use Rattle.mean_run.proofs.Members.{Listed}
use Rattle.mean_run.proofs.offsets.Offsets.new.Given as goal

abbrev pub invariant-types : goal.invariant-types
invariant-types l = Listed l.p.types l.of_types.items l.t
