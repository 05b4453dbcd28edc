use Rattle.mean_types.proofs.Behind.{IsBegun}
use Rattle.mean_types.proofs.types.Types.new.Given as goal

abbrev pub invariant-types : goal.invariant-types
invariant-types l = IsBegun l.p.types l.facts.items l.t
