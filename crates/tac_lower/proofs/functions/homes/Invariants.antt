use Rattle.std.proofs.Common.{◌≡◌, length, take}
use Rattle.cheri_c_sem.specs.Programs.{lengths_of}
use Rattle.tac_lower.specs.Functions.{AreParameters}
use Rattle.tac_lower.proofs.Homes.{HomesTo}
use Rattle.tac_lower.proofs.Zeroing.{Apart}
use Rattle.tac_lower.proofs.functions.homes.Given as goal

abbrev pub invariant-loop-v : goal.invariant-loop-v
invariant-loop-v l = record {
  homes : HomesTo l.program.p.now l.d l.fn.out l.out l.found.items l.v-index;
  parameters : AreParameters l.program.p.now l.d l.out;
  apart : Apart l.found.items l.count.objects;
  variable : l.count.variable ≡ l.v-index;
  objects : l.count.objects ≡ length (lengths_of l.program.p.now (take l.v-index l.d.vars));
}
