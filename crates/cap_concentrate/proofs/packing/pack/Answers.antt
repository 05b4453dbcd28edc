use Rattle.std.proofs.Common.{◌∙◌, ap, arith}
use Rattle.std.proofs.lemmas.Grind.{common_steps}
use Rattle.cap_concentrate.specs.Packing.{bits_of, fields_of}
use Rattle.cap_concentrate.proofs.Packed.{fields_of-bits_of}
use Rattle.cap_concentrate.proofs.packing.pack.Goals as goal

pub returns-clause-bits : goal.returns-clause-bits
unfolding bits_of
returns-clause-bits c = grind (arith, common_steps)

pub returns-clause-back : goal.returns-clause-back
returns-clause-back c = ap fields_of (returns-clause-bits c) ∙ fields_of-bits_of c.args.f (omega arith)
