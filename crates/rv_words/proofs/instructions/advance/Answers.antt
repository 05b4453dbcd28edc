use Rattle.std.proofs.Common.{refl}
use Rattle.std.proofs.lemmas.Int.{to_z-of_z}
use Rattle.std.proofs.Common.{w32}
use Rattle.rv_instr.specs.Range.{InRange}
use Rattle.rv_words.proofs.instructions.advance.Goals as goal

pub returns : goal.returns
unfolding InRange
returns c = rw (to_z-of_z w32 c.args.bytes c.ranges.bytes) (record {
  plain = record { in_range = (c.known.ensures, c.known-2.ensures, c.requires); anywhere = refl };
  is = refl;
})
