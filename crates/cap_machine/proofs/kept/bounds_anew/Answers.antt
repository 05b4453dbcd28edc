use Rattle.std.proofs.Common.{sym, ◌∙◌, arith}
use Rattle.cap_machine.proofs.KeptBounds.{at_block}
use Rattle.cap_machine.proofs.kept.bounds_anew.Goals as goal

pub invariant_of-result : goal.invariant_of-result
invariant_of-result c =
    let same = at_block c.args.f.internal c.args.f.t c.args.f.b c.args.f.address in
    record {
      base_is = same.0 ∙ sym c.bounds_of-base.ensures.base;
      top_is = omega (arith, same.1, c.bounds_of-base.ensures.top, c.at_most_64_bits-top.ensures);
    }
