use Rattle.std.proofs.Common.{arith}
use Rattle.c_statements.proofs.Steps.{promotes}
use Rattle.c_statements.proofs.labels.promoted_value.Goals as goal

pub converted-requires : goal.converted-requires
converted-requires c =
    let k = c.in_ok-to.ensures.keeps in
    record {
      whole = k.whole;
      there = (let m = k.more_terms in let h = c.requires.there in omega arith);
      to = c.in_ok-to.ensures.is.there;
    }

pub returns : goal.returns
returns c = promotes c.args.nodes.now c.promoted.new.self c.converted.new.self c.args.node c.of.result c.in_ok-to.to
    c.in_ok-value.value c.requires.there c.of.ensures c.in_ok-to.ensures c.in_ok-value.ensures
