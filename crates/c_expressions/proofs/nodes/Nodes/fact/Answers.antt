use Rattle.std.proofs.Common.{arith}
use Rattle.c_expressions.proofs.Levels.{length-facts, fact_is}
use Rattle.c_expressions.proofs.nodes.Nodes.fact.Goals as goal

pub index-requires : goal.index-requires
index-requires c = omega (arith, length-facts c.args.self.now c.requires.whole, c.args.self.now.facts.ok.0)

pub returns : goal.returns
returns c = fact_is c.args.self.now c.args.node _ c.requires.whole c.requires.there c.index.ensures
