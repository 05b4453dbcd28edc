use Rattle.std.proofs.Common.{ℕ, List, subst}
use Rattle.c_elaborator.specs.Parts.{HaveParts}
use Rattle.c_readings.proofs.Kids.{have_first}
use Rattle.c_readings.proofs.Tagging.{tag_first, other_first}
use Rattle.c_readings.proofs.Within.{has_there}
use Rattle.c_readings.proofs.tree.tag_of.Goals as goal

pub node_at-node-requires : goal.node_at-node-requires
node_at-node-requires c =
    let w = c.args.work.now in
    has_there w c.in-Some.part.first
    (have_first w c.in-Some.part.first c.in-Some.part.others.now
    (subst (λ (z : List ℕ). HaveParts w z) c.in-Some.ensures c.requires))

pub returns-in-Tag : goal.returns-in-Tag
returns-in-Tag c = λ xs p. tag_first c.args.work.now c.args.kids.now c.in-Some.part.others.now c.in-Some.part.first
    c.node_at-node.result.now c.name_of.result c.in-Some.ensures c.node_at-node.ensures c.in-Tag.is
    c.name_of.ensures xs p

pub returns-in_default : goal.returns-in_default
returns-in_default c = λ xs p.
    other_first c.args.work.now c.args.kids.now c.in-Some.part.others.now c.in-Some.part.first
    c.node_at-node.result.now c.in-Some.ensures c.node_at-node.ensures c.in_default.not-Tag xs p
