use Rattle.std.proofs.Common.{ℕ, List, subst}
use Rattle.c_elaborator.specs.Parts.{HaveParts}
use Rattle.c_readings.proofs.Kids.{have_first}
use Rattle.c_readings.proofs.Within.{has_there}
use Rattle.c_statements.proofs.Standing.{behind_there, behind_some}
use Rattle.c_statements.proofs.declarations.behind_of.Goals as goal

pub node_at-node-requires : goal.node_at-node-requires
node_at-node-requires c =
    let w = c.args.work.now in
    has_there w c.in-Some.x.first
    (have_first w c.in-Some.x.first c.in-Some.x.others.now
    (subst (λ (z : List ℕ). HaveParts w z) c.in-Some.ensures c.requires))

pub returns-in-Some-clause-there : goal.returns-in-Some-clause-there
returns-in-Some-clause-there c =
    λ limit h. behind_there c.args.work.now c.args.kids.now c.in-Some.x.first c.in-Some.x.others.now c.in-Some.ensures h

pub returns-in-Some-clause-is : goal.returns-in-Some-clause-is
returns-in-Some-clause-is c =
    λ xs a. behind_some c.args.work.now c.args.kids.now c.in-Some.x.first c.in-Some.x.others.now
    c.node_at-node.result.now xs c.in-Some.ensures c.node_at-node.ensures a
