use Rattle.c_tree.specs.Views.{types_of}
use Rattle.c_operand_rules.proofs.Finding.{incomplete_is, complete_is}
use Rattle.c_operand_rules.proofs.members.seek.Goals as goal

pub returns-in-None : goal.returns-in-None
returns-in-None c s h k = incomplete_is (types_of c.args.nodes.now.p.types) s c.args.tag c.args.name.now
    (c.in-None.ensures s h)

pub returns-in-Some : goal.returns-in-Some
returns-in-Some c s h k =
    let n = c.args.nodes.now in
    rw c.found_in.ensures
    (complete_is n.scopes.file.now (types_of n.p.types) s c.args.tag c.args.name.now c.in-Some.members.now
    c.member.result (c.in-Some.ensures s h) k (c.member.ensures n.p s h))
