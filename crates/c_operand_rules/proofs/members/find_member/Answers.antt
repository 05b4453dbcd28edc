use Rattle.std.proofs.Common.{sym, ◌∙◌}
use Rattle.c_expressions.specs.Nodes.{type_in}
use Rattle.c_operand_rules.specs.Members.{sought, told, finding}
use Rattle.c_operand_rules.proofs.Finding.{told_is, none_found, finds_at}
use Rattle.c_operand_rules.proofs.members.find_member.Goals as goal

pub returns-in-None : goal.returns-in-None
returns-in-None c s h k =
    let n = c.args.nodes.now in
    none_found (type_in n c.args.of) (type_in n c.bare.result) c.args.name.now c.args.first s c.bare.ensures.is
    c.in-None.ensures

pub returns-in-Some : goal.returns-in-Some
returns-in-Some c s h k =
    let n = c.args.nodes.now in
    let t = type_in n c.args.of in
    finds_at n (finding t c.args.name.now c.args.first)
    (told c.args.first (sought s c.in-Some.tag c.args.name.now)) s _
    (told_is t c.args.name.now c.args.first c.in-Some.tag s (sym c.bare.ensures.is ∙ c.in-Some.ensures))
    (c.member_of.ensures s h k)
