use Rattle.std.proofs.Common.{ap}
use Rattle.c_tree.specs.Views.{types_of}
use Rattle.c_operand_rules.specs.Members.{sought, told}
use Rattle.c_operand_rules.proofs.Finding.{sought_none, sought_missing, sought_at}
use Rattle.c_operand_rules.proofs.members.member_of.Goals as goal

pub returns-in-Incomplete : goal.returns-in-Incomplete
returns-in-Incomplete c s h k =
    ap (λ o. told c.args.first o s) (sought_none (types_of c.args.nodes.now.p.types)
    (sought s c.args.tag c.args.name.now) (rw c.in-Incomplete.is at (c.seek.ensures s h k)))

pub returns-in-Missing : goal.returns-in-Missing
returns-in-Missing c s h k =
    ap (λ o. told c.args.first o s) (sought_missing (types_of c.args.nodes.now.p.types)
    (sought s c.args.tag c.args.name.now) (rw c.in-Missing.is at (c.seek.ensures s h k)))

pub returns-in-At : goal.returns-in-At
returns-in-At c s h k =
    ap (λ o. told c.args.first o s) (sought_at c.args.nodes.now.p c.in-At.member
    (sought s c.args.tag c.args.name.now) (rw c.in-At.is at (c.seek.ensures s h k)))
