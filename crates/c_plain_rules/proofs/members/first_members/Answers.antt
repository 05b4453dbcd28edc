use Rattle.c_plain_parts.proofs.MemberLaws.{first-members}
use Rattle.c_plain_rules.proofs.members.first_members.Goals as goal

pub returns-in-Some-clause-are : goal.returns-in-Some-clause-are
returns-in-Some-clause-are c =
    let r = rw c.in-Some.is at c.record_of.ensures in
    first-members c.args.work.now c.args.tag c.args.count c.min-most.result c.in-Some.record c.places_in.result r
    c.min-most.ensures c.places_in.ensures.are
