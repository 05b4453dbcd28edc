use Rattle.std.proofs.Common.{subst}
use Rattle.std.proofs.lemmas.List.{take_more, take_all}
use Rattle.c_tree.specs.declared.typed.Member.{Member}
use Rattle.c_passing.specs.Numbered.{AreRenumbered}
use Rattle.c_passing.proofs.Numbering.{members_push, no_members}
use Rattle.c_passing.proofs.types.members_of.Goals as goal

pub loop-m-init : goal.loop-m-init
loop-m-init c = rw (c.new-list.ensures.items) (no_members c.args.numbers.now)

pub loop-m-preserved : goal.loop-m-preserved
loop-m-preserved c =
    let d : Member = record { name = record { start = 0; end = 0 }; of = 0 } in
    rw (take_more c.args.members.now c.loop-m.m-index d c.loop-m-test.true)
    (members_push c.args.numbers.now _ c.loop-m.list.items _ _ c.number_in-of.result c.loop-m.invariant
    c.number_in-of.ensures
    c.in_ok-push.ensures.items)

pub returns : goal.returns
returns c = subst (λ ms. AreRenumbered c.args.numbers.now ms c.loop-m.list.items)
    (take_all c.loop-m.m-index c.args.members.now c.loop-m-test.false) c.loop-m.invariant
