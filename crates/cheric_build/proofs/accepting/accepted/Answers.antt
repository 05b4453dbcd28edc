use Rattle.std.proofs.Common.{sym, ◌∙◌}
use Rattle.typed_build.proofs.Rooms.{has_room, has_no_room}
use Rattle.cheric_build.proofs.FileAnswers.{accepted, no_room, heavy}
use Rattle.cheric_build.proofs.Once.{once}
use Rattle.cheric_build.proofs.accepting.accepted.Goals as goal

pub returns-then-branch-clause-refused : goal.returns-then-branch-clause-refused
returns-then-branch-clause-refused c =
    let file = c.args.file.now in
    let front = c.in_ok-p.ensures in
    no_room file (once file) c.in_ok-p.p front.typed front.sound
    (has_no_room c.in_ok-p.p front.sound (sym c.in_ok-exceeds_limit.ensures ∙ c.if-branch.true))

pub is_light-requires : goal.is_light-requires
is_light-requires c = c.in_ok-p.ensures.sound.types.types.ordered

pub returns-then-not-light-clause-refused : goal.returns-then-not-light-clause-refused
returns-then-not-light-clause-refused c =
    let file = c.args.file.now in
    let front = c.in_ok-p.ensures in
    heavy file (once file) c.in_ok-p.p front.typed front.sound
    (has_room c.in_ok-p.p front.sound (sym c.in_ok-exceeds_limit.ensures ∙ c.if-branch.false))
    (λ light. let is = c.in_ok-light.ensures.1 light in absurd cc)

pub returns-clause-accepted : goal.returns-clause-accepted
returns-clause-accepted c =
    let file = c.args.file.now in
    let front = c.in_ok-p.ensures in
    accepted file (once file) c.in_ok-p.p front.typed front.sound
    (has_room c.in_ok-p.p front.sound (sym c.in_ok-exceeds_limit.ensures ∙ c.if-branch.false))
    (c.in_ok-light.ensures.0 c.if-not-light.false)
