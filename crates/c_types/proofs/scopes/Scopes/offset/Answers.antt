use Rattle.std.proofs.Common.{ap, ◌∙◌}
use Rattle.c_types.specs.Stands.{offset_among}
use Rattle.c_types.proofs.Starting.{offset_seen}
use Rattle.c_types.proofs.scopes.Scopes.offset.Goals as goal

pub returns-in-Some : goal.returns-in-Some
returns-in-Some c p s h =
    let sc = c.args.self.now in
    offset_seen sc.file.now sc.stale sc.named.entries s.tags c.args.tag c.args.k c.offset_in.result c.if-self.false
    h.members
    (c.offset_in.ensures ∙ ap (λ o. offset_among o c.args.k) c.in-Some.ensures.value)
