use Rattle.std.proofs.Common.{sym, ◌∙◌}
use Rattle.c_types.proofs.Records.{begun_fails, begun_nothing, tag_begun}
use Rattle.c_types.proofs.scopes.Scopes.begin_tag.Goals as goal

pub returns-then-info-clause-is : goal.returns-then-info-clause-is
returns-then-info-clause-is c p =
    begun_fails c.args.self.now p c.args.tag c.in-Some.info c.args.pos (sym c.in-Some.ensures) c.if-info.true

pub returns-in-None-clause-is : goal.returns-in-None-clause-is
returns-in-None-clause-is c p s h = begun_nothing c.args.self.now p s c.args.tag c.args.pos h (sym c.in-None.ensures)

pub returns-else-info-clause-is : goal.returns-else-info-clause-is
returns-else-info-clause-is c p s h =
    c.open_tag.ensures.is p s c.args.pos h (tag_begun c.args.self.now p s c.args.tag c.in-Some.info h
    (sym c.in-Some.ensures) ∙ c.if-info.false)
