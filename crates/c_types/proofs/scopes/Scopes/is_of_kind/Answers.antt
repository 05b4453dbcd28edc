use Rattle.std.proofs.Common.{sym, ◌∙◌}
use Rattle.c_types.proofs.Tagged.{kind_some}
use Rattle.c_types.proofs.scopes.Scopes.is_of_kind.Goals as goal

pub returns-in-Some : goal.returns-in-Some
returns-in-Some c p s h =
    c.is_same_kind.ensures ∙ sym (kind_some c.args.self.now p s c.args.tag c.args.kind c.in-Some.info h
    (sym c.in-Some.ensures))
