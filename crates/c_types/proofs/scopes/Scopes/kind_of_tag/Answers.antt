use Rattle.std.proofs.Common.{sym}
use Rattle.c_types.proofs.Seeing.{kind_none, kind_some}
use Rattle.c_types.proofs.scopes.Scopes.kind_of_tag.Goals as goal

pub returns-in-None : goal.returns-in-None
returns-in-None c p s h = kind_none c.args.self.now p s c.args.tag h (sym c.in-None.ensures)

pub returns-in-Some : goal.returns-in-Some
returns-in-Some c p s h = kind_some c.args.self.now p s c.args.tag c.in-Some.info h (sym c.in-Some.ensures)
