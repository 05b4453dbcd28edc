use Rattle.std.proofs.Common.{◌∙◌, ap}
use Rattle.c_types.specs.Members.{linked_at}
use Rattle.c_types.proofs.Seeing.{linkage_is}
use Rattle.c_types.proofs.scopes.Scopes.has_linkage.Goals as goal

pub returns-in-None : goal.returns-in-None
returns-in-None c p s h = ap linked_at c.in-None.ensures ∙ linkage_is c.args.self.now p s c.args.k h

pub returns-in-Some : goal.returns-in-Some
returns-in-Some c p s h = ap linked_at c.in-Some.ensures ∙ linkage_is c.args.self.now p s c.args.k h
