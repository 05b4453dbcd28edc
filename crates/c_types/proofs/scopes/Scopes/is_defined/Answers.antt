use Rattle.std.proofs.Common.{◌∙◌, ap}
use Rattle.c_types.specs.Members.{defined_at}
use Rattle.c_types.proofs.Seeing.{defined_is}
use Rattle.c_types.proofs.scopes.Scopes.is_defined.Goals as goal

pub returns-in-None : goal.returns-in-None
returns-in-None c p s h = ap defined_at c.in-None.ensures ∙ defined_is c.args.self.now p s c.args.k h

pub returns-in-Some : goal.returns-in-Some
returns-in-Some c p s h = ap defined_at c.in-Some.ensures ∙ defined_is c.args.self.now p s c.args.k h
