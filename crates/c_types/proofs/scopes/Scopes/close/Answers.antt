use Rattle.std.proofs.Common.{refl}
use Rattle.c_types.proofs.Looking.{dropped, stands_scopes}
use Rattle.c_types.proofs.scopes.Scopes.close.Goals as goal

pub returns-clause-left : goal.returns-clause-left
returns-clause-left c p s h = record {
  value = tt;
  state = _;
  is = refl;
  stands = stands_scopes c.args.self.now _ p s _ h
      (dropped _ _ _ _ _ _ s.scopes c.args.self.now.scopes.ok.0 c.pop.ensures.items c.pop.ensures.variant h.scopes);
  fits = tt;
}
