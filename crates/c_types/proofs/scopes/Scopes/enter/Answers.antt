use Rattle.std.proofs.Common.{refl, [], ◌∷◌}
use Rattle.c_types.proofs.Looking.{on_ok, new_scope}
use Rattle.c_types.proofs.scopes.Scopes.enter.Goals as goal

pub returns-clause-ok : goal.returns-clause-ok
returns-clause-ok c = on_ok c.reopen.result c.reopen.ensures.ok (λ f p s h. record {
  value = tt;
  state = record s { scopes = record { names = []; tags = [] } ∷ s.scopes };
  is = refl;
  stands = f p s _ h (new_scope _ _ c.new.result c.new.ensures.names c.new.ensures.tags);
  fits = tt;
})
