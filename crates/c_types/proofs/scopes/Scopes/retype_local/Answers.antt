use Rattle.std.proofs.Common.{refl, sym, subst, ◌<◌}
use Rattle.std.proofs.lemmas.Option.{slice_get_within}
use Rattle.c_types.proofs.Added.{local_retyped, local_missing}
use Rattle.c_types.proofs.scopes.Scopes.retype_local.Goals as goal

pub returns-in-None-clause-is : goal.returns-in-None-clause-is
returns-in-None-clause-is c p s u h e = local_missing c.args.self.now p s c.args.k u h (sym c.in-None.ensures)

pub returns-in-Some-clause-is : goal.returns-in-Some-clause-is
returns-in-Some-clause-is c p s u h e =
    local_retyped c.args.self.now _ p s c.args.k c.in-Some.v c.args.of u h e (sym c.in-Some.ensures) refl

pub index_mut-requires : goal.index_mut-requires
index_mut-requires c = subst (λ n. c.args.k < n) (sym c.args.self.now.locals.ok.0)
    (slice_get_within c.args.self.now.locals.items c.args.k c.in-Some.v (sym c.in-Some.ensures))
