use Rattle.std.proofs.Common.{refl}
use Rattle.c_tree.specs.declared.typed.GlobalDef.{GlobalDef}
use Rattle.c_types.proofs.Extending.{global_changed}
use Rattle.c_types.proofs.Objects.{completed_stands}
use Rattle.c_types.proofs.scopes.Scopes.complete_global.Goals as goal

pub returns-clause-stands : goal.returns-clause-stands
returns-clause-stands c s u h e =
    completed_stands c.args.self.now c.args.p.now _ s c.args.k c.args.of u h c.set_type.ensures e

pub returns-clause-extends : goal.returns-clause-extends
returns-clause-extends c =
    global_changed c.args.p.now _ (λ (g : GlobalDef). record g { of = c.args.of }) c.args.k c.set_type.ensures
    (λ x. refl)
