use Rattle.std.proofs.Common.{ap, sym, ◌∙◌}
use Rattle.std.specs.Prelude.{slice_get}
use Rattle.c_tree.specs.Views.{types_of}
use Rattle.c_types.specs.Fitting.{callee_seen}
use Rattle.std.specs.Prelude.{option_map}
use Rattle.c_types.specs.Stands.{entity_kept}
use Rattle.c_types.proofs.Seeing.{callee_of}
use Rattle.c_types.proofs.scopes.Scopes.is_function_name.Goals as goal

pub returns-in-Some : goal.returns-in-Some
returns-in-Some c p s h =
    c.is_callee.ensures (types_of p.types)
    ∙ ap (λ o. callee_seen (option_map (entity_kept (types_of p.types)) o)) c.name.ensures
    ∙ callee_of c.args.self.now p s c.in-Some.scope.now c.args.name.now h
    (ap (λ xs. slice_get xs 0) (sym c.deref.ensures.value) ∙ sym c.in-Some.ensures.value)
