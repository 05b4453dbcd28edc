use Rattle.std.proofs.Common.{◌∙◌, ap}
use Rattle.c_tree.specs.Declarations.{is_open}
use Rattle.c_tree.specs.Views.{type_at, types_of}
use Rattle.c_types.proofs.Judged.{ready_alike}
use Rattle.c_types.proofs.scopes.Scopes.is_ready.Goals as goal

pub returns : goal.returns
returns c s h =
    c.ready.ensures ∙ ready_alike _ _ _ _ c.args.defines (c.is_complete.ensures s h)
    (c.is_open.ensures ∙ ap (λ cs. is_open (type_at (types_of cs) c.args.of)) c.as_slice.ensures)
