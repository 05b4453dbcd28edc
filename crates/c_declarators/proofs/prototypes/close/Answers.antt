use Rattle.std.proofs.Common.{length}
use Rattle.c_tree.specs.Scopes as meant
use Rattle.c_tree.specs.Scopes.{State}
use Rattle.c_tree.specs.Views.{types_of}
use Rattle.c_types.specs.declared.scopes.Scopes.{Scopes}
use Rattle.c_types.specs.Stands.{ShowsScope}
use Rattle.c_elaborator.specs.declared.work.Work.{Work}
use Rattle.c_declarators.specs.Steps.{closing}
use Rattle.c_declarators.proofs.Lifting.{declared, scopes_declared}
use Rattle.c_declarators.proofs.Tagging.{closing_declares, closing_given, empty_shows}
use Rattle.c_declarators.proofs.prototypes.close.Goals as goal

pub returns-in-None : goal.returns-in-None
returns-in-None c =
    let w : Work = c.args.work.now in
    let sc : Scopes = c.close.new.self in
    let ts = types_of w.nodes.p.types in
    let I : State → meant.Scope → Type 0 = λ s m. ShowsScope ts (length s.tags) c.new.result m in
    declared w (record w.nodes { scopes = sc }) closing _ I I c.requires
    (scopes_declared w.nodes sc c.in-None.ensures.file) (closing_declares w.file.now) tt
    (λ s h. closing_given sc w.nodes.p s _ I
    (empty_shows ts (length s.tags) c.new.result s.scopes c.new.ensures.names c.new.ensures.tags
    (c.in-None.ensures.scope w.nodes.p s h.stands)) (c.in-None.ensures.left w.nodes.p s h.stands))
    (λ s a f. f)
