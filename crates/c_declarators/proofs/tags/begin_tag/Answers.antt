use Rattle.c_tree.specs.Scopes.{State}
use Rattle.c_tree.specs.Declarators.{begin_tag}
use Rattle.c_types.specs.declared.scopes.Scopes.{Scopes}
use Rattle.c_elaborator.specs.declared.work.Work.{Work}
use Rattle.c_elaborator.specs.Answers.{NothingThere, IsNothing}
use Rattle.c_declarators.proofs.Lifting.{lifted, scopes_declared}
use Rattle.c_declarators.proofs.Tagging.{begin_tag_declares}
use Rattle.c_declarators.proofs.tags.begin_tag.Goals as goal

pub returns : goal.returns
returns c =
    let w : Work = c.args.work.now in
    let sc : Scopes = c.begin_tag.new.self in
    let F : Unit {0} → State → Unit {0} → Type 0 = λ x s a. Unit {0} in
    lifted w (record w.nodes { scopes = sc })
    (begin_tag c.args.tag c.args.pos) F NothingThere IsNothing c.begin_tag.result c.requires
    (scopes_declared w.nodes sc c.begin_tag.ensures.file) (begin_tag_declares w.file.now c.args.tag c.args.pos)
    (λ x. tt) (λ x s a f. tt) (c.begin_tag.ensures.is w.nodes.p)
