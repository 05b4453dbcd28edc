use Rattle.std.proofs.Common.{ℕ}
use Rattle.c_tree.specs.Scopes.{State}
use Rattle.c_tree.specs.Declarators.{new_tag}
use Rattle.c_types.specs.Naming.{IsTagOf}
use Rattle.c_expressions.specs.declared.nodes.Nodes.{Nodes}
use Rattle.c_elaborator.specs.declared.work.Work.{Work}
use Rattle.c_declarators.proofs.Lifting.{declared}
use Rattle.c_declarators.proofs.Tagging.{new_tag_declares, tag_added}
use Rattle.c_declarators.proofs.tags.new_tag.Goals as goal

pub returns : goal.returns
returns c =
    let w : Work = c.args.work.now in
    let m : Nodes = c.add_tag.new.nodes in
    let F : State → ℕ → Type 0 = IsTagOf c.args.kind c.in_ok-tag.tag in
    declared w m (new_tag c.args.kind) _ F F c.requires c.add_tag.ensures.declared
    (new_tag_declares w.file.now c.args.kind) tt
    (λ s h. tag_added m.scopes m.p c.args.kind s c.in_ok-tag.tag (c.in_ok-tag.ensures.is s h.stands)) (λ s n e. e)
