use Rattle.std.proofs.Common.{ap, refl}
use Rattle.c_tree.specs.Types.{Ty}
use Rattle.c_tree.specs.Terms.{Member, Term, step}
use Rattle.c_tree.specs.Expressions.{as_qualified}
use Rattle.c_expressions.specs.Nodes.{type_in}
use Rattle.c_expressions.proofs.Keeping.{typed_step, has_type_is}
use Rattle.c_elaborator.proofs.Checking.{built}
use Rattle.c_elaborator.proofs.work.Work.member_at.Goals as goal

pub returns : goal.returns
returns c =
    let w = c.args.self.now in
    let n = w.nodes in
    let t = has_type_is n _ _ _ _ c.in_ok-qualified.ensures
    (ap (λ (u : Ty). as_qualified u (type_in n c.args.of)) c.of-whole.ensures.is) in
    built w _ _ _ _
    (typed_step (λ (x : Term) (u : Ty). step (Member c.args.k) x u c.args.pos) n c.as_qualified.new.nodes _
    c.args.a.node _ _ _ c.requires.operand t c.in_ok-node.ensures) (λ s k. refl)
