use Rattle.std.proofs.Common.{ap}
use Rattle.std.proofs.lemmas.Result.{IfOk-weaker}
use Rattle.c_tree.specs.Types.{Ty, Pointer}
use Rattle.c_tree.specs.Terms.{Term, Decay, step}
use Rattle.c_expressions.specs.Nodes.{type_in, term_in}
use Rattle.c_expressions.proofs.Keeping.{typed_step, has_term_is}
use Rattle.c_expressions.proofs.nodes.Nodes.decayed.Goals as goal

pub returns : goal.returns
returns c =
    let n = c.args.self.now in
    let f : Term → Ty → Term = λ x t. step Decay x t c.pos-pos.result in
    IfOk-weaker c.step.result _ _ (λ k h.
    has_term_is n _ k _ _ (typed_step f n c.pointer_to.new.self _ c.args.node _ k _ c.requires.there c.in_ok-of.ensures
    h)
    (ap (λ p. step Decay (term_in n c.args.node) (Pointer (type_in n c.args.to)) p) c.pos-pos.ensures)) c.step.ensures
