use Rattle.std.proofs.Common.{refl, ap, ◌∙◌, length}
use Rattle.std.proofs.lemmas.Result.{IfOk-weaker}
use Rattle.c_expressions.proofs.Growth.{add_has}
use Rattle.c_expressions.proofs.nodes.Nodes.add.Goals as goal

pub returns : goal.returns
returns c = IfOk-weaker c.next_number-number.result _ _ (λ k e.
    add_has _ _ _ c.args.e c.args.fact c.requires.whole c.requires.typed c.requires.known
    (ap (λ xs. record c.args.self.now.p { exprs = xs }) c.in_ok-append.ensures.ok) c.in_ok-push.ensures.items refl
    (e ∙ ap length c.as_slice.ensures) refl) c.next_number-number.ensures
