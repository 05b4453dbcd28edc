use Rattle.c_tree.specs.Terms.{Fun}
use Rattle.c_tree.specs.Scopes.{use_routine}
use Rattle.c_expressions.specs.Nodes.{type_in}
use Rattle.c_elaborator.specs.Answers.{quietly, OperandThere, IsOperand}
use Rattle.c_elaborator.specs.Rules.{giving_leaf}
use Rattle.c_elaborator.proofs.Using.{shows_function, still_routine, function_is, no_function_is, uses_quiet}
use Rattle.c_elaborator.proofs.Sequencing.{answers_at, changed, quiet_law}
use Rattle.c_elaborator.proofs.work.Work.function.Goals as goal

pub returns-in-None : goal.returns-in-None
returns-in-None c =
    let w = c.args.self.now in
    let k = c.args.k in
    let p = c.args.pos in
    answers_at quietly w _ _ (giving_leaf (Fun k) (type_in w.nodes w.nodes.void) p) OperandThere IsOperand _
    (λ s h. no_function_is k p (type_in w.nodes w.nodes.void) s (c.in-None.ensures.is s h) c.requires.whole.void)
    c.leaf.ensures

pub returns-in_ok-push_use-in-Some : goal.returns-in_ok-push_use-in-Some
returns-in_ok-push_use-in-Some c =
    let w = c.args.self.now in
    let k = c.args.k in
    let p = c.args.pos in
    let us = c.push_use.new.uses in
    let of = c.in-Some.of in
    changed quietly quiet_law w (record w { uses = us }) _ (use_routine k p) _
    (giving_leaf (Fun k) (type_in w.nodes of) p) OperandThere IsOperand _
    c.requires.whole (uses_quiet w us _ c.in_ok-push_use-in-Some.ensures) (λ s h. still_routine k p s)
    (λ s h. let g = c.in-Some.ensures.is s h in shows_function w us k p s g.0 c.in_ok-push_use-in-Some.ensures g.1 h)
    (λ s h. let g = c.in-Some.ensures.is s h in function_is k p (type_in w.nodes of) s g.0 g.1 g.2)
    c.leaf-in-Some.ensures
