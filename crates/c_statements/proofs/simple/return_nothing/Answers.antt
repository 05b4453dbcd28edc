use Rattle.std.proofs.Common.{◌∙◌}
use Rattle.c_tree.specs.Terms.{Return, no_terms, no_actions}
use Rattle.c_tree.specs.Types.{is_void}
use Rattle.c_tree.specs.Statements.{does}
use Rattle.c_elaborator.specs.Answers.{freely}
use Rattle.c_elaborator.proofs.Sequencing.{answers_at, need_true, need_false}
use Rattle.c_expressions.specs.Nodes.{term_count}
use Rattle.c_elaborator.proofs.Going.{none_there}
use Rattle.c_elaborator.specs.Items.{context_in, OnlyThere, IsItems}
use Rattle.c_statements.proofs.simple.return_nothing.Goals as goal

pub returns-then-is_void : goal.returns-then-is_void
returns-then-is_void c =
    let u = c.args.work.now in
    answers_at freely u c.does.new.work _ (does Return no_terms no_actions c.args.pos) OnlyThere IsItems c.does.result
    (λ s t. need_true (is_void (context_in u c.args.context).gives) 133 c.args.pos
    (does Return no_terms no_actions c.args.pos) s (c.is_void.ensures ∙ c.if-is_void.true)) c.does.ensures

pub returns-else-is_void : goal.returns-else-is_void
returns-else-is_void c = λ s t. need_false (is_void (context_in c.args.work.now c.args.context).gives) 133 c.args.pos
    (does Return no_terms no_actions c.args.pos) s (c.is_void.ensures ∙ c.if-is_void.false)

pub does-requires : goal.does-requires
does-requires c = record { whole = c.requires.whole; values = none_there (term_count c.args.work.now.nodes) }
