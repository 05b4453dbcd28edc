use Rattle.c_tree.specs.Terms.{no_terms, no_actions}
use Rattle.c_tree.specs.Statements.{does}
use Rattle.c_elaborator.proofs.Sequencing.{need_false}
use Rattle.c_statements.specs.Statements.{jump_form}
use Rattle.c_expressions.specs.Nodes.{term_count}
use Rattle.c_statements.proofs.Steps.{jumps, jumps_name_nothing}
use Rattle.c_statements.proofs.simple.jump.Goals as goal

pub returns-then-allowed : goal.returns-then-allowed
returns-then-allowed c = jumps c.args.work.now c.does.new.work c.args.kind c.args.allowed c.args.pos c.does.result
    c.requires.jumps c.if-allowed.true c.does.ensures

pub returns-else-allowed : goal.returns-else-allowed
returns-else-allowed c = λ s t. need_false c.args.allowed 133 c.args.pos
    (does (jump_form c.args.kind) no_terms no_actions c.args.pos) s c.if-allowed.false

pub does-requires : goal.does-requires
does-requires c = record {
  whole = c.requires.whole;
  values = jumps_name_nothing (term_count c.args.work.now.nodes) c.args.kind c.requires.jumps;
}
