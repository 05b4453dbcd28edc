use Rattle.std.proofs.Common.{sym, ap, subst, ◌∙◌, Ok, Err}
use Rattle.std.proofs.lemmas.Result.{err_from_is_err_and}
use Rattle.c_tree.specs.Conversions.{assigned}
use Rattle.c_tree.specs.Expressions.{read_value}
use Rattle.c_tree.specs.Programs.{reading}
use Rattle.c_tree.specs.Scopes.{need, ◌>>=◌, ◌>>◌}
use Rattle.c_tree.specs.Statements.{does, one_term}
use Rattle.c_tree.specs.Terms.{Return, no_actions}
use Rattle.c_tree.specs.Types.{Ty, is_void}
use Rattle.std.specs.Prelude.{not}
use Rattle.c_expressions.specs.Nodes.{term_count}
use Rattle.c_elaborator.specs.Answers.{Answers, quietly, OperandThere, IsOperand, operand_in, TermThere, IsTerm}
use Rattle.c_elaborator.proofs.Sequencing.{type_there}
use Rattle.c_elaborator.specs.Items.{context_in, OnlyThere, IsItems}
use Rattle.c_statements.proofs.Failing.{quiet_failed}
use Rattle.c_statements.proofs.Placing.{at_same}
use Rattle.c_statements.proofs.Steps.{returns_value, returns_none, returns_failed, returned_there}
use Rattle.c_statements.proofs.simple.return_value.Goals as goal

pub is_void-requires : goal.is_void-requires
is_void-requires c =
    let a = c.in_ok-a.ensures c.requires.part.syntax c.requires.part.is in
    record {
      whole = a.whole;
      there = type_there c.args.work.now c.value_of.new.work c.args.context.gives a.grows.keeps c.requires.context;
    }

pub assigned-requires : goal.assigned-requires
assigned-requires c =
    let a = c.in_ok-a.ensures c.requires.part.syntax c.requires.part.is in
    record {
      whole = a.whole;
      of = type_there c.args.work.now c.value_of.new.work c.args.context.gives a.grows.keeps c.requires.context;
      operand = a.there;
    }

pub does-requires : goal.does-requires
does-requires c =
    let b = c.in_ok-value.ensures in
    record {
      whole = b.whole;
      values = returned_there (term_count c.assigned.new.self.nodes) c.in_ok-value.value b.there;
    }

pub returns-in_err-a : goal.returns-in_err-a
returns-in_err-a c = let p = err_from_is_err_and c.from_residual.result c.from_residual.ensures.1 in λ x q.
    let d = context_in c.args.work.now c.args.context in
    rw (p.1, p.2) (quiet_failed c.args.work.now c.value_of.new.work (read_value (reading x))
    (λ o. need (not (is_void d.gives)) 133 c.args.pos >> assigned d.gives o
    >>= λ y. does Return (one_term y) no_actions c.args.pos) OperandThere IsOperand OnlyThere IsItems _
    (c.in_err-a.ensures x q))

pub returns-then-is_void : goal.returns-then-is_void
returns-then-is_void c = λ x p.
    let u = c.args.work.now in
    let a = c.in_ok-a.ensures x p in
    returns_none u c.value_of.new.work (context_in u c.args.context) (reading x) c.args.pos c.in_ok-a.a a
    (ap is_void (sym (a.grows.keeps.types c.args.context.gives c.requires.context)) ∙ c.is_void.ensures
    ∙ c.if-is_void.true)

pub returns-in_err-value : goal.returns-in_err-value
returns-in_err-value c =
    let q = err_from_is_err_and c.from_residual-in_err-value.result c.from_residual-in_err-value.ensures.1 in λ x p.
    let u = c.args.work.now in
    let v = c.value_of.new.work in
    let w = c.assigned.new.self in
    let a = c.in_ok-a.ensures x p in
    let same = a.grows.keeps.types c.args.context.gives c.requires.context in
    rw (q.1, q.2) (returns_failed u v w (context_in u c.args.context) (reading x) c.args.pos c.in_ok-a.a _ a
    (ap is_void (sym same) ∙ c.is_void.ensures ∙ c.if-is_void.false)
    (at_same quietly v w (λ (t : Ty). assigned t (operand_in v c.in_ok-a.a)) TermThere IsTerm
    (Err c.in_err-value.field-0.0) _ _ same c.in_err-value.ensures))

pub returns : goal.returns
returns c = λ x p.
    let u = c.args.work.now in
    let v = c.value_of.new.work in
    let w = c.assigned.new.self in
    let a = c.in_ok-a.ensures x p in
    let same = a.grows.keeps.types c.args.context.gives c.requires.context in
    returns_value u v w c.does.new.work (context_in u c.args.context)
    (reading x) c.args.pos c.in_ok-a.a c.in_ok-value.value c.does.result a
    (ap is_void (sym same) ∙ c.is_void.ensures ∙ c.if-is_void.false)
    (subst (λ (t : Ty). Answers quietly v w (assigned t (operand_in v c.in_ok-a.a)) TermThere IsTerm
    (Ok c.in_ok-value.value)) same c.in_ok-value.ensures)
    c.does.ensures
