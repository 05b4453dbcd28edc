use Rattle.std.proofs.Common.{ap, sym, ◌∙◌}
use Rattle.std.proofs.lemmas.Result.{err_from_is_err_and}
use Rattle.c_tree.specs.Conversions.{operand_type, converted_term}
use Rattle.c_tree.specs.Expressions.{read_value}
use Rattle.c_tree.specs.Programs.{reading}
use Rattle.c_tree.specs.Scopes.{need, give, ◌>>◌}
use Rattle.c_tree.specs.Types.{is_integer, promoted}
use Rattle.c_elaborator.specs.Answers.{quietly, OperandThere, IsOperand}
use Rattle.c_elaborator.proofs.Sequencing.{failed}
use Rattle.c_statements.specs.Statements.{SwitchedOn, SwitchedThere, IsSwitched}
use Rattle.c_statements.proofs.Steps.{switched_done, switched_refused}
use Rattle.c_statements.proofs.labels.switched.Goals as goal

pub of-requires : goal.of-requires
of-requires c = let a = c.in_ok-a.ensures c.requires.part.syntax c.requires.part.is in
    record { whole = a.whole; there = a.there }

pub is_integer-requires : goal.is_integer-requires
is_integer-requires c = let a = c.in_ok-a.ensures c.requires.part.syntax c.requires.part.is in
    record { whole = a.whole; there = c.of.ensures.there }

pub promoted_value-requires : goal.promoted_value-requires
promoted_value-requires c =
    let a = c.in_ok-a.ensures c.requires.part.syntax c.requires.part.is in record { whole = a.whole; there = a.there }

pub returns-in_err-a : goal.returns-in_err-a
returns-in_err-a c = let p = err_from_is_err_and c.from_residual.result c.from_residual.ensures.1 in λ x q.
    let v = c.value_of.new.work in
    rw (p.1, p.2) (failed quietly c.args.work.now v v (read_value (reading x))
    (λ a. need (is_integer (operand_type a)) 133 a.first
    >> give (let t = promoted (operand_type a) in
    let y : SwitchedOn = record { of = t; value = converted_term t a.is } in y))
    OperandThere IsOperand SwitchedThere IsSwitched _ (c.in_err-a.ensures x q))

pub returns-then-not-is_integer : goal.returns-then-not-is_integer
returns-then-not-is_integer c =
    λ x p. switched_refused c.args.work.now c.value_of.new.work (reading x) c.in_ok-a.a (c.in_ok-a.ensures x p)
    (ap is_integer (sym c.of.ensures.is) ∙ c.is_integer.ensures ∙ c.if-not-is_integer.true)

pub returns : goal.returns
returns c = λ x p. switched_done c.args.work.now c.value_of.new.work c.promoted_value.new.nodes
    (reading x) c.in_ok-a.a c.in_ok-on.on (c.in_ok-a.ensures x p)
    (ap is_integer (sym c.of.ensures.is) ∙ c.is_integer.ensures ∙ c.if-not-is_integer.false) c.in_ok-on.ensures
