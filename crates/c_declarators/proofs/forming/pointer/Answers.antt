use Rattle.std.proofs.Common.{sym, ap, ◌∙◌}
use Rattle.std.proofs.lemmas.Result.{IfOk-weaker}
use Rattle.c_tree.specs.Types.{Const}
use Rattle.c_tree.specs.Declarators.{pointer_to}
use Rattle.c_expressions.specs.Nodes.{type_in}
use Rattle.c_expressions.proofs.Keeping.{has_type_then}
use Rattle.c_declarators.proofs.forming.pointer.Goals as goal

pub returns-then-qualified : goal.returns-then-qualified
returns-then-qualified c =
    IfOk-weaker c.type_number.result _ _
    (λ k h. has_type_then c.args.nodes.now c.pointer_to.new.self c.type_number.new.self k _ _
    c.in_ok-pointer.ensures.keeps h
    (ap Const c.in_ok-pointer.ensures.is.is
    ∙ ap (λ q. pointer_to q (type_in c.args.nodes.now c.args.t)) (sym c.if-qualified.true)))
    c.type_number.ensures
