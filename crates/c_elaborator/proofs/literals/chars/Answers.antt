use Rattle.std.proofs.Common.{ap}
use Rattle.std.proofs.lemmas.Result.{IfOk-weaker}
use Rattle.c_tree.specs.Types.{Ty, Array}
use Rattle.c_expressions.proofs.Keeping.{has_type_then}
use Rattle.c_elaborator.proofs.literals.chars.Goals as goal

pub returns : goal.returns
returns c =
    let n = c.args.nodes.now in
    let m = c.integer.new.self in
    IfOk-weaker c.type_number.result _ _ (λ k h.
    has_type_then n m c.type_number.new.self k _ _ c.in_ok-of.ensures.keeps h
    (ap (λ (t : Ty). Array t c.args.count) c.in_ok-of.ensures.is.is)) c.type_number.ensures
