use Rattle.std.proofs.lemmas.Result.{IfOk-weaker}
use Rattle.c_expressions.proofs.Arrays.{qualified_is}
use Rattle.c_expressions.proofs.Keeping.{has_type_then}
use Rattle.c_expressions.proofs.nodes.Nodes.qualified.Goals as goal

pub returns : goal.returns
returns c = IfOk-weaker c.in_rows.result _ _
    (λ k h. has_type_then _ c.qualified_element.new.self _ k _ _ c.in_ok-of.ensures.keeps h
    (qualified_is c.args.self.now c.qualified_element.new.self c.args.t _ _ _ _ c.as_slice.ensures.value
    c.in_ok-rows.ensures.is c.in_ok-of.ensures.is.is)) c.in_rows.ensures
