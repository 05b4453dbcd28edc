use Rattle.std.proofs.lemmas.Result.{IfOk-weaker}
use Rattle.c_expressions.proofs.Arrays.{bare_is}
use Rattle.c_expressions.proofs.Keeping.{has_type_then, keeps_same}
use Rattle.c_expressions.proofs.nodes.Nodes.bare_elements.Goals as goal

pub returns : goal.returns
returns c = IfOk-weaker c.in_rows.result _ _
    (λ k h. has_type_then _ _ _ k _ _ (keeps_same _ c.requires.whole) h
    (bare_is c.args.self.now c.args.t _ _ _ _ c.as_slice.ensures.value c.in_ok-rows.ensures.is
    c.in_ok-rows.ensures.no_array c.bare-of.ensures.is)) c.in_rows.ensures
