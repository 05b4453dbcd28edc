use Rattle.std.proofs.Common.{sym}
use Rattle.std.proofs.lemmas.Result.{IfOk-weaker}
use Rattle.c_expressions.proofs.Keeping.{has_type_is, has_type_same}
use Rattle.c_declarators.proofs.forming.adjusted.Goals as goal

pub returns-in-Some : goal.returns-in-Some
returns-in-Some c = IfOk-weaker c.pointer_to.result _ _
    (λ k h. has_type_is _ _ k _ _ h (sym c.in-Some.ensures)) c.pointer_to.ensures

pub returns-in-None : goal.returns-in-None
returns-in-None c = has_type_same c.args.nodes.now c.args.t _ c.requires.whole c.requires.there (sym c.in-None.ensures)
