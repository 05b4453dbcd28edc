use Rattle.std.proofs.Common.{subst, sym}
use Rattle.std.proofs.lemmas.Option.{IfSome_then}
use Rattle.tac_emit.specs.Emitted.{HasKind}
use Rattle.tac_lower.specs.Nodes.{or_int}
use Rattle.tac_lower.specs.Scenes.{frame_of}
use Rattle.tac_lower.proofs.Nodes.{var_node}
use Rattle.tac_lower.proofs.context.Context.variable.Goals as goal

pub returns-in-Var-clause-has : goal.returns-in-Var-clause-has
returns-in-Var-clause-has c = λ e r w h.
    let n = var_node (frame_of c.args.self.p.now c.args.self.d.now) r.ordered c.args.a c.in-Some.e.now c.in-Some.ensures
    w c.in-Var.x (cc) in
    IfSome_then c.value_of_variable.result (c.value_of_variable.ensures.has c.args.self.d.now e n.var h n.there)
    (λ t g. subst (λ z. HasKind e t (or_int z)) (sym n.kept) g)
