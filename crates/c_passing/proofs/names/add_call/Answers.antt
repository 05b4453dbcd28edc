use Rattle.std.proofs.Common.{[], ◌∷◌, cond, ap, ◌∙◌}
use Rattle.c_passing.proofs.Naming.{call_added}
use Rattle.c_passing.proofs.names.add_call.Goals as goal

pub returns-in_ok-add : goal.returns-in_ok-add
returns-in_ok-add c =
    call_added c.args.names.now c.add.new.self c.args.node.now
    (λ t. c.is_call.ensures t ∙ ap (λ b. cond b (t ∷ []) []) c.if-is_call.true) c.in_ok-add.ensures
