use Rattle.std.proofs.Common.{sym, ◌∙◌}
use Rattle.passing_nodes.proofs.Naming.{behind_last}
use Rattle.passing_nodes.proofs.names.is_behind.Goals as goal

pub returns-in-Some : goal.returns-in-Some
returns-in-Some c e =
    behind_last c.args.names.now c.in-Some.name c.args.pos c.requires
    (sym c.last.ensures.value ∙ sym c.copied.ensures ∙ c.in-Some.is) (sym c.is_before.ensures ∙ e)
