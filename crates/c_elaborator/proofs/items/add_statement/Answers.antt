use Rattle.std.proofs.Common.{ap, length, ◌∙◌}
use Rattle.c_elaborator.proofs.Adding.{adds_action}
use Rattle.c_elaborator.proofs.items.add_statement.Goals as goal

pub returns : goal.returns
returns c = adds_action c.args.work.now _ _ c.args.kind c.args.pos c.requires.whole c.requires.values
    c.in_ok-append.ensures (c.in_ok-k.ensures ∙ ap length c.as_slice.ensures)
