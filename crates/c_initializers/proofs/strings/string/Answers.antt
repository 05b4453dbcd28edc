use Rattle.c_expressions.specs.Nodes.{type_in}
use Rattle.c_elaborator.proofs.Sequencing.{lift}
use Rattle.c_initializers.specs.Slots.{string_filled, IsFilledIn, FilledThere, IsFilled}
use Rattle.c_initializers.proofs.strings.string.Goals as goal

pub returns : goal.returns
returns c =
    let w = c.args.work.now in
    lift w c.string_in.new.nodes (string_filled c.args.bytes.now c.args.pos c.args.whole
    (type_in w.nodes c.args.of) c.args.at) IsFilledIn FilledThere IsFilled c.string_in.result (λ x a h. h.there)
    (λ x a s h. h.is) c.string_in.ensures
