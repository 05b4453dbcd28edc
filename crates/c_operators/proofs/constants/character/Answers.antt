use Rattle.std.proofs.Common.{ap, sym, ◌∙◌}
use Rattle.c_tree.specs.Types.{int}
use Rattle.c_tree.specs.Terms.{Constant, leaf}
use Rattle.c_tree.specs.Expressions.{gives}
use Rattle.c_expressions.specs.Nodes.{IsOperand}
use Rattle.c_expressions.proofs.Keeping.{answers_is}
use Rattle.c_operators.proofs.Texts.{character_is}
use Rattle.c_operators.proofs.constants.character.Goals as goal

pub unreachable-requires : goal.unreachable-requires
unreachable-requires c =
    let e = c.char_of.ensures.only c.requires.accepted.0 c.requires.accepted.1 in
    let f = c.in-None.is in
    cc

pub returns : goal.returns
returns c =
    answers_is c.args.nodes.now _ _ _ IsOperand _
    (ap (λ v. gives (leaf (Constant v) int c.args.pos) c.args.pos)
    (character_is c.args.text.now c.in-Some.value c.in-Some.ensures.found ∙ sym c.from.ensures))
    c.int_constant.ensures
