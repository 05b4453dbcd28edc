use Rattle.std.proofs.Common.{◌≡◌, length, arith}
use Rattle.c_expressions.specs.Nodes.{type_in}
use Rattle.c_elaborator.proofs.Parting.{have_at}
use Rattle.c_statements.proofs.Reading.{not_alone}
use Rattle.c_statements.proofs.items.lone_text.Goals as goal

pub lone-requires-clause-part : goal.lone-requires-clause-part
lone-requires-clause-part c =
    have_at c.args.work.now c.args.kids.now 0 0 c.requires.parts (omega (arith, c.in-len1.len_at_least))

pub returns-in_default : goal.returns-in_default
returns-in_default c = λ xs p. not_alone c.args.work.now c.args.kids.now xs (type_in c.args.work.now.nodes c.args.of) p
    (λ (e : length c.args.kids.now ≡ 1). omega (arith, c.in_default.len_below))

pub returns-in_default-2 : goal.returns-in_default-2
returns-in_default-2 c = λ xs p. not_alone c.args.work.now c.args.kids.now xs
    (type_in c.args.work.now.nodes c.args.of) p
    (λ (e : length c.args.kids.now ≡ 1). omega (arith, c.in_default.len_at_least))
