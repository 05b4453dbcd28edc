use Rattle.std.proofs.Common.{arith}
use Rattle.c_expressions.specs.Nodes.{type_in}
use Rattle.c_initializers.proofs.TextLaws.{text-given, text-refused}
use Rattle.c_initializers.proofs.texts.fill_text.Goals as goal

pub returns-in-None : goal.returns-in-None
returns-in-None c = λ whole.
    let u = c.args.work.now in
    text-refused u c.args.bytes.now c.args.at whole c.args.pos (type_in u.nodes c.args.of) c.args.k c.in-None.ensures

pub returns-in-Some : goal.returns-in-Some
returns-in-Some c = λ whole.
    let u = c.args.work.now in
    text-given u c.fill_bytes.new.work c.args.bytes.now c.args.at whole c.args.pos (type_in u.nodes c.args.of) c.args.k
    c.in-Some.most c.fill_bytes.result c.requires.takes (λ k. omega (arith, c.type_inv.bytes k)) c.in-Some.ensures
    c.fill_bytes.ensures
