use Rattle.std.proofs.Common.{sym, arith}
use Rattle.std.proofs.lemmas.Int.{to_z-of_z}
use Rattle.c_initializers.proofs.StartLaws.{number-signed, number-unsigned}
use Rattle.c_initializers.proofs.starts.number_at.Goals as goal

pub returns-then-is_signed-clause-is : goal.returns-then-is_signed-clause-is
returns-then-is_signed-clause-is c =
    let e = number-signed c.args.kind c.args.v c.convert.result (sym c.if-is_signed.ensures)
    (omega arith) c.convert.ensures.unchanged in
    let f = c.signed_word.ensures in
    let g = c.from.ensures in
    grind (arith, to_z-of_z, e, f, g)

pub returns-else-is_signed-clause-is : goal.returns-else-is_signed-clause-is
returns-else-is_signed-clause-is c =
    let e = number-unsigned c.args.kind c.args.v c.convert-else-is_signed.result (sym c.if-is_signed.ensures)
    (omega arith) c.convert-else-is_signed.ensures.unchanged in
    let g = c.from-else-is_signed.ensures in
    grind (arith, to_z-of_z, e, g)
