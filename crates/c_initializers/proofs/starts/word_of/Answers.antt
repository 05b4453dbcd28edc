use Rattle.std.proofs.Common.{arith}
use Rattle.std.proofs.lemmas.Int.{to_z-of_z}
use Rattle.c_initializers.proofs.StartLaws.{wrapped-word}
use Rattle.c_initializers.proofs.starts.word_of.Goals as goal

pub returns : goal.returns
returns c =
    let e = wrapped-word c.args.v in
    let f = c.wrap.ensures.value in
    grind (arith, to_z-of_z, e, f)
