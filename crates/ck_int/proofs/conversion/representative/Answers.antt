use Rattle.std.proofs.Common.{◌∙◌, ap, pos}
use Rattle.std.proofs.lemmas.Int.{to_z-of_z}
use Rattle.std.specs.Int.{w128}
use Rattle.ck_int.specs.Kinds.{kept_of, wrapped}
use Rattle.ck_int.proofs.Laws.{wrapped-kept_of}
use Rattle.ck_int.proofs.Forms.{more_than_bit}
use Rattle.ck_int.proofs.conversion.representative.Goals as goal

pub returns-in_default : goal.returns-in_default
returns-in_default c =
    ap (λ n. wrapped c.args.kind (pos n)) (c.low_word.ensures ∙ ap kept_of (to_z-of_z w128 c.args.v c.ranges.v))
    ∙ wrapped-kept_of c.args.kind c.args.v (more_than_bit c.args.kind c.in_default.not-Bool)
