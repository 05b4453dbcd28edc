use Rattle.std.proofs.Common.{w32, ◌∙◌, ap}
use Rattle.std.proofs.lemmas.Int.{to_z-of_z}
use Rattle.ck_int.specs.Kinds.{kept_of}
use Rattle.c_elaborator.proofs.Naming.{constant_lifts}
use Rattle.c_elaborator.proofs.work.Work.constant.Goals as goal

pub returns : goal.returns
returns c =
    constant_lifts c.args.self.now c.int_constant.new.nodes c.int_constant.result c.kept-bits.result c.args.number
    c.args.pos (c.kept-bits.ensures ∙ ap kept_of (to_z-of_z w32 c.args.number c.ranges.number))
    c.int_constant.ensures
