use Rattle.std.proofs.Common.{ap, ◌∙◌, sym, subst}
use Rattle.tac_lower.specs.Tables.{AreSmall}
use Rattle.cheri_c_sem.specs.Types.{offset_in}
use Rattle.tac_lower.proofs.context.Context.member_offset.Goals as goal

pub member_offset-requires : goal.member_offset-requires
member_offset-requires c = c.requires.ready.table

pub returns : goal.returns
returns c = λ small. c.member_offset.ensures (subst (AreSmall c.args.self.p.now.types) (sym c.type_of.ensures) small)
    ∙ ap (λ t. offset_in c.args.self.p.now.types t c.args.member) c.type_of.ensures
