use Rattle.rv_select.proofs.Params.{loaded_slot}
use Rattle.rv_select.proofs.functions.loaded_to.Goals as goal

pub returns-in_default : goal.returns-in_default
returns-in_default c = λ t.
    loaded_slot c.args.f.now c.args.k c.count.result c.home.result (c.home.ensures t.chooses.homed)
    c.in_default.not-Register c.count.ensures t
