use Rattle.std.proofs.Common.{Ok, sym, subst}
use Rattle.c_elaborator.specs.Answers.{Answers, quietly, NothingThere, IsNothing}
use Rattle.c_initializers.specs.Slots.{slot_in}
use Rattle.c_statements.specs.declared.initial.Asked.{Asked}
use Rattle.c_statements.specs.Initial.{asked_by}
use Rattle.c_statements.proofs.Plain.{nothing_asked}
use Rattle.c_statements.proofs.initial.ask.Goals as goal

pub returns-in-Nothing : goal.returns-in-Nothing
returns-in-Nothing c =
    let w = c.args.work.now in
    subst (λ (a : Asked). Answers quietly w w (asked_by a (slot_in w.nodes c.args.slot.now)) NothingThere IsNothing
    (Ok tt)) (sym c.in-Nothing.is) (nothing_asked w c.requires.whole)

pub returns-in-Start : goal.returns-in-Start
returns-in-Start c =
    let w = c.args.work.now in
    subst (λ (a : Asked). Answers quietly w w
    (asked_by a (slot_in w.nodes c.args.slot.now)) NothingThere IsNothing c.is_start.result)
    (sym c.in-Start.is) c.is_start.ensures
