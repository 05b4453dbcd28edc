use Rattle.std.proofs.Common.{sym, ◌∙◌, subst}
use Rattle.purecap_abi.proofs.Ranges.{on_ok}
use Rattle.rv_select.specs.declared.homes.Place.TheVariants as place
use Rattle.rv_select.specs.Choosing.{chosen}
use Rattle.rv_emit.specs.Growing.{Puts}
use Rattle.rv_select.specs.Parameters.{Settles}
use Rattle.rv_emit.proofs.Appended.{puts_none}
use Rattle.rv_select.proofs.Params.{home_at, settled_here, settled_move, settled_slot}
use Rattle.rv_select.proofs.functions.register_parameter.Goals as goal

pub returns-in-Register-clause-words : goal.returns-in-Register-clause-words
returns-in-Register-clause-words c = λ t.
    let a = c.args in
    let f = a.f.now in
    let r = c.in-Register.to in
    let home = home_at f a.k c.from.result (place.Register r) t c.from.ensures c.in-Register.ensures in
    puts_none (Settles (chosen f) a.k a.moves.now.items a.moves.now.items) a.code.now
    (settled_here f a.k t a.moves.now.items r c.argument-from.result home c.argument-from.ensures
    (c.if-to-number.true ∙ c.number.ensures.value))

pub returns-in_ok-push-in-Register-2-clause-words : goal.returns-in_ok-push-in-Register-2-clause-words
returns-in_ok-push-in-Register-2-clause-words c = λ t.
    let a = c.args in
    let f = a.f.now in
    let r = c.in-Register.to in
    let home = home_at f a.k c.from.result (place.Register r) t c.from.ensures c.in-Register.ensures in
    subst (λ x. Puts (Settles (chosen f) a.k a.moves.now.items x) a.code.now a.code.now)
    (sym c.in_ok-push-in-Register-2.ensures.items)
    (puts_none (Settles (chosen f) a.k a.moves.now.items _) a.code.now
    (settled_move f a.k t a.moves.now.items r c.register.result c.argument-from.result home c.argument-from.ensures
    (λ e. c.if-to-number.false (e ∙ sym c.number.ensures.value)) c.register.ensures))

pub returns-in-Slot-clause-words : goal.returns-in-Slot-clause-words
returns-in-Slot-clause-words c =
    let a = c.args in
    let f = a.f.now in
    let at = c.in-Slot.at in
    on_ok c.store_far.result _ _ c.store_far.ensures.text
    (λ store t. settled_slot f a.k t a.moves.now.items at c.argument-from.result c.right.result a.code.now
    c.store_far.new.self (home_at f a.k c.from.result (place.Slot at) t c.from.ensures c.in-Slot.ensures)
    c.argument-from.ensures c.right.ensures store)
