use Rattle.std.proofs.Common.{List, take, get_or, refl, sym, subst}
use Rattle.std.proofs.lemmas.List.{take_more}
use Rattle.c_tree.specs.Scopes.{give}
use Rattle.c_expressions.specs.Nodes.{term_count}
use Rattle.c_elaborator.specs.declared.work.Work.{Work}
use Rattle.c_elaborator.specs.Answers.{Done, freely}
use Rattle.c_initializers.specs.declared.slots.Slot.{Slot}
use Rattle.c_initializers.specs.Slots.{slots_in}
use Rattle.c_elaborator.specs.Items.{ItemsThere, IsItems}
use Rattle.c_elaborator.proofs.Going.{one_there, term_there}
use Rattle.c_statements.specs.Declaring.{init_items}
use Rattle.c_statements.proofs.Initializing.{items_begin, items_step}
use Rattle.c_statements.proofs.filling.init_actions.Goals as goal

pub loop-slot-init : goal.loop-slot-init
loop-slot-init c = items_begin c.args.work.now c.args.k c.args.pos c.in_ok-items.items c.requires.whole
    c.in_ok-items.ensures.vars c.in_ok-items.ensures.actions

pub add_statement-requires : goal.add_statement-requires
add_statement-requires c =
    let u : Work = c.args.work.now in
    let v : Work = c.loop-slot.work in
    let i = c.loop-slot.slot-index in
    let d : Slot = record { at = 0; of = 0; value = 0; first = record { line = 0; col = 0 } } in
    let x : Slot = get_or c.args.slots.now i d in
    record {
      whole = c.loop-slot.invariant.whole;
      values = one_there (term_count v.nodes) x.value
          (term_there u v x.value c.loop-slot.invariant.grows (c.requires.slots i d c.loop-slot-test.true).value);
    }

pub loop-slot-preserved : goal.loop-slot-preserved
loop-slot-preserved c =
    let u : Work = c.args.work.now in
    let v : Work = c.loop-slot.work in
    let w : Work = c.add_statement.new.work in
    let i = c.loop-slot.slot-index in
    let d : Slot = record { at = 0; of = 0; value = 0; first = record { line = 0; col = 0 } } in
    let x : Slot = get_or c.args.slots.now i d in
    subst (λ (xs : List Slot). Done freely u w (give (init_items c.args.k c.args.pos (slots_in u.nodes xs)))
    (ItemsThere w (record c.loop-slot.items { actions = c.push_action.new.actions }))
    (IsItems w (record c.loop-slot.items { actions = c.push_action.new.actions })))
    (sym (take_more c.args.slots.now i d c.loop-slot-test.true))
    (items_step u v w c.args.k c.args.pos (take i c.args.slots.now) x c.loop-slot.items
    (record c.loop-slot.items { actions = c.push_action.new.actions }) c.in_ok-action.action c.loop-slot.invariant
    (c.requires.slots i d c.loop-slot-test.true).value c.in_ok-action.ensures refl c.in_ok-push_action.ensures)
