use Rattle.std.proofs.Common.{◌≡◌, ◌+◌, Some, None, drop, get_or, ap, ◌∙◌}
use Rattle.std.specs.Prelude.{option_map}
use Rattle.std.proofs.Common.{arith}
use Rattle.std.proofs.lemmas.Grind.{common_steps}
use Rattle.c_tree.specs.Scopes.{State}
use Rattle.c_tree.specs.Statics.{known_value, start_slots}
use Rattle.c_expressions.specs.Nodes.{term_in}
use Rattle.c_initializers.specs.declared.slots.Slot.{Slot}
use Rattle.c_initializers.specs.Slots.{slot_in, slots_in}
use Rattle.c_initializers.specs.Starts.{known_of}
use Rattle.c_plain_rules.proofs.MemberLaws.{drop-next}
use Rattle.c_initializers.proofs.FoundLaws.{knows-more, first-refused, later-refused}
use Rattle.c_initializers.proofs.statics.known_values.Goals as goal

pub returns-in-None : goal.returns-in-None
returns-in-None c = λ s h.
    let n = c.args.work.now.nodes in
    let slots = c.args.slots.now in
    let i = c.loop-x.x-index in
    let d : Slot = record { at = 0; of = 0; value = 0; first = record { line = 0; col = 0 } } in
    let x = get_or slots i d in
    let k = c.in_ok-known_value.ensures s h ∙ ap (option_map known_of) c.in-None.is in
    c.loop-x.invariant.fails s _ h (ap (λ l. start_slots (slots_in n l) s) (drop-next slots i d c.loop-x-test.true)
    ∙ first-refused s (slot_in n x) (slots_in n (drop (i + 1) slots)) k)

pub loop-x-preserved : goal.loop-x-preserved
loop-x-preserved c =
    let n = c.args.work.now.nodes in
    let slots = c.args.slots.now in
    let i = c.loop-x.x-index in
    let d : Slot = record { at = 0; of = 0; value = 0; first = record { line = 0; col = 0 } } in
    let x = get_or slots i d in
    record {
      count = let e = c.in_ok-keep-in-Some.ensures in grind (arith, common_steps);
      knows = λ s h.
          let k : known_value s (term_in n x.value) ≡ Some (known_of c.in-Some.value) =
          c.in_ok-known_value.ensures s h ∙ ap (option_map known_of) c.in-Some.is in
          knows-more c.args.work.now s slots i d c.loop-x.known.items c.keep.new.known.items c.in-Some.value
          c.loop-x-test.true k c.in_ok-keep-in-Some.ensures (c.loop-x.invariant.knows s h);
      fails = λ s e h r.
          let k : known_value s (term_in n x.value) ≡ Some (known_of c.in-Some.value) =
          c.in_ok-known_value.ensures s h ∙ ap (option_map known_of) c.in-Some.is in
          c.loop-x.invariant.fails s e h (ap (λ l. start_slots (slots_in n l) s)
          (drop-next slots i d c.loop-x-test.true)
          ∙ later-refused s (slot_in n x) (slots_in n (drop (i + 1) slots)) (known_of c.in-Some.value) e k r);
    }
