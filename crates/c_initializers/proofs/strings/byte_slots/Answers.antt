use Rattle.std.proofs.Common.{◌≡◌, ◌+◌, get_or, sym, ap, ◌∙◌, ◌++◌, arith}
use Rattle.std.proofs.lemmas.Int.{to_z-of_z}
use Rattle.std.specs.Prelude.{pos}
use Rattle.ck_int.specs.Kinds.{wrapped}
use Rattle.c_expressions.proofs.Keeping.{keeps_same}
use Rattle.c_tree.specs.Constants.{kind_of}
use Rattle.c_tree.specs.Initializers.{byte_slots}
use Rattle.c_expressions.specs.Nodes.{type_in}
use Rattle.c_initializers.specs.Slots.{slots_in}
use Rattle.c_initializers.proofs.FillLaws.{no-slots, bytes-more}
use Rattle.c_initializers.proofs.strings.byte_slots.Goals as goal

pub loop-k-init : goal.loop-k-init
loop-k-init c =
    let n = c.args.nodes.now in
    let all = byte_slots c.args.whole (type_in n c.args.of) c.args.at c.args.bytes.now in
    let here : c.args.at + 0 ≡ c.args.at = omega arith in
    record {
      keeps = keeps_same n c.requires.whole;
      there = no-slots n c.new-slots.result.items c.new-slots.ensures.items;
      are = rw here (ap (λ l. slots_in n l ++ all) c.new-slots.ensures.items);
    }

pub loop-k-preserved : goal.loop-k-preserved
loop-k-preserved c =
    let n = c.args.nodes.now in
    let bytes = c.args.bytes.now in
    let k = c.loop-k.k in
    let at = c.args.at in
    let a = c.wrap-number.ensures.value in
    let f = c.from.ensures in
    let b : c.wrap-number.result ≡ wrapped c.kind-kind.result (pos (get_or bytes k 0)) =
    grind (arith, to_z-of_z, a, f) in
    let number = b ∙ ap (λ j. wrapped j (pos (get_or bytes k 0)))
    (sym (ap kind_of c.class.ensures.is ∙ c.kind-kind.ensures (type_in n) c.class.ensures.params)) in
    bytes-more n c.loop-k.nodes c.leaf.new.self c.args.whole c.args.of c.wrap-number.result c.in_ok-value.value
    bytes k (at + k) (at + (k + 1)) c.loop-k.slots.items c.push.new.self.items _
    c.loop-k-test.true c.requires.there c.loop-k.invariant c.in_ok-value.ensures number c.in_ok-push.ensures.items
    (omega arith)
