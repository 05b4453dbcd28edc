use Rattle.c_tree.specs.Initializers.{zero_slot}
use Rattle.c_initializers.specs.Slots.{place_of}
use Rattle.c_initializers.proofs.FillLaws.{adds-one, zero-is, zero-there}
use Rattle.c_initializers.proofs.filling.add_zero.Goals as goal

pub returns : goal.returns
returns c =
    let m = c.args.nodes.now in
    let n = c.leaf.new.self in
    let h = c.in_ok-value.ensures in
    let v = c.in_ok-value.value in
    adds-one m n c.args.out.now.items c.push.new.self.items
    (record { at = c.args.p.at; of = c.args.p.of; value = v; first = c.args.whole })
    (zero_slot c.args.whole (place_of m c.args.p)) c.in_ok-push.ensures.items h.keeps
    (zero-there m n c.args.p v c.args.whole h c.requires.there) (zero-is m n c.args.p v c.args.whole h c.requires.there)
