use Rattle.std.proofs.Common.{◌≡◌, true, false, refl}
use Rattle.std.specs.Prelude.{◌==◌}
use Rattle.std.proofs.lemmas.Bool.Decides.{nat_tests}
use Rattle.std.proofs.Common.{arith}
use Rattle.c_expressions.proofs.Keeping.{keeps_same}
use Rattle.c_initializers.specs.Slots.{slot_in}
use Rattle.c_initializers.proofs.FillLaws.{adds-none, adds-one}
use Rattle.c_initializers.proofs.filling.add_given.Goals as goal

pub returns-in_ok-push : goal.returns-in_ok-push
returns-in_ok-push c =
    let n = c.args.nodes.now in
    let e : (c.args.x.at == c.args.at) ≡ true = grind (arith, nat_tests) in
    rw e (adds-one n n c.args.out.now.items c.push.new.self.items c.args.x
    (slot_in n c.args.x) c.in_ok-push.ensures.items (keeps_same n c.requires.whole) c.requires.there refl)

pub returns-else-x-at : goal.returns-else-x-at
returns-else-x-at c =
    let e : (c.args.x.at == c.args.at) ≡ false = grind (arith, nat_tests) in
    rw e (adds-none c.args.nodes.now c.args.out.now.items c.requires.whole)
