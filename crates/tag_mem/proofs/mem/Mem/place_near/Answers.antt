use Rattle.std.proofs.Common.{◌≡◌, List, get_or, true, sym, ap, ◌∙◌, arith}
use Rattle.tag_mem.specs.Areas.{Area, has}
use Rattle.tag_mem.specs.Memory.{place_of}
use Rattle.tag_mem.proofs.Places.{only_place}
use Rattle.tag_mem.proofs.mem.Mem.place_near.Goals as goal

pub returns-then-has : goal.returns-then-has
returns-then-has c =
    let items : List Area = c.self.inside.areas.items in
    let a : Area = c.index.result.now in
    let here : has (get_or items c.args.near.now a) c.args.at ≡ true =
    ap (λ (x : Area). has x c.args.at) (sym c.index.ensures) ∙ sym c.if-has.ensures in
    sym (only_place items c.args.at c.args.near.now a c.self.invariant (omega arith) here)
    ∙ ap (λ (m : List Area). place_of m c.args.at) c.self.view_is
