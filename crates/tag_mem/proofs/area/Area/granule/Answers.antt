use Rattle.std.proofs.Common.{◌*◌, ◌/◌, sym, ap, ◌∙◌, arith, subst}
use Rattle.std.specs.Prelude.{IsTrue}
use Rattle.tag_mem.specs.Areas.{Area, IsArea, has, bytes_in}
use Rattle.tag_mem.specs.Granules.{granule_bytes}
use Rattle.tag_mem.proofs.Kept.{granule_below, bytes-granule}
use Rattle.tag_mem.proofs.area.Area.granule.Goals as goal

pub index-requires : goal.index-requires
index-requires c =
    let here = subst (λ (a : Area). IsTrue (has a c.args.at)) (sym c.self.view_is) c.requires.place in
    let below = granule_below c.self.inside.base c.self.inside.granules.items c.self.inside.tags c.args.at
    c.self.invariant here in
    omega (arith, below)

pub returns : goal.returns
returns c =
    let here = subst (λ (a : Area). IsTrue (has a c.args.at)) (sym c.self.view_is) c.requires.place in
    record {
      value = ap granule_bytes c.index.ensures
          ∙ bytes-granule c.self.inside.base c.self.inside.granules.items c.self.inside.tags c.args.at c.self.invariant
          here c.index.result.now
          ∙ ap (λ (a : Area). bytes_in a (c.args.at / 16 * 16) 16) c.self.view_is;
      area = subst (λ (a : Area). IsArea a) c.self.view_is c.self.invariant;
    }
