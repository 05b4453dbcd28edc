use Rattle.std.proofs.Common.{ℕ, ◌-◌, ◌/◌, List, Bool, false, set, refl, sym, ap, ◌∙◌, arith, subst}
use Rattle.std.specs.Prelude.{IsTrue}
use Rattle.tag_mem.specs.Areas.{Area, IsArea, has, bytes_in}
use Rattle.tag_mem.specs.Memory.{area_with}
use Rattle.tag_mem.specs.Granules.{granule_bytes, area_of}
use Rattle.tag_mem.proofs.Granules.{small_granule}
use Rattle.tag_mem.proofs.Kept.{IsArea-with, granule_below, tag_below, bytes-granule, with_lent}
use Rattle.tag_mem.proofs.area.Area.granule_mut.Goals as goal

pub set-requires : goal.set-requires
set-requires c =
    let here = subst (λ (a : Area). IsTrue (has a c.args.at)) (sym c.self.view_is) c.requires.place in
    tag_below c.self.inside.base c.self.inside.granules.items c.self.inside.tags c.args.at c.self.invariant here

pub index_mut-requires : goal.index_mut-requires
index_mut-requires c =
    let here = subst (λ (a : Area). IsTrue (has a c.args.at)) (sym c.self.view_is) c.requires.place in
    let below = granule_below c.self.inside.base c.self.inside.granules.items c.self.inside.tags c.args.at
    c.self.invariant here in
    omega (arith, below)

pub invariant_of-self-lent : goal.invariant_of-self-lent
invariant_of-self-lent c w =
    let base : ℕ = c.self.inside.base in
    let gs : List (List ℕ) = c.self.inside.granules.items in
    let here = subst (λ (a : Area). IsTrue (has a c.args.at)) (sym c.self.view_is) c.requires.place in
    let is = ap (λ (t : List Bool). area_of base (set gs ((c.args.at - base) / 16) w) t) c.set.ensures
    ∙ with_lent base gs c.self.inside.tags c.args.at c.self.invariant here w c.requires.aligned in
    subst (λ (a : Area). IsArea a) (sym is) (IsArea-with (area_of base gs c.self.inside.tags) c.args.at
    (granule_bytes w) false c.self.invariant here (small_granule w))

pub returns : goal.returns
returns c =
    let base : ℕ = c.self.inside.base in
    let gs : List (List ℕ) = c.self.inside.granules.items in
    let here = subst (λ (a : Area). IsTrue (has a c.args.at)) (sym c.self.view_is) c.requires.place in (
      (
        refl,
        λ w. ap (λ (t : List Bool). area_of base (set gs ((c.args.at - base) / 16) w) t) c.set.ensures
            ∙ with_lent base gs c.self.inside.tags c.args.at c.self.invariant here w c.requires.aligned
            ∙ ap (λ (a : Area). area_with a c.args.at (granule_bytes w) false) c.self.view_is,
      ),
      record {
        writes_back = tt;
        value = ap granule_bytes c.index_mut.ensures.value
            ∙ bytes-granule base gs c.self.inside.tags c.args.at c.self.invariant here c.index_mut.result.now
            ∙ ap (λ (x : ℕ). bytes_in (area_of base gs c.self.inside.tags) x 16) (omega (arith, c.requires.aligned))
            ∙ ap (λ (a : Area). bytes_in a c.args.at 16) c.self.view_is;
      },
    )
