use Rattle.std.proofs.Common.{◌≡◌, ℕ, ◌-◌, ◌/◌, ◌%◌, ◌<◌, List, Bool, set, sym, ap, ◌∙◌, arith, subst}
use Rattle.std.specs.Prelude.{IsTrue}
use Rattle.std.proofs.lemmas.List.Elements.{All-from_get_or}
use Rattle.tag_mem.specs.Areas.{Area, IsArea, has}
use Rattle.tag_mem.specs.Memory.{replaced, area_with}
use Rattle.tag_mem.specs.Granules.{granule_bytes, area_of}
use Rattle.tag_mem.proofs.Kept.{IsArea-with, granule_below, tag_below, bytes-granule, with_granule}
use Rattle.tag_mem.proofs.area.Area.store.Goals as goal

pub index_mut-requires : goal.index_mut-requires
index_mut-requires c =
    let here = subst (λ (a : Area). IsTrue (has a c.args.at)) (sym c.self.view_is) c.requires.place in
    let below = granule_below c.self.inside.base c.self.inside.granules.items c.self.inside.tags c.args.at
    c.self.invariant here in
    omega (arith, below)

pub set-requires : goal.set-requires
set-requires c =
    let here = subst (λ (a : Area). IsTrue (has a c.args.at)) (sym c.self.view_is) c.requires.place in
    tag_below c.self.inside.base c.self.inside.granules.items c.self.inside.tags c.args.at c.self.invariant here

abbrev is-after : (c : goal.After-set) →
    area_of c.self.inside.base (set c.self.inside.granules.items
    ((c.args.at - c.self.inside.base) / 16) c.put.new.granule) c.set.new.self
    ≡ area_with (area_of c.self.inside.base c.self.inside.granules.items c.self.inside.tags) c.args.at c.args.bytes.now
    c.args.tag
is-after c =
    let base : ℕ = c.self.inside.base in
    let gs : List (List ℕ) = c.self.inside.granules.items in
    let granule : List ℕ = c.put.new.granule in
    let here = subst (λ (a : Area). IsTrue (has a c.args.at)) (sym c.self.view_is) c.requires.place in
    let is = c.put.ensures.whole ∙ c.put.ensures.value
    ∙ ap (replaced (c.args.at % 16) c.args.bytes.now)
    (ap granule_bytes c.index_mut.ensures.value
    ∙ bytes-granule base gs c.self.inside.tags c.args.at c.self.invariant here c.index_mut.result.now) in
    ap (λ (t : List Bool). area_of base (set gs ((c.args.at - base) / 16) granule) t) c.set.ensures
    ∙ with_granule base gs c.self.inside.tags c.args.at c.self.invariant here granule c.args.bytes.now c.args.tag
    c.requires.some c.requires.granule is

pub invariant_of-self : goal.invariant_of-self
invariant_of-self c =
    let here = subst (λ (a : Area). IsTrue (has a c.args.at)) (sym c.self.view_is) c.requires.place in
    let small = All-from_get_or (λ b. b < 256) c.args.bytes.now 0 (λ k _. omega (arith, c.type_inv.bytes k)) in
    subst (λ (a : Area). IsArea a) (sym (is-after c))
    (IsArea-with (area_of c.self.inside.base c.self.inside.granules.items c.self.inside.tags) c.args.at c.args.bytes.now
    c.args.tag c.self.invariant here small)

pub returns : goal.returns
returns c = is-after c ∙ ap (λ (a : Area). area_with a c.args.at c.args.bytes.now c.args.tag) c.self.view_is
