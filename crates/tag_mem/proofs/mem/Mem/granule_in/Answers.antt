use Rattle.std.proofs.Common.{List, false, refl, sym, ap, ◌∙◌, subst, rules}
use Rattle.tag_mem.specs.Areas.{Area, IsMemory, area_at}
use Rattle.tag_mem.specs.Granules.{granule_bytes}
use Rattle.tag_mem.specs.Memory.{written}
use Rattle.tag_mem.proofs.ByAddress.{IsMemory-written}
use Rattle.tag_mem.proofs.Granules.{small_granule}
use Rattle.tag_mem.proofs.Places.{at_place}
use Rattle.tag_mem.proofs.Reading.{is_inside-found, Holds-found}
use Rattle.tag_mem.proofs.mem.Mem.granule_in.Goals as goal

pub granule_mut-requires-clause-place : goal.granule_mut-requires-clause-place
granule_mut-requires-clause-place c =
    let place = at_place c.self.inside.areas.items c.args.self.now c.args.at c.args.i c.index_mut.result.now
    c.self.view_is (sym c.requires.place) c.index_mut.ensures.value in
    let here = place.here in search rules

pub invariant_of-self-lent : goal.invariant_of-self-lent
invariant_of-self-lent c w =
    let place = at_place c.self.inside.areas.items c.args.self.now c.args.at c.args.i c.index_mut.result.now
    c.self.view_is (sym c.requires.place) c.index_mut.ensures.value in
    rw (place.writes (granule_bytes w) false)
    (IsMemory-written c.self.inside.areas.items c.args.at (granule_bytes w) false c.self.invariant
    (small_granule w))

pub returns : goal.returns
returns c =
    let place = at_place c.self.inside.areas.items c.args.self.now c.args.at c.args.i c.index_mut.result.now
    c.self.view_is (sym c.requires.place) c.index_mut.ensures.value in
    let memory : IsMemory c.args.self.now =
    let P : List Area → Type 0 = IsMemory in subst P c.self.view_is c.self.invariant in
    let found = ap (λ (m : List Area). area_at m c.args.at) (sym c.self.view_is) ∙ place.found in (
      (
        refl,
        λ w. place.writes (granule_bytes w) false
            ∙ ap (λ (m : List Area). written m c.args.at (granule_bytes w) false) c.self.view_is,
      ),
      record {
        writes_back = tt;
        inside = sym (is_inside-found c.args.self.now c.args.at c.index_mut.result.now found);
        value = Holds-found c.args.self.now c.args.at c.index_mut.result.now c.granule_mut.result.now memory
            c.requires.aligned found c.granule_mut.ensures.value;
      },
    )
