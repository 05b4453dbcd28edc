use Rattle.std.proofs.Common.{◌≡◌, ℕ, ◌<◌, List, sym, ap, ◌∙◌, subst, refl, arith, rules, length, set}
use Rattle.std.proofs.lemmas.List.Elements.{All-from_get_or}
use Rattle.tag_mem.specs.Areas.{Area, IsMemory, area_at}
use Rattle.tag_mem.specs.Memory.{written}
use Rattle.tag_mem.proofs.ByAddress.{IsMemory-written, Writes-written, fits_inside-granule}
use Rattle.tag_mem.proofs.Places.{at_place, no_place}
use Rattle.tag_mem.proofs.Reading.{is_inside-found}
use Rattle.tag_mem.proofs.mem.Mem.store.Goals as goal

pub store-requires-clause-place : goal.store-requires-clause-place
store-requires-clause-place c =
    let place = at_place c.self.inside.areas.items c.args.self.now c.args.at c.in-Some.i c.index_mut.result.now
    c.self.view_is c.in-Some.ensures c.index_mut.ensures.value in
    let here = place.here in search rules

pub invariant_of-self : goal.invariant_of-self
invariant_of-self c =
    let place = at_place c.self.inside.areas.items c.args.self.now c.args.at c.in-Some.i c.index_mut.result.now
    c.self.view_is c.in-Some.ensures c.index_mut.ensures.value in
    let small = All-from_get_or (λ b. b < 256) c.args.bytes.now 0 (λ k _. omega (arith, c.type_inv.bytes k)) in
    rw (c.store.ensures, place.writes c.args.bytes.now c.args.tag)
    (IsMemory-written c.self.inside.areas.items c.args.at c.args.bytes.now c.args.tag c.self.invariant small)

pub returns-in-Some : goal.returns-in-Some
returns-in-Some c =
    let old : List Area = c.args.self.now in
    let at : ℕ = c.args.at in
    let memory : IsMemory old = let P : List Area → Type 0 = IsMemory in subst P c.self.view_is c.self.invariant in
    let place = at_place c.self.inside.areas.items old at c.in-Some.i c.index_mut.result.now c.self.view_is
    c.in-Some.ensures c.index_mut.ensures.value in
    let found = ap (λ (m : List Area). area_at m at) (sym c.self.view_is) ∙ place.found in
    let bytes : List ℕ = c.args.bytes.now in
    let inside = is_inside-found old at c.index_mut.result.now found in
    let fits = fits_inside-granule old at (length bytes) memory c.requires.granule ∙ sym inside in
    let value : set c.self.inside.areas.items c.in-Some.i c.store.new.self ≡ written old at bytes c.args.tag =
    rw c.store.ensures (place.writes bytes c.args.tag
    ∙ ap (λ (m : List Area). written m at bytes c.args.tag) c.self.view_is) in
    record {
      inside = inside;
      value = value;
      by_address = rw value (Writes-written old at bytes c.args.tag memory fits);
      outside = tt;
    }

pub returns-in-None : goal.returns-in-None
returns-in-None c =
    let nowhere = no_place c.args.self.now c.args.at c.in-None.ensures in
    record {
      inside = sym nowhere.inside;
      value = sym (nowhere.writes c.args.bytes.now c.args.tag);
      by_address = tt;
      outside = refl;
    }
