use Rattle.std.proofs.Common.{◌≡◌, false, ℕ, ◌<◌, List, sym, ap, ◌∙◌, subst, refl, arith, rules, length, set}
use Rattle.std.proofs.lemmas.Bool.{OnTrue_from, OnFalse_from}
use Rattle.std.proofs.lemmas.List.Elements.{All-from_get_or}
use Rattle.tag_mem.specs.Areas.{Area, IsMemory}
use Rattle.tag_mem.specs.Memory.{written, fits_inside, Writes}
use Rattle.tag_mem.proofs.ByAddress.{IsMemory-written, Writes-written, written-outside}
use Rattle.tag_mem.proofs.Places.{at_place, no_place}
use Rattle.tag_mem.proofs.mem.Mem.fill.Goals as goal

pub fill-requires-clause-place : goal.fill-requires-clause-place
fill-requires-clause-place c =
    let place = at_place c.self.inside.areas.items c.args.self.now c.args.at c.in-Some.i c.index_mut.result.now
    c.self.view_is c.in-Some.ensures c.index_mut.ensures.value in
    let here = place.here in search rules

pub invariant_of-self : goal.invariant_of-self
invariant_of-self c =
    let place = at_place c.self.inside.areas.items c.args.self.now c.args.at c.in-Some.i c.index_mut.result.now
    c.self.view_is c.in-Some.ensures c.index_mut.ensures.value in
    let small = All-from_get_or (λ b. b < 256) c.args.bytes.now 0 (λ k _. omega (arith, c.type_inv.bytes k)) in
    rw (c.fill.ensures.value, place.writes c.args.bytes.now false)
    (IsMemory-written c.self.inside.areas.items c.args.at c.args.bytes.now false c.self.invariant small)

pub returns-in-Some : goal.returns-in-Some
returns-in-Some c =
    let old : List Area = c.args.self.now in
    let at : ℕ = c.args.at in
    let bytes : List ℕ = c.args.bytes.now in
    let memory : IsMemory old = let P : List Area → Type 0 = IsMemory in subst P c.self.view_is c.self.invariant in
    let place = at_place c.self.inside.areas.items old at c.in-Some.i c.index_mut.result.now c.self.view_is
    c.in-Some.ensures c.index_mut.ensures.value in
    let fits = c.fill.ensures.fits ∙ place.fits (length bytes)
    ∙ ap (λ (m : List Area). fits_inside m at (length bytes)) c.self.view_is in
    let value : set c.self.inside.areas.items c.in-Some.i c.fill.new.self ≡ written old at bytes false =
    rw c.fill.ensures.value (place.writes bytes false ∙ ap (λ (m : List Area). written m at bytes false) c.self.view_is)
    in
    record {
      fits = fits;
      value = value;
      by_address = OnTrue_from c.fill.result (Writes old
          (set c.self.inside.areas.items c.in-Some.i c.fill.new.self) at bytes false)
          (λ t. rw value (Writes-written old at bytes false memory (sym fits ∙ t)));
      outside = OnFalse_from c.fill.result (set c.self.inside.areas.items c.in-Some.i c.fill.new.self ≡ old)
          (λ f. value ∙ written-outside old at bytes false (sym fits ∙ f));
    }

pub returns-in-None : goal.returns-in-None
returns-in-None c =
    let nowhere = no_place c.args.self.now c.args.at c.in-None.ensures in
    record {
      fits = sym (nowhere.fits (length c.args.bytes.now));
      value = sym (nowhere.writes c.args.bytes.now false);
      by_address = tt;
      outside = refl;
    }
