use Rattle.std.proofs.Common.{List, sym, ap, ◌∙◌, subst, rules}
use Rattle.tag_mem.specs.Areas.{Area, IsMemory, area_at}
use Rattle.tag_mem.proofs.Places.{at_place, no_place}
use Rattle.tag_mem.proofs.mem.Mem.area_near.Goals as goal

pub returns-in_err-i : goal.returns-in_err-i
returns-in_err-i c =
    let nowhere = no_place c.args.self.now c.args.at c.in_err-i.ensures in
    let none = c.from_residual.ensures in
    record {
      found = rw none (sym nowhere.found);
      here = rw none tt;
      memory = rw none tt;
    }

pub returns : goal.returns
returns c =
    let a : Area = c.index.result.now in
    let place = at_place c.self.inside.areas.items c.args.self.now c.args.at c.in_ok-i.i a c.self.view_is
    c.in_ok-i.ensures c.index.ensures in
    record {
      found = sym (ap (λ (m : List Area). area_at m c.args.at) (sym c.self.view_is) ∙ place.found);
      here = let here = place.here in search rules;
      memory = let P : List Area → Type 0 = IsMemory in subst P c.self.view_is c.self.invariant;
    }
