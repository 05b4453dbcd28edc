use Rattle.std.proofs.Common.{ℕ, ◌≡◌, List, Some, sym, ap, ◌∙◌}
use Rattle.std.specs.Prelude.{is_some}
use Rattle.tag_mem.specs.Areas.{Area, area_at}
use Rattle.tag_mem.specs.Memory.{number_at}
use Rattle.tag_mem.proofs.Reading.{is_inside-found, is_inside-nowhere, number_at-found, number_at-nowhere}
use Rattle.tag_mem.proofs.Reading.{number_at-below, Spells-found}
use Rattle.tag_mem.proofs.Sizes.{in_granule}
use Rattle.tag_mem.proofs.mem.Mem.read_near.Goals as goal

pub returns-in_err-area : goal.returns-in_err-area
returns-in_err-area c =
    let nowhere = sym c.in_err-area.ensures.found in
    let none = c.from_residual.ensures in
    record {
      inside = ap is_some none ∙ is_inside-nowhere c.args.self.now c.args.at nowhere;
      value = none ∙ sym (number_at-nowhere c.args.self.now c.args.at nowhere c.args.n);
      below = rw none tt;
      by_address = rw none tt;
      memory = rw none tt;
    }

pub number-requires : goal.number-requires
number-requires c =
    let part = in_granule c.args.at c.args.n c.requires.size c.requires.aligned in
    record { place = c.in_ok-area.ensures.here; within = part.within }

pub returns : goal.returns
returns c =
    let memory : List Area = c.args.self.now in
    let at : ℕ = c.args.at in
    let area : Area = c.in_ok-area.area.now in
    let found : area_at memory at ≡ Some area = sym c.in_ok-area.ensures.found in
    let part = in_granule at c.args.n c.requires.size c.requires.aligned in
    let value : Some c.number.result ≡ number_at memory at c.args.n =
    rw c.number.ensures.value (sym (number_at-found memory at area found c.args.n)) in
    record {
      inside = is_inside-found memory at area found;
      value = value;
      below = number_at-below memory at c.args.n c.number.result c.in_ok-area.ensures.memory part.granule (sym value);
      by_address = rw c.number.ensures.value (Spells-found memory at c.args.n area c.in_ok-area.ensures.memory
          part.granule found);
      memory = c.in_ok-area.ensures.memory;
    }
