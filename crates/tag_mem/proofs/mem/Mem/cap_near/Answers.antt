use Rattle.std.proofs.Common.{ℕ, ◌*◌, ◌/◌, ◌≡◌, List, Some, sym, ap, ◌∙◌, arith}
use Rattle.std.specs.Prelude.{is_some}
use Rattle.tag_mem.specs.Areas.{Area, area_at, bytes_in}
use Rattle.tag_mem.specs.Numbers.{little_number}
use Rattle.tag_mem.proofs.Reading.{is_inside-found, is_inside-nowhere, capability_at-found, capability_at-nowhere}
use Rattle.tag_mem.proofs.Reading.{tag_at-found, Spells-found}
use Rattle.tag_mem.proofs.mem.Mem.cap_near.Goals as goal

pub returns-in_err-area : goal.returns-in_err-area
returns-in_err-area c =
    let nowhere = sym c.in_err-area.ensures.found in
    let none = c.from_residual.ensures in
    record {
      inside = ap is_some none ∙ is_inside-nowhere c.args.self.now c.args.at nowhere;
      value = none ∙ sym (capability_at-nowhere c.args.self.now c.args.at nowhere);
      by_address = rw none tt;
      tag = rw none tt;
    }

pub returns : goal.returns
returns c =
    let memory : List Area = c.args.self.now in
    let at : ℕ = c.args.at in
    let area : Area = c.in_ok-area.area.now in
    let found : area_at memory at ≡ Some area = sym c.in_ok-area.ensures.found in
    let even : at / 16 * 16 ≡ at = omega (arith, c.requires) in
    let number = c.whole_number.ensures
    ∙ ap little_number (c.granule.ensures.value ∙ ap (λ (x : ℕ). bytes_in area x 16) even) in
    let tag = c.tag.ensures in
    record {
      inside = is_inside-found memory at area found;
      value = rw (number, tag) (sym (capability_at-found memory at area found));
      by_address = rw number (Spells-found memory at 16 area c.in_ok-area.ensures.memory (omega arith) found);
      tag = rw tag (tag_at-found memory at area found);
    }
