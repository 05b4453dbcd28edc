use Rattle.std.proofs.Common.{ℕ, ◌*◌, ◌/◌, ◌%◌, ◌^◌, List, take, drop, ap, ◌∙◌}
use Rattle.tag_mem.specs.Numbers.{little_number}
use Rattle.tag_mem.proofs.Reading.{number-part}
use Rattle.tag_mem.proofs.area.Area.number.Goals as goal

pub returns : goal.returns
returns c =
    let half = c.half_number-half.ensures
    ∙ ap (λ (g : List ℕ). little_number (take 8 (drop (8 * (c.args.at % 16 / 8)) g))) c.granule.ensures.value in
    record {
      value = c.part.ensures ∙ ap (λ (n : ℕ). n / 2 ^ (8 * (c.args.at % 8)) % 2 ^ (8 * c.args.n)) half
          ∙ number-part c.args.self.now c.args.at c.args.n c.granule.ensures.area c.requires.place c.requires.within;
    }
