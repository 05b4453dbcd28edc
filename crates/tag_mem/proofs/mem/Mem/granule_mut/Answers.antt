use Rattle.std.proofs.Common.{refl, sym, ap, ◌∙◌}
use Rattle.std.specs.Prelude.{is_some}
use Rattle.tag_mem.proofs.Places.{no_place}
use Rattle.tag_mem.proofs.mem.Mem.granule_mut.Goals as goal

pub returns-in_err-i : goal.returns-in_err-i
returns-in_err-i c =
    let none = c.from_residual.ensures in
    let nowhere = no_place c.args.self.now c.args.at c.in_err-i.ensures in
    (rw none refl, record { writes_back = tt; inside = ap is_some none ∙ sym nowhere.inside; by_address = rw none tt })

pub returns : goal.returns
returns c = (
  refl,
  record {
    writes_back = tt;
    inside = sym c.granule_in.ensures.inside;
    by_address = c.granule_in.ensures.value;
  },
)
