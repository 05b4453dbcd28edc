use mir.Val.{SFits}
use Rattle.std.proofs.Common.{w32, rules, refl, sym, ◌∙◌}
use Rattle.std.proofs.lemmas.Int.{to_z-of_z}
use Rattle.rv_select.specs.Choosing.{chosen}
use Rattle.rv_select.proofs.Planned.{power_number}
use Rattle.rv_select.proofs.operations.shift_by.Goals as goal

pub returns-clause-is : goal.returns-clause-is
returns-clause-is c =
    let a = c.args in
    let v = c.in_ok-number.field-0 in
    let p = c.in_ok-power.power in
    let fits : SFits w32 v = search rules in
    let e = c.in_ok-power.ensures in
    let is = sym c.in_ok-number.ensures in
    record {
      power = p;
      below = e.0;
      number = power_number (chosen a.f.now) a.b p v e.0 (sym (to_z-of_z w32 v fits) ∙ e.1) is;
      is = refl;
    }
