use Rattle.std.proofs.Common.{◌≡◌, ℕ, ◌-◌, ◌%◌, ◌^◌}
use Rattle.cheri_c_sem.specs.Modes.{Store}
use Rattle.mean_steps.specs.Parts.{Now, copy_units}
use Rattle.mean_work.specs.Places.{place_of}
use Rattle.mean_run.proofs.places.copy_units.Given as goal

abbrev pub invariant-units : goal.invariant-units
invariant-units g l =
    let ops = g.B.Operations.meaning l.fn.m in
    record {
      same : g.B.Operations.meaning l.m ≡ ops;
      left : (at : ℕ) × (l.at ≡ at % 2 ^ 64) × ((n : Now Store) → n.mem ≡ g.B.Operations.held l.fn.m →
          copy_units ops l.units l.unit 0 (place_of l.from) (place_of l.to) n
          ≡ copy_units ops (l.units - l.counter) l.unit at (place_of l.from) (place_of l.to)
          (record n { mem = g.B.Operations.held l.m }));
    }
