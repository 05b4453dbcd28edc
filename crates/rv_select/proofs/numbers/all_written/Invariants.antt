use Rattle.std.proofs.Common.{◌≡◌, [], length, take}
use Rattle.rv_select.specs.Written.{AllWrite}
use Rattle.rv_select.proofs.numbers.all_written.Given as goal

abbrev pub invariant-loop-t : goal.invariant-loop-t
invariant-loop-t l = record { len : length l.temps.items ≡ l.f.temps; each : AllWrite l.t [] l.temps.items }

abbrev pub invariant-loop-i : goal.invariant-loop-i
invariant-loop-i l = record {
  len : length l.temps.items ≡ l.f.temps;
  each : AllWrite l.f.params (take l.i-index l.i-items) l.temps.items;
}
