use Rattle.std.proofs.Common.{◌≡◌, ◌<◌, ◌^◌, take}
use Rattle.ck_base.specs.Literals.{value_of}
use Rattle.line_marks.proofs.markers.value_of.Given as goal

abbrev pub invariant-loop-b : goal.invariant-loop-b
invariant-loop-b l = record { fits : l.value < 2 ^ 32; number : l.value ≡ value_of 10 (take l.b-index l.digits) }
