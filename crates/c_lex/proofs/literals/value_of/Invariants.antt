use Rattle.std.proofs.Common.{◌≡◌, ◌<◌, ◌^◌, take}
use Rattle.ck_base.specs.Literals.{value_of}
use Rattle.c_lex.proofs.literals.value_of.Given as goal

abbrev pub invariant-loop-b : goal.invariant-loop-b
invariant-loop-b l = record { fits : l.value < 2 ^ 64; number : l.value ≡ value_of l.base (take l.b-index l.digits) }
