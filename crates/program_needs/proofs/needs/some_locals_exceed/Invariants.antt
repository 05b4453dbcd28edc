use Rattle.std.proofs.Common.{◌≡◌, take}
use Rattle.std.specs.List.{list_any}
use Rattle.program_needs.specs.Needs.{locals_exceed}
use Rattle.program_needs.proofs.needs.some_locals_exceed.Given as goal

abbrev pub invariant-loop-f : goal.invariant-loop-f
invariant-loop-f l = l.found ≡ list_any (locals_exceed l.p.types) (take l.f-index l.funs)
