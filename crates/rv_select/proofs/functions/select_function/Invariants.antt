use Rattle.std.proofs.Common.{take}
use Rattle.std.specs.List.{sum_by}
use Rattle.tac_ir.specs.Costs.{cost}
use Rattle.rv_select.specs.Choosing.{chosen}
use Rattle.rv_emit.specs.Growing.{Extends}
use Rattle.rv_select.specs.Noting.{SelectsAll}
use Rattle.rv_select.specs.Suiting.{AllSuit}
use Rattle.rv_select.proofs.functions.select_function.Given as goal

abbrev pub invariant-loop-i : goal.invariant-loop-i
invariant-loop-i l = record {
  grown : Extends (sum_by cost (take l.i-index l.all)) l.initial.code l.code;
  words : AllSuit l.f l.all → SelectsAll (chosen l.f) (take l.i-index l.all) l.initial.code l.code;
}
