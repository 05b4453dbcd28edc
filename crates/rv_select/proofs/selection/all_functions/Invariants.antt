use Rattle.std.proofs.Common.{◌≡◌, ◌+◌, ◌≤◌, length, take}
use Rattle.std.specs.List.{sum_by}
use Rattle.tac_ir.specs.Costs.{function_cost}
use Rattle.rv_select.specs.Following.{IsBetween, ArePut}
use Rattle.rv_select.specs.Selectable.{AreAll, table_of}
use Rattle.rv_select.proofs.selection.all_functions.Given as goal

abbrev pub invariant-loop-k : goal.invariant-loop-k
invariant-loop-k l = record {
  few : l.code.words ≤ l.fn.code.words + sum_by function_cost (take l.k l.funs);
  each : length l.code.links.entered ≡ length l.fn.code.links.entered + l.k;
  put : IsBetween l.fn.code → AreAll (table_of l.table) l.funs l.places l.frames
      → ArePut (table_of l.table) (take l.k l.funs) l.places l.frames l.fn.code l.code;
}
