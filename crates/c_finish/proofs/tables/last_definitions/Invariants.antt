use Rattle.std.proofs.Common.{◌≡◌, length, take}
use Rattle.c_plain_rules.specs.Tables.{LastDefinitions}
use Rattle.c_finish.proofs.tables.last_definitions.Given as goal

abbrev pub invariant-loop-i : goal.invariant-loop-i
invariant-loop-i l = record {
  are : LastDefinitions l.definitions (take l.i l.definitions) l.table.items;
  count : length l.table.items ≡ length l.fn.work.nodes.p.funs;
}
