use Rattle.std.proofs.Common.{◌≡◌, length, take}
use Rattle.c_finish.specs.Tables.{LastFillings}
use Rattle.c_finish.proofs.tables.last_fillings.Given as goal

abbrev pub invariant-loop-i : goal.invariant-loop-i
invariant-loop-i l = record {
  are : LastFillings l.fillings (take l.i l.fillings) l.table.items;
  count : length l.table.items ≡ length l.fn.work.nodes.p.globals;
}
