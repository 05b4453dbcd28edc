use Rattle.std.proofs.Common.{◌≡◌, ◌-◌, length, drop}
use Rattle.c_plain_rules.specs.Tables.{HasUses}
use Rattle.c_finish.proofs.tables.first_uses.Given as goal

abbrev pub invariant-loop-i : goal.invariant-loop-i
invariant-loop-i l = record {
  uses : HasUses (drop (l.n - l.i) l.uses) l.table;
  objects : length l.table.objects.items ≡ length l.fn.work.nodes.p.globals;
  functions : length l.table.functions.items ≡ length l.fn.work.nodes.p.funs;
}
