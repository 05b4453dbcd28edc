use Rattle.std.proofs.Common.{◌≡◌, ◌-◌, length}
use Rattle.c_parse.specs.Checked.{HasRead, Counts}
use Rattle.c_parse.proofs.files.check.Given as goal

-- the tokens up to here were read
abbrev pub invariant-loop-next : goal.invariant-loop-next
invariant-loop-next l = record {
  file : l.reader.file ≡ l.fn.tokens.file;
  read : HasRead l.fn.tokens.file l.reader.at l.items.items;
  counts : Counts l.brackets l.items.items;
}

abbrev pub decreases-loop-next : goal.decreases-loop-next
decreases-loop-next l = length l.reader.file - l.reader.at
