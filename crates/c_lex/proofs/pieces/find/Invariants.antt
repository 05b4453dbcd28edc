use Rattle.std.proofs.Common.{◌-◌, length}
use Rattle.ck_base.specs.Lexes.{Gap}
use Rattle.c_lex.specs.Pieces.{IsPlaceOf}
use Rattle.c_lex.proofs.pieces.find.Given as goal

-- only separators were passed
abbrev pub invariant-loop-n : goal.invariant-loop-n
invariant-loop-n l = record {
  of_file : IsPlaceOf l.file l.place;
  passed : Gap l.file l.initial.place.at l.place.at;
}

abbrev pub decreases-loop-n : goal.decreases-loop-n
decreases-loop-n l = length l.file - l.place.at
