-- The acts that are counted for what is made of a program are those of its count.
use Rattle.std.specs.Prelude.{◌≡◌, ◌+◌, ◌≤◌, true}
use Rattle.c_tree.specs.Typing.{Sound}
use Rattle.obj_mem.specs.Counted.{count_of}
use Rattle.obj_mem.specs.Needs.{Legal}
use Rattle.tac_ir.specs.WellFormed.{is_well_formed}
use Rattle.tac_ir.specs.Within.{Within}
use Rattle.select_whole.specs.Matching.{AreFine}
use Rattle.select_whole.specs.Runs.{last_acts}
use Rattle.image_runs.specs.Asked.{AreDear}
use Rattle.image_runs.specs.Made.{AreSelected, Made, whole_of}

pub record AreCounted (m : Made) (s : AreSelected m) : Type 0 where
  pub dear : AreDear (whole_of m s)
  pub fine : AreFine (whole_of m s)
  pub enough : last_acts + (whole_of m s).most ≤ count_of m.program

-- Where the code is well formed and no larger than its program allows
abbrev pub CountedCode : Type 0
CountedCode = (m : Made) (s : AreSelected m) → Sound m.program → is_well_formed m.code m.program ≡ true
    → Within m.code m.program → Legal m.program m.map → AreCounted m s
