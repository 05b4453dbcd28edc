-- The code of a sound program is what whole runs ask of it.
use Rattle.std.specs.Prelude.{◌≡◌, true}
use Rattle.c_tree.specs.Typing.{Sound}
use Rattle.tac_ir.specs.WellFormed.{is_well_formed}
use Rattle.tac_ir.specs.Within.{Within}
use Rattle.lower_runs.specs.Programs.{IsProgram}
use Rattle.select_whole.specs.Visited.{Whole}
use Rattle.image_runs.specs.Asked.{IsCode}

abbrev pub LoweredCode : Type 0
LoweredCode =
    (g : Whole) → Sound g.program → IsProgram g.program g.setting.code
    → is_well_formed g.setting.code g.program ≡ true → Within g.setting.code g.program → IsCode g
