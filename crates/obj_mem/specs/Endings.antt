-- How runs of meanings end.
use Rattle.std.specs.Prelude.{Bool, true, false}
use Rattle.obj_mem.specs.declared.ending.Ending.{Ending}
use Rattle.obj_mem.specs.declared.ending.Ending.TheVariants.{Turns, Outside}

-- the run waits for one more turn
abbrev pub is_turns : Ending → Bool
is_turns Turns = true
is_turns e = false

-- the run left what its meaning speaks of
abbrev pub is_outside : Ending → Bool
is_outside (Outside pos) = true
is_outside e = false
