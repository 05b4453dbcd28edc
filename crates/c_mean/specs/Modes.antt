-- The run of a program in a mode.
use Rattle.std.specs.Prelude.{ℕ}
use Rattle.ck_base.specs.World.{World, Outcome}
use Rattle.c_tree.specs.declared.typed.Typed.{Typed}
use Rattle.obj_mem.specs.declared.ending.Ending.{Ending}
use Rattle.obj_mem.specs.declared.map.Mode as known
use Rattle.obj_mem.specs.declared.map.Mode.TheVariants as mode
use Rattle.obj_mem.specs.Needs.{Legal}
use Rattle.cheri_c_sem.specs.Runs.{placed, strict}

-- the placed run under a map, or the strict run
abbrev pub run_in : Typed → known.Mode → World → ℕ → Outcome Ending
run_in p (mode.Placed m) w turns = placed p m.now w turns
run_in p mode.Strict w turns = strict p w turns

-- a map is legal for the program
abbrev pub IsLegalIn : Typed → known.Mode → Type 0
IsLegalIn p (mode.Placed m) = Legal p m.now
IsLegalIn p mode.Strict = Unit {0}
