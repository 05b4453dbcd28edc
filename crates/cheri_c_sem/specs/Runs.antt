-- The placed run of a program under a map, and its strict run.
use Rattle.std.specs.Prelude.{ℕ}
use Rattle.ck_base.specs.World.{World, Outcome}
use Rattle.obj_mem.specs.declared.ending.Ending.{Ending}
use Rattle.obj_mem.specs.declared.map.Map.{Map}
use Rattle.cheri_c_sem.specs.Tree.{Program}
use Rattle.cheri_c_sem.specs.Calls.{meant}
use Rattle.c_tree.specs.declared.typed.Typed.{Typed}
use Rattle.cheri_c_sem.specs.Programs.{program_tree}
use Rattle.cheri_c_sem.specs.Modes.{operations, placed_plan, strict_plan}

-- Its output, how many bytes of the input it takes, and how it ends, with so many turns
abbrev pub placed_run : Program → Map → World → ℕ → Outcome Ending
placed_run p m w turns = meant (operations (placed_plan m)) p w turns

abbrev pub strict_run : Program → World → ℕ → Outcome Ending
strict_run p w turns = meant (operations strict_plan) p w turns

-- The same of a typed program
abbrev pub placed : Typed → Map → World → ℕ → Outcome Ending
placed p m w turns = placed_run (program_tree p) m w turns

abbrev pub strict : Typed → World → ℕ → Outcome Ending
strict p w turns = strict_run (program_tree p) w turns
