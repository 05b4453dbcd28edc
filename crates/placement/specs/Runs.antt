-- Runs of a program over memories that stand for one another.
use Rattle.std.specs.Prelude.{ℕ, ◌%◌}
use Rattle.obj_mem.specs.declared.ending.Ending.TheVariants as ending
use Rattle.obj_mem.specs.Values.{Value}
use Rattle.cheri_c_sem.specs.Kinds.{number_of}
use Rattle.cheri_c_sem.specs.Steps.{State, Fate, over}

-- the state of the second run that stands for one of the first: all but memory and the address of the frame is the same
abbrev pub twin : {M N : Type 0} → State M → N → ℕ → State N
twin s n frame = record { vars = s.vars; first = s.first; mem = n; frame = frame; left = s.left; done = s.done }

-- a program ends where its first call has given a value
abbrev pub exits : {M : Type 0} → Value → State M → Fate
exits v s = over (ending.Exit (number_of v % 256)) s
