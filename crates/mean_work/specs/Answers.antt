-- What the code's answers are, as the definitions say them.
use Rattle.std.specs.Prelude.{Result, Ok, Err}
use Rattle.obj_mem.specs.declared.ending.Fault.{Fault}

abbrev pub mapped : {A B : Type 0} → (A → B) → Result A Fault → Result B Fault
mapped f (Ok x) = Ok (f x)
mapped f (Err e) = Err e
