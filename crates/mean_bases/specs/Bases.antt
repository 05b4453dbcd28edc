-- Values whose bases are numbers of 64 bits.
use Rattle.std.specs.Prelude.{List, [], ◌∷◌}
use Rattle.obj_mem.specs.Values.{Value}
use Rattle.cheri_c_sem.specs.Kinds.{nothing}
use Rattle.cheri_c_sem.specs.Modes.{Store}
use Rattle.cheri_c_sem.specs.Operations.{Operations, Base}
use Rattle.mean_operations.specs.Answers.{IsWord}

-- the base of a value's bounds, where it is told
abbrev pub HasBase : Operations Store → Store → Value → Type 0
HasBase ops s v = IsWord (ops.work s Base v nothing)

-- of each value, and of what stands for one that is wanting
abbrev pub HaveBases : Operations Store → Store → List Value → Type 0
HaveBases ops s [] = HasBase ops s nothing
HaveBases ops s (v ∷ vs) = HasBase ops s v × HaveBases ops s vs
