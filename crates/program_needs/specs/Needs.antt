-- What objects ask for, as 64 bits count it.
use Rattle.std.specs.Prelude.{ℕ, ◌+◌, ◌-◌, ◌^◌, min, Bool, nat_lt, List}
use Rattle.c_tree.specs.Layout.{size_limit}
use Rattle.c_tree.specs.declared.typed.CType.{CType}
use Rattle.c_tree.specs.declared.typed.FunDef.{FunDef}
use Rattle.cap_layout.specs.declared.answers.Owned.{Owned}
use Rattle.obj_mem.specs.Legal.{ObjectNeed, owned_of, alignment_of, room_of}
use Rattle.obj_mem.specs.Needs.{local_needs}
use Rattle.program_needs.specs.declared.needs.Need.{Need}

-- the owned length and the alignment that an object asks for
abbrev pub need : ObjectNeed → Need
need n = record { owned = owned_of n; align = alignment_of n }

-- the same, as the frames of functions count it
abbrev pub owned_need : ObjectNeed → Owned
owned_need n = record { length = owned_of n; align = alignment_of n }

-- what it takes at most, wherever it stands
abbrev pub room : Need → ℕ
room n = n.owned + n.align

-- a sum as 64 bits count it: it stops at their greatest number
abbrev pub counted : ℕ → ℕ
counted n = min n (2 ^ 64 - 1)

-- the locals of a function that are objects are over the limit
abbrev pub locals_exceed : List CType → FunDef → Bool
locals_exceed types f = nat_lt size_limit (room_of (local_needs types f))
