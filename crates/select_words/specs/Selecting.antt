-- What the words of a function depend on.
use Rattle.std.specs.Prelude.{ℕ, List, Option}
use Rattle.obj_mem.specs.declared.map.Frame.{Frame}
use Rattle.reg_alloc.specs.declared.places.Home.{Home}

-- its frame, the homes of its temps, the temps that are numbers and have no home, and the entries of the program's
-- table at which those of literals and of functions begin, and at which that of the heap stands
pub record Selecting : Type 0 where
  pub frame : Option Frame
  pub homes : List Home
  pub numbers : (temp : ℕ) → Option ℕ
  pub literals : ℕ
  pub functions : ℕ
  pub heap : ℕ
