-- What is the same of two typed programs for all that is built of them.
use Rattle.std.specs.Prelude.{◌≡◌, ℕ, List}
use Rattle.c_tree.specs.declared.typed.Typed.{Typed}
use Rattle.c_tree.specs.Weight.{weight}
use Rattle.cap_reloc.specs.Begins.{asked_by, beginning}
use Rattle.cap_reloc.specs.Initial.{ObjectsBegin}
use Rattle.cheri_c_sem.specs.Programs.{program_tree}
use Rattle.obj_mem.specs.Counted.{count_of}
use Rattle.obj_mem.specs.declared.map.Map.{Map}

pub record IsSame (p r : Typed) : Type 0 where
  -- their meaning
  pub tree : program_tree p ≡ program_tree r
  -- what they ask of their map
  pub needs : asked_by p ≡ asked_by r
  -- where their pointers begin, and their bytes
  pub pointers : (m : Map) → beginning p m ≡ beginning r m
  pub bytes : (m : Map) (base : ℕ) (bytes : List ℕ) → ObjectsBegin p m base bytes → ObjectsBegin r m base bytes
  -- their weight and the count by which their steps are bounded
  pub weight : weight p ≡ weight r
  pub count : count_of p ≡ count_of r
