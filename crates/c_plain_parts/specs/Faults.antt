-- The first rule in the file that fails at its end.
use Rattle.std.specs.Prelude.{List, [], ◌∷◌, Option, Some, None}
use Rattle.c_tree.specs.Scopes.{Fault}
use Rattle.c_tree.specs.Programs.{fault, earlier}
use Rattle.c_plain_parts.specs.declared.found.Found.{Found}

abbrev pub found : Option Found → Option Fault
found None = None
found (Some f) = Some (fault f.code f.pos)

-- the first of some and of one more behind them
abbrev pub onto : List Fault → Option Fault → Option Fault
onto [] o = o
onto (f ∷ fs) o = earlier f (onto fs o)
