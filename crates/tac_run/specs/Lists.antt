-- Lists of a program's parts.
use Rattle.std.specs.Prelude.{ℕ, List, [], Option, Some, None}
use Rattle.c_tree.specs.declared.typed.FunDef.{FunDef}
use Rattle.c_tree.specs.declared.typed.Link.{Link}
use Rattle.c_tree.specs.declared.typed.Literal.{Literal}
use Rattle.c_tree.specs.declared.typed.Typed.{Typed}
use Rattle.c_tree.specs.declared.typed.VarDef.{VarDef}
use Rattle.cheri_c_sem.specs.Programs.{value_at}
use Rattle.cheri_c_sem.specs.Tree.{Starting}

-- the variables of a function
abbrev pub vars_of : Option FunDef → List VarDef
vars_of None = []
vars_of (Some f) = f.vars

-- the bytes of a literal
abbrev pub bytes_of : Literal → List ℕ
bytes_of l = l.bytes

-- the pointer that a link is
abbrev pub starting_of : Typed → Link → Starting
starting_of p l = record { at = l.at; value = value_at p l l.target }
