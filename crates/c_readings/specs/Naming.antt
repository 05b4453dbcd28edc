-- Tags that stand alone, and parameters whose names are in force.
use Rattle.std.specs.Prelude.{Bool, List, length}
use Rattle.ck_base.specs.Tokens.{Lexeme}
use Rattle.c_tree.specs.declared.syntax.RecordKind.{RecordKind}
use Rattle.c_tree.specs.Types.{Ty, Tagged, int}
use Rattle.c_tree.specs.Scopes.{Doing, give, change, ◌>>=◌, ◌>>◌}
use Rattle.c_tree.specs.Readings.{Param}
use Rattle.c_tree.specs.Declarators.{named_tag, bind_parameter}
use Rattle.c_declarators.specs.Steps.{named_enumeration_of}

-- ---- tags alone

abbrev pub named_record : RecordKind → Bool → Lexeme → Doing Ty
named_record k alone n = named_tag alone k n >>= λ m. give (Tagged m)

abbrev pub named_enum : Lexeme → Doing Ty
named_enum n = named_enumeration_of n >> give int

-- ---- parameters

-- a parameter's name is in force behind it
abbrev pub bound_behind : List Param → Param → Doing Unit
bound_behind ps p = change (bind_parameter (length ps) p)
