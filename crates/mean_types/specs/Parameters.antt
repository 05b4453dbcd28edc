-- The types of parameters.
use Rattle.std.specs.Prelude.{ℕ, Bool, true, false, List, Option, slice_get}
use Rattle.c_tree.specs.Layout.{bare}
use Rattle.c_tree.specs.declared.typed.CType.{CType}

-- a type; that of a parameter behind its own const
abbrev pub looked_up : List CType → Bool → ℕ → Option CType
looked_up types true t = bare types t
looked_up types false t = slice_get types t
