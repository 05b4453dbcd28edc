-- Statements that name statements before them.
use Rattle.std.specs.Prelude.{◌≡◌, ℕ, ◌<◌, List, Some, slice_get}
use Rattle.c_tree.specs.declared.typed.Stmt.{Stmt}
use Rattle.c_tree.specs.Views.{parts}

abbrev pub PartsBefore : List Stmt → Type 0
PartsBefore ss = (k j a : ℕ) (s : Stmt) → slice_get ss k ≡ Some s → slice_get (parts s.kind) j ≡ Some a → a < k
