-- The operands of an expression, where there are few.
use Rattle.std.specs.Prelude.{◌≡◌, [], ◌∷◌}
use Rattle.c_tree.specs.declared.typed.ExprKind.{ExprKind}
use Rattle.c_tree.specs.Views.{operands}
use Rattle.c_passing.specs.declared.operands.Few.{Few}
use Rattle.c_passing.specs.declared.operands.Few.TheVariants as Counts

abbrev pub IsFew : ExprKind → Few → Type 0
IsFew k Counts.Nothing = operands k ≡ []
IsFew k (Counts.One a) = operands k ≡ a ∷ []
IsFew k (Counts.Two a b) = operands k ≡ a ∷ b ∷ []
IsFew k Counts.More = Unit {0}
