-- Specifiers that name a type.
use Rattle.std.specs.Prelude.{Bool, true, false, List, [], ◌∷◌, Option, Some, None}
use Rattle.c_tree.specs.declared.syntax.NodeKind.{NodeKind}
use Rattle.c_tree.specs.declared.syntax.NodeKind.TheVariants as Kinds

abbrev pub some_list : {A : Type 0} → Option A → List A
some_list None = []
some_list (Some a) = a ∷ []

-- it names a type, and is no word
abbrev pub names_kind : NodeKind → Bool
names_kind Kinds.TypedefName = true
names_kind (Kinds.Record k) = true
names_kind Kinds.Enum = true
names_kind k = false
