-- One level of a type of a program under way.
use Rattle.std.specs.Prelude.{ℕ, ◌<◌}
use Rattle.c_node_facts.specs.declared.classes.Class.{Class}
use Rattle.c_node_facts.specs.declared.classes.Class.TheVariants.{Pointer, Array, Function, Const}
pub use Rattle.c_node_facts.specs.Classes.{class_type, integer_type}

-- the types that a level names are among so many
abbrev pub PartIsThere : Class → ℕ → Type 0
PartIsThere (Pointer t) n = t < n
PartIsThere (Array t m) n = t < n
PartIsThere (Function t) n = t < n
PartIsThere (Const t) n = t < n
PartIsThere c n = Unit {0}
