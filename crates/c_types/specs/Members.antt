-- What is known of what was declared.
use Rattle.std.specs.Prelude.{Bool, false, List, Option, Some, None}
use Rattle.std.specs.Borrow.{Bor}
use Rattle.c_tree.specs.Scopes.{Part, TagState, StaticState}
use Rattle.c_types.specs.declared.scopes.ObjectInfo.{ObjectInfo}

-- what a reference to a list points to
abbrev pub now : {A : Type 0} → Bor (List A) → List A
now x = x.now

-- the members of a struct or union, once it is complete
abbrev pub parts_of : Option TagState → Option (List Part)
parts_of None = None
parts_of (Some t) = t.members

-- whether an object is defined
abbrev pub is_defined : Option StaticState → Bool
is_defined None = false
is_defined (Some g) = g.defined

abbrev pub defined_at : Option ObjectInfo → Bool
defined_at None = false
defined_at (Some o) = o.defined

-- whether it has linkage
abbrev pub linked_at : Option ObjectInfo → Bool
linked_at None = false
linked_at (Some o) = o.linked
