-- Values of places.
use Rattle.std.specs.Prelude.{if◌then◌else◌}
use Rattle.c_tree.specs.Types.{bare}
use Rattle.c_tree.specs.Terms.{Load, Term, type_of, pos_of, step}
use Rattle.c_tree.specs.Conversions.{designates}

-- the value of what is no array and no function
abbrev pub loaded : Term → Term
loaded x = (if designates x then step Load x (bare (type_of x)) (pos_of x) else x)
