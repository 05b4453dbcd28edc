-- There must be as many parts as a construct has.
use Rattle.std.specs.Prelude.{List, [], ◌∷◌}
use Rattle.ck_base.specs.declared.positions.Pos.{Pos}
use Rattle.c_tree.specs.Scopes.{Doing, refuse}
use Rattle.c_tree.specs.Readings.{Reading}

abbrev pub with_one : {A : Type 0} → (Reading → Doing A) → Pos → List Reading → Doing A
with_one d p (r ∷ []) = d r
with_one d p rs = refuse 120 p

abbrev pub with_two : {A : Type 0} → (Reading → Reading → Doing A) → Pos → List Reading → Doing A
with_two d p (r ∷ q ∷ []) = d r q
with_two d p rs = refuse 120 p

abbrev pub with_three : {A : Type 0} → (Reading → Reading → Reading → Doing A) → Pos → List Reading → Doing A
with_three d p (r ∷ q ∷ o ∷ []) = d r q o
with_three d p rs = refuse 120 p
