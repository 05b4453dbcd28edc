-- The room of a function's locals, by their declarations.
use Rattle.std.proofs.Common.{◌≡◌, ℕ, ◌+◌, Bool, true, false, List, [], ◌∷◌, map, refl, ◌∙◌, arith}
use Rattle.std.specs.Prelude.{sum_by, if◌then◌else◌}
use Rattle.std.specs.List.{filter}
use Rattle.std.proofs.lemmas.List.Sums.{sum_by-cons}
use Rattle.c_tree.specs.declared.typed.CType.{CType}
use Rattle.c_tree.specs.declared.typed.VarDef.{VarDef}
use Rattle.obj_mem.specs.Legal.{room_of}
use Rattle.obj_mem.specs.Needs.{local_need, is_object}
use Rattle.program_needs.specs.Needs.{need, room}

-- what a local takes at most
abbrev pub var_room : List CType → VarDef → ℕ
var_room types v = (if v.simple then 0 else room (need (local_need types v)))

pub sum_locals : (types : List CType) (vs : List VarDef) →
    sum_by (var_room types) vs ≡ room_of (map (local_need types) (filter is_object vs))
sum_locals types [] = refl
sum_locals types (v ∷ vs) = sum_by-cons (var_room types) v vs ∙ go v.simple refl (sum_locals types vs)
  where
    go : (b : Bool) → v.simple ≡ b →
        sum_by (var_room types) vs ≡ room_of (map (local_need types) (filter is_object vs)) →
        var_room types v + sum_by (var_room types) vs ≡ room_of (map (local_need types) (filter is_object (v ∷ vs)))
    go true e r = rw e (omega arith)
    go false e r = rw e (omega arith)
