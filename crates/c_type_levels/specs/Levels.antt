-- Two types by their levels, over a list in which each number names a type.
use Rattle.std.specs.Prelude.{ℕ, Bool, true, false, ◌&&◌, ◌==◌, List, [], ◌∷◌, length}
use Rattle.c_tree.specs.Types.{Ty, same_kind, same_truth, composite}
use Rattle.c_type_levels.specs.declared.heads.Head.{Head}
use Rattle.c_type_levels.specs.declared.heads.Head.TheVariants.{Void, Int, Cap, Pointer, Array, Tagged, Function, Const}

abbrev pub pairs_of : List ℕ → List ℕ → List (ℕ × ℕ)
pairs_of (p ∷ ps) (q ∷ qs) = (p, q) ∷ pairs_of ps qs
pairs_of ps qs = []

-- the parts of two types, in pairs
abbrev pub parts_of : Head → List ℕ → Head → List ℕ → List (ℕ × ℕ)
parts_of (Pointer s) ps (Pointer t) qs = (s, t) ∷ []
parts_of (Array s m) ps (Array t n) qs = (s, t) ∷ []
parts_of (Function r) ps (Function s) qs = (r, s) ∷ pairs_of ps qs
parts_of (Const s) ps (Const t) qs = (s, t) ∷ []
parts_of h ps g qs = []

-- two levels agree but for their parts
abbrev pub levels_agree : (ℕ → ℕ → Bool) → Head → List ℕ → Head → List ℕ → Bool
levels_agree lengths Void ps Void qs = true
levels_agree lengths (Int j m) ps (Int k n) qs = same_kind j k && m == n
levels_agree lengths (Cap a) ps (Cap b) qs = same_truth a b
levels_agree lengths (Pointer s) ps (Pointer t) qs = true
levels_agree lengths (Array s m) ps (Array t n) qs = lengths m n
levels_agree lengths (Tagged m) ps (Tagged n) qs = m == n
levels_agree lengths (Function r) ps (Function s) qs = length ps == length qs
levels_agree lengths (Const s) ps (Const t) qs = true
levels_agree lengths h ps g qs = false

abbrev pub pair_composite : (ℕ → Ty) → ℕ × ℕ → Ty
pair_composite go q = composite (go q.0) (go q.1)
