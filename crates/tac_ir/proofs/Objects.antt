-- The variables that are objects.
use Rattle.std.proofs.Common.{◌≡◌, ◌+◌, Bool, true, false, cond, not, List, ◌∷◌, length, refl, arith}
use Rattle.std.specs.Prelude.{count_by}
use Rattle.std.proofs.lemmas.List.Recursion.{is_count_by}
use Rattle.c_tree.specs.declared.typed.Typed.{Typed}
use Rattle.c_tree.specs.declared.typed.VarDef.{VarDef}
use Rattle.cheri_c_sem.specs.Programs.{lengths_of}

one_more : (p : Typed) (v : VarDef) (vs : List VarDef) (b : Bool) → v.simple ≡ b →
    length (lengths_of p (v ∷ vs)) ≡ cond (not b) (1 + length (lengths_of p vs)) (length (lengths_of p vs))
one_more p v vs true e = rw e refl
one_more p v vs false e = rw e (omega arith)

-- they have as many lengths
pub objects_counted : (p : Typed) (vs : List VarDef) →
    length (lengths_of p vs) ≡ count_by (λ (v : VarDef). not v.simple) vs
objects_counted p vs = is_count_by (λ vs. length (lengths_of p vs)) (λ (v : VarDef). not v.simple) refl
    (λ v vs. one_more p v vs v.simple refl) vs
