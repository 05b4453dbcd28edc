-- Changes of a list whose top is first.
use Rattle.std.specs.Prelude.{◌≡◌, List, [], ◌∷◌, Option, Some, None}

-- what a pop does
abbrev pub Pops : {A : Type 0} → List A → List A → Option A → Type 0
Pops old new None = (old ≡ []) × (new ≡ [])
Pops old new (Some x) = old ≡ x ∷ new

-- another top, where there is one
abbrev pub with_top : {A : Type 0} → A → List A → List A
with_top x [] = []
with_top x (y ∷ ys) = x ∷ ys
