-- What counts of all that was said of each object and function: how the tables are filled.
use Rattle.std.specs.Prelude.{◌≡◌, ℕ, ◌<◌, ◌==◌, if◌then◌else◌, List, ◌∷◌, length, fold, Option, Some, None, slice_get}
use Rattle.c_elaborator.specs.declared.work.Use.{Use}
use Rattle.c_elaborator.specs.declared.work.Filling.{Filling}
use Rattle.c_elaborator.specs.declared.work.Work.{Work}
use Rattle.c_plain_rules.specs.Uses.{Uses}
use Rattle.c_plain_rules.specs.Tables.{HasUses, item_at}

abbrev pub IsBlank : {A : Type 0} → List (Option A) → Type 0
IsBlank xs = (k : ℕ) (o : Option _) → slice_get xs k ≡ Some o → o ≡ None

-- one more use, before the others
abbrev pub AddsUse : Uses → Use → Uses → Type 0
AddsUse old u new = (us : List Use) → HasUses us old → HasUses (u ∷ us) new

-- the last initial value that was given to the object with a number
abbrev pub last_filling : ℕ → List Filling → Option Filling
last_filling k fs = fold (λ o (f : Filling). if f.object == k then Some f else o) None fs

-- the last initial value of each object among the first ones
pub record LastFillings (fs first : List Filling) (t : List (Option ℕ)) : Type 0 where
  pub last : (k : ℕ) (o : Option ℕ) → slice_get t k ≡ Some o → item_at fs o ≡ last_filling k first
  pub there : (k i : ℕ) → slice_get t k ≡ Some (Some i) → i < length fs

-- that of each object of a work
pub record HasFillings (w : Work) (t : List (Option ℕ)) : Type 0 where
  pub are : LastFillings w.fillings.items w.fillings.items t
  pub count : length t ≡ length w.nodes.p.globals
