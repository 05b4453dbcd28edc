-- The arguments of a call, and how they come to their registers.
use Rattle.std.specs.Prelude.{◌≡◌, ℕ, ◌+◌, ◌<◌, ◌≤◌, List, [], length, Some, slice_get}
use Rattle.std.specs.List.{All}
use Rattle.select_words.specs.Emitted.{IsIn}
use Rattle.select_words.specs.Services.{IsAside}
use Rattle.rv_select.specs.declared.calls.Bring.{Bring}
use Rattle.rv_select.specs.declared.calls.Placed.{Placed}
use Rattle.rv_select.specs.declared.function.Function.{Function}
use Rattle.rv_select.specs.Choosing.{chosen, Chooses}

-- words for a temp are chosen, which stands in no register in which arguments are passed
pub record StandsAside (f : Function) (t : ℕ) : Type 0 where
  pub chooses : Chooses f t
  pub aside : (q : ℕ) → IsIn (chosen f) t q → IsAside q

-- words for all arguments are chosen, which aren't too many for a frame
pub record ChoosesArguments (f : Function) (args : List ℕ) : Type 0 where
  pub few : length args ≤ 4194304
  pub each : (k t : ℕ) → slice_get args k ≡ Some t → Chooses f t

-- words are chosen for each of those that come to a register, which isn't x0
abbrev pub AreChosen : Function → List Bring → Type 0
AreChosen f others = All (λ b. (0 < b.to) × Chooses f b.temp) others

-- each of so many comes to its register from elsewhere
pub record ArePlaced (args : List ℕ) (count : ℕ) (all : Placed) : Type 0 where
  pub none : all.moves.items ≡ []
  pub len : length all.others.items ≡ count
  pub each : (k t : ℕ) → k < count → slice_get args k ≡ Some t
      → slice_get all.others.items k ≡ Some (record { to = 10 + k; temp = t })
