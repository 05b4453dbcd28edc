-- What declarations and statements give, one after the other.
use Rattle.std.specs.Prelude.{◌≡◌, ℕ, List, [], ◌∷◌}
use Rattle.c_tree.specs.Syntax.{Syns}
use Rattle.c_tree.specs.Readings as meant
use Rattle.c_tree.specs.Readings.{Reading}
use Rattle.c_tree.specs.Scopes.{State, Doing, give, ◌>>=◌}
use Rattle.c_tree.specs.Declarations.{no_items, both}
use Rattle.c_tree.specs.Programs.{readings}
use Rattle.c_elaborator.specs.declared.work.Work.{Work}
use Rattle.c_elaborator.specs.Answers.{Done, freely}
use Rattle.c_elaborator.specs.Parts.{AreParts}
use Rattle.c_elaborator.specs.declared.items.Items.{Items}
use Rattle.c_elaborator.specs.Items.{ItemsThere, IsItems}

abbrev pub gather : (Reading → Doing meant.Items) → List Reading → Doing meant.Items
gather step [] = give no_items
gather step (r ∷ rs) = step r >>= λ a. gather step rs >>= λ b. give (both a b)

-- what was found so far: what is left, and the step that has given what was found
pub record SoFar (step : Reading → Doing meant.Items) (u v : Work) (xs : Syns) (ks : List ℕ) (found : Items) :
    Type 0 where
  pub rest : Syns
  pub parts : AreParts v ks rest
  pub before : Doing meant.Items
  pub done : Done freely u v before (ItemsThere v found) (IsItems v found)
  pub is : (s : State) → gather step (readings xs) s
      ≡ (before >>= λ a. gather step (readings rest) >>= λ b. give (both a b)) s
