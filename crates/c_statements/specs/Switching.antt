-- What stands in the braces of a switch, as far as it was read.
use Rattle.std.specs.Prelude.{◌≡◌, ℕ, List}
use Rattle.c_tree.specs.Syntax.{Syns}
use Rattle.c_tree.specs.Types.{Ty}
use Rattle.c_tree.specs.Readings as meant
use Rattle.c_tree.specs.Scopes.{State, Doing, ◌>>=◌}
use Rattle.c_tree.specs.Statements as statements
use Rattle.c_tree.specs.Statements.{switch_items, no_cases}
use Rattle.c_tree.specs.Programs.{readings}
use Rattle.c_elaborator.specs.declared.work.Work.{Work}
use Rattle.c_elaborator.specs.Answers.{Done, freely}
use Rattle.c_elaborator.specs.Parts.{AreParts}
use Rattle.c_plain_rules.specs.Cases.{Cases}
use Rattle.c_statements.specs.Statements.{CasesThere, IsCases}

-- what is left, and the step that has given what was found
pub record CasesSoFar (c : meant.Context) (of : Ty) (u v : Work) (xs : Syns) (ks : List ℕ) (found : Cases) :
    Type 0 where
  pub rest : Syns
  pub parts : AreParts v ks rest
  pub before : Doing statements.Cases
  pub done : Done freely u v before (CasesThere v found) (IsCases v found)
  pub is : (s : State) → switch_items c of xs (readings xs) no_cases s
      ≡ (before >>= λ a. switch_items c of rest (readings rest) a) s
