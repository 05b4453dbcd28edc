-- Parts that are read one behind another, each over what those before it gave.
use Rattle.std.specs.Prelude.{◌≡◌, ℕ, List}
use Rattle.c_tree.specs.Syntax.{Syns}
use Rattle.c_tree.specs.Scopes.{State, Doing, ◌>>=◌}
use Rattle.c_elaborator.specs.declared.work.Work.{Work}
use Rattle.c_elaborator.specs.Work.{Shows}
use Rattle.c_elaborator.specs.Answers.{quietly, Done}
use Rattle.c_elaborator.specs.Parts.{AreParts}

-- the parts that were read so far, of which the first step is made, and what is left: `on` goes on with it
pub record SoFar {A B : Type 0} (u v : Work) (ks : List ℕ) (d : Doing B) (on : Syns → A → Doing B) (T : Type 0)
    (I : A → Type 0) : Type 0 where
  pub rest : Syns
  pub parts : AreParts v ks rest
  pub before : Doing A
  pub done : Done quietly u v before T (λ s a. I a)
  pub is : (s : State) → Shows u s → d s ≡ (before >>= on rest) s
