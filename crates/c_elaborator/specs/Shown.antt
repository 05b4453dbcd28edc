-- Steps over values that are not known from the work alone, but in each state for which it stands.
use Rattle.std.specs.Prelude.{◌≡◌, Result, Ok, Err}
use Rattle.ck_base.specs.declared.refusal.Refusal.{Refusal}
use Rattle.ck_base.specs.declared.refusal.Refusal.TheVariants.{Code, NoMemory}
use Rattle.c_tree.specs.Scopes.{State, Doing}
use Rattle.c_expressions.specs.Nodes.{IsWhole}
use Rattle.c_elaborator.specs.declared.work.Work.{Work}
use Rattle.c_elaborator.specs.Work.{Shows}
use Rattle.c_elaborator.specs.Answers.{Way, Given}

-- from the old work to the new one the step is done for each value that fits
pub record DoneFor {E A : Type 0} (y : Way) (old new : Work) (Fits : State → E → Type 0) (d : E → Doing A)
    (There : Type 0) (Is : State → A → Type 0) : Type 0 where
  pub whole : IsWhole new.nodes
  pub grows : y.grows old new
  pub there : There
  pub gives : (s : State) → Shows old s → (e : E) → Fits s e → Given y new s (d e s) Is

abbrev pub AnswersFor : {E A X : Type 0} → Way → (old new : Work) → (Fits : State → E → Type 0) → (E → Doing A) →
    (There : Work → X → Type 0) → (Is : Work → X → State → A → Type 0) → Result X Refusal → Type 0
AnswersFor y old new Fits d There Is (Ok x) = DoneFor y old new Fits d (There new x) (Is new x)
AnswersFor y old new Fits d There Is (Err (Code code place)) =
    (s : State) → Shows old s → (e : _) → Fits s e → d e s ≡ Err (record { code = code; place = place })
AnswersFor y old new Fits d There Is (Err NoMemory) = Unit {0}
