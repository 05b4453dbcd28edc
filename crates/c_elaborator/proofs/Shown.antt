-- Steps over values that are not known from the work alone.
use Rattle.std.proofs.Common.{Result, Ok, Err, ap, ◌∙◌}
use Rattle.ck_base.specs.declared.refusal.Refusal.{Refusal}
use Rattle.ck_base.specs.declared.refusal.Refusal.TheVariants.{Code, NoMemory}
use Rattle.c_tree.specs.Scopes.{State, Doing, continued, ◌>>=◌}
use Rattle.c_elaborator.specs.declared.work.Work.{Work}
use Rattle.c_elaborator.specs.Answers.{Way, Done, Answers}
use Rattle.c_elaborator.proofs.Sequencing.{IsLawful}
use Rattle.c_elaborator.specs.Shown.{AnswersFor}

-- what comes next is answered for each value that the step may have given
pub then_for : {A B Z : Type 0} (y : Way) → IsLawful y →
    (u v w : Work) (d : Doing A) (f : A → Doing B) (T : Type 0) (I : State → A → Type 0) (There : Work → Z → Type 0)
    (Is : Work → Z → State → B → Type 0) (r : Result Z Refusal) →
    Done y u v d T I → AnswersFor y v w I f There Is r → Answers y u w (d >>= f) There Is r
then_for y law u v w d f T I There Is (Ok z) a b = record {
  whole = b.whole;
  grows = law.later u v w a.grows b.grows;
  there = b.there;
  gives = λ s t. let m = a.gives s t in let n = b.gives m.state m.shows m.value m.fits in
      record {
        value = n.value;
        state = n.state;
        is = ap (λ o. continued o f) m.is ∙ n.is;
        stays = law.stays_later s m.state n.state m.stays n.stays;
        shows = n.shows;
        fits = n.fits;
      };
}
then_for y law u v w d f T I There Is (Err (Code code place)) a b =
    λ s t. let m = a.gives s t in ap (λ o. continued o f) m.is ∙ b m.state m.shows m.value m.fits
then_for y law u v w d f T I There Is (Err NoMemory) a b = tt
