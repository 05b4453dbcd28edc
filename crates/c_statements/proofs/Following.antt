-- Steps that are made of others, and steps for each of the values that fit.
use Rattle.std.proofs.Common.{◌≡◌, Result, Ok, Err, refl, ap, ◌∙◌}
use Rattle.ck_base.specs.declared.refusal.Refusal.{Refusal}
use Rattle.ck_base.specs.declared.refusal.Refusal.TheVariants.{Code, NoMemory}
use Rattle.c_tree.specs.Scopes.{State, Doing, Fault, ◌>>=◌}
use Rattle.c_elaborator.specs.declared.work.Work.{Work}
use Rattle.c_elaborator.specs.Work.{Shows}
use Rattle.c_elaborator.specs.Answers.{Way, quietly, freely, Done, Answers}
use Rattle.c_elaborator.proofs.Sequencing.{IsLawful, failed, freed}
use Rattle.c_elaborator.specs.Shown.{DoneFor, AnswersFor}

-- a step that goes on from what another one gives
pub goes_on : {A B Z : Type 0} (y : Way) → IsLawful y →
    (u v w : Work) (d : Doing A) (g h : Doing B) (T : Type 0) (I : State → A → Type 0) (There : Work → Z → Type 0)
    (Is : Work → Z → State → B → Type 0) (r : Result Z Refusal) →
    Done y u v d T I → ((o s : State) (a : A) → d o ≡ Ok (a, s) → Shows v s → I s a → g o ≡ h s) →
    Answers y v w h There Is r → Answers y u w g There Is r
goes_on y law u v w d g h T I There Is (Ok z) a f b = record {
  whole = b.whole;
  grows = law.later u v w a.grows b.grows;
  there = b.there;
  gives = λ s t. let m = a.gives s t in let n = b.gives m.state m.shows in
      record {
        value = n.value;
        state = n.state;
        is = f s m.state m.value m.is m.shows m.fits ∙ n.is;
        stays = law.stays_later s m.state n.state m.stays n.stays;
        shows = n.shows;
        fits = n.fits;
      };
}
goes_on y law u v w d g h T I There Is (Err (Code code place)) a f b =
    λ s t. let m = a.gives s t in f s m.state m.value m.is m.shows m.fits ∙ b m.state m.shows
goes_on y law u v w d g h T I There Is (Err NoMemory) a f b = tt

-- a step that fails as another one does
pub fails_with : {A B X Z : Type 0} (y : Way) (u v w : Work) (d : Doing A) (g : Doing B) (There : Work → X → Type 0)
    (Is : Work → X → State → A → Type 0) (ThereZ : Work → Z → Type 0) (IsZ : Work → Z → State → B → Type 0)
    (e : Refusal) →
    ((s : State) (f : Fault) → d s ≡ Err f → g s ≡ Err f) → Answers y u v d There Is (Err e) →
    Answers y u w g ThereZ IsZ (Err e)
fails_with y u v w d g There Is ThereZ IsZ (Code code place) h a =
    λ s t. h s (record { code = code; place = place }) (a s t)
fails_with y u v w d g There Is ThereZ IsZ NoMemory h a = tt

-- a step that is answered for each value of a kind is answered for those that a state shows to be of it
pub for_each : {E A Z : Type 0} (y : Way) (u v : Work) (Fits : State → E → Type 0) (P : E → Type 0) (d : E → Doing A)
    (There : Work → Z → Type 0) (Is : Work → Z → State → A → Type 0) (r : Result Z Refusal) (e : E) →
    P e → ((s : State) (x : E) → Fits s x → P x) → ((x : E) → P x → Answers y u v (d x) There Is r) →
    AnswersFor y u v Fits d There Is r
for_each y u v Fits P d There Is (Ok z) e p f h =
    let a = h e p in record {
      whole = a.whole;
      grows = a.grows;
      there = a.there;
      gives = λ s t x g. (h x (f s x g)).gives s t;
    }
for_each y u v Fits P d There Is (Err (Code code place)) e p f h = λ s t x g. h x (f s x g) s t
for_each y u v Fits P d There Is (Err NoMemory) e p f h = tt

-- nothing comes after a quiet step that is refused
pub fails_freed : {A B X Z : Type 0} (u v w : Work) (d : Doing A) (f : A → Doing B) (There : Work → X → Type 0)
    (Is : Work → X → State → A → Type 0) (ThereZ : Work → Z → Type 0) (IsZ : Work → Z → State → B → Type 0)
    (e : Refusal) →
    Answers quietly u v d There Is (Err e) → Answers freely u w (d >>= f) ThereZ IsZ (Err e)
fails_freed u v w d f There Is ThereZ IsZ e a =
    failed freely u v w d f There Is ThereZ IsZ e (freed u v d There Is (Err e) a)
