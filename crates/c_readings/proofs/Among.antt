-- Steps whose values are not known from the work alone, one after another.
use Rattle.std.proofs.Common.{◌≡◌, Result, Ok, Err, refl, ap, ◌∙◌}
use Rattle.ck_base.specs.declared.refusal.Refusal.{Refusal}
use Rattle.ck_base.specs.declared.refusal.Refusal.TheVariants.{Code, NoMemory}
use Rattle.c_tree.specs.Scopes.{State, Doing, Fault, give, continued, ◌>>=◌, ◌>>◌}
use Rattle.c_elaborator.specs.declared.work.Work.{Work}
use Rattle.c_elaborator.specs.Work.{Shows}
use Rattle.c_elaborator.specs.Answers.{quietly, Still, Done, Answers}
use Rattle.c_elaborator.proofs.Sequencing.{quiet_then, still_then}

-- ---- steps alone

pub bind_ext : {A B : Type 0} (d : Doing A) (f g : A → Doing B) (s : State) → ((a : A) (t : State) → f a t ≡ g a t) →
    (d >>= f) s ≡ (d >>= g) s
bind_ext {A} {B} d f g s h = at (d s)
  where
    at : (o : Result (A × State) Fault) → continued o f ≡ continued o g
    at (Ok x) = h x.0 x.1
    at (Err e) = refl

pub bind_bind : {A B C : Type 0} (d : Doing A) (f : A → Doing B) (g : B → Doing C) (s : State) →
    ((d >>= f) >>= g) s ≡ (d >>= λ a. f a >>= g) s
bind_bind {A} {B} {C} d f g s = at (d s)
  where
    at : (o : Result (A × State) Fault) → continued (continued o f) g ≡ continued o (λ a. f a >>= g)
    at (Ok x) = refl
    at (Err e) = refl

pub also_also : {A B C : Type 0} (d : Doing A) (e : Doing B) (f : Doing C) (s : State) →
    ((d >> e) >> f) s ≡ (d >> (e >> f)) s
also_also {A} {B} {C} d e f s = at (d s)
  where
    at : (o : Result (A × State) Fault) → continued (continued o (λ a. e)) (λ b. f) ≡ continued o (λ a. e >> f)
    at (Ok x) = refl
    at (Err e) = refl

-- ---- and what they answer

-- what comes next is answered alike for each value that fits
pub then_shown : {A B Z : Type 0} (u v w : Work) (d : Doing A) (f : A → Doing B) (T : Type 0) (I : State → A → Type 0)
    (a : A) (There : Work → Z → Type 0) (Is : Work → Z → State → B → Type 0) (r : Result Z Refusal) →
    Done quietly u v d T I → Answers quietly v w (f a) There Is r →
    ((s : State) (x : A) → Shows v s → I s x → Answers quietly v w (f x) There Is r) →
    Answers quietly u w (d >>= f) There Is r
then_shown u v w d f T I a There Is (Ok z) p q h = record {
  whole = q.whole;
  grows = quiet_then u v w p.grows q.grows;
  there = q.there;
  gives = λ s t. let m = p.gives s t in let n = (h m.state m.value m.shows m.fits).gives m.state m.shows in
      record {
        value = n.value;
        state = n.state;
        is = ap (λ o. continued o f) m.is ∙ n.is;
        stays = still_then s m.state n.state m.stays n.stays;
        shows = n.shows;
        fits = n.fits;
      };
}
then_shown u v w d f T I a There Is (Err (Code code place)) p q h =
    λ s t. let m = p.gives s t in ap (λ o. continued o f) m.is ∙ h m.state m.value m.shows m.fits m.state m.shows
then_shown u v w d f T I a There Is (Err NoMemory) p q h = tt

-- what comes next is refused
pub then_refused : {A B X Z : Type 0} (u v w : Work) (d : Doing A) (f : A → Doing B) (T : Type 0)
    (I : State → A → Type 0) (TX : Work → X → Type 0) (IX : Work → X → State → B → Type 0) (There : Work → Z → Type 0)
    (Is : Work → Z → State → B → Type 0) (e : Refusal) →
    Done quietly u v d T I → ((s : State) (x : A) → Shows v s → I s x → Answers quietly v w (f x) TX IX (Err e)) →
    Answers quietly u w (d >>= f) There Is (Err e)
then_refused u v w d f T I TX IX There Is (Code code place) p h =
    λ s t. let m = p.gives s t in ap (λ o. continued o f) m.is ∙ h m.state m.value m.shows m.fits m.state m.shows
then_refused u v w d f T I TX IX There Is NoMemory p h = tt

-- the step in between is refused
pub then_failed : {A B C X Z : Type 0} (u v w : Work) (d : Doing A) (e : Doing B) (f : A → B → Doing C) (T : Type 0)
    (I : State → A → Type 0) (TX : Work → X → Type 0) (IX : Work → X → State → B → Type 0) (There : Work → Z → Type 0)
    (Is : Work → Z → State → C → Type 0) (r : Refusal) →
    Done quietly u v d T I → Answers quietly v w e TX IX (Err r) →
    Answers quietly u w (d >>= λ a. e >>= f a) There Is (Err r)
then_failed u v w d e f T I TX IX There Is (Code code place) p q =
    λ s t. let m = p.gives s t in
    ap (λ o. continued o (λ a. e >>= f a)) m.is ∙ ap (λ o. continued o (f m.value)) (q m.state m.shows)
then_failed u v w d e f T I TX IX There Is NoMemory p q = tt

-- two steps give one value
pub joined_done : {A B C : Type 0} (u v w : Work) (d : Doing A) (e : Doing B) (g : A → B → C) (T S U : Type 0)
    (I : State → A → Type 0) (K : State → B → Type 0) (L : State → C → Type 0) → Done quietly u v d T I →
    Done quietly v w e S K → U →
    ((s t : State) (a : A) (b : B) → Shows v s → I s a → Still s t → Shows w t → K t b → L t (g a b)) →
    Done quietly u w (d >>= λ a. e >>= λ b. give (g a b)) U L
joined_done u v w d e g T S U I K L p q there l = record {
  whole = q.whole;
  grows = quiet_then u v w p.grows q.grows;
  there = there;
  gives = λ s k. let m = p.gives s k in let n = q.gives m.state m.shows in
      record {
        value = g m.value n.value;
        state = n.state;
        is = ap (λ o. continued o (λ a. e >>= λ b. give (g a b))) m.is
            ∙ ap (λ o. continued o (λ b. give (g m.value b))) n.is;
        stays = still_then s m.state n.state m.stays n.stays;
        shows = n.shows;
        fits = l m.state n.state m.value n.value m.shows m.fits n.stays n.shows n.fits;
      };
}

-- a value that is made of one that was given
pub made_done : {A C : Type 0} (u v : Work) (d : Doing A) (g : A → C) (T U : Type 0) (I : State → A → Type 0)
    (L : State → C → Type 0) → Done quietly u v d T I → U → ((s : State) (a : A) → Shows v s → I s a → L s (g a)) →
    Done quietly u v (d >>= λ a. give (g a)) U L
made_done u v d g T U I L p there l = record {
  whole = p.whole;
  grows = p.grows;
  there = there;
  gives = λ s k. let m = p.gives s k in
      record {
        value = g m.value;
        state = m.state;
        is = ap (λ o. continued o (λ a. give (g a))) m.is;
        stays = m.stays;
        shows = m.shows;
        fits = l m.state m.value m.shows m.fits;
      };
}
