-- A step that is refused, behind steps that are done.
use Rattle.std.proofs.Common.{◌≡◌, Err}
use Rattle.ck_base.specs.declared.refusal.Refusal.{Refusal}
use Rattle.c_tree.specs.Scopes.{State, Doing, ◌>>=◌}
use Rattle.c_elaborator.specs.declared.work.Work.{Work}
use Rattle.c_elaborator.specs.Answers.{Done, Answers, quietly, freely}
use Rattle.c_elaborator.proofs.Sequencing.{free_law, freed, failed, then}

-- the first of them, an expression
pub quiet_failed : {A B X Z : Type 0} (u v : Work) (d : Doing A) (f : A → Doing B) (There : Work → X → Type 0)
    (Is : Work → X → State → A → Type 0) (ThereZ : Work → Z → Type 0) (IsZ : Work → Z → State → B → Type 0)
    (e : Refusal) →
    Answers quietly u v d There Is (Err e) → Answers freely u v (d >>= f) ThereZ IsZ (Err e)
quiet_failed u v d f There Is ThereZ IsZ e h =
    failed freely u v v d f There Is ThereZ IsZ e (freed u v d There Is (Err e) h)

-- the second
pub second_failed : {A B C X Z : Type 0} (u v w : Work) (d : Doing A) (g : A → Doing B) (f : A → B → Doing C) (a : A)
    (T : Type 0) (There : Work → X → Type 0) (Is : Work → X → State → B → Type 0) (ThereZ : Work → Z → Type 0)
    (IsZ : Work → Z → State → C → Type 0) (e : Refusal) →
    Done freely u v d T (λ s x. x ≡ a) → Answers freely v w (g a) There Is (Err e) →
    Answers freely u w (d >>= λ t. g t >>= f t) ThereZ IsZ (Err e)
second_failed u v w d g f a T There Is ThereZ IsZ e h k =
    then freely free_law u v w d (λ t. g t >>= f t) a T ThereZ IsZ (Err e) h
    (failed freely v w w (g a) (f a) There Is ThereZ IsZ e k)

-- the third
pub third_failed : {A B C D X Z : Type 0} (u v w x : Work) (d : Doing A) (g : A → Doing B) (h : A → B → Doing C)
    (f : A → B → C → Doing D) (a : A) (b : B) (T S : Type 0) (There : Work → X → Type 0)
    (Is : Work → X → State → C → Type 0) (ThereZ : Work → Z → Type 0) (IsZ : Work → Z → State → D → Type 0)
    (e : Refusal) →
    Done freely u v d T (λ s y. y ≡ a) → Done freely v w (g a) S (λ s y. y ≡ b) →
    Answers freely w x (h a b) There Is (Err e) →
    Answers freely u x (d >>= λ t. g t >>= λ y. h t y >>= f t y) ThereZ IsZ (Err e)
third_failed u v w x d g h f a b T S There Is ThereZ IsZ e p q k =
    then freely free_law u v x d (λ t. g t >>= λ y. h t y >>= f t y) a T ThereZ IsZ (Err e) p
    (second_failed v w x (g a) (h a) (f a) b S There Is ThereZ IsZ e q k)
