-- Parts that are read one behind another.
use Rattle.std.proofs.Common.{◌≡◌, ℕ, List, [], ◌∷◌, Ok, Err, sym, ap, subst, ◌∙◌}
use Rattle.ck_base.specs.declared.refusal.Refusal.{Refusal}
use Rattle.c_tree.specs.Syntax.{Syn, Syns, nil, more}
use Rattle.c_tree.specs.Scopes.{State, Doing, give, ◌>>=◌}
use Rattle.c_expressions.specs.Nodes.{IsWhole}
use Rattle.c_elaborator.specs.declared.work.Work.{Work}
use Rattle.c_elaborator.specs.Answers.{quietly, Done, Answers}
use Rattle.c_elaborator.specs.Parts.{IsPart, AreParts}
use Rattle.c_elaborator.proofs.Sequencing.{quiet_law, gave, told, failed, answers_at}
use Rattle.c_readings.specs.Folding.{SoFar}
use Rattle.c_readings.proofs.Kids.{cut, no_parts, parts_kept}
use Rattle.c_readings.proofs.Among.{bind_ext, bind_bind, then_shown, then_refused, made_done}

pub fold_begins : {A B : Type 0} (w : Work) (ks : List ℕ) (d : Doing B) (on : Syns → A → Doing B) (T : Type 0)
    (I : A → Type 0) (a : A) → IsWhole w.nodes → T → I a → (xs : Syns) → AreParts w ks xs →
    ((s : State) → d s ≡ on xs a s) → SoFar w w ks d on T I
fold_begins w ks d on T I a whole there fits xs p h = record {
  rest = xs;
  parts = p;
  before = give a;
  done = told quietly w w (give a) T T (λ s x. x ≡ a) (λ s x. I x) (λ z. z) (λ s x k e. subst I (sym e) fits)
      (gave quietly quiet_law w a T whole there);
  is = λ s k. h s;
}

-- the next part is cut off
next_is : {A B : Type 0} (d : Doing A) (on : Syns → A → Doing B) (one : Syn → A → Doing A) (rest : Syns) (x : Syn)
    (xs : Syns) (s : State) → ((y : Syn) (ys : Syns) (b : A) (t : State) → on (more y ys) b t ≡ (one y b >>= on ys) t) →
    rest ≡ more x xs →
    (d >>= on rest) s ≡ (d >>= λ b. one x b >>= on xs) s
next_is d on one rest x xs s h e =
    ap (λ (z : Syns). (d >>= on z) s) e ∙ bind_ext d (on (more x xs)) (λ b. one x b >>= on xs) s (λ b t. h x xs b t)

pub fold_more : {A B : Type 0} (u v w : Work) (k : ℕ) (ks : List ℕ) (d : Doing B) (on : Syns → A → Doing B)
    (one : Syn → A → Doing A) (T S : Type 0) (I K : A → Type 0) (a : A) →
    ((x : Syn) (xs : Syns) (b : A) (s : State) → on (more x xs) b s ≡ (one x b >>= on xs) s) → I a →
    SoFar u v (k ∷ ks) d on T I →
    ((x : Syn) (b : A) → IsPart v k x → I b → Done quietly v w (one x b) S (λ s z. K z)) → SoFar u w ks d on S K
fold_more u v w k ks d on one T S I K a step i f h =
    let c = cut v k ks f.rest f.parts in
    let g = h c.head a c.first i in
    record {
      rest = c.tail;
      parts = parts_kept v w ks c.tail g.grows.keeps c.others;
      before = f.before >>= one c.head;
      done = then_shown u v w f.before (one c.head) T (λ s x. I x) a (λ x y. S) (λ x y s z. K z) (Ok (tt {0})) f.done g
          (λ s b t j. h c.head b c.first j);
      is = λ s t. f.is s t ∙ next_is f.before on one f.rest c.head c.tail s step c.is
          ∙ sym (bind_bind f.before (one c.head) (on c.tail) s);
    }

pub fold_fails : {A B X Z : Type 0} (u v w : Work) (k : ℕ) (ks : List ℕ) (d : Doing B) (on : Syns → A → Doing B)
    (one : Syn → A → Doing A) (T : Type 0) (I : A → Type 0) (There : Work → X → Type 0)
    (Is : Work → X → State → A → Type 0) (ThereZ : Work → Z → Type 0) (IsZ : Work → Z → State → B → Type 0)
    (e : Refusal) →
    ((x : Syn) (xs : Syns) (b : A) (s : State) → on (more x xs) b s ≡ (one x b >>= on xs) s) →
    SoFar u v (k ∷ ks) d on T I →
    ((x : Syn) (b : A) → IsPart v k x → I b → Answers quietly v w (one x b) There Is (Err e)) →
    Answers quietly u w d ThereZ IsZ (Err e)
fold_fails u v w k ks d on one T I There Is ThereZ IsZ e step f h =
    let c = cut v k ks f.rest f.parts in
    answers_at quietly u w d (f.before >>= λ b. one c.head b >>= on c.tail) ThereZ IsZ (Err e)
    (λ s t. f.is s t ∙ next_is f.before on one f.rest c.head c.tail s step c.is)
    (then_refused u v w f.before (λ b. one c.head b >>= on c.tail) T (λ s x. I x) ThereZ IsZ ThereZ IsZ e f.done
    (λ s b t i. failed quietly v w w (one c.head b) (on c.tail) There Is ThereZ IsZ e (h c.head b c.first i)))

pub fold_ends : {A B X : Type 0} (u v : Work) (d : Doing B) (on : Syns → A → Doing B) (T : Type 0) (I : A → Type 0)
    (g : A → B) (There : Work → X → Type 0) (Is : Work → X → State → B → Type 0) (x : X) →
    ((b : A) (s : State) → on nil b s ≡ Ok (g b, s)) → SoFar u v [] d on T I → There v x →
    ((s : State) (b : A) → I b → Is v x s (g b)) → Answers quietly u v d There Is (Ok x)
fold_ends u v d on T I g There Is x end f there fits =
    answers_at quietly u v d (f.before >>= λ b. give (g b)) There Is (Ok x)
    (λ s t. f.is s t ∙ ap (λ (z : Syns). (f.before >>= on z) s) (no_parts v f.rest f.parts)
    ∙ bind_ext f.before (on nil) (λ b. give (g b)) s (λ b z. end b z))
    (made_done u v f.before g T (There v x) (λ s b. I b) (Is v x) f.done there (λ s b t i. fits s b i))
