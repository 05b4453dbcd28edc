-- Steps one after another, and what the work goes on naming.
use Rattle.std.proofs.Common.{◌≡◌, ℕ, ◌≤◌, length, Bool, true, false, Result, Ok, Err, refl, sym, ap, ◌∙◌, arith}
use Rattle.ck_base.specs.declared.positions.Pos.{Pos}
use Rattle.ck_base.specs.declared.refusal.Refusal.{Refusal}
use Rattle.ck_base.specs.declared.refusal.Refusal.TheVariants.{Code, NoMemory}
use Rattle.c_tree.specs.Terms.{Term}
use Rattle.c_tree.specs.Conversions as meant
use Rattle.c_tree.specs.Scopes.{State, Doing, give, need, continued, ◌>>=◌, ◌>>◌}
use Rattle.c_expressions.specs.declared.nodes.Nodes.{Nodes}
use Rattle.c_expressions.specs.declared.nodes.Operand.{Operand}
use Rattle.c_expressions.specs.Answers as nodes
use Rattle.c_expressions.specs.Nodes as nodes_are
use Rattle.c_expressions.specs.Nodes.{IsWhole, type_count, term_count}
use Rattle.c_elaborator.specs.declared.work.Work.{Work}
use Rattle.c_elaborator.specs.Work.{Shows}
use Rattle.c_elaborator.specs.Answers.{Keeps, Quiet, Still, Way, quietly, freely, Done, Refuses, Answers, OperandThere}
use Rattle.c_elaborator.specs.Answers.{operand_in, IsOperand, TypeThere, TermThere, IsTerm, action_count}
use Rattle.c_elaborator.proofs.Growing.{begins_same, begins_then, quiet_nodes, shows_nodes}

-- ---- ways to grow

pub keeps_same : (w : Work) → Keeps w w
keeps_same w = record {
  more_types = omega arith;
  more_terms = omega arith;
  more_actions = omega arith;
  types = λ k h. refl;
  terms = λ k h. refl;
  values = λ v. v;
  actions = λ v k h. refl;
  file = refl;
  tree = refl;
}

pub keeps_then : (u v w : Work) → Keeps u v → Keeps v w → Keeps u w
keeps_then u v w a b =
    let tt1 : type_count u.nodes ≤ type_count v.nodes = a.more_types in
    let tt2 : type_count v.nodes ≤ type_count w.nodes = b.more_types in
    let xx1 : term_count u.nodes ≤ term_count v.nodes = a.more_terms in
    let xx2 : term_count v.nodes ≤ term_count w.nodes = b.more_terms in
    let aa1 : action_count u ≤ action_count v = a.more_actions in
    let aa2 : action_count v ≤ action_count w = b.more_actions in
    record {
      more_types = omega arith;
      more_terms = omega arith;
      more_actions = omega arith;
      types = λ k h. b.types k (omega arith) ∙ a.types k h;
      terms = λ k h. b.terms k (omega arith) ∙ a.terms k h;
      values = λ x. b.values (a.values x);
      actions = λ x k h. b.actions (a.values x) k (omega arith) ∙ a.actions x k h;
      file = b.file ∙ a.file;
      tree = b.tree ∙ a.tree;
    }

pub quiet_same : (w : Work) → Quiet w w
quiet_same w = record {
  keeps = keeps_same w;
  literals = begins_same w.nodes.p.literals;
  uses = begins_same w.uses.items;
  addressed = begins_same w.addressed.items;
  fillings = refl;
  definitions = refl;
  waiting = refl;
}

pub quiet_then : (u v w : Work) → Quiet u v → Quiet v w → Quiet u w
quiet_then u v w a b = record {
  keeps = keeps_then u v w a.keeps b.keeps;
  literals = begins_then u.nodes.p.literals v.nodes.p.literals w.nodes.p.literals a.literals b.literals;
  uses = begins_then u.uses.items v.uses.items w.uses.items a.uses b.uses;
  addressed = begins_then u.addressed.items v.addressed.items w.addressed.items a.addressed b.addressed;
  fillings = b.fillings ∙ a.fillings;
  definitions = b.definitions ∙ a.definitions;
  waiting = b.waiting ∙ a.waiting;
}

pub still_same : (s : State) → Still s s
still_same s = record {
  tags = omega arith;
  kinds = λ n k h. h;
  statics = refl;
  routines = refl;
  locals = refl;
  pending = refl;
}

pub still_then : (s t u : State) → Still s t → Still t u → Still s u
still_then s t u a b =
    let one : length s.tags ≤ length t.tags = a.tags in
    let two : length t.tags ≤ length u.tags = b.tags in
    record {
      tags = omega arith;
      kinds = λ n k h. b.kinds n k (a.kinds n k h);
      statics = b.statics ∙ a.statics;
      routines = b.routines ∙ a.routines;
      locals = b.locals
          ∙ a.locals;
      pending = b.pending ∙ a.pending;
    }

-- a way goes on from where it stopped
pub record IsLawful (y : Way) : Type 0 where
  pub keeps : (u v : Work) → y.grows u v → Keeps u v
  pub same : (w : Work) → y.grows w w
  pub later : (u v w : Work) → y.grows u v → y.grows v w → y.grows u w
  pub still : (s : State) → y.stays s s
  pub stays_later : (s t u : State) → y.stays s t → y.stays t u → y.stays s u

pub quiet_law : IsLawful quietly
quiet_law = record {
  keeps = λ u v q. q.keeps;
  same = quiet_same;
  later = quiet_then;
  still = still_same;
  stays_later = still_then;
}

pub free_law : IsLawful freely
free_law = record {
  keeps = λ u v k. k;
  same = keeps_same;
  later = keeps_then;
  still = λ s. tt;
  stays_later = λ s t u a b. tt;
}

-- ---- one answer

-- where two steps are the same, from the states that the work stands for
pub answers_at : {A X : Type 0} (y : Way) (u v : Work) (d e : Doing A) (There : Work → X → Type 0)
    (Is : Work → X → State → A → Type 0) (r : Result X Refusal) → ((s : State) → Shows u s → d s ≡ e s) →
    Answers y u v e There Is r → Answers y u v d There Is r
answers_at y u v d e There Is (Ok x) h a = record {
  whole = a.whole;
  grows = a.grows;
  there = a.there;
  gives = λ s t. let g = a.gives s t in
      record { value = g.value; state = g.state; is = h s t ∙ g.is; stays = g.stays; shows = g.shows; fits = g.fits };
}
answers_at y u v d e There Is (Err (Code code place)) h a = λ s t. h s t ∙ a s t
answers_at y u v d e There Is (Err NoMemory) h a = tt

-- an answer that nothing has to be built for
pub gave : {A : Type 0} (y : Way) → IsLawful y → (w : Work) (a : A) (T : Type 0) → IsWhole w.nodes → T →
    Done y w w (give a) T (λ s x. x ≡ a)
gave y law w a T h t = record {
  whole = h;
  grows = law.same w;
  there = t;
  gives = λ s k. record { value = a; state = s; is = refl; stays = law.still s; shows = k; fits = refl };
}

-- a refusal, whatever was built
pub refuses : {A X : Type 0} (y : Way) (u v : Work) (d : Doing A) (There : Work → X → Type 0)
    (Is : Work → X → State → A → Type 0) (code : ℕ) (place : Pos) → Refuses u d code place →
    Answers y u v d There Is (Err (Code code place))
refuses y u v d There Is code place h = h

-- a quiet answer is one of a declaration or a statement too
pub freed : {A X : Type 0} (u v : Work) (d : Doing A) (There : Work → X → Type 0) (Is : Work → X → State → A → Type 0)
    (r : Result X Refusal) → Answers quietly u v d There Is r → Answers freely u v d There Is r
freed u v d There Is (Ok x) a = record {
  whole = a.whole;
  grows = a.grows.keeps;
  there = a.there;
  gives = λ s t. let g = a.gives s t in
      record { value = g.value; state = g.state; is = g.is; stays = tt; shows = g.shows; fits = g.fits };
}
freed u v d There Is (Err (Code code place)) a = a
freed u v d There Is (Err NoMemory) a = tt

-- what is answered may be said otherwise
pub told : {A : Type 0} (y : Way) (u v : Work) (d : Doing A) (T S : Type 0) (I K : State → A → Type 0) → (T → S) →
    ((s : State) (a : A) → Shows v s → I s a → K s a) → Done y u v d T I → Done y u v d S K
told y u v d T S I K f g a = record {
  whole = a.whole;
  grows = a.grows;
  there = f a.there;
  gives = λ s t. let m = a.gives s t in
      record {
        value = m.value;
        state = m.state;
        is = m.is;
        stays = m.stays;
        shows = m.shows;
        fits = g m.state m.value m.shows m.fits;
      };
}

-- ---- one step and then the next

-- what comes next does not hang on which of the values it was
pub then_by : {A B Z : Type 0} (y : Way) → IsLawful y →
    (u v w : Work) (d : Doing A) (f : A → Doing B) (g : Doing B) (T : Type 0) (I : State → A → Type 0)
    (There : Work → Z → Type 0) (Is : Work → Z → State → B → Type 0) (r : Result Z Refusal) →
    Done y u v d T I → ((s : State) (a : A) → Shows v s → I s a → f a s ≡ g s) → Answers y v w g There Is r →
    Answers y u w (d >>= f) There Is r
then_by y law u v w d f g T I There Is (Ok z) a h b = record {
  whole = b.whole;
  grows = law.later u v w a.grows b.grows;
  there = b.there;
  gives = λ s t. let m = a.gives s t in let n = b.gives m.state m.shows in
      record {
        value = n.value;
        state = n.state;
        is = ap (λ o. continued o f) m.is ∙ h m.state m.value m.shows m.fits ∙ n.is;
        stays = law.stays_later s m.state n.state m.stays n.stays;
        shows = n.shows;
        fits = n.fits;
      };
}
then_by y law u v w d f g T I There Is (Err (Code code place)) a h b =
    λ s t. let m = a.gives s t in ap (λ o. continued o f) m.is ∙ h m.state m.value m.shows m.fits ∙ b m.state m.shows
then_by y law u v w d f g T I There Is (Err NoMemory) a h b = tt

-- the value is known from the work
pub then : {A B Z : Type 0} (y : Way) → IsLawful y →
    (u v w : Work) (d : Doing A) (f : A → Doing B) (a : A) (T : Type 0) (There : Work → Z → Type 0)
    (Is : Work → Z → State → B → Type 0) (r : Result Z Refusal) →
    Done y u v d T (λ s x. x ≡ a) → Answers y v w (f a) There Is r → Answers y u w (d >>= f) There Is r
then y law u v w d f a T There Is r h b =
    then_by y law u v w d f (f a) T (λ s x. x ≡ a) There Is r h (λ s x t e. ap (λ z. f z s) e) b

-- the value is not looked at
pub also_then : {A B Z : Type 0} (y : Way) → IsLawful y →
    (u v w : Work) (d : Doing A) (e : Doing B) (T : Type 0) (I : State → A → Type 0) (There : Work → Z → Type 0)
    (Is : Work → Z → State → B → Type 0) (r : Result Z Refusal) →
    Done y u v d T I → Answers y v w e There Is r → Answers y u w (d >> e) There Is r
also_then y law u v w d e T I There Is r h b = then_by y law u v w d (λ x. e) e T I There Is r h (λ s x t q. refl) b

-- a change of the state, for which the work is made to stand, and then a step
pub changed : {A X : Type 0} (y : Way) → IsLawful y →
    (u v w : Work) (g : State → State) (d e : Doing A) (There : Work → X → Type 0) (Is : Work → X → State → A → Type 0)
    (r : Result X Refusal) →
    IsWhole v.nodes → y.grows u v → ((s : State) → Shows u s → y.stays s (g s)) →
    ((s : State) → Shows u s → Shows v (g s)) → ((s : State) → Shows u s → d s ≡ e (g s)) →
    Answers y v w e There Is r → Answers y u w d There Is r
changed y law u v w g d e There Is (Ok x) whole grows stays shows h a = record {
  whole = a.whole;
  grows = law.later u v w grows a.grows;
  there = a.there;
  gives = λ s t. let m = a.gives (g s) (shows s t) in
      record {
        value = m.value;
        state = m.state;
        is = h s t ∙ m.is;
        stays = law.stays_later s (g s) m.state (stays s t) m.stays;
        shows = m.shows;
        fits = m.fits;
      };
}
changed y law u v w g d e There Is (Err (Code code place)) whole grows stays shows h a =
    λ s t. h s t ∙ a (g s) (shows s t)
changed y law u v w g d e There Is (Err NoMemory) whole grows stays shows h a = tt

-- nothing comes after a refusal
pub failed : {A B X Z : Type 0} (y : Way) (u v w : Work) (d : Doing A) (f : A → Doing B) (There : Work → X → Type 0)
    (Is : Work → X → State → A → Type 0) (ThereZ : Work → Z → Type 0) (IsZ : Work → Z → State → B → Type 0)
    (e : Refusal) →
    Answers y u v d There Is (Err e) → Answers y u w (d >>= f) ThereZ IsZ (Err e)
failed y u v w d f There Is ThereZ IsZ (Code code place) a = λ s t. ap (λ o. continued o f) (a s t)
failed y u v w d f There Is ThereZ IsZ NoMemory a = tt

-- ---- tests

pub need_true : {B : Type 0} (b : Bool) (code : ℕ) (p : Pos) (d : Doing B) (s : State) → b ≡ true →
    (need b code p >> d) s ≡ d s
need_true b code p d s e = ap (λ x. (need x code p >> d) s) e

pub need_false : {B : Type 0} (b : Bool) (code : ℕ) (p : Pos) (d : Doing B) (s : State) → b ≡ false →
    (need b code p >> d) s ≡ Err (record { code = code; place = p })
need_false b code p d s e = ap (λ x. (need x code p >> d) s) e

-- ---- rules on typed expressions, which leave the state

pub lift : {A X : Type 0} (w : Work) (n : Nodes) (d : Doing A) (Was : Nodes → X → A → Type 0)
    (There : Work → X → Type 0) (Is : Work → X → State → A → Type 0) (r : Result X Refusal) →
    ((x : X) (a : A) → Was n x a → There (record w { nodes = n }) x) →
    ((x : X) (a : A) (s : State) → Was n x a → Is (record w { nodes = n }) x s a) →
    nodes.Answers w.nodes n d Was r → Answers quietly w (record w { nodes = n }) d There Is r
lift w n d Was There Is (Ok x) f g a = record {
  whole = a.keeps.whole;
  grows = quiet_nodes w n a.keeps;
  there = f x a.value a.shows;
  gives = λ s t. record {
    value = a.value;
    state = s;
    is = a.is s;
    stays = still_same s;
    shows = shows_nodes w n s a.keeps t;
    fits = g x a.value s a.shows;
  };
}
lift w n d Was There Is (Err (Code code place)) f g a = λ s t. a s
lift w n d Was There Is (Err NoMemory) f g a = tt

pub lift_operand : (w : Work) (n : Nodes) (d : Doing meant.Operand) (r : Result Operand Refusal) →
    nodes.Answers w.nodes n d nodes_are.IsOperand r →
    Answers quietly w (record w { nodes = n }) d OperandThere IsOperand r
lift_operand w n d r a = lift w n d nodes_are.IsOperand OperandThere IsOperand r (λ x o h. h.there)
    (λ x o s h. sym h.is) a

pub lift_term : (w : Work) (n : Nodes) (d : Doing Term) (r : Result ℕ Refusal) →
    nodes.Answers w.nodes n d nodes_are.IsTerm r → Answers quietly w (record w { nodes = n }) d TermThere IsTerm r
lift_term w n d r a = lift w n d nodes_are.IsTerm TermThere IsTerm r (λ x o h. h.there) (λ x o s h. sym h.is) a

-- ---- what goes on being named

pub operand_kept : (u v : Work) (o : Operand) → Keeps u v → OperandThere u o → operand_in v o ≡ operand_in u o
operand_kept u v o k h = ap (λ (x : Term). (let y : meant.Operand = record { is = x; first = o.first } in y))
    (k.terms o.node h)

pub operand_there : (u v : Work) (o : Operand) → Keeps u v → OperandThere u o → OperandThere v o
operand_there u v o k h = let m : term_count u.nodes ≤ term_count v.nodes = k.more_terms in omega arith

pub type_there : (u v : Work) (t : ℕ) → Keeps u v → TypeThere u t → TypeThere v t
type_there u v t k h = let m : type_count u.nodes ≤ type_count v.nodes = k.more_types in omega arith
