-- Steps of declarations and statements, one after another.
use Rattle.std.proofs.Common.{◌≡◌, ℕ, zero, suc, Some, ◌<◌, ◌≤◌, List, [], ◌∷◌, map, Result, Ok, Err, refl, sym, ap}
use Rattle.std.proofs.Common.{◌∙◌, arith}
use Rattle.std.specs.Prelude.{slice_get}
use Rattle.ck_base.specs.declared.refusal.Refusal.{Refusal}
use Rattle.ck_base.specs.declared.refusal.Refusal.TheVariants.{Code, NoMemory}
use Rattle.c_tree.specs.Terms.{Action}
use Rattle.c_tree.specs.Types.{Ty}
use Rattle.c_expressions.specs.Nodes.{type_count, term_count}
use Rattle.c_elaborator.specs.declared.items.Context.{Context}
use Rattle.c_tree.specs.Readings as meant
use Rattle.c_tree.specs.Scopes.{State, Doing, give, continued, ◌>>=◌}
use Rattle.c_tree.specs.Statements.{one_action}
use Rattle.c_elaborator.specs.declared.work.Work.{Work}
use Rattle.c_elaborator.specs.Work.{Shows, ValuesAreThere}
use Rattle.c_elaborator.specs.Answers.{Keeps, Way, freely, Done, Answers, action_in, action_count}
use Rattle.c_elaborator.proofs.Sequencing.{IsLawful}
use Rattle.c_elaborator.specs.declared.items.Items.{Items}
use Rattle.c_elaborator.specs.Items.{AddsAction, ActionThere, ActionsThere, IsAction, ItemsThere, OnlyThere, IsItems}
use Rattle.c_elaborator.specs.Items.{items_in}
use Rattle.c_elaborator.specs.Items.{ContextThere, context_in}

-- what comes next may use that the work before stood for a state
pub then_from : {A B Z : Type 0} (y : Way) → IsLawful y →
    (u v w : Work) (d : Doing A) (f : A → Doing B) (g : Doing B) (T : Type 0) (I : State → A → Type 0)
    (There : Work → Z → Type 0) (Is : Work → Z → State → B → Type 0) (r : Result Z Refusal) →
    Done y u v d T I → ((o s : State) (a : A) → Shows u o → Shows v s → I s a → f a s ≡ g s) →
    Answers y v w g There Is r → Answers y u w (d >>= f) There Is r
then_from y law u v w d f g T I There Is (Ok z) a h b = record {
  whole = b.whole;
  grows = law.later u v w a.grows b.grows;
  there = b.there;
  gives = λ s t. let m = a.gives s t in let n = b.gives m.state m.shows in
      record {
        value = n.value;
        state = n.state;
        is = ap (λ o. continued o f) m.is ∙ h s m.state m.value t m.shows m.fits ∙ n.is;
        stays = law.stays_later s m.state n.state m.stays n.stays;
        shows = n.shows;
        fits = n.fits;
      };
}
then_from y law u v w d f g T I There Is (Err (Code code place)) a h b =
    λ s t. let m = a.gives s t in
    ap (λ o. continued o f) m.is ∙ h s m.state m.value t m.shows m.fits ∙ b m.state m.shows
then_from y law u v w d f g T I There Is (Err NoMemory) a h b = tt

-- ---- statements go on being named

pub actions_kept : (u v : Work) (ks : List ℕ) → Keeps u v → ValuesAreThere u → ActionsThere u ks →
    map (action_in v) ks ≡ map (action_in u) ks
actions_kept u v [] k h t = refl
actions_kept u v (x ∷ xs) k h t =
    ap (λ (a : Action). a ∷ map (action_in v) xs) (k.actions h x t.0)
    ∙ ap (λ fs. action_in u x ∷ fs) (actions_kept u v xs k h t.1)

pub actions_there : (u v : Work) (ks : List ℕ) → Keeps u v → ActionsThere u ks → ActionsThere v ks
actions_there u v [] k t = tt
actions_there u v (x ∷ xs) k t = (
  (let m : action_count u ≤ action_count v = k.more_actions in let l : x < action_count u = t.0 in omega arith),
  actions_there u v xs k t.1,
)

pub items_kept : (u v : Work) (i : Items) → Keeps u v → ValuesAreThere u → ItemsThere u i → items_in v i ≡ items_in u i
items_kept u v i k h t = ap (λ fs. (let x : meant.Items = record { vars = i.vars.items; actions = fs } in x))
    (actions_kept u v i.actions.items k h t)

-- ---- a new statement

pub added : (u v : Work) (k : ℕ) (x : Action) → AddsAction u v k x →
    Done freely u v (give x) (ActionThere v k) (IsAction v k)
added u v k x a = record {
  whole = a.whole;
  grows = a.keeps;
  there = a.there;
  gives = λ s t. record { value = x; state = s; is = refl; stays = tt; shows = a.shows s t; fits = sym a.is };
}

pub added_alone : (u v : Work) (k : ℕ) (x : Action) (i : Items) → AddsAction u v k x → i.vars.items ≡ [] →
    i.actions.items ≡ k ∷ [] → Done freely u v (give (one_action x)) (OnlyThere v i) (IsItems v i)
added_alone u v k x i a e f = record {
  whole = a.whole;
  grows = a.keeps;
  there = rw f ((a.there, tt), refl);
  gives = λ s t. record {
    value = one_action x;
    state = s;
    is = refl;
    stays = tt;
    shows = a.shows s t;
    fits = rw (e, f) (ap one_action (sym a.is));
  };
}

-- ---- the expressions that a statement names

pub one_there : (n a : ℕ) → a < n → (j b : ℕ) → slice_get (a ∷ []) j ≡ Some b → b < n
one_there n a h zero b e = let g : a ≡ b = cc in rw (← g) h
one_there n a h (suc j) b e = absurd cc

pub none_there : (n j b : ℕ) → slice_get [] j ≡ Some b → b < n
none_there n j b e = absurd cc

-- ---- where a statement stands goes on being named

pub context_kept : (u v : Work) (c : Context) → Keeps u v → ContextThere u c → context_in v c ≡ context_in u c
context_kept u v c k h = ap (λ (t :
    Ty). (let x : meant.Context = record { gives = t; in_loop = c.in_loop; breakable = c.breakable } in x))
    (k.types c.gives h)

pub context_there : (u v : Work) (c : Context) → Keeps u v → ContextThere u c → ContextThere v c
context_there u v c k h = let m : type_count u.nodes ≤ type_count v.nodes = k.more_types in omega arith

pub term_there : (u v : Work) (k : ℕ) → Keeps u v → k < term_count u.nodes → k < term_count v.nodes
term_there u v k h l = let m : term_count u.nodes ≤ term_count v.nodes = h.more_terms in omega arith
