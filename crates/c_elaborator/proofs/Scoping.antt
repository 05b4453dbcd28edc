-- Scopes that are opened and closed.
use Rattle.std.proofs.Common.{◌≡◌, ℕ, List, ◌∷◌, [], map, Result, Ok, Err, refl, sym, ap, subst, ◌∙◌, arith}
use Rattle.ck_base.specs.declared.refusal.Refusal.{Refusal}
use Rattle.c_tree.specs.Readings as meant
use Rattle.c_tree.specs.Scopes.{Scope, State, Doing, Fault, give, change, enter, leave, in_scope, ◌>>=◌, ◌>>◌}
use Rattle.c_tree.specs.declared.typed.Typed.{Typed}
use Rattle.c_types.specs.declared.scopes.Scopes.{Scopes}
use Rattle.c_types.specs.Stands.{Stands}
use Rattle.c_types.specs.Calls.{Does}
use Rattle.c_expressions.specs.Nodes.{IsWhole}
use Rattle.c_elaborator.specs.declared.work.Work.{Work}
use Rattle.c_elaborator.specs.Work.{Shows, IsClosed}
use Rattle.c_elaborator.specs.Answers.{Keeps, Done, Answers, freely, NothingThere, IsNothing, action_in}
use Rattle.c_elaborator.proofs.Sequencing.{free_law, then, then_by, also_then, failed, gave}
use Rattle.c_elaborator.specs.declared.items.Items.{Items}
use Rattle.c_tree.specs.Terms.{Action}
use Rattle.c_elaborator.specs.Items.{ActionThere, ActionsThere, IsOnlyAction, ItemsThere, IsItems, items_in}
use Rattle.c_elaborator.specs.Scoped.{Leaves}
use Rattle.c_elaborator.proofs.Going.{items_kept, actions_there}

abbrev pub with_scopes : Work → Scopes → Work
with_scopes w sc = record w { nodes = record w.nodes { scopes = sc } }

pub keeps_scopes : (w : Work) (sc : Scopes) → Keeps w (with_scopes w sc)
keeps_scopes w sc = record {
  more_types = omega arith;
  more_terms = omega arith;
  more_actions = omega arith;
  types = λ k h. refl;
  terms = λ k h. refl;
  values = λ v. v;
  actions = λ v k h. refl;
  file = refl;
  tree = refl;
}

pub whole_scopes : (w : Work) (sc : Scopes) → IsWhole w.nodes → IsWhole (with_scopes w sc).nodes
whole_scopes w sc h = record { facts = h.facts; typed = h.typed; void_there = h.void_there; void = h.void }

closed_scopes : (w : Work) (sc : Scopes) (s : State) (cs : List Scope) → sc.file.now ≡ w.nodes.scopes.file.now →
    IsClosed w s → IsClosed (with_scopes w sc) (record s { scopes = cs })
closed_scopes w sc s cs e h = record {
  file = e ∙ h.file;
  members = h.members;
  values = h.values;
  uses = h.uses;
  addressed = h.addressed;
  fillings = h.fillings;
  definitions = λ k d g. let t = h.definitions k d g in record { function = t.function; body = t.body; vars = t.vars };
}

-- the scopes alone have changed
pub shows_scopes : (w : Work) (sc : Scopes) (s : State) (cs : List Scope) → sc.file.now ≡ w.nodes.scopes.file.now →
    Stands sc w.nodes.p (record s { scopes = cs }) → Shows w s → Shows (with_scopes w sc) (record s { scopes = cs })
shows_scopes w sc s cs e t h = record {
  stands = t;
  texts = h.texts;
  used_objects = h.used_objects;
  used_functions = h.used_functions;
  addressed = h.addressed;
  fillings = h.fillings;
  definitions = h.definitions;
  waiting = h.waiting;
  closed = closed_scopes w sc s cs e h.closed;
}

abbrev state_of : {A : Type 0} → State → Result (A × State) Fault → State
state_of s (Ok x) = x.1
state_of s (Err e) = s

pub changes_scopes : (w : Work) (sc : Scopes) (f : List Scope → List Scope) → IsWhole w.nodes →
    sc.file.now ≡ w.nodes.scopes.file.now →
    ((p : Typed) → Does w.nodes.scopes p sc p (change (λ s. record s { scopes = f s.scopes })) (λ s a. Unit {0})) →
    Done freely w (with_scopes w sc) (change (λ s. record s { scopes = f s.scopes })) (Unit {0}) (λ s a. Unit {0})
changes_scopes w sc f h e d = record {
  whole = whole_scopes w sc h;
  grows = keeps_scopes w sc;
  there = tt;
  gives = λ s t. let g = d w.nodes.p s t.stands in
      record {
        value = tt;
        state = record s { scopes = f s.scopes };
        is = refl;
        stays = tt;
        shows = shows_scopes w sc s (f s.scopes) e
            (subst (λ (x : State). Stands sc w.nodes.p x) (sym (ap (state_of s) g.is)) g.stands) t;
        fits = tt;
      };
}

-- ---- a step in a scope of its own

pub in_scope_items : (u v w x : Work) (d : Doing meant.Items) (i : Items) →
    Done freely u v enter (Unit {0}) (λ s a. Unit {0}) → Done freely v w d (ItemsThere w i) (IsItems w i) → Leaves w x →
    Done freely u x (in_scope d) (ItemsThere x i) (IsItems x i)
in_scope_items u v w x d i e a l =
    let there : ItemsThere x i = actions_there w x i.actions.items l.grows a.there in
    then_by freely free_law u w x (enter >> d) (λ b. leave >> give b) (leave >> give (items_in x i)) (ItemsThere w i)
    (IsItems w i) ItemsThere IsItems (Ok i)
    (also_then freely free_law u v w enter d (Unit {0}) (λ s b. Unit {0}) ItemsThere IsItems (Ok i) e a)
    (λ s b t q. ap (λ (z : meant.Items). (leave >> give z) s)
    (q ∙ sym (items_kept w x i l.grows t.closed.values a.there)))
    (also_then freely free_law w x x leave (give (items_in x i)) (Unit {0}) (λ s b. Unit {0}) ItemsThere IsItems
    (Ok i) l (gave freely free_law x (items_in x i) (ItemsThere x i) l.whole there))

pub in_scope_failed : {A X Z : Type 0} (u v w : Work) (d : Doing A) (There : Work → X → Type 0)
    (Is : Work → X → State → A → Type 0) (ThereZ : Work → Z → Type 0) (IsZ : Work → Z → State → A → Type 0)
    (e : Refusal) →
    Done freely u v enter (Unit {0}) (λ s a. Unit {0}) → Answers freely v w d There Is (Err e) →
    Answers freely u w (in_scope d) ThereZ IsZ (Err e)
in_scope_failed u v w d There Is ThereZ IsZ e n a =
    failed freely u w w (enter >> d) (λ b. leave >> give b) There Is ThereZ IsZ e
    (also_then freely free_law u v w enter d (Unit {0}) (λ s b. Unit {0}) There Is (Err e) n a)

pub enter_failed : {A Z : Type 0} (u v w : Work) (d : Doing A) (ThereZ : Work → Z → Type 0)
    (IsZ : Work → Z → State → A → Type 0) (e : Refusal) → Answers freely u v enter NothingThere IsNothing (Err e) →
    Answers freely u w (in_scope d) ThereZ IsZ (Err e)
enter_failed u v w d ThereZ IsZ e a =
    failed freely u w w (enter >> d) (λ b. leave >> give b) ThereZ IsZ ThereZ IsZ e
    (failed freely u v w enter (λ b. d) NothingThere IsNothing ThereZ IsZ e a)

-- a statement in a scope of its own, where it is all that is given
pub alone_in_scope : (u v w x : Work) (d : Doing meant.Items) (i : Items) (k : ℕ) →
    Done freely u v enter (Unit {0}) (λ s a. Unit {0}) → Done freely v w d (ItemsThere w i) (IsItems w i) → Leaves w x →
    i.actions.items ≡ k ∷ [] →
    Done freely u x (in_scope d >>= λ j. give j.actions) (ActionThere x k) (IsOnlyAction x k)
alone_in_scope u v w x d i k e a l q =
    let b = in_scope_items u v w x d i e a l in
    let there : ActionThere x k = (subst (λ (z : List ℕ). ActionsThere x z) q b.there).0 in
    then freely free_law u x x (in_scope d) (λ j. give j.actions) (items_in x i)
    (ItemsThere x i) ActionThere IsOnlyAction (Ok k) b
    (subst (λ (fs : List Action). Done freely x x (give fs) (ActionThere x k) (IsOnlyAction x k))
    (sym (ap (map (action_in x)) q))
    (gave freely free_law x (action_in x k ∷ []) (ActionThere x k) l.whole there))
