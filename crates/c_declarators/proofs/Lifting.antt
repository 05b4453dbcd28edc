-- Calls on what is declared, as steps of the work.
use Rattle.std.proofs.Common.{◌≡◌, List, [], map, Result, Ok, Err, refl, sym, ap, subst, ◌∙◌}
use Rattle.std.proofs.lemmas.List.{append-nil}
use Rattle.ck_base.specs.declared.refusal.Refusal.{Refusal}
use Rattle.ck_base.specs.declared.refusal.Refusal.TheVariants.{Code, NoMemory}
use Rattle.c_tree.specs.Scopes as meant
use Rattle.c_tree.specs.Scopes.{State, TagState, Doing, Fault}
use Rattle.c_tree.specs.Views.{text_of}
use Rattle.c_types.specs.declared.scopes.Scopes.{Scopes}
use Rattle.c_types.specs.Calls as types
use Rattle.c_types.specs.Stands.{Stands}
use Rattle.c_types.proofs.Extending.{extends_same}
use Rattle.c_expressions.specs.declared.nodes.Nodes.{Nodes}
use Rattle.c_expressions.specs.Nodes.{IsWhole}
use Rattle.c_elaborator.specs.declared.work.Work.{Work}
use Rattle.c_elaborator.specs.Work.{Shows, MembersAreSpelled}
use Rattle.c_elaborator.specs.Answers.{Quiet, quietly, Given, Done, Answers}
use Rattle.c_elaborator.proofs.Extending.{AreExtended, extends_goes_on, extended_whole, extended_keeps, extended_values}
use Rattle.c_elaborator.proofs.Extending.{extended_definition, extended_there}
use Rattle.c_elaborator.proofs.Growing.{begins_same}
use Rattle.c_declarators.specs.Calling.{IsDeclared}
use Rattle.c_declarators.proofs.Declaring.{Declares, declares_still, IsDeclaring}

extended : (n m : Nodes) → IsDeclared n m → AreExtended n m
extended n m d = record { program = extends_goes_on n.p m.p d.program; facts = d.facts; void = d.void; file = d.file }

-- where the program stays
pub scopes_declared : (n : Nodes) (sc : Scopes) → sc.file.now ≡ n.scopes.file.now →
    IsDeclared n (record n { scopes = sc })
scopes_declared n sc f = record { program = extends_same n.p n.p refl; facts = refl; void = refl; file = f }

pub quiet_declared : (w : Work) (m : Nodes) → IsWhole w.nodes → IsDeclared w.nodes m → Quiet w (record w { nodes = m })
quiet_declared w m n d = record {
  keeps = extended_keeps w m n (extended w.nodes m d);
  literals = ([], d.program.literals ∙ sym (append-nil w.nodes.p.literals));
  uses = begins_same w.uses.items;
  addressed = begins_same w.addressed.items;
  fillings = refl;
  definitions = refl;
  waiting = refl;
}

shows_at : (w : Work) (m : Nodes) (s : State) (cs : List meant.Scope) (gs : List TagState) → IsWhole w.nodes →
    IsDeclared w.nodes m → MembersAreSpelled w.file.now (record s { scopes = cs; tags = gs }) → Shows w s →
    Stands m.scopes m.p (record s { scopes = cs; tags = gs }) →
    Shows (record w { nodes = m }) (record s { scopes = cs; tags = gs })
shows_at w m s cs gs n d sp h st =
    let t : State = record s { scopes = cs; tags = gs } in
    let x : AreExtended w.nodes m = extended w.nodes m d in
    record {
      stands = st;
      texts = ap (map text_of) d.program.literals ∙ h.texts;
      used_objects = h.used_objects;
      used_functions = h.used_functions;
      addressed = h.addressed;
      fillings = h.fillings;
      definitions = λ j f g. h.definitions j f g ∙ sym (extended_definition w m s j n x h.closed);
      waiting = h.waiting;
      closed = record {
        file = d.file ∙ h.closed.file;
        members = sp;
        values = extended_values w m x h.closed.values;
        uses = h.closed.uses;
        addressed = h.closed.addressed;
        fillings = h.closed.fillings;
        definitions = λ j f g. extended_there w m w.fillings s t f x refl (h.closed.definitions j f g);
      };
    }

pub shows_declared : (w : Work) (m : Nodes) (s t : State) → IsWhole w.nodes → IsDeclared w.nodes m →
    Declares w.file.now s t → Shows w s → Stands m.scopes m.p t → Shows (record w { nodes = m }) t
shows_declared w m s t n d e h st =
    subst (λ (x : State). Shows (record w { nodes = m }) x) (sym e.is)
    (shows_at w m s t.scopes t.tags n d (e.members h.closed.members) h
    (subst (λ (x : State). Stands m.scopes m.p x) e.is st))

-- ---- answers

pub whole_declared : (w : Work) (m : Nodes) → IsWhole w.nodes → IsDeclared w.nodes m → IsWhole m
whole_declared w m n d = extended_whole w.nodes m n (extended w.nodes m d)

-- a step that only declares is done in a state
pub given_declared : {A : Type 0} (w : Work) (m : Nodes) (d : Doing A) (s : State) (I K : State → A → Type 0) →
    IsWhole w.nodes → IsDeclared w.nodes m → IsDeclaring w.file.now d → Shows w s →
    ((t : State) (a : A) → I t a → K t a) → types.Given m.scopes m.p (d s) I →
    Given quietly (record w { nodes = m }) s (d s) K
given_declared w m d s I K n e f h k x =
    let y : Declares w.file.now s x.state = f s x.state x.value x.is in
    record {
      value = x.value;
      state = x.state;
      is = x.is;
      stays = declares_still w.file.now s x.state y;
      shows = shows_declared w m s x.state n e y h x.stands;
      fits = k x.state x.value x.fits;
    }

-- it is done in each state
pub declared : {A : Type 0} (w : Work) (m : Nodes) (d : Doing A) (T : Type 0) (I K : State → A → Type 0) →
    IsWhole w.nodes → IsDeclared w.nodes m → IsDeclaring w.file.now d → T →
    ((s : State) → Shows w s → types.Given m.scopes m.p (d s) I) → ((s : State) (a : A) → I s a → K s a) →
    Done quietly w (record w { nodes = m }) d T K
declared w m d T I K n e f t g k = record {
  whole = whole_declared w m n e;
  grows = quiet_declared w m n e;
  there = t;
  gives = λ s h. given_declared w m d s I K n e f h k (g s h);
}

-- it is refused
pub refused : {A B X Y : Type 0} (w v : Work) (m : Nodes) (d : Doing A) (f : Doing B) (Fits : X → State → A → Type 0)
    (There : Work → Y → Type 0) (Is : Work → Y → State → B → Type 0) (r : Refusal) →
    ((s : State) (z : Fault) → Shows w s → d s ≡ Err z → f s ≡ Err z) →
    types.Answers w.nodes.scopes w.nodes.p m.scopes m.p d Fits (Err r) → Answers quietly w v f There Is (Err r)
refused w v m d f Fits There Is (Code code place) h a =
    λ s k. h s (record { code = code; place = place }) k (a.refused s k.stands)
refused w v m d f Fits There Is NoMemory h a = tt

-- a call's answer is the step's
pub lifted : {A X : Type 0} (w : Work) (m : Nodes) (d : Doing A) (Fits : X → State → A → Type 0)
    (There : Work → X → Type 0) (Is : Work → X → State → A → Type 0) (r : Result X Refusal) →
    IsWhole w.nodes → IsDeclared w.nodes m → IsDeclaring w.file.now d → ((x : X) → There (record w { nodes = m }) x) →
    ((x : X) (s : State) (a : A) → Fits x s a → Is (record w { nodes = m }) x s a) →
    types.Answers w.nodes.scopes w.nodes.p m.scopes m.p d Fits r →
    Answers quietly w (record w { nodes = m }) d There Is r
lifted w m d Fits There Is (Ok x) n e f t k a =
    declared w m d (There (record w { nodes = m }) x) (Fits x) (Is (record w { nodes = m }) x) n e f (t x)
    (λ s h. a s h.stands) (k x)
lifted w m d Fits There Is (Err r) n e f t k a =
    refused w (record w { nodes = m }) m d d Fits There Is r (λ s z h g. g) a
