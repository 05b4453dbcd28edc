-- How a step of typing goes on where names in scope stand for variables that are open.
use Rattle.std.proofs.Common.{◌≡◌, ℕ, Bool, true, false, List, [], ◌∷◌, ◌++◌, length, Option, Some, None}
use Rattle.std.proofs.Common.{Result, Ok, Err, refl, sym, ap, subst, ◌∙◌, inl, inr, ◌⊎◌, ⊎_elim}
use Rattle.std.specs.Prelude.{slice_get, if◌then◌else◌}
use Rattle.std.proofs.lemmas.Option.{none-some}
use Rattle.ck_base.specs.declared.positions.Pos.{Pos}
use Rattle.c_tree.specs.Terms.{Shape, Term, Terms, term, no_terms, with_term, Form, Action, Actions, action, actions}
use Rattle.c_tree.specs.Terms.{no_actions, with_action}
use Rattle.c_tree.specs.Terms as tree
use Rattle.c_tree.specs.Scopes.{Entity, Local, Static, Routine, Alias, Enumerator, Scope, RoutineState, Body, State}
use Rattle.c_tree.specs.Scopes.{Doing, give, refuse, need, look, change, some_or, continued, ◌>>=◌, ◌>>◌, outer_scopes}
use Rattle.c_tree.specs.Scopes.{Tagging, in_innermost, bind_name, bind_tag, changed_at, enter, leave, in_scope}
use Rattle.c_tree.specs.Scopes as scopes
use Rattle.c_tree.specs.WellTyped.{form_vars}
use Rattle.typing_laws.proofs.Facts.{AllScopes}
use Rattle.typing_laws.proofs.Growing.{scopes_more}
use Rattle.typing_laws.proofs.Steps.{ok_is, refused, changed_from}
use Rattle.typing_laws.proofs.Tags.{there_from}
use Rattle.typing_laws.specs.Scoping.{IsAmong, ShapeScoped, TermScoped, TermsScoped, in_values, FormScoped}
use Rattle.typing_laws.specs.Scoping.{ActionScoped}
use Rattle.typing_laws.specs.Scoping.{ActionsScoped}

-- ---- more variables in scope

abbrev pub More : List ℕ → List ℕ → Type 0
More js ks = (k : ℕ) → IsAmong js k → IsAmong ks k

pub among_left : (js ks : List ℕ) (k : ℕ) → IsAmong js k → IsAmong (js ++ ks) k
among_left [] ks k h = absurd h
among_left (j ∷ js) ks k h = ⊎_elim (λ e. inl e) (λ r. inr (among_left js ks k r)) h

pub among_right : (js ks : List ℕ) (k : ℕ) → IsAmong ks k → IsAmong (js ++ ks) k
among_right [] ks k h = h
among_right (j ∷ js) ks k h = inr (among_right js ks k h)

pub among_either : (js ks : List ℕ) (k : ℕ) → IsAmong (js ++ ks) k → IsAmong js k ⊎ IsAmong ks k
among_either [] ks k h = inr h
among_either (j ∷ js) ks k h =
    ⊎_elim (λ e. inl (inl e)) (λ r. ⊎_elim (λ a. inl (inr a)) (λ b. inr b) (among_either js ks k r)) h

pub more_under : (is js ks : List ℕ) → More js ks → More (is ++ js) (is ++ ks)
more_under is js ks m k h =
    ⊎_elim (λ a. among_left is ks k a) (λ b. among_right is ks k (m k b)) (among_either is js k h)

shape_more : (js ks : List ℕ) → More js ks → (x : Shape) → ShapeScoped js x → ShapeScoped ks x
shape_more js ks m (tree.Var k) h = m k h
shape_more js ks m x h = tt

mutual
  pub term_more : (js ks : List ℕ) → More js ks → (x : Term) → TermScoped js x → TermScoped ks x
  term_more js ks m (term x xs t p) h = (shape_more js ks m x h.0, terms_more js ks m xs h.1)

  pub terms_more : (js ks : List ℕ) → More js ks → (xs : Terms) → TermsScoped js xs → TermsScoped ks xs
  terms_more js ks m no_terms h = tt
  terms_more js ks m (with_term x xs) h = (term_more js ks m x h.0, terms_more js ks m xs h.1)

form_more : (js ks : List ℕ) → More js ks → (x : Form) → FormScoped js x → FormScoped ks x
form_more js ks m (tree.Init k o) h = m k h
form_more js ks m x h = tt

values_more : (js ks : List ℕ) → More js ks → (x : Form) → More (in_values x js) (in_values x ks)
values_more js ks m (tree.For vars n a b) = more_under vars js ks m
values_more js ks m x = m

mutual
  pub action_more : (js ks : List ℕ) → More js ks → (x : Action) → ActionScoped js x → ActionScoped ks x
  action_more js ks m (action x xs ys p) h = (
    form_more js ks m x h.0,
    terms_more (in_values x js) (in_values x ks) (values_more js ks m x) xs h.1,
    actions_more (form_vars x ++ js) (form_vars x ++ ks) (more_under (form_vars x) js ks m) ys h.2,
  )

  pub actions_more : (js ks : List ℕ) → More js ks → (xs : Actions) → ActionsScoped js xs → ActionsScoped ks xs
  actions_more js ks m no_actions h = tt
  actions_more js ks m (with_action x xs) h = (action_more js ks m x h.0, actions_more js ks m xs h.1)

pub actions_append : (js : List ℕ) (xs ys : List Action) → ActionsScoped js (actions xs) →
    ActionsScoped js (actions ys) → ActionsScoped js (actions (xs ++ ys))
actions_append js [] ys h k = k
actions_append js (x ∷ xs) ys h k = (h.0, actions_append js xs ys h.1 k)

-- ---- states

-- a name that denotes a variable denotes one in scope
abbrev pub EntityOpen : List ℕ → Entity → Type 0
EntityOpen js (Local k t) = IsAmong js k
EntityOpen js e = Unit {0}

pub entity_more : (js ks : List ℕ) → More js ks → (e : Entity) → EntityOpen js e → EntityOpen ks e
entity_more js ks m (Local k t) h = m k h
entity_more js ks m e h = tt

abbrev pub NamesOpen : List ℕ → List Scope → Type 0
NamesOpen js cs = AllScopes (EntityOpen js) cs

pub names_more : (js ks : List ℕ) → More js ks → (cs : List Scope) → NamesOpen js cs → NamesOpen ks cs
names_more js ks m cs h = scopes_more (EntityOpen js) (EntityOpen ks) (entity_more js ks m) cs h

-- the bodies so far name what is in scope
abbrev pub BodiesScoped : List RoutineState → Type 0
BodiesScoped fs = (k : ℕ) (f : RoutineState) (b : Body) → slice_get fs k ≡ Some f → f.body ≡ Some b →
    ActionScoped b.params b.action

pub record Open (js : List ℕ) (s : State) : Type 0 where
  pub names : NamesOpen js s.scopes
  pub bodies : BodiesScoped s.routines

pub open_more : (js ks : List ℕ) → More js ks → (s : State) → Open js s → Open ks s
open_more js ks m s o = record { names = names_more js ks m s.scopes o.names; bodies = o.bodies }

-- ---- steps

-- a state that stands where another one does: its names denote variables among these, and the outer scopes are its own
pub record At (js : List ℕ) (b q : State) : Type 0 where
  pub opened : Open js q
  pub outer : outer_scopes q.scopes ≡ outer_scopes b.scopes
  pub deep : length q.scopes ≡ length b.scopes

pub at_more : {js ks : List ℕ} {b q : State} → More js ks → At js b q → At ks b q
at_more {js} {ks} {b} {q} m h = record { opened = open_more js ks m q h.opened; outer = h.outer; deep = h.deep }

-- another state with the same scopes
pub moved : {js : List ℕ} {b q r : State} → At js b q → r.scopes ≡ q.scopes →
    (BodiesScoped q.routines → BodiesScoped r.routines) → At js b r
moved {js} {b} {q} {r} h e f = record {
  opened = record { names = subst (NamesOpen js) (sym e) h.opened.names; bodies = f h.opened.bodies };
  outer = ap outer_scopes e ∙ h.outer;
  deep = ap length e ∙ h.deep;
}

-- what is done from there on gives this, where it succeeds
pub record Runs {A : Type 0} (add : A → List ℕ) (P : A → Type 0) (b : State) (r : Result (A × State) scopes.Fault) :
    Type 0 where
  pub state : (x : A × State) → r ≡ Ok x → At (add x.0) b x.1
  pub post : (x : A × State) → r ≡ Ok x → P x.0

-- a step, where these variables are in scope: those that its result adds are in scope behind it
pub record Goes {A : Type 0} (js : List ℕ) (add : A → List ℕ) (P : A → Type 0) (d : Doing A) : Type 0 where
  pub run : (b q : State) → At js b q → Runs add P b (d q)

-- one that adds none
abbrev pub Keeps : {A : Type 0} → List ℕ → (A → Type 0) → Doing A → Type 0
Keeps js P d = Goes js (λ _. js) P d

abbrev pub Any : {A : Type 0} → A → Type 0
Any a = Unit {0}

pub going : {A : Type 0} {js : List ℕ} {add : A → List ℕ} {P : A → Type 0} {d : Doing A} →
    ((b q : State) → At js b q → Runs add P b (d q)) → Goes js add P d
going h = record { run = h }

pub on : {A : Type 0} {js : List ℕ} {add : A → List ℕ} {P : A → Type 0} {d : Doing A} {b q : State} →
    Goes js add P d → At js b q → Runs add P b (d q)
on {b = b} {q = q} h at = h.run b q at

pub run_give : {A : Type 0} {add : A → List ℕ} {P : A → Type 0} {b q : State} {a : A} → At (add a) b q → P a →
    Runs add P b (Ok (a, q))
run_give {A} {add} {P} {b} {q} {a} at h = record {
  state = λ x e. subst (λ (y : A × State). At (add y.0) b y.1) (ok_is (a, q) x e) at;
  post = λ x e. subst (λ (y : A × State). P y.0) (ok_is (a, q) x e) h;
}

pub run_kept : {js : List ℕ} {b q : State} → At js b q → Runs {A = Unit} (λ _. js) Any b (Ok (tt, q))
run_kept at = run_give at tt

pub run_refuse : {A : Type 0} {add : A → List ℕ} {P : A → Type 0} {b : State} {f : scopes.Fault} →
    Runs {A = A} add P b (Err f)
run_refuse = record { state = λ x e. refused _ x e; post = λ x e. refused _ x e }

pub run_need : {js : List ℕ} {b q : State} (c : Bool) (code : ℕ) (p : Pos) → At js b q →
    Runs (λ _. js) Any b (need c code p q)
run_need true code p at = run_kept at
run_need false code p at = run_refuse

pub run_then : {A B : Type 0} {add : A → List ℕ} {P : A → Type 0} {new : B → List ℕ} {Q : B → Type 0} {b : State}
    {r : Result (A × State) scopes.Fault} {f : A → Doing B} → Runs add P b r →
    ((a : A) (q : State) → At (add a) b q → P a → Runs new Q b (f a q)) → Runs new Q b (continued r f)
run_then {r = Ok y} h g = g y.0 y.1 (h.state y refl) (h.post y refl)
run_then {r = Err k} h g = run_refuse

pub run_next : {A B : Type 0} {js : List ℕ} {P : A → Type 0} {new : B → List ℕ} {Q : B → Type 0} {b : State}
    {r : Result (A × State) scopes.Fault} {f : Doing B} → Runs (λ _. js) P b r →
    ((q : State) → At js b q → Runs new Q b (f q)) → Runs new Q b (continued r (λ _. f))
run_next h g = run_then h λ a q at p. g q at

-- ---- steps put together

pub give_goes : {A : Type 0} {js : List ℕ} {add : A → List ℕ} {P : A → Type 0} {a : A} → More js (add a) → P a →
    Goes js add P (give a)
give_goes m h = going λ b q at. run_give (at_more m at) h

pub give_keeps : {A : Type 0} {js : List ℕ} {P : A → Type 0} {a : A} → P a → Keeps js P (give a)
give_keeps h = going λ b q at. run_give at h

pub refuse_goes : {A : Type 0} {js : List ℕ} {add : A → List ℕ} {P : A → Type 0} {code : ℕ} {p : Pos} →
    Goes js add P (refuse code p)
refuse_goes = going λ b q at. run_refuse

-- a step and the next
pub goes_then : {A B : Type 0} {js : List ℕ} {add : A → List ℕ} {P : A → Type 0} {new : B → List ℕ} {Q : B → Type 0}
    {d : Doing A} {f : A → Doing B} → Goes js add P d → ((a : A) → P a → Goes (add a) new Q (f a)) →
    Goes js new Q (d >>= f)
goes_then h g = going λ b q at. run_then (h.run b q at) λ a r at p. (g a p).run b r at

pub goes_next : {A B : Type 0} {js : List ℕ} {P : A → Type 0} {new : B → List ℕ} {Q : B → Type 0}
    {d : Doing A} {f : Doing B} → Keeps js P d → Goes js new Q f → Goes js new Q (d >> f)
goes_next h g = going λ b q at. run_next (h.run b q at) λ r at. g.run b r at

pub need_keeps : {js : List ℕ} (c : Bool) (code : ℕ) (p : Pos) → Keeps js Any (need c code p)
need_keeps c code p = going λ b q at. run_need c code p at

pub some_keeps : {A : Type 0} {js : List ℕ} (o : Option A) (code : ℕ) (p : Pos) → Keeps js Any (some_or o code p)
some_keeps (Some a) code p = give_keeps tt
some_keeps None code p = refuse_goes

pub if_goes : {A : Type 0} {js : List ℕ} {add : A → List ℕ} {P : A → Type 0} (c : Bool) (d e : Doing A) →
    Goes js add P d → Goes js add P e → Goes js add P (if c then d else e)
if_goes true d e h g = h
if_goes false d e h g = g

-- ---- bodies

pub bodies_changed : (f : RoutineState → RoutineState) → ((r : RoutineState) → (f r).body ≡ r.body) →
    (fs : List RoutineState) (k : ℕ) → BodiesScoped fs → BodiesScoped (changed_at f fs k)
bodies_changed f same fs k h j y b e q =
    let x = changed_from f fs k j y e in
    h j x.0 b x.1 (⊎_elim (λ i. ap (λ (r : RoutineState). r.body) (sym i) ∙ q)
    (λ i. sym (same x.0) ∙ ap (λ (r : RoutineState). r.body) (sym i.1) ∙ q) x.2)

pub bodies_added : (fs : List RoutineState) (r : RoutineState) → r.body ≡ None → BodiesScoped fs →
    BodiesScoped (fs ++ r ∷ [])
bodies_added fs r none h j y b e q =
    ⊎_elim (λ i. h j y b i q)
    (λ i. absurd (none-some b (sym none ∙ ap (λ (r : RoutineState). r.body) (sym i.1) ∙ q)))
    (there_from fs r j y e)

-- ---- scopes

names_bound : (js : List ℕ) (name : List ℕ) (e : Entity) → EntityOpen js e → (cs : List Scope) → NamesOpen js cs →
    NamesOpen js (in_innermost (λ c. record c { names = record { name = name; is = e } ∷ c.names }) cs)
names_bound js name e k [] h = tt
names_bound js name e k (c ∷ cs) h = ((k, h.0), h.1)

names_tagged : (js : List ℕ) (name : List ℕ) (t : Tagging) (cs : List Scope) → NamesOpen js cs →
    NamesOpen js (in_innermost (λ c. record c { tags = record { name = name; is = t } ∷ c.tags }) cs)
names_tagged js name t [] h = tt
names_tagged js name t (c ∷ cs) h = h

inner_outer : (f : Scope → Scope) (cs : List Scope) → outer_scopes (in_innermost f cs) ≡ outer_scopes cs
inner_outer f [] = refl
inner_outer f (c ∷ cs) = refl

inner_deep : (f : Scope → Scope) (cs : List Scope) → length (in_innermost f cs) ≡ length cs
inner_deep f [] = refl
inner_deep f (c ∷ cs) = refl

-- a name is bound
pub bound : {js : List ℕ} {b q r : State} (name : List ℕ) (e : Entity) → At js b q → EntityOpen js e →
    r.scopes ≡ in_innermost (λ c. record c { names = record { name = name; is = e } ∷ c.names }) q.scopes →
    (BodiesScoped q.routines → BodiesScoped r.routines) → At js b r
bound {js} {b} {q} {r} name e h k i f = record {
  opened = record {
    names = subst (NamesOpen js) (sym i) (names_bound js name e k q.scopes h.opened.names);
    bodies = f h.opened.bodies;
  };
  outer = ap outer_scopes i ∙ inner_outer _ q.scopes ∙ h.outer;
  deep = ap length i ∙ inner_deep _ q.scopes ∙ h.deep;
}

pub tagged : {js : List ℕ} {b q r : State} (name : List ℕ) (t : Tagging) → At js b q →
    r.scopes ≡ in_innermost (λ c. record c { tags = record { name = name; is = t } ∷ c.tags }) q.scopes →
    (BodiesScoped q.routines → BodiesScoped r.routines) → At js b r
tagged {js} {b} {q} {r} name t h i f = record {
  opened = record {
    names = subst (NamesOpen js) (sym i) (names_tagged js name t q.scopes h.opened.names);
    bodies = f h.opened.bodies;
  };
  outer = ap outer_scopes i ∙ inner_outer _ q.scopes ∙ h.outer;
  deep = ap length i ∙ inner_deep _ q.scopes ∙ h.deep;
}

-- a new scope
abbrev pub entered : State → State
entered s = record s { scopes = record { names = []; tags = [] } ∷ s.scopes }

pub at_entered : {js : List ℕ} {b q : State} → At js b q → At js (entered q) (entered q)
at_entered at = record {
  opened = record { names = (tt, at.opened.names); bodies = at.opened.bodies };
  outer = refl;
  deep = refl;
}

-- and the state behind it
pub at_outer : {js : List ℕ} {b q : State} (r : State) → At js b q → outer_scopes r.scopes ≡ q.scopes →
    BodiesScoped r.routines →
    At js b (record r { scopes = outer_scopes r.scopes })
at_outer {js} {b} {q} r at e h = record {
  opened = record { names = subst (NamesOpen js) (sym e) at.opened.names; bodies = h };
  outer = ap outer_scopes e ∙ at.outer;
  deep = ap length e ∙ at.deep;
}

pub at_left : {js ks : List ℕ} {b q r : State} → At js b q → At ks (entered q) r →
    At js b (record r { scopes = outer_scopes r.scopes })
at_left {r = r} at h = at_outer r at h.outer h.opened.bodies

left_runs : {A : Type 0} {js : List ℕ} {add : A → List ℕ} {P : A → Type 0} {b q : State}
    (r : Result (A × State) scopes.Fault) → At js b q → Runs add P (entered q) r →
    Runs (λ _. js) P b (continued r (λ a. leave >> give a))
left_runs (Ok y) at h = run_give (at_left at (h.state y refl)) (h.post y refl)
left_runs (Err f) at h = run_refuse

-- a step in a scope of its own adds none
pub in_scope_keeps : {A : Type 0} {js : List ℕ} {add : A → List ℕ} {P : A → Type 0} {d : Doing A} →
    Goes js add P d → Keeps js P (in_scope d)
in_scope_keeps {d = d} h =
    going λ b q at. left_runs (d (entered q)) at (h.run (entered q) (entered q) (at_entered at))
