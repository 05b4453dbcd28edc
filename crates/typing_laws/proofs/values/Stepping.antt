-- How a step of typing goes on where the bodies so far are made.
use Rattle.std.proofs.Common.{◌≡◌, ℕ, ◌<◌, Bool, true, false, List, [], ◌∷◌, ◌++◌, length, Option, Some, None, Result}
use Rattle.std.proofs.Common.{Ok, Err, refl, sym, ap, subst, ◌∙◌, ⊎_elim}
use Rattle.std.specs.Prelude.{slice_get, if◌then◌else◌}
use Rattle.std.proofs.lemmas.Option.{none-some}
use Rattle.ck_base.specs.declared.positions.Pos.{Pos}
use Rattle.c_tree.specs.Scopes.{LocalState, RoutineState, Body, State, Doing, give, refuse, need, look, some_or}
use Rattle.c_tree.specs.Scopes.{continued, ◌>>=◌, ◌>>◌, changed_at, leave, in_scope}
use Rattle.c_tree.specs.Scopes as scopes
use Rattle.typing_laws.proofs.Steps.{ok_is, refused, changed_from, changed_to}
use Rattle.typing_laws.proofs.Tags.{there_from, there_in}
use Rattle.typing_laws.proofs.values.Made.{ActionMade}
use Rattle.typing_laws.proofs.values.Sorts.{is_stored}

-- the parameters are of no array and no function type (C11 6.7.6.3p7, p8)
abbrev pub AreAdjusted : Body → Type 0
AreAdjusted b = (k : ℕ) (v : LocalState) → k < length b.params → slice_get b.vars k ≡ Some v → is_stored v.of ≡ false

abbrev pub BodyMade : Body → Type 0
BodyMade b = ActionMade b.action × AreAdjusted b

-- the bodies so far
abbrev pub BodiesMade : List RoutineState → Type 0
BodiesMade fs = (k : ℕ) (f : RoutineState) (b : Body) → slice_get fs k ≡ Some f → f.body ≡ Some b → BodyMade b

-- locals stay, but that an array gets its length
pub record LocalsKept (vs ws : List LocalState) : Type 0 where
  pub at : (k : ℕ) (v : LocalState) → slice_get vs k ≡ Some v →
      (w : LocalState) × (slice_get ws k ≡ Some w) × (is_stored w.of ≡ is_stored v.of)

pub still : {vs : List LocalState} → LocalsKept vs vs
still = record { at = λ k v e. (v, e, refl) }

pub kept_then : {us vs ws : List LocalState} → LocalsKept us vs → LocalsKept vs ws → LocalsKept us ws
kept_then h g = record {
  at = λ k v e. let a = h.at k v e in let b = g.at k a.0 a.1 in (b.0, b.1, b.2 ∙ a.2);
}

pub changed_locals : (f : LocalState → LocalState) (vs : List LocalState) (k : ℕ) →
    ((v : LocalState) → slice_get vs k ≡ Some v → is_stored (f v).of ≡ is_stored v.of) →
    LocalsKept vs (changed_at f vs k)
changed_locals f vs k h = record {
  at = λ j v e. let c = changed_to f vs k j v e in (
    c.0,
    c.1,
    ⊎_elim (λ i. ap (λ (w : LocalState). is_stored w.of) i)
        (λ i. ap (λ (w : LocalState). is_stored w.of) i.1 ∙ h v (ap (slice_get vs) (sym i.0) ∙ e)) c.2,
  );
}

pub pushed_locals : (vs : List LocalState) (v : LocalState) → LocalsKept vs (vs ++ v ∷ [])
pushed_locals vs v = record { at = λ k w e. (w, there_in vs (v ∷ []) k w e, refl) }

-- what is done where these are the locals gives this, where it succeeds
pub record Runs {A : Type 0} (P : A → Type 0) (vs : List LocalState) (r : Result (A × State) scopes.Fault) : Type 0
  where
    pub bodies : (x : A × State) → r ≡ Ok x → BodiesMade x.1.routines
    pub post : (x : A × State) → r ≡ Ok x → P x.0
    pub locals : (x : A × State) → r ≡ Ok x → LocalsKept vs x.1.locals

-- a step
pub record Keeps {A : Type 0} (P : A → Type 0) (d : Doing A) : Type 0 where
  pub run : (q : State) → BodiesMade q.routines → Runs P q.locals (d q)

abbrev pub Any : {A : Type 0} → A → Type 0
Any a = Unit {0}

pub going : {A : Type 0} {P : A → Type 0} {d : Doing A} →
    ((q : State) → BodiesMade q.routines → Runs P q.locals (d q)) → Keeps P d
going h = record { run = h }

pub run_give : {A : Type 0} {P : A → Type 0} {vs : List LocalState} {q : State} {a : A} → LocalsKept vs q.locals →
    BodiesMade q.routines → P a → Runs P vs (Ok (a, q))
run_give {A} {P} {vs} {q} {a} l at h = record {
  bodies = λ x e. subst (λ (y : A × State). BodiesMade y.1.routines) (ok_is (a, q) x e) at;
  post = λ x e. subst (λ (y : A × State). P y.0) (ok_is (a, q) x e) h;
  locals = λ x e. subst (λ (y : A × State). LocalsKept vs y.1.locals) (ok_is (a, q) x e) l;
}

pub run_kept : {vs : List LocalState} {q : State} → LocalsKept vs q.locals → BodiesMade q.routines →
    Runs {A = Unit} Any vs (Ok (tt, q))
run_kept l at = run_give l at tt

pub run_refuse : {A : Type 0} {P : A → Type 0} {vs : List LocalState} {f : scopes.Fault} → Runs {A = A} P vs (Err f)
run_refuse = record {
  bodies = λ x e. refused _ x e;
  post = λ x e. refused _ x e;
  locals = λ x e. refused _ x e;
}

pub run_need : (q : State) (c : Bool) (code : ℕ) (p : Pos) → BodiesMade q.routines →
    Runs Any q.locals (need c code p q)
run_need q true code p at = run_kept still at
run_need q false code p at = run_refuse

pub run_on : {A B : Type 0} {P : A → Type 0} {Q : B → Type 0} {vs : List LocalState}
    {r : Result (A × State) scopes.Fault} {f : A → Doing B} → Runs P vs r →
    ((a : A) (q : State) → BodiesMade q.routines → P a → LocalsKept vs q.locals → Runs Q q.locals (f a q)) →
    Runs Q vs (continued r f)
run_on {r = Ok y} h g =
    let l = h.locals y refl in
    let z = g y.0 y.1 (h.bodies y refl) (h.post y refl) l in
    record { bodies = z.bodies; post = z.post; locals = λ x e. kept_then l (z.locals x e) }
run_on {r = Err k} h g = run_refuse

pub run_then : {A B : Type 0} {P : A → Type 0} {Q : B → Type 0} {vs : List LocalState}
    {r : Result (A × State) scopes.Fault} {f : A → Doing B} → Runs P vs r →
    ((a : A) (q : State) → BodiesMade q.routines → P a → Runs Q q.locals (f a q)) → Runs Q vs (continued r f)
run_then h g = run_on h λ a q at p l. g a q at p

pub run_from : {A : Type 0} {P : A → Type 0} {us vs : List LocalState} {r : Result (A × State) scopes.Fault} →
    LocalsKept us vs → Runs P vs r → Runs P us r
run_from l h = record { bodies = h.bodies; post = h.post; locals = λ x e. kept_then l (h.locals x e) }

pub run_next : {A B : Type 0} {P : A → Type 0} {Q : B → Type 0} {vs : List LocalState}
    {r : Result (A × State) scopes.Fault} {f : Doing B} → Runs P vs r →
    ((q : State) → BodiesMade q.routines → Runs Q q.locals (f q)) → Runs Q vs (continued r (λ _. f))
run_next h g = run_then h λ a q at p. g q at

-- the bodies alone
pub bodies_then : {A B : Type 0} {P : A → Type 0} {vs : List LocalState} {r : Result (A × State) scopes.Fault}
    {f : A → Doing B} → Runs P vs r → ((a : A) (q : State) → BodiesMade q.routines → P a → (x : B × State) →
    f a q ≡ Ok x → BodiesMade x.1.routines) → (x : B × State) → continued r f ≡ Ok x → BodiesMade x.1.routines
bodies_then {r = Ok y} h g x e = g y.0 y.1 (h.bodies y refl) (h.post y refl) x e
bodies_then {r = Err k} h g x e = refused _ x e

-- ---- steps put together

pub give_keeps : {A : Type 0} {P : A → Type 0} {a : A} → P a → Keeps P (give a)
give_keeps h = going λ q at. run_give still at h

pub refuse_goes : {A : Type 0} {P : A → Type 0} {code : ℕ} {p : Pos} → Keeps {A = A} P (refuse code p)
refuse_goes = going λ q at. run_refuse

-- a step and the next
pub goes_then : {A B : Type 0} {P : A → Type 0} {Q : B → Type 0} {d : Doing A} {f : A → Doing B} → Keeps P d →
    ((a : A) → P a → Keeps Q (f a)) → Keeps Q (d >>= f)
goes_then h g = going λ q at. run_then (h.run q at) λ a r at p. (g a p).run r at

pub goes_next : {A B : Type 0} {P : A → Type 0} {Q : B → Type 0} {d : Doing A} {f : Doing B} → Keeps P d → Keeps Q f →
    Keeps Q (d >> f)
goes_next h g = going λ q at. run_next (h.run q at) λ r at. g.run r at

-- what is given is more than what is asked
pub less : {A : Type 0} {P Q : A → Type 0} {d : Doing A} → ((a : A) → P a → Q a) → Keeps P d → Keeps Q d
less w h = going λ q at. let r = h.run q at in
    record { bodies = r.bodies; post = λ x e. w x.0 (r.post x e); locals = r.locals }

pub need_keeps : (c : Bool) (code : ℕ) (p : Pos) → Keeps Any (need c code p)
need_keeps c code p = going λ q at. run_need q c code p at

pub need_true : (c : Bool) (code : ℕ) (p : Pos) → Keeps (λ _. c ≡ true) (need c code p)
need_true true code p = give_keeps refl
need_true false code p = refuse_goes

pub some_keeps : {A : Type 0} (o : Option A) (code : ℕ) (p : Pos) → Keeps Any (some_or o code p)
some_keeps (Some a) code p = give_keeps tt
some_keeps None code p = refuse_goes

pub if_goes : {A : Type 0} {P : A → Type 0} (c : Bool) (d e : Doing A) → Keeps P d → Keeps P e →
    Keeps P (if c then d else e)
if_goes true d e h g = h
if_goes false d e h g = g

pub if_known : {A : Type 0} {P : A → Type 0} (c : Bool) (d e : Doing A) → (c ≡ true → Keeps P d) → Keeps P e →
    Keeps P (if c then d else e)
if_known true d e h g = h refl
if_known false d e h g = g

-- ---- bodies

pub bodies_changed : (f : RoutineState → RoutineState) → ((r : RoutineState) → (f r).body ≡ r.body) →
    (fs : List RoutineState) (k : ℕ) → BodiesMade fs → BodiesMade (changed_at f fs k)
bodies_changed f same fs k h j y b e q =
    let x = changed_from f fs k j y e in
    h j x.0 b x.1 (⊎_elim (λ i. ap (λ (r : RoutineState). r.body) (sym i) ∙ q)
    (λ i. sym (same x.0) ∙ ap (λ (r : RoutineState). r.body) (sym i.1) ∙ q) x.2)

pub bodies_added : (fs : List RoutineState) (r : RoutineState) → r.body ≡ None → BodiesMade fs →
    BodiesMade (fs ++ r ∷ [])
bodies_added fs r none h j y b e q =
    ⊎_elim (λ i. h j y b i q)
    (λ i. absurd (none-some b (sym none ∙ ap (λ (r : RoutineState). r.body) (sym i.1) ∙ q)))
    (there_from fs r j y e)

-- ---- scopes

-- a new scope
abbrev pub entered : State → State
entered s = record s { scopes = record { names = []; tags = [] } ∷ s.scopes }

left_runs : {A : Type 0} {P : A → Type 0} {vs : List LocalState} (r : Result (A × State) scopes.Fault) → Runs P vs r →
    Runs P vs (continued r (λ a. leave >> give a))
left_runs (Ok y) h = run_give (h.locals y refl) (h.bodies y refl) (h.post y refl)
left_runs (Err f) h = run_refuse

pub in_scope_keeps : {A : Type 0} {P : A → Type 0} {d : Doing A} → Keeps P d → Keeps P (in_scope d)
in_scope_keeps {d = d} h = going λ q at. left_runs (d (entered q)) (h.run (entered q) at)
