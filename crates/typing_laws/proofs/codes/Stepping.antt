-- How a step of typing fails: by a code of typing alone.
use Rattle.std.proofs.Common.{◌≡◌, ℕ, Bool, true, false, List, [], ◌∷◌, Option, Some, None, Result, Ok, Err, refl, ap}
use Rattle.std.proofs.Common.{subst}
use Rattle.std.specs.Prelude.{if◌then◌else◌}
use Rattle.ck_base.specs.declared.positions.Pos.{Pos}
use Rattle.c_tree.specs.Scopes.{State, Fault, Doing, give, refuse, need, look, change, some_or, continued, ◌>>=◌, ◌>>◌}
use Rattle.c_tree.specs.Scopes.{in_scope}
use Rattle.typing_laws.specs.Codes.{IsTypingCode}

-- what is done succeeds with what is so, or fails with a code of typing
pub record Fine {A : Type 0} (P : A → Type 0) (r : Result (A × State) Fault) : Type 0 where
  pub post : (x : A × State) → r ≡ Ok x → P x.0
  pub code : (e : Fault) → r ≡ Err e → IsTypingCode e.code

-- a step, from each state
pub record Coded {A : Type 0} (P : A → Type 0) (d : Doing A) : Type 0 where
  pub at : (s : State) → Fine P (d s)

abbrev pub Any : {A : Type 0} → A → Type 0
Any a = Unit {0}

abbrev result_or : {A : Type 0} → A → Result (A × State) Fault → A
result_or d (Ok x) = x.0
result_or d (Err e) = d

abbrev fault_or : {A : Type 0} → Fault → Result (A × State) Fault → Fault
fault_or d (Ok x) = d
fault_or d (Err e) = e

pub fine_give : {A : Type 0} {P : A → Type 0} {a : A} {s : State} → P a → Fine P (Ok (a, s))
fine_give {A} {P} {a} {s} h = record {
  post = λ x e. subst P (ap (result_or a) e) h;
  code = λ f e. absurd cc;
}

pub fine_refuse : {A : Type 0} {P : A → Type 0} {f : Fault} → IsTypingCode f.code → Fine {A = A} P (Err f)
fine_refuse {A} {P} {f} h = record {
  post = λ x e. absurd cc;
  code = λ g e. subst (λ (g : Fault). IsTypingCode g.code) (ap (fault_or {A = A} f) e) h;
}

pub fine_then : {A B : Type 0} {P : A → Type 0} {Q : B → Type 0} {r : Result (A × State) Fault} {f : A → Doing B} →
    Fine P r → ((a : A) (q : State) → P a → Fine Q (f a q)) → Fine Q (continued r f)
fine_then {r = Ok y} h g = g y.0 y.1 (h.post y refl)
fine_then {r = Err k} h g = fine_refuse (h.code k refl)

pub fine_next : {A B : Type 0} {P : A → Type 0} {Q : B → Type 0} {r : Result (A × State) Fault} {f : Doing B} →
    Fine P r → ((q : State) → Fine Q (f q)) → Fine Q (continued r (λ _. f))
fine_next h g = fine_then h λ a q p. g q

pub going : {A : Type 0} {P : A → Type 0} {d : Doing A} → ((s : State) → Fine P (d s)) → Coded P d
going h = record { at = h }

-- ---- steps put together

pub give_coded : {A : Type 0} {P : A → Type 0} {a : A} → P a → Coded P (give a)
give_coded h = record { at = λ s. fine_give h }

pub refuse_coded : {A : Type 0} {P : A → Type 0} {code : ℕ} {p : Pos} → IsTypingCode code →
    Coded {A = A} P (refuse code p)
refuse_coded h = record { at = λ s. fine_refuse h }

pub change_coded : {f : State → State} → Coded Any (change f)
change_coded = record { at = λ s. fine_give tt }

pub looks : Coded Any look
looks = record { at = λ s. fine_give tt }

pub then_coded : {A B : Type 0} {P : A → Type 0} {Q : B → Type 0} {d : Doing A} {f : A → Doing B} → Coded P d →
    ((a : A) → P a → Coded Q (f a)) → Coded Q (d >>= f)
then_coded h g = record { at = λ s. fine_then (h.at s) λ a q p. (g a p).at q }

pub next_coded : {A B : Type 0} {P : A → Type 0} {Q : B → Type 0} {d : Doing A} {f : Doing B} → Coded P d →
    Coded Q f → Coded Q (d >> f)
next_coded h g = record { at = λ s. fine_next (h.at s) g.at }

-- the state, where the step behind it is fine from each
pub look_coded : {A : Type 0} {P : A → Type 0} {f : State → Doing A} → ((s : State) → Coded P (f s)) →
    Coded P (look >>= f)
look_coded h = record { at = λ s. (h s).at s }

pub need_coded : (c : Bool) (code : ℕ) (p : Pos) → IsTypingCode code → Coded Any (need c code p)
need_coded true code p h = give_coded tt
need_coded false code p h = refuse_coded h

pub some_coded : {A : Type 0} (o : Option A) (code : ℕ) (p : Pos) → IsTypingCode code → Coded Any (some_or o code p)
some_coded (Some a) code p h = give_coded tt
some_coded None code p h = refuse_coded h

pub if_coded : {A : Type 0} {P : A → Type 0} (c : Bool) (d e : Doing A) → Coded P d → Coded P e →
    Coded P (if c then d else e)
if_coded true d e h g = h
if_coded false d e h g = g

-- a test before a step
pub needs : {A : Type 0} {P : A → Type 0} {d : Doing A} (c : Bool) (code : ℕ) (p : Pos) → IsTypingCode code →
    Coded P d → Coded P (need c code p >> d)
needs c code p h g = next_coded (need_coded c code p h) g

pub in_scope_coded : {A : Type 0} {P : A → Type 0} {d : Doing A} → Coded P d → Coded P (in_scope d)
in_scope_coded {d = d} h =
    then_coded (next_coded change_coded h) λ a p. next_coded change_coded (give_coded p)

-- each of a list is so
abbrev pub AllOf : {A : Type 0} → (A → Type 0) → List A → Type 0
AllOf P [] = Unit {0}
AllOf P (x ∷ xs) = P x × AllOf P xs

-- what a step gives need not be known
fine_weaker : {A : Type 0} {P : A → Type 0} {r : Result (A × State) Fault} → Fine P r → Fine Any r
fine_weaker h = record { post = λ x e. tt; code = h.code }

pub weaker : {A : Type 0} {P : A → Type 0} {d : Doing A} → Coded P d → Coded Any d
weaker h = record { at = λ s. fine_weaker (h.at s) }

-- a choice by what holds
pub where_coded : {A : Type 0} {P : A → Type 0} (b : Bool) (d e : Doing A) → (b ≡ true → Coded P d) →
    (b ≡ false → Coded P e) → Coded P (if b then d else e)
where_coded true d e h g = h refl
where_coded false d e h g = g refl
