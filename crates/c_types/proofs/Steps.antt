-- One step of the typing after another.
use Rattle.std.proofs.Common.{◌≡◌, ℕ, ap, ◌∙◌, refl, Result, Ok, Err}
use Rattle.ck_base.specs.declared.positions.Pos.{Pos}
use Rattle.ck_base.specs.declared.refusal.Refusal.{Refusal}
use Rattle.ck_base.specs.declared.refusal.Refusal.TheVariants.{Code, NoMemory}
use Rattle.c_tree.specs.declared.typed.Typed.{Typed}
use Rattle.c_tree.specs.Scopes.{State, Doing, Fault, continued, ◌>>=◌}
use Rattle.c_types.specs.declared.scopes.Scopes.{Scopes}
use Rattle.c_types.specs.Stands.{Stands}
use Rattle.c_types.specs.Calls.{Fails, Answers}

pub then_given : {A B : Type 0} (d : Doing A) (f : A → Doing B) (s t u : State) (a : A) (b : B) → d s ≡ Ok (a, t) →
    f a t ≡ Ok (b, u) → (d >>= f) s ≡ Ok (b, u)
then_given d f s t u a b e g = ap (λ r. continued r f) e ∙ g

pub then_fails : {A B : Type 0} (before : Scopes) (p : Typed) (after : Scopes) (q : Typed) (d : Doing A)
    (f : A → Doing B) (code : ℕ) (place : Pos) → Fails before p after q d code place →
    Fails before p after q (d >>= f) code place
then_fails before p after q d f code place h = record {
  refused = λ s k. ap (λ r. continued r f) (h.refused s k);
  program = h.program;
  keeps = h.keeps;
}

-- what refuses the first step refuses both
pub then_refused : {A B X Y : Type 0} (before : Scopes) (p : Typed) (after : Scopes) (q : Typed) (d : Doing A)
    (f : A → Doing B) (Fits : X → State → A → Type 0) (Fits' : Y → State → B → Type 0) (e : Refusal) →
    Answers before p after q d Fits (Err e) → Answers before p after q (d >>= f) Fits' (Err e)
then_refused before p after q d f Fits Fits' (Code code place) h = then_fails before p after q d f code place h
then_refused before p after q d f Fits Fits' NoMemory h = h

-- a refusal that changes nothing
pub fails_here : {A : Type 0} (sc : Scopes) (p : Typed) (d : Doing A) (code : ℕ) (place : Pos) →
    ((s : State) → Stands sc p s → d s ≡ Err (record { code = code; place = place })) → Fails sc p sc p d code place
fails_here sc p d code place h = record { refused = h; program = refl; keeps = λ s k. k }

pub same_result : {B : Type 0} (x y : B × State) (r : Result (B × State) Fault) → r ≡ Ok x → r ≡ Ok y → x ≡ y
same_result x y r e f = cc

-- a step that is the same in each state for which the scopes stand
pub answers_as : {A X : Type 0} (before : Scopes) (p : Typed) (after : Scopes) (q : Typed) (d e : Doing A)
    (Fits : X → State → A → Type 0) (r : Result X Refusal) → ((s : State) → Stands before p s → e s ≡ d s) →
    Answers before p after q d Fits r → Answers before p after q e Fits r
answers_as before p after q d e Fits (Ok x) i h =
    λ s k. let g = h s k in record {
      value = g.value;
      state = g.state;
      is = i s k ∙ g.is;
      stands = g.stands;
      fits = g.fits;
    }
answers_as before p after q d e Fits (Err (Code code place)) i h =
    record { refused = λ s k. i s k ∙ h.refused s k; program = h.program; keeps = h.keeps }
answers_as before p after q d e Fits (Err NoMemory) i h = h
