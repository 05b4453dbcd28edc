-- What holds of whatever is read, part by part; and what a reading of parts comes to.
use Rattle.std.proofs.Common.{◌≡◌, ℕ, ◌≤◌, ◌<◌, Bool, true, false, List, [], ◌∷◌, ◌++◌, Option, Some, None, inl, inr}
use Rattle.std.proofs.Common.{refl, ap, subst, arith, append_assoc}
use Rattle.std.specs.Prelude.{if◌then◌else◌, nat_le, ◌&&◌, ◌||◌, not}
use Rattle.std.proofs.lemmas.Bool.{leb-true}
use Rattle.std.proofs.lemmas.Bool.Decides.{leb_tells}
use Rattle.ck_base.specs.Tokens.{Lexeme}
use Rattle.c_tree.specs.declared.syntax.Symbol.{Symbol}
use Rattle.c_tree.specs.Symbols.{symbol}
use Rattle.c_phrases.specs.Reading.{◌>>=◌, expect}

-- what is there, if anything, has Q
pub data Gives {A : Type 0} (Q : A → Type 0) : Option A → Type 0 where
  nothing : Gives Q None
  gives : {x : A} → Q x → Gives Q (Some x)

pub bind : {A B : Type 0} {P : A → Type 0} {Q : B → Type 0} {o : Option A} (f : A → Option B) → Gives P o →
    ((x : A) → P x → Gives Q (f x)) → Gives Q (o >>= f)
bind f nothing k = nothing
bind f (gives {x} p) k = k x p

pub also : {A : Type 0} {P Q : A → Type 0} {o : Option A} → Gives P o → ((x : A) → P x → Q x) → Gives Q o
also nothing k = nothing
also (gives {x} p) k = gives (k x p)

pub given : {A : Type 0} {Q : A → Type 0} {o : Option A} {x : A} → Gives Q o → o ≡ Some x → Q x
given {A} {Q} {o} {x} nothing e = cc
given {A} {Q} {o} {x} (gives {x = y} q) e =
    let out : Option A → A = elim [ None ↦ y | Some p ↦ p ] in
    subst Q (ap out e) q

pub guard : {A : Type 0} {Q : A → Type 0} (b : Bool) {o : Option A} → (b ≡ true → Gives Q o) →
    Gives Q (if b then o else None)
guard true k = k refl
guard false k = nothing

pub choose : {A : Type 0} {Q : A → Type 0} (b : Bool) {o p : Option A} → (b ≡ true → Gives Q o) →
    (b ≡ false → Gives Q p) → Gives Q (if b then o else p)
choose true k m = k refl
choose false k m = m refl

pub both_true : (a b : Bool) → (a && b) ≡ true → (a ≡ true) × (b ≡ true)
both_true true b e = (refl, e)
both_true false b e = cc

pub both_false : (a b : Bool) → (a || b) ≡ false → (a ≡ false) × (b ≡ false)
both_false true b e = cc
both_false false b e = (refl, e)

pub not_true : (a : Bool) → not a ≡ true → a ≡ false
not_true true e = cc
not_true false e = refl

pub or_false : (a : Bool) → (a || false) ≡ a
or_false true = refl
or_false false = refl

pub or_assoc : (a b c : Bool) → ((a || b) || c) ≡ (a || (b || c))
or_assoc true b c = refl
or_assoc false b c = refl

pub le_of : (a b : ℕ) → nat_le a b ≡ true → a ≤ b
le_of a b e = leb-true a b e

pub shut_le : (a b : ℕ) → b < a → nat_le a b ≡ false
shut_le a b lt = elim (leb_tells a b) [ inl e ↦ absurd (omega (arith, e.1)) | inr e ↦ e.0 ]

-- the token behind which the rest stands
pub expects : (test : Symbol → Bool) (s : Symbol) → ((t : Symbol) → test t ≡ true → t ≡ s) → (ts : List Lexeme) →
    Gives (λ rest. (c : Lexeme) × (symbol c ≡ s) × (ts ≡ c ∷ rest)) (expect test ts)
expects test s only [] = nothing
expects test s only (t ∷ ts) = guard (test (symbol t)) (λ e. gives (t, only (symbol t) e, refl))

pub behind : (a b c : List Lexeme) (o : Lexeme) → (a ++ (o ∷ b)) ++ c ≡ a ++ (o ∷ (b ++ c))
behind a b c o = append_assoc a (o ∷ b) c

-- what a reading comes to
pub then_is : {A : Type 0} {b : Bool} {x : A} (y : A) → b ≡ true → (if b then x else y) ≡ x
then_is {A} {b} {x} y e = ap (λ v. if v then x else y) e

pub else_is : {A : Type 0} {b : Bool} (x : A) {y : A} → b ≡ false → (if b then x else y) ≡ y
else_is {A} {b} x {y} e = ap (λ v. if v then x else y) e

pub bind_is : {A B : Type 0} {o : Option A} {x : A} (f : A → Option B) → o ≡ Some x → (o >>= f) ≡ f x
bind_is f e = ap (λ v. v >>= f) e
