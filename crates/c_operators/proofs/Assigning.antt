-- Assignments.
use Rattle.std.proofs.Common.{◌≡◌, ℕ, Bool, true, false, refl, ap, ◌∙◌, Ok}
use Rattle.std.specs.Prelude.{◌||◌, if◌then◌else◌}
use Rattle.ck_base.specs.declared.positions.Pos.{Pos}
use Rattle.ck_int.specs.declared.kinds.IntOp.{IntOp}
use Rattle.c_tree.specs.Types.{Ty, Pointer, is_pointer, is_const, promoted, common}
use Rattle.c_tree.specs.Terms.{Term, type_of}
use Rattle.c_tree.specs.Scopes.{State, Doing, need, continued, ◌>>=◌, ◌>>◌}
use Rattle.c_tree.specs.Conversions.{converted_term}
use Rattle.c_tree.specs.Expressions.{is_shift, computed_in, right_of, promoted_term, as_qualified}
use Rattle.c_expressions.specs.Answers.{Refuses}

pub computed_in-pointer : (o : IntOp) (s t : Ty) (b : Bool) → is_pointer s ≡ b → b ≡ true → s ≡ computed_in o s t
computed_in-pointer o (Pointer a) t b e d = refl
computed_in-pointer o _ t b e d = absurd cc

pub computed_in-integer : (o : IntOp) (s t : Ty) (b : Bool) → is_pointer s ≡ b → b ≡ false →
    (if is_shift o then promoted s else common s t) ≡ computed_in o s t
computed_in-integer o (Pointer a) t b e d = absurd cc
computed_in-integer o _ t b e d = refl

pub right_of-promoted : (o : IntOp) (s : Ty) (x : Term) (b : Bool) → (is_pointer s || is_shift o) ≡ b → b ≡ true →
    promoted_term x ≡ right_of o s x
right_of-promoted o (Pointer a) x b e d = refl
right_of-promoted o _ x b e d = rw (e ∙ d) refl

pub right_of-common : (o : IntOp) (s : Ty) (x : Term) (b : Bool) → (is_pointer s || is_shift o) ≡ b → b ≡ false →
    converted_term (common s (type_of x)) x ≡ right_of o s x
right_of-common o (Pointer a) x b e d = absurd cc
right_of-common o _ x b e d = rw (e ∙ d) refl

-- a test that is passed, a step, and then another one
pub then_refuses : {A B : Type 0} (b : Bool) (code : ℕ) (p : Pos) (d : Doing A) (f : A → Doing B) (c : ℕ) (q : Pos) →
    b ≡ true → Refuses d c q → Refuses (need b code p >> d >>= f) c q
then_refuses b code p d f c q e h s = ap (λ x. (need x code p >> d >>= f) s) e ∙ ap (λ r. continued r f) (h s)

pub then_gives : {A B : Type 0} (b : Bool) (code : ℕ) (p : Pos) (d : Doing A) (f : A → Doing B) (v : A) (s : State) →
    b ≡ true → d s ≡ Ok (v, s) → (need b code p >> d >>= f) s ≡ f v s
then_gives b code p d f v s e h = ap (λ x. (need x code p >> d >>= f) s) e ∙ ap (λ r. continued r f) h

pub then_refused : {A B : Type 0} (b : Bool) (code : ℕ) (p : Pos) (d : Doing A) (f : A → Doing B) → b ≡ false →
    Refuses (need b code p >> d >>= f) code p
then_refused b code p d f e s = ap (λ x. (need x code p >> d >>= f) s) e

pub as_qualified-plain : (s t : Ty) (b : Bool) → is_const s ≡ b → b ≡ false → t ≡ as_qualified s t
as_qualified-plain s t b e d = rw (e ∙ d) refl
