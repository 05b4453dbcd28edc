-- What holds of a text in a table holds by a test of the table.
use Rattle.std.proofs.Common.{◌≡◌, ℕ, ◌≤◌, Bool, true, false, ◌&&◌, List, [], ◌∷◌, length, get_or, nat_le, refl}
use Rattle.std.proofs.Common.{subst, inl, inr}
use Rattle.std.specs.List.{list_all}
use Rattle.std.proofs.lemmas.Slice.Eq.{bytes_eq-Decides}
use Rattle.std.proofs.lemmas.Bool.{leb-true, or_cases}
use Rattle.ck_base.specs.Tokens.{is_among, punctuators, left_out}
use Rattle.c_lex.specs.Fronts.{begins_left_out}

pub never : (b : Bool) → b ≡ false → b ≡ true → ⊥
never true e f = cc
never false e f = cc

pub and_true : (a b : Bool) → (a && b) ≡ true → (a ≡ true) × (b ≡ true)
and_true true b e = (refl, e)
and_true false b e = cc

pub among_passes : (p : List ℕ → Bool) (table : List (List ℕ)) (text : List ℕ) → list_all p table ≡ true →
    is_among table text ≡ true → p text ≡ true
among_passes p [] text all among = cc
among_passes p (entry ∷ table) text all among =
    let passes = and_true _ _ all in
    elim (or_cases _ _ among) [
      | inl here ↦ subst (λ t. p t ≡ true) ((bytes_eq-Decides entry text).0 here) passes.0
      | inr there ↦ among_passes p table text passes.1 there
    ]

-- a punctuator has one to three bytes
short : List ℕ → Bool
short text = nat_le 1 (length text) && nat_le (length text) 3

pub punctuator_short : (text : List ℕ) → is_among punctuators text ≡ true → (1 ≤ length text) × (length text ≤ 3)
unfolding punctuators short
punctuator_short text among =
    let fits = and_true (nat_le 1 (length text)) _ (among_passes short punctuators text refl among) in
    (leb-true 1 (length text) fits.0, leb-true (length text) 3 fits.1)

-- what is left out has three bytes and more, and begins so
fits_left_out : List ℕ → Bool
fits_left_out text = nat_le 3 (length text) && begins_left_out (get_or text 0 0)

pub left_out_fits : (text : List ℕ) → is_among left_out text ≡ true →
    (3 ≤ length text) × (begins_left_out (get_or text 0 0) ≡ true)
unfolding left_out fits_left_out begins_left_out
left_out_fits text among =
    let fits = and_true (nat_le 3 (length text)) _ (among_passes fits_left_out left_out text refl among) in
    (leb-true 3 (length text) fits.0, fits.1)
