-- For each local whether its address is taken: a mark for each number that was met.
use Rattle.std.proofs.Common.{◌≡◌, ℕ, ◌+◌, ◌<◌, Bool, true, false, ⊎_elim, List, length, take, get_or, refl, sym, ap}
use Rattle.std.proofs.Common.{◌∙◌}
use Rattle.std.specs.Prelude.{slice_get, slice_set, ◌==◌, ◌||◌}
use Rattle.std.specs.List.{list_any}
use Rattle.std.proofs.lemmas.List.Folds.{list_any_more}
use Rattle.c_finish.proofs.Firsts.{eqb-same, eqb-apart, get-set}
use Rattle.c_elab.specs.Functions.{AreMarked}

either_true : (b : Bool) → (b || true) ≡ true
either_true true = refl
either_true false = refl

either_false : (b : Bool) → (b || false) ≡ b
either_false true = refl
either_false false = refl

pub one_marked : (ks : List ℕ) (i j d : ℕ) (ts us : List Bool) → i < length ks → get_or ks i d ≡ j →
    us ≡ slice_set ts j true → AreMarked (take i ks) ts → AreMarked (take (i + 1) ks) us
one_marked ks i j d ts us lt at e h = λ k b g.
    let before : Bool = list_any (λ n. n == k) (take i ks) in
    let more : list_any (λ n. n == k) (take (i + 1) ks) ≡ (before || (j == k)) =
    list_any_more (λ n. n == k) ks i d lt ∙ ap (λ n. before || (n == k)) at in
    ⊎_elim
    (λ a. a.1 ∙ sym (more ∙ ap (λ c. before || c) (ap (λ n. j == n) a.0 ∙ eqb-same j) ∙ either_true before))
    (λ a. h k b a.0 ∙ sym (more ∙ ap (λ c. before || c) (eqb-apart j k a.1) ∙ either_false before))
    (get-set ts j k true b (ap (λ xs. slice_get xs k) (sym e) ∙ g))
