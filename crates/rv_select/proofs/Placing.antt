-- How the first eight arguments come to their registers, one after another.
use Rattle.std.proofs.Common.{◌≡◌, ℕ, ◌+◌, ◌<◌, ◌≤◌, ⊎_elim, List, [], ◌∷◌, ◌++◌, length, get_or, Some}
use Rattle.std.proofs.Common.{sym, ap, ◌∙◌, arith}
use Rattle.std.specs.Prelude.{slice_get, min}
use Rattle.std.proofs.lemmas.Bool.{cases_lt}
use Rattle.std.proofs.lemmas.List.{length-append}
use Rattle.std.proofs.lemmas.Option.{same_Some, slice_get-get_or}
use Rattle.rv_select.specs.declared.calls.Bring.{Bring}
use Rattle.rv_select.specs.declared.calls.Placed.{Placed}
use Rattle.rv_select.specs.declared.function.Function.{Function}
use Rattle.rv_select.specs.Choosing.{chosen, Chooses}
use Rattle.rv_select.specs.Passed.{StandsAside, ChoosesArguments, AreChosen, ArePlaced}
use Rattle.rv_select.specs.Selected.{AreAside}
use Rattle.rv_emit.proofs.Contained.{get_left, get_right}

module _ (f : Function) (args : List ℕ) (k t to : ℕ) (was new : Placed) (lt : k < length args)
    (e : t ≡ get_or args k t) (comes : to ≡ 10 + k) (all : ChoosesArguments f args) where
  is : slice_get args k ≡ Some t
  is = slice_get-get_or args k t lt ∙ ap Some (sym e)

  pub chosen_next : (0 < to → Chooses f t → AreChosen f was.others.items → AreChosen f new.others.items)
      → AreChosen f was.others.items → AreChosen f new.others.items
  chosen_next step h = step (omega (arith, comes)) (all.each k t is) h

  module _ (aside : AreAside (chosen f) args) (moves : StandsAside f t → new.moves.items ≡ was.moves.items)
      (others : StandsAside f t → new.others.items ≡ was.others.items ++ record { to = to; temp = t } ∷ [])
      (h : ArePlaced args (min (length args) k) was) where
    stands : StandsAside f t
    stands = record { chooses = all.each k t is; aside = λ q i. aside t q (k, is) i.home }

    abbrev next : Bring
    next = record { to = to; temp = t }

    long : length was.others.items ≡ k
    long = h.len ∙ omega (arith, lt)

    placed_each : (j u : ℕ) → j < min (length args) (k + 1) → slice_get args j ≡ Some u
        → slice_get (was.others.items ++ next ∷ []) j ≡ Some (record { to = 10 + j; temp = u })
    placed_each j u below there = ⊎_elim
        (λ (l : j < k). get_left was.others.items (next ∷ []) j (omega (arith, l, long))
        ∙ h.each j u (omega (arith, l, lt)) there)
        (λ (l : k ≤ j).
        let same : j ≡ length was.others.items + 0 = omega (arith, l, below, long) in
        let here : j ≡ k = omega (arith, l, below) in
        let item : u ≡ t = same_Some u t (sym there ∙ ap (slice_get args) here ∙ is) in
        ap (slice_get (was.others.items ++ next ∷ [])) same ∙ get_right was.others.items (next ∷ []) 0
        ∙ ap (λ n. Some (record { to = n; temp = t })) (comes ∙ ap (λ n. 10 + n) (sym here))
        ∙ ap (λ n. Some (record { to = 10 + j; temp = n })) (sym item))
        (cases_lt j k)

    pub placed_next : ArePlaced args (min (length args) (k + 1)) new
    placed_next =
        let size = length-append was.others.items (next ∷ []) in
        record {
          none = moves stands ∙ h.none;
          len = ap length (others stands) ∙ omega (arith, size, long, lt);
          each = λ j u below there. ap (λ xs. slice_get xs j) (others stands) ∙ placed_each j u below there;
        }
