-- The words of a number are those that are asked for.
use Rattle.std.proofs.Common.{◌≡◌, ℕ, zero, suc, ◌<◌, List, [], ◌∷◌, ◌++◌, ◌∙◌, length, ap, subst, sym, arith}
use Rattle.std.specs.List.{All}
use Rattle.rv_instr.specs.declared.instr.Instr.{Instr}
use Rattle.purecap_abi.specs.Numbers.{number_after, IsNumberWord, Makes}
use Rattle.select_words.specs.Numbers.{AreNumberWords, MakesNumber}

own_words : (to : ℕ) (ws : List Instr) → All (IsNumberWord to) ws → AreNumberWords to ws
own_words to [] h = tt
own_words to (i ∷ is) h = (h zero i (omega arith), own_words to is (λ k d lt. h (suc k) d (omega arith)))

some_words : (value : ℕ) (ws : List Instr) → ((x : ℕ) → number_after ws x ≡ value) → 0 < length ws
unfolding number_after
some_words value [] h = let a = h 0 in let b = h 1 in absurd (omega (arith, a, b))
some_words value (i ∷ is) h = omega arith

pub number_made : (to value : ℕ) (old new : List Instr) → old ≡ [] → 0 < to → Makes to value old new
    → MakesNumber to value new
number_made to value old new e lt m =
    let same = m.is ∙ ap (λ v. v ++ m.added) e in
    subst (MakesNumber to value) (sym same) (record {
      own = own_words to m.added m.own;
      some = some_words value m.added (λ x. m.made x lt);
      made = λ x. m.made x lt;
    })
