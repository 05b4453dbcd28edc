-- Numbers in a row, and what stands for each of a list.
use Rattle.std.proofs.Common.{◌≡◌, ℕ, zero, suc, ◌+◌, ◌<◌, List, [], ◌∷◌, ◌++◌, length, get_or, take, map, Some, refl}
use Rattle.std.proofs.Common.{sym, ap, ◌∙◌, arith}
use Rattle.std.specs.Prelude.{slice_get}
use Rattle.std.proofs.lemmas.List.{map-append, take_more}
use Rattle.std.proofs.lemmas.Option.{slice_get-get_or}
use Rattle.c_tree.specs.Terms.{numbers_from}

-- one number more
pub numbers_more : (a m k : ℕ) → k ≡ a + m → numbers_from a (suc m) ≡ numbers_from a m ++ k ∷ []
numbers_more a zero k e = let q : k ≡ a = e ∙ omega arith in rw q refl
numbers_more a (suc m) k e = ap (λ ks. a ∷ ks) (numbers_more (a + 1) m k (e ∙ omega arith))

-- what stands for the numbers so far, and for one more
pub map_turn : {T : Type 0} (f : ℕ → T) (ks : List ℕ) (i k : ℕ) → i < length ks → k ≡ get_or ks i 0 →
    map f (take (i + 1) ks) ≡ map f (take i ks) ++ f k ∷ []
map_turn f ks i k lt e =
    ap (map f) (take_more ks i 0 lt) ∙ map-append f (take i ks) (get_or ks i 0 ∷ [])
    ∙ ap (λ j. map f (take i ks) ++ f j ∷ []) (sym e)

pub at_index : (ks : List ℕ) (i : ℕ) → i < length ks → slice_get ks i ≡ Some (get_or ks i 0)
at_index ks i lt = slice_get-get_or ks i 0 lt
