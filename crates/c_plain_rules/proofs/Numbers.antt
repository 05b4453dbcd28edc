-- Numbers in their order, and one more.
use Rattle.std.proofs.Common.{◌≡◌, ℕ, zero, suc, ◌+◌, List, [], ◌∷◌, ◌++◌, ap, ◌∙◌, arith}
use Rattle.c_tree.specs.Terms.{numbers_from}

more_numbers : (j n : ℕ) → numbers_from j n ++ (j + n) ∷ [] ≡ numbers_from j (suc n)
more_numbers j zero = ap (λ m. m ∷ []) (let e : j + 0 ≡ j = omega arith in e)
more_numbers j (suc n) = ap (λ ns. j ∷ ns)
    (ap (λ m. numbers_from (j + 1) n ++ m ∷ []) (let e : j + suc n ≡ (j + 1) + n = omega arith in e)
    ∙ more_numbers (j + 1) n)

pub one_number : (ns : List ℕ) (k : ℕ) → ns ≡ numbers_from 0 k → ns ++ k ∷ [] ≡ numbers_from 0 (k + 1)
one_number ns k e =
    ap (λ xs. xs ++ k ∷ []) e ∙ ap (λ m. numbers_from 0 k ++ m ∷ []) (let a : k ≡ 0 + k = omega arith in a)
    ∙ more_numbers 0 k ∙ ap (numbers_from 0) (let b : suc k ≡ k + 1 = omega arith in b)
