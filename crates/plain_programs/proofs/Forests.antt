-- What holds of the tree of each item in a list whose items name earlier items.
use Rattle.std.proofs.Common.{◌≡◌, ℕ, zero, suc, ◌<◌, List, get_or, Some, sym, subst, ⊎_elim, arith}
use Rattle.std.specs.Prelude.{slice_get}
use Rattle.std.proofs.lemmas.Option.{slice_get_cases}
use Rattle.c_tree.specs.Views.{forest}
use Rattle.c_tree.proofs.Forest.{forest_reads}
use Rattle.c_copy.proofs.Copies.{past_end}

-- it holds of each, if it holds of what is made of those before
pub forest_all : {N T : Type 0} (make : N → (ℕ → T) → T) (bad : T) (P : T → Type 0) (ns : List N) → P bad →
    ((k : ℕ) (n : N) (go : ℕ → T) → slice_get ns k ≡ Some n →
    ((j : ℕ) → j < k → go j ≡ get_or (forest make bad ns) j bad) → ((j : ℕ) → j < k → P (go j)) → P (make n go)) →
    (k : ℕ) → P (get_or (forest make bad ns) k bad)
forest_all {N} {T} make bad P ns none step k = up_to (suc k) k (omega arith)
  where
    up_to : (m i : ℕ) → i < m → P (get_or (forest make bad ns) i bad)
    up_to zero i lt = absurd (omega arith)
    up_to (suc m) i lt =
        ⊎_elim
        (λ x.
        let r = forest_reads make bad ns i x.0 x.2 in
        subst P (sym r.is) (step i x.0 (λ j. get_or r.seen j bad) x.2 r.before
        (λ j l. subst P (sym (r.before j l)) (up_to m j (omega arith)))))
        (λ x. subst P (sym (past_end make bad ns i x.0)) none)
        (slice_get_cases ns i).1
