-- The tree of an item in a list whose items name earlier items.
use Rattle.std.proofs.Common.{◌≡◌, ℕ, zero, suc, ◌+◌, ◌<◌, List, [], ◌∷◌, ◌++◌, length, get_or, Some, refl, sym, ap}
use Rattle.std.proofs.Common.{◌∙◌, arith, length-append}
use Rattle.std.specs.Prelude.{slice_get, slice_index_or}
use Rattle.std.proofs.Math.Seq.{get_or-append_seam}
use Rattle.std.proofs.Math.ListN.{get_or-append}
use Rattle.c_tree.specs.Views.{grow, forest}

-- what was there stays
grow-front : {N T : Type 0} (make : N → (ℕ → T) → T) (bad : T) (ns : List N) (ts : List T) (k : ℕ) → k < length ts →
    get_or (grow make bad ns ts) k bad ≡ get_or ts k bad
unfolding grow
grow-front make bad [] ts k lt = refl
grow-front make bad (n ∷ ns) ts k lt =
    let v = make n (λ j. slice_index_or ts j bad) in
    let longer : k < length (ts ++ v ∷ []) = omega (arith, length-append ts (v ∷ [])) in
    grow-front make bad ns (ts ++ v ∷ []) k longer ∙ get_or-append ts (v ∷ []) bad k lt

-- an item's tree is made from the trees before it
pub record Reads {N T : Type 0} (make : N → (ℕ → T) → T) (bad : T) (trees : List T) (k : ℕ) (n : N) : Type 0 where
  pub seen : List T
  pub before : (j : ℕ) → j < k → get_or seen j bad ≡ get_or trees j bad
  pub is : get_or trees k bad ≡ make n (λ j. get_or seen j bad)

reads_some : {A : Type 0} (x y : A) → Some x ≡ Some y → x ≡ y
reads_some x y e = cc

reads_from : {N T : Type 0} (make : N → (ℕ → T) → T) (bad : T) (ns : List N) (ts : List T) (k : ℕ) (n : N) →
    slice_get ns k ≡ Some n → Reads make bad (grow make bad ns ts) (length ts + k) n
unfolding grow
reads_from make bad [] ts k n e = absurd cc
reads_from make bad (x ∷ ns) ts zero n e =
    let v = make x (λ j. slice_index_or ts j bad) in
    let lt : length ts < length (ts ++ v ∷ []) = omega (arith, length-append ts (v ∷ [])) in
    let z : length ts + 0 ≡ length ts = omega arith in
    let at : get_or (grow make bad ns (ts ++ v ∷ [])) (length ts) bad ≡ v =
    grow-front make bad ns (ts ++ v ∷ []) (length ts) lt ∙ get_or-append_seam ts v [] bad in
    record {
      seen = ts;
      before = λ j h. sym (grow-front make bad ns (ts ++ v ∷ []) j (omega (arith, length-append ts (v ∷ [])))
          ∙ get_or-append ts (v ∷ []) bad j (omega arith));
      is = rw z (at ∙ ap (λ m. make m (λ j. slice_index_or ts j bad)) (reads_some x n e));
    }
reads_from make bad (x ∷ ns) ts (suc k) n e =
    let v = make x (λ j. slice_index_or ts j bad) in
    let r = reads_from make bad ns (ts ++ v ∷ []) k n e in
    let z : length ts + suc k ≡ length (ts ++ v ∷ []) + k = omega (arith, length-append ts (v ∷ [])) in
    rw z r

pub forest_reads : {N T : Type 0} (make : N → (ℕ → T) → T) (bad : T) (ns : List N) (k : ℕ) (n : N) →
    slice_get ns k ≡ Some n → Reads make bad (forest make bad ns) k n
forest_reads make bad ns k n e = let z : 0 + k ≡ k = omega arith in rw (← z) (reads_from make bad ns [] k n e)
