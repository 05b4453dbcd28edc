-- Entries stay what they are as code and an entry are added.
use Rattle.std.proofs.Common.{◌≡◌, ℕ, ◌*◌, ◌<◌, ◌≤◌, List, [], ◌∷◌, ◌++◌, length, get_or, sym, subst, arith, rules}
use Rattle.std.proofs.Common.{⊎_elim, ◌⊎◌}
use Rattle.std.proofs.lemmas.List.{length-append}
use Rattle.std.proofs.Math.ListN.{get_or-append}
use Rattle.std.proofs.Math.Seq.{get_or-append_seam}
use Rattle.rv_emit.specs.Growing.{AreEntries}

pub entries_none : (n : ℕ) → AreEntries n []
entries_none n = record {
  whole = λ k h. absurd (omega arith);
  inside = λ k h. absurd (omega arith);
  ascend = λ j k h i. absurd (omega arith);
}

-- an index of a list with one more item is one of the list, or the last
last_or_before : (es : List ℕ) (x k : ℕ) → k < length (es ++ x ∷ []) → (k < length es) ⊎ (k ≡ length es)
last_or_before es x k h =
    let e = length-append es (x ∷ []) in
    first_of (search rules, grind (arith, e))

at_last : (es : List ℕ) (x k : ℕ) → k ≡ length es → get_or (es ++ x ∷ []) k 0 ≡ x
at_last es x k e = subst (λ i. get_or (es ++ x ∷ []) i 0 ≡ x) (sym e) (get_or-append_seam es x [] 0)

pub entries_push : (n m : ℕ) (es : List ℕ) → AreEntries n es → n < m → AreEntries m (es ++ 4 * n ∷ [])
entries_push n m es a h = record {
  whole = λ k i. ⊎_elim
      (λ (w : k < length es). rw (get_or-append es (4 * n ∷ []) 0 k w) (a.whole k w))
      (λ (w : k ≡ length es). rw (at_last es (4 * n) k w) (omega arith))
      (last_or_before es (4 * n) k i);
  inside = λ k i. ⊎_elim
      (λ (w : k < length es). rw (get_or-append es (4 * n ∷ []) 0 k w) (let u = a.inside k w in omega arith))
      (λ (w : k ≡ length es). rw (at_last es (4 * n) k w) (omega arith))
      (last_or_before es (4 * n) k i);
  ascend = λ j k o i. ⊎_elim
      (λ (w : k < length es). let v : j < length es = omega arith in
      rw (get_or-append es (4 * n ∷ []) 0 k w, get_or-append es (4 * n ∷ []) 0 j v) (a.ascend j k o w))
      (λ (w : k ≡ length es). let v : j < length es = omega arith in
      rw (at_last es (4 * n) k w, get_or-append es (4 * n ∷ []) 0 j v) (a.inside j v))
      (last_or_before es (4 * n) k i);
}

pub entries_more : (n m : ℕ) (es : List ℕ) → AreEntries n es → n ≤ m → AreEntries m es
entries_more n m es a h = record {
  whole = a.whole;
  inside = λ k i. let u = a.inside k i in omega arith;
  ascend = a.ascend;
}
