-- Lists with some items replaced, one after another.
use Rattle.std.proofs.Common.{◌≡◌, ℕ, ◌+◌, ◌-◌, ◌<◌, ◌≤◌, ltb, List, [], ◌++◌, length, take, drop, get_or, sym, ap, ◌∙◌}
use Rattle.std.proofs.Common.{arith, inl, inr}
use Rattle.std.proofs.lemmas.Bool.{cases_Bool, ltb-true, ltb-false}
use Rattle.std.proofs.lemmas.List.{length-append, length-drop, length-take-le, get_or-take, get_or-drop}
use Rattle.std.proofs.lemmas.List.{get_or_append_left, get_or-append-add, same_lists, take-append-drop}
use Rattle.tag_mem.specs.Memory.{replaced}
use Rattle.tag_mem.proofs.InArea.{length-replaced, get_or-replaced_inside, get_or-replaced_outside}

module _ {X : Type 0} (place n o : ℕ) (new xs : List X) (long : place + n ≤ length xs)
    (within : o + length new ≤ n) where
  abbrev part : List X
  part = take n (drop place xs)

  length-part : length part ≡ n
  length-part = length-take-le n (drop place xs) (omega (arith, long, length-drop place xs))

  length-inner : length (replaced o new part) ≡ n
  length-inner = length-replaced o new part (omega (arith, within, length-part)) ∙ length-part

  get_or-part : (k : ℕ) (d : X) → k < n → get_or part k d ≡ get_or xs (place + k) d
  get_or-part k d lt = get_or-take n (drop place xs) k d lt ∙ get_or-drop place xs k d

  inside : (i : ℕ) (d : X) → place ≤ i → i < place + n →
      get_or (replaced o new part) (i - place) d ≡ get_or (replaced (place + o) new xs) i d
  inside i d low high =
      let fits : o + length new ≤ length part = omega (arith, within, length-part) in
      let whole : place + o + length new ≤ length xs = omega (arith, within, long) in
      let old : get_or part (i - place) d ≡ get_or xs i d =
      get_or-part (i - place) d (omega arith) ∙ ap (λ k. get_or xs k d) (omega arith) in
      elim (cases_Bool (ltb i (place + o))) [
        | inl t ↦
            let before = ltb-true i (place + o) t in
            get_or-replaced_outside o new part (i - place) d fits (inl (omega (arith, before)))
            ∙ old ∙ sym (get_or-replaced_outside (place + o) new xs i d whole (inl before))
        | inr f ↦
            let from = ltb-false i (place + o) f in
            elim (cases_Bool (ltb i (place + o + length new))) [
              | inl t ↦
                  let to = ltb-true i (place + o + length new) t in
                  get_or-replaced_inside o new part (i - place) d fits (omega (arith, from)) (omega (arith, from, to))
                  ∙ ap (λ k. get_or new k d) (omega (arith, from))
                  ∙ sym (get_or-replaced_inside (place + o) new xs i d whole from to)
              | inr g ↦
                  let behind = ltb-false i (place + o + length new) g in
                  get_or-replaced_outside o new part (i - place) d fits (inr (omega (arith, behind)))
                  ∙ old ∙ sym (get_or-replaced_outside (place + o) new xs i d whole (inr behind))
            ]
      ]

  -- a part with a part of it replaced, replaced
  pub replaced_within : replaced place (replaced o new part) xs ≡ replaced (place + o) new xs
  replaced_within =
      let fits : place + length (replaced o new part) ≤ length xs = omega (arith, long, length-inner) in
      let whole : place + o + length new ≤ length xs = omega (arith, within, long) in
      same_lists (replaced place (replaced o new part) xs) (replaced (place + o) new xs)
      (length-replaced place (replaced o new part) xs fits ∙ sym (length-replaced (place + o) new xs whole)) (λ i d lt.
      elim (cases_Bool (ltb i place)) [
        | inl t ↦
            let before = ltb-true i place t in
            get_or-replaced_outside place (replaced o new part) xs i d fits (inl before)
            ∙ sym (get_or-replaced_outside (place + o) new xs i d whole (inl (omega (arith, before))))
        | inr f ↦
            let from = ltb-false i place f in
            elim (cases_Bool (ltb i (place + n))) [
              | inl t ↦
                  let to = ltb-true i (place + n) t in
                  get_or-replaced_inside place (replaced o new part) xs i d fits from (omega (arith, to, length-inner))
                  ∙ inside i d from to
              | inr g ↦
                  let behind = ltb-false i (place + n) g in
                  get_or-replaced_outside place (replaced o new part) xs i d fits
                  (inr (omega (arith, behind, length-inner)))
                  ∙ sym (get_or-replaced_outside (place + o) new xs i d whole (inr (omega (arith, behind, within))))
            ]
      ])

-- some items replaced, and then those behind them
pub replaced_more : {X : Type 0} (place : ℕ) (first new xs : List X) → place + length first + length new ≤ length xs
    → replaced (place + length first) new (replaced place first xs) ≡ replaced place (first ++ new) xs
replaced_more {X} place first new xs long =
    let size = length-append first new in
    let fits : place + length first ≤ length xs = omega (arith, long) in
    let whole : place + length (first ++ new) ≤ length xs = omega (arith, long, size) in
    let same = length-replaced place first xs fits in
    let then : place + length first + length new ≤ length (replaced place first xs) = omega (arith, long, same) in
    same_lists (replaced (place + length first) new (replaced place first xs)) (replaced place (first ++ new) xs)
    (length-replaced (place + length first) new (replaced place first xs)
    then ∙ same ∙ sym (length-replaced place (first ++ new) xs whole)) (λ i d lt.
    elim (cases_Bool (ltb i (place + length first))) [
      | inl t ↦
          let before = ltb-true i (place + length first) t in
          get_or-replaced_outside (place + length first) new (replaced place first xs) i d
          then (inl before) ∙ elim (cases_Bool (ltb i place)) [
            | inl t2 ↦
                let early = ltb-true i place t2 in
                get_or-replaced_outside place first xs i d fits (inl early)
                ∙ sym (get_or-replaced_outside place (first ++ new) xs i d whole (inl early))
            | inr f2 ↦
                let from = ltb-false i place f2 in
                get_or-replaced_inside place first xs i d fits from before
                ∙ sym (get_or-replaced_inside place (first ++ new) xs i d whole from (omega (arith, before, size))
                ∙ get_or_append_left first new d (i - place) (omega (arith, before, from)))
          ]
      | inr f ↦
          let from = ltb-false i (place + length first) f in
          elim (cases_Bool (ltb i (place + length first + length new))) [
            | inl t ↦
                let to = ltb-true i (place + length first + length new) t in
                get_or-replaced_inside (place + length first) new (replaced place first xs) i d then from to
                ∙ sym (get_or-replaced_inside place (first ++ new) xs i d whole (omega (arith, from))
                (omega (arith, to, size))
                ∙ ap (λ k. get_or (first ++ new) k d) (omega (arith, from))
                ∙ get_or-append-add first new (i - (place + length first)) d)
            | inr g ↦
                let behind = ltb-false i (place + length first + length new) g in
                get_or-replaced_outside (place + length first) new (replaced place first xs) i d then (inr behind)
                ∙ get_or-replaced_outside place first xs i d fits (inr (omega (arith, behind)))
                ∙ sym (get_or-replaced_outside place (first ++ new) xs i d whole (inr (omega (arith, behind, size))))
          ]
    ])

-- no items replaced
pub replaced_none : {X : Type 0} (place : ℕ) (xs : List X) → replaced place [] xs ≡ xs
replaced_none {X} place xs =
    let at : place + length {A = X} [] ≡ place = omega arith in
    ap (λ (k : ℕ). take place xs ++ drop k xs) at ∙ take-append-drop place xs
