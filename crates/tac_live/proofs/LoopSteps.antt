-- One more instruction for the loops of some code.
use Rattle.std.proofs.Common.{◌≡◌, ℕ, zero, suc, ◌<◌, ◌≤◌, Bool, true, false, List, [], ◌∷◌, ◌++◌, length, Option, Some}
use Rattle.std.proofs.Common.{None, inl, inr, refl, sym, ap, subst, ◌∙◌, arith}
use Rattle.std.specs.Prelude.{MatchOption, slice_get, slice_index, slice_set, not}
use Rattle.std.proofs.lemmas.Bool.{cases_eq, cases_order, and_parts, not-true, both_ways, or_left, or_right, eq-eqb}
use Rattle.std.proofs.lemmas.Bool.{lt-ltb, le-ltb, ne_eqb}
use Rattle.std.proofs.lemmas.List.{get_or_append_left, get_or_push, get_or_past, length_push, length-set}
use Rattle.std.proofs.lemmas.List.{get_or-set_same, get_or-set_other}
use Rattle.std.specs.Ordering.{nat_cmp, is_eq}
use Rattle.tac_ir.specs.Intervals.{IsAt, IsLoop}
use Rattle.tac_ir.specs.Meaning.{is_label}
use Rattle.tac_ir.specs.Temps.{IsIn, goes_to}
use Rattle.tac_ir.specs.WellFormed.{has_label, label_is_new, labels_differ}
use Rattle.tac_ir.specs.declared.code.TacInstr.{TacInstr}
use Rattle.tac_ir.specs.declared.code.TacInstr.TheVariants as instr
use Rattle.tac_live.proofs.Numbers.{same_at}
use Rattle.tac_live.specs.Loops.{ArePlaces, AreReaches}

-- ---- a label stands once

has_label_at : (code : List TacInstr) (k l : ℕ) → slice_get code k ≡ Some (instr.Label l) → has_label code l ≡ true
has_label_at [] k l h = absurd (cc)
has_label_at (i ∷ is) zero l h =
    let e : instr.Label l ≡ i = cc in
    or_left (is_label i l) (has_label is l) (subst (λ j. is_label j l ≡ true) e (eq-eqb l l refl))
has_label_at (i ∷ is) (suc k) l h = or_right (is_label i l) (has_label is l) (has_label_at is k l h)

apart : (i : TacInstr) (is : List TacInstr) (k l : ℕ) → label_is_new i is ≡ true → i ≡ instr.Label l →
    slice_get is k ≡ Some (instr.Label l) → ⊥
apart i is k l new e h =
    let n : not (has_label is l) ≡ true = subst (λ j. label_is_new j is ≡ true) e new in
    both_ways (has_label is l) (not-true (has_label is l) n) (has_label_at is k l h)

same_place : (code : List TacInstr) (j k l : ℕ) → labels_differ code ≡ true → slice_get code j ≡ Some (instr.Label l) →
    slice_get code k ≡ Some (instr.Label l) → j ≡ k
same_place [] j k l d g h = absurd (cc)
same_place (i ∷ is) zero zero l d g h = refl
same_place (i ∷ is) zero (suc k) l d g h = absurd (apart i is k l ((and_parts (label_is_new i is) _ d).0) (cc) h)
same_place (i ∷ is) (suc j) zero l d g h = absurd (apart i is j l ((and_parts (label_is_new i is) _ d).0) (cc) g)
same_place (i ∷ is) (suc j) (suc k) l d g h = ap suc (same_place is j k l ((and_parts (label_is_new i is) _ d).1) g h)

one_place : (code : List TacInstr) (p q l : ℕ) → labels_differ code ≡ true → IsAt code p (instr.Label l) →
    IsAt code q (instr.Label l) → p ≡ q
one_place code p q l d (j, e, g) (k, f, h) = let s = same_place code j k l d g h in omega arith

-- ---- where labels stand

module _ (code : List TacInstr) (upto at : ℕ) (next : at ≡ suc upto) where
  pub places_same : (place : ℕ → Option ℕ) (i : TacInstr) → IsAt code at i → ((l : ℕ) → i ≡ instr.Label l → ⊥) →
      ArePlaces code upto place → ArePlaces code at place
  places_same place i here other h = record {
    sound = λ l p e. let s = h.sound l p e in (let b = s.0 in omega arith, s.1);
    complete = λ l p a le. elim (cases_eq p at) [
      | inl e ↦ absurd (other l (same_at code at i (instr.Label l) here (subst (λ q. IsAt code q (instr.Label l)) e a)))
      | inr ne ↦ h.complete l p a (omega arith)
    ];
  }

  pub places_more : (place after : ℕ → Option ℕ) (k : ℕ) → labels_differ code ≡ true → IsAt code at (instr.Label k) →
      after k ≡ Some at → ((l : ℕ) → (k ≡ l → ⊥) → after l ≡ place l) → ArePlaces code upto place →
      ArePlaces code at after
  places_more place after k differ here this others h = record { sound = sound; complete = complete }
    where
      sound : (l p : ℕ) → after l ≡ Some p → (p ≤ at) × IsAt code p (instr.Label l)
      sound l p e = elim (cases_eq k l) [
        | inl s ↦
            let here_l : IsAt code at (instr.Label l) = subst (λ m. IsAt code at (instr.Label m)) s here in
            let this_l : after l ≡ Some at = subst (λ m. after m ≡ Some at) s this in
            let q : at ≡ p = cc in
            (omega arith, subst (λ m. IsAt code m (instr.Label l)) q here_l)
        | inr ne ↦
            let o = others l ne in
            let before = h.sound l p (sym o ∙ e) in
            (let b = before.0 in omega arith, before.1)
      ]

      complete : (l p : ℕ) → IsAt code p (instr.Label l) → p ≤ at → after l ≡ Some p
      complete l p a le = elim (cases_eq k l) [
        | inl s ↦
            let here_l : IsAt code at (instr.Label l) = subst (λ m. IsAt code at (instr.Label m)) s here in
            let q : at ≡ p = one_place code at p l differ here_l a in
            subst (λ m. after m ≡ Some at) s this ∙ ap Some q
        | inr ne ↦ elim (cases_eq p at) [
          | inl e ↦
              let same : instr.Label k ≡ instr.Label l =
              same_at code at (instr.Label k) (instr.Label l) here
              (subst (λ q. IsAt code q (instr.Label l)) e a) in
              let q : k ≡ l = cc in
              absurd (ne q)
          | inr before ↦ others l ne ∙ h.complete l p a (omega arith)
        ]
      ]

-- keys by their order
pub other_key : (k l : ℕ) → (k ≡ l → ⊥) → is_eq (nat_cmp k l) ≡ false
other_key k l ne = elim (cases_order k l) [
  | inl e ↦ absurd (ne e)
  | inr o ↦ elim o [
    | inl lt ↦ rw (lt-ltb k l lt) refl
    | inr gt ↦ let le : l ≤ k = omega arith in rw (le-ltb k l le) (rw (ne_eqb k l ne) refl)
  ]
]

-- ---- how far loops reach

module _ (code : List TacInstr) (upto at : ℕ) (reach : List ℕ) (next : at ≡ suc upto)
    (h : AreReaches code upto reach) where
  -- how far they reach where none that ends at the new instruction is known
  more : List ℕ
  more = reach ++ at ∷ []

  more_len : length more ≡ suc at
  unfolding more
  more_len = let l = h.len in omega (arith, length_push reach at)

  more_old : (n : ℕ) → n ≤ upto → slice_index more n ≡ slice_index reach n
  unfolding more
  more_old n le = let l = h.len in get_or_append_left reach (at ∷ []) 0 n (omega arith)

  more_new : slice_index more at ≡ at
  unfolding more
  more_new = let l = h.len in get_or_push reach at 0 at (omega arith)

  more_past : (n : ℕ) → at < n → slice_index more n ≡ 0
  more_past n lt = let l = more_len in get_or_past more n 0 (omega arith)

  more_onward : (n : ℕ) → n ≤ at → n ≤ slice_index more n
  more_onward n le = elim (cases_eq n at) [
    | inl e ↦ subst (λ m. m ≤ slice_index more m) (sym e) (let a = more_new in omega arith)
    | inr ne ↦ let o = h.onward n (omega arith) in let a = more_old n (omega arith) in omega arith
  ]

  more_bound : (n : ℕ) → slice_index more n ≤ at
  more_bound n = elim (cases_order n at) [
    | inl e ↦ subst (λ m. slice_index more m ≤ at) (sym e) (let a = more_new in omega arith)
    | inr o ↦ elim o [
      | inl lt ↦ let b = h.bound n in let a = more_old n (omega arith) in omega arith
      | inr gt ↦ let a = more_past n gt in omega arith
    ]
  ]

  more_loops : (n : ℕ) → n < slice_index more n → IsLoop code n (slice_index more n)
  more_loops n lt = elim (cases_order n at) [
    | inl e ↦ absurd (let b = more_bound n in omega arith)
    | inr o ↦ elim o [
      | inl below ↦
          let a = more_old n (omega arith) in
          subst (λ m. IsLoop code n m) (sym a) (h.loops n (omega arith))
      | inr above ↦ absurd (let a = more_past n above in omega arith)
    ]
  ]

  more_longest : (from to : ℕ) → IsLoop code from to → to ≤ upto → to ≤ slice_index more from
  more_longest from to l le =
      let o = l.ordered in let a = more_old from (omega arith) in let b = h.longest from to l le in omega arith

  pub reaches_other : ((from : ℕ) → IsLoop code from at → ⊥) → AreReaches code at (reach ++ at ∷ [])
  unfolding more more_len more_onward more_bound more_loops more_longest
  reaches_other none = record {
    len = more_len;
    onward = more_onward;
    bound = more_bound;
    loops = more_loops;
    longest = λ from to l le. elim (cases_eq to at) [
      | inl e ↦ absurd (none from (subst (λ m. IsLoop code from m) e l))
      | inr ne ↦ more_longest from to l (omega arith)
    ];
  }

  module _ (begin : ℕ) (loop : IsLoop code begin at) (early : begin < at)
      (only : (from : ℕ) → IsLoop code from at → from ≡ begin) where
    begin_in : begin < length more
    begin_in = let l = more_len in omega arith

    set_here : slice_index (slice_set more begin at) begin ≡ at
    set_here = get_or-set_same more begin at 0 begin_in

    set_other : (n : ℕ) → (n ≡ begin → ⊥) → slice_index (slice_set more begin at) n ≡ slice_index more n
    set_other n ne = get_or-set_other more begin n at 0 ne

    pub reaches_jump : AreReaches code at (slice_set (reach ++ at ∷ []) begin at)
    unfolding more
    reaches_jump = record {
      len = length-set more begin at ∙ more_len;
      onward = λ n le. elim (cases_eq n begin) [
        | inl e ↦ subst (λ m. m ≤ slice_index (slice_set more begin at) m) (sym e) (let a = set_here in omega arith)
        | inr ne ↦ let a = set_other n ne in let o = more_onward n le in omega arith
      ];
      bound = λ n. elim (cases_eq n begin) [
        | inl e ↦ subst (λ m. slice_index (slice_set more begin at) m ≤ at) (sym e) (let a = set_here in omega arith)
        | inr ne ↦ let a = set_other n ne in let o = more_bound n in omega arith
      ];
      loops = λ n lt. elim (cases_eq n begin) [
        | inl e ↦ subst (λ m. IsLoop code m (slice_index (slice_set more begin at) m)) (sym e)
            (subst (λ m. IsLoop code begin m) (sym set_here) loop)
        | inr ne ↦ let a = set_other n ne in subst (λ m. IsLoop code n m) (sym a) (more_loops n (omega arith))
      ];
      longest = λ from to l le. elim (cases_eq from begin) [
        | inl e ↦ subst (λ m. to ≤ slice_index (slice_set more begin at) m) (sym e) (let a = set_here in omega arith)
        | inr ne ↦ elim (cases_eq to at) [
          | inl s ↦ absurd (ne (only from (subst (λ m. IsLoop code from m) s l)))
          | inr before ↦ let a = set_other from ne in let b = more_longest from to l (omega arith) in omega arith
        ]
      ];
    }

-- ---- loops that end at an instruction

module _ (code : List TacInstr) (upto at : ℕ) (place : ℕ → Option ℕ) (i : TacInstr) (next : at ≡ suc upto)
    (here : IsAt code at i) (places : ArePlaces code upto place) where
  pub none_ends : goes_to i ≡ [] → (from : ℕ) → IsLoop code from at → ⊥
  none_ends e from l =
      let s : goes_to l.jump ≡ [] = ap goes_to (same_at code at l.jump i l.ends here) ∙ e in
      nothing (subst (λ ks. IsIn l.label ks) s l.jumps)
    where
      nothing : {k : ℕ} → IsIn k [] → ⊥
      nothing (j, h) = cc

  -- one begins where the label that is jumped to stands
  pub begins : (k from : ℕ) → goes_to i ≡ k ∷ [] → ((m : ℕ) → i ≡ instr.Label m → ⊥) → IsLoop code from at →
      place k ≡ Some from
  begins k from e jump l =
      let s : goes_to l.jump ≡ k ∷ [] = ap goes_to (same_at code at l.jump i l.ends here) ∙ e in
      let same : l.label ≡ k = only (subst (λ ks. IsIn l.label ks) s l.jumps) in
      let stands : IsAt code from (instr.Label k) = subst (λ m. IsAt code from (instr.Label m)) same l.starts in
      let earlier : from ≡ at → ⊥ =
      λ (q : from ≡ at). jump k (same_at code at i (instr.Label k) here
      (subst (λ m. IsAt code m (instr.Label k)) q stands)) in
      let o = l.ordered in
      places.complete k from stands (omega (arith, earlier))
    where
      only : {m : ℕ} → IsIn m (k ∷ []) → m ≡ k
      only (zero, h) = cc
      only (suc j, h) = absurd (cc)

  pub a_loop : (k from : ℕ) → goes_to i ≡ k ∷ [] → place k ≡ Some from → IsLoop code from at
  a_loop k from e p =
      let s = places.sound k from p in
      record {
        label = k;
        jump = i;
        starts = s.1;
        ends = here;
        jumps = subst (λ ks. IsIn k ks) (sym e) (zero, refl);
        ordered = let b = s.0 in omega arith;
      }

-- ---- the arms of the pass

-- an instruction that is no jump or branch goes nowhere
pub goes_nowhere : (i : TacInstr) → ((l : ℕ) → i ≡ instr.Jump l → ⊥) →
    ((on : ℕ) (w : Bool) (l : ℕ) → i ≡ instr.Branch on w l → ⊥) → goes_to i ≡ []
goes_nowhere (instr.Jump l) jump branch = absurd (jump l refl)
goes_nowhere (instr.Branch on w l) jump branch = absurd (branch on w l refl)
goes_nowhere i jump branch = refl

-- what a jump or branch makes of how far loops reach
pub jump_arm : (code : List TacInstr) (upto at : ℕ) (reach : List ℕ) (place : ℕ → Option ℕ) (i : TacInstr) (k : ℕ)
    (old new : List ℕ) → at ≡ suc upto → AreReaches code upto reach → ArePlaces code upto place → IsAt code at i →
    goes_to i ≡ k ∷ [] → ((m : ℕ) → i ≡ instr.Label m → ⊥) → old ≡ reach ++ at ∷ [] →
    MatchOption (place k) (new ≡ old) (λ from. new ≡ slice_set old from at) → AreReaches code at new
jump_arm code upto at reach place i k old new next h places here e other was match = by_place (place k) refl match
  where
    by_place : (o : Option ℕ) → o ≡ place k → MatchOption o (new ≡ old) (λ from. new ≡ slice_set old from at) →
        AreReaches code at new
    by_place None p m =
        let ends : (from : ℕ) → IsLoop code from at → ⊥ = λ from l.
        (let b = begins code upto at place i next here places k from e other l in cc) in
        subst (λ xs. AreReaches code at xs) (sym (m ∙ was)) (reaches_other code upto at reach next h ends)
    by_place (Some from) p m =
        let early = (places.sound k from (sym p)).0 in
        let only : (other_from : ℕ) → IsLoop code other_from at → other_from ≡ from = λ f l.
        (let b = begins code upto at place i next here places k f e other l in cc) in
        subst (λ xs. AreReaches code at xs) (sym (m ∙ ap (λ xs. slice_set xs from at) was))
        (reaches_jump code upto at reach next h from (a_loop code upto at place i next here places k from e (sym p))
        (omega arith) only)
