-- The interval of a temp holds each place to which control comes and at which the temp is awaited.
use Rattle.std.proofs.Common.{◌≡◌, ℕ, suc, ◌<◌, ◌≤◌, true, List, [], ◌∷◌, ◌++◌, ◌⊎◌, inl, inr, refl, sym, subst, arith}
use Rattle.std.proofs.lemmas.Bool.{cases_lt, false≢true}
use Rattle.std.proofs.Math.Nat.{eq-or-lt_of_le}
use Rattle.tac_ir.specs.Intervals.{Covers, IsAt, IsStraight, NamesAt, ReadsAt, is_control}
use Rattle.tac_ir.specs.Temps.{Awaits, IsIn, WritesFirst, behind, falls, goes_to, names, reads, writes}
use Rattle.tac_ir.specs.Temps as awaits
use Rattle.tac_ir.specs.declared.code.TacFun.{TacFun}
use Rattle.tac_ir.specs.declared.code.TacInstr.{TacInstr}
use Rattle.tac_ir.specs.declared.code.TacInstr.TheVariants as instr
use Rattle.tac_live.proofs.Numbers.{is_in_append, is_in_cases, is_in_left, is_in_right, same_at}
use Rattle.temp_homes.specs.Keeping as reaches
use Rattle.temp_homes.specs.Keeping.{Reaches}
use Rattle.temp_homes.proofs.Placing.{Leads, StandsAt, at_entry, first, leads, next, placed, same_place}

pub none : (k : ℕ) → IsIn k [] → ⊥
none k (j, h) = cc

jumps : (i : TacInstr) (l : ℕ) → IsIn l (goes_to i) → is_control i ≡ true
jumps (instr.Jump k) l h = refl
jumps (instr.Branch on when k) l h = refl
jumps i l h = absurd (none l h)

module _ (f : TacFun) (t : ℕ) where
  abbrev Awaited : List TacInstr → Type 0
  Awaited is = Awaits reads writes f.code is t

  nothing : (is : List TacInstr) → is ≡ [] → Awaited is → ⊥
  nothing is e a = by (subst Awaited e a)
    where
      by : Awaited [] → ⊥
      by b = elim b [ ]

  -- where the temp is awaited behind a label, that stands there
  label_there : (l n : ℕ) (end : List TacInstr) (d : Leads f.code l n end) → Awaited end →
      (n < d.at) × IsAt f.code d.at (instr.Label l)
  label_there l n end d a = elim d.label [ inl e ↦ absurd (nothing end e a) | inr h ↦ h ]

  reads_at : (n : ℕ) (i : TacInstr) (is : List TacInstr) → StandsAt f.code n (i ∷ is) → IsIn t (reads i) →
      ReadsAt f.code t (suc n)
  reads_at n i is p h = (i, first f.code n i is p, h)

  read_named : (n : ℕ) → ReadsAt f.code t n → NamesAt f.code t n
  read_named n (i, at, h) = (i, at, is_in_right t (writes i) (reads i) h)

  -- ---- a straight temp: it is named on both sides of the place

  record IsBetween (n : ℕ) : Type 0 where
    behind : ℕ
    named_behind : NamesAt f.code t behind
    upto : behind ≤ n
    ahead : ℕ
    named_ahead : NamesAt f.code t ahead
    from : n < ahead

  module _ (h : IsStraight f t) where
    at_read : (n m : ℕ) → ReadsAt f.code t n → NamesAt f.code t m → n ≤ m → (k : ℕ) → suc k ≡ n → IsBetween k
    at_read n m r a le k e =
        let w = h.written_first n r in
        record {
          behind = w.0;
          named_behind = w.2;
          upto = let lt = w.1 in omega arith;
          ahead = m;
          named_ahead = a;
          from = omega arith;
        }

    -- none is where a label stands
    no_label : (n l : ℕ) → IsAt f.code n (instr.Label l) → IsBetween n → ⊥
    no_label n l at b = elim (eq-or-lt_of_le b.upto) [
      | inl e ↦
          let a : NamesAt f.code t n = subst (λ k. NamesAt f.code t k) e b.named_behind in
          none t (subst (λ i. IsIn t (names i)) (same_at f.code n a.0 (instr.Label l) a.1 at) a.2)
      | inr lt ↦ false≢true (sym
          (h.undivided b.behind n b.ahead (instr.Label l) b.named_behind b.named_ahead lt b.from at))
    ]

    between : (n : ℕ) (is : List TacInstr) → StandsAt f.code n is → Awaited is → IsBetween n
    between n is p (awaits.now {i = i} {is = js} r) =
        let x = reads_at n i js p r in at_read (suc n) (suc n) x (read_named (suc n) x) (omega arith) n refl
    between n is p (awaits.onward {i = i} {is = js} fall unwritten a) =
        by (between (suc n) js (next f.code n i js p) a)
      where
        again : IsBetween (suc n) → NamesAt f.code t (suc n) → IsBetween n
        again b m =
            let here : IsIn t (writes i ++ reads i) =
            subst (λ z. IsIn t (names z)) (same_at f.code (suc n) m.0 i m.1 (first f.code n i js p)) m.2 in
            elim (is_in_append t (writes i) (reads i) here) [
              | inl w ↦ absurd (unwritten w)
              | inr r ↦ at_read (suc n) b.ahead (reads_at n i js p r) b.named_ahead
                  (let o = b.from in omega arith) n refl
            ]

        by : IsBetween (suc n) → IsBetween n
        by b = elim (eq-or-lt_of_le b.upto) [
          | inl e ↦ again b (subst (λ k. NamesAt f.code t k) e b.named_behind)
          | inr lt ↦ record {
            behind = b.behind;
            named_behind = b.named_behind;
            upto = omega arith;
            ahead = b.ahead;
            named_ahead = b.named_ahead;
            from = let o = b.from in omega arith;
          }
        ]
    between n is p (awaits.ahead {i = i} {is = js} l g a) =
        let d = leads f.code l (suc n) js (next f.code n i js p) in
        absurd (no_label d.at l (label_there l (suc n) (behind l js) d a).1 (between d.at (behind l js) d.place a))
    between n is p (awaits.back {i = i} {is = js} l g a) =
        let d = leads f.code l 0 f.code (at_entry f.code) in
        absurd (no_label d.at l (label_there l 0 (behind l f.code) d a).1
        (between d.at (behind l f.code) d.place a))

  -- ---- a range that covers the temp

  module _ (s e : ℕ) (c : Covers f t s e) where
    straight_held : IsStraight f t → (n : ℕ) (is : List TacInstr) → StandsAt f.code n is → Awaited is →
        (s ≤ n) × (n < e)
    straight_held h n is p a =
        let b = between h n is p a in
        let x = b.upto in
        let y = b.from in
        let u = (c.named b.behind b.named_behind).0 in
        let v = (c.named b.ahead b.named_ahead).1 in
        (omega arith, omega arith)

    module _ (bent : IsStraight f t → ⊥) where
      -- a way back is a loop
      looped : (m n l : ℕ) (i : TacInstr) (is : List TacInstr) → StandsAt f.code m (instr.Turn ∷ i ∷ is) →
          IsIn l (goes_to i) → IsAt f.code n (instr.Label l) → n ≤ suc (suc m) → n ≤ e → s ≤ suc (suc m) →
          (s ≤ n) × (suc (suc m) ≤ e)
      looped m n l i is p g at le below above =
          c.loops bent n (suc (suc m)) (record {
            label = l;
            jump = i;
            starts = at;
            ends = first f.code (suc m) i is (next f.code m instr.Turn (i ∷ is) p);
            jumps = g;
            ordered = le;
          }) below above

      before_end : (n : ℕ) (is : List TacInstr) → StandsAt f.code n is → Awaited is → (n < e) × (s ≤ e)
      before_end n is p (awaits.now {i = i} {is = js} r) =
          let h = c.named (suc n) (read_named (suc n) (reads_at n i js p r)) in
          let x = h.0 in
          let y = h.1 in
          (omega arith, omega arith)
      before_end n is p (awaits.onward {i = i} {is = js} fall unwritten a) =
          let h = before_end (suc n) js (next f.code n i js p) a in
          let x = h.0 in
          (omega arith, h.1)
      before_end n is p (awaits.ahead {i = i} {is = js} l g a) =
          let d = leads f.code l (suc n) js (next f.code n i js p) in
          let h = before_end d.at (behind l js) d.place a in
          let x = h.0 in
          let y = (label_there l (suc n) (behind l js) d a).0 in
          (omega arith, h.1)
      before_end n is p (awaits.back {i = i} {is = js} l g a) =
          let h = before_end d.at (behind l f.code) d.place a in (by h (cases_lt (suc (suc n)) d.at), h.1)
        where
          d : Leads f.code l 0 (behind l f.code)
          d = leads f.code l 0 f.code (at_entry f.code)

          at : IsAt f.code d.at (instr.Label l)
          at = (label_there l 0 (behind l f.code) d a).1

          by : (d.at < e) × (s ≤ e) → (suc (suc n) < d.at) ⊎ (d.at ≤ suc (suc n)) → n < e
          by (x, y) (inl lt) = omega arith
          by (x, y) (inr le) = elim (cases_lt (suc (suc n)) s) [
            | inl lt ↦ omega arith
            | inr ge ↦ let z = (looped n d.at l i js p g at le (omega arith) ge).1 in omega arith
          ]

      behind_start : WritesFirst f → (is : List TacInstr) → Reaches f.code is → Awaited is → (n : ℕ) →
          StandsAt f.code n is → s ≤ n
      behind_start w is reaches.begins a n p = let z = c.at_entry (w t a) in omega arith
      behind_start w is (reaches.onward {i = i} {is = js} fall r) a n p =
          by (is_in_cases t (writes i)) (λ unwritten.
          behind_start w (i ∷ js) r (awaits.onward fall unwritten a) q.0 q.1)
        where
          q : (k : ℕ) × StandsAt f.code k (i ∷ js)
          q = placed f.code (i ∷ js) r

          same : n ≡ suc q.0
          same = same_place f.code js n (suc q.0) p (next f.code q.0 i js q.1)

          by : IsIn t (writes i) ⊎ (IsIn t (writes i) → ⊥) → ((IsIn t (writes i) → ⊥) → s ≤ q.0) → s ≤ n
          by (inl h) sooner =
              let m = c.named (suc q.0) (i, first f.code q.0 i js q.1, is_in_left t (writes i) (reads i) h) in
              let x = m.0 in
              omega (arith, same)
          by (inr unwritten) sooner = let x = sooner unwritten in omega (arith, same)
      behind_start w is (reaches.ahead {i = i} {is = js} l g r) a n p =
          let q = placed f.code (i ∷ js) r in
          let d = leads f.code l (suc q.0) js (next f.code q.0 i js q.1) in
          let x = behind_start w (i ∷ js) r (awaits.ahead l g a) q.0 q.1 in
          let y = (label_there l (suc q.0) (behind l js) d a).0 in
          omega (arith, same_place f.code (behind l js) n d.at p d.place)
      behind_start w is (reaches.back {i = i} {is = js} l g r) a n p =
          by (behind_start w (instr.Turn ∷ i ∷ js) r (awaits.back l g a) q.0 q.1) (cases_lt (suc (suc q.0)) n)
        where
          q : (k : ℕ) × StandsAt f.code k (instr.Turn ∷ i ∷ js)
          q = placed f.code (instr.Turn ∷ i ∷ js) r

          d : Leads f.code l 0 (behind l f.code)
          d = leads f.code l 0 f.code (at_entry f.code)

          at : IsAt f.code n (instr.Label l)
          at = subst (λ k. IsAt f.code k (instr.Label l)) (same_place f.code (behind l f.code) d.at n d.place p)
              (label_there l 0 (behind l f.code) d a).1

          by : s ≤ q.0 → (suc (suc q.0) < n) ⊎ (n ≤ suc (suc q.0)) → s ≤ n
          by x (inl lt) = omega arith
          by x (inr le) =
              let y = (before_end n (behind l f.code) p a).0 in
              (looped q.0 n l i js q.1 g at le (omega arith) (omega arith)).0

    pub held : WritesFirst f → (is : List TacInstr) → Reaches f.code is → Awaited is → (n : ℕ) →
        StandsAt f.code n is → (s ≤ n) × (n < e)
    held w is r a n p = (by_start (cases_lt n s), by_end (cases_lt n e))
      where
        not_outside : ((s ≤ n) × (n < e) → ⊥) → ⊥
        not_outside both =
            let bent : IsStraight f t → ⊥ = λ h. both (straight_held h n is p a) in
            both (behind_start bent w is r a n p, (before_end bent n is p a).0)

        by_start : (n < s) ⊎ (s ≤ n) → s ≤ n
        by_start (inl lt) = absurd (not_outside (λ h. let x = h.0 in omega arith))
        by_start (inr le) = le

        by_end : (n < e) ⊎ (e ≤ n) → n < e
        by_end (inl lt) = lt
        by_end (inr le) = absurd (not_outside (λ h. let x = h.1 in omega arith))
