-- Homes that keep the live intervals apart keep the temps.
use Rattle.std.proofs.Common.{◌≡◌, ℕ, suc, ◌+◌, ◌<◌, ◌≤◌, true, List, ◌∷◌, length, get_or, Some, ◌⊎◌}
use Rattle.std.proofs.Common.{inl, inr, refl, ◌∙◌, subst, arith}
use Rattle.std.specs.Prelude.{Contains, slice_get}
use Rattle.std.proofs.lemmas.Bool.{cases_lt}
use Rattle.std.proofs.lemmas.Option.{slice_get-get_or, slice_get_within}
use Rattle.std.proofs.Math.Nat.{eq-or-lt_of_le}
use Rattle.reg_alloc.specs.Placed.{IsCrossed, IsKept, IsPlaced, IsUsable, StaysClearAt}
use Rattle.reg_alloc.specs.declared.intervals.Interval.{Interval}
use Rattle.reg_alloc.specs.declared.places.Home.{Home}
use Rattle.reg_alloc.specs.declared.places.Home.TheVariants.{Register}
use Rattle.select_words.specs.Services.{IsAside}
use Rattle.tac_ir.specs.Intervals.{IsLive}
use Rattle.tac_ir.specs.Temps.{Awaits, IsIn, WritesFirst, falls, names, reads, writes}
use Rattle.tac_ir.specs.Temps as awaits
use Rattle.tac_ir.specs.declared.code.TacFun.{TacFun}
use Rattle.tac_ir.specs.declared.code.TacInstr.{TacInstr}
use Rattle.tac_ir.specs.declared.code.TacInstr.TheVariants as instr
use Rattle.tac_live.proofs.Numbered.{names_its_temps}
use Rattle.tac_live.proofs.Numbers.{is_in_left}
use Rattle.tac_live.specs.Calls.{AreCalls, arguments, is_call}
use Rattle.tac_live.specs.Live.{AreLive, is_numbered}
use Rattle.temp_homes.specs.Keeping as reaches
use Rattle.temp_homes.specs.Keeping.{HomesKeepTemps, KeepsTemps, Reaches}
use Rattle.temp_homes.proofs.Awaited.{held, none}
use Rattle.temp_homes.proofs.Placing.{StandsAt, first, next, placed}

-- ---- instructions

writer_falls : (i : TacInstr) (t : ℕ) → IsIn t (writes i) → falls i ≡ true
writer_falls (instr.Jump l) t h = absurd (none t h)
writer_falls (instr.Return v) t h = absurd (none t h)
writer_falls i t h = refl

call_falls : (i : TacInstr) → is_call i ≡ true → falls i ≡ true
call_falls (instr.Jump l) h = absurd (cc)
call_falls (instr.Return v) h = absurd (cc)
call_falls i h = refl

calls : (i : TacInstr) (a : ℕ) → IsIn a (arguments i) → is_call i ≡ true
calls (instr.Call to fun args) a h = refl
calls (instr.CallValue to v of args place) a h = refl
calls (instr.Lib op to args) a h = refl
calls i a h = absurd (none a h)

passed_read : (i : TacInstr) (a : ℕ) → IsIn a (arguments i) → IsIn a (reads i)
passed_read (instr.Call to fun args) a h = h
passed_read (instr.CallValue to v of args place) a h = (suc h.0, h.1)
passed_read (instr.Lib op to args) a h = h
passed_read i a h = absurd (none a h)

kept_aside : (r : ℕ) → IsKept r → IsAside r
kept_aside r (inl e) = inl (omega arith)
kept_aside r (inr (inl e)) = inl (omega arith)
kept_aside r (inr (inr h)) = inr (let o = h.0 in omega arith)

-- it stands aside unless it is one of c10 to c17
aside_unless : (r : ℕ) → (10 ≤ r → r ≤ 17 → IsAside r) → IsAside r
aside_unless r h = elim (cases_lt r 10) [
  | inl lt ↦ inl lt
  | inr low ↦ elim (cases_lt 17 r) [ inl lt ↦ inr lt | inr high ↦ h low high ]
]

-- ---- homes

module _ (f : TacFun) (live : List Interval) (cs : List ℕ) (homes : List Home) (l : AreLive f live)
    (c : AreCalls f.code cs) (p : IsPlaced live cs homes) (clear : (k : ℕ) → StaysClearAt live cs homes k)
    (numbered : is_numbered f ≡ true) (w : WritesFirst f) (params : f.params ≤ f.temps) where
  abbrev Awaited : List TacInstr → ℕ → Type 0
  Awaited is t = Awaits reads writes f.code is t

  record HasInterval (t : ℕ) : Type 0 where
    v : Interval
    is : slice_get live t ≡ Some v
    exact : IsLive f t v.first v.last

  interval : (t : ℕ) → t < f.temps → HasInterval t
  interval t lt =
      let none : Interval = record { first = 0; last = 0 } in
      let e = slice_get-get_or live t none (omega (arith, l.len)) in
      record { v = get_or live t none; is = e; exact = l.exact t (get_or live t none) e }

  interval_of : (t : ℕ) (h : Home) → slice_get homes t ≡ Some h → HasInterval t
  interval_of t h e = interval t (let lt = slice_get_within homes t h e in omega (arith, l.len, p.one_each))

  parameter : (t : ℕ) → t < f.params → (x : HasInterval t) × (x.v.first ≡ 0)
  parameter t lt = let x = interval t (omega arith) in (x, x.exact.covers.at_entry lt)

  -- the interval of a temp that is awaited where control comes
  there : (is : List TacInstr) → Reaches f.code is → (t : ℕ) → Awaited is t → (x : HasInterval t) → (n : ℕ) →
      StandsAt f.code n is → (x.v.first ≤ n) × (n < x.v.last)
  there is r t a x n at = held f t x.v.first x.v.last x.exact.covers w is r a n at

  is_called : (n : ℕ) (i : TacInstr) (rest : List TacInstr) → StandsAt f.code n (i ∷ rest) → is_call i ≡ true →
      Contains cs (suc n)
  is_called n i rest at h = c.complete (suc n) (i, first f.code n i rest at, h)

  crossed_kept : (t r : ℕ) (x : HasInterval t) → slice_get homes t ≡ Some (Register r) → IsCrossed cs x.v → IsKept r
  crossed_kept t r x e h = (p.fit t x.v (Register r) x.is e).1 h

  one_each : length homes ≡ f.temps
  one_each = p.one_each ∙ l.len

  usable : (t r : ℕ) → slice_get homes t ≡ Some (Register r) → IsUsable r
  usable t r e = let x = interval_of t (Register r) e in (p.fit t x.v (Register r) x.is e).0

  apart : (j k : ℕ) → j < f.params → k < f.params → (j ≡ k → ⊥) → slice_get homes j ≡ slice_get homes k → ⊥
  apart j k before_j before_k ne =
      let x = parameter j before_j in
      let y = parameter k before_k in
      let a = x.1 in
      let b = y.1 in
      p.apart j k ne x.0.v y.0.v x.0.is y.0.is (0, omega arith, omega arith, omega arith, omega arith)

  passed : (k r : ℕ) → k < f.params → slice_get homes k ≡ Some (Register r) → (r ≡ 10 + k) ⊎ IsAside r
  passed k r lt e = by (cases_lt r 10) (cases_lt 17 r)
    where
      x : (x : HasInterval k) × (x.v.first ≡ 0)
      x = parameter k lt

      by : (r < 10) ⊎ (10 ≤ r) → (17 < r) ⊎ (r ≤ 17) → (r ≡ 10 + k) ⊎ IsAside r
      by (inl low) high = inr (inl low)
      by (inr low) (inl high) = inr (inr high)
      by (inr low) (inr high) = inl (clear k x.0.v (Register r) x.0.is e (inl x.1) low high).0

  aside : (i : TacInstr) (rest : List TacInstr) → Reaches f.code (i ∷ rest) → (a r : ℕ) → IsIn a (arguments i) →
      slice_get homes a ≡ Some (Register r) → IsAside r
  aside i rest reached a r h e = by (eq-or-lt_of_le within)
    where
      at : (n : ℕ) × StandsAt f.code n (i ∷ rest)
      at = placed f.code (i ∷ rest) reached

      x : HasInterval a
      x = interval_of a (Register r) e

      call : Contains cs (suc at.0)
      call = is_called at.0 i rest at.1 (calls i a h)

      range : (x.v.first ≤ at.0) × (at.0 < x.v.last)
      range = there (i ∷ rest) reached a (awaits.now (passed_read i a h)) x at.0 at.1

      within : suc at.0 ≤ x.v.last
      within = let o = range.1 in omega arith

      by : (suc at.0 ≡ x.v.last) ⊎ (suc at.0 < x.v.last) → IsAside r
      by (inl end) =
          let last : Contains cs x.v.last = subst (λ n. Contains cs n) end call in
          aside_unless r (λ low high. absurd ((clear a x.v (Register r) x.is e (inr last) low high).2 last))
      by (inr lt) =
          kept_aside r (crossed_kept a r x e (suc at.0, call, let o = range.0 in omega arith, lt))

  free : (i : TacInstr) (rest : List TacInstr) → Reaches f.code (i ∷ rest) → (t other : ℕ) → IsIn t (writes i) →
      Awaited rest other → (other ≡ t → ⊥) → slice_get homes other ≡ slice_get homes t → ⊥
  free i rest reached t other h a ne same =
      let at = placed f.code (i ∷ rest) reached in
      let here = first f.code at.0 i rest at.1 in
      let named : IsIn t (names i) = is_in_left t (writes i) (reads i) h in
      let below = names_its_temps f numbered t (suc at.0) (i, here, named) in
      let y = interval t below in
      let b = y.exact.covers.named (suc at.0) (i, here, named) in
      let home : slice_get homes t ≡ Some (get_or homes t (Register 0)) =
      slice_get-get_or homes t (Register 0) (omega (arith, one_each)) in
      let x = interval_of other (get_or homes t (Register 0)) (same ∙ home) in
      let d = there rest (reaches.onward (writer_falls i t h) reached) other a x (suc at.0)
      (next f.code at.0 i rest at.1) in
      p.apart other t ne x.v y.v x.is y.is (suc at.0, d.0, (let o = d.1 in omega arith), b.0, b.1) same

  kept : (i : TacInstr) (rest : List TacInstr) → Reaches f.code (i ∷ rest) → is_call i ≡ true → (t r : ℕ) →
      (IsIn t (writes i) → ⊥) → Awaited rest t → slice_get homes t ≡ Some (Register r) → IsKept r
  kept i rest reached h t r unwritten a e =
      let at = placed f.code (i ∷ rest) reached in
      let x = interval_of t (Register r) e in
      let fall = call_falls i h in
      let b = there (i ∷ rest) reached t (awaits.onward fall unwritten a) x at.0 at.1 in
      let d = there rest (reaches.onward fall reached) t a x (suc at.0) (next f.code at.0 i rest at.1) in
      crossed_kept t r x e (suc at.0, is_called at.0 i rest at.1 h, (let o = b.0 in omega arith), d.1)

  pub keeps : KeepsTemps f homes
  keeps = record {
    one_each = one_each;
    usable = usable;
    apart = apart;
    passed = passed;
    aside = aside;
    free = free;
    kept = kept;
  }

pub homes_keep_temps_law : HomesKeepTemps
homes_keep_temps_law f live cs homes l c p clear numbered w params =
    keeps f live cs homes l c p clear numbered w params
