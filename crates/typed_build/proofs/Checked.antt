-- A function has one list of live intervals and one set of calls, so homes that were made for some are homes for all.
use Rattle.std.proofs.Common.{◌≡◌, ℕ, ◌≤◌, List, length, get_or, Result, Ok, Err, sym, ap, subst, ◌∙◌, arith}
use Rattle.std.proofs.Common.{inl, inr}
use Rattle.std.specs.Prelude.{IfOk}
use Rattle.std.specs.List.{All}
use Rattle.std.proofs.lemmas.Bool.{cases_lt}
use Rattle.std.proofs.lemmas.List.{same_lists}
use Rattle.std.proofs.lemmas.Option.{slice_get-get_or}
use Rattle.reg_alloc.specs.Placed.{Fits, IsCrossed, IsPlaced, IsRegister, IsRelaxed, IsSlotBelow}
use Rattle.reg_alloc.specs.declared.intervals.Interval.{Interval}
use Rattle.reg_alloc.specs.declared.places.Home.{Home}
use Rattle.reg_alloc.specs.declared.places.Home.TheVariants.{Register, Slot}
use Rattle.reg_alloc.specs.declared.places.Places.{Places}
use Rattle.tac_ir.specs.Intervals.{IsLive, IsUnused}
use Rattle.tac_ir.specs.declared.code.TacFun.{TacFun}
use Rattle.tac_ir.specs.declared.code.TacInstr.{TacInstr}
use Rattle.tac_live.specs.Calls.{AreCalls}
use Rattle.tac_live.specs.Live.{AreLive}
use Rattle.typed_build.specs.Registers.{AreChecked, ArePlacesOf}

-- ---- intervals

module _ (f : TacFun) (t a b c d : ℕ) (v : IsLive f t a b) (w : IsLive f t c d) where
  first_upto : c ≤ a
  first_upto = elim (cases_lt a c) as (λ _. c ≤ a) [
    | inl before ↦
        let used : IsUnused f t → ⊥ = λ u. omega (arith, before, (v.unused u).0, (w.unused u).0) in
        (v.least used c d w.covers).0
    | inr behind ↦ behind
  ]

  last_from : b ≤ d
  last_from = elim (cases_lt d b) as (λ _. b ≤ d) [
    | inl behind ↦
        let used : IsUnused f t → ⊥ = λ u. omega (arith, behind, (v.unused u).1, (w.unused u).1) in
        (v.least used c d w.covers).1
    | inr before ↦ before
  ]

same_interval : (f : TacFun) (t : ℕ) (v w : Interval) → IsLive f t v.first v.last → IsLive f t w.first w.last → v ≡ w
same_interval f t v w a b =
    let first : v.first ≡ w.first =
    omega (
      arith,
      first_upto f t v.first v.last w.first w.last a b,
      first_upto f t w.first w.last v.first v.last b a,
    ) in
    let last : v.last ≡ w.last =
    omega (
      arith,
      last_from f t v.first v.last w.first w.last a b,
      last_from f t w.first w.last v.first v.last b a,
    ) in
    let made : ℕ → ℕ → Interval = λ m n. record { first = m; last = n } in
    ap (λ m. made m v.last) first ∙ ap (made w.first) last

same_live : (f : TacFun) (vs ws : List Interval) → AreLive f vs → AreLive f ws → vs ≡ ws
same_live f vs ws a b =
    same_lists vs ws (a.len ∙ sym b.len)
    (λ k d lt. same_interval f k (get_or vs k d) (get_or ws k d) (a.exact k _ (slice_get-get_or vs k d lt))
    (b.exact k _ (slice_get-get_or ws k d (omega (arith, lt, a.len, b.len)))))

-- ---- calls

crossed : (code : List TacInstr) (cs ds : List ℕ) (v : Interval) → AreCalls code cs → AreCalls code ds → IsCrossed cs v
    → IsCrossed ds v
crossed code cs ds v a b x = (x.0, b.complete x.0 (a.sound x.0 x.1), x.2, x.3)

fits : (code : List TacInstr) (cs ds : List ℕ) (v : Interval) (h : Home) → AreCalls code cs → AreCalls code ds
    → Fits cs v h → Fits ds v h
fits code cs ds v (Register r) a b g = (g.0, λ x. g.1 (crossed code ds cs v b a x))
fits code cs ds v (Slot s) a b g = tt

-- ---- homes

pub places_of : (f : TacFun) (live : List Interval) (calls : List ℕ) (homes : List Home) → AreLive f live
    → AreCalls f.code calls → AreChecked live calls homes → ArePlacesOf f homes
places_of f live cs homes l c h live' ds l' c' =
    subst (λ vs. AreChecked vs ds homes) (same_live f live live' l l') (record {
      placed = record {
        one_each = h.placed.one_each;
        fit = λ i v g e a. fits f.code cs ds v g c c' (h.placed.fit i v g e a);
        apart = h.placed.apart;
      };
      slots = h.slots;
      registers = λ r. h.registers (record {
        few = r.few;
        uncrossed = λ i v e x. r.uncrossed i v e (crossed f.code cs ds v c c' x);
      });
    })

pub checked : {E : Type 0} (f : TacFun) (live : List Interval) (calls : List ℕ) → AreLive f live
    → AreCalls f.code calls → (r : Result Places E) → IfOk r (λ p. IsPlaced live calls p.homes)
    → IfOk r (λ p. All (IsSlotBelow (length live)) p.homes)
    → (IsRelaxed live calls → IfOk r (λ p. All IsRegister p.homes)) → IfOk r (λ p. ArePlacesOf f p.homes)
checked f live calls l c (Ok p) placed slots registers =
    places_of f live calls p.homes l c (record { placed = placed; slots = slots; registers = registers })
checked f live calls l c (Err e) placed slots registers = tt
