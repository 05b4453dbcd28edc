use Rattle.std.proofs.Common.{◌≡◌, ℕ, true, List, length, Result, Ok, Err, ◌∙◌, arith}
use Rattle.std.specs.Prelude.{IfOk}
use Rattle.std.specs.List.{All}
use Rattle.std.proofs.lemmas.List.Elements.{All-weaker}
use Rattle.reg_alloc.specs.Placed as alloc
use Rattle.reg_alloc.specs.Placed.{IsPlaced, StaysClearAt}
use Rattle.reg_alloc.specs.declared.intervals.Interval.{Interval}
use Rattle.reg_alloc.specs.declared.places.Home.{Home}
use Rattle.reg_alloc.specs.declared.places.Home.TheVariants.{Register, Slot}
use Rattle.reg_alloc.specs.declared.places.Places.{Places}
use Rattle.purecap_abi.specs.Saving.{IsSlotBelow}
use Rattle.tac_ir.specs.declared.code.TacFun.{TacFun}
use Rattle.tac_live.specs.Calls.{AreCalls}
use Rattle.tac_live.specs.Live.{AreLive, is_numbered}
use Rattle.temp_homes.proofs.Kept.{keeps}
use Rattle.typed_build.specs.Frames.{HasHomes}
use Rattle.typed_build.proofs.Checked.{checked}
use Rattle.typed_build.proofs.homes.homes_of.Goals as goal

slot_below : (n m : ℕ) → n ≡ m → (h : Home) → alloc.IsSlotBelow n h → IsSlotBelow m h
slot_below n m e (Register r) b = tt
slot_below n m e (Slot s) b = omega (arith, b, e)

placed_homes : {E : Type 0} (f : TacFun) (live : List Interval) (calls : List ℕ) → AreLive f live
    → AreCalls f.code calls → is_numbered f ≡ true → (r : Result Places E) → IfOk r (λ p. IsPlaced live calls p.homes)
    → IfOk r (λ p. All (alloc.IsSlotBelow (length live)) p.homes)
    → IfOk r (λ p. (i : ℕ) → StaysClearAt live calls p.homes i) → IfOk r (λ p. HasHomes f p.homes)
placed_homes f live calls l c numbered (Ok p) placed slots clear = record {
  len = placed.one_each ∙ l.len;
  slots = All-weaker (alloc.IsSlotBelow (length live)) (IsSlotBelow f.temps) (slot_below (length live) f.temps l.len)
      p.homes slots;
  keeps = λ w params. keeps f live calls p.homes l c placed clear numbered w params;
}
placed_homes f live calls l c numbered (Err e) placed slots clear = tt

pub allocate-requires : goal.allocate-requires
allocate-requires c = omega (arith, c.in_ok-live.ensures.len, c.requires.temps, c.ranges.temps.fits)

pub returns-clause-homes : goal.returns-clause-homes
returns-clause-homes c = placed_homes c.args.f.now c.in_ok-live.live.items c.in_ok-calls.calls.items
    c.in_ok-live.ensures
    c.in_ok-calls.ensures c.requires.countable.numbered c.allocate.result c.allocate.ensures.placed
    c.allocate.ensures.slots c.allocate.ensures.arguments

pub returns-clause-checked : goal.returns-clause-checked
returns-clause-checked c = checked c.args.f.now c.in_ok-live.live.items c.in_ok-calls.calls.items c.in_ok-live.ensures
    c.in_ok-calls.ensures c.allocate.result c.allocate.ensures.placed c.allocate.ensures.slots
    c.allocate.ensures.registers
