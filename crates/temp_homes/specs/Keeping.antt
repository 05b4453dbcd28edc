-- What homes keep of a function's temps, along the ways that control takes through its code.
use Rattle.std.specs.Prelude.{◌≡◌, ◌⊎◌, ℕ, ◌+◌, ◌<◌, ◌≤◌, true, List, ◌∷◌, length, slice_get, Some}
use Rattle.reg_alloc.specs.Placed.{IsKept, IsPlaced, IsUsable, StaysClearAt}
use Rattle.reg_alloc.specs.declared.intervals.Interval.{Interval}
use Rattle.reg_alloc.specs.declared.places.Home.{Home}
use Rattle.reg_alloc.specs.declared.places.Home.TheVariants.{Register}
use Rattle.tac_ir.specs.Temps.{Awaits, IsIn, WritesFirst, behind, falls, goes_to, reads, writes}
use Rattle.tac_ir.specs.declared.code.TacFun.{TacFun}
use Rattle.tac_ir.specs.declared.code.TacInstr.{TacInstr}
use Rattle.tac_ir.specs.declared.code.TacInstr.TheVariants as instr
use Rattle.tac_live.specs.Calls.{AreCalls, arguments, is_call}
use Rattle.tac_live.specs.Live.{AreLive, is_numbered}
use Rattle.select_words.specs.Services.{IsAside}

-- Control may come to a place in a function's code: by going on, by a jump ahead, or back behind a Turn
pub data Reaches (whole : List TacInstr) : List TacInstr → Type 0 where
  begins : Reaches whole whole
  onward : {i : TacInstr} {is : List TacInstr} → falls i ≡ true → Reaches whole (i ∷ is) → Reaches whole is
  ahead : {i : TacInstr} {is : List TacInstr} → (l : ℕ) → IsIn l (goes_to i) → Reaches whole (i ∷ is) →
      Reaches whole (behind l is)
  back : {i : TacInstr} {is : List TacInstr} → (l : ℕ) → IsIn l (goes_to i) → Reaches whole (instr.Turn ∷ i ∷ is) →
      Reaches whole (behind l whole)

-- One home for each temp, in registers that may be homes
pub record KeepsTemps (f : TacFun) (homes : List Home) : Type 0 where
  pub one_each : length homes ≡ f.temps
  pub usable : (temp r : ℕ) → slice_get homes temp ≡ Some (Register r) → IsUsable r
  -- no two parameters stand in one home, and each in the register in which it comes or in none of those of arguments
  pub apart : (j k : ℕ) → j < f.params → k < f.params → (j ≡ k → ⊥) → slice_get homes j ≡ slice_get homes k → ⊥
  pub passed : (k r : ℕ) → k < f.params → slice_get homes k ≡ Some (Register r) → (r ≡ 10 + k) ⊎ IsAside r
  -- no argument of a call to which control comes stands in one of those
  pub aside : (i : TacInstr) (rest : List TacInstr) → Reaches f.code (i ∷ rest) → (a r : ℕ) → IsIn a (arguments i)
      → slice_get homes a ≡ Some (Register r) → IsAside r
  -- nor does a temp that is still to be read stand in the home of another that is written
  pub free : (i : TacInstr) (rest : List TacInstr) → Reaches f.code (i ∷ rest) → (temp other : ℕ)
      → IsIn temp (writes i) → Awaits reads writes f.code rest other → (other ≡ temp → ⊥)
      → slice_get homes other ≡ slice_get homes temp → ⊥
  -- and one that is to be read behind a call, but for its result, stands in no register that functions may change
  pub kept : (i : TacInstr) (rest : List TacInstr) → Reaches f.code (i ∷ rest) → is_call i ≡ true → (temp r : ℕ)
      → (IsIn temp (writes i) → ⊥) → Awaits reads writes f.code rest temp
      → slice_get homes temp ≡ Some (Register r) → IsKept r

-- homes keep the temps of code that names its own temps and writes each before it reads it, where they keep the live
-- intervals apart and stay clear of the arguments
abbrev pub HomesKeepTemps : Type 0
HomesKeepTemps =
    (f : TacFun) (live : List Interval) (calls : List ℕ) (homes : List Home) → AreLive f live → AreCalls f.code calls
    → IsPlaced live calls homes → ((k : ℕ) → StaysClearAt live calls homes k) → is_numbered f ≡ true → WritesFirst f
    → f.params ≤ f.temps → KeepsTemps f homes
