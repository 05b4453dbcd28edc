-- Homes and frames of a program's functions.
use Rattle.std.specs.Prelude.{◌≡◌, ℕ, ◌+◌, ◌*◌, ◌^◌, ◌<◌, ◌≤◌, true, List, length, map, slice_get, Some}
use Rattle.std.specs.List.{All}
use Rattle.c_tree.specs.TreeWeight.{function_weight}
use Rattle.c_tree.specs.declared.typed.FunDef.{FunDef}
use Rattle.c_tree.specs.declared.typed.Typed.{Typed}
use Rattle.obj_mem.specs.Legal.{IsFrame}
use Rattle.obj_mem.specs.Needs.{local_needs}
use Rattle.obj_mem.specs.declared.map.Frame.{Frame}
use Rattle.obj_mem.specs.declared.map.Slot.{Slot}
use Rattle.reg_alloc.specs.declared.places.Home.{Home}
use Rattle.reg_alloc.specs.declared.places.Places.{Places}
use Rattle.purecap_abi.specs.Frames.{asked}
use Rattle.purecap_abi.specs.Placing.{greatest_of}
use Rattle.purecap_abi.specs.Saving.{IsSlotBelow, IsFor, registers_at}
use Rattle.tac_ir.specs.Costs.{outgoing}
use Rattle.tac_ir.specs.Temps.{WritesFirst}
use Rattle.tac_ir.specs.declared.code.Tac.{Tac}
use Rattle.tac_ir.specs.declared.code.TacFun.{TacFun}
use Rattle.tac_live.specs.Live.{is_numbered}
use Rattle.temp_homes.specs.Keeping.{KeepsTemps}

-- ---- homes

-- code whose live intervals can be counted
pub record IsCountable (f : TacFun) : Type 0 where
  pub numbered : is_numbered f ≡ true
  pub short : length f.code < 2 ^ 32

abbrev pub AreCountable : Tac → Type 0
AreCountable t = (k : ℕ) (f : TacFun) → slice_get t.funs k ≡ Some f → IsCountable f

-- one home for each temp, and no more slots than temps; they keep the temps of code that writes each before it reads it
pub record HasHomes (f : TacFun) (homes : List Home) : Type 0 where
  pub len : length homes ≡ f.temps
  pub slots : All (IsSlotBelow f.temps) homes
  pub keeps : WritesFirst f → f.params ≤ f.temps → KeepsTemps f homes

-- for each function
abbrev pub HaveHomes : List TacFun → List Places → Type 0
HaveHomes funs places = (k : ℕ) (f : TacFun) (l : Places) → slice_get funs k ≡ Some f → slice_get places k ≡ Some l →
    HasHomes f l.homes

-- ---- frames

-- A frame for these homes that a legal map may have for the function: it is aligned for the locals and no further, its
-- slots stand in their order, each begins inside it, and it has places for the arguments of the function's calls
pub record FrameFits (p : Typed) (d : FunDef) (f : TacFun) (l : Places) (g : Frame) : Type 0 where
  pub legal : IsFrame (record { locals = local_needs p.types d; weight = function_weight p d }) g
  pub framed : IsFor l.homes g
  pub align : g.align ≡ greatest_of (map asked (local_needs p.types d))
  pub in_order : (var : ℕ) (s : Slot) → slice_get g.slots var ≡ Some s → s.var ≡ var
  pub inside : (var : ℕ) (s : Slot) → slice_get g.slots var ≡ Some s → s.at < g.size
  pub room : 16 + 16 * outgoing f.code ≤ registers_at l.homes g

-- for each function
abbrev pub FramesFit : Typed → List TacFun → List Places → List Frame → Type 0
FramesFit p funs places frames =
    (k : ℕ) (d : FunDef) (f : TacFun) (l : Places) (g : Frame) → slice_get p.funs k ≡ Some d
    → slice_get funs k ≡ Some f → slice_get places k ≡ Some l → slice_get frames k ≡ Some g → FrameFits p d f l g
