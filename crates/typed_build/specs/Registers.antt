-- The three-address code of a program and the homes of its temps, of which its text is made.
use Rattle.std.specs.Prelude.{◌≡◌, ℕ, ◌+◌, true, List, ◌++◌, length, map, slice_get, Ok, Some}
use Rattle.std.specs.List.{All}
use Rattle.c_tree.specs.declared.typed.Typed.{Typed}
use Rattle.image_load.specs.Loading.{Loaded, loading}
use Rattle.obj_mem.specs.declared.map.Map.{Map}
use Rattle.plain_functions.specs.Keeping.{PlainFunctionsKeep}
use Rattle.reg_alloc.specs.Placed.{IsPlaced, IsRegister, IsRelaxed, IsSlotBelow}
use Rattle.reg_alloc.specs.declared.intervals.Interval.{Interval}
use Rattle.reg_alloc.specs.declared.places.Home.{Home}
use Rattle.reg_alloc.specs.declared.places.Places.{Places}
use Rattle.rv_instr.specs.declared.instr.Instr.{Instr}
use Rattle.rv_select.specs.Selectable.{before}
use Rattle.rv_select.specs.Selected.{IsSelected}
use Rattle.tac_ir.specs.WellFormed.{is_well_formed}
use Rattle.tac_ir.specs.Within.{Within}
use Rattle.tac_ir.specs.declared.code.Tac.{Tac}
use Rattle.tac_ir.specs.declared.code.TacFun.{TacFun}
use Rattle.tac_live.specs.Calls.{AreCalls}
use Rattle.tac_live.specs.Live.{AreLive}
use Rattle.tac_lower.specs.Runs.{RunsAs}
use Rattle.typed_build.specs.Frames.{FramesFit}
use Rattle.typed_build.specs.Text.{filler, missing, text_of}

-- ---- homes

-- What homes are for live intervals and calls: `check` of `reg_alloc` says yes of them, no slot has a number past the
-- intervals, and where at most ten intervals hold each instruction and no call crosses one, all are registers
pub record AreChecked (live : List Interval) (calls : List ℕ) (homes : List Home) : Type 0 where
  pub placed : IsPlaced live calls homes
  pub slots : All (IsSlotBelow (length live)) homes
  pub registers : IsRelaxed live calls → All IsRegister homes

-- for the live intervals and the calls of a function
abbrev pub ArePlacesOf : TacFun → List Home → Type 0
ArePlacesOf f homes =
    (live : List Interval) (calls : List ℕ) → AreLive f live → AreCalls f.code calls → AreChecked live calls homes

-- for each function
abbrev pub HavePlaces : List TacFun → List Places → Type 0
HavePlaces funs places = (k : ℕ) (f : TacFun) (l : Places) → slice_get funs k ≡ Some f → slice_get places k ≡ Some l →
    ArePlacesOf f l.homes

-- ---- the text

-- The file loads, and its text is the words of the code with these homes and the map's frames
pub record IsTextOf (p : Typed) (t : Tac) (places : List Places) (file : List ℕ) (m : Map) : Type 0 where
  pub loaded : Loaded
  pub loads : loading file ≡ Ok loaded
  pub words : List Instr
  pub entries : List ℕ
  -- each frame is one for its function's homes and locals
  pub frames : FramesFit p t.funs places m.frames
  -- with these frames, each function's words stand where it is entered, and their traps are told by the file's lines
  pub selected : IsSelected t.funs places m.frames (before p) p.main words loaded.image.lines entries
  -- the words are the text, which is filled
  pub text : loaded.image.text ≡ text_of words
  -- and the map has the places of entry, from the text's base on
  pub entered : m.entries ≡ map (λ at. m.text.0 + at) entries
  -- the stretch of each plain function keeps to registers
  pub plain : PlainFunctionsKeep m.text.0 (words ++ filler (missing (length words))) m.entries t.funs places

-- ---- the code, the homes and the text

-- The code is well formed for the program, no larger than this allows, and does what it means under each legal map;
-- each function has its homes; and of these the text is made
pub record UsesRegisters (p : Typed) (t : Tac) (places : List Places) (file : List ℕ) (m : Map) : Type 0 where
  pub formed : is_well_formed t p ≡ true
  pub within : Within t p
  pub same : RunsAs p t
  pub each : length places ≡ length t.funs
  pub homes : HavePlaces t.funs places
  pub text : IsTextOf p t places file m
