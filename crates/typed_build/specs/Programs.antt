-- The machine code of a program, as it was selected from three-address code, homes and frames.
use Rattle.std.specs.Prelude.{◌≡◌, ℕ, List, length, slice_get, Some}
use Rattle.c_tree.specs.declared.typed.Typed.{Typed}
use Rattle.reg_alloc.specs.declared.places.Places.{Places}
use Rattle.rv_select.specs.Selectable.{before}
use Rattle.rv_select.specs.Selected.{IsSelected}
use Rattle.tac_ir.specs.declared.code.Tac.{Tac}
use Rattle.tac_ir.specs.declared.code.TacFun.{TacFun}
use Rattle.temp_homes.specs.Keeping.{KeepsTemps}
use Rattle.typed_build.specs.Coded.{IsCode}
use Rattle.typed_build.specs.Frames.{FramesFit}
use Rattle.typed_build.specs.declared.written.Selected.{Selected}

-- each function's homes keep its temps
abbrev pub AreKept : List TacFun → List Places → Type 0
AreKept funs places =
    (k : ℕ) (f : TacFun) (l : Places) → slice_get funs k ≡ Some f → slice_get places k ≡ Some l → KeepsTemps f l.homes

-- The code stands for the program, the homes keep its temps, the frames are for its locals, and of these are the words;
-- they are entered at the first
pub record HasProgram (p : Typed) (code : Tac) (places : List Places) (s : Selected) : Type 0 where
  pub is_code : IsCode p code
  pub each : length places ≡ length code.funs
  pub start : s.start ≡ 0
  pub keeps : AreKept code.funs places
  pub frames : FramesFit p code.funs places s.frames.items
  pub selected : IsSelected code.funs places s.frames.items (before p) p.main s.code.items s.lines.items s.entries.items
