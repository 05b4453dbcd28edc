-- The words of returns.
use Rattle.std.specs.Prelude.{◌≡◌, ℕ, List, ◌++◌, Option, Some}
use Rattle.rv_instr.specs.declared.instr.Instr.{Instr}
use Rattle.obj_mem.specs.declared.map.Frame.{Frame}
use Rattle.purecap_abi.specs.Ends.{epilogue_code}
use Rattle.tac_ir.specs.Temps.{in_option}
use Rattle.select_words.specs.Services.{Argument}
use Rattle.select_words.specs.Selecting.{Selecting}

-- the value comes to c10, where there is one, and the function ends
pub record ReturnWords (s : Selecting) (v : Option ℕ) (words : List Instr) : Type 0 where
  pub finds : List Instr
  pub found : Argument s (in_option v) finds
  pub frame : Frame
  pub is : s.frame ≡ Some frame
  pub are : words ≡ finds ++ epilogue_code s.homes frame
