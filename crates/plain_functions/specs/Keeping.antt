-- Plain functions keep to registers.
use Rattle.std.specs.Prelude.{◌≡◌, ℕ, ◌+◌, ◌*◌, ◌≤◌, pos, List, ◌++◌, length, map, replicate, Some, slice_get}
use Rattle.elf_file.specs.declared.image.Line.{Line}
use Rattle.obj_mem.specs.declared.map.Frame.{Frame}
use Rattle.reg_alloc.specs.declared.places.Places.{Places}
use Rattle.rv_instr.specs.declared.instr.Instr.{Instr}
use Rattle.rv_instr.specs.declared.instr.Instr.TheVariants.{Cjal}
use Rattle.rv_emit.specs.Growing.{AreEntries}
use Rattle.rv_select.specs.Selected.{Before, IsSelected}
use Rattle.select_words.specs.ContainedCode.{EndsInPlainJump}
use Rattle.tac_ir.specs.declared.code.TacFun.{TacFun}
use Rattle.plain_functions.specs.Plain.{IsPlain, returns}
use Rattle.plain_functions.specs.Stretches.{stretch, loads_in, stores_in}

-- The words of a function store at most the link and the twelve registers that a callee keeps. They load at most these
-- at each return and once more, and each parameter once
pub record KeepsToRegisters (f : TacFun) (words : List Instr) : Type 0 where
  pub stores : stores_in words ≤ 13
  pub loads : loads_in words ≤ 13 * (returns f + 1) + f.params

-- So does the stretch of each plain function, in a text with this base whose functions are entered at these places
abbrev pub PlainFunctionsKeep : (base : ℕ) → (text : List Instr) → (entries : List ℕ) → List TacFun → List Places →
    Type 0
PlainFunctionsKeep base text entries funs places =
    (fun entry : ℕ) (f : TacFun) (l : Places) → slice_get funs fun ≡ Some f → slice_get places fun ≡ Some l
    → slice_get entries fun ≡ Some entry → IsPlain f l.homes → KeepsToRegisters f (stretch base text entries entry)

-- a frame with no greater alignment than that of a capability: one with a greater keeps the caller's stack besides
pub record HasLowFrame (frames : List Frame) (fun : ℕ) : Type 0 where
  pub frame : Frame
  pub there : slice_get frames fun ≡ Some frame
  pub low : frame.align ≤ 16

-- each plain function has such a frame
abbrev pub PlainFramesAreLow : List TacFun → List Places → List Frame → Type 0
PlainFramesAreLow funs places frames =
    (fun : ℕ) (f : TacFun) (l : Places) → slice_get funs fun ≡ Some f → slice_get places fun ≡ Some l
    → IsPlain f l.homes → HasLowFrame frames fun

-- In selected words, with jumps to themselves behind them, and wherever the text has its base
abbrev pub PlainFunctionsKeepToRegisters : Type 0
PlainFunctionsKeepToRegisters =
    (funs : List TacFun) (places : List Places) (frames : List Frame) (table : Before) (main : ℕ) (code : List Instr)
    (lines : List Line) (entries : List ℕ) → IsSelected funs places frames table main code lines entries
    → length entries ≡ length funs → AreEntries (length code) entries → EndsInPlainJump code
    → PlainFramesAreLow funs places frames → (base more : ℕ)
    → PlainFunctionsKeep base (code ++ replicate more (Cjal 0 (pos 0))) (map (λ at. base + at) entries) funs places
