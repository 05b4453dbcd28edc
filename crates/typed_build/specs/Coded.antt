-- The code of a program, on its way to the text of its image.
use Rattle.std.specs.Prelude.{◌≡◌, ℕ, ◌+◌, ◌*◌, ◌%◌, ◌^◌, ◌<◌, ◌≤◌, true, List, length, map, slice_get, Some}
use Rattle.std.specs.List.{All}
use Rattle.std.specs.List.Sorted.{IsStrictlyIncreasing}
use Rattle.accepted_files.specs.Accepted.{weight_limit}
use Rattle.c_tree.specs.Weight.{weight}
use Rattle.c_tree.specs.declared.typed.Typed.{Typed}
use Rattle.elf_file.specs.declared.image.Line.{Line}
use Rattle.obj_mem.specs.Legal.{AreFrames}
use Rattle.obj_mem.specs.Needs.{weight_in, function_needs}
use Rattle.rv_instr.specs.Range.{InRange}
use Rattle.rv_instr.specs.declared.instr.Instr.{Instr}
use Rattle.select_words.specs.ContainedCode.{IsContainedCode}
use Rattle.rv_emit.specs.Growing.{AreEntries}
use Rattle.tac_ir.specs.WellFormed.{is_well_formed}
use Rattle.tac_ir.specs.Within.{Within}
use Rattle.tac_ir.specs.declared.code.Tac.{Tac}
use Rattle.tac_ir.specs.declared.code.TacFun.{TacFun}
use Rattle.lower_runs.specs.Programs.{IsProgram}
use Rattle.tac_lower.specs.Runs.{RunsAs}
use Rattle.typed_build.specs.declared.written.Selected.{Selected}

-- three-address code for a program, as selection asks for it, which stands for the program and means the same
pub record IsCode (p : Typed) (t : Tac) : Type 0 where
  pub formed : is_well_formed t p ≡ true
  pub within : Within t p
  pub is : IsProgram p t
  pub same : RunsAs p t
  pub short : (k : ℕ) (f : TacFun) → slice_get t.funs k ≡ Some f → length f.code < 2 ^ 32

-- machine code that has words, no larger than the program allows, with its place of entry and the places of its
-- accesses
pub record IsCoded (p : Typed) (code : List Instr) (start : ℕ) (lines : List Line) : Type 0 where
  pub light : weight p ≤ weight_limit
  pub size : 4 * length code ≤ 128 * weight p + 4096
  pub in_range : (k : ℕ) (i : Instr) → slice_get code k ≡ Some i → InRange i
  pub start_even : start % 4 ≡ 0
  pub start_in : start < 4 * length code
  pub ascend : IsStrictlyIncreasing (map (λ l. l.at) lines)
  pub in_text : All (λ l. l.at < 4 * length code) lines
  pub kinds : All (λ l. l.kind < 2) lines

-- with the frames of its functions, which a legal map may have, and the places where these are entered
pub record Selects (p : Typed) (s : Selected) : Type 0 where
  pub coded : IsCoded p s.code.items s.start s.lines.items
  pub frames : AreFrames (function_needs p.types (weight_in p) 0 p.funs) s.frames.items
  pub each : length s.entries.items ≡ length p.funs
  pub entries : AreEntries (length s.code.items) s.entries.items

-- whose words, entries and start obey the rules of contained code
abbrev pub HasContainedCode : Selected → Type 0
HasContainedCode s = IsContainedCode s.code.items s.entries.items s.start
