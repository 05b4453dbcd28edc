-- The image of a program under a map, and what is then known of the machine to which it loads.
use Rattle.std.specs.Prelude.{◌≡◌, ℕ, ◌<◌, All, List, ◌++◌, Ok, None, Some, slice_get}
use Rattle.rv_instr.specs.declared.instr.Instr.{Instr}
use Rattle.rv_instr.specs.Range.{InRange}
use Rattle.elf_file.specs.declared.image.Image.{Image}
use Rattle.image_load.specs.Judging.{judged, text_of}
use Rattle.image_load.specs.State.{machine_of}
use Rattle.c_tree.specs.Typing.{Sound}
use Rattle.c_tree.specs.declared.typed.Typed.{Typed}
use Rattle.obj_mem.specs.Agreement.{Paired}
use Rattle.obj_mem.specs.Needs.{Legal}
use Rattle.obj_mem.specs.Table.{table_length}
use Rattle.cap_reloc.specs.Begins.{asked_by, beginning, IsRelocation}
use Rattle.cap_reloc.specs.Initial.{AreInitial}
use Rattle.cheri_c_sem.specs.Calls.{first_state}
use Rattle.cheri_c_sem.specs.Modes.{operations, placed_plan}
use Rattle.cheri_c_sem.specs.Programs.{program_tree}
use Rattle.place_inject.specs.Fits.{Fits}
use Rattle.place_inject.specs.Frames.{Setting}
use Rattle.place_inject.specs.Spills.{StackIsThere}
use Rattle.place_inject.specs.Tables.{TableIsThere}
use Rattle.image_starts.specs.Words.{code_bytes}

-- the image's text and initial bytes are bytes
pub record HasBytes (i : Image) : Type 0 where
  pub text : All (λ b. b < 256) i.text
  pub initial : All (λ b. b < 256) i.initial

-- An image that no test of the loader refuses stands at the extents of a setting's map, which is legal for the program
pub record IsImageOf (p : Typed) (s : Setting) (code : List Instr) (i : Image) : Type 0 where
  pub sound : Sound p
  pub legal : Legal p s.map
  pub needs : s.needs ≡ asked_by p
  pub loaded : s.loaded ≡ machine_of i
  pub fine : judged i ≡ Ok tt
  pub bytes : HasBytes i
  pub text : text_of i ≡ s.map.text
  pub table : i.table ≡ s.map.table
  pub heap : i.heap ≡ s.map.heap
  pub stack : i.stack ≡ s.map.stack
  -- the table has one entry for each global, literal and function, one for the heap, and one more
  pub table_long : s.map.table.1 ≡ table_length (asked_by p)
  -- the text begins with the code
  pub in_range : (k : ℕ) (x : Instr) → slice_get code k ≡ Some x → InRange x
  pub behind : List ℕ
  pub begins_with : i.text ≡ code_bytes code ++ behind
  -- the relocations store the capabilities with which the program's pointers begin, and the other bytes begin as its
  -- objects do
  pub relocates : Paired (IsRelocation s.map) (beginning p s.map) i.relocs
  pub begins : AreInitial p s.map i.initial_base i.initial

-- ---- what is then known

abbrev pub ImagesHaveStacks : Type 0
ImagesHaveStacks = (p : Typed) (s : Setting) (code : List Instr) (i : Image) → IsImageOf p s code i → StackIsThere s

abbrev pub ImagesHaveTables : Type 0
ImagesHaveTables = (p : Typed) (s : Setting) (code : List Instr) (i : Image) → IsImageOf p s code i → TableIsThere s

-- The machine stands for the program's first state
abbrev pub ImagesFit : Type 0
ImagesFit = (p : Typed) (s : Setting) (code : List Instr) (i : Image) → IsImageOf p s code i → (turns : ℕ)
    → Fits s None (first_state (operations (placed_plan s.map)) (program_tree p) turns) s.loaded
