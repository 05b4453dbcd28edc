-- What is put to the output where a text is asked for: a map, a listing, or a summary.
use Rattle.std.specs.Prelude.{◌≡◌, ℕ, ◌<◌, List, [], ◌++◌, codes, decimal}
use Rattle.std.specs.Io.KnownBytes.{Appends}
use Rattle.ck_base.specs.Calls.{Seen}
use Rattle.ck_base.specs.Outside.{AppendsPart}
use Rattle.accepted_files.specs.Accepted.{Accepts}
use Rattle.c_tree.specs.declared.typed.Typed.{Typed}
use Rattle.obj_mem.specs.declared.map.Map.{Map}
use Rattle.typed_build.specs.Built.{IsBuilt}
use Rattle.command_modes.specs.Answers.{line_of}
use Rattle.command_modes.specs.declared.answer.Answer.{Answer}
use Rattle.command_modes.specs.declared.answer.Answer.TheVariants.{Shown, Output}

-- the file is accepted as the program, of which the bytes, the map and the count are built
pub record IsProgramOf (file : List ℕ) (program : Typed) (elf : List ℕ) (map : Map) (count : ℕ) : Type 0 where
  pub accepted : Accepts file program
  pub built : IsBuilt program elf map count

-- nothing was taken from the input, and it did not fail
pub record SameInput (before after : Seen) : Type 0 where
  pub left : after.left ≡ before.left
  pub faults : after.source_faults ≡ before.source_faults

-- the text was put; or the output failed after a front of it
abbrev pub PutSays : Seen → Seen → List ℕ → Answer → Type 0
PutSays before after text Shown =
    SameInput before after × Appends before.held after.held text × (after.sink_faults ≡ before.sink_faults)
PutSays before after text Output =
    SameInput before after × AppendsPart before.held after.held text × (before.sink_faults < after.sink_faults)
PutSays before after text answer = ⊥

-- the summary of a generated file, which has no markers: how many functions and bytes it has, and the line that its
-- run answers
abbrev pub summary : (functions bytes : ℕ) → Answer → List ℕ
summary functions bytes ran =
    codes "functions " ++ decimal functions ++ codes "\nsource " ++ decimal bytes ++ codes "\n" ++ line_of [] ran
