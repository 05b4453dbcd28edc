-- The modes of the command: what each answer says of the files, the input and the output.
use Rattle.std.specs.Prelude.{◌≡◌, ◌⊎◌, ℕ, ◌<◌, List, [], length, Option, Some, None, Ok, Err}
use Rattle.ck_base.specs.Files.{FileMap, HasFile, SameOthers}
use Rattle.ck_base.specs.Calls.{Seen, seen, IsRun, Counted}
use Rattle.ck_base.specs.Runs.{outcome, ending_alone}
use Rattle.stopped_runs.specs.Stopping.{StoppedShort}
use Rattle.ck_base.specs.declared.refusal.Refusal.TheVariants.{Code}
use Rattle.accepted_files.specs.Accepted.{Accepts}
use Rattle.c_tree.specs.declared.typed.Typed.{Typed}
use Rattle.obj_mem.specs.declared.ending.Ending.{Ending}
use Rattle.obj_mem.specs.declared.map.Map.{Map}
use Rattle.cheri_c_sem.specs.Runs.{strict}
use Rattle.mean_steps.specs.Machine.{limits as meant_limits}
use Rattle.cap_machine.specs.declared.end.End.{End}
use Rattle.cap_machine.specs.Containment.{IsProper}
use Rattle.cap_machine.specs.Step.{act, limits}
use Rattle.image_load.specs.Contained.{Contained}
use Rattle.image_load.specs.Loading.{Loaded, loading}
use Rattle.bounds_place.specs.declared.sizes.Sizes.{Sizes}
use Rattle.bounds_place.specs.Sizes.{HasSizes}
use Rattle.cheric_build.specs.FromFile.{IsBuiltFrom, IsFileRefusal}
use Rattle.build_text.specs.Listing.{listing_text}
use Rattle.build_text.specs.Map.{map_text}
use Rattle.generator.specs.Generated.{generated}
use Rattle.command_modes.specs.Answers.{answer_of, meant}
use Rattle.command_modes.specs.Shown.{IsProgramOf, PutSays, summary}
use Rattle.command_modes.specs.declared.answer.Answer.{Answer}
use Rattle.command_modes.specs.declared.answer.Answer.TheVariants.{Built, Refused, NotLoaded, File, Memory}

-- ---- the files

-- what is known of the files at one moment
pub record FilesSeen : Type 0 where
  pub told : Option FileMap
  pub faults : ℕ

abbrev pub files_seen : Option FileMap → ℕ → FilesSeen
files_seen told faults = record { told = told; faults = faults }

-- ---- running

-- A loaded image was run, and its ending answered. (A source tells a list of numbers: that they are bytes, as
-- `RunsAsMeant` asks of a world, is to be known of the source, as of one in memory it is.)
pub record RanLoaded (before after : Seen) (loaded : Loaded) (steps : ℕ) (answer : Answer) : Type 0 where
  pub ending : End
  pub ran : IsRun (outcome limits act ending_alone loaded.machine steps) before after ending
  pub counted : Counted limits before after ending
  -- where the image is contained, as one that was built is: neither Illegal nor Break, whatever the input tells
  pub proper : Contained loaded.image → IsProper ending
  pub answered : answer ≡ answer_of loaded.image ending

-- The bytes that were built of a file for a heap and a stack of these sizes, with their map and count
pub record Compiled (file : List ℕ) (sizes : Sizes) : Type 0 where
  pub elf : List ℕ
  pub map : Map
  pub count : ℕ
  pub built : IsBuiltFrom file elf map count
  pub sized : HasSizes sizes map

-- what the bytes load to
abbrev pub loaded_of : {file : List ℕ} {sizes : Sizes} → Compiled file sizes → Loaded
loaded_of c = c.built.built.image.loaded

-- the file was refused, or there was no memory: nothing was put or taken
abbrev pub NotBuilt : Seen → Seen → List ℕ → Answer → Type 0
NotBuilt before after file (Refused code pos) = (after ≡ before) × IsFileRefusal file (Code code pos)
NotBuilt before after file Memory = after ≡ before
NotBuilt before after file answer = ⊥

-- ---- mode `run`

-- the file was refused, or there was no memory; or the bytes that were built of it were loaded and run
abbrev pub RunSays : Seen → Seen → List ℕ → ℕ → Sizes → Answer → Type 0
RunSays before after file steps sizes answer =
    NotBuilt before after file answer ⊎
    ((compiled : Compiled file sizes) × RanLoaded before after (loaded_of compiled) steps answer)

-- ---- mode `exec`

abbrev pub ExecStopped : Seen → Seen → List ℕ → Answer → Type 0
ExecStopped before after file (NotLoaded number) = (after ≡ before) × (loading file ≡ Err number)
ExecStopped before after file Memory = (after ≡ before) × ((loaded : Loaded) × (loading file ≡ Ok loaded))
ExecStopped before after file answer = ⊥

-- loading refused the file, or did not and there was no memory; or it was loaded and run
abbrev pub ExecSays : Seen → Seen → List ℕ → ℕ → Answer → Type 0
ExecSays before after file steps answer =
    ExecStopped before after file answer ⊎
    ((loaded : Loaded) × (loading file ≡ Ok loaded) × RanLoaded before after loaded steps answer)

-- ---- mode `mean`

-- the file is accepted as a program, of whose strict meaning so many turns were run; and the ending is answered
pub record RanStrict (before after : Seen) (file : List ℕ) (turns : ℕ) (answer : Answer) : Type 0 where
  pub program : Typed
  pub accepted : Accepts file program
  pub ending : Ending
  pub ran : IsRun (λ w. strict program w turns) before after ending
  pub counted : Counted meant_limits before after ending
  pub answered : answer ≡ meant ending

-- the file is accepted as a program, of whose strict meaning so many turns were to be run, and memory stopped that
pub record StoppedStrict (before after : Seen) (file : List ℕ) (turns : ℕ) : Type 0 where
  pub program : Typed
  pub accepted : Accepts file program
  pub short : StoppedShort (λ w. strict program w turns) before after

-- the run stopped for want of memory, or the file was not built
abbrev pub MeanStopped : Seen → Seen → List ℕ → ℕ → Answer → Type 0
MeanStopped before after file turns answer =
    NotBuilt before after file answer ⊎ ((answer ≡ Memory) × StoppedStrict before after file turns)

abbrev pub MeanSays : Seen → Seen → List ℕ → ℕ → Answer → Type 0
MeanSays before after file turns answer =
    MeanStopped before after file turns answer ⊎ RanStrict before after file turns answer

-- ---- mode `build`

-- the bytes stand under the name, no other name changed, and no call of the files failed
pub record HasPut (before after : FilesSeen) (name bytes : List ℕ) : Type 0 where
  pub under : HasFile after.told name bytes
  pub others : SameOthers before.told after.told name
  pub counted : after.faults ≡ before.faults

-- a put under the name failed, and no other name changed
pub record FailedToPut (before after : FilesSeen) (name : List ℕ) : Type 0 where
  pub others : SameOthers before.told after.told name
  pub counted : before.faults < after.faults

abbrev pub BuildSays : FilesSeen → FilesSeen → List ℕ → List ℕ → Sizes → Answer → Type 0
BuildSays before after file elf sizes (Built n) =
    (compiled : Compiled file sizes) × HasPut before after elf compiled.elf × (n ≡ length compiled.elf)
BuildSays before after file elf sizes (Refused code pos) = (after ≡ before) × IsFileRefusal file (Code code pos)
BuildSays before after file elf sizes File = Compiled file sizes × FailedToPut before after elf
BuildSays before after file elf sizes Memory = after ≡ before
BuildSays before after file elf sizes answer = ⊥

-- ---- mode `map`

-- the file was refused, or there was no memory; or it was built, and the text of its map was put
abbrev pub MapSays : Seen → Seen → List ℕ → Sizes → Answer → Type 0
MapSays before after file sizes answer =
    NotBuilt before after file answer
    ⊎ ((program : Typed) × (compiled : Compiled file sizes) ×
    IsProgramOf file program compiled.elf compiled.map compiled.count ×
    PutSays before after (map_text file program compiled.map) answer)

-- ---- mode `list`

-- the listing of the text of a loaded image
abbrev pub listing_in : Loaded → List ℕ
listing_in loaded = listing_text loaded.image.text_base loaded.image.text

-- the file was refused, or there was no memory; or it was built, and the listing of its text was put
abbrev pub ListingSays : Seen → Seen → List ℕ → Sizes → Answer → Type 0
ListingSays before after file sizes answer =
    NotBuilt before after file answer ⊎
    ((compiled : Compiled file sizes) × PutSays before after (listing_in (loaded_of compiled)) answer)

-- ---- mode `gen`

-- an input without bytes, and an output that tells nothing: neither has failed
abbrev pub own_outside : Seen
own_outside = seen (Some []) 0 None 0

-- The generated file was run over an input and an output of its own
pub record RanGenerated (file : List ℕ) (steps : ℕ) (sizes : Sizes) (ran : Answer) : Type 0 where
  pub after : Seen
  pub says : RunSays own_outside after file steps sizes ran
  pub sure : (after.source_faults ≡ 0) × (after.sink_faults ≡ 0)
  pub some : ran ≡ Memory → ⊥

-- there was no memory; or the file was generated and run, and the summary was put
abbrev pub GenerateSays : Seen → Seen → ℕ → ℕ → Sizes → Answer → Type 0
GenerateSays before after functions steps sizes answer =
    ((answer ≡ Memory) × (after ≡ before))
    ⊎ ((ran : Answer) × RanGenerated (generated functions) steps sizes ran ×
    PutSays before after (summary functions (length (generated functions)) ran) answer)
