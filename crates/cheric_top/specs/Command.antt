-- The command: what each answer says of the words, the files, the input and the output.
use Rattle.std.specs.Prelude.{◌≡◌, ◌⊎◌, ℕ, ◌<◌, ◌≤◌, List, [], length, Option, Some, None, ⊤}
use Rattle.ck_base.specs.Files.{FileMap, HasFile}
use Rattle.ck_base.specs.Calls.{Seen}
use Rattle.command_line.specs.Lines.{Mode, Run, Build, Exec, Audit, Mean, ShowMap, ShowListing, Line, OfFile, Generate}
use Rattle.command_line.specs.Lines.{IsLine}
use Rattle.command_modes.specs.Answers.{IsSaid}
use Rattle.command_modes.specs.Audit.{AuditSays}
use Rattle.command_modes.specs.Modes.{FilesSeen, RunSays, ExecSays, MeanSays, BuildSays, MapSays, ListingSays}
use Rattle.command_modes.specs.Modes.{GenerateSays}
use Rattle.command_modes.specs.declared.answer.Answer.{Answer}
use Rattle.command_modes.specs.declared.answer.Answer.TheVariants.{Words, File, Memory}

-- ---- the outside

-- what is known of the outside before and after the call
pub record Around : Type 0 where
  pub files_before : FilesSeen
  pub files_after : FilesSeen
  pub before : Seen
  pub after : Seen

abbrev pub around : FilesSeen → FilesSeen → Seen → Seen → Around
around files_before files_after before after =
    record { files_before = files_before; files_after = files_after; before = before; after = after }

-- nothing was put to the output or taken from the input
abbrev pub Untouched : Around → Type 0
Untouched a = a.after ≡ a.before

-- no file changed, and no call of the files failed
abbrev pub FilesKept : Around → Type 0
FilesKept a = a.files_after ≡ a.files_before

-- ---- reading the file

-- the file has these bytes, which are not too many
abbrev pub HasRead : FilesSeen → List ℕ → List ℕ → Type 0
HasRead files name file = HasFile files.told name file × (length file ≤ 268435456)

-- where the files are told: the file isn't there, or is too long
abbrev pub IsUnreadable : Option FileMap → List ℕ → Type 0
IsUnreadable told name = (files : FileMap) × (told ≡ Some files) ×
    ((files name ≡ None) ⊎ ((file : List ℕ) × (files name ≡ Some file) × (268435456 < length file)))

-- where the files are told: the file is there, and not too long
abbrev pub IsReadable : Option FileMap → List ℕ → Type 0
IsReadable None name = ⊤
IsReadable (Some files) name = (file : List ℕ) × (files name ≡ Some file) × (length file ≤ 268435456)

-- what an answer says of a file that was not read
abbrev pub WhyNotRead : FilesSeen → FilesSeen → List ℕ → Answer → Type 0
WhyNotRead before after name File = (before.faults < after.faults) ⊎ IsUnreadable before.told name
WhyNotRead before after name Memory = (after.faults ≡ before.faults) × IsReadable before.told name
WhyNotRead before after name answer = ⊥

-- it was not read, and no file changed
abbrev pub NotRead : FilesSeen → FilesSeen → List ℕ → Answer → Type 0
NotRead before after name answer = WhyNotRead before after name answer × (after.told ≡ before.told)

-- ---- all modes

-- what each answer says of a file that was read; a later mode is a case more
abbrev pub ModeSays : Around → List ℕ → Mode → Answer → Type 0
ModeSays a file (Run steps sizes) answer = FilesKept a × RunSays a.before a.after file steps sizes answer
ModeSays a file (Exec steps) answer = FilesKept a × ExecSays a.before a.after file steps answer
ModeSays a file (Build elf sizes) answer = Untouched a × BuildSays a.files_before a.files_after file elf sizes answer
ModeSays a file Audit answer = FilesKept a × Untouched a × AuditSays file answer
ModeSays a file (Mean turns) answer = FilesKept a × MeanSays a.before a.after file turns answer
ModeSays a file (ShowMap sizes) answer = FilesKept a × MapSays a.before a.after file sizes answer
ModeSays a file (ShowListing sizes) answer = FilesKept a × ListingSays a.before a.after file sizes answer

-- the file whose places an answer names, by the file that was read: an image names none
abbrev pub source_of : Mode → List ℕ → List ℕ
source_of (Exec steps) file = []
source_of Audit file = []
source_of mode file = file

-- the file of this name was not read, and nothing was put or taken; or it was, and so on by the mode
abbrev pub FileSays : Around → List ℕ → Mode → List ℕ → Answer → Type 0
FileSays a name mode source answer =
    (NotRead a.files_before a.files_after name answer × Untouched a × (source ≡ [])) ⊎
    ((file : List ℕ) × HasRead a.files_before name file × ModeSays a file mode answer × (source ≡ source_of mode file))

-- what each answer says of a line, and of which file it names places
abbrev pub LineSays : Around → Line → List ℕ → Answer → Type 0
LineSays a (OfFile name mode) source answer = FileSays a name mode source answer
LineSays a (Generate functions steps sizes) source answer =
    FilesKept a × GenerateSays a.before a.after functions steps sizes answer × (source ≡ [])

-- the words are no line, or there was no memory to read them; nothing else was done
abbrev pub NoLineSays : Around → List (List ℕ) → Answer → Type 0
NoLineSays a words Words = ((line : Line) → IsLine words line → ⊥) × FilesKept a × Untouched a
NoLineSays a words Memory = FilesKept a × Untouched a
NoLineSays a words answer = ⊥

-- what each answer says of the words, and of which file it names places: of none where it is empty
abbrev pub Says : Around → List (List ℕ) → List ℕ → Answer → Type 0
Says a words source answer =
    (NoLineSays a words answer × (source ≡ [])) ⊎
    ((line : Line) × IsLine words line × LineSays a line source answer)

-- What the call did: an answer, which says how the outside was used, and was said to the notes with its status and with
-- the places that the line markers of its file give.
pub record IsDone (a : Around) (words : List (List ℕ)) (status : ℕ) (notes_before notes_after : Option (List ℕ))
    (notes_faults_before notes_faults_after : ℕ) : Type 0 where
  pub source : List ℕ
  pub answer : Answer
  pub says : Says a words source answer
  pub said : IsSaid source answer status notes_before notes_after notes_faults_before notes_faults_after
