-- What the command answers: the status and the line of each answer.
use Rattle.std.specs.Prelude.{◌≡◌, ℕ, zero, suc, ◌<◌, ◌≤◌, Bool, true, false, if◌then◌else◌, List, [], ◌∷◌, ◌++◌}
use Rattle.std.specs.Prelude.{Option, Some, None, codes, decimal}
use Rattle.std.specs.Option.{option_map_or}
use Rattle.std.specs.Io.KnownBytes.{Appends}
use Rattle.ck_base.specs.Outside.{AppendsPart}
use Rattle.ck_base.specs.declared.positions.Pos.{Pos}
use Rattle.ck_base.specs.declared.refusal.Refusal.{Refusal}
use Rattle.ck_base.specs.declared.refusal.Refusal.TheVariants.{Code, NoMemory}
use Rattle.cap_ops.specs.declared.access.Cause.{Cause}
use Rattle.cap_ops.specs.declared.access.Cause.TheVariants as cause
use Rattle.cap_machine.specs.declared.end.End.{End}
use Rattle.cap_machine.specs.declared.end.End.TheVariants as end
use Rattle.elf_file.specs.declared.image.Image.{Image}
use Rattle.elf_file.specs.declared.image.Line.{Line}
use Rattle.elf_file.specs.Image.{position_of}
use Rattle.typed_build.specs.Built.{place_of}
use Rattle.image_load.specs.declared.refusal.LoadRefusal.{LoadRefusal}
use Rattle.image_load.specs.declared.refusal.LoadRefusal.TheVariants as refusal
use Rattle.image_load.specs.Loading.{load_number}
use Rattle.command_modes.specs.declared.answer.Answer.{Answer}
use Rattle.elf_audit.specs.declared.verdict.Verdict.{Verdict}
use Rattle.elf_audit.specs.declared.verdict.Verdict.TheVariants as verdict
use Rattle.line_marks.specs.Marks.{Place, marked}
use Rattle.obj_mem.specs.declared.ending.Ending.{Ending}
use Rattle.obj_mem.specs.declared.ending.Ending.TheVariants as ending
use Rattle.obj_mem.specs.declared.ending.Reason.{Reason}
use Rattle.obj_mem.specs.declared.ending.Reason.TheVariants as reason
use Rattle.command_modes.specs.declared.answer.Answer.TheVariants.{Exit, Built, Shown, Trap, TrapAt, Stack, Steps, Turns}
use Rattle.command_modes.specs.declared.answer.Answer.TheVariants.{Unspecified, Outside, Break, Illegal, Audited, Refused}
use Rattle.command_modes.specs.declared.answer.Answer.TheVariants.{Words, NotLoaded, File, Input, Output, Memory}

-- ---- the answer of a run

abbrev pub trapped_at : Cause → Line → ℕ → Answer
trapped_at c l zero = Trap c (place_of l)
trapped_at c l (suc k) = Stack (place_of l)

abbrev pub trapped : Cause → ℕ → Option Line → Answer
trapped c pc None = TrapAt c pc
trapped c pc (Some l) = trapped_at c l l.kind

abbrev pub answer_of : Image → End → Answer
answer_of image (end.Exit n) = Exit n
answer_of image (end.Trap c pc) = trapped c pc (position_of image pc)
answer_of image (end.Break pc) = Break pc
answer_of image (end.Illegal pc) = Illegal pc
answer_of image end.Steps = Steps
answer_of image end.ReadFault = Input
answer_of image end.WriteFault = Output

-- ---- the answer of a run of the meaning

abbrev pub meant : Ending → Answer
meant (ending.Exit n) = Exit n
meant (ending.Trap c pos) = Trap c pos
meant (ending.Stack pos) = Stack pos
meant ending.Turns = Turns
meant (ending.Outside pos) = Outside pos
meant (ending.Unspecified reason pos) = Unspecified reason pos
meant ending.ReadFault = Input
meant ending.WriteFault = Output

-- ---- the answer where a file is not built

abbrev pub not_built : Refusal → Answer
not_built (Code code pos) = Refused code pos
not_built NoMemory = Memory

-- ---- the answer of a load that was refused

abbrev pub refused_as : LoadRefusal → Answer
refused_as refusal.NoMemory = Memory
refused_as e = NotLoaded (load_number e)

-- ---- statuses and lines

abbrev pub audit_status : Verdict → ℕ
audit_status verdict.Yes = 0
audit_status v = 7

abbrev pub status_of : Answer → ℕ
status_of (Exit zero) = 0
status_of (Exit (suc n)) = 1
status_of (Built n) = 0
status_of Shown = 0
status_of (Trap c pos) = 2
status_of (TrapAt c pc) = 2
status_of (Stack pos) = 3
status_of Steps = 4
status_of Turns = 4
status_of (Unspecified reason pos) = 5
status_of (Outside pos) = 5
status_of (Break pc) = 6
status_of (Illegal pc) = 6
status_of (Audited verdict) = audit_status verdict
status_of (Refused code pos) = 10
status_of Words = 11
status_of (NotLoaded number) = 12
status_of File = 20
status_of Input = 21
status_of Output = 22
status_of Memory = 30

abbrev pub cause_text : Cause → List ℕ
cause_text cause.Tag = codes "tag"
cause_text cause.Sealed = codes "sealed"
cause_text cause.Load = codes "load"
cause_text cause.Store = codes "store"
cause_text cause.StoreCap = codes "storecap"
cause_text cause.Bounds = codes "bounds"
cause_text cause.Align = codes "align"
cause_text cause.Execute = codes "execute"

abbrev pub reason_text : Reason → List ℕ
reason_text reason.Address = codes "address"
reason_text reason.Undefined = codes "undefined"
reason_text reason.Unwritten = codes "unwritten"
reason_text reason.Padding = codes "padding"
reason_text reason.Rounding = codes "rounding"
reason_text reason.Excursion = codes "excursion"
reason_text reason.Heap = codes "heap"
reason_text reason.Overlap = codes "overlap"

-- the name of a file, before what stands in it
abbrev pub name_text : List ℕ → List ℕ
name_text [] = []
name_text (b ∷ bs) = (b ∷ bs) ++ codes ":"

abbrev pub marked_text : Place → List ℕ
marked_text place = name_text place.name ++ decimal place.line ++ codes ":" ++ decimal place.col

-- a position of a file, as the line markers of the file place it
abbrev pub place_text : List ℕ → Pos → List ℕ
place_text file pos = marked_text (marked file pos)

-- a word by its address, a relocation by its number from 0, each with the reason
abbrev pub audit_text : Verdict → List ℕ
audit_text verdict.Yes = codes "audit yes"
audit_text (verdict.Word at reason) = codes "audit no word " ++ decimal at ++ codes " " ++ decimal reason
audit_text (verdict.Reloc k reason) = codes "audit no reloc " ++ decimal k ++ codes " " ++ decimal reason

-- the text of an answer, up to the place that it names
abbrev pub words_of : Answer → List ℕ
words_of (Exit n) = codes "exit " ++ decimal n
words_of (Built n) = codes "built " ++ decimal n
words_of Shown = []
words_of (Trap c pos) = codes "trap " ++ cause_text c ++ codes " "
words_of (TrapAt c pc) = codes "trap " ++ cause_text c ++ codes " at " ++ decimal pc
words_of (Stack pos) = codes "stack "
words_of Steps = codes "steps"
words_of Turns = codes "turns"
words_of (Unspecified reason pos) = codes "unspecified " ++ reason_text reason ++ codes " "
words_of (Outside pos) = codes "outside "
words_of (Break pc) = codes "break " ++ decimal pc
words_of (Illegal pc) = codes "illegal " ++ decimal pc
words_of (Audited verdict) = audit_text verdict
words_of (Refused code pos) = codes "refused " ++ decimal code ++ codes " "
words_of Words = codes "words"
words_of (NotLoaded number) = codes "image " ++ decimal number
words_of File = codes "file"
words_of Input = codes "input"
words_of Output = codes "output"
words_of Memory = codes "memory"

-- the position that an answer names
abbrev pub pos_of : Answer → Option Pos
pos_of (Trap c pos) = Some pos
pos_of (Stack pos) = Some pos
pos_of (Unspecified reason pos) = Some pos
pos_of (Outside pos) = Some pos
pos_of (Refused code pos) = Some pos
pos_of answer = None

-- the text of an answer that names a position of this file, or none
abbrev pub text_of : List ℕ → Answer → List ℕ
text_of file answer = words_of answer ++ option_map_or (place_text file) (pos_of answer) []

-- nothing is said where what was asked for was put to the output
abbrev pub is_silent : Answer → Bool
is_silent Shown = true
is_silent answer = false

-- the answer's text and a line feed
abbrev pub line_of : List ℕ → Answer → List ℕ
line_of file answer = if is_silent answer then [] else text_of file answer ++ 10 ∷ []

-- The answer was said: its line was put and its status is given; or the notes failed, after a front of the line, and it
-- is 22.
pub record IsSaid (file : List ℕ) (answer : Answer) (status : ℕ) (held_before held_after : Option (List ℕ))
    (faults_before faults_after : ℕ) : Type 0 where
  pub no_less : faults_before ≤ faults_after
  pub whole : faults_after ≡ faults_before →
      (status ≡ status_of answer) × Appends held_before held_after (line_of file answer)
  pub part : faults_before < faults_after → (status ≡ 22) × AppendsPart held_before held_after (line_of file answer)
