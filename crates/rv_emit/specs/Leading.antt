-- Where the jumps of the growing code lead.
use Rattle.std.specs.Prelude.{◌≡◌, ℕ, ◌+◌, ◌*◌, ◌<◌, ◌≤◌, pos, true, List, [], ◌∷◌, ◌++◌, length}
use Rattle.std.specs.List.{All}
use Rattle.rv_instr.specs.declared.instr.Instr.{Instr}
use Rattle.rv_instr.specs.declared.instr.Instr.TheVariants.{Cjal}
use Rattle.elf_file.specs.declared.image.Line.{Line}
use Rattle.elf_file.specs.Image.{lines_ok}
use Rattle.rv_emit.specs.Growing.{AreEntries, Size}
use Rattle.rv_words.specs.declared.jumps.Jump.{Jump}
use Rattle.rv_words.specs.declared.jumps.Mark.{Mark}
pub use Rattle.rv_words.specs.Leading.{AreSound, IsSoFar, AreMarks, AreEntered, IsStill, IsLed, IsMarked, AreLed}
pub use Rattle.rv_words.specs.Leading.{leading, IsHop, span, Spans, IsLedTo, JumpsTo, NoJump, StandsAt, AreOrdered}
pub use Rattle.rv_words.specs.Leading.{IsEnteredAt, IsJumpLed, AreLedSoFar, AreLedTo}

-- ---- what jumps may be led to

-- labels, entries, and where the loop at hand begins
pub record AreTargets (words : List Instr) (marks : List Mark) (entries : List ℕ) (top : ℕ) : Type 0 where
  pub labels : AreMarks words marks
  pub entered : AreEntered words entries
  pub loop : IsSoFar words top

-- the code so far, its lines, and its targets
pub record IsGrowing (words : List Instr) (lines : List Line) (marks : List Mark) (entries : List ℕ)
    (top : ℕ) : Type 0 where
  pub sound : AreSound words
  pub ordered : lines_ok 0 (4 * length words) lines ≡ true
  pub ascend : AreEntries (length words) entries
  pub targets : AreTargets words marks entries top

-- ---- the whole

-- over how many words a call leads, ahead and back
abbrev pub call_span : ℕ
call_span = 262144

-- each call is near where its function is entered
abbrev pub AreNear : List Jump → (entries : List ℕ) → Type 0
AreNear calls entries =
    All (λ j. (to : ℕ) → IsEnteredAt entries j.to to → (to < j.at + call_span) × (j.at ≤ to + call_span)) calls

-- The calls of a code lead to where functions are entered, and a jump to itself stands behind all other words
pub record IsCompleted (old : Size) (code : List Instr) : Type 0 where
  pub front : List Instr
  pub are : code ≡ front ++ Cjal 0 (pos 0) ∷ []
  pub led : AreLedTo (IsEnteredAt old.links.entered) old.links.calls old.text front
