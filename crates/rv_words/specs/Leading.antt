-- Where jumps lead.
use Rattle.std.specs.Prelude.{◌≡◌, ℕ, ◌+◌, ◌*◌, ◌<◌, ◌≤◌, ℤ, pos, ◌+ℤ◌, List, length, Some}
use Rattle.std.specs.Prelude.{slice_get}
use Rattle.std.specs.List.{All, Contains}
use Rattle.std.specs.List.Sorted.{IsSortedByKey}
use Rattle.std.specs.Ordering.{nat_cmp}
use Rattle.rv_instr.specs.Range.{InRange}
use Rattle.rv_instr.specs.declared.instr.Instr.{Instr}
use Rattle.rv_instr.specs.declared.instr.Instr.TheVariants.{Branch, Cjal}
use Rattle.select_words.specs.ContainedCode.{offset_of, AreContained, IsTarget, IsEntry}
use Rattle.rv_words.specs.declared.jumps.Jump.{Jump}
use Rattle.rv_words.specs.declared.jumps.Mark.{Mark}

-- the words are of the machine and obey the rules of contained code, where they may lead to the next word too
pub record AreSound (words : List Instr) : Type 0 where
  pub in_range : All InRange words
  pub contained : AreContained (length words + 1) words

-- a word that is no `ecall`, or the next one
abbrev pub IsSoFar : List Instr → ℕ → Type 0
IsSoFar words k = IsTarget (length words + 1) words k

-- ---- what jumps may be led to

abbrev pub AreMarks : List Instr → List Mark → Type 0
AreMarks words marks = All (λ m. IsSoFar words m.at) marks

abbrev pub AreEntered : List Instr → List ℕ → Type 0
AreEntered words entries = All (IsEntry (length words + 1) words) entries

-- ---- how they are led

-- a jump or a branch that leads to itself
pub record IsStill (i : Instr) : Type 0 where
  pub in_range : InRange i
  pub still : offset_of i ≡ Some (pos 0)

-- a jump or a branch that was led by so many bytes
pub record IsLed (was : Instr) (bytes : ℤ) (now : Instr) : Type 0 where
  pub before : ℤ
  pub leads : offset_of was ≡ Some before
  pub by : offset_of now ≡ Some bytes

-- a label's place
pub record IsMarked (marks : List Mark) (at : ℕ) : Type 0 where
  pub number : ℕ
  pub mark : Mark
  pub is : slice_get marks number ≡ Some mark
  pub there : mark.at ≡ at

-- Jumps and branches were led: the words stay sound, and each target stays one
pub record AreLed (old new : List Instr) : Type 0 where
  pub sound : AreSound new
  pub len : length new ≡ length old
  pub keeps : (k : ℕ) → IsSoFar old k → IsSoFar new k

-- ---- to which places

-- the jump or branch by so many bytes
abbrev pub leading : Instr → ℤ → Instr
leading (Branch op a b y) z = Branch op a b z
leading (Cjal link y) z = Cjal link z
leading i z = i

-- so many bytes lead from one word to another
abbrev pub IsHop : (at to : ℕ) → ℤ → Type 0
IsHop at to z = pos (4 * to) ≡ pos (4 * at) +ℤ z

-- over how many words it can lead
abbrev pub span : Instr → ℕ
span (Branch op a b y) = 1024
span (Cjal link y) = 262144
span i = 0

pub record Spans (i : Instr) (at to : ℕ) : Type 0 where
  pub ahead : to < at + span i
  pub back : at ≤ to + span i

-- The word at a place leads to another where it can, and the others are as they were
pub record IsLedTo (old new : List Instr) (at to : ℕ) : Type 0 where
  pub len : length new ≡ length old
  pub led : (i : Instr) (z : ℤ) → slice_get old at ≡ Some i → Spans i at to → IsHop at to z
      → slice_get new at ≡ Some (leading i z)
  pub others : (k : ℕ) → (k ≡ at → ⊥) → slice_get new k ≡ slice_get old k
  pub kinds : (k : ℕ) (i : Instr) → slice_get old k ≡ Some i → (z : ℤ) × (slice_get new k ≡ Some (leading i z))

-- the jump from a word leads to a label or function, and no other does from there
pub record JumpsTo (jumps : List Jump) (at to : ℕ) : Type 0 where
  pub some : Contains jumps (record { at = at; to = to })
  pub only : All (λ j. j.at ≡ at → j.to ≡ to) jumps

-- no jump is from a word
abbrev pub NoJump : List Jump → ℕ → Type 0
NoJump jumps at = All (λ j. j.at ≡ at → ⊥) jumps

-- a label stands before a word, and nowhere else
pub record StandsAt (marks : List Mark) (label at : ℕ) : Type 0 where
  pub some : Contains marks (record { label = label; at = at })
  pub only : All (λ m. m.label ≡ label → m.at ≡ at) marks

-- in the order of the labels
abbrev pub AreOrdered : List Mark → Type 0
AreOrdered marks = IsSortedByKey (λ (m : Mark). m.label) nat_cmp marks

-- a function is entered at a word
abbrev pub IsEnteredAt : List ℕ → (fun at : ℕ) → Type 0
IsEnteredAt entries fun at = slice_get entries fun ≡ Some (4 * at)

-- One jump leads to the place of its label or function where it can, and the other words are as they were
pub record IsJumpLed (Place : (to place : ℕ) → Type 0) (j : Jump) (old new : List Instr) : Type 0 where
  pub len : length new ≡ length old
  pub led : (place : ℕ) (i : Instr) (z : ℤ) → Place j.to place → slice_get old j.at ≡ Some i → Spans i j.at place
      → IsHop j.at place z → slice_get new j.at ≡ Some (leading i z)
  pub others : (k : ℕ) → (k ≡ j.at → ⊥) → slice_get new k ≡ slice_get old k
  pub kinds : (k : ℕ) (i : Instr) → slice_get old k ≡ Some i → (z : ℤ) × (slice_get new k ≡ Some (leading i z))

-- Each of the jumps that are done leads to its place where it can, unless another of all jumps leads from there to
-- another, and the other words are as they were
pub record AreLedSoFar (Place : (to place : ℕ) → Type 0) (all done : List Jump) (old new : List Instr) : Type 0 where
  pub len : length new ≡ length old
  pub led : (at to place : ℕ) (i : Instr) (z : ℤ) → Contains done (record { at = at; to = to })
      → All (λ j. j.at ≡ at → j.to ≡ to) all → Place to place → slice_get old at ≡ Some i → Spans i at place
      → IsHop at place z → slice_get new at ≡ Some (leading i z)
  pub others : (k : ℕ) → NoJump done k → slice_get new k ≡ slice_get old k
  pub kinds : (k : ℕ) (i : Instr) → slice_get old k ≡ Some i → (z : ℤ) × (slice_get new k ≡ Some (leading i z))

-- all of them
pub record AreLedTo (Place : (to place : ℕ) → Type 0) (jumps : List Jump) (old new : List Instr) : Type 0 where
  pub len : length new ≡ length old
  pub led : (at to place : ℕ) (i : Instr) (z : ℤ) → JumpsTo jumps at to → Place to place → slice_get old at ≡ Some i
      → Spans i at place → IsHop at place z → slice_get new at ≡ Some (leading i z)
  pub others : (k : ℕ) → NoJump jumps k → slice_get new k ≡ slice_get old k
  pub kinds : (k : ℕ) (i : Instr) → slice_get old k ≡ Some i → (z : ℤ) × (slice_get new k ≡ Some (leading i z))
