-- Contained code: rules on a list of instructions by which no run of its text leaves it, wherever the text stands. The
-- rules on the words of a placed text are those of `cap_machine`'s `ContainedText`; here places are numbers of words,
-- and entries are in bytes.
use Rattle.std.specs.Prelude.{◌≡◌, ℕ, ◌+◌, ◌*◌, ◌<◌, ℤ, pos, ◌+ℤ◌, true, List, length, slice_get, Option, Some, None}
use Rattle.std.specs.List.{All}
use Rattle.rv_instr.specs.declared.instr.Instr.{Instr}
use Rattle.rv_instr.specs.declared.instr.Instr.TheVariants.{Branch, Cjal, Ecall}
use Rattle.cap_machine.specs.ContainedText.{is_allowed, is_plain_jump, sets_service}

-- the offset by which a branch or a `cjal` leads, in bytes
abbrev pub offset_of : Instr → Option ℤ
offset_of (Branch op rs1 rs2 z) = Some z
offset_of (Cjal rd z) = Some z
offset_of i = None

-- a word below an end, and no `ecall`
pub record IsTarget (end : ℕ) (code : List Instr) (word : ℕ) : Type 0 where
  pub below : word < end
  pub no_call : slice_get code word ≡ Some Ecall → ⊥

-- so many bytes from word k on there is a target
pub record Leads (end : ℕ) (code : List Instr) (k : ℕ) (z : ℤ) : Type 0 where
  pub word : ℕ
  pub there : pos (4 * word) ≡ pos (4 * k) +ℤ z
  pub target : IsTarget end code word

-- word k stands directly behind `addi x17,x0,n` with n from 1 to 3
pub record FollowsService (code : List Instr) (k : ℕ) : Type 0 where
  pub before : ℕ
  pub next : k ≡ before + 1
  pub sets : Instr
  pub is : slice_get code before ≡ Some sets
  pub service : sets_service sets ≡ true

-- The words of the code obey the rules, where they lead to words below an end
pub record AreContained (end : ℕ) (code : List Instr) : Type 0 where
  -- none is `ebreak`, `auipcc` or `csealentry`
  pub allowed : (k : ℕ) (i : Instr) → slice_get code k ≡ Some i → is_allowed i ≡ true
  -- every branch and `cjal` leads to a word below the end that is no `ecall`
  pub leads : (k : ℕ) (i : Instr) (z : ℤ) → slice_get code k ≡ Some i → offset_of i ≡ Some z → Leads end code k z
  -- every `ecall` stands directly behind `addi x17,x0,n`
  pub numbered : (k : ℕ) → slice_get code k ≡ Some Ecall → FollowsService code k

-- an entry, in bytes
pub record IsEntry (end : ℕ) (code : List Instr) (at : ℕ) : Type 0 where
  pub word : ℕ
  pub is : at ≡ 4 * word
  pub target : IsTarget end code word

-- the last word is a plain jump
pub record EndsInPlainJump (code : List Instr) : Type 0 where
  pub last : Instr
  pub at : ℕ
  pub end : at + 1 ≡ length code
  pub is : slice_get code at ≡ Some last
  pub plain : is_plain_jump last ≡ true

-- Its words obey the rules and lead to words of the code alone, and so do its entries and its start
pub record IsContainedCode (code : List Instr) (entries : List ℕ) (start : ℕ) : Type 0 where
  pub words : AreContained (length code) code
  pub entered : All (IsEntry (length code) code) entries
  pub started : IsEntry (length code) code start
  pub last : EndsInPlainJump code
