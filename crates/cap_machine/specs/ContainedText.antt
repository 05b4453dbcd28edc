-- Contained text: rules on the words of a text by which no run leaves it. `Containment` says what a run then keeps.
use Rattle.std.specs.Prelude.{◌≡◌, ℕ, ◌+◌, ◌-◌, ◌%◌, ◌^◌, ◌<◌, ◌≤◌, ◌==◌, ◌&&◌, not, nat_le, Bool, true, false, List}
use Rattle.std.specs.Prelude.{length, take, drop, Option, Some, None, All, Contains}
use Rattle.rv_instr.specs.declared.instr.Instr.{Instr}
use Rattle.rv_instr.specs.declared.instr.Instr.TheVariants.{Upper, Cjal, Cjalr, Branch, Imm, Ecall, Ebreak, CapGet}
use Rattle.rv_instr.specs.declared.ops.UpperOp.TheVariants.{Auipcc}
use Rattle.rv_instr.specs.declared.ops.ImmOp.TheVariants.{Addi}
use Rattle.rv_instr.specs.declared.ops.CapGetOp.TheVariants.{Csealentry}
use Rattle.rv_code.specs.Decoding.{decode_of}
use Rattle.tag_mem.specs.Numbers.{little_number}
use Rattle.cap_machine.specs.Integers.{extended}
use Rattle.cap_machine.specs.Rows.{plus}

-- the bytes of a text from its base on, and its entry places: where a run begins, and where the sentries lead that are
-- there from the start
pub record Text : Type 0 where
  pub base : ℕ
  pub bytes : List ℕ
  pub entries : List ℕ

abbrev pub end_of : Text → ℕ
end_of t = t.base + length t.bytes

-- a multiple of 4 inside the text
pub record IsPlace (t : Text) (x : ℕ) : Type 0 where
  pub from : t.base ≤ x
  pub below : x < end_of t
  pub even : x % 4 ≡ 0

-- whole granules from 65,536 to 2^40, and entries at places of the text
pub record LiesWell (t : Text) : Type 0 where
  pub base : t.base % 16 ≡ 0
  pub size : length t.bytes % 16 ≡ 0
  pub low : 65536 ≤ t.base
  pub high : end_of t ≤ 2 ^ 40
  pub small : All (λ b. b < 256) t.bytes
  pub entries : (x : ℕ) → Contains t.entries x → IsPlace t x

-- the word at a place, and its instruction
unfoldable pub word_at : Text → ℕ → ℕ
word_at t x = little_number (take 4 (drop (x - t.base) t.bytes))

unfoldable pub instr_at : Text → ℕ → Option Instr
instr_at t x = decode_of (word_at t x)

-- this instruction stands at this place
pub record Stands (t : Text) (x : ℕ) (i : Instr) : Type 0 where
  pub place : IsPlace t x
  pub is : instr_at t x ≡ Some i

-- ---- on one instruction

-- it is no `ebreak`, `auipcc` or `csealentry`
abbrev pub is_allowed : Instr → Bool
is_allowed Ebreak = false
is_allowed (Upper Auipcc rd n) = false
is_allowed (CapGet Csealentry rd rs1) = false
is_allowed i = true

-- where a branch or a `cjal` at x leads
abbrev pub target : Instr → ℕ → Option ℕ
target (Branch op rs1 rs2 z) x = Some (plus x z)
target (Cjal rd z) x = Some (plus x z)
target i x = None

-- a `cjal` or `cjalr` whose rd is not 0, which writes a link
abbrev pub links : Instr → Bool
links (Cjal rd z) = not (rd == 0)
links (Cjalr rd rs1 z) = not (rd == 0)
links i = false

-- a `cjal` or `cjalr` whose rd is 0
abbrev pub is_plain_jump : Instr → Bool
is_plain_jump (Cjal rd z) = rd == 0
is_plain_jump (Cjalr rd rs1 z) = rd == 0
is_plain_jump i = false

-- `addi x17,x0,k` with k from 1 to 3
abbrev pub sets_service : Instr → Bool
sets_service (Imm Addi rd rs1 z) = rd == 17 && rs1 == 0 && nat_le 1 (extended z) && nat_le (extended z) 3
sets_service i = false

-- ---- on a text

-- a return place: the word after one that links
pub record IsReturn (t : Text) (x : ℕ) : Type 0 where
  pub call : Instr
  pub links : links call ≡ true
  pub before : ℕ
  pub next : x ≡ before + 4
  pub stands : Stands t before call

-- the word after one that sets the number of an environment call
pub record FollowsService (t : Text) (x : ℕ) : Type 0 where
  pub sets : Instr
  pub service : sets_service sets ≡ true
  pub before : ℕ
  pub next : x ≡ before + 4
  pub stands : Stands t before sets

-- the last word is a plain jump
pub record EndsInPlainJump (t : Text) : Type 0 where
  pub last : Instr
  pub plain : is_plain_jump last ≡ true
  pub at : ℕ
  pub end : at + 4 ≡ end_of t
  pub stands : Stands t at last

pub record IsContainedText (t : Text) : Type 0 where
  -- every word is an instruction, and none is `ebreak`, `auipcc` or `csealentry`
  pub decodes : (x : ℕ) → IsPlace t x → (i : Instr) × (instr_at t x ≡ Some i)
  pub allowed : (x : ℕ) (i : Instr) → Stands t x i → is_allowed i ≡ true
  -- every branch and `cjal` leads to a place of the text
  pub targets : (x y : ℕ) (i : Instr) → Stands t x i → target i x ≡ Some y → IsPlace t y
  -- every `ecall` stands directly after `addi x17,x0,k`, and no branch, `cjal` or entry place leads to it
  pub numbered : (x : ℕ) → Stands t x Ecall → FollowsService t x
  pub no_target : (x y : ℕ) (i : Instr) → Stands t x i → target i x ≡ Some y → Stands t y Ecall → ⊥
  pub no_entry : (x : ℕ) → Contains t.entries x → Stands t x Ecall → ⊥
  pub last : EndsInPlainJump t
