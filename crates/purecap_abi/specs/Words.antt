-- The words that selection appends, and what they are. Registers stand by their numbers.
use Rattle.std.specs.Prelude.{ℕ, ◌≡◌, ◌+◌, ◌-◌, ◌/◌, ◌%◌, ◌^◌, ◌≤◌, ◌||◌, nat_lt, nat_le, ℤ, pos, ◌-ℤ◌, Bool, true}
use Rattle.std.specs.Prelude.{false, List, [], ◌∷◌, ◌++◌, length, if◌then◌else◌}
use Rattle.std.specs.List.{All}
use Rattle.rv_instr.specs.declared.instr.Instr.{Instr}
use Rattle.rv_instr.specs.declared.instr.Instr.TheVariants.{Upper, Cjal, Branch, Store, Clc, Imm, Ecall, Ebreak, CapImm}
use Rattle.rv_instr.specs.declared.instr.Instr.TheVariants.{CapReg, CapGet}
use Rattle.rv_instr.specs.declared.ops.UpperOp.TheVariants.{Lui, Auipcc}
use Rattle.rv_instr.specs.declared.ops.ImmOp.{ImmOp}
use Rattle.rv_instr.specs.declared.ops.ImmOp.TheVariants.{Addiw}
use Rattle.rv_instr.specs.declared.ops.StoreOp.TheVariants.{Csc}
use Rattle.rv_instr.specs.declared.ops.CapImmOp.TheVariants.{Cincoffsetimm}
use Rattle.rv_instr.specs.declared.ops.CapRegOp.TheVariants.{Cincoffset}
use Rattle.rv_instr.specs.declared.ops.CapGetOp.TheVariants.{Csealentry}
use Rattle.rv_instr.specs.Range.{InRange}

-- It leads nowhere by an offset, asks nothing of the environment, and makes no pointer to code: so it may stand
-- anywhere in a text
abbrev pub stands_anywhere : Instr → Bool
stands_anywhere (Upper Auipcc to field) = false
stands_anywhere (Cjal link offset) = false
stands_anywhere (Branch op a b offset) = false
stands_anywhere Ecall = false
stands_anywhere Ebreak = false
stands_anywhere (CapGet Csealentry to from) = false
stands_anywhere i = true

-- a word of the machine that may stand anywhere
pub record IsPlainWord (i : Instr) : Type 0 where
  pub in_range : InRange i
  pub anywhere : stands_anywhere i ≡ true

-- At most so many words were appended, and each of them is plain
pub record Appends (most : ℕ) (old new : List Instr) : Type 0 where
  pub added : List Instr
  pub is : new ≡ old ++ added
  pub few : length added ≤ most
  pub plain : All IsPlainWord added

-- ---- numbers

-- a number's low 12 bits, with a sign, and what is left over them
abbrev pub low : ℕ → ℤ
low n = if nat_lt (n % 4096) 2048 then pos (n % 4096) else pos (n % 4096) -ℤ pos 4096

abbrev pub high : ℕ → ℕ
high n = (n + 2048) / 4096

-- 12 bits of two's complement hold the number, or 32 do
abbrev pub is_short : ℕ → Bool
is_short n = nat_lt n 2048 || nat_le (2 ^ 64 - 2048) n

abbrev pub is_word : ℕ → Bool
is_word n = nat_lt n (2 ^ 31) || nat_le (2 ^ 64 - 2 ^ 31) n

-- the words of a number: at most two for 32 bits, and two more for each further 12
unfoldable pub most_words : ℕ → ℕ
most_words n = if is_short n then 1
    else (if is_word n then 2 else (if nat_le n (2 ^ 40) then 4 else (if nat_le n (2 ^ 52) then 6 else 8)))

-- the upper 20 of 32 bits, and with them the low 12
abbrev pub upper : (to n : ℕ) → Instr
upper to n = Upper Lui to (high n % 2 ^ 20)

abbrev pub wide_code : (to n : ℕ) → List Instr
wide_code to n = upper to n ∷ Imm Addiw to to (low n) ∷ []

-- the low 12 bits on top of a register, where they are not all zero
abbrev pub low_code : ImmOp → (to n : ℕ) → List Instr
low_code op to n = if nat_lt 0 (n % 4096) then Imm op to to (low n) ∷ [] else []

-- ---- places behind a base

-- a base moved by all but the low 12 bits of an offset
abbrev pub near_code : (to base offset : ℕ) → List Instr
near_code to base offset = upper to offset ∷ CapReg Cincoffset to base to ∷ []

abbrev pub load_code : (to base offset scratch : ℕ) → List Instr
load_code to base offset scratch =
    if nat_lt offset 2048 then Clc to base (pos offset) ∷ []
    else near_code scratch base offset ++ Clc to scratch (low offset) ∷ []

abbrev pub store_code : (from base offset scratch : ℕ) → List Instr
store_code from base offset scratch =
    if nat_lt offset 2048 then Store Csc from base (pos offset) ∷ []
    else near_code scratch base offset ++ Store Csc from scratch (low offset) ∷ []

abbrev pub low_move : (to offset : ℕ) → List Instr
low_move to offset = if nat_lt 0 (offset % 4096) then CapImm Cincoffsetimm to to (low offset) ∷ [] else []

abbrev pub moved_code : (to base offset : ℕ) → List Instr
moved_code to base offset =
    if nat_lt offset 2048 then CapImm Cincoffsetimm to base (pos offset) ∷ []
    else near_code to base offset ++ low_move to offset
