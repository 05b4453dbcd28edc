-- What a register's number is behind the words that make it (RISC-V unprivileged ISA, RV64I "Integer Register-Immediate
-- Instructions").
use Rattle.std.specs.Prelude.{ℕ, suc, ◌≡◌, ◌+◌, ◌-◌, ◌*◌, ◌%◌, ◌^◌, ◌<◌, ◌⊎◌, ◌==◌, nat_lt, ℤ, pos, negsuc, List, []}
use Rattle.std.specs.Prelude.{◌∷◌, ◌++◌, if◌then◌else◌}
use Rattle.std.specs.List.{All}
use Rattle.rv_instr.specs.declared.instr.Instr.{Instr}
use Rattle.rv_instr.specs.declared.instr.Instr.TheVariants.{Upper, Imm, Shift}
use Rattle.rv_instr.specs.declared.ops.UpperOp.TheVariants.{Lui}
use Rattle.rv_instr.specs.declared.ops.ImmOp.TheVariants.{Addi, Addiw}
use Rattle.rv_instr.specs.declared.ops.ShiftOp.TheVariants.{Slli}

-- the low 32 bits as a signed number, in 64 bits
unfoldable pub signed_word : ℕ → ℕ
signed_word n = if nat_lt (n % 2 ^ 32) (2 ^ 31) then n % 2 ^ 32 else n % 2 ^ 32 + (2 ^ 64 - 2 ^ 32)

-- a sum of 64 bits
unfoldable pub plus : ℕ → ℤ → ℕ
plus x (pos n) = (x + n) % 2 ^ 64
plus x (negsuc n) = (x + (2 ^ 64 - suc n)) % 2 ^ 64

-- a register's number behind a word that sets it from itself or from x0
abbrev pub set_by : Instr → ℕ → ℕ
set_by (Upper Lui to field) x = signed_word (field * 4096)
set_by (Imm Addi to from z) x = plus (if from == 0 then 0 else x) z
set_by (Imm Addiw to from z) x = signed_word (plus (if from == 0 then 0 else x) z)
set_by (Shift Slli to from n) x = (x * 2 ^ n) % 2 ^ 64
set_by i x = x

unfoldable pub number_after : List Instr → ℕ → ℕ
number_after [] x = x
number_after (i ∷ is) x = number_after is (set_by i x)

-- a register's own number, or 0
abbrev pub ReadsOwn : (to from : ℕ) → Type 0
ReadsOwn to from = (from ≡ to) ⊎ (from ≡ 0)

-- a word of which numbers are made, that sets this register
abbrev pub IsNumberWord : ℕ → Instr → Type 0
IsNumberWord to (Upper Lui r field) = r ≡ to
IsNumberWord to (Imm Addi r from z) = (r ≡ to) × ReadsOwn to from
IsNumberWord to (Imm Addiw r from z) = (r ≡ to) × ReadsOwn to from
IsNumberWord to (Shift Slli r from n) = (r ≡ to) × (from ≡ to) × (n ≡ 12)
IsNumberWord to i = ⊥

-- Words were appended that set this register alone, to this number whatever it was
pub record Makes (to value : ℕ) (old new : List Instr) : Type 0 where
  pub added : List Instr
  pub is : new ≡ old ++ added
  pub own : All (IsNumberWord to) added
  pub made : (x : ℕ) → 0 < to → number_after added x ≡ value
