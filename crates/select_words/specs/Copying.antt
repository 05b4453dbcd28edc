-- The words that copy structs, unit by unit.
use Rattle.std.specs.Prelude.{◌≡◌, ℕ, ◌+◌, ◌^◌, ◌<◌, ◌≤◌, ◌==◌, pos, negsuc, List, [], ◌∷◌, ◌++◌, length, if◌then◌else◌}
use Rattle.rv_instr.specs.declared.instr.Instr.{Instr}
use Rattle.rv_instr.specs.declared.instr.Instr.TheVariants as op
use Rattle.rv_instr.specs.declared.ops.BranchOp.TheVariants.{Bne}
use Rattle.rv_instr.specs.declared.ops.CapImmOp.TheVariants.{Cincoffsetimm}
use Rattle.rv_instr.specs.declared.ops.ImmOp.TheVariants.{Addi}
use Rattle.rv_instr.specs.declared.ops.LoadOp.TheVariants.{Ld, Lbu, Lhu, Lwu}
use Rattle.rv_instr.specs.declared.ops.StoreOp.TheVariants.{Sb, Sh, Sw, Sd, Csc}
use Rattle.select_words.specs.Numbers.{MakesNumber}
use Rattle.select_words.specs.Words.{Bring}
use Rattle.select_words.specs.Selecting.{Selecting}

-- a unit is loaded to c31 from where c28 points, and stored where c29 points
abbrev pub unit_load : ℕ → Instr
unit_load n =
    if n == 1 then op.Load Lbu 31 28 (pos 0)
    else if n == 2 then op.Load Lhu 31 28 (pos 0)
    else if n == 4 then op.Load Lwu 31 28 (pos 0)
    else if n == 8 then op.Load Ld 31 28 (pos 0)
    else op.Clc 31 28 (pos 0)

abbrev pub unit_store : ℕ → Instr
unit_store n =
    if n == 1 then op.Store Sb 31 29 (pos 0)
    else if n == 2 then op.Store Sh 31 29 (pos 0)
    else if n == 4 then op.Store Sw 31 29 (pos 0)
    else if n == 8 then op.Store Sd 31 29 (pos 0)
    else op.Store Csc 31 29 (pos 0)

abbrev pub unit_words : ℕ → List Instr
unit_words n = unit_load n ∷ unit_store n ∷ []

-- both go on to the next unit, and c30 counts those that are left: the last word leads back to the first
abbrev pub copy_loop : ℕ → List Instr
copy_loop n = unit_load n ∷ unit_store n ∷ op.CapImm Cincoffsetimm 28 28 (pos n)
    ∷ op.CapImm Cincoffsetimm 29 29 (pos n) ∷ op.Imm Addi 30 30 (negsuc 0) ∷ op.Branch Bne 30 0 (negsuc 19) ∷ []

-- the pointers come to c28 and to c29
pub record Brings (s : Selecting) (from to : ℕ) (words : List Instr) : Type 0 where
  pub finds : List Instr
  pub others : List Instr
  pub first : Bring s from 28 finds
  pub second : Bring s to 29 others
  pub are : words ≡ finds ++ others

-- No unit, one, or a loop over so many. So many words stand before the one that loads
pub data CopyWords (s : Selecting) (from to units unit skip : ℕ) (words : List Instr) : Type 0 where
  Nothing : units ≡ 0 → words ≡ [] → CopyWords s from to units unit skip words
  One : units ≡ 1 → (front : List Instr) → Brings s from to front → skip ≡ length front
      → words ≡ front ++ unit_words unit → CopyWords s from to units unit skip words
  Round : 0 < units → units < 2 ^ 31 → (front number : List Instr) → Brings s from to front →
      MakesNumber 30 units number
      → length number ≤ 2 → skip ≡ length front + length number → words ≡ front ++ (number ++ copy_loop unit)
      → CopyWords s from to units unit skip words
