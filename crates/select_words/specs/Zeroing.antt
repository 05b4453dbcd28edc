-- The words that make a local's bytes zero.
use Rattle.std.specs.Prelude.{◌≡◌, ℕ, zero, suc, ◌+◌, ◌/◌, ◌<◌, ◌≤◌, pos, negsuc, List, [], ◌∷◌, ◌++◌, length, Some}
use Rattle.obj_mem.specs.declared.map.Frame.{Frame}
use Rattle.obj_mem.specs.declared.map.Slot.{Slot}
use Rattle.obj_mem.specs.Legal.{slot_of}
use Rattle.purecap_abi.specs.Words.{moved_code}
use Rattle.rv_instr.specs.declared.instr.Instr.{Instr}
use Rattle.rv_instr.specs.declared.instr.Instr.TheVariants as word
use Rattle.rv_instr.specs.declared.ops.BranchOp.TheVariants.{Bne}
use Rattle.rv_instr.specs.declared.ops.CapImmOp.TheVariants.{Cincoffsetimm}
use Rattle.rv_instr.specs.declared.ops.ImmOp.TheVariants.{Addi}
use Rattle.rv_instr.specs.declared.ops.StoreOp.TheVariants.{Csc}
use Rattle.select_words.specs.Numbers.{MakesNumber}
use Rattle.select_words.specs.Selecting.{Selecting}

-- null is stored to so many granules, from an offset in the frame on
abbrev pub stores_at : (at parts : ℕ) → List Instr
stores_at at zero = []
stores_at at (suc k) = word.Store Csc 0 2 (pos at) ∷ stores_at (at + 16) k

-- c28 goes over the granules, and c29 counts those that are left: the last word leads back to the first
abbrev pub zero_loop : List Instr
zero_loop = word.Store Csc 0 28 (pos 0) ∷ word.CapImm Cincoffsetimm 28 28 (pos 16) ∷ word.Imm Addi 29 29 (negsuc 0)
    ∷ word.Branch Bne 29 0 (negsuc 11) ∷ []

-- so many granules from an offset in the frame on
pub data Zeroes (at parts : ℕ) (words : List Instr) : Type 0 where
  Each : words ≡ stores_at at parts → Zeroes at parts words
  Round : (number : List Instr) → MakesNumber 29 parts number → length number ≤ 2 → 0 < parts
      → words ≡ moved_code 28 2 at ++ (number ++ zero_loop) → Zeroes at parts words

-- the granules that a slot has bytes of
abbrev pub granules : Slot → ℕ
granules slot = (slot.length + 15) / 16

-- the local's slot
pub record ZeroWords (s : Selecting) (var : ℕ) (words : List Instr) : Type 0 where
  pub frame : Frame
  pub is : s.frame ≡ Some frame
  pub slot : Slot
  pub has : slot_of frame var ≡ Some slot
  pub zeroes : Zeroes slot.at (granules slot) words
