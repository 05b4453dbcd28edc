-- The words of `malloc`, which take an object from the heap.
use Rattle.std.specs.Prelude.{◌≡◌, ℕ, ◌+◌, ◌*◌, ◌-◌, ◌^◌, ◌<◌, pos, negsuc, List, [], ◌∷◌, ◌++◌, length, Option}
use Rattle.rv_instr.specs.declared.instr.Instr.{Instr}
use Rattle.rv_instr.specs.declared.instr.Instr.TheVariants.{CapGet, CapReg, Branch, Imm, Op, Cjal}
use Rattle.rv_instr.specs.declared.ops.BranchOp.TheVariants.{Bltu}
use Rattle.rv_instr.specs.declared.ops.CapGetOp.TheVariants.{Cgetlen, Cgetbase, Crrl, Cram}
use Rattle.rv_instr.specs.declared.ops.CapRegOp.TheVariants.{Csetaddr, Csetboundsexact}
use Rattle.rv_instr.specs.declared.ops.ImmOp.TheVariants.{Addi, Andi, Xori}
use Rattle.rv_instr.specs.declared.ops.RegOp.TheVariants.{Add, And, Sub}
use Rattle.purecap_abi.specs.Words.{load_code, store_code}
use Rattle.tac_ir.specs.declared.code.LibOp.TheVariants as lib
use Rattle.tac_ir.specs.declared.code.TacInstr.{TacInstr}
use Rattle.tac_ir.specs.declared.code.TacInstr.TheVariants as instr
use Rattle.select_words.specs.Services.{KeepSome}
use Rattle.select_words.specs.Words.{Bring}
use Rattle.select_words.specs.Selecting.{Selecting}

-- c10 has the length, and then the pointer; c28 is the heap's capability at the next free address

-- a length above the heap's is refused
abbrev pub asks_less : (refused : ℕ) → List Instr
asks_less refused = CapGet Cgetlen 29 28 ∷ Branch Bltu 29 10 (pos refused) ∷ []

-- x30 is the owned length, and x29 the mask of the alignment
abbrev pub rounds : List Instr
rounds = CapGet Crrl 30 10 ∷ CapGet Cram 29 10 ∷ Imm Andi 29 29 (negsuc 15) ∷ []

-- x4 is the object's place, and x29 its end
abbrev pub places : List Instr
places = Imm Xori 4 29 (negsuc 0) ∷ Op Add 4 28 4 ∷ Op And 4 4 29 ∷ Op Add 29 4 30 ∷ []

-- an end behind the heap's is refused
abbrev pub measures : (refused : ℕ) → List Instr
measures refused =
    CapGet Cgetbase 10 28 ∷ Op Sub 10 29 10 ∷ CapGet Cgetlen 30 28 ∷ Branch Bltu 30 10 (pos refused) ∷ []

-- c10 is the pointer, and c28 is moved behind the object
abbrev pub takes : List Instr
takes = CapReg Csetaddr 10 28 4 ∷ Op Sub 30 29 4 ∷ CapReg Csetboundsexact 10 10 30 ∷ CapReg Csetaddr 28 28 29 ∷ []

-- or c10 is null
abbrev pub gives_null : List Instr
gives_null = Cjal 0 (pos 8) ∷ Imm Addi 10 0 (pos 0) ∷ []

-- all between the heap's entry that is read and the one that is stored, by the length of the words that store it
abbrev pub takes_by : ℕ → List Instr
takes_by long = asks_less (4 * long + 68) ++ (rounds ++ (places ++ (measures (4 * long + 24) ++ takes)))

abbrev pub malloc_code : (offset : ℕ) → List Instr
malloc_code offset =
    let back = store_code 28 3 offset 31 in
    load_code 28 3 offset 28 ++ (takes_by (length back) ++ (back ++ gives_null))

-- The argument comes to c10, and what c10 then has is kept
pub record Mallocs (s : Selecting) (a : ℕ) (to : Option ℕ) (words : List Instr) : Type 0 where
  pub finds : List Instr
  pub keep : List Instr
  pub found : Bring s a 10 finds
  pub kept : KeepSome s to keep
  pub small : 16 * s.heap < 2 ^ 31 - 2048
  pub are : words ≡ finds ++ (malloc_code (16 * s.heap) ++ keep)

abbrev pub allocating : Option ℕ → ℕ → TacInstr
allocating to a = instr.Lib lib.Malloc to (a ∷ [])
