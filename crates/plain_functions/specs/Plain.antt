-- Functions that need no memory for what they compute.
use Rattle.std.specs.Prelude.{◌≡◌, ℕ, Bool, true, false, List}
use Rattle.std.specs.List.{All, count_by}
use Rattle.reg_alloc.specs.Placed.{IsRegister}
use Rattle.reg_alloc.specs.declared.places.Home.{Home}
use Rattle.tac_ir.specs.declared.code.TacFun.{TacFun}
use Rattle.tac_ir.specs.declared.code.TacInstr.{TacInstr}
use Rattle.tac_ir.specs.declared.code.TacInstr.TheVariants as instr

-- an instruction that computes with numbers, or goes elsewhere in its function or back from it
abbrev pub is_plain : TacInstr → Bool
is_plain (instr.Const to k v) = true
is_plain (instr.Copy to from) = true
is_plain (instr.Int op k to a b) = true
is_plain (instr.Cmp op k to a b) = true
is_plain (instr.Convert to from old new) = true
is_plain (instr.Label l) = true
is_plain (instr.Jump l) = true
is_plain (instr.Branch on when l) = true
is_plain instr.Turn = true
is_plain (instr.Return v) = true
is_plain i = false

-- A function is plain where all its homes are registers and its code has such instructions alone
pub record IsPlain (f : TacFun) (homes : List Home) : Type 0 where
  pub registers : All IsRegister homes
  pub code : All (λ i. is_plain i ≡ true) f.code

abbrev pub is_return : TacInstr → Bool
is_return (instr.Return v) = true
is_return i = false

abbrev pub returns : TacFun → ℕ
returns f = count_by is_return f.code
