-- What holds of each instruction of lowered code, and of its functions, by the program and the code alone.
use Rattle.std.specs.Prelude.{◌≡◌, ℕ, ◌/◌, ◌^◌, ◌<◌, ◌≤◌, Bool, true, [], length, Some, slice_get}
use Rattle.std.specs.Prelude.{if◌then◌else◌}
use Rattle.ck_int.specs.Kinds.{form_of, width_of}
use Rattle.ck_int.specs.declared.kinds.IntKind.{IntKind}
use Rattle.ck_int.specs.declared.kinds.IntOp.{IntOp}
use Rattle.ck_int.specs.declared.kinds.IntOp.TheVariants.{Add, Sub}
use Rattle.c_tree.specs.Layout.{size_limit}
use Rattle.c_tree.specs.declared.typed.FunDef.{FunDef}
use Rattle.c_tree.specs.declared.typed.Typed.{Typed}
use Rattle.cheri_c_sem.specs.Programs.{lengths_of}
use Rattle.tac_ir.specs.Meaning.{kinds_of}
use Rattle.tac_ir.specs.Temps.{IsIn, names}
use Rattle.tac_ir.specs.WellFormed.{Signature, begins_with, int_result, signature_of_function}
use Rattle.tac_ir.specs.declared.code.LibOp.TheVariants as lib
use Rattle.tac_ir.specs.declared.code.Tac.{Tac}
use Rattle.tac_ir.specs.declared.code.TacFun.{TacFun}
use Rattle.tac_ir.specs.declared.code.TacInstr.{TacInstr}
use Rattle.tac_ir.specs.declared.code.TacInstr.TheVariants as instr

-- an instruction of a function
abbrev pub Has : TacFun → TacInstr → Type 0
Has f i = (j : ℕ) × (slice_get f.code j ≡ Some i)

-- a function of a program, with its code
abbrev pub EachFunction : Typed → Tac → (FunDef → TacFun → Type 0) → Type 0
EachFunction p t P =
    (k : ℕ) (d : FunDef) (f : TacFun) → slice_get p.funs k ≡ Some d → slice_get t.funs k ≡ Some f → P d f

-- ---- what code names

-- the objects of one sort, of which a pointer is made
abbrev pub objects_of : Typed → (literal : Bool) → ℕ
objects_of p literal = if literal then length p.literals else length p.globals

-- the local, global, literal or function that an instruction names is there, and `malloc` is told a length
abbrev pub IsThere : Typed → FunDef → TacInstr → Type 0
IsThere p d (instr.Local to var) = var < length (lengths_of p d.vars)
IsThere p d (instr.Zero var) = var < length (lengths_of p d.vars)
IsThere p d (instr.Global to number literal) = number < objects_of p literal
IsThere p d (instr.Function to fun) = fun < length p.funs
IsThere p d (instr.Call to fun args) = fun < length p.funs
IsThere p d (instr.Lib lib.Malloc to args) = length args ≡ 1
IsThere p d i = Unit {0}

-- Of a function: it has a kind for each temp, parameters among its temps, and names no others
pub record IsNamed (p : Typed) (d : FunDef) (f : TacFun) : Type 0 where
  pub kinds : length f.kinds ≡ f.temps
  pub params : f.params ≤ f.temps
  pub count : f.params ≡ length d.params
  pub temps : (i : TacInstr) → Has f i → (k : ℕ) → IsIn k (names i) → k < f.temps
  pub there : (i : TacInstr) → Has f i → IsThere p d i

-- ---- parameters and results

-- The first temps of a function are of the kinds of its type's parameters, and there are as many of these; `main` has
-- none
pub record TakesParameters (p : Typed) (t : Tac) : Type 0 where
  pub begins : (fun : ℕ) (x : Signature) → signature_of_function p fun ≡ Some x →
      begins_with (kinds_of (slice_get t.funs fun)) x.params ≡ true
  pub counts : (fun : ℕ) (f : TacFun) (x : Signature) → slice_get t.funs fun ≡ Some f →
      signature_of_function p fun ≡ Some x → f.params ≡ length x.params
  pub main_takes : (f : TacFun) → slice_get t.funs p.main ≡ Some f → f.params ≡ 0

-- `main` takes nothing and gives an `int` (C11 5.1.2.2.1)
abbrev pub MainGives : Typed → Type 0
MainGives p = signature_of_function p p.main ≡ Some (record { gives = Some int_result; params = [] })

-- ---- operations and copies

-- An operation is at a kind that the integer promotions leave as it is (C11 6.3.1.1p2); but where a narrower variable
-- is moved by one, the sum or difference is at its own kind
abbrev pub IsWide : IntKind → IntOp → Type 0
IsWide k Add = Unit {0}
IsWide k Sub = Unit {0}
IsWide k op = 32 ≤ width_of (form_of k)

-- and a struct or union that is copied is no larger than an object may be
abbrev pub IsMade : TacInstr → Type 0
IsMade (instr.Int op k to a b) = IsWide k op
IsMade (instr.CopyUnits from to bytes unit from_pos to_pos) = bytes ≤ size_limit
IsMade i = Unit {0}

-- its units are fewer than a loop counts
abbrev pub IsCounted : TacInstr → Type 0
IsCounted (instr.CopyUnits from to bytes unit from_pos to_pos) = (0 < unit) × (bytes / unit < 2 ^ 31)
IsCounted i = Unit {0}

-- ---- arguments

-- a call has so many that a frame has places for them
abbrev pub IsShortCall : TacInstr → Type 0
IsShortCall (instr.Call to fun args) = length args ≤ 4194304
IsShortCall (instr.CallValue to v of args pos) = length args ≤ 4194304
IsShortCall i = Unit {0}

-- ---- all

abbrev pub EachInstruction : Tac → (TacInstr → Type 0) → Type 0
EachInstruction t P = (k : ℕ) (f : TacFun) → slice_get t.funs k ≡ Some f → (i : TacInstr) → Has f i → P i

-- lowered code
pub record HasForm (p : Typed) (t : Tac) : Type 0 where
  pub named : EachFunction p t (λ d f. IsNamed p d f)
  pub takes : TakesParameters p t
  pub main : MainGives p
  pub made : EachInstruction t IsMade
  pub counted : EachInstruction t IsCounted
  pub short : EachInstruction t IsShortCall
