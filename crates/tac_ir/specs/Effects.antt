-- What single instructions of three-address code do.
use Rattle.std.specs.Prelude.{ℕ, ◌+◌, ◌/◌, Bool, true, false, not, List, [], length, map, Option, Some, None, slice_get}
use Rattle.std.specs.Prelude.{slice_index_or}
use Rattle.ck_base.specs.World.{World}
use Rattle.ck_base.specs.declared.positions.Pos.{Pos}
use Rattle.ck_int.specs.declared.kinds.IntKind.TheVariants as int
use Rattle.cap_ops.specs.Permissions.{data_permissions, const_permissions}
use Rattle.c_tree.specs.declared.typed.FunDef.{FunDef}
use Rattle.c_tree.specs.declared.typed.Typed.{Typed}
use Rattle.obj_mem.specs.Values as value
use Rattle.obj_mem.specs.Values.{Value}
use Rattle.cheri_c_sem.specs.Compatible.{compatible}
use Rattle.cheri_c_sem.specs.Expressions.{permissions_of}
use Rattle.cheri_c_sem.specs.Kinds.{Kind, Plain, Capability, null_at, nothing, number_of, truth}
use Rattle.cheri_c_sem.specs.Meaning.{At, load, store, copy_units, called, serve, test}
use Rattle.cheri_c_sem.specs.Operations as work
use Rattle.cheri_c_sem.specs.Operations.{Operations, Work, compare_by, convert_by, int_by}
use Rattle.cheri_c_sem.specs.Steps.{State, Then, ◌>>=◌, ◌>>◌, give, ask, set_variable}
use Rattle.cheri_c_sem.specs.Tree.{Service, Put_char, Get_char, Malloc, Exit}
use Rattle.tac_ir.specs.declared.code.Amount.{Amount}
use Rattle.tac_ir.specs.declared.code.Amount.TheVariants as amount
use Rattle.tac_ir.specs.declared.code.CapWork.{CapWork}
use Rattle.tac_ir.specs.declared.code.CapWork.TheVariants as cap
use Rattle.tac_ir.specs.declared.code.LibOp.{LibOp}
use Rattle.tac_ir.specs.declared.code.LibOp.TheVariants as lib
use Rattle.tac_ir.specs.declared.code.TacInstr.{TacInstr}
use Rattle.tac_ir.specs.declared.code.TacInstr.TheVariants as instr
use Rattle.tac_ir.specs.declared.code.TacKind.{TacKind}
use Rattle.tac_ir.specs.declared.code.TacKind.TheVariants as kind

-- ---- kinds and names

abbrev pub kind_of : TacKind → Kind
kind_of (kind.Int k) = Plain k
kind_of (kind.Cap signed) = Capability signed

-- the kind of a temp, by the kinds of its function
abbrev pub kind_at : List TacKind → ℕ → Kind
kind_at kinds t = kind_of (slice_index_or kinds t (kind.Int int.I32))

abbrev pub work_of : CapWork → Work
work_of cap.Base = work.Base
work_of cap.Offset = work.Offset
work_of cap.Length = work.Length
work_of cap.Tag = work.Tag
work_of cap.Perms = work.Perms
work_of cap.Clear = work.Clear
work_of cap.SetAddress = work.Set_address
work_of cap.AndPerms = work.And_perms
work_of cap.EqualExact = work.Equal_exact
work_of cap.Rounded = work.Rounded
work_of cap.Mask = work.Mask

abbrev pub service_of : LibOp → Service
service_of lib.PutChar = Put_char
service_of lib.GetChar = Get_char
service_of lib.Malloc = Malloc
service_of lib.Exit = Exit

-- Under a map the operations that have no position don't fault; this stands for the position that they lack
abbrev pub no_position : Pos
no_position = record { line = 0; col = 0 }

-- ---- where an instruction leads: on, to a label, over a turn, back to the caller, or into a function

pub data Next : Type 0 where
  On : Next
  To : (label : ℕ) → Next
  Pause : Next
  Back : Value → Next
  Into : (fun : ℕ) → List Value → (to : Option ℕ) → Next

-- ---- temps are the variables of the state

abbrev pub held : Option (Option Value) → Value
held (Some (Some v)) = v
held (Some None) = nothing
held None = nothing

module _ {M : Type 0} where
  abbrev pub temp_in : State M → ℕ → Value
  temp_in s t = held (slice_get s.vars t)

  abbrev pub temp : ℕ → Then M Value
  temp t = λ s k. k (temp_in s t) s

  abbrev pub temps : List ℕ → Then M (List Value)
  temps ts = λ s k. k (map (temp_in s) ts) s

  abbrev pub optional : Option ℕ → Then M Value
  optional None = give nothing
  optional (Some t) = temp t

  abbrev pub amount_of : Amount → Then M ℕ
  amount_of (amount.Number n) = give n
  amount_of (amount.Temp t) = λ s k. k (number_of (temp_in s t)) s

  -- a temp gets a value
  abbrev pub set : ℕ → Value → Then M Next
  set t v = do
    set_variable t (Some v)
    give On

  abbrev pub set_optional : Option ℕ → Value → Then M Next
  set_optional None v = give On
  set_optional (Some t) v = set t v

module _ {M : Type 0} (ops : Operations M) (w : World) (p : Typed) where
  -- the pointer to a global or a literal: the globals are the first objects, and the literals follow
  abbrev pub global_pointer : M → ℕ → Bool → Value
  global_pointer m n false = ops.whole m n (permissions_of p [] (slice_get p.globals n))
  global_pointer m n true = ops.whole m (length p.globals + n) const_permissions

  -- which functions may be called through a function type
  abbrev pub fits : ℕ → List Bool
  fits of = map (λ (f : FunDef). compatible p.types of f.of) p.funs

  abbrev pub way : Bool → ℕ → Next
  way true label = To label
  way false label = On

  abbrev pub same : Bool → Bool → Bool
  same true b = b
  same false b = not b

  -- What one instruction does in a function whose temps have these kinds
  abbrev pub effect : List TacKind → TacInstr → Then M Next
  effect kinds (instr.Const to (kind.Int k) v) = set to (value.Int v)
  effect kinds (instr.Const to (kind.Cap signed) v) = set to (null_at v)
  effect kinds (instr.Copy to from) = do
    v ← temp from
    set to v
  effect kinds (instr.Int op k to a b) = do
    x ← temp a
    y ← temp b
    v ← ask no_position (λ m. int_by ops m op k (kind_at kinds b) x y)
    set to v
  effect kinds (instr.Cmp op k to a b) = do
    x ← temp a
    y ← temp b
    r ← ask no_position (λ m. compare_by ops m op (kind_of k) x y)
    set to (truth r)
  effect kinds (instr.Convert to from old new) = do
    x ← temp from
    v ← ask no_position (λ m. convert_by ops m (kind_of old) (kind_of new) x)
    set to v
  effect kinds (instr.Cap op to a b) = do
    x ← temp a
    y ← optional b
    v ← ask no_position (λ m. ops.work m (work_of op) x y)
    set to v
  effect kinds (instr.Offset to base by) = do
    x ← temp base
    n ← amount_of by
    v ← ask no_position (λ m. ops.offset m x n)
    set to v
  effect kinds (instr.Narrow to base length exact) = do
    x ← temp base
    n ← amount_of length
    v ← ask no_position (λ m. ops.narrow m x n exact)
    set to v
  effect kinds (instr.Load to from k pos) = do
    x ← temp from
    v ← load ops w (kind_of k) (At pos x)
    set to v
  effect kinds (instr.Store at v k pos) = do
    x ← temp at
    y ← temp v
    store ops w (kind_of k) (At pos x) y
    give On
  effect kinds (instr.Local to var) = λ s. set to (ops.whole s.mem (s.first + var) data_permissions) s
  effect kinds (instr.Global to number literal) = λ s. set to (global_pointer s.mem number literal) s
  effect kinds (instr.Function to fun) = set to (value.Fun fun)
  effect kinds (instr.Zero var) = λ s k. k On (record s { mem = ops.zero s.mem (s.first + var) })
  effect kinds (instr.CopyUnits from to bytes unit from_pos to_pos) = do
    x ← temp from
    y ← temp to
    copy_units ops w (bytes / unit) unit 0 (At from_pos x) (At to_pos y)
    give On
  effect kinds (instr.Label l) = give On
  effect kinds (instr.Jump l) = give (To l)
  effect kinds (instr.Branch on when l) = do
    x ← temp on
    c ← test ops w no_position (kind_at kinds on) x
    give (way (same when c) l)
  effect kinds (instr.Call to fun args) = do
    vs ← temps args
    give (Into fun vs to)
  effect kinds (instr.CallValue to v of args pos) = do
    x ← temp v
    vs ← temps args
    f ← called ops w pos (fits of) x
    give (Into f vs to)
  effect kinds (instr.Lib op to args) = do
    vs ← temps args
    v ← serve ops w no_position (service_of op) vs
    set_optional to v
  effect kinds instr.Turn = give Pause
  effect kinds (instr.Return v) = do
    x ← optional v
    give (Back x)
