-- The operations on values and memory that the meaning of programs stands on, as a record: the placed and the strict
-- meaning are one definition over two such records. M is memory with all that a run keeps beside it: the objects, where
-- they stand, the heap.
use Rattle.std.specs.Prelude.{ℕ, ◌-◌, ◌*◌, ◌%◌, ◌^◌, Bool, true, false, Option, Result, Ok, Err, pos, if◌then◌else◌}
use Rattle.ck_int.specs.declared.kinds.IntKind.{IntKind}
use Rattle.ck_int.specs.declared.kinds.IntKind.TheVariants as int
use Rattle.ck_int.specs.declared.kinds.IntOp.{IntOp}
use Rattle.ck_int.specs.declared.kinds.IntOp.TheVariants.{Add, Sub, Div}
use Rattle.ck_int.specs.declared.kinds.CmpOp.{CmpOp}
use Rattle.ck_int.specs.declared.kinds.CmpOp.TheVariants.{Ne}
use Rattle.ck_int.specs.Kinds.{wrapped, converted}
use Rattle.ck_int.specs.Arithmetic.{binary_of, compare_of}
use Rattle.obj_mem.specs.Values.{Value}
use Rattle.obj_mem.specs.Values as value
use Rattle.obj_mem.specs.declared.ending.Fault.{Fault}
use Rattle.obj_mem.specs.declared.ending.UnitFault.{UnitFault}
use Rattle.cheri_c_sem.specs.Kinds.{Kind, Plain, Capability, address_kind, int_kind, null_at, number_of, truth, pointer}
use Rattle.cheri_c_sem.specs.Kinds.{zero_of}

-- What is asked of a capability, or made of it (CHERI C/C++ Programming Guide, UCAM-CL-TR-947, 7.3). Set_address,
-- And_perms and Equal_exact have a second operand; Rounded and Mask are of a length.
pub data Work : Type 0 where
  Base : Work
  Offset : Work
  Length : Work
  Tag : Work
  Perms : Work
  Clear : Work
  Set_address : Work
  And_perms : Work
  Equal_exact : Work
  Rounded : Work
  Mask : Work

pub record Operations (M : Type 0) : Type 0 where
  -- an operation on integers; the second kind is that of the right operand, which may differ in a shift
  pub int : IntOp → IntKind → IntKind → ℕ → ℕ → Result ℕ Fault
  -- the address of a capability
  pub address : M → Value → Result ℕ Fault
  -- a comparison of the addresses of capabilities; the truth value says that they count as signed
  pub compare : M → CmpOp → Bool → Value → Value → Result Bool Fault
  -- the difference of two addresses in bytes, as an integer of kind I64
  pub difference : M → Value → Value → Result ℕ Fault
  -- a capability moved by a number of bytes, modulo 2 ^ 64
  pub offset : M → Value → ℕ → Result Value Fault
  -- a capability with its bounds narrowed to a length; the truth value asks that nothing is rounded
  pub narrow : M → Value → ℕ → Bool → Result Value Fault
  pub work : M → Work → Value → Value → Result Value Fault
  -- a load and a store of 1, 2, 4, 8 or 16 bytes
  pub load : M → Value → ℕ → Result Value Fault
  pub store : M → Value → ℕ → Value → Result M Fault
  -- the first unit of a struct copy, from and to, of a number of bytes
  pub copy_unit : M → Value → Value → ℕ → Result M UnitFault
  -- whether so many bytes may be copied from one place to another
  pub overlap : Value → Value → ℕ → Result (Unit {0}) Fault
  -- the pointer, just narrowed to a member, is to one of this length
  pub note_member : M → Value → ℕ → M
  -- a variable's value that was not given since its block was entered
  pub unset : Kind → Result Value Fault
  -- what a function that gives a value, and is not `main`, gives where it reaches its end
  pub falls : Kind → Result Value Fault
  -- no objects; the next object: global k, or string literal k, of a length
  pub empty : M
  pub add_global : M → (k length : ℕ) → M
  pub add_literal : M → (k length : ℕ) → M
  -- the next object: local `n` of function `f` whose frame has this address, of a length; it is dead
  pub add_local : M → (frame f n length : ℕ) → M
  -- how many objects there are: the number of the next one
  pub count : M → ℕ
  -- the pointer to an object as a whole, with these permissions
  pub whole : M → ℕ → ℕ → Value
  -- a local's block is entered; it is left; its function returns
  pub zero : M → ℕ → M
  pub leave : M → ℕ → M
  pub end : M → ℕ → M
  -- an allocation of a number of bytes
  pub allocate : M → ℕ → Result (Value × M) Fault
  -- the stack's top, and a function's frame below an address, where there is room for it
  pub stack_top : ℕ
  pub enter : ℕ → ℕ → Option ℕ

module _ {M : Type 0} (ops : Operations M) where
  abbrev pub on_ok : {A B : Type 0} → (A → Result B Fault) → Result A Fault → Result B Fault
  on_ok f (Ok x) = f x
  on_ok f (Err e) = Err e

  -- ---- comparison and truth

  abbrev pub compare_by : M → CmpOp → Kind → Value → Value → Result Bool Fault
  compare_by m op (Plain k) x y = Ok (compare_of op k (number_of x) (number_of y))
  compare_by m op (Capability signed) x y = ops.compare m op signed x y

  -- a scalar is true where it is other than 0, or than null (C11 6.8.4.1p2)
  abbrev pub is_true : M → Kind → Value → Result Bool Fault
  is_true m k x = compare_by m Ne k x (zero_of k)

  -- ---- conversion (C11 6.3)

  abbrev pub to_int : M → IntKind → Value → Result Value Fault
  to_int m int.Bool x = on_ok (λ b. Ok (truth b)) (is_true m pointer x)
  to_int m k x = on_ok (λ a. Ok (value.Int (wrapped k (pos a)))) (ops.address m x)

  -- A plain integer becomes null with that address, and a capability a plain integer by its address; capabilities turn
  -- into each other unchanged
  abbrev pub convert_by : M → Kind → Kind → Value → Result Value Fault
  convert_by m (Plain j) (Plain k) x = Ok (value.Int (converted j k (number_of x)))
  convert_by m (Plain j) (Capability signed) x = Ok (null_at (number_of x))
  convert_by m (Capability signed) (Plain k) x = to_int m k x
  convert_by m (Capability signed) (Capability signed') x = Ok x

  -- the 64 bits of a scalar: of a plain integer, or of an address
  abbrev pub number_by : M → Kind → Value → Result ℕ Fault
  number_by m (Plain k) x = Ok (number_of x)
  number_by m (Capability signed) x = ops.address m x

  -- ---- operations

  abbrev pub int_by : M → IntOp → IntKind → Kind → Value → Value → Result Value Fault
  int_by m op k count x y =
      on_ok (λ b. on_ok (λ n. Ok (value.Int n)) (ops.int op k (int_kind count) (number_of x) b)) (number_by m count y)

  -- What derives from a capability is that capability with the computed address
  abbrev pub derive_by : M → IntOp → Bool → Kind → Bool → Value → Value → Result Value Fault
  derive_by m op signed count right x y =
      on_ok (λ a. on_ok (λ b. on_ok (λ n. ops.work m Set_address (if right then y else x) (value.Int n))
      (ops.int op (address_kind signed) (int_kind count) a b)) (number_by m count y)) (ops.address m x)

  -- a number of bytes to move by, or back by, modulo 2 ^ 64
  abbrev pub steps_of : Bool → ℕ → ℕ
  steps_of false n = n % 2 ^ 64
  steps_of true n = (2 ^ 64 - n % 2 ^ 64) % 2 ^ 64

  abbrev pub move_by : M → Bool → Value → ℕ → Result Value Fault
  move_by m minus x n = ops.offset m x (steps_of minus n)

  -- whether a value points to an object
  abbrev pub is_live : Value → Bool
  is_live (value.Live object low high offset permissions) = true
  is_live (value.Int n) = false
  is_live (value.Fun f) = false
  is_live (value.Raw address upper) = false

  -- An operation on capability integers, from whose left or right operand the result derives. Where a plain integer is
  -- added to a pointer to an object, or taken from it, the pointer moves; `plain` says that the other operand was
  -- converted from a plain integer
  abbrev pub capability_by : M → IntOp → Bool → Kind → Bool → Bool → Value → Value → Result Value Fault
  capability_by m Add signed count false true x y =
      if is_live x then on_ok (move_by m false x) (number_by m count y) else derive_by m Add signed count false x y
  capability_by m Add signed count true true x y =
      if is_live y then on_ok (move_by m false y) (ops.address m x) else derive_by m Add signed count true x y
  capability_by m Sub signed count false true x y =
      if is_live x then on_ok (move_by m true x) (number_by m count y) else derive_by m Sub signed count false x y
  capability_by m op signed count right plain x y = derive_by m op signed count right x y

  -- a pointer moved by a number of elements of a size, up or down
  abbrev pub plus_by : M → ℕ → Bool → Kind → Value → Value → Result Value Fault
  plus_by m size minus index x y = on_ok (λ n. move_by m minus x (n * size)) (number_by m index y)

  -- the difference of two pointers in elements of a size, toward zero (C11 6.5.6p9)
  abbrev pub difference_by : M → ℕ → Value → Value → Result Value Fault
  difference_by m size x y = on_ok (λ d. Ok (value.Int (binary_of Div int.I64 d size))) (ops.difference m x y)
