-- The operations of the placed meaning under a map, and those of the strict meaning, which knows no addresses.
use Rattle.std.specs.Prelude.{ℕ, ◌+◌, ◌-◌, ◌*◌, ◌/◌, ◌%◌, ◌^◌, ◌==◌, ◌&&◌, ◌||◌, nat_lt, not, Bool, false, length}
use Rattle.std.specs.Prelude.{Option, Some, None, Result, Ok, Err, if◌then◌else◌, slice_get, slice_index_or, ℤ, pos}
use Rattle.std.specs.Prelude.{◌+ℤ◌, ◌-ℤ◌, ◌*ℤ◌, int_div, int_lt, int_le}
use Rattle.std.specs.Ordering.{int_eq}
use Rattle.ck_int.specs.declared.kinds.IntKind.{IntKind}
use Rattle.ck_int.specs.declared.kinds.IntOp.{IntOp}
use Rattle.ck_int.specs.declared.kinds.IntOp.TheVariants.{Add, Sub, Mul, Div, Rem, And, Or, Xor, Shl, Shr}
use Rattle.ck_int.specs.Kinds.{form_of, is_signed, least_of, greatest_of, modulo, value_of}
use Rattle.ck_int.specs.Arithmetic.{binary_of, promoted_width_of}
use Rattle.cap_concentrate.specs.Rounding.{alignment, owned}
use Rattle.obj_mem.specs.declared.ending.Fault.{Fault}
use Rattle.obj_mem.specs.declared.ending.UnitFault.{UnitFault}
use Rattle.obj_mem.specs.declared.ending.Reason.{Reason}
use Rattle.obj_mem.specs.declared.ending.Reason.TheVariants as reason
use Rattle.obj_mem.specs.declared.map.Map.{Map}
use Rattle.obj_mem.specs.declared.map.Frame.{Frame}
use Rattle.obj_mem.specs.declared.map.Slot.{Slot}
use Rattle.obj_mem.specs.Values.{Value, Int, Live}
use Rattle.obj_mem.specs.Objects.{Memory, Mode, Placed, Strict, is_strict, no_objects, add, rest, end, leave}
use Rattle.obj_mem.specs.Objects.{zero_object, whole_pointer, note_member}
use Rattle.obj_mem.specs.Access.{unspecified, onward, load, store, copy_unit}
use Rattle.obj_mem.specs.Pointers.{move, narrow, clear, mask, get_address, set_address, get_tag, get_permissions}
use Rattle.obj_mem.specs.Pointers.{get_base, get_length, get_offset}
use Rattle.obj_mem.specs.Comparisons.{compare, distance, identical, less_by}
use Rattle.obj_mem.specs.Heap.{heap_start, Allocation, allocate}
use Rattle.obj_mem.specs.Legal.{slot_of}
use Rattle.obj_mem.specs.Table.{addresses_of}
use Rattle.cheri_c_sem.specs.Kinds.{Kind, zero_of, number_of, truth}
use Rattle.cheri_c_sem.specs.Operations.{Operations, Work, Base, Offset, Length, Tag, Perms, Clear, Set_address}
use Rattle.cheri_c_sem.specs.Operations.{And_perms, Equal_exact, Rounded, Mask}

-- ---- integers

-- a signed kind doesn't have the number (C11 6.5p5)
abbrev pub overflows : IntKind → ℤ → Bool
overflows k z = is_signed (form_of k) && not (int_le (least_of (form_of k)) z && int_le z (greatest_of (form_of k)))

-- a shift count is negative, or not below the width of the promoted left operand (C11 6.5.7p3)
abbrev pub outside_width : IntKind → ℤ → Bool
outside_width k y = int_lt y (pos 0) || int_le (pos (promoted_width_of k)) y

-- A left shift of a negative signed number, or one whose result its kind doesn't have (C11 6.5.7p4)
abbrev pub loses : IntKind → ℤ → ℤ → Bool
loses k x y = is_signed (form_of k) && (int_lt x (pos 0) || overflows k (x *ℤ pos (2 ^ modulo y (promoted_width_of k))))

-- what C leaves undefined (C11 6.5p5, 6.5.5p5, 6.5.5p6, 6.5.7)
abbrev pub is_undefined : IntOp → IntKind → ℤ → ℤ → Bool
is_undefined Add k x y = overflows k (x +ℤ y)
is_undefined Sub k x y = overflows k (x -ℤ y)
is_undefined Mul k x y = overflows k (x *ℤ y)
is_undefined Div k x y = int_eq y (pos 0) || overflows k (int_div x y)
is_undefined Rem k x y = int_eq y (pos 0) || overflows k (int_div x y)
is_undefined And k x y = false
is_undefined Or k x y = false
is_undefined Xor k x y = false
is_undefined Shl k x y = outside_width k y || loses k x y
is_undefined Shr k x y = outside_width k y

abbrev pub int_of : Mode → IntOp → IntKind → IntKind → ℕ → ℕ → Result ℕ Fault
int_of (Placed a) op k count x y = Ok (binary_of op k x y)
int_of Strict op k count x y =
    if is_undefined op k (value_of k x) (value_of count y) then unspecified reason.Undefined
    else Ok (binary_of op k x y)

-- where C leaves open which value there is, the placed meaning takes 0 or null
abbrev pub open_value : Mode → Reason → Kind → Result Value Fault
open_value (Placed a) r k = Ok (zero_of k)
open_value Strict r k = unspecified r

-- ---- memory

-- the objects, and what a run knows of its heap
pub record Store : Type 0 where
  pub memory : Memory
  pub heap : ℕ

abbrev pub with_memory : Store → Memory → Store
with_memory s m = record s { memory = m }

abbrev pub number_answer : Result ℕ Fault → Result Value Fault
number_answer r = onward r (λ n. Ok (Int n))

abbrev pub truth_answer : Result Bool Fault → Result Value Fault
truth_answer r = onward r (λ b. Ok (truth b))

abbrev pub work_of : Mode → Store → Work → Value → Value → Result Value Fault
work_of d s Base v x = number_answer (get_base d s.memory.shapes v)
work_of d s Offset v x = number_answer (get_offset d s.memory.shapes v)
work_of d s Length v x = number_answer (get_length d s.memory.shapes v)
work_of d s Tag v x = Ok (truth (get_tag v))
work_of d s Perms v x = Ok (Int (get_permissions v))
work_of d s Clear v x = clear d s.memory.shapes v
work_of d s Set_address v x = set_address d s.memory.shapes v (number_of x)
work_of d s And_perms v x = mask d s.memory.shapes v (number_of x)
work_of d s Equal_exact v x = truth_answer (identical d s.memory.shapes v x)
work_of d s Rounded v x = Ok (Int (owned (number_of v) % 2 ^ 64))
work_of d s Mask v x = Ok (Int (2 ^ 64 - alignment (number_of v)))

-- so many bytes at two places of one object, which have some in common and not all
abbrev pub laps : Value → Value → ℕ → Bool
laps (Live o low high at p) (Live o' low' high' at' p') bytes =
    o == o' && not (at == at') && (nat_lt (less_by at at') bytes || nat_lt (less_by at' at) bytes)
laps v w bytes = false

abbrev pub overlap_of : Mode → Value → Value → ℕ → Result (Unit {0}) Fault
overlap_of d from to bytes = if is_strict d && laps from to bytes then unspecified reason.Overlap else Ok tt

abbrev pub stored : Store → Result Memory Fault → Result Store Fault
stored s r = onward r (λ m. Ok (with_memory s m))

abbrev pub copied : Store → Result Memory UnitFault → Result Store UnitFault
copied s (Ok m) = Ok (with_memory s m)
copied s (Err e) = Err e

abbrev pub taken : Result Allocation Fault → Result (Value × Store) Fault
taken r = onward r (λ a. Ok (a.pointer, record { memory = a.memory; heap = a.heap }))

-- ---- what a map says beside the addresses of text and heap

pub record Plan : Type 0 where
  pub mode : Mode
  -- the bases of the globals and the literals, and that of local n of function f in a frame
  pub global : ℕ → ℕ
  pub literal : ℕ → ℕ
  pub local : (frame f n : ℕ) → ℕ
  -- the stack's top, and a function's frame below an address
  pub stack_top : ℕ
  pub enter : ℕ → ℕ → Option ℕ

abbrev pub count_of : Store → ℕ
count_of s = length s.memory.shapes

abbrev pub with_object : Plan → Store → (length base : ℕ) → Store
with_object d s length base = with_memory s (add d.mode s.memory length base)

-- a local is dead before its block is entered
abbrev pub with_local : Plan → Store → (length base : ℕ) → Store
with_local d s length base = with_memory s (rest (add d.mode s.memory length base) (count_of s))

unfoldable pub operations : Plan → Operations Store
operations d = record {
  int = int_of d.mode;
  address = λ s v. get_address d.mode s.memory.shapes v;
  compare = λ s op signed v w. compare d.mode s.memory.shapes signed op v w;
  difference = λ s v w. distance d.mode s.memory.shapes v w;
  offset = λ s v by. move d.mode s.memory.shapes v by;
  narrow = λ s v length exact. narrow d.mode s.memory.shapes v length exact;
  work = work_of d.mode;
  load = λ s v n. load d.mode s.memory v n;
  store = λ s v n x. stored s (store d.mode s.memory v n x);
  copy_unit = λ s from to n. copied s (copy_unit d.mode s.memory from to n);
  overlap = overlap_of d.mode;
  note_member = λ s v own. with_memory s (note_member d.mode s.memory v own);
  unset = open_value d.mode reason.Unwritten;
  falls = open_value d.mode reason.Undefined;
  empty = record { memory = no_objects; heap = heap_start d.mode };
  add_global = λ s k length. with_object d s length (d.global k);
  add_literal = λ s k length. with_object d s length (d.literal k);
  add_local = λ s frame f n length. with_local d s length (d.local frame f n);
  count = count_of;
  whole = λ s object permissions. whole_pointer s.memory.shapes object permissions;
  zero = λ s object. with_memory s (zero_object d.mode s.memory object);
  leave = λ s object. with_memory s (leave d.mode s.memory object);
  end = λ s object. with_memory s (end s.memory object);
  allocate = λ s n. taken (allocate d.mode s.memory s.heap n);
  stack_top = d.stack_top;
  enter = d.enter;
}

-- ---- the placed meaning under a map

-- The new stack address: the old one less the frame's size, rounded down to its alignment
abbrev pub below : ℕ → Frame → ℕ
below address f = (address - f.size) / f.align * f.align

-- it is not below the stack's base, as a whole number
abbrev pub frame_within : ℕ → ℕ → Option Frame → Option ℕ
frame_within base address None = None
frame_within base address (Some f) =
    if nat_lt address f.size || nat_lt (below address f) base then None else Some (below address f)

abbrev pub slot_offset : Option Slot → ℕ
slot_offset None = 0
slot_offset (Some s) = s.at

abbrev pub local_offset : Option Frame → ℕ → ℕ
local_offset None n = 0
local_offset (Some f) n = slot_offset (slot_of f n)

abbrev pub placed_plan : Map → Plan
placed_plan m = record {
  mode = Placed (addresses_of m);
  global = λ k. slice_index_or m.globals k 0;
  literal = λ k. slice_index_or m.literals k 0;
  local = λ frame f n. frame + local_offset (slice_get m.frames f) n;
  stack_top = m.stack.0 + m.stack.1;
  enter = λ f address. frame_within m.stack.0 address (slice_get m.frames f);
}

-- ---- the strict meaning: there is always room for a frame

abbrev pub strict_plan : Plan
strict_plan = record {
  mode = Strict;
  global = λ k. 0;
  literal = λ k. 0;
  local = λ frame f n. 0;
  stack_top = 0;
  enter = λ f address. Some address;
}
