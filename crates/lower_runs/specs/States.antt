-- The relation of states. The meaning of a function and its code go through the same states, but that the code's
-- variables are its temps: those of the function's variables, those that have the pointers to its objects, and behind
-- these the temps of expressions.
use Rattle.std.specs.Prelude.{◌≡◌, ◌≢◌, ℕ, ◌+◌, ◌%◌, ◌^◌, ◌≤◌, ◌<◌, not, Bool, true, false, List, length, Option, Some}
use Rattle.std.specs.Prelude.{None}
use Rattle.std.specs.Prelude.{Result, Ok, slice_get, ◌==◌}
use Rattle.ck_int.specs.Arithmetic.{binary_of}
use Rattle.ck_int.specs.Kinds.{IsKept}
use Rattle.ck_int.specs.declared.kinds.CmpOp.{CmpOp}
use Rattle.ck_int.specs.declared.kinds.CmpOp.TheVariants.{Eq, Ne}
use Rattle.ck_int.specs.declared.kinds.IntKind.{IntKind}
use Rattle.ck_int.specs.declared.kinds.IntKind.TheVariants as integer
use Rattle.ck_int.specs.declared.kinds.IntOp.{IntOp}
use Rattle.ck_int.specs.declared.kinds.IntOp.TheVariants.{Sub}
use Rattle.cap_ops.specs.Permissions.{data_permissions}
use Rattle.obj_mem.specs.Values.{Value}
use Rattle.obj_mem.specs.Values as value
use Rattle.cheri_c_sem.specs.Kinds.{Kind, Plain, Capability, zero_of, null_at, number_of, bytes_of}
use Rattle.cheri_c_sem.specs.Modes.{Store}
use Rattle.cheri_c_sem.specs.Operations.{Operations, Work}
use Rattle.cheri_c_sem.specs.Operations as asked
use Rattle.cheri_c_sem.specs.Steps.{State}
use Rattle.tac_ir.specs.Effects.{kind_of}
use Rattle.tac_ir.specs.declared.code.TacKind.{TacKind}
use Rattle.lower_runs.specs.Sound.{IsPointer, IsSound}

-- ---- where variables stand

-- a variable's temp, and its kind
pub record Home : Type 0 where
  pub temp : ℕ
  pub kind : TacKind

-- A function at a place in its text: how many temps it has, how many of them do not belong to expressions, how many
-- variables, and how many of these are objects, and how many turns are left at most; the home of each variable that is
-- no object; and the temp with the pointer to each object, by its number, whose block has been entered
pub record Scene : Type 0 where
  pub size : ℕ
  pub fixed : ℕ
  pub count : ℕ
  pub objects : ℕ
  pub limit : ℕ
  pub home : ℕ → Option Home
  pub spot : ℕ → Option ℕ

pub record IsScene (g : Scene) : Type 0 where
  pub room : g.fixed ≤ g.size
  pub home_below : (x : ℕ) (h : Home) → g.home x ≡ Some h → h.temp < g.fixed
  pub home_counted : (x : ℕ) (h : Home) → g.home x ≡ Some h → x < g.count
  pub homes_differ : (x y : ℕ) (h i : Home) → g.home x ≡ Some h → g.home y ≡ Some i → h.temp ≡ i.temp → x ≡ y
  pub spot_below : (n t : ℕ) → g.spot n ≡ Some t → t < g.fixed
  pub spot_counted : (n t : ℕ) → g.spot n ≡ Some t → n < g.objects
  pub spots_differ : (m n s t : ℕ) → g.spot m ≡ Some s → g.spot n ≡ Some t → s ≡ t → m ≡ n
  pub apart : (x n t : ℕ) (h : Home) → g.home x ≡ Some h → g.spot n ≡ Some t → t ≢ h.temp

-- no pointer to an object stands in a temp
abbrev pub IsFree : Scene → ℕ → Type 0
IsFree g t = (n s : ℕ) → g.spot n ≡ Some s → s ≢ t

-- ---- values

-- a value of a kind: an integer that the kind keeps, or a capability
abbrev pub IsOf : Kind → Value → Type 0
IsOf (Plain k) v = (n : ℕ) × (v ≡ value.Int n) × IsKept k n
IsOf (Capability signed) v = IsPointer v

-- a variable that has no value is 0 or null
abbrev pub or_zero : TacKind → Option Value → Value
or_zero k None = zero_of (kind_of k)
or_zero k (Some v) = v

-- ---- states

-- a temp other than one, where one is left out
abbrev pub IsApart : Option ℕ → ℕ → Type 0
IsApart None t = Unit {0}
IsApart (Some j) t = t ≢ j

module _ (ops : Operations Store) where
  -- a memory has the objects of an older one, where they were, and is as sound
  pub record IsOnward (old new : Store) : Type 0 where
    pub sound : IsSound old → IsSound new
    pub count : ops.count old ≤ ops.count new
    pub whole : (object permissions : ℕ) → object < ops.count old →
        ops.whole new object permissions ≡ ops.whole old object permissions

  module _ (g : Scene) where
    -- The temps agree with a state: each variable's value is in its home, but for one temp that may be left out; and
    -- the pointers to objects are in their temps
    pub record Agrees (but : Option ℕ) (s : State Store) (temps : List (Option Value)) : Type 0 where
      pub room : length temps ≡ g.size
      pub count : length s.vars ≡ g.count
      pub variable : (x : ℕ) (h : Home) → g.home x ≡ Some h → IsApart but h.temp → (o : Option Value) →
          slice_get s.vars x ≡ Some o
          → slice_get temps h.temp ≡ Some (Some (or_zero h.kind o))
      pub typed : (x : ℕ) (h : Home) → g.home x ≡ Some h → (v : Value) → slice_get s.vars x ≡ Some (Some v) →
          IsOf (kind_of h.kind) v
      pub object : (n t : ℕ) → g.spot n ≡ Some t →
          slice_get temps t ≡ Some (Some (ops.whole s.mem (s.first + n) data_permissions))
      pub there : s.first + g.objects ≤ ops.count s.mem
      pub sound : IsSound s.mem
      pub within : s.left ≤ g.limit
      pub high : s.frame ≤ ops.stack_top

    -- What a part of an expression leaves as it is on the way from one state to another: the call, the objects, the
    -- variables that it spares, and the temps of expressions below its own, but for one that may be left out
    pub record Went (spares : ℕ → Bool) (below : ℕ) (but : Option ℕ) (s : State Store) (temps : List (Option Value))
        (u : State Store) (now : List (Option Value)) : Type 0 where
      pub left : u.left ≤ s.left
      pub first : u.first ≡ s.first
      pub frame : u.frame ≡ s.frame
      pub onward : IsOnward s.mem u.mem
      pub spared : (x : ℕ) → spares x ≡ true → slice_get u.vars x ≡ slice_get s.vars x
      pub kept : (j : ℕ) → g.fixed ≤ j → j < below → IsApart but j → slice_get now j ≡ slice_get temps j

-- ---- operations

abbrev pub IsAnswered : {A E : Type 0} → Result A E → Type 0
IsAnswered {A} {E} r = (x : A) × (r ≡ Ok x)

-- what an operation on capabilities gives
abbrev pub kind_given : Work → Kind
kind_given asked.Tag = Plain integer.Bool
kind_given asked.Equal_exact = Plain integer.Bool
kind_given asked.Clear = Capability false
kind_given asked.Set_address = Capability false
kind_given asked.And_perms = Capability false
kind_given o = Plain integer.U64

-- only the rounding of lengths is of no capability
abbrev pub IsWorkedOn : Work → Value → Type 0
IsWorkedOn asked.Rounded v = Unit {0}
IsWorkedOn asked.Mask v = Unit {0}
IsWorkedOn o v = IsPointer v

-- What the code asks of operations, as it has no positions for most of them: under a map they answer
pub record IsPlaced (ops : Operations Store) : Type 0 where
  pub int : (op : IntOp) (k count : IntKind) (x y : ℕ) → ops.int op k count x y ≡ Ok (binary_of op k x y)
  pub address : (m : Store) (v : Value) → IsAnswered (ops.address m v)
  pub compare : (m : Store) (op : CmpOp) (signed : Bool) (x y : Value) → IsAnswered (ops.compare m op signed x y)
  pub opposite : (m : Store) (signed b : Bool) (x y : Value) → ops.compare m Ne signed x y ≡ Ok b →
      ops.compare m Eq signed x y ≡ Ok (not b)
  pub difference : (m : Store) (x y : Value) → IsAnswered (ops.difference m x y)
  pub offset : (m : Store) (v : Value) (n : ℕ) → IsAnswered (ops.offset m v n)
  pub narrow : (m : Store) (v : Value) (n : ℕ) (exact : Bool) → IsAnswered (ops.narrow m v n exact)
  pub work : (m : Store) (o : Work) (x y : Value) → IsAnswered (ops.work m o x y)
  pub unset : (k : Kind) → ops.unset k ≡ Ok (zero_of k)
  pub falls : (k : Kind) → ops.falls k ≡ Ok (zero_of k)
  pub overlap : (from to : Value) (n : ℕ) → ops.overlap from to n ≡ Ok tt
  pub note_member : (m : Store) (v : Value) (n : ℕ) → ops.note_member m v n ≡ m
  pub leave : (m : Store) (object : ℕ) → ops.leave m object ≡ m
  -- addresses
  pub address_null : (m : Store) (a : ℕ) → ops.address m (null_at a) ≡ Ok a
  pub address_word : (m : Store) (v : Value) (a : ℕ) → IsPointer v → ops.address m v ≡ Ok a → a < 2 ^ 64
  pub compare_null : (m : Store) (signed : Bool) (v : Value) (a : ℕ) → ops.address m v ≡ Ok a →
      ops.compare m Ne signed v (null_at 0) ≡ Ok (not (a == 0))
  pub apart : (m : Store) (x y : Value) (a b : ℕ) → ops.address m x ≡ Ok a → ops.address m y ≡ Ok b → a < 2 ^ 64 →
      b < 2 ^ 64 → ops.difference m x y ≡ Ok (binary_of Sub integer.I64 a b)
  -- a pointer moves by its address
  pub moves : (m : Store) (v : Value) (a n : ℕ) → IsSound m → IsPointer v → ops.address m v ≡ Ok a →
      ops.offset m v n ≡ ops.work m asked.Set_address v (value.Int ((a + n) % 2 ^ 64))
  pub moved : (m : Store) (v y : Value) (n : ℕ) → IsSound m → IsPointer v → n < 2 ^ 64 →
      ops.work m asked.Set_address v (value.Int n) ≡ Ok y → ops.address m y ≡ Ok n
  pub offset_none : (m : Store) (object permissions : ℕ) → IsSound m → object < ops.count m →
      ops.offset m (ops.whole m object permissions) 0 ≡ Ok (ops.whole m object permissions)
  -- pointers stay pointers, and what they are asked for has its kind
  pub offset_pointer : (m : Store) (v y : Value) (n : ℕ) → IsPointer v → ops.offset m v n ≡ Ok y → IsPointer y
  pub narrow_pointer : (m : Store) (v y : Value) (n : ℕ) (exact : Bool) → IsPointer v → ops.narrow m v n exact ≡ Ok y →
      IsPointer y
  pub work_of_kind : (m : Store) (o : Work) (x y v : Value) → IsSound m → IsWorkedOn o x → number_of y < 2 ^ 64 →
      ops.work m o x y ≡ Ok v → IsOf (kind_given o) v
  pub whole_pointer : (m : Store) (object permissions : ℕ) → IsSound m → permissions < 4096 →
      IsPointer (ops.whole m object permissions)
  pub load_pointer : (m : Store) (from v : Value) → IsSound m → ops.load m from 16 ≡ Ok v → IsPointer v
  -- what changes memory keeps its objects
  pub store : (m new : Store) (to v : Value) (k : Kind) → IsOf k v → ops.store m to (bytes_of k) v ≡ Ok new →
      IsOnward ops m new
  pub allocate : (m : Store) (n : ℕ) → IsSound m →
      (r : Value × Store) × (ops.allocate m n ≡ Ok r) × IsPointer r.0 × IsOnward ops m r.1
  pub copy_unit : (m new : Store) (from to : Value) (n : ℕ) → ops.copy_unit m from to n ≡ Ok new → IsOnward ops m new
  pub zero : (m : Store) (object : ℕ) → IsOnward ops m (ops.zero m object)
  pub end : (m : Store) (object : ℕ) → IsOnward ops m (ops.end m object)
