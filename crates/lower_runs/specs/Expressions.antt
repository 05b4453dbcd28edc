-- The relation, for expressions: these instructions are the code of this expression, between these numbers of temps and
-- labels. There is one relation for each function that emits code of expressions, with a rule for each way through it;
-- a rule asks what makes its code right, and leaves open what does not matter.
use Rattle.std.specs.Prelude.{◌≡◌, ℕ, zero, suc, ◌+◌, ◌*◌, ◌%◌, ◌^◌, ◌≤◌, ◌<◌, ◌==◌, ◌&&◌, not, Bool, true, false, List}
use Rattle.std.specs.Prelude.{[]}
use Rattle.std.specs.Prelude.{◌∷◌, length, Option, Some, None, slice_get, slice_index_or}
use Rattle.ck_base.specs.declared.positions.Pos.{Pos}
use Rattle.ck_int.specs.Kinds.{IsKept}
use Rattle.ck_int.specs.declared.kinds.IntKind.{IntKind}
use Rattle.ck_int.specs.declared.kinds.IntKind.TheVariants as int
use Rattle.ck_int.specs.declared.kinds.IntOp.{IntOp}
use Rattle.ck_int.specs.declared.kinds.IntOp.TheVariants.{Add, Sub}
use Rattle.ck_int.specs.declared.kinds.CmpOp.{CmpOp}
use Rattle.cap_ops.specs.Permissions.{const_permissions}
use Rattle.c_tree.specs.declared.typed.Typed.{Typed}
use Rattle.cheri_c_sem.specs.Expressions.{permissions_of, fits}
use Rattle.cheri_c_sem.specs.Kinds.{Kind, Plain, Capability}
use Rattle.cheri_c_sem.specs.Operations as work
use Rattle.cheri_c_sem.specs.Operations.{Work}
use Rattle.cheri_c_sem.specs.Tree.{Sign, Narrowing, Operation, Whole, Derived, Moved, Apart, Service, Put_char}
use Rattle.cheri_c_sem.specs.Tree.{Get_char, Malloc, Exit, Address, Bounds, Works, Ex, Number, Null, Load, Aggregate}
use Rattle.cheri_c_sem.specs.Tree.{Pointer_to, Convert, Discard, Unary, Not, Binary, Compare, And, Or, Conditional}
use Rattle.cheri_c_sem.specs.Tree.{Comma, Assign, Copy, Compound, Call, Library, Variable, Local, Object, Function}
use Rattle.cheri_c_sem.specs.Tree.{Deref, Member, Exs, Nil, Cons}
use Rattle.cheri_c_sem.specs.Types.{is_shift, promoted}
use Rattle.tac_ir.specs.Effects.{kind_of, kind_at}
use Rattle.tac_ir.specs.declared.code.Amount.TheVariants as amount
use Rattle.tac_ir.specs.declared.code.CapWork.{CapWork}
use Rattle.tac_ir.specs.declared.code.CapWork.TheVariants as cap
use Rattle.tac_ir.specs.declared.code.LibOp.TheVariants as lib
use Rattle.tac_ir.specs.declared.code.TacInstr.TheVariants as instr
use Rattle.tac_ir.specs.declared.code.TacKind.{TacKind}
use Rattle.tac_ir.specs.declared.code.TacKind.TheVariants as kind
use Rattle.lower_runs.specs.States.{Scene}
use Rattle.lower_runs.specs.Operating as operating
use Rattle.lower_runs.specs.Operating.{Code, word, long, transfer, give, AreInts, right_temps, moved_temps}
use Rattle.lower_runs.specs.Operating.{address_temps, changed_temps, signed_temps, stepped_temps, stride}

-- ---- what an expression writes

abbrev pub is_variable : ℕ → Ex → Bool
is_variable x (Variable p y) = x == y
is_variable x e = false

-- no part of an expression is an assignment to variable x
abbrev mutual
  pub spares : ℕ → Ex → Bool
  spares x (Load k e) = spares x e
  spares x (Aggregate e) = spares x e
  spares x (Pointer_to p n e) = spares x e
  spares x (Convert p j k plain e) = spares x e
  spares x (Discard e) = spares x e
  spares x (Unary p sign k e) = spares x e
  spares x (Not p k e) = spares x e
  spares x (Binary p op a b) = spares x a && spares x b
  spares x (Compare p op k a b) = spares x a && spares x b
  spares x (And p j k a b) = spares x a && spares x b
  spares x (Or p j k a b) = spares x a && spares x b
  spares x (Conditional p k c a b) = spares x c && (spares x a && spares x b)
  spares x (Comma a b) = spares x a && spares x b
  spares x (Assign k a b) = not (is_variable x a) && (spares x a && spares x b)
  spares x (Copy p bytes unit a b) = spares x a && spares x b
  spares x (Compound p op j k old a b) = not (is_variable x a) && (spares x a && spares x b)
  spares x (Call p fits e es) = spares x e && spare x es
  spares x (Library p service es) = spare x es
  spares x (Deref p e) = spares x e
  spares x (Member p offset e) = spares x e
  spares x e = true

  pub spare : ℕ → Exs → Bool
  spare x Nil = true
  spare x (Cons e es) = spares x e && spare x es

-- the position of the place that an expression designates, where it is one
abbrev pub position_in : Ex → Option Pos
position_in (Variable p x) = Some p
position_in (Local p n) = Some p
position_in (Object p n permissions) = Some p
position_in (Function p f) = Some p
position_in (Deref p e) = Some p
position_in (Member p offset e) = Some p
position_in (Aggregate e) = position_in e
position_in (Comma a b) = position_in b
position_in (Copy p bytes unit a b) = position_in a
position_in e = None

-- ---- numbers of temps and labels

pub record Mark : Type 0 where
  pub temps : ℕ
  pub labels : ℕ

abbrev pub more : ℕ → Mark → Mark
more n m = record m { temps = m.temps + n }

abbrev pub labelled : ℕ → Mark → Mark
labelled n m = record m { labels = m.labels + n }

abbrev pub int_kind : TacKind
int_kind = kind.Int int.I32

abbrev pub pointer_kind : TacKind
pointer_kind = kind.Cap false

-- ---- operations of compound assignments

-- the right operand of an operation on integers is of their kind, but in a shift
abbrev pub IsRight : Bool → TacKind → TacKind → Type 0
IsRight true j k = Unit {0}
IsRight false j k = k ≡ j

-- on a place of a kind j and a right operand of a kind k
abbrev pub IsChange : Operation → (j k : TacKind) → Kind → Type 0
IsChange (Whole op i count) j k (Plain c) = (c ≡ i) × (count ≡ kind_of k) × IsRight (is_shift op) (kind.Int i) k
IsChange (Derived op s count false plain) j k (Capability c) = (c ≡ s) × (count ≡ kind_of k)
IsChange (Derived op s count true plain) (kind.Int i) k (Capability c) =
    (c ≡ s) × (count ≡ kind_of k) × (k ≡ kind.Cap s)
IsChange (Moved size minus false count) (kind.Cap false) k (Capability c) = (c ≡ false) × (count ≡ kind_of k)
IsChange op j k c = ⊥

-- by one, of a place of a kind
abbrev pub IsStep : Operation → TacKind → Kind → Type 0
IsStep (Whole Add i (Plain int.I32)) (kind.Int k) (Plain c) = (i ≡ promoted k) × (c ≡ promoted k)
IsStep (Whole Sub i (Plain int.I32)) (kind.Int k) (Plain c) = (i ≡ promoted k) × (c ≡ promoted k)
IsStep (Derived Add s (Plain int.I32) false true) (kind.Cap z) (Capability c) = (s ≡ z) × (c ≡ z)
IsStep (Derived Sub s (Plain int.I32) false true) (kind.Cap z) (Capability c) = (s ≡ z) × (c ≡ z)
IsStep (Moved size minus false (Plain int.I32)) (kind.Cap false) (Capability c) = c ≡ false
IsStep op k c = ⊥

-- ---- library functions and intrinsics

abbrev pub cap_of : Work → CapWork
cap_of work.Base = cap.Base
cap_of work.Offset = cap.Offset
cap_of work.Length = cap.Length
cap_of work.Tag = cap.Tag
cap_of work.Perms = cap.Perms
cap_of work.Clear = cap.Clear
cap_of work.Set_address = cap.SetAddress
cap_of work.And_perms = cap.AndPerms
cap_of work.Equal_exact = cap.EqualExact
cap_of work.Rounded = cap.Rounded
cap_of work.Mask = cap.Mask

-- an intrinsic, where its value is asked for: none has an effect
abbrev pub intrinsic : Service → Option ℕ → TacKind → ℕ → Option ℕ → Code
intrinsic Address (Some to) k a b rest = instr.Convert to a k word ∷ rest
intrinsic (Bounds exact) (Some to) k a (Some b) rest = instr.Narrow to a (amount.Temp b) exact ∷ rest
intrinsic (Works w) (Some to) k a b rest = instr.Cap (cap_of w) to a b ∷ rest
intrinsic service to k a b rest = rest

abbrev pub serves : Service → Option ℕ → TacKind → List ℕ → Code
serves Put_char to k ts rest = instr.Lib lib.PutChar to ts ∷ rest
serves Get_char to k ts rest = instr.Lib lib.GetChar to ts ∷ rest
serves Malloc to k ts rest = instr.Lib lib.Malloc to ts ∷ rest
serves Exit to k ts rest = instr.Lib lib.Exit None ts ∷ rest
serves service to k ts rest = intrinsic service to k (slice_index_or ts 0 0) (slice_get ts 1) rest

-- an intrinsic works on a capability, but for the rounding of lengths
abbrev pub Takes : Service → List TacKind → Type 0
Takes Address (kind.Cap s ∷ ks) = Unit {0}
Takes (Bounds exact) (kind.Cap s ∷ k ∷ ks) = Unit {0}
Takes (Works work.Rounded) (k ∷ ks) = Unit {0}
Takes (Works work.Mask) (k ∷ ks) = Unit {0}
Takes (Works w) (kind.Cap s ∷ ks) = Unit {0}
Takes Put_char ks = Unit {0}
Takes Get_char ks = Unit {0}
Takes Malloc ks = Unit {0}
Takes Exit ks = Unit {0}
Takes service ks = ⊥

-- the kind of what a service gives, by that of its first argument
abbrev pub served : Service → TacKind → Option TacKind
served Put_char k = Some int_kind
served Get_char k = Some int_kind
served Malloc k = Some pointer_kind
served Exit k = None
served Address k = Some word
served (Bounds exact) k = Some k
served (Works work.Base) k = Some word
served (Works work.Offset) k = Some word
served (Works work.Length) k = Some word
served (Works work.Perms) k = Some word
served (Works work.Rounded) k = Some word
served (Works work.Mask) k = Some word
served (Works work.Tag) k = Some (kind.Int int.Bool)
served (Works work.Equal_exact) k = Some (kind.Int int.Bool)
served (Works w) k = Some k

abbrev pub first_kind : List TacKind → TacKind
first_kind [] = int_kind
first_kind (k ∷ ks) = k

-- ---- where a struct or union is copied to: a pointer is in a temp, or it is at an offset in an object

pub data Target : Type 0 where
  Reaches : ℕ → Target
  Within : ℕ → ℕ → Target

abbrev pub within_temp : ℕ → ℕ → Mark → ℕ
within_temp base zero m = base
within_temp base (suc n) m = m.temps

abbrev pub within_mark : ℕ → Mark → Mark
within_mark zero m = m
within_mark (suc n) m = more 1 m

abbrev pub within : ℕ → ℕ → Mark → Code
within base zero m rest = rest
within base (suc n) m rest = instr.Offset m.temps base (amount.Number (suc n)) ∷ rest

abbrev pub target_temp : Target → Mark → ℕ
target_temp (Reaches t) m = t
target_temp (Within base offset) m = within_temp base offset m

abbrev pub target_mark : Target → Mark → Mark
target_mark (Reaches t) m = m
target_mark (Within base offset) m = within_mark offset m

abbrev pub target_code : Target → Mark → Code
target_code (Reaches t) m rest = rest
target_code (Within base offset) m rest = within base offset m rest

-- ---- branches

abbrev pub same : Bool → Bool → Bool
same true b = b
same false b = not b

abbrev pub jump_if : Bool → ℕ → Code
jump_if true label rest = instr.Jump label ∷ rest
jump_if false label rest = rest

-- the code of a condition that jumps where it is false; then one of two ways
abbrev pub choice_code : ℕ → Code → Code → Code → Code
choice_code l c d f rest = c (d (instr.Jump (l + 1) ∷ instr.Label l ∷ f (instr.Label (l + 1) ∷ rest)))

-- the code of a condition that jumps over what follows it
abbrev pub guarded_code : ℕ → Code → Code → Code
guarded_code l c d rest = c (d (instr.Label l ∷ rest))

-- `&&` and `||`
abbrev pub is_junction : Ex → Bool
is_junction (And p j k a b) = true
is_junction (Or p j k a b) = true
is_junction e = false

-- ---- expressions without code

-- the reading of a variable, a constant, or a place that is none of a value's
abbrev pub is_still : Ex → Bool
is_still (Number n) = true
is_still (Null n) = true
is_still (Load k (Variable p x)) = true
is_still (Variable p x) = true
is_still (Local p n) = true
is_still (Object p n permissions) = true
is_still (Function p f) = true
is_still e = false

abbrev pub is_still_place : Ex → Bool
is_still_place (Variable p x) = true
is_still_place (Local p n) = true
is_still_place (Object p n permissions) = true
is_still_place (Function p f) = true
is_still_place e = false

-- the old value of a place that is moved is asked for
abbrev pub asks_old : Bool → Option ℕ → Bool
asks_old old None = false
asks_old old (Some to) = old

-- `constant_index`: a constant behind conversions that leave it as it is
pub data IsConstant (i : IntKind) : Ex → ℕ → Type 0 where
  number : {v : ℕ} → IsKept i v → IsConstant i (Number v) v
  converted : {e : Ex} {v : ℕ} {q : Pos} {plain : Bool} → IsConstant i e v →
      IsConstant i (Convert q (Plain i) (Plain i) plain e) v

-- what a function gives, where that is a value, and the kinds of its arguments
pub record Signature : Type 0 where
  pub gives : Option TacKind
  pub takes : List TacKind

-- ---- the relation, in a function of a program whose temps have these kinds, and whose functions have these signatures

-- `in_place`: the temp has the value already, and what is evaluated later does not write it
pub data IsInPlace (g : Scene) (later : Exs) : TacKind → Ex → ℕ → Type 0 where
  variable : {x t : ℕ} {k : TacKind} {q : Pos} → g.home x ≡ Some (record { temp = t; kind = k }) →
      spare x later ≡ true → IsInPlace g later k (Load (kind_of k) (Variable q x)) t
  object : {n t : ℕ} {q r : Pos} → g.spot n ≡ Some t → IsInPlace g later pointer_kind (Pointer_to q None (Local r n)) t
  converted : {k : TacKind} {e : Ex} {t : ℕ} {q : Pos} {plain : Bool} → IsInPlace g later k e t →
      IsInPlace g later k (Convert q (kind_of k) (kind_of k) plain e) t

-- `base_in_place`: the temp has the pointer to a place already
pub data IsBase (g : Scene) : Ex → ℕ → Type 0 where
  deref : {e : Ex} {t : ℕ} {q : Pos} → IsInPlace g Nil pointer_kind e t → IsBase g (Deref q e) t
  local : {n t : ℕ} {q : Pos} → g.spot n ≡ Some t → IsBase g (Local q n) t
  aggregate : {e : Ex} {t : ℕ} → IsBase g e t → IsBase g (Aggregate e) t

-- `own`: the temp that is asked for, unless it belongs to a variable, or a new one
pub data IsOwn (g : Scene) : Option ℕ → ℕ → Mark → Mark → Type 0 where
  given : {t : ℕ} {m : Mark} → g.fixed ≤ t → IsOwn g (Some t) t m m
  fresh : {to : Option ℕ} {m : Mark} → IsOwn g to m.temps m (more 1 m)

module _ (p : Typed) (signs : ℕ → Signature) (kinds : List TacKind) (g : Scene) where
  mutual
    -- `operand`: a temp with the value, which what is evaluated later does not write
    pub data IsOperand : Exs → TacKind → Ex → ℕ → Mark → Mark → Code → Type 0 where
      operand_in_place : {later : Exs} {k : TacKind} {e : Ex} {t : ℕ} {m : Mark} → IsInPlace g later k e t →
          IsOperand later k e t m m (λ r. r)
      operand_fresh : {later : Exs} {k : TacKind} {e : Ex} {m n : Mark} {c : Code} →
          IsValue k e m.temps (more 1 m) n c → IsOperand later k e m.temps m n c

    -- `operand_in`: a temp that has the value already, or the one that is given
    pub data IsOperandIn : TacKind → Ex → (to t : ℕ) → Mark → Mark → Code → Type 0 where
      given_in_place : {k : TacKind} {e : Ex} {to t : ℕ} {m : Mark} → IsInPlace g Nil k e t →
          IsOperandIn k e to t m m (λ r. r)
      given_there : {k : TacKind} {e : Ex} {to : ℕ} {m n : Mark} {c : Code} → IsValue k e to m n c →
          IsOperandIn k e to to m n c

    -- `pair`: two operands
    pub data IsPair : TacKind → Ex → ℕ → TacKind → Ex → ℕ → Mark → Mark → Code → Type 0 where
      pair : {j k : TacKind} {a b : Ex} {x y : ℕ} {l m n : Mark} {c d : Code} → IsOperand (Cons b Nil) j a x l m c →
          IsOperand Nil k b y m n d → IsPair j a x k b y l n (λ r. c (d r))

    -- `value`: the value comes into a temp, which is written when all was read that the expression reads of variables
    pub data IsValue : TacKind → Ex → ℕ → Mark → Mark → Code → Type 0 where
      value_number : {k : IntKind} {v to : ℕ} {m : Mark} → IsKept k v →
          IsValue (kind.Int k) (Number v) to m m (λ r. instr.Const to (kind.Int k) v ∷ r)
      value_null : {s : Bool} {v to : ℕ} {m : Mark} → v < 2 ^ 64 →
          IsValue (kind.Cap s) (Null v) to m m (λ r. instr.Const to (kind.Cap s) v ∷ r)
      value_variable : {x t to : ℕ} {k : TacKind} {q : Pos} {m : Mark} →
          g.home x ≡ Some (record { temp = t; kind = k }) →
          IsValue k (Load (kind_of k) (Variable q x)) to m m (transfer to t)
      value_load : {k : TacKind} {e : Ex} {t to : ℕ} {q : Pos} {m n : Mark} {c : Code} → position_in e ≡ Some q →
          IsPointer Nil e t m n c
          → IsValue k (Load (kind_of k) e) to m n (λ r. c (instr.Load to t k q ∷ r))
      value_address : {e : Ex} {to : ℕ} {q : Pos} {m n : Mark} {c : Code} → IsPlace e to m n c →
          IsValue pointer_kind (Pointer_to q None e) to m n c
      -- a variable that is no object has no address (in no sound program one is asked for)
      value_unplaced : {x to : ℕ} {q s : Pos} {m : Mark} →
          IsValue pointer_kind (Pointer_to q None (Variable s x)) to m m (λ r. instr.Const to pointer_kind 0 ∷ r)
      value_narrowed : {e : Ex} {to : ℕ} {q : Pos} {w : Narrowing} {m n : Mark} {c : Code} → IsPlace e to m n c
          → IsValue pointer_kind (Pointer_to q (Some w) e) to m n
          (λ r. c (instr.Narrow to to (amount.Number w.owned) true ∷ r))
      value_kept : {k : TacKind} {e : Ex} {to : ℕ} {q : Pos} {plain : Bool} {m n : Mark} {c : Code} →
          IsValue k e to m n c → IsValue k (Convert q (kind_of k) (kind_of k) plain e) to m n c
      value_converted : {j k : TacKind} {e : Ex} {t to : ℕ} {q : Pos} {plain : Bool} {m n : Mark} {c : Code} →
          IsOperand Nil j e t m n c
          → IsValue k (Convert q (kind_of j) (kind_of k) plain e) to m n (λ r. c (instr.Convert to t j k ∷ r))
      value_discarded : {e : Ex} {to : ℕ} {m n : Mark} {c : Code} → IsEffect e m n c →
          IsValue int_kind (Discard e) to m n (λ r. c (instr.Const to int_kind 0 ∷ r))
      value_opposite : {k : TacKind} {e : Ex} {t to : ℕ} {q : Pos} {m n : Mark} {c : Code} → IsOperand Nil k e t m n c
          → IsValue int_kind (Not q (kind_of k) e) to m (more 1 n) (λ r. c (operating.negated k to t n.temps r))
      value_sign : {k : TacKind} {e : Ex} {t to : ℕ} {q : Pos} {sign : Sign} {m n : Mark} {c : Code} →
          IsOperandIn k e to t m n c → AreInts kinds (operating.signed sign k to t n.temps [])
          → IsValue k (Unary q sign (kind_of k) e) to m (more (signed_temps sign k) n)
          (λ r. c (operating.signed sign k to t n.temps r))
      value_whole : {op : IntOp} {i : IntKind} {k : TacKind} {a b : Ex} {x y to : ℕ} {q : Pos} {m n : Mark} {c : Code} →
          IsPair (kind.Int i) a x k b y m n c → IsRight (is_shift op) (kind.Int i) k
          → AreInts kinds (operating.whole op i k to x y n.temps [])
          → IsValue (kind.Int i) (Binary q (Whole op i (kind_of k)) a b) to m (more (right_temps op k) n)
          (λ r. c (operating.whole op i k to x y n.temps r))
      value_derived : {op : IntOp} {s right plain : Bool} {k : TacKind} {a b : Ex} {x y to : ℕ} {q : Pos} {m n : Mark}
          {c : Code} → (right ≡ true → k ≡ kind.Cap s) → IsPair (kind.Cap s) a x k b y m n c →
          AreInts kinds (operating.derived op s right k to x y n.temps [])
          → IsValue (kind.Cap s) (Binary q (Derived op s (kind_of k) right plain) a b) to m
          (more (address_temps op k) n) (λ r. c (operating.derived op s right k to x y n.temps r))
      value_moved : {size : ℕ} {minus : Bool} {k : TacKind} {a b : Ex} {x y to : ℕ} {q : Pos} {m n : Mark} {c : Code} →
          IsPair pointer_kind a x k b y m n c → AreInts kinds (operating.moved k (stride size minus) to x y n.temps [])
          → IsValue pointer_kind (Binary q (Moved size minus false (kind_of k)) a b) to m
          (more (moved_temps k (stride size minus)) n)
          (λ r. c (operating.moved k (stride size minus) to x y n.temps r))
      value_moved_right : {size : ℕ} {minus : Bool} {k : TacKind} {a b : Ex} {x y to : ℕ} {q : Pos} {m n : Mark}
          {c : Code} → IsPair k a x pointer_kind b y m n c →
          AreInts kinds (operating.moved k (stride size minus) to y x n.temps [])
          → IsValue pointer_kind (Binary q (Moved size minus true (kind_of k)) a b) to m
          (more (moved_temps k (stride size minus)) n)
          (λ r. c (operating.moved k (stride size minus) to y x n.temps r))
      value_displaced : {size v : ℕ} {minus : Bool} {i : IntKind} {a b : Ex} {t to : ℕ} {q : Pos} {m n : Mark}
          {c : Code} → IsConstant i b v → IsOperandIn pointer_kind a to t m n c
          → IsValue pointer_kind (Binary q (Moved size minus false (Plain i)) a b) to m n
          (λ r. c (instr.Offset to t (amount.Number (stride size minus * v % 2 ^ 64)) ∷ r))
      value_displaced_right : {size v : ℕ} {minus : Bool} {i : IntKind} {a b : Ex} {t to : ℕ} {q : Pos} {m n : Mark}
          {c : Code} → IsConstant i a v → IsOperandIn pointer_kind b to t m n c
          → IsValue pointer_kind (Binary q (Moved size minus true (Plain i)) a b) to m n
          (λ r. c (instr.Offset to t (amount.Number (stride size minus * v % 2 ^ 64)) ∷ r))
      value_difference : {size : ℕ} {a b : Ex} {x y to : ℕ} {q : Pos} {m n : Mark} {c : Code} →
          IsPair pointer_kind a x pointer_kind b y m n c → AreInts kinds (operating.difference size to x y n.temps [])
          → IsValue long (Binary q (Apart size) a b) to m (more 2 n)
          (λ r. c (operating.difference size to x y n.temps r))
      value_compare : {op : CmpOp} {k : TacKind} {a b : Ex} {x y to : ℕ} {q : Pos} {m n : Mark} {c : Code} →
          IsPair k a x k b y m n c
          → IsValue int_kind (Compare q op (kind_of k) a b) to m n (λ r. c (instr.Cmp op k to x y ∷ r))
      value_truth : {e : Ex} {to : ℕ} {m n : Mark} {c : Code} → is_junction e ≡ true →
          IsCondition int_kind e false m.labels (labelled 2 m) n c
          → IsValue int_kind e to m n (λ r. c (instr.Const to int_kind 1 ∷ instr.Jump (m.labels + 1)
          ∷ instr.Label m.labels ∷ instr.Const to int_kind 0 ∷ instr.Label (m.labels + 1) ∷ r))
      value_choice : {j k : TacKind} {e a b : Ex} {to : ℕ} {q : Pos} {l m n o : Mark} {c d f : Code} →
          IsCondition j e false l.labels (labelled 2 l) m c → IsValue k a to m n d → IsValue k b to n o f
          → IsValue k (Conditional q (kind_of j) e a b) to l o (choice_code l.labels c d f)
      value_comma : {k : TacKind} {a b : Ex} {to : ℕ} {l m n : Mark} {c d : Code} → IsEffect a l m c →
          IsValue k b to m n d → IsValue k (Comma a b) to l n (λ r. c (d r))
      value_assignment : {k : TacKind} {e : Ex} {to : ℕ} {m n : Mark} {c : Code} → IsAssignment k e (Some to) m n c →
          IsValue k e to m n c
      value_call : {k : TacKind} {e : Ex} {to : ℕ} {m n : Mark} {c : Code} → IsCall (Some k) e (Some to) m n c →
          IsValue k e to m n c

    -- `effect`: what is done, and no value
    pub data IsEffect : Ex → Mark → Mark → Code → Type 0 where
      effect_still : {e : Ex} {m : Mark} → is_still e ≡ true → IsEffect e m m (λ r. r)
      effect_convert : {j k : Kind} {e : Ex} {q : Pos} {plain : Bool} {m n : Mark} {c : Code} → IsEffect e m n c →
          IsEffect (Convert q j k plain e) m n c
      effect_discard : {e : Ex} {m n : Mark} {c : Code} → IsEffect e m n c → IsEffect (Discard e) m n c
      effect_comma : {a b : Ex} {l m n : Mark} {c d : Code} → IsEffect a l m c → IsEffect b m n d →
          IsEffect (Comma a b) l n (λ r. c (d r))
      effect_choice : {j : TacKind} {e a b : Ex} {q : Pos} {l m n o : Mark} {c d f : Code} →
          IsCondition j e false l.labels (labelled 2 l) m c → IsEffect a m n d → IsEffect b n o f
          → IsEffect (Conditional q (kind_of j) e a b) l o (choice_code l.labels c d f)
      effect_both : {j : TacKind} {k : Kind} {a b : Ex} {q : Pos} {l m n : Mark} {c d : Code} →
          IsCondition j a false l.labels (labelled 1 l) m c → IsEffect b m n d
          → IsEffect (And q (kind_of j) k a b) l n (guarded_code l.labels c d)
      effect_either : {j : TacKind} {k : Kind} {a b : Ex} {q : Pos} {l m n : Mark} {c d : Code} →
          IsCondition j a true l.labels (labelled 1 l) m c → IsEffect b m n d
          → IsEffect (Or q (kind_of j) k a b) l n (guarded_code l.labels c d)
      effect_deref : {e : Ex} {q : Pos} {m n : Mark} {c : Code} → IsEffect e m n c → IsEffect (Deref q e) m n c
      effect_member : {e : Ex} {q : Pos} {offset : ℕ} {m n : Mark} {c : Code} → IsPlaceEffect e m n c →
          IsEffect (Member q offset e) m n c
      effect_aggregate : {e : Ex} {m n : Mark} {c : Code} → IsPlaceEffect e m n c → IsEffect (Aggregate e) m n c
      effect_assignment : {k : TacKind} {e : Ex} {m n : Mark} {c : Code} → IsAssignment k e None m n c →
          IsEffect e m n c
      effect_struct : {e : Ex} {t : ℕ} {m n : Mark} {c : Code} → IsStructAssignment e t m n c → IsEffect e m n c
      effect_call : {k : Option TacKind} {e : Ex} {m n : Mark} {c : Code} → IsCall k e None m n c → IsEffect e m n c
      effect_value : {k : TacKind} {e : Ex} {m n : Mark} {c : Code} → IsValue k e m.temps (more 1 m) n c →
          IsEffect e m n c

    -- the same, of an expression as a place
    pub data IsPlaceEffect : Ex → Mark → Mark → Code → Type 0 where
      place_effect_still : {e : Ex} {m : Mark} → is_still_place e ≡ true → IsPlaceEffect e m m (λ r. r)
      place_effect_deref : {e : Ex} {q : Pos} {m n : Mark} {c : Code} → IsEffect e m n c →
          IsPlaceEffect (Deref q e) m n c
      place_effect_member : {e : Ex} {q : Pos} {offset : ℕ} {m n : Mark} {c : Code} → IsPlaceEffect e m n c →
          IsPlaceEffect (Member q offset e) m n c
      place_effect_aggregate : {e : Ex} {m n : Mark} {c : Code} → IsPlaceEffect e m n c →
          IsPlaceEffect (Aggregate e) m n c
      place_effect_comma : {a b : Ex} {l m n : Mark} {c d : Code} → IsEffect a l m c → IsPlaceEffect b m n d →
          IsPlaceEffect (Comma a b) l n (λ r. c (d r))
      place_effect_choice : {j : TacKind} {e a b : Ex} {q : Pos} {l m n o : Mark} {c d f : Code} →
          IsCondition j e false l.labels (labelled 2 l) m c → IsPlaceEffect a m n d → IsPlaceEffect b n o f
          → IsPlaceEffect (Conditional q (kind_of j) e a b) l o (choice_code l.labels c d f)
      place_effect_struct : {e : Ex} {t : ℕ} {m n : Mark} {c : Code} → IsStructAssignment e t m n c →
          IsPlaceEffect e m n c

    -- `condition`: a jump to a label where the truth of a value of a kind is this; else it goes on
    pub data IsCondition : TacKind → Ex → Bool → ℕ → Mark → Mark → Code → Type 0 where
      condition_number : {k : IntKind} {v label : ℕ} {when : Bool} {m : Mark} → IsKept k v →
          IsCondition (kind.Int k) (Number v) when label m m (jump_if (same when (not (v == 0))) label)
      condition_null : {s : Bool} {v label : ℕ} {when : Bool} {m : Mark} →
          IsCondition (kind.Cap s) (Null v) when label m m (jump_if (same when (not (v == 0))) label)
      condition_opposite : {k : TacKind} {e : Ex} {q : Pos} {when : Bool} {label : ℕ} {m n : Mark} {c : Code} →
          IsCondition k e (not when) label m n c
          → IsCondition int_kind (Not q (kind_of k) e) when label m n c
      condition_both : {j k : TacKind} {a b : Ex} {q : Pos} {label : ℕ} {l m n : Mark} {c d : Code} →
          IsCondition j a false label l m c → IsCondition k b false label m n d
          → IsCondition int_kind (And q (kind_of j) (kind_of k) a b) false label l n (λ r. c (d r))
      condition_either : {j k : TacKind} {a b : Ex} {q : Pos} {label : ℕ} {l m n : Mark} {c d : Code} →
          IsCondition j a true label l m c → IsCondition k b true label m n d
          → IsCondition int_kind (Or q (kind_of j) (kind_of k) a b) true label l n (λ r. c (d r))
      condition_both_around : {j k : TacKind} {a b : Ex} {q : Pos} {label : ℕ} {l m n : Mark} {c d : Code} →
          IsCondition j a false l.labels (labelled 1 l) m c → IsCondition k b true label m n d
          → IsCondition int_kind (And q (kind_of j) (kind_of k) a b) true label l n (guarded_code l.labels c d)
      condition_either_around : {j k : TacKind} {a b : Ex} {q : Pos} {label : ℕ} {l m n : Mark} {c d : Code} →
          IsCondition j a true l.labels (labelled 1 l) m c → IsCondition k b false label m n d
          → IsCondition int_kind (Or q (kind_of j) (kind_of k) a b) false label l n (guarded_code l.labels c d)
      condition_branch : {k : TacKind} {e : Ex} {t : ℕ} {when : Bool} {label : ℕ} {m n : Mark} {c : Code} →
          IsOperand Nil k e t m n c → kind_at kinds t ≡ kind_of k
          → IsCondition k e when label m n (λ r. c (instr.Branch t when label ∷ r))

    -- `pointer`: a temp with the pointer to a place, which what is evaluated later does not write
    pub data IsPointer : Exs → Ex → ℕ → Mark → Mark → Code → Type 0 where
      pointer_deref : {later : Exs} {e : Ex} {t : ℕ} {q : Pos} {m n : Mark} {c : Code} →
          IsOperand later pointer_kind e t m n c → IsPointer later (Deref q e) t m n c
      pointer_local : {later : Exs} {o t : ℕ} {q : Pos} {m : Mark} → g.spot o ≡ Some t →
          IsPointer later (Local q o) t m m (λ r. r)
      pointer_aggregate : {later : Exs} {e : Ex} {t : ℕ} {m n : Mark} {c : Code} → IsPointer later e t m n c →
          IsPointer later (Aggregate e) t m n c
      pointer_fresh : {later : Exs} {e : Ex} {m n : Mark} {c : Code} → IsPlace e m.temps (more 1 m) n c →
          IsPointer later e m.temps m n c

    -- `place`: the pointer to a place comes into a temp
    pub data IsPlace : Ex → ℕ → Mark → Mark → Code → Type 0 where
      place_local : {o t to : ℕ} {q : Pos} {m : Mark} → g.spot o ≡ Some t → IsPlace (Local q o) to m m (transfer to t)
      place_global : {o to : ℕ} {q : Pos} {m : Mark} →
          IsPlace (Object q o (permissions_of p [] (slice_get p.globals o))) to m m (λ r. instr.Global to o false ∷ r)
      place_literal : {o to : ℕ} {q : Pos} {m : Mark} →
          IsPlace (Object q (length p.globals + o) const_permissions) to m m (λ r. instr.Global to o true ∷ r)
      place_function : {f to : ℕ} {q : Pos} {m : Mark} → IsPlace (Function q f) to m m (λ r. instr.Function to f ∷ r)
      place_deref : {e : Ex} {to : ℕ} {q : Pos} {m n : Mark} {c : Code} → IsValue pointer_kind e to m n c →
          IsPlace (Deref q e) to m n c
      place_member_of : {e : Ex} {t to offset : ℕ} {q : Pos} {m : Mark} → IsBase g e t →
          IsPlace (Member q offset e) to m m (λ r. instr.Offset to t (amount.Number offset) ∷ r)
      place_member : {e : Ex} {to offset : ℕ} {q : Pos} {m n : Mark} {c : Code} → IsPlace e to m n c →
          IsPlace (Member q offset e) to m n (λ r. c (instr.Offset to to (amount.Number offset) ∷ r))
      place_aggregate : {e : Ex} {to : ℕ} {m n : Mark} {c : Code} → IsPlace e to m n c → IsPlace (Aggregate e) to m n c
      place_comma : {a b : Ex} {to : ℕ} {l m n : Mark} {c d : Code} → IsEffect a l m c → IsPlace b to m n d →
          IsPlace (Comma a b) to l n (λ r. c (d r))
      place_choice : {j : TacKind} {e a b : Ex} {to : ℕ} {q : Pos} {l m n o : Mark} {c d f : Code} →
          IsCondition j e false l.labels (labelled 2 l) m c → IsPlace a to m n d → IsPlace b to n o f
          → IsPlace (Conditional q (kind_of j) e a b) to l o (choice_code l.labels c d f)
      place_assigned : {e : Ex} {t to : ℕ} {m n : Mark} {c : Code} → IsStructAssignment e t m n c →
          IsPlace e to m n (λ r. c (transfer to t r))

    -- `assignment`, `compound` and `step`: of a place of a kind, whose value may be asked for
    pub data IsAssignment : TacKind → Ex → Option ℕ → Mark → Mark → Code → Type 0 where
      assignment_variable : {k : TacKind} {b : Ex} {x t : ℕ} {to : Option ℕ} {q : Pos} {m n : Mark} {c : Code} →
          g.home x ≡ Some (record { temp = t; kind = k }) → IsValue k b t m n c
          → IsAssignment k (Assign (kind_of k) (Variable q x) b) to m n (λ r. c (give to t r))
      assignment_object : {k : TacKind} {a b : Ex} {at t : ℕ} {q : Pos} {l m n : Mark} {c d : Code} →
          position_in a ≡ Some q → IsPointer (Cons b Nil) a at l m c → IsOperand Nil k b t m n d
          → IsAssignment k (Assign (kind_of k) a b) None l n (λ r. c (d (instr.Store at t k q ∷ r)))
      assignment_object_value : {k : TacKind} {a b : Ex} {at t to : ℕ} {q : Pos} {l m n o : Mark} {c d : Code} →
          position_in a ≡ Some q → IsPointer (Cons b Nil) a at l m c → IsOwn g (Some to) t m n → IsValue k b t n o d
          → IsAssignment k (Assign (kind_of k) a b) (Some to) l o (λ r. c (d (instr.Store at t k q ∷ transfer to t r)))
      assignment_changed_variable :
          {op : Operation} {computed : Kind} {j k : TacKind} {b : Ex} {x t y : ℕ} {to : Option ℕ} {q s : Pos}
          {m n : Mark} {c : Code}
          → g.home x ≡ Some (record { temp = t; kind = j }) → IsChange op j k computed → IsOperand Nil k b y m n c →
          AreInts kinds (operating.changed op j k t t y n.temps [])
          → IsAssignment j (Compound q op (kind_of j) computed false (Variable s x) b) to m
          (more (changed_temps op j k) n) (λ r. c (operating.changed op j k t t y n.temps (give to t r)))
      assignment_changed_object :
          {op : Operation} {computed : Kind} {j k : TacKind} {a b : Ex} {at t y : ℕ} {to : Option ℕ} {q s : Pos}
          {l m n o : Mark} {c d : Code}
          → position_in a ≡ Some s → IsChange op j k computed → IsPointer (Cons b Nil) a at l m c →
          IsOperand Nil k b y m n d → IsOwn g to t n o
          → AreInts kinds (operating.changed op j k t t y o.temps [])
          → IsAssignment j (Compound q op (kind_of j) computed false a b) to l (more (changed_temps op j k) o)
          (λ r. c (d (instr.Load t at j s ∷ operating.changed op j k t t y o.temps
          (instr.Store at t j s ∷ give to t r))))
      assignment_stepped_variable :
          {op : Operation} {computed : Kind} {j : TacKind} {x t : ℕ} {to : Option ℕ} {old : Bool} {q s : Pos} {m : Mark}
          → g.home x ≡ Some (record { temp = t; kind = j }) → IsStep op j computed → asks_old old to ≡ false →
          AreInts kinds (operating.stepped op j t t m.temps [])
          → IsAssignment j (Compound q op (kind_of j) computed old (Variable s x) (Number 1)) to m
          (more (stepped_temps op) m) (λ r. operating.stepped op j t t m.temps (give to t r))
      assignment_stepped_variable_old :
          {op : Operation} {computed : Kind} {j : TacKind} {x t v to : ℕ} {q s : Pos} {m n : Mark}
          → g.home x ≡ Some (record { temp = t; kind = j }) → IsStep op j computed → IsOwn g (Some to) v m n →
          AreInts kinds (operating.stepped op j t t n.temps [])
          → IsAssignment j (Compound q op (kind_of j) computed true (Variable s x) (Number 1)) (Some to) m
          (more (stepped_temps op) n)
          (λ r. instr.Copy v t ∷ operating.stepped op j t t n.temps (transfer to v r))
      assignment_stepped_object :
          {op : Operation} {computed : Kind} {j : TacKind} {a : Ex} {at t : ℕ} {to : Option ℕ} {old : Bool} {q s : Pos}
          {l m n : Mark} {c : Code}
          → position_in a ≡ Some s → IsStep op j computed → asks_old old to ≡ false → IsPointer Nil a at l m c →
          IsOwn g to t m n → AreInts kinds (operating.stepped op j t t n.temps [])
          → IsAssignment j (Compound q op (kind_of j) computed old a (Number 1)) to l (more (stepped_temps op) n)
          (λ r. c (instr.Load t at j s ∷ operating.stepped op j t t n.temps (instr.Store at t j s ∷ give to t r)))
      assignment_stepped_object_old :
          {op : Operation} {computed : Kind} {j : TacKind} {a : Ex} {at t to : ℕ} {q s : Pos} {l m n : Mark} {c : Code}
          → position_in a ≡ Some s → IsStep op j computed → IsPointer Nil a at l m c → IsOwn g (Some to) t m n →
          AreInts kinds (operating.stepped op j n.temps t n.temps [])
          → IsAssignment j (Compound q op (kind_of j) computed true a (Number 1)) (Some to) l (more 1 n)
          (λ r. c (instr.Load t at j s ∷ operating.stepped op j n.temps t n.temps
          (instr.Store at n.temps j s ∷ transfer to t r)))

    -- `struct_assignment`: the temp has the pointer to the place
    pub data IsStructAssignment : Ex → ℕ → Mark → Mark → Code → Type 0 where
      struct_copy : {bytes unit t : ℕ} {a b : Ex} {q s : Pos} {l m n : Mark} {c d : Code} → position_in a ≡ Some s →
          IsPointer (Cons b Nil) a t l m c → IsCopy (Reaches t) s bytes unit b m n d
          → IsStructAssignment (Copy q bytes unit a b) t l n (λ r. c (d r))

    -- `struct_copy`: of so many bytes, in units of a length, to a target that a position designates
    pub data IsCopy : Target → Pos → (bytes unit : ℕ) → Ex → Mark → Mark → Code → Type 0 where
      copy_choice : {to : Target} {s q : Pos} {bytes unit : ℕ} {j : TacKind} {e a b : Ex} {l m n o : Mark}
          {c d f : Code}
          → IsCondition j e false l.labels (labelled 2 l) m c → IsCopy to s bytes unit a m n d →
          IsCopy to s bytes unit b n o f
          → IsCopy to s bytes unit (Conditional q (kind_of j) e a b) l o (choice_code l.labels c d f)
      copy_comma : {to : Target} {s : Pos} {bytes unit : ℕ} {a b : Ex} {l m n : Mark} {c d : Code} → IsEffect a l m c →
          IsCopy to s bytes unit b m n d → IsCopy to s bytes unit (Comma a b) l n (λ r. c (d r))
      copy_aggregate : {to : Target} {s : Pos} {bytes unit : ℕ} {e : Ex} {m n : Mark} {c : Code} →
          IsCopy to s bytes unit e m n c → IsCopy to s bytes unit (Aggregate e) m n c
      copy_plain : {to : Target} {s q : Pos} {bytes unit t : ℕ} {e : Ex} {m n : Mark} {c : Code} →
          position_in e ≡ Some q → IsPointer Nil e t m n c
          → IsCopy to s bytes unit e m (target_mark to n)
          (λ r. c (target_code to n (instr.CopyUnits t (target_temp to n) bytes unit q s ∷ r)))

    -- `arguments`: temps with their values
    pub data IsArguments : Exs → List TacKind → List ℕ → Mark → Mark → Code → Type 0 where
      arguments_none : {m : Mark} → IsArguments Nil [] [] m m (λ r. r)
      arguments_one : {e : Ex} {es : Exs} {k : TacKind} {ks : List TacKind} {t : ℕ} {ts : List ℕ} {l m n : Mark}
          {c d : Code} → IsOperand es k e t l m c → IsArguments es ks ts m n d
          → IsArguments (Cons e es) (k ∷ ks) (t ∷ ts) l n (λ r. c (d r))

    -- `call` and `library`: what is called gives a value of a kind, or none
    pub data IsCall : Option TacKind → Ex → Option ℕ → Mark → Mark → Code → Type 0 where
      call_named : {k : Option TacKind} {to : Option ℕ} {f : ℕ} {fitting : List Bool} {es : Exs} {ks : List TacKind}
          {ts : List ℕ} {q s u : Pos} {m n : Mark} {c : Code}
          → slice_index_or fitting f false ≡ true → f < length p.funs → signs f ≡ record { gives = k; takes = ks } →
          IsArguments es ks ts m n c
          → IsCall k (Call q fitting (Pointer_to s None (Function u f)) es) to m n (λ r. c (instr.Call to f ts ∷ r))
      call_by_value : {k : Option TacKind} {to : Option ℕ} {v of : ℕ} {e : Ex} {es : Exs} {ks : List TacKind}
          {ts : List ℕ} {q : Pos} {l m n : Mark} {c d : Code}
          → ((f : ℕ) → slice_index_or (fits p [] of) f false ≡ true → signs f ≡ record { gives = k; takes = ks }) →
          IsOperand es pointer_kind e v l m c → IsArguments es ks ts m n d
          → IsCall k (Call q (fits p [] of) e es) to l n (λ r. c (d (instr.CallValue to v of ts q ∷ r)))
      call_library : {k : Option TacKind} {to : Option ℕ} {service : Service} {es : Exs} {ks : List TacKind}
          {ts : List ℕ} {q : Pos} {m n : Mark} {c : Code}
          → served service (first_kind ks) ≡ k → Takes service ks → IsArguments es ks ts m n c
          → IsCall k (Library q service es) to m n (λ r. c (serves service to (first_kind ks) ts r))
