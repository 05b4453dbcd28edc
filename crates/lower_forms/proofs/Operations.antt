-- The code of operations is made of instructions that may stand in lowered code.
use Rattle.std.proofs.Common.{ℕ, zero, suc, ◌+◌, Bool, true, false, List, ◌∷◌, Option, Some, None}
use Rattle.std.proofs.Common.{arith, if◌then◌else◌}
use Rattle.std.specs.Prelude.{◌==◌, slice_get, slice_index_or}
use Rattle.ck_int.specs.declared.kinds.IntKind.{IntKind}
use Rattle.ck_int.specs.declared.kinds.IntKind.TheVariants as int
use Rattle.ck_int.specs.declared.kinds.IntOp.{IntOp}
use Rattle.ck_int.specs.declared.kinds.IntOp.TheVariants.{Add, Sub, Mul, Div, Rem, Shr}
use Rattle.cheri_c_sem.specs.Kinds.{Kind}
use Rattle.cheri_c_sem.specs.Tree.{Operation, Whole, Derived, Moved, Apart, Sign, Positive, Negative, Complement}
use Rattle.cheri_c_sem.specs.Tree.{Service, Put_char, Get_char, Malloc, Exit, Address, Bounds, Works}
use Rattle.tac_ir.specs.Effects.{kind_of}
use Rattle.tac_ir.specs.WellFormed.{same_kind}
use Rattle.tac_ir.specs.declared.code.Amount.TheVariants as amount
use Rattle.tac_ir.specs.declared.code.CapWork.TheVariants.{SetAddress}
use Rattle.tac_ir.specs.declared.code.TacInstr.{TacInstr}
use Rattle.tac_ir.specs.declared.code.TacInstr.TheVariants as instr
use Rattle.tac_ir.specs.declared.code.TacKind.{TacKind}
use Rattle.tac_ir.specs.declared.code.TacKind.TheVariants as kind
use Rattle.lower_runs.specs.Expressions.{IsStep, Mark, Target, Reaches, Within, within, target_code, jump_if, serves}
use Rattle.lower_runs.specs.Expressions.{intrinsic}
use Rattle.lower_runs.specs.Operating as operating
use Rattle.lower_runs.specs.Operating.{Code, address_kind, wide_kind, is_wide, is_capability, word, long, stride}
use Rattle.lower_forms.specs.Forms.{IsMade, IsWide}
use Rattle.lower_forms.proofs.Trees.{IsPromoted, IsOperation, IsSigned}

-- ---- code

-- instructions that may stand there, in front of others
pub data Front (r : List TacInstr) : List TacInstr → Type 0 where
  none : Front r r
  more : {i : TacInstr} {is : List TacInstr} → IsMade i → Front r is → Front r (i ∷ is)

pub joined : {r s t : List TacInstr} → Front s t → Front r s → Front r t
joined none g = g
joined (more h f) g = more h (joined f g)

abbrev pub Makes : Code → Type 0
Makes c = (r : List TacInstr) → Front r (c r)

pub transfers : (to from : ℕ) → Makes (operating.transfer to from)
transfers to from r = by (to == from)
  where
    by : (b : Bool) → Front r (if b then r else instr.Copy to from ∷ r)
    by true = none
    by false = more tt none

pub gives : (to : Option ℕ) (from : ℕ) → Makes (operating.give to from)
gives None from r = none
gives (Some to) from r = transfers to from r

-- ---- kinds of 32 bits or more

wide : (op : IntOp) (k : IntKind) → IsPromoted k → IsWide k op
wide Add k h = tt
wide Sub k h = tt
wide op k h = h

pub address_wide : (op : IntOp) (signed : Bool) → IsPromoted (address_kind op signed)
address_wide Div true = omega arith
address_wide Rem true = omega arith
address_wide Shr true = omega arith
address_wide op signed = omega arith

pub scale_wide : (k : TacKind) → IsPromoted (wide_kind k)
scale_wide (kind.Int int.I8) = omega arith
scale_wide (kind.Int int.I16) = omega arith
scale_wide (kind.Int int.I32) = omega arith
scale_wide (kind.Int int.I64) = omega arith
scale_wide k = omega arith

-- ---- operations

pub negates : (k : TacKind) (to x n : ℕ) → Makes (operating.negated k to x n)
negates k to x n r = more tt (more tt none)

signs_integer : (sign : Sign) (k : IntKind) (to x n : ℕ) → IsPromoted k → Makes (operating.signed_integer sign k to x n)
signs_integer Positive k to x n h r = transfers to x r
signs_integer Negative k to x n h r = more tt (more tt none)
signs_integer Complement k to x n h r = more tt (more h none)

pub signs : (sign : Sign) (k : TacKind) (to x n : ℕ) → IsSigned (kind_of k) → Makes (operating.signed sign k to x n)
signs sign (kind.Int k) to x n h r = signs_integer sign k to x n h r
signs sign (kind.Cap s) to x n h r =
    more tt (joined (signs_integer sign int.U64 n n (n + 1) (omega arith) (instr.Cap SetAddress to x (Some n) ∷ r))
    (more tt none))

computes_by : (op : IntOp) (j : IntKind) (k : TacKind) (to x y n : ℕ) (b : Bool) → IsPromoted j → Makes (λ r.
    if b then instr.Convert n y k word ∷ instr.Int op j to x (if b then n else y) ∷ r
    else instr.Int op j to x (if b then n else y) ∷ r)
computes_by op j k to x y n true h r = more tt (more (wide op j h) none)
computes_by op j k to x y n false h r = more (wide op j h) none

pub computes : (op : IntOp) (j : IntKind) (k : TacKind) (to x y n : ℕ) → IsPromoted j →
    Makes (operating.whole op j k to x y n)
computes op j k to x y n h r = computes_by op j k to x y n (operating.is_converted op k) h r

addresses : (op : IntOp) (s : Bool) (j k : TacKind) (x y n : ℕ) → Makes (operating.computed_address op s j k x y n)
addresses op s j k x y n r = more tt (by (operating.keeps_count op k))
  where
    by : (b : Bool) → Front r (if b then instr.Int op (address_kind op s) n n (if b then y else n + 1) ∷ r
        else instr.Convert (n + 1) y k (kind.Int (address_kind op s))
        ∷ instr.Int op (address_kind op s) n n (if b then y else n + 1) ∷ r)
    by true = more (wide op (address_kind op s) (address_wide op s)) none
    by false = more tt (more (wide op (address_kind op s) (address_wide op s)) none)

pub derives : (op : IntOp) (s right : Bool) (k : TacKind) (to x y n : ℕ) →
    Makes (operating.derived op s right k to x y n)
derives op s right k to x y n r =
    joined (addresses op s (kind.Cap s) k x y n
    (instr.Cap SetAddress to (operating.origin right (kind.Cap s) k x y) (Some n) ∷ r)) (more tt none)

pub moves : (k : TacKind) (size to base i n : ℕ) → Makes (operating.moved k size to base i n)
moves k size to base i n r = which (size == 1) (is_capability k) (is_wide k)
  where
    which : (b c w : Bool) → Front r
        (if b then (if c then instr.Convert n i k word ∷ instr.Offset to base (amount.Temp n) ∷ r
        else instr.Offset to base (amount.Temp i) ∷ r)
        else (if w then instr.Const n (kind.Int (wide_kind k)) size ∷ instr.Int Mul (wide_kind k) (n + 1) i n
        ∷ instr.Offset to base (amount.Temp (if w then n + 1 else n)) ∷ r
        else instr.Convert n i k (kind.Int (wide_kind k)) ∷ instr.Const (n + 1) (kind.Int (wide_kind k)) size
        ∷ instr.Int Mul (wide_kind k) n n (n + 1) ∷ instr.Offset to base (amount.Temp (if w then n + 1 else n)) ∷ r))
    which true true w = more tt (more tt none)
    which true false w = more tt none
    which false c true = more tt (more (scale_wide k) (more tt none))
    which false c false = more tt (more tt (more (scale_wide k) (more tt none)))

pub differs : (size to x y n : ℕ) → Makes (operating.difference size to x y n)
differs size to x y n r = more tt (more tt (by (size == 1)))
  where
    by : (b : Bool) → Front r (if b then instr.Int Sub int.I64 to n (n + 1) ∷ r
        else instr.Int Sub int.I64 n n (n + 1) ∷ instr.Const (n + 1) long size ∷ instr.Int Div int.I64 to n (n + 1) ∷ r)
    by true = more tt none
    by false = more tt (more tt (more (omega arith) none))

-- ---- a value in a temp is changed

changes_whole : (op : IntOp) (i : IntKind) (j k : TacKind) (to x y n : ℕ) → IsPromoted i →
    Makes (operating.changed_whole op i j k to x y n)
changes_whole op i j k to x y n h r =
    by (operating.is_converted op k) (same_kind (kind_of j) (kind_of (kind.Int i))) (n + operating.right_temps op k)
  where
    last : (same : Bool) (u z : ℕ) → Front r (if same then instr.Int op i to x z ∷ r
        else instr.Convert u x j (kind.Int i) ∷ instr.Int op i u u z ∷ instr.Convert to u (kind.Int i) j ∷ r)
    last true u z = more (wide op i h) none
    last false u z = more tt (more (wide op i h) (more tt none))

    by : (b same : Bool) (u : ℕ) → Front r
        (if b then instr.Convert n y k word ∷ (if same then instr.Int op i to x (if b then n else y) ∷ r
        else instr.Convert u x j (kind.Int i) ∷ instr.Int op i u u (if b then n else y)
        ∷ instr.Convert to u (kind.Int i) j ∷ r)
        else (if same then instr.Int op i to x (if b then n else y) ∷ r
        else instr.Convert u x j (kind.Int i) ∷ instr.Int op i u u (if b then n else y)
        ∷ instr.Convert to u (kind.Int i) j ∷ r))
    by true same u = more tt (last same u n)
    by false same u = last same u y

changes_capability : (op : IntOp) (s : Bool) (j k : TacKind) (to x y n : ℕ) →
    Makes (operating.changed_capability op s j k to x y n)
changes_capability op s j k to x y n r =
    joined (addresses op s j k x y n (if is_capability j then instr.Cap SetAddress to x (Some n) ∷ r
    else instr.Convert to n (kind.Int (address_kind op s)) j ∷ r)) (by (is_capability j))
  where
    by : (b : Bool) → Front r (if b then instr.Cap SetAddress to x (Some n) ∷ r
        else instr.Convert to n (kind.Int (address_kind op s)) j ∷ r)
    by true = more tt none
    by false = more tt none

pub changes : (op : Operation) (j k : TacKind) (to x y n : ℕ) → IsOperation op →
    Makes (operating.changed op j k to x y n)
changes (Whole op i count) j k to x y n h = changes_whole op i j k to x y n h
changes (Derived op s count right plain) j k to x y n h = changes_capability op s j k to x y n
changes (Moved size minus left count) j k to x y n h = moves k (stride size minus) to x y n
changes (Apart size) j k to x y n h = λ r. none

-- a step is a sum or a difference at the place's own kind
step_adds : (op : IntOp) (i k : IntKind) (count c : Kind) → IsStep (Whole op i count) (kind.Int k) c → IsWide k op
step_adds Add i k count c h = tt
step_adds Sub i k count c h = tt
step_adds op i k count c h = absurd h

pub steps : (op : Operation) (j : TacKind) (c : Kind) (to x n : ℕ) → IsStep op j c →
    Makes (operating.stepped op j to x n)
steps (Whole op i count) (kind.Int k) c to x n h r = more tt (more (step_adds op i k count c h) none)
steps (Whole op i count) (kind.Cap z) c to x n h r = none
steps (Derived Add s count right plain) j c to x n h r = more tt none
steps (Derived op s count right plain) j c to x n h r = more tt none
steps (Moved size minus left count) j c to x n h r = more tt none
steps (Apart size) j c to x n h r = none

-- ---- structs, services and branches

pub reaches_within : (base offset : ℕ) (n : Mark) → Makes (within base offset n)
reaches_within base zero n r = none
reaches_within base (suc k) n r = more tt none

pub reaches : (to : Target) (n : Mark) → Makes (target_code to n)
reaches (Reaches t) n r = none
reaches (Within base offset) n r = reaches_within base offset n r

works : (service : Service) (to : Option ℕ) (k : TacKind) (a : ℕ) (b : Option ℕ) → Makes (intrinsic service to k a b)
works Address (Some to) k a b r = more tt none
works (Bounds exact) (Some to) k a (Some b) r = more tt none
works (Works w) (Some to) k a b r = more tt none
works service to k a b r = none

pub serving : (service : Service) (to : Option ℕ) (k : TacKind) (ts : List ℕ) → Makes (serves service to k ts)
serving Put_char to k ts r = more tt none
serving Get_char to k ts r = more tt none
serving Malloc to k ts r = more tt none
serving Exit to k ts r = more tt none
serving service to k ts r = works service to k (slice_index_or ts 0 0) (slice_get ts 1) r

pub jumps : (b : Bool) (label : ℕ) → Makes (jump_if b label)
jumps true label r = more tt none
jumps false label r = none
