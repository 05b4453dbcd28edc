-- What emitting does to the code of a function while it is made.
use Rattle.std.specs.Prelude.{◌≡◌, ℕ, ◌+◌, ◌^◌, ◌<◌, ◌≤◌, ◌&&◌, ◌||◌, ◌==◌, nat_lt, Bool, true, false, not, List, []}
use Rattle.std.specs.Prelude.{◌∷◌, ◌++◌, length, Option, Some, None, slice_get}
use Rattle.ck_int.specs.declared.kinds.IntKind.{IntKind}
use Rattle.ck_int.specs.declared.kinds.IntKind.TheVariants as int
use Rattle.c_tree.specs.declared.typed.FunDef.{FunDef}
use Rattle.c_tree.specs.declared.typed.Typed.{Typed}
use Rattle.tac_ir.specs.WellFormed.{all_of, has_label, instruction_fits, labels_differ, ends_well, turns_fit}
use Rattle.tac_ir.specs.declared.code.Amount.{Amount}
use Rattle.tac_ir.specs.declared.code.Amount.TheVariants as amount
use Rattle.tac_ir.specs.declared.code.CapWork.{CapWork}
use Rattle.tac_ir.specs.declared.code.CapWork.TheVariants as cap
use Rattle.tac_ir.specs.declared.code.TacInstr.{TacInstr}
use Rattle.tac_ir.specs.declared.code.TacInstr.TheVariants as instr
use Rattle.tac_ir.specs.declared.code.TacKind.{TacKind}
use Rattle.tac_ir.specs.declared.code.TacKind.TheVariants as kind
use Rattle.tac_emit.specs.declared.emitter.Emitter.{Emitter}

-- ---- temps

-- a temp is there and has this kind
pub record HasKind (e : Emitter) (t : ℕ) (k : TacKind) : Type 0 where
  pub there : slice_get e.kinds.items t ≡ Some k

abbrev pub is_capability : TacKind → Bool
is_capability (kind.Int k) = false
is_capability (kind.Cap signed) = true

-- a temp is there, with an integer or with a capability
pub record HasInt (e : Emitter) (t : ℕ) : Type 0 where
  pub kind : TacKind
  pub has : HasKind e t kind
  pub is : is_capability kind ≡ false

-- a temp is there
pub record IsTemp (e : Emitter) (t : ℕ) : Type 0 where
  pub kind : TacKind
  pub has : HasKind e t kind

pub record HasCapability (e : Emitter) (t : ℕ) : Type 0 where
  pub kind : TacKind
  pub has : HasKind e t kind
  pub is : is_capability kind ≡ true

-- an amount is a number or an integer's temp
abbrev pub AmountFits : Emitter → Amount → Type 0
AmountFits e (amount.Temp t) = HasInt e t
AmountFits e (amount.Number n) = Unit {0}

-- the right operand of an operation: the count of a shift may have another kind
abbrev pub CountFits : Emitter → (shift : Bool) → IntKind → ℕ → Type 0
CountFits e true k t = HasInt e t
CountFits e false k t = HasKind e t (kind.Int k)

-- two temps have one kind
pub record SameKind (e : Emitter) (t u : ℕ) : Type 0 where
  pub kind : TacKind
  pub to : HasKind e t kind
  pub from : HasKind e u kind

-- two temps have capabilities of one kind
pub record SameCapability (e : Emitter) (t u : ℕ) : Type 0 where
  pub kind : TacKind
  pub to : HasKind e t kind
  pub from : HasKind e u kind
  pub is : is_capability kind ≡ true

-- either kind of 64 bits
abbrev pub IsWide : TacKind → Type 0
IsWide (kind.Int int.U64) = Unit {0}
IsWide (kind.Int int.I64) = Unit {0}
IsWide k = ⊥

pub record HasAddress (e : Emitter) (t : ℕ) : Type 0 where
  pub kind : TacKind
  pub has : HasKind e t kind
  pub wide : IsWide kind

-- an intrinsic, by the kinds of its result and of its operands
abbrev pub WorkFits : Emitter → CapWork → (to a : ℕ) → Option ℕ → Type 0
WorkFits e cap.Base to a None = HasKind e to (kind.Int int.U64) × HasCapability e a
WorkFits e cap.Offset to a None = HasKind e to (kind.Int int.U64) × HasCapability e a
WorkFits e cap.Length to a None = HasKind e to (kind.Int int.U64) × HasCapability e a
WorkFits e cap.Perms to a None = HasKind e to (kind.Int int.U64) × HasCapability e a
WorkFits e cap.Tag to a None = HasKind e to (kind.Int int.Bool) × HasCapability e a
WorkFits e cap.Clear to a None = SameCapability e to a
WorkFits e cap.SetAddress to a (Some b) = SameCapability e to a × HasAddress e b
WorkFits e cap.AndPerms to a (Some b) = SameCapability e to a × HasKind e b (kind.Int int.U64)
WorkFits e cap.EqualExact to a (Some b) = HasKind e to (kind.Int int.Bool) × HasCapability e a × HasCapability e b
WorkFits e cap.Rounded to a None = HasKind e to (kind.Int int.U64) × HasKind e a (kind.Int int.U64)
WorkFits e cap.Mask to a None = HasKind e to (kind.Int int.U64) × HasKind e a (kind.Int int.U64)
WorkFits e op to a b = ⊥

-- the temps so far keep their kinds
pub record Keeps (old new : List TacKind) : Type 0 where
  pub kept : (t : ℕ) (k : TacKind) → slice_get old t ≡ Some k → slice_get new t ≡ Some k

-- ---- labels

-- the labels that were made and do not stand so far
unfoldable pub open_labels : Emitter → ℕ → Bool
open_labels e l = nat_lt l e.labels && not (has_label e.code.items l)

pub record IsOpen (e : Emitter) (l : ℕ) : Type 0 where
  pub is : open_labels e l ≡ true

-- a label stands
pub record Stands (e : Emitter) (l : ℕ) : Type 0 where
  pub is : has_label e.code.items l ≡ true

-- ---- well-formed code

-- the rules on the instructions of a function's code, the whole of which has some labels
pub record WellListed (p : Typed) (d : FunDef) (kinds : List TacKind) (whole list : List TacInstr) : Type 0 where
  pub fits : all_of (instruction_fits p d kinds whole) list ≡ true
  pub differ : labels_differ list ≡ true
  pub ends : ends_well list ≡ true
  pub turns : turns_fit false list ≡ true

-- what follows the code so far has the labels that are open, and none that stands
pub record Follows (e : Emitter) (rest : List TacInstr) : Type 0 where
  pub opens : (l : ℕ) → IsOpen e l → has_label rest l ≡ true
  pub once : (l : ℕ) → Stands e l → has_label rest l ≡ false

-- in the end, the temps keep their kinds and each label that was made stands
pub record Ends (e : Emitter) (kinds : List TacKind) (whole : List TacInstr) : Type 0 where
  pub keeps : Keeps e.kinds.items kinds
  pub stand : (l : ℕ) → l < e.labels → has_label whole l ≡ true

-- whatever well-formed code completes it, the code so far is well formed
pub record IsWell (p : Typed) (d : FunDef) (e : Emitter) : Type 0 where
  pub made : (l : ℕ) → Stands e l → l < e.labels
  pub completes :
      (kinds : List TacKind) (whole rest : List TacInstr) → Ends e kinds whole → Follows e rest →
      WellListed p d kinds whole rest
      → WellListed p d kinds whole (e.code.items ++ rest)

-- ---- what is added

-- code is added that is well formed in function d of program p, and each label of it stands
pub record Built (p : Typed) (d : FunDef) (old new : Emitter) : Type 0 where
  pub keeps : Keeps old.kinds.items new.kinds.items
  pub stands : (l : ℕ) → Stands old l → Stands new l
  pub opens : open_labels new ≡ open_labels old
  pub well : IsWell p d new

-- code is added that names no part of a program
pub record Grown (old new : Emitter) : Type 0 where
  pub keeps : Keeps old.kinds.items new.kinds.items
  pub stands : (l : ℕ) → Stands old l → Stands new l
  pub opens : open_labels new ≡ open_labels old
  pub well : (p : Typed) (d : FunDef) → IsWell p d old → IsWell p d new

-- these labels are open beside others
abbrev pub with_open : List ℕ → (ℕ → Bool) → ℕ → Bool
with_open [] f k = f k
with_open (l ∷ ls) f k = l == k || with_open ls f k

-- each label is none of the others
abbrev pub AreNew : List ℕ → (ℕ → Bool) → Type 0
AreNew [] f = Unit {0}
AreNew (l ∷ ls) f = (with_open ls f l ≡ false) × AreNew ls f

-- and code of which these labels do not stand so far
pub record Pending (p : Typed) (d : FunDef) (old new : Emitter) (ls : List ℕ) : Type 0 where
  pub keeps : Keeps old.kinds.items new.kinds.items
  pub stands : (l : ℕ) → Stands old l → Stands new l
  pub opens : open_labels new ≡ with_open ls (open_labels old)
  pub are_new : AreNew ls (open_labels old)
  pub well : IsWell p d new

-- a label is made
pub record Labelled (old new : Emitter) (l : ℕ) : Type 0 where
  pub code : new.code.items ≡ old.code.items
  pub kinds : new.kinds.items ≡ old.kinds.items
  pub label : l ≡ old.labels
  pub labels : new.labels ≡ old.labels + 1

-- two labels are made
pub record Forked (old new : Emitter) (l m : ℕ) : Type 0 where
  pub middle : Emitter
  pub first : Labelled old middle l
  pub second : Labelled middle new m

-- one temp is added
pub record Made (old new : Emitter) (k : TacKind) : Type 0 where
  pub code : new.code.items ≡ old.code.items
  pub kinds : new.kinds.items ≡ old.kinds.items ++ k ∷ []
  pub labels : new.labels ≡ old.labels

-- one instruction is added
pub record Pushed (old new : Emitter) (i : TacInstr) : Type 0 where
  pub code : new.code.items ≡ old.code.items ++ i ∷ []
  pub kinds : new.kinds.items ≡ old.kinds.items
  pub labels : new.labels ≡ old.labels

-- code is added that leads on, and then a label stands
pub record Turned (old new : Emitter) (l : ℕ) : Type 0 where
  pub middle : Emitter
  pub leads : Grown old middle
  pub stands : Pushed middle new (instr.Label l)

-- at most so many temps and labels are added
pub record Adds (old new : Emitter) (m n : ℕ) : Type 0 where
  pub temps : length new.kinds.items ≤ length old.kinds.items + m
  pub labels : new.labels ≤ old.labels + n

-- there is room for as many temps, and as many labels
pub record HasRoom (e : Emitter) (n : ℕ) : Type 0 where
  pub temps : length e.kinds.items + n < 2 ^ 32
  pub labels : e.labels + n < 2 ^ 32

-- the bytes of an object become zero, and a temp gets the pointer to it
pub record Entered (old new : Emitter) (to var : ℕ) : Type 0 where
  pub middle : Emitter
  pub zero : Pushed old middle (instr.Zero var)
  pub points : Pushed middle new (instr.Local to var)

-- and a value is stored there
pub record Filled (old new : Emitter) (at var : ℕ) : Type 0 where
  pub middle : Emitter
  pub entered : Entered old middle at var
  pub stored : Grown middle new
  pub adds : Adds middle new 0 0

-- the last instruction is a Return
pub record HasLeft (e : Emitter) : Type 0 where
  pub front : List TacInstr
  pub value : Option ℕ
  pub is : e.code.items ≡ front ++ instr.Return value ∷ []
