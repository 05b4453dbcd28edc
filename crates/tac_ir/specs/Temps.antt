-- What instructions of three-address code name, and where they lead.
use Rattle.std.specs.Prelude.{◌≡◌, ℕ, ◌<◌, Bool, true, false, List, [], ◌∷◌, ◌++◌, Option, Some, None, slice_get}
use Rattle.std.specs.Prelude.{if◌then◌else◌}
use Rattle.tac_ir.specs.Meaning.{is_label}
use Rattle.tac_ir.specs.declared.code.Amount.{Amount}
use Rattle.tac_ir.specs.declared.code.Amount.TheVariants as amount
use Rattle.tac_ir.specs.declared.code.TacFun.{TacFun}
use Rattle.tac_ir.specs.declared.code.TacInstr.{TacInstr}
use Rattle.tac_ir.specs.declared.code.TacInstr.TheVariants as instr

abbrev pub IsIn : ℕ → List ℕ → Type 0
IsIn k ks = (j : ℕ) × (slice_get ks j ≡ Some k)

abbrev pub in_option : Option ℕ → List ℕ
in_option None = []
in_option (Some t) = t ∷ []

abbrev pub in_amount : Amount → List ℕ
in_amount (amount.Temp t) = t ∷ []
in_amount (amount.Number n) = []

-- the temps that an instruction reads
abbrev pub reads : TacInstr → List ℕ
reads (instr.Copy to from) = from ∷ []
reads (instr.Int op k to a b) = a ∷ b ∷ []
reads (instr.Cmp op k to a b) = a ∷ b ∷ []
reads (instr.Convert to from old new) = from ∷ []
reads (instr.Cap op to a b) = a ∷ in_option b
reads (instr.Offset to base by) = base ∷ in_amount by
reads (instr.Narrow to base length exact) = base ∷ in_amount length
reads (instr.Load to from k pos) = from ∷ []
reads (instr.Store at v k pos) = at ∷ v ∷ []
reads (instr.CopyUnits from to bytes unit from_pos to_pos) = from ∷ to ∷ []
reads (instr.Branch on when l) = on ∷ []
reads (instr.Call to fun args) = args
reads (instr.CallValue to v of args pos) = v ∷ args
reads (instr.Lib op to args) = args
reads (instr.Return v) = in_option v
reads i = []

-- and those that it writes
abbrev pub writes : TacInstr → List ℕ
writes (instr.Const to k v) = to ∷ []
writes (instr.Copy to from) = to ∷ []
writes (instr.Int op k to a b) = to ∷ []
writes (instr.Cmp op k to a b) = to ∷ []
writes (instr.Convert to from old new) = to ∷ []
writes (instr.Cap op to a b) = to ∷ []
writes (instr.Offset to base by) = to ∷ []
writes (instr.Narrow to base length exact) = to ∷ []
writes (instr.Load to from k pos) = to ∷ []
writes (instr.Local to var) = to ∷ []
writes (instr.Global to number literal) = to ∷ []
writes (instr.Function to fun) = to ∷ []
writes (instr.Call to fun args) = in_option to
writes (instr.CallValue to v of args pos) = in_option to
writes (instr.Lib op to args) = in_option to
writes i = []

abbrev pub names : TacInstr → List ℕ
names i = writes i ++ reads i

-- the locals to which an instruction makes a pointer, and those that it makes zero
abbrev pub locals : TacInstr → List ℕ
locals (instr.Local to var) = var ∷ []
locals i = []

abbrev pub zeros : TacInstr → List ℕ
zeros (instr.Zero var) = var ∷ []
zeros i = []

-- the label to which it may jump
abbrev pub goes_to : TacInstr → List ℕ
goes_to (instr.Jump l) = l ∷ []
goes_to (instr.Branch on when l) = l ∷ []
goes_to i = []

-- whether the next instruction may follow
abbrev pub falls : TacInstr → Bool
falls (instr.Jump l) = false
falls (instr.Return v) = false
falls i = true

-- the instructions behind a label
abbrev pub behind : ℕ → List TacInstr → List TacInstr
behind l [] = []
behind l (i ∷ is) = if is_label i l then is else behind l is

-- A name is read on some way through the code, from a place in it on, before it is written
pub data Awaits (read written : TacInstr → List ℕ) (whole : List TacInstr) : List TacInstr → ℕ → Type 0 where
  now : {i : TacInstr} {is : List TacInstr} {k : ℕ} → IsIn k (read i) → Awaits read written whole (i ∷ is) k
  onward : {i : TacInstr} {is : List TacInstr} {k : ℕ} → falls i ≡ true → (IsIn k (written i) → ⊥) →
      Awaits read written whole is k → Awaits read written whole (i ∷ is) k
  ahead : {i : TacInstr} {is : List TacInstr} {k : ℕ} → (l : ℕ) → IsIn l (goes_to i) →
      Awaits read written whole (behind l is) k → Awaits read written whole (i ∷ is) k
  back : {i : TacInstr} {is : List TacInstr} {k : ℕ} → (l : ℕ) → IsIn l (goes_to i) →
      Awaits read written whole (behind l whole) k → Awaits read written whole (instr.Turn ∷ i ∷ is) k

-- a temp that isn't a parameter is written before it is read
abbrev pub WritesFirst : TacFun → Type 0
WritesFirst f = (t : ℕ) → Awaits reads writes f.code f.code t → t < f.params

-- a Zero of a local comes before each Local that names it
abbrev pub ZeroesFirst : TacFun → Type 0
ZeroesFirst f = (v : ℕ) → Awaits locals zeros f.code f.code v → ⊥
