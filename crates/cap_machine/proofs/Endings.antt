-- A row that ends leaves the state as it was, and ends by no fault of the outside.
use Rattle.std.proofs.Common.{◌≡◌, ◌≢◌, ℕ, ℤ, Bool, true, false, cond, eqb, Option, Some, None, Result, Ok, Err, refl}
use Rattle.std.proofs.Common.{ap, sym, ◌∙◌, subst}
use Rattle.std.proofs.Common.{arith}
use Rattle.std.proofs.lemmas.Bool.{false≢true}
use Rattle.std.proofs.lemmas.Bool.Decides.{nat_tests}
use Rattle.ck_base.specs.Runs.{Act, Puts, Reads, Ends}
use Rattle.ck_base.specs.RunLaws.{HasOwnEndings}
use Rattle.ck_base.specs.Calls.{Seen, Acted}
use Rattle.cap_ops.specs.declared.capability.Cap.{Cap}
use Rattle.cap_ops.specs.declared.access.Cause.{Cause}
use Rattle.rv_instr.specs.declared.instr.Instr.{Instr}
use Rattle.rv_instr.specs.declared.instr.Instr.TheVariants.{Upper, Cjal, Cjalr, Branch, Load, Store, Clc, Imm, Shift}
use Rattle.rv_instr.specs.declared.instr.Instr.TheVariants.{Op, Ecall, Ebreak, CapImm, CapReg, CapGet}
use Rattle.rv_instr.specs.declared.ops.UpperOp.TheVariants.{Lui, Auipcc}
use Rattle.rv_instr.specs.declared.ops.UpperOp.{UpperOp}
use Rattle.rv_instr.specs.declared.ops.LoadOp.{LoadOp}
use Rattle.rv_instr.specs.declared.ops.StoreOp.{StoreOp}
use Rattle.rv_instr.specs.declared.ops.StoreOp.TheVariants.{Sb, Sh, Sw, Sd, Csc}
use Rattle.rv_instr.specs.declared.ops.CapImmOp.{CapImmOp}
use Rattle.rv_instr.specs.declared.ops.CapImmOp.TheVariants.{Cincoffsetimm, Csetboundsimm}
use Rattle.rv_instr.specs.declared.ops.CapRegOp.{CapRegOp}
use Rattle.rv_instr.specs.declared.ops.CapRegOp.TheVariants.{Csetbounds, Csetboundsexact, Candperm, Csetaddr}
use Rattle.rv_instr.specs.declared.ops.CapRegOp.TheVariants.{Cincoffset, Csetequalexact}
use Rattle.rv_instr.specs.declared.ops.CapGetOp.{CapGetOp}
use Rattle.rv_instr.specs.declared.ops.CapGetOp.TheVariants.{Cgetperm, Cgetbase, Cgetlen, Cgettag, Cgetoffset, Crrl}
use Rattle.rv_instr.specs.declared.ops.CapGetOp.TheVariants.{Cram, Cmove, Ccleartag, Cgetaddr, Csealentry}
use Rattle.rv_code.specs.Decoding.{decode_of}
use Rattle.cap_ops.specs.Access.{checked}
use Rattle.cap_ops.specs.declared.access.Access.TheVariants as access
use Rattle.tag_mem.specs.Areas.{is_inside}
use Rattle.tag_mem.specs.Memory.{number_at, capability_at}
use Rattle.cap_machine.specs.declared.machine.Machine.{Machine}
use Rattle.cap_machine.specs.declared.end.End.{End}
use Rattle.cap_machine.specs.declared.end.End.TheVariants.{Exit, Illegal, ReadFault, WriteFault}
use Rattle.cap_machine.specs.declared.end.Step.{Step}
use Rattle.cap_machine.specs.declared.end.Step.TheVariants.{Next, Ended}
use Rattle.cap_machine.specs.State.{register, integer, counter}
use Rattle.cap_machine.specs.Integers.{loaded_bytes}
use Rattle.cap_machine.specs.Rows.{trap, entered, cjalr_checked, loaded, load_checked, stored, store_checked}
use Rattle.cap_machine.specs.Rows.{memory_bits, cap_loaded, clc_checked, row, upper_row, op_row, imm_row, shift_row}
use Rattle.cap_machine.specs.Rows.{branch_row, cjal_row, cjalr_row, load_row, store_row, clc_row, cap_imm_row}
use Rattle.cap_machine.specs.Rows.{cap_reg_row, cap_get_row}
use Rattle.cap_machine.specs.Step.{decoded, read, fetch_checked, fetched, low_byte, answered, read_value, call, act_of}
use Rattle.cap_machine.specs.Step.{is_call, act_on, act_fetched, act, limits, ending_of}

-- an ending of the machine's own
abbrev pub IsOwn : End → Type 0
IsOwn e = (e ≢ ReadFault) × (e ≢ WriteFault)

-- where the row ends, the state is as it was and the ending is the machine's own
abbrev pub EndsWell : Machine → Step × Machine → Type 0
EndsWell m (Next, after) = Unit {0}
EndsWell m (Ended e, after) = (after ≡ m) × IsOwn e

trap_well : (m : Machine) (c : Cause) → EndsWell m (trap m c)
trap_well m c = (refl, ((λ h. cc), (λ h. cc)))

upper_well : (m : Machine) (op : UpperOp) (rd n : ℕ) → EndsWell m (upper_row m op rd n)
unfolding upper_row
upper_well m Lui rd n = tt
upper_well m Auipcc rd n = tt

op_well : (m : Machine) (i : _) (rd rs1 rs2 : ℕ) → EndsWell m (op_row m i rd rs1 rs2)
unfolding op_row
op_well m i rd rs1 rs2 = tt

imm_well : (m : Machine) (i : _) (rd rs1 : ℕ) (z : ℤ) → EndsWell m (imm_row m i rd rs1 z)
unfolding imm_row
imm_well m i rd rs1 z = tt

shift_well : (m : Machine) (i : _) (rd rs1 n : ℕ) → EndsWell m (shift_row m i rd rs1 n)
unfolding shift_row
shift_well m i rd rs1 n = tt

branch_well : (m : Machine) (i : _) (rs1 rs2 : ℕ) (z : ℤ) → EndsWell m (branch_row m i rs1 rs2 z)
unfolding branch_row
branch_well m i rs1 rs2 z = tt

cjal_well : (m : Machine) (rd : ℕ) (z : ℤ) → EndsWell m (cjal_row m rd z)
unfolding cjal_row
cjal_well m rd z = tt

cjalr_checked_well : (m : Machine) (rd : ℕ) (c : Cap) (r : Result ℕ Cause) → EndsWell m (cjalr_checked m rd c r)
cjalr_checked_well m rd c (Err e) = trap_well m e
cjalr_checked_well m rd c (Ok at) = tt

cjalr_well : (m : Machine) (rd rs1 : ℕ) (z : ℤ) → EndsWell m (cjalr_row m rd rs1 z)
unfolding cjalr_row
cjalr_well m rd rs1 z = cjalr_checked_well m rd (entered (register m rs1) z) _

loaded_well : (m : Machine) (op : LoadOp) (rd : ℕ) (r : Option ℕ) → EndsWell m (loaded m op rd r)
loaded_well m op rd None = trap_well m _
loaded_well m op rd (Some v) = tt

load_checked_well : (m : Machine) (op : LoadOp) (rd : ℕ) (r : Result ℕ Cause) → EndsWell m (load_checked m op rd r)
load_checked_well m op rd (Err e) = trap_well m e
load_checked_well m op rd (Ok at) = loaded_well m op rd (number_at m.mem at (loaded_bytes op))

load_well : (m : Machine) (op : LoadOp) (rd rs1 : ℕ) (z : ℤ) → EndsWell m (load_row m op rd rs1 z)
unfolding load_row
load_well m op rd rs1 z = load_checked_well m op rd _

stored_well : (m : Machine) (at n v : ℕ) (tag inside : Bool) → EndsWell m (stored m at n v tag inside)
stored_well m at n v tag true = tt
stored_well m at n v tag false = trap_well m _

store_checked_well : (m : Machine) (n v : ℕ) (tag : Bool) (r : Result ℕ Cause) → EndsWell m (store_checked m n v tag r)
store_checked_well m n v tag (Err e) = trap_well m e
store_checked_well m n v tag (Ok at) = stored_well m at n v tag (is_inside m.mem at)

store_well : (m : Machine) (op : StoreOp) (rs2 rs1 : ℕ) (z : ℤ) → EndsWell m (store_row m op rs2 rs1 z)
unfolding store_row
store_well m Sb rs2 rs1 z = store_checked_well m 1 (integer m rs2) false _
store_well m Sh rs2 rs1 z = store_checked_well m 2 (integer m rs2) false _
store_well m Sw rs2 rs1 z = store_checked_well m 4 (integer m rs2) false _
store_well m Sd rs2 rs1 z = store_checked_well m 8 (integer m rs2) false _
store_well m Csc rs2 rs1 z = store_checked_well m 16 (memory_bits (register m rs2).fields) (register m rs2).tag _

cap_loaded_well : (m : Machine) (rd : ℕ) (c : Cap) (r : Option (ℕ × Bool)) → EndsWell m (cap_loaded m rd c r)
cap_loaded_well m rd c None = trap_well m _
cap_loaded_well m rd c (Some v) = tt

clc_checked_well : (m : Machine) (rd : ℕ) (c : Cap) (r : Result ℕ Cause) → EndsWell m (clc_checked m rd c r)
clc_checked_well m rd c (Err e) = trap_well m e
clc_checked_well m rd c (Ok at) = cap_loaded_well m rd c (capability_at m.mem at)

clc_well : (m : Machine) (rd rs1 : ℕ) (z : ℤ) → EndsWell m (clc_row m rd rs1 z)
unfolding clc_row
clc_well m rd rs1 z = clc_checked_well m rd (register m rs1) _

cap_imm_well : (m : Machine) (op : CapImmOp) (rd rs1 : ℕ) (z : ℤ) → EndsWell m (cap_imm_row m op rd rs1 z)
unfolding cap_imm_row
cap_imm_well m Cincoffsetimm rd rs1 z = tt
cap_imm_well m Csetboundsimm rd rs1 z = tt

cap_reg_well : (m : Machine) (op : CapRegOp) (rd rs1 rs2 : ℕ) → EndsWell m (cap_reg_row m op rd rs1 rs2)
unfolding cap_reg_row
cap_reg_well m Csetbounds rd rs1 rs2 = tt
cap_reg_well m Csetboundsexact rd rs1 rs2 = tt
cap_reg_well m Candperm rd rs1 rs2 = tt
cap_reg_well m Csetaddr rd rs1 rs2 = tt
cap_reg_well m Cincoffset rd rs1 rs2 = tt
cap_reg_well m Csetequalexact rd rs1 rs2 = tt

cap_get_well : (m : Machine) (op : CapGetOp) (rd rs1 : ℕ) → EndsWell m (cap_get_row m op rd rs1)
unfolding cap_get_row
cap_get_well m Cgetperm rd rs1 = tt
cap_get_well m Cgetbase rd rs1 = tt
cap_get_well m Cgetlen rd rs1 = tt
cap_get_well m Cgettag rd rs1 = tt
cap_get_well m Cgetoffset rd rs1 = tt
cap_get_well m Crrl rd rs1 = tt
cap_get_well m Cram rd rs1 = tt
cap_get_well m Cmove rd rs1 = tt
cap_get_well m Ccleartag rd rs1 = tt
cap_get_well m Cgetaddr rd rs1 = tt
cap_get_well m Csealentry rd rs1 = tt

pub row_well : (m : Machine) (i : Instr) → EndsWell m (row m i)
unfolding row
row_well m (Upper op rd n) = upper_well m op rd n
row_well m (Cjal rd z) = cjal_well m rd z
row_well m (Cjalr rd rs1 z) = cjalr_well m rd rs1 z
row_well m (Branch op rs1 rs2 z) = branch_well m op rs1 rs2 z
row_well m (Load op rd rs1 z) = load_well m op rd rs1 z
row_well m (Store op rs2 rs1 z) = store_well m op rs2 rs1 z
row_well m (Clc rd rs1 z) = clc_well m rd rs1 z
row_well m (Imm op rd rs1 z) = imm_well m op rd rs1 z
row_well m (Shift op rd rs1 n) = shift_well m op rd rs1 n
row_well m (Op op rd rs1 rs2) = op_well m op rd rs1 rs2
row_well m (CapImm op rd rs1 z) = cap_imm_well m op rd rs1 z
row_well m (CapReg op rd rs1 rs2) = cap_reg_well m op rd rs1 rs2
row_well m (CapGet op rd rs1) = cap_get_well m op rd rs1
row_well m Ebreak = (refl, ((λ h. cc), (λ h. cc)))
row_well m Ecall = (refl, ((λ h. cc), (λ h. cc)))

-- ---- the acts

-- an act that ends, ends by no fault of the outside
abbrev pub IsOwnAct : Act Machine End → Type 0
IsOwnAct a = (a ≢ Ends ReadFault) × (a ≢ Ends WriteFault)

same_end : (e f : End) → ◌≡◌ {A = Act Machine End} (Ends e) (Ends f) → e ≡ f
same_end e f h = cc

own_ends : (e : End) → IsOwn e → IsOwnAct (Ends e)
own_ends e own = (λ h. own.0 (same_end e ReadFault h), λ h. own.1 (same_end e WriteFault h))

own_row : (m : Machine) (r : Step × Machine) → EndsWell m r → IsOwnAct (act_of r)
own_row m (Next, after) well = ((λ h. cc), (λ h. cc))
own_row m (Ended e, after) well = own_ends e well.1

own_call : (m : Machine) (a b c : Bool) →
    IsOwnAct (cond a (Puts (low_byte m) (answered m (low_byte m)))
    (cond b (Reads (λ byte. answered m (read_value byte)))
    (cond c (Ends (Exit (low_byte m))) (Ends (Illegal (counter m))))))
own_call m true b c = ((λ h. cc), (λ h. cc))
own_call m false true c = ((λ h. cc), (λ h. cc))
own_call m false false true = ((λ h. cc), (λ h. cc))
own_call m false false false = ((λ h. cc), (λ h. cc))

own_called : (m : Machine) → IsOwnAct (call m)
unfolding call
own_called m = own_call m (eqb (integer m 17) 1) (eqb (integer m 17) 2) (eqb (integer m 17) 3)

own_act_on : (m : Machine) (i : Instr) → IsOwnAct (act_on m i)
own_act_on m Ecall = own_called m
own_act_on m (Upper op rd n) = own_row m _ (row_well m (Upper op rd n))
own_act_on m (Cjal rd z) = own_row m _ (row_well m (Cjal rd z))
own_act_on m (Cjalr rd rs1 z) = own_row m _ (row_well m (Cjalr rd rs1 z))
own_act_on m (Branch op rs1 rs2 z) = own_row m _ (row_well m (Branch op rs1 rs2 z))
own_act_on m (Load op rd rs1 z) = own_row m _ (row_well m (Load op rd rs1 z))
own_act_on m (Store op rs2 rs1 z) = own_row m _ (row_well m (Store op rs2 rs1 z))
own_act_on m (Clc rd rs1 z) = own_row m _ (row_well m (Clc rd rs1 z))
own_act_on m (Imm op rd rs1 z) = own_row m _ (row_well m (Imm op rd rs1 z))
own_act_on m (Shift op rd rs1 n) = own_row m _ (row_well m (Shift op rd rs1 n))
own_act_on m (Op op rd rs1 rs2) = own_row m _ (row_well m (Op op rd rs1 rs2))
own_act_on m (CapImm op rd rs1 z) = own_row m _ (row_well m (CapImm op rd rs1 z))
own_act_on m (CapReg op rd rs1 rs2) = own_row m _ (row_well m (CapReg op rd rs1 rs2))
own_act_on m (CapGet op rd rs1) = own_row m _ (row_well m (CapGet op rd rs1))
own_act_on m Ebreak = own_row m _ (row_well m Ebreak)

own_decoded : (m : Machine) (o : Option Instr) → IsOwnAct (act_fetched m (decoded m o))
own_decoded m None = ((λ h. cc), (λ h. cc))
own_decoded m (Some i) = own_act_on m i

own_read : (m : Machine) (o : Option ℕ) → IsOwnAct (act_fetched m (read m o))
own_read m None = ((λ h. cc), (λ h. cc))
own_read m (Some w) = own_decoded m (decode_of w)

own_checked : (m : Machine) (r : Result ℕ Cause) → IsOwnAct (act_fetched m (fetch_checked m r))
own_checked m (Err e) = ((λ h. cc), (λ h. cc))
own_checked m (Ok at) = own_read m (number_at m.mem at 4)

own_act : (m : Machine) → IsOwnAct (act m)
unfolding act fetched
own_act m = own_checked m (checked m.pc (counter m) access.Jump)

pub own_endings : HasOwnEndings limits act
own_endings = record {
  read = λ m. (own_act m).0;
  write = λ m. (own_act m).1;
  apart = λ h. cc;
  steps_read = λ h. cc;
  steps_write = λ h. cc;
}

-- ---- what a row's step did

acted_row : (m : Machine) (x : Seen) (s : Step) (after : Machine) (r : Step × Machine) → EndsWell m r → (s, after) ≡ r →
    Acted limits (act_of r) x x m after (ending_of s)
acted_row m x s after (Next, to) well e = (ap (λ p. ending_of p.0) e, ap (λ p. p.1) e, refl)
acted_row m x s after (Ended end, to) well e = (ap (λ p. ending_of p.0) e, ap (λ p. p.1) e ∙ well.0, refl)

-- a row that was done was the act of its instruction
pub acted : (m : Machine) (x : Seen) (s : Step) (after : Machine) (i : Instr) → act_on m i ≡ act_of (row m i) →
    (s, after) ≡ row m i → Acted limits (act_on m i) x x m after (ending_of s)
acted m x s after i is e =
    subst (λ a. Acted limits a x x m after (ending_of s)) (sym is) (acted_row m x s after (row m i) (row_well m i) e)

-- an environment call acts by itself, and every other instruction by its row
pub act_on-call : (m : Machine) (i : Instr) → true ≡ is_call i → act_on m i ≡ call m
act_on-call m Ecall h = refl
act_on-call m (Upper op rd n) h = absurd (false≢true (sym h))
act_on-call m (Cjal rd z) h = absurd (false≢true (sym h))
act_on-call m (Cjalr rd rs1 z) h = absurd (false≢true (sym h))
act_on-call m (Branch op rs1 rs2 z) h = absurd (false≢true (sym h))
act_on-call m (Load op rd rs1 z) h = absurd (false≢true (sym h))
act_on-call m (Store op rs2 rs1 z) h = absurd (false≢true (sym h))
act_on-call m (Clc rd rs1 z) h = absurd (false≢true (sym h))
act_on-call m (Imm op rd rs1 z) h = absurd (false≢true (sym h))
act_on-call m (Shift op rd rs1 n) h = absurd (false≢true (sym h))
act_on-call m (Op op rd rs1 rs2) h = absurd (false≢true (sym h))
act_on-call m (CapImm op rd rs1 z) h = absurd (false≢true (sym h))
act_on-call m (CapReg op rd rs1 rs2) h = absurd (false≢true (sym h))
act_on-call m (CapGet op rd rs1) h = absurd (false≢true (sym h))
act_on-call m Ebreak h = absurd (false≢true (sym h))

pub act_on-row : (m : Machine) (i : Instr) → false ≡ is_call i → act_on m i ≡ act_of (row m i)
act_on-row m Ecall h = absurd (false≢true h)
act_on-row m (Upper op rd n) h = refl
act_on-row m (Cjal rd z) h = refl
act_on-row m (Cjalr rd rs1 z) h = refl
act_on-row m (Branch op rs1 rs2 z) h = refl
act_on-row m (Load op rd rs1 z) h = refl
act_on-row m (Store op rs2 rs1 z) h = refl
act_on-row m (Clc rd rs1 z) h = refl
act_on-row m (Imm op rd rs1 z) h = refl
act_on-row m (Shift op rd rs1 n) h = refl
act_on-row m (Op op rd rs1 rs2) h = refl
act_on-row m (CapImm op rd rs1 z) h = refl
act_on-row m (CapReg op rd rs1 rs2) h = refl
act_on-row m (CapGet op rd rs1) h = refl
act_on-row m Ebreak h = refl

-- ---- the act of a step, by what was fetched and by the number of an environment call

pub act-fetched : (m : Machine) (r : Result Instr End) → fetched m ≡ r → act m ≡ act_fetched m r
unfolding act
act-fetched m r e = ap (act_fetched m) e

pub call-numbered : (m : Machine) (k : ℕ) → integer m 17 ≡ k →
    call m ≡ cond (eqb k 1) (Puts (low_byte m) (answered m (low_byte m)))
    (cond (eqb k 2) (Reads (λ byte. answered m (read_value byte)))
    (cond (eqb k 3) (Ends (Exit (low_byte m))) (Ends (Illegal (counter m)))))
unfolding call
call-numbered m k e = ap (λ k. cond (eqb k 1) (Puts (low_byte m) (answered m (low_byte m)))
    (cond (eqb k 2) (Reads (λ byte. answered m (read_value byte)))
    (cond (eqb k 3) (Ends (Exit (low_byte m))) (Ends (Illegal (counter m)))))) e

call_by : (m : Machine) (k : ℕ) → eqb k 1 ≡ false → eqb k 2 ≡ false → eqb k 3 ≡ false →
    cond (eqb k 1) (Puts (low_byte m) (answered m (low_byte m)))
    (cond (eqb k 2) (Reads (λ byte. answered m (read_value byte)))
    (cond (eqb k 3) (Ends (Exit (low_byte m))) (Ends (Illegal (counter m))))) ≡ Ends (Illegal (counter m))
call_by m k a b c = rw (a, b, c) refl

not_equal : (a b : ℕ) → a ≢ b → eqb a b ≡ false
not_equal a b h = grind (arith, nat_tests)

pub call-other : (m : Machine) (k : ℕ) → integer m 17 ≡ k → k ≢ 1 → k ≢ 2 → k ≢ 3 → call m ≡ Ends (Illegal (counter m))
call-other m k e a b c = call-numbered m k e ∙ call_by m k (not_equal k 1 a) (not_equal k 2 b) (not_equal k 3 c)
