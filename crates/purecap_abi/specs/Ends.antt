-- How a function begins and ends. c1 is the link and c2 the stack; c28 has the caller's stack, and c29 and c30 are
-- scratch.
use Rattle.std.specs.Prelude.{ℕ, ◌≡◌, ◌+◌, ◌-◌, ◌^◌, nat_lt, nat_le, pos, neg_ℤ, Bool, true, false, List, [], ◌∷◌, ◌++◌}
use Rattle.std.specs.Prelude.{take, Option, Some, None, slice_get, if◌then◌else◌}
use Rattle.std.specs.List.{All}
use Rattle.rv_instr.specs.declared.instr.Instr.{Instr}
use Rattle.rv_instr.specs.declared.instr.Instr.TheVariants.{Cjalr, Store, Clc, Op, CapImm, CapReg, CapGet}
use Rattle.rv_instr.specs.declared.ops.RegOp.TheVariants.{Sub, And}
use Rattle.rv_instr.specs.declared.ops.StoreOp.TheVariants.{Csc}
use Rattle.rv_instr.specs.declared.ops.CapImmOp.TheVariants.{Cincoffsetimm}
use Rattle.rv_instr.specs.declared.ops.CapRegOp.TheVariants.{Cincoffset, Csetaddr}
use Rattle.rv_instr.specs.declared.ops.CapGetOp.TheVariants.{Cmove}
use Rattle.reg_alloc.specs.declared.places.Home.{Home}
use Rattle.obj_mem.specs.declared.map.Frame.{Frame}
use Rattle.purecap_abi.specs.declared.taking.Way.{Way}
use Rattle.purecap_abi.specs.declared.taking.Way.TheVariants.{ToFrame, FromFrame}
use Rattle.purecap_abi.specs.Words.{wide_code, load_code, store_code, moved_code}
use Rattle.purecap_abi.specs.Saving.{kept_homes, keeps_stack, registers_at, stack_at}

-- ---- the frame

-- the 64 bits of a number's negative
abbrev pub negative : ℕ → ℕ
negative n = 2 ^ 64 - n

-- the stack is moved down by the size
abbrev pub take_plain : ℕ → List Instr
take_plain size =
    if nat_le size 2048 then CapImm Cincoffsetimm 2 2 (neg_ℤ (pos size)) ∷ []
    else wide_code 29 (negative size) ++ CapReg Cincoffset 2 2 29 ∷ []

-- and its address is rounded down to the alignment
abbrev pub take_aligned : (size align : ℕ) → List Instr
take_aligned size align =
    wide_code 29 size ++ Op Sub 29 28 29 ∷ wide_code 30 (negative align) ++ Op And 29 29 30 ∷ CapReg Csetaddr 2 2 29
    ∷ []

abbrev pub take_code : Frame → List Instr
take_code f = if keeps_stack f.align then take_aligned f.size f.align else take_plain f.size

-- back up by the size
abbrev pub give_plain : ℕ → List Instr
give_plain size =
    if nat_lt size 2048 then CapImm Cincoffsetimm 2 2 (pos size) ∷ []
    else wide_code 29 size ++ CapReg Cincoffset 2 2 29 ∷ []

-- or from the frame, where it keeps the caller's stack
abbrev pub give_code : Option ℕ → ℕ → List Instr
give_code None size = give_plain size
give_code (Some at) size = load_code 2 2 at 29

abbrev pub stack_code : Option ℕ → List Instr
stack_code None = []
stack_code (Some at) = store_code 28 2 at 29

-- ---- the kept registers

-- each to its place, or from it
abbrev pub keep : Way → (register base at : ℕ) → Instr
keep ToFrame register base at = Store Csc register base (pos at)
keep FromFrame register base at = Clc register base (pos at)

unfoldable pub keep_from : Way → (base at : ℕ) → List ℕ → List Instr
keep_from way base at [] = []
keep_from way base at (r ∷ rs) = keep way r base at ∷ keep_from way base (at + 16) rs

-- by a base of their own where the twelve places may be far from the frame's start
abbrev pub keep_at : Way → ℕ → List ℕ → List Instr
keep_at way at rs = if nat_le at 1856 then keep_from way 2 at rs else moved_code 29 2 at ++ keep_from way 29 0 rs

abbrev pub keep_code : Way → ℕ → List ℕ → List Instr
keep_code way at [] = []
keep_code way at (r ∷ rs) = keep_at way at (r ∷ rs)

-- ---- whole

-- what comes before the first store
abbrev pub before_store : Frame → List Instr
before_store f = CapGet Cmove 28 2 ∷ take_code f

-- the link, at the frame's lowest address
abbrev pub link_store : Instr
link_store = Store Csc 1 2 (pos 0)

abbrev pub prologue_code : List Home → Frame → List Instr
prologue_code homes f = before_store f ++ link_store ∷ [] ++ stack_code (stack_at homes f)
    ++ keep_code ToFrame (registers_at homes f) (kept_homes homes)

abbrev pub epilogue_code : List Home → Frame → List Instr
epilogue_code homes f =
    keep_code FromFrame (registers_at homes f) (kept_homes homes) ++ Clc 1 2 (pos 0) ∷ []
    ++ give_code (stack_at homes f) f.size ++ Cjalr 0 1 (pos 0) ∷ []

abbrev pub is_store : Instr → Bool
is_store (Store op from base offset) = true
is_store i = false

-- Word k is the store of the link, and none before it is a store
pub record StoresLinkFirst (code : List Instr) (k : ℕ) : Type 0 where
  pub here : slice_get code k ≡ Some link_store
  pub before : All (λ i. is_store i ≡ false) (take k code)
