-- The words of loads and stores.
use Rattle.std.specs.Prelude.{◌≡◌, ℕ, ◌+◌, pos, List, [], ◌∷◌, ◌++◌, length}
use Rattle.ck_base.specs.declared.positions.Pos.{Pos}
use Rattle.ck_int.specs.declared.kinds.IntKind.{IntKind}
use Rattle.ck_int.specs.declared.kinds.IntKind.TheVariants as int
use Rattle.rv_instr.specs.declared.instr.Instr.{Instr}
use Rattle.rv_instr.specs.declared.instr.Instr.TheVariants.{Load, Store, Clc, Op}
use Rattle.rv_instr.specs.declared.ops.LoadOp.{LoadOp}
use Rattle.rv_instr.specs.declared.ops.LoadOp.TheVariants.{Lb, Lh, Lw, Ld, Lbu, Lhu, Lwu}
use Rattle.rv_instr.specs.declared.ops.StoreOp.{StoreOp}
use Rattle.rv_instr.specs.declared.ops.StoreOp.TheVariants.{Sb, Sh, Sw, Sd, Csc}
use Rattle.rv_instr.specs.declared.ops.RegOp.TheVariants.{Sltu}
use Rattle.tac_ir.specs.declared.code.TacInstr.{TacInstr}
use Rattle.tac_ir.specs.declared.code.TacInstr.TheVariants as instr
use Rattle.tac_ir.specs.declared.code.TacKind.{TacKind}
use Rattle.tac_ir.specs.declared.code.TacKind.TheVariants as kind
use Rattle.select_words.specs.Emitted.{Operand}
use Rattle.select_words.specs.Forms.{OfOne}
use Rattle.select_words.specs.Selecting.{Selecting}

abbrev pub load_op : IntKind → LoadOp
load_op int.Bool = Lbu
load_op int.U8 = Lbu
load_op int.I8 = Lb
load_op int.I16 = Lh
load_op int.U16 = Lhu
load_op int.I32 = Lw
load_op int.U32 = Lwu
load_op int.I64 = Ld
load_op int.U64 = Ld

abbrev pub store_op : TacKind → StoreOp
store_op (kind.Int int.Bool) = Sb
store_op (kind.Int int.I8) = Sb
store_op (kind.Int int.U8) = Sb
store_op (kind.Int int.I16) = Sh
store_op (kind.Int int.U16) = Sh
store_op (kind.Int int.I32) = Sw
store_op (kind.Int int.U32) = Sw
store_op (kind.Int int.I64) = Sd
store_op (kind.Int int.U64) = Sd
store_op (kind.Cap signed) = Csc

-- a truth value is 1 for any byte but zero
abbrev pub load_words : TacKind → (r a : ℕ) → List Instr
load_words (kind.Int int.Bool) r a = Load Lbu r a (pos 0) ∷ Op Sltu r 0 r ∷ []
load_words (kind.Int k) r a = Load (load_op k) r a (pos 0) ∷ []
load_words (kind.Cap signed) r a = Clc r a (pos 0) ∷ []

abbrev pub Loads : TacKind → (r a : ℕ) → List Instr → Type 0
Loads k r a words = words ≡ load_words k r a

-- Two operands, and the word that stores one through the other
pub record StoreWords (s : Selecting) (to value : ℕ) (k : TacKind) (words : List Instr) : Type 0 where
  pub a : ℕ
  pub b : ℕ
  pub finds : List Instr
  pub others : List Instr
  pub found : Operand s to 28 finds a
  pub other : Operand s value 29 others b
  pub are : words ≡ finds ++ (others ++ (Store (store_op k) b a (pos 0) ∷ []))

-- the words, so many of which stand before the one that accesses memory
abbrev pub AccessWords : Selecting → TacInstr → (skip : ℕ) → List Instr → Type 0
AccessWords s (instr.Load to from k place) skip words = (f : OfOne s to from (Loads k) words) ×
    (skip ≡ length f.finds)
AccessWords s (instr.Store to value k place) skip words =
    (f : StoreWords s to value k words) × (skip ≡ length f.finds + length f.others)
AccessWords s i skip words = ⊥

-- its place in the source
abbrev pub place_of : TacInstr → Pos
place_of (instr.Load to from k place) = place
place_of (instr.Store to value k place) = place
place_of i = record { line = 0; col = 0 }

abbrev pub IsAccess : TacInstr → Type 0
IsAccess (instr.Load to from k place) = Unit {0}
IsAccess (instr.Store to value k place) = Unit {0}
IsAccess i = ⊥
