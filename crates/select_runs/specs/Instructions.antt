-- Laws of instructions that go on to the next.
use Rattle.std.specs.Prelude.{◌≡◌, ℕ, List}
use Rattle.ck_base.specs.World.{World}
use Rattle.rv_instr.specs.declared.instr.Instr.{Instr}
use Rattle.c_tree.specs.declared.typed.Typed.{Typed}
use Rattle.obj_mem.specs.Needs.{needs_of}
use Rattle.tac_ir.specs.declared.code.TacInstr.{TacInstr}
use Rattle.tac_ir.specs.declared.code.TacInstr.TheVariants as instr
use Rattle.place_inject.specs.Frames.{Setting}
use Rattle.place_inject.specs.Spills.{StackIsThere}
use Rattle.place_inject.specs.Tables.{TableIsThere}
use Rattle.select_words.specs.Capabilities.{IsNarrow, NarrowWords, IsOffset, OffsetWords, IsIntrinsic, CapWords}
use Rattle.select_words.specs.Capabilities.{IsPointing, PointingWords}
use Rattle.select_words.specs.Operations.{AtKind, OperationWords, IsComparison, CompareWords, IsConversion}
use Rattle.select_words.specs.Operations.{ConversionWords}
use Rattle.select_words.specs.Words.{IsConst, ConstantWords, IsCopy, CopyWords, IsPassed, NoWords}
use Rattle.select_runs.specs.Operands.{IsText}
use Rattle.select_runs.specs.Results.{GoOn, EachGoesOn}

abbrev pub ConstantsRun : Type 0
ConstantsRun = EachGoesOn IsConst ConstantWords

abbrev pub CopiesRun : Type 0
CopiesRun = EachGoesOn IsCopy CopyWords

abbrev pub LabelsRun : Type 0
LabelsRun = EachGoesOn IsPassed NoWords

abbrev pub NarrowsRun : Type 0
NarrowsRun = EachGoesOn IsNarrow NarrowWords

abbrev pub OffsetsRun : Type 0
OffsetsRun = EachGoesOn IsOffset OffsetWords

abbrev pub IntrinsicsRun : Type 0
IntrinsicsRun = EachGoesOn IsIntrinsic CapWords

-- the map was made for the program, whose functions have some weights
pub record IsAskedBy (s : Setting) (p : Typed) : Type 0 where
  pub weight : ℕ → ℕ
  pub needs : s.needs ≡ needs_of weight p

-- Pointers to locals, globals, literals and functions, of which the last three are read from the table
abbrev pub PointersRun : Type 0
PointersRun = (s : Setting) (code : List Instr) → IsText s code → StackIsThere s → TableIsThere s → (w : World)
    (p : Typed)
    → IsAskedBy s p → GoOn s code w p IsPointing PointingWords

-- an operation at a kind at which there is one
abbrev pub IsOperation : TacInstr → Type 0
IsOperation (instr.Int o k to a b) = AtKind k o
IsOperation i = ⊥

abbrev pub OperationsRun : Type 0
OperationsRun = EachGoesOn IsOperation OperationWords

abbrev pub ComparisonsRun : Type 0
ComparisonsRun = EachGoesOn IsComparison CompareWords

abbrev pub ConversionsRun : Type 0
ConversionsRun = EachGoesOn IsConversion ConversionWords
