-- What is asked of an instruction for words to be chosen for it: that words reach the homes of its temps and the
-- objects that it names, and that it is one of those that lowering makes.
use Rattle.std.specs.Prelude.{ℕ, ◌+◌, ◌*◌, ◌/◌, ◌^◌, ◌<◌, List}
use Rattle.std.specs.Prelude.{if◌then◌else◌}
use Rattle.std.specs.List.{Contains}
use Rattle.tac_ir.specs.declared.code.TacInstr.{TacInstr}
use Rattle.tac_ir.specs.declared.code.TacInstr.TheVariants as instr
use Rattle.select_words.specs.Operations.{AtKind}
use Rattle.rv_select.specs.declared.function.Function.{Function}
use Rattle.rv_select.specs.Choosing.{chosen, Chooses, ChoosesSome, ChoosesFirst, ChoosesAmount, Stands, IsOnly}
use Rattle.rv_select.specs.Choosing.{ReachesHeap}
use Rattle.rv_emit.specs.Growing.{reach}
use Rattle.rv_select.specs.Objects.{HasObject}
use Rattle.rv_select.specs.Passed.{ChoosesArguments}

-- a temp that is written, and is no number
pub record Writes (f : Function) (t : ℕ) : Type 0 where
  pub chooses : Chooses f t
  pub stands : Stands (chosen f) t

abbrev pub Suits : Function → TacInstr → Type 0
Suits f (instr.Const to k v) = Chooses f to × IsOnly (chosen f) to v
Suits f (instr.Copy to from) = Writes f to × Chooses f from
Suits f (instr.Int op k to a b) = Writes f to × Chooses f a × Chooses f b × AtKind k op
Suits f (instr.Cmp op k to a b) = Writes f to × Chooses f a × Chooses f b
Suits f (instr.Convert to from old new) = Writes f to × Chooses f from
Suits f (instr.Cap op to a b) = Writes f to × Chooses f a × ChoosesSome f b
Suits f (instr.Offset to base by) = Writes f to × Chooses f base × ChoosesAmount f by
Suits f (instr.Narrow to base length exact) = Writes f to × Chooses f base × ChoosesAmount f length
Suits f (instr.Load to from k pos) = Writes f to × Chooses f from
Suits f (instr.Store at v k pos) = Chooses f at × Chooses f v
Suits f (instr.Local to var) = Writes f to × HasObject f.frame.now var
Suits f (instr.Global to number literal) =
    Writes f to × (16 * (if literal then f.entries.literals + number else number) < reach)
Suits f (instr.Function to fun) = Writes f to × (16 * (f.entries.functions + fun) < reach)
Suits f (instr.Zero var) = HasObject f.frame.now var
Suits f (instr.CopyUnits from to bytes unit from_pos to_pos) =
    Chooses f from × Chooses f to × (0 < unit) × (bytes / unit < 2 ^ 31)
Suits f (instr.Branch on when l) = Chooses f on
Suits f (instr.Call to fun args) =
    ChoosesSome f to × ChoosesArguments f args × (16 * (f.entries.functions + fun) < reach)
Suits f (instr.CallValue to v of args pos) = ChoosesSome f to × Chooses f v × ChoosesArguments f args
Suits f (instr.Lib op to args) = ReachesHeap f op args × ChoosesFirst f args × ChoosesSome f to
Suits f (instr.Return v) = ChoosesSome f v
Suits f i = Unit {0}

-- ---- by what its words are chosen

-- what computes with numbers alone
abbrev pub Computes : TacInstr → Type 0
Computes (instr.Const to k v) = Unit {0}
Computes (instr.Copy to from) = Unit {0}
Computes (instr.Int op k to a b) = Unit {0}
Computes (instr.Cmp op k to a b) = Unit {0}
Computes (instr.Convert to from old new) = Unit {0}
Computes i = ⊥

-- what makes capabilities
abbrev pub Points : TacInstr → Type 0
Points (instr.Cap op to a b) = Unit {0}
Points (instr.Offset to base by) = Unit {0}
Points (instr.Narrow to base length exact) = Unit {0}
Points (instr.Local to var) = Unit {0}
Points (instr.Global to number literal) = Unit {0}
Points (instr.Function to fun) = Unit {0}
Points i = ⊥

-- what reads and writes memory
abbrev pub Touches : TacInstr → Type 0
Touches (instr.Load to from k pos) = Unit {0}
Touches (instr.Store at v k pos) = Unit {0}
Touches (instr.Zero var) = Unit {0}
Touches (instr.CopyUnits from to bytes unit from_pos to_pos) = Unit {0}
Touches i = ⊥

-- and what leads elsewhere
abbrev pub Leads : TacInstr → Type 0
Leads (instr.Label l) = Unit {0}
Leads (instr.Jump l) = Unit {0}
Leads (instr.Branch on when l) = Unit {0}
Leads (instr.Call to fun args) = Unit {0}
Leads (instr.CallValue to v of args pos) = Unit {0}
Leads (instr.Lib op to args) = Unit {0}
Leads instr.Turn = Unit {0}
Leads (instr.Return v) = Unit {0}
Leads i = ⊥

-- each instruction of a code
abbrev pub AllSuit : Function → List TacInstr → Type 0
AllSuit f code = (i : TacInstr) → Contains code i → Suits f i
