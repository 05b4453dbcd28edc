-- Moves between registers that all happen at once.
use Rattle.std.specs.Prelude.{◌≢◌, List}
use Rattle.std.specs.List.{Contains}
use Rattle.rv_instr.specs.declared.instr.Instr.{Instr}
use Rattle.rv_instr.specs.declared.instr.Instr.TheVariants.{CapGet}
use Rattle.rv_instr.specs.declared.ops.CapGetOp.TheVariants.{Cmove}
use Rattle.rv_idioms.specs.declared.moves.Move.{Move}

-- no move reads the target of one
abbrev pub AreFree : List Move → Type 0
AreFree moves = (m n : Move) → Contains moves m → Contains moves n → m.to ≢ n.from

abbrev pub moving : Move → Instr
moving m = CapGet Cmove m.to m.from
