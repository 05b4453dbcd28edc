-- What conversions cost.
use Rattle.std.proofs.Common.{◌≤◌, arith}
use Rattle.tac_ir.specs.Costs.{load_cost}
use Rattle.ck_int.specs.declared.kinds.IntKind.TheVariants as int
use Rattle.tac_ir.specs.declared.code.TacKind.{TacKind}
use Rattle.tac_ir.specs.declared.code.TacKind.TheVariants as kind

pub load_least : (k : TacKind) → 7 ≤ load_cost k
load_least (kind.Int int.Bool) = omega arith
load_least (kind.Int int.I8) = omega arith
load_least (kind.Int int.U8) = omega arith
load_least (kind.Int int.I16) = omega arith
load_least (kind.Int int.U16) = omega arith
load_least (kind.Int int.I32) = omega arith
load_least (kind.Int int.U32) = omega arith
load_least (kind.Int int.I64) = omega arith
load_least (kind.Int int.U64) = omega arith
load_least (kind.Cap s) = omega arith
