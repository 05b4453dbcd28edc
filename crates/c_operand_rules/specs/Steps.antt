-- `++` and `--` (C11 6.5.2.4, 6.5.3.1) without the test that the state knows the size of what a pointer points to.
use Rattle.std.specs.Prelude.{Bool, not, ◌&&◌}
use Rattle.ck_base.specs.declared.positions.Pos.{Pos}
use Rattle.c_tree.specs.declared.syntax.StepOperator.{StepOperator}
use Rattle.c_tree.specs.Types.{bare, is_scalar}
use Rattle.c_tree.specs.Terms.{Step, step}
use Rattle.c_tree.specs.Scopes.{Doing, need, ◌>>◌}
use Rattle.c_tree.specs.Conversions.{Operand, operand_type}
use Rattle.c_tree.specs.Expressions.{gives, is_modifiable, points_to_function, increments}

abbrev pub stepped_of : StepOperator → Bool → Operand → Pos → Pos → Doing Operand
stepped_of o in_front a p first =
    let t = bare (operand_type a) in
    need (is_modifiable a.is && is_scalar t && not (points_to_function t)) 133 first >>
    gives (step (Step (increments o) in_front) a.is t p) first
