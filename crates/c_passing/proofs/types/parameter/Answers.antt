use Rattle.std.proofs.Common.{◌∙◌, sym}
use Rattle.c_passing.proofs.Numbering.{parameter_number, parameter_pointer}
use Rattle.c_passing.proofs.types.parameter.Goals as goal

pub returns-then-by_pointer : goal.returns-then-by_pointer
returns-then-by_pointer c =
    parameter_pointer c.args.types.now c.args.into.now c.args.t c.pointer.result c.pointer.ensures
    (sym c.by_pointer.ensures ∙ c.if-by_pointer.true)

pub returns-else-by_pointer : goal.returns-else-by_pointer
returns-else-by_pointer c = parameter_number c.args.types.now c.args.into.now c.args.t c.number.result c.number.ensures
    (sym c.by_pointer.ensures ∙ c.if-by_pointer.false)
