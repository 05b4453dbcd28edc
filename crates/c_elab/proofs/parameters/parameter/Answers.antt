use Rattle.std.proofs.Common.{false, refl}
use Rattle.c_tree.specs.declared.typed.VarDef.{VarDef}
use Rattle.c_elab.proofs.Opening.{parameter_is}
use Rattle.c_elab.proofs.parameters.parameter.Goals as goal

pub returns : goal.returns
returns c = λ w h.
    let n = c.name_of-name.result in
    let v : VarDef = record { name = n.span; pos = n.pos; of = c.args.p.of; simple = false } in
    parameter_is w c.args.p n v h (c.name_of-name.ensures w) refl refl refl
