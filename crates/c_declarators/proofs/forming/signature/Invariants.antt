use Rattle.std.proofs.Common.{take}
use Rattle.c_declarators.specs.Forming.{HasTypes, signature_types}
use Rattle.c_declarators.proofs.forming.signature.Given as goal

abbrev pub invariant-loop-param : goal.invariant-loop-param
invariant-loop-param l = HasTypes l.fn.nodes l.nodes l.types.items
    (signature_types l.fn.nodes (take l.param-index l.params))
