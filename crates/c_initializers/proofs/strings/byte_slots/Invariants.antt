use Rattle.std.proofs.Common.{◌+◌, drop}
use Rattle.c_tree.specs.Initializers.{byte_slots}
use Rattle.c_expressions.specs.Nodes.{type_in}
use Rattle.c_initializers.proofs.FillLaws.{BytesTo}
use Rattle.c_initializers.proofs.strings.byte_slots.Given as goal

abbrev pub invariant-loop-k : goal.invariant-loop-k
invariant-loop-k l = BytesTo l.fn.nodes l.nodes l.whole (type_in l.fn.nodes l.of) (l.at + l.k)
    (drop l.k l.bytes) l.slots.items (byte_slots l.whole (type_in l.fn.nodes l.of) l.at l.bytes)
