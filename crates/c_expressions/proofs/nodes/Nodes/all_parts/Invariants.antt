use Rattle.std.proofs.Common.{◌≡◌, ℕ, map, take}
use Rattle.c_tree.specs.Types.{Ty}
use Rattle.c_expressions.specs.Agreement.{AreBelow}
use Rattle.c_expressions.specs.Nodes.{Sees, type_in, type_count}
use Rattle.c_expressions.proofs.nodes.Nodes.all_parts.Given as goal

abbrev pub invariant-loop-number : goal.invariant-loop-number
invariant-loop-number l =
    AreBelow (type_count l.self) l.parts.items ×
    ((seen : ℕ → Ty) → Sees l.self l.t seen →
    map (type_in l.self) l.parts.items ≡ map seen (take l.number-index l.numbers))
