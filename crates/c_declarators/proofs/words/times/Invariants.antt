use Rattle.std.proofs.Common.{◌≡◌, ◌+◌, drop}
use Rattle.c_declarators.specs.Words.{times_at}
use Rattle.c_declarators.proofs.words.times.Given as goal

abbrev pub invariant-loop-node : goal.invariant-loop-node
invariant-loop-node l = l.count + times_at l.word l.tree.nodes (drop l.node-index l.nodes)
    ≡ times_at l.word l.tree.nodes l.nodes
