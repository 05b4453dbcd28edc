use Rattle.c_expressions.proofs.nodes.Nodes.leaf.Goals as goal

pub add-requires-clause-typed : goal.add-requires-clause-typed
add-requires-clause-typed c = record {
  of = c.requires.of;
  kind = c.leaf_kind.ensures.typed _;
  before = c.leaf_kind.ensures.before _;
}
