use Rattle.c_expressions.proofs.nodes.Nodes.join.Goals as goal

pub add-requires-clause-typed : goal.add-requires-clause-typed
add-requires-clause-typed c = record {
  of = c.requires.of;
  kind = c.join_kind.ensures.typed _ c.requires.kind;
  before = c.join_kind.ensures.before _ c.requires.first c.requires.second;
}
