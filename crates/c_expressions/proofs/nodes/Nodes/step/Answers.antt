use Rattle.c_expressions.proofs.nodes.Nodes.step.Goals as goal

pub add-requires-clause-typed : goal.add-requires-clause-typed
add-requires-clause-typed c = record {
  of = c.requires.of;
  kind = c.step_kind.ensures.typed _;
  before = c.step_kind.ensures.before _ c.requires.operand;
}
