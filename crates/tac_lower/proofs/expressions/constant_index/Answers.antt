use Rattle.std.proofs.Common.{◌∙◌, sym, ap, Some}
use Rattle.tac_lower.proofs.Assigning.{index_constant}
use Rattle.tac_lower.proofs.Keeping.{node_at}
use Rattle.tac_lower.proofs.expressions.constant_index.Goals as goal

pub returns-in-Constant : goal.returns-in-Constant
returns-in-Constant c = record {
  is = index_constant _ c.requires.ordered c.requires.ready.ordered c.args.cx.d.now c.peeled.ensures.peels
      (record { node = _; there = c.in_ok-n-in-Int.ensures; is = c.in-Constant.is })
      (node_at c.args.cx.d.now c.requires.ready c.peeled.ensures.typed c.in_ok-n-in-Int.ensures c.in-Constant.is)
      (record { is = sym (c.in_ok-scalar.ensures c.requires.ready) ∙ ap Some c.in-Int.is });
}
