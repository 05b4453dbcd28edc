use Rattle.tac_lower.specs.Trees.{setting}
use Rattle.tac_lower.proofs.Standing.{pointer_stands, read_stands}
use Rattle.tac_lower.proofs.Deriving.{node_tree}
use Rattle.std.proofs.Common.{ap, ◌∙◌, sym, refl}
use Rattle.std.proofs.lemmas.Option.{IfSome_then}
use Rattle.tac_lower.specs.Nodes.{or_int}
use Rattle.tac_lower.proofs.Keeping.{node_at}
use Rattle.tac_lower.proofs.Steps.{as_kind}
use Rattle.tac_lower.proofs.expressions.in_place.Goals as goal

pub returns-in-Decay : goal.returns-in-Decay
returns-in-Decay c =
    record {
      has = (λ e h.
          let n = node_at c.args.cx.d.now c.requires.ready c.peeled-j.ensures.typed c.in_ok-e.ensures c.in-Decay.is in
          IfSome_then c.object.result (c.object.ensures.has c.args.cx.d.now e h)
          (λ t g. as_kind g (ap or_int (sym n.is.is ∙ c.peeled-j.ensures.kept))));
      is = (let n = node_at c.args.cx.d.now c.requires.ready c.peeled-j.ensures.typed c.in_ok-e.ensures c.in-Decay.is
          in
          IfSome_then c.object.result c.object.ensures.stands
          (λ t g. pointer_stands _ c.requires.ordered c.requires.ready.ordered c.peeled-j.ensures.peels
          (node_tree (setting c.args.cx) c.requires.ordered c.requires.ready.ordered
          (record { node = _; there = c.in_ok-e.ensures; is = c.in-Decay.is })) n.is g));
    }

pub returns-in-Address : goal.returns-in-Address
returns-in-Address c =
    record {
      has = (λ e h.
          let n = node_at c.args.cx.d.now c.requires.ready c.peeled-j.ensures.typed c.in_ok-e.ensures c.in-Address.is
          in
          IfSome_then c.object-in-Address.result (c.object-in-Address.ensures.has c.args.cx.d.now e h)
          (λ t g. as_kind g (ap or_int (sym n.is.is ∙ c.peeled-j.ensures.kept))));
      is = (let n = node_at c.args.cx.d.now c.requires.ready c.peeled-j.ensures.typed c.in_ok-e.ensures
          c.in-Address.is in
          IfSome_then c.object-in-Address.result c.object-in-Address.ensures.stands
          (λ t g. pointer_stands _ c.requires.ordered c.requires.ready.ordered c.peeled-j.ensures.peels
          (node_tree (setting c.args.cx) c.requires.ordered c.requires.ready.ordered
          (record { node = _; there = c.in_ok-e.ensures; is = c.in-Address.is })) n.is g));
    }

pub spared_variable-requires-clause-typed : goal.spared_variable-requires-clause-typed
spared_variable-requires-clause-typed c =
    (node_at c.args.cx.d.now c.requires.ready c.peeled-j.ensures.typed c.in_ok-e.ensures c.in-Load.is).operands.operand

pub returns-in-Load : goal.returns-in-Load
returns-in-Load c =
    record {
      has = (λ e h.
          let n = node_at c.args.cx.d.now c.requires.ready c.peeled-j.ensures.typed c.in_ok-e.ensures c.in-Load.is in
          IfSome_then c.spared_variable.result (c.spared_variable.ensures.has e h)
          (λ t g. as_kind g (ap or_int (n.same ∙ c.peeled-j.ensures.kept))));
      is = (let n = node_at c.args.cx.d.now c.requires.ready c.peeled-j.ensures.typed c.in_ok-e.ensures c.in-Load.is in
          IfSome_then c.spared_variable.result c.spared_variable.ensures.stands
          (λ t g. read_stands _ c.requires.ordered c.requires.ready.ordered c.args.cx.d.now refl
          c.peeled-j.ensures.peels
          (record { node = _; there = c.in_ok-e.ensures; is = c.in-Load.is }) n
          (λ x m. node_at c.args.cx.d.now c.requires.ready n.operands.operand m.there m.is) g));
    }
