use Rattle.std.proofs.lemmas.Option.{IfSome_then}
use Rattle.std.proofs.Common.{◌<◌, rules}
use Rattle.tac_lower.proofs.Below.{load}
use Rattle.tac_lower.proofs.Keeping.{node_at, scalar_kind}
use Rattle.tac_lower.proofs.Locating.{base_read}
use Rattle.tac_lower.proofs.Standing.{base_pointed, base_object}
use Rattle.tac_lower.proofs.Steps.{as_kind}
use Rattle.tac_lower.proofs.places.+base_in_place.Goals as goal

pub in_place-requires-clause-typed : goal.in_place-requires-clause-typed
in_place-requires-clause-typed t c =
    (node_at c.args.cx.d.now c.requires.ready c.requires.typed c.in-Some.ensures c.in-Deref.is).operands.operand

pub returns-in-Deref-clause-has : goal.returns-in-Deref-clause-has
returns-in-Deref-clause-has t c = λ e h.
    IfSome_then c.in_place.result (c.in_place.ensures.has e h)
    (λ t g. as_kind g (scalar_kind (node_at c.args.cx.d.now c.requires.ready c.requires.typed c.in-Some.ensures
    c.in-Deref.is).operand))

pub returns-in-Var-clause-has : goal.returns-in-Var-clause-has
returns-in-Var-clause-has t c = λ e h. c.pointer_to_variable.ensures.has c.args.cx.d.now e h

pub base_in_place-requires : goal.base_in_place-requires
base_in_place-requires t c =
    let n = node_at c.args.cx.d.now c.requires.ready c.requires.typed c.in-Some.ensures c.in-Load.is in
    let below : c.in-Load.a < c.args.k =
    load c.args.cx.p.now c.args.k _ c.in-Load.a c.requires.ordered c.in-Some.ensures c.in-Load.is in
    (search rules, (c.requires.ordered, (c.requires.ready, n.operands.operand)))

pub returns-in-Deref-clause-is : goal.returns-in-Deref-clause-is
returns-in-Deref-clause-is t c =
    IfSome_then c.in_place.result c.in_place.ensures.is
    (λ v h. base_pointed _ c.requires.ordered c.requires.ready.ordered c.args.cx.d.now
    (record { node = _; there = c.in-Some.ensures; is = c.in-Deref.is })
    (node_at c.args.cx.d.now c.requires.ready c.requires.typed c.in-Some.ensures c.in-Deref.is) h)

pub returns-in-Var-clause-is : goal.returns-in-Var-clause-is
returns-in-Var-clause-is t c =
    IfSome_then c.pointer_to_variable.result c.pointer_to_variable.ensures.stands
    (λ v h. base_object _ c.requires.ordered c.requires.ready.ordered
    (record { node = _; there = c.in-Some.ensures; is = c.in-Var.is }) h.1)

pub returns-in-Load-clause-is : goal.returns-in-Load-clause-is
returns-in-Load-clause-is t c =
    IfSome_then c.base_in_place.result c.base_in_place.ensures.is
    (λ v h. base_read _ c.requires.ordered c.requires.ready.ordered
    (record { node = _; there = c.in-Some.ensures; is = c.in-Load.is }) h)
