use Rattle.std.proofs.Common.{refl, sym, subst, ◌∙◌}
use Rattle.passing_nodes.specs.Places.{IsBehind}
use Rattle.passing_nodes.proofs.Naming.{none_is, name_pushed, name_inserted}
use Rattle.passing_nodes.proofs.names.Names.add.Goals as goal

pub returns-then-is_none : goal.returns-then-is_none
returns-then-is_none c =
    name_pushed c.args.self.now _ c.args.pos c.args.span
    (subst (λ ns. IsBehind ns c.args.pos) c.as_slice.ensures.value (c.is_behind.ensures c.if-is_behind.true))
    (sym c.other.ensures ∙ none_is c.other.result _ c.is_none.ensures c.if-is_none.true)
    c.in_ok-push.ensures.items refl

pub returns-in_ok-insert : goal.returns-in_ok-insert
returns-in_ok-insert c =
    name_inserted c.args.self.now _ c.args.pos c.args.span
    (sym c.known.ensures ∙ none_is c.known.result _ c.is_none-2.ensures c.if-is_none-2.true) refl
    c.in_ok-insert.ensures.updates.0
