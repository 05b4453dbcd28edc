use Rattle.std.proofs.Common.{◌≡◌, ◌<◌, Some, None, length, sym, ap, subst, ◌∙◌, arith}
use Rattle.std.specs.Prelude.{slice_get}
use Rattle.c_plain_parts.proofs.tables.definition.Goals as goal

pub entry-requires : goal.entry-requires
entry-requires c =
    let e : length c.args.table.now ≡ length c.args.work.now.nodes.p.funs = c.requires.definitions.count in
    let h : c.args.k < length c.args.work.now.nodes.p.funs = c.requires.there in
    omega arith

pub returns-in-None : goal.returns-in-None
returns-in-None c = c.requires.definitions.are.last c.args.k None (c.entry.ensures ∙ ap (λ o. Some o) c.in-None.is)

pub definition_at-requires : goal.definition_at-requires
definition_at-requires c =
    subst (λ xs. c.in-Some.at < length xs) (sym c.as_slice.ensures.value)
    (c.requires.definitions.are.there c.args.k c.in-Some.at (c.entry.ensures ∙ ap (λ o. Some o) c.in-Some.is))

pub returns-in-Some : goal.returns-in-Some
returns-in-Some c =
    let g = ap (λ xs. slice_get xs c.in-Some.at) (sym c.as_slice.ensures.value) ∙ c.definition_at.ensures in
    sym g ∙ c.requires.definitions.are.last c.args.k (Some c.in-Some.at)
    (c.entry.ensures ∙ ap (λ o. Some o) c.in-Some.is)
