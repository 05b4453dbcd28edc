use Rattle.std.proofs.Common.{◌≡◌, length, get_or, refl, sym, ap, subst, ◌∙◌, arith}
use Rattle.std.proofs.lemmas.Bool.{eqb-true}
use Rattle.cap_concentrate.specs.Rounding.{owned, alignment, first_from}
use Rattle.cheric_rows.proofs.OneFunction.{only_item, no_item, legal_of}
use Rattle.cheric_rows.proofs.programs.placed.Goals as goal

pub place-requires-clause-owned : goal.place-requires-clause-owned
unfolding owned alignment first_from
place-requires-clause-owned c = refl

pub table-requires-clause-legal : goal.table-requires-clause-legal
table-requires-clause-legal c =
    let p = c.args.p.now in
    let d = c.main-item.result in
    let same = ap length c.as_slice.ensures in
    let only = only_item p.funs d (omega (arith, c.in-len1.len_at_least, same))
    (omega (arith, c.in-len1.len_below, same))
    (subst (λ xs. d ≡ get_or xs 0 d) c.as_slice.ensures c.main-item.is) in
    let none = eqb-true (length c.as_slice-2.result.now) 0 (sym c.is_empty.ensures ∙ c.if-not-is_empty.false) in
    let bare = no_item d.vars (sym (ap length c.as_slice-2.ensures) ∙ none) in
    legal_of p d c.in_ok-map.map c.in_ok-frames.frames.items c.in_ok-entries.entries.items 16 only bare
    c.in_ok-frames.ensures c.in_ok-map.ensures.placed
