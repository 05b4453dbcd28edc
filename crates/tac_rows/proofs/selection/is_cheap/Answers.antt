use Rattle.std.proofs.Common.{◌≡◌, ◌<◌, length, get_or, sym, ap, subst, ◌∙◌, arith}
use Rattle.std.proofs.lemmas.Bool.{ltb-true}
use Rattle.tac_rows.proofs.Framed.{one_is_cheap}
use Rattle.tac_rows.proofs.selection.is_cheap.Goals as goal

pub returns-in-len1-clause-cheap : goal.returns-in-len1-clause-cheap
returns-in-len1-clause-cheap c =
    let f = c.f-item.result in
    let same = ap length c.as_slice.ensures in
    λ lt. one_is_cheap c.args.t.now.funs f (omega (arith, c.in-len1.len_at_least, same))
    (omega (arith, c.in-len1.len_below, same))
    (subst (λ fs. f ≡ get_or fs 0 f) c.as_slice.ensures c.f-item.is)
    (subst (λ n. n < 200) c.function_cost.ensures (ltb-true _ 200 lt))
