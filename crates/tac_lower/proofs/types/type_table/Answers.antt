use Rattle.std.proofs.Common.{◌≡◌, ◌+◌, length, min, sym, subst, arith}
use Rattle.tac_lower.specs.Tables.{TableFits}
use Rattle.tac_lower.proofs.Tabled.{TableTo, table_more, table_all}
use Rattle.tac_lower.proofs.types.type_table.Goals as goal

pub loop-t-preserved : goal.loop-t-preserved
loop-t-preserved c = subst (λ z. TableTo c.as_slice-types.result.now z (c.loop-t.t + 1))
    (sym c.in_ok-push.ensures.items) (table_more _ _ _ _ c.loop-t.invariant c.facts_of.ensures)

pub returns : goal.returns
returns c =
    let s : c.as_slice-types.result.now ≡ c.args.p.now.types = cc in
    let e : c.loop-t.t ≡ min (length c.as_slice-types.result.now) 4294967296 = omega arith in
    subst (λ z. TableFits z c.loop-t.table.items) s
    (table_all _ _ (subst (λ z. TableTo c.as_slice-types.result.now c.loop-t.table.items z) e c.loop-t.invariant))
