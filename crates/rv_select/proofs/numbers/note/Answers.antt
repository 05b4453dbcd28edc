use Rattle.std.proofs.Common.{◌≤◌, length, sym, subst, arith}
use Rattle.tac_ir.specs.Temps.{writes}
use Rattle.rv_select.proofs.Writers.{written_past, written_more, written_one, written_none}
use Rattle.rv_select.proofs.numbers.note.Goals as goal

pub returns-in_default-clause-each : goal.returns-in_default-clause-each
returns-in_default-clause-each c = λ params code.
    let a = c.args in
    written_past params code a.i.now a.temps.now.items
    (λ k is. absurd (written_none k (writes a.i.now) c.in_default.ensures is))

pub returns-then-t-len-clause-each : goal.returns-then-t-len-clause-each
returns-then-t-len-clause-each c = λ params code.
    let a = c.args in
    written_more params code a.i.now a.temps.now.items c.in-Some.t c.index.result.now c.joined.result c.constant.result
    c.in-Some.ensures (omega (arith, c.if-t-len.true)) c.index.ensures c.joined.ensures c.constant.ensures

pub returns-else-t-len-clause-each : goal.returns-else-t-len-clause-each
returns-else-t-len-clause-each c = λ params code.
    let a = c.args in
    let past : length a.temps.now.items ≤ c.in-Some.t = omega (arith, c.if-t-len.false) in
    written_past params code a.i.now a.temps.now.items
    (λ k is.
    let same = written_one c.in-Some.t k (writes a.i.now) c.in-Some.ensures is in
    subst (λ x. length a.temps.now.items ≤ x) (sym same) past)
