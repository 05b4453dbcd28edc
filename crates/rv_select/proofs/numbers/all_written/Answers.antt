use Rattle.std.proofs.Common.{◌≡◌, ◌+◌, [], length, take, ap, ◌∙◌, subst, sym, arith}
use Rattle.std.proofs.lemmas.List.{length-set, take_all}
use Rattle.rv_select.specs.declared.numbers.Written.TheVariants.{Values}
use Rattle.rv_select.specs.Written.{AllWrite}
use Rattle.rv_select.proofs.Writers.{parameter_written, parameter_past, written_next}
use Rattle.rv_select.proofs.numbers.all_written.Goals as goal
use Rattle.rv_select.proofs.numbers.all_written.Goals.{then-t-len, else-t-len}

pub loop-t-preserved : goal.loop-t-preserved
loop-t-preserved c =
    let t = c.loop-t.t in
    let was = c.loop-t.invariant in
    elim c.if-t-len.branch [
      | then-t-len w ↦ record {
        len = ap (λ x. length x.items) w.temps-is ∙ length-set c.loop-t.temps.items t Values ∙ was.len;
        each = subst (λ x. AllWrite (t + 1) [] x.items) (sym w.temps-is)
            (parameter_written t c.loop-t.temps.items was.each);
      }
      | else-t-len w ↦ record {
        len = ap (λ x. length x.items) w.temps-is ∙ was.len;
        each = subst (λ x. AllWrite (t + 1) [] x.items) (sym w.temps-is)
            (parameter_past t c.loop-t.temps.items (omega (arith, w.if-t-len.false)) was.each);
      }
    ]

pub loop-i-preserved : goal.loop-i-preserved
loop-i-preserved c =
    let f = c.args.f.now in
    let all = c.as_slice-i-items.result.now in
    let n = c.loop-i.i-index in
    let was = c.loop-i.invariant in
    record {
      len = omega (arith, c.note.ensures.len, was.len);
      each = written_next f.params all n c.i-item.result c.note.new.temps.items (omega (arith, c.loop-i-test.true))
          c.i-item.is (c.note.ensures.each f.params (take n all) was.each);
    }

pub returns : goal.returns
returns c =
    let f = c.args.f.now in
    let all = c.as_slice-i-items.result.now in
    let n = c.loop-i.i-index in
    let past = c.loop-i-test.false in
    let whole : take n all ≡ f.code = take_all n all (omega (arith, past)) ∙ c.as_slice-i-items.ensures in
    record {
      one_each = c.loop-i.invariant.len;
      each = subst (λ x. AllWrite f.params x c.loop-i.temps.items) whole c.loop-i.invariant.each;
    }
