use Rattle.std.proofs.Common.{◌-◌, length, sym, ap, ◌∙◌, arith}
use Rattle.std.proofs.lemmas.List.{take_all}
use Rattle.c_initializers.specs.Texts.{without_zeros}
use Rattle.c_initializers.proofs.TextLaws.{one-less, front-stays}
use Rattle.c_initializers.proofs.texts.without_zeros.Goals as goal

pub loop-end-init : goal.loop-end-init
loop-end-init c =
    let bs = c.args.bytes.now in
    record { within = omega arith; same = ap without_zeros (take_all (length bs) bs (omega arith)) }

pub loop-end-preserved : goal.loop-end-preserved
loop-end-preserved c =
    let n = c.loop-end.end in
    record {
      within = omega arith;
      same = one-less c.args.bytes.now n (n - 1) (omega arith) (omega arith) (omega arith)
          ∙ c.loop-end.invariant.same;
    }

pub returns-then-bytes-end-ne0 : goal.returns-then-bytes-end-ne0
returns-then-bytes-end-ne0 c =
    let bs = c.args.bytes.now in
    let n = c.loop-end.end in
    c.in_ok-kept.ensures.items
    ∙ sym (front-stays bs n (n - 1) (omega arith) (omega arith) c.if-bytes-end-ne0.true)
    ∙ c.loop-end.invariant.same
