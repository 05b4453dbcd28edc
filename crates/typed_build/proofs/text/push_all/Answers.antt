use Rattle.std.proofs.Common.{Some, sym, ap, ◌∙◌, arith}
use Rattle.std.proofs.lemmas.Option.{slice_get-get_or}
use Rattle.typed_build.proofs.Filling.{pushed-more}
use Rattle.typed_build.proofs.text.push_all.Goals as goal

pub push-requires : goal.push-requires
push-requires c =
    c.requires c.loop-i.i-index c.i-item.result
    (slice_get-get_or c.args.code.now c.loop-i.i-index c.i-item.result (omega (arith, c.loop-i-test.true))
    ∙ ap (λ i. Some i) (sym c.i-item.is))

pub loop-i-preserved : goal.loop-i-preserved
loop-i-preserved c = pushed-more c.loop-i.text.items c.push.new.text.items _ c.args.code.now c.i-item.result
    c.loop-i.i-index (omega (arith, c.loop-i-test.true)) c.i-item.is c.in_ok-push.ensures c.loop-i.invariant
