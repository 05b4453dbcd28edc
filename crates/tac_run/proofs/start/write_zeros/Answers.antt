use Rattle.std.proofs.Common.{◌+◌, ◌-◌, replicate, ap, ◌∙◌}
use Rattle.cheri_c_sem.specs.Calls.{with_bytes}
use Rattle.tac_run.specs.Holdings.{Holding, ops_of}
use Rattle.tac_run.proofs.Folding.{onward, one_zero}
use Rattle.tac_run.proofs.start.write_zeros.Goals as goal

pub zeros-preserved : goal.zeros-preserved
zeros-preserved c =
    let m = c.zeros.memory in
    let at = c.zeros.at in
    record {
      under = ap (λ (h : Holding). h.map) c.write.ensures ∙ c.zeros.invariant.under;
      so_far = onward m c.write.new.memory _ _
          (λ ops s. with_bytes ops s c.args.object (at + 1) (replicate (c.args.to - (at + 1)) 0)) c.write.ensures
          (one_zero (ops_of m) c.args.object at c.args.to m.store c.zeros-test.true) c.zeros.invariant.so_far;
    }
