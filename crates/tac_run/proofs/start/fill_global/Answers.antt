use Rattle.std.proofs.Common.{◌-◌, ◌++◌, length, replicate, ap, ◌∙◌}
use Rattle.cheri_c_sem.specs.Calls.{with_bytes}
use Rattle.tac_run.specs.Holdings.{ops_of, with_store}
use Rattle.tac_run.proofs.Folding.{filled}
use Rattle.tac_run.proofs.start.fill_global.Goals as goal

pub returns : goal.returns
returns c =
    let m = c.args.memory.now in
    let o = c.args.object in
    let bs = c.as_slice-bytes.result.now in
    let g = c.args.g.now in
    filled m c.write_bytes.new.memory c.write_zeros.new.memory o bs (replicate (c.facts.result.size - length bs) 0)
    c.write_bytes.ensures c.write_zeros.ensures
    ∙ (ap (λ xs. with_store m (with_bytes (ops_of m) m.store o 0 (xs ++ replicate (c.facts.result.size - length xs) 0)))
    c.as_slice-bytes.ensures
    ∙ ap (λ n. with_store m (with_bytes (ops_of m) m.store o 0 (g.bytes ++ replicate (n - length g.bytes) 0)))
    (c.facts.ensures.size c.requires.small))
