use Rattle.std.proofs.Common.{◌≡◌, ◌+◌, ◌<◌, get_or, length, drop, map, ap, ◌∙◌, subst}
use Rattle.cheri_c_sem.specs.Calls.{add_globals}
use Rattle.cheri_c_sem.specs.Programs.{global_tree}
use Rattle.tac_run.specs.Holdings.{Holding, ops_of, with_store}
use Rattle.tac_run.proofs.Folding.{onward, one_global, item_and_rest, item_at}
use Rattle.tac_run.proofs.start.add_globals.Goals as goal

pub globals-preserved : goal.globals-preserved
globals-preserved c =
    let p = c.args.program.p.now in
    let k = c.globals.k in
    let g = c.g-item.result in
    let m = c.globals.memory in
    let lt = subst (λ gs. k < length gs) c.as_slice-g-items.ensures c.globals-test.true in
    let is = subst (λ gs. g ≡ get_or gs k g) c.as_slice-g-items.ensures c.g-item.is in
    let size = c.facts.ensures.size (c.requires.ready.globals k g (item_at p.globals k g lt is)).small in
    let after = c.in_ok-add_global.ensures
    ∙ ap (λ n. with_store m ((ops_of m).add_global m.store k n)) size in
    record {
      under = ap (λ (h : Holding). h.map) after ∙ c.globals.invariant.under;
      so_far = onward m c.add_global.new.self _ _
          (λ ops s. add_globals ops s (k + 1) (map (global_tree p) (drop (k + 1) p.globals))) after
          (one_global p (ops_of m) (drop k p.globals) g (drop (k + 1) p.globals) m.store k
          (item_and_rest p.globals k g lt is)) c.globals.invariant.so_far;
    }
