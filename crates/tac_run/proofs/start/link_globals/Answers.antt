use Rattle.std.proofs.Common.{◌≡◌, ◌<◌, get_or, length, subst}
use Rattle.tac_run.proofs.Folding.{item_at}
use Rattle.tac_run.proofs.start.link_globals.Goals as goal

pub link_global-requires-clause-bounds : goal.link_global-requires-clause-bounds
link_global-requires-clause-bounds c =
    let p = c.args.program.p.now in
    let k = c.globals.object in
    let g = c.g-item.result in
    let lt = subst (λ gs. k < length gs) c.as_slice-g-items.ensures c.globals-test.true in
    let is = subst (λ gs. g ≡ get_or gs k g) c.as_slice-g-items.ensures c.g-item.is in
    (c.requires.ready.globals k g (item_at p.globals k g lt is)).bounded
