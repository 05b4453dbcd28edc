use Rattle.std.proofs.Common.{◌∙◌}
use Rattle.c_mean.proofs.Started.{started}
use Rattle.c_mean.proofs.start.start.Goals as goal

pub returns-clause-did : goal.returns-clause-did
returns-clause-did g c =
    let s1 = c.add_all_globals.ensures.same in
    let s2 = c.add_all_literals.ensures.same ∙ s1 in
    let s3 = c.fill_all_globals.ensures.same ∙ s2 in
    let s4 = c.fill_all_literals.ensures.same ∙ s3 in
    started (g.B.Operations.meaning c.args.m.now) c.args.p.now _ _ _ _ _ _ c.requires.empty
    c.in_ok-add_all_globals.ensures.did (rw s1 at c.in_ok-add_all_literals.ensures.did)
    (rw s2 at c.fill_all_globals.ensures.did) (rw s3 at c.fill_all_literals.ensures.did)
    (rw s4 at c.link_all_globals.ensures.did)
