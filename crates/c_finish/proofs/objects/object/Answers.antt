use Rattle.std.proofs.Common.{sym, ◌∙◌}
use Rattle.c_finish.proofs.Globals.{object_is, starts_near}
use Rattle.c_finish.proofs.objects.object.Goals as goal

pub returns : goal.returns
returns c = λ s g h e d. object_is c.args.work.now s c.args.k c.global_at-g.result.now g _ c.from_vec.result _
    c.from_vec-2.result _ c.from_vec.ensures c.from_vec-2.ensures h c.global_at-g.ensures e d c.filling-given.ensures
    (c.in_ok-bytes.ensures s h)

pub initial-requires-clause-near : goal.initial-requires-clause-near
initial-requires-clause-near c =
    λ f e. starts_near c.args.work.now c.args.k f c.requires.shown c.requires.faultless c.requires.there
    (sym c.filling-given.ensures ∙ e)
