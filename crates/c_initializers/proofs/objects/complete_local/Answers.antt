use Rattle.c_initializers.proofs.ObjectLaws.{local_completes}
use Rattle.c_initializers.proofs.objects.complete_local.Goals as goal

pub returns : goal.returns
returns c =
    local_completes c.args.work.now c.with_count.new.nodes c.complete_local.new.self c.args.k c.in_ok-counted.counted _
    c.args.name c.requires.whole c.in_ok-counted.ensures c.complete_local.ensures.file
    (c.in_ok-complete_local.ensures.ok c.with_count.new.nodes.p)
