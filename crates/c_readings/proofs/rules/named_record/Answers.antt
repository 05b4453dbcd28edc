use Rattle.c_tree.specs.Declarators.{named_tag}
use Rattle.c_elaborator.specs.Parts.{token_of}
use Rattle.c_readings.proofs.Tagged.{tagged_done}
use Rattle.c_readings.proofs.rules.named_record.Goals as goal

pub returns : goal.returns
returns c =
    let u = c.args.work.now in
    tagged_done u c.named_tag.new.work c.args.kind (named_tag c.args.alone c.args.kind (token_of u c.args.name))
    c.in_ok-tag.tag c.tagged.result _ c.in_ok-tag.ensures c.tagged.ensures.there c.tagged.ensures.is
