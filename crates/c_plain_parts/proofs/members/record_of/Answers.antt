use Rattle.std.proofs.Common.{◌≡◌, sym, ap, ◌∙◌}
use Rattle.c_plain_parts.proofs.RecordLaws.{kind-some, kind-none, placed-kind}
use Rattle.c_plain_parts.proofs.members.record_of.Goals as goal

pub returns-in-None : goal.returns-in-None
returns-in-None c = λ s h. kind-none _ (sym c.in-None.is ∙ c.kind_of_tag.ensures c.args.work.now.nodes.p s h.stands)

pub returns-in-Some : goal.returns-in-Some
returns-in-Some c = λ s h.
    let w = c.args.work.now in
    let k = kind-some _ c.in-Some.kind (sym c.in-Some.is ∙ c.kind_of_tag.ensures w.nodes.p s h.stands) in
    record {
      state = k.0;
      is = k.1;
      kind = k.2;
      places = placed-kind w s c.args.tag k.0 c.in-Some.kind c.members_of.result.now k.2
          (c.members_of.ensures s h k.0 k.1);
    }
