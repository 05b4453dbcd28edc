use Rattle.std.proofs.Common.{rules, ◌∙◌, ap, map}
use Rattle.c_plain_parts.specs.Switches.{switch_label}
use Rattle.c_plain_parts.proofs.Alike.{added}
use Rattle.c_plain_parts.proofs.switches.with_label.Goals as goal

pub returns-clause-labels : goal.returns-clause-labels
returns-clause-labels c =
    ap (map switch_label) c.in_ok-insert.ensures.entries
    ∙ added c.args.value c.in_ok-before.before c.args.cases.labels.entries c.requires
    ∙ (search rules)
