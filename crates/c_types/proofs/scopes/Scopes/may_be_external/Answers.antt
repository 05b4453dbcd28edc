use Rattle.std.proofs.Common.{◌∙◌, ap, sym}
use Rattle.c_tree.specs.Scopes.{find_in, innermost}
use Rattle.c_types.specs.Fitting.{external_seen}
use Rattle.c_types.proofs.Seeing.{external_seen_is}
use Rattle.c_types.proofs.scopes.Scopes.may_be_external.Goals as goal

pub returns : goal.returns
returns c p s h =
    c.is_new_or_linked.ensures p s h ∙ ap (external_seen s) (c.look_here.ensures p s h)
    ∙ sym (external_seen_is s (find_in (innermost s.scopes).names c.args.name.now))
