use Rattle.std.proofs.Common.{ap, sym}
use Rattle.rv_emit.proofs.Grown.{text_whole, contained_whole}
use Rattle.rv_emit.specs.Growing.{Size}
use Rattle.rv_emit.proofs.Grown.{completed}
use Rattle.rv_emit.proofs.emit.Code.complete.Goals as goal

pub returns-clause-text : goal.returns-clause-text
returns-clause-text c =
    text_whole _ _ _ _ _ _ _ c.in_ok-push.ensures.items c.self.invariant.0 c.lead_to_entries.ensures.led

pub returns-clause-contained : goal.returns-clause-contained
returns-clause-contained c =
    contained_whole _ _ _ _ _ _ _ c.in_ok-push.ensures.items c.self.invariant.0 c.lead_to_entries.ensures.led

pub returns-clause-led : goal.returns-clause-led
returns-clause-led c =
    completed c.args.self _ _ _ _ _ _ _ (ap (λ (x : Size). x.text) (sym c.self.view_is))
    (ap (λ (x : Size). x.links.calls) (sym c.self.view_is)) (ap (λ (x : Size). x.links.entered) (sym c.self.view_is))
    c.as_slice.ensures.value c.as_slice-2.ensures.value c.in_ok-push.ensures.items c.lead_to_entries.ensures.there
