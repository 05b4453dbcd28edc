use Rattle.std.proofs.Common.{length, ap, sym, ◌∙◌}
use Rattle.rv_emit.specs.Growing.{Size}
use Rattle.rv_emit.proofs.emit.Code.counted.Goals as goal

pub returns : goal.returns
returns c =
    ap (λ (x : Size). x.words) (sym c.self.view_is) ∙ c.self.inside.words.ok.0
    ∙ ap (λ (x : Size). length x.text) c.self.view_is
