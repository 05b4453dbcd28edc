use Rattle.std.proofs.Common.{◌≡◌, ◌+◌, Some, ap, ◌∙◌}
use Rattle.c_tree.specs.Symbols.{symbol}
use Rattle.c_parse.specs.Turns.{opening, closing}
use Rattle.c_parse.proofs.Deep.{counted}
use Rattle.c_parse.proofs.files.with_token.Goals as goal

pub returns : goal.returns
returns c = λ ts counts.
    let o : c.opening.result ≡ opening (symbol c.args.token.now) = c.opening.ensures.is ∙ ap opening c.symbol.ensures in
    let k : c.closing.result ≡ closing (symbol c.args.token.now) =
    c.closing.ensures.is ∙ ap closing c.symbol-2.ensures in
    counted c.args.brackets _ ts c.args.token.now (ap (λ v. c.args.brackets.opened + v) o)
    (ap (λ v. c.args.brackets.closed + v) k)
    (λ none same. c.deep_with.ensures.found none same ∙ ap (λ v. Some v) c.place.ensures.pos) c.deep_with.ensures.none
    c.deep_with.ensures.kept counts
