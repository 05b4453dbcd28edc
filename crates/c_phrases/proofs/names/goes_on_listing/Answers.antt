use Rattle.std.proofs.Common.{ap, sym, ◌∙◌}
use Rattle.std.specs.Prelude.{◌&&◌, not}
use Rattle.c_phrases.specs.Reading.{goes_on_listing, is_comma, is_close_brace, starts, past}
use Rattle.c_phrases.proofs.names.goes_on_listing.Goals as goal

pub returns-then-is_marked : goal.returns-then-is_marked
returns-then-is_marked c =
    let next = past c.args.tokens.now in
    let comma = ap (λ s. is_comma s) (sym c.symbol.ensures) ∙ sym c.is_marked.ensures ∙ c.if-is_marked.true in
    ap not (c.is_marked_at.ensures next c.second.ensures)
    ∙ sym (ap goes_on_listing c.in-Some.ensures ∙ ap (λ v. v && not (starts is_close_brace next)) comma)
