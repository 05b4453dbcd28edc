use Rattle.std.proofs.Common.{◌≡◌, true, refl, sym, ap, ◌∙◌}
use Rattle.std.specs.Prelude.{Some, option_map}
use Rattle.ck_base.specs.Tokens.{Lexeme}
use Rattle.c_tree.specs.Scopes.{State, Recorded}
use Rattle.c_tree.specs.Declarators.{kind_at}
use Rattle.c_types.specs.Stands.{tagging_of}
use Rattle.c_expressions.proofs.Keeping.{keeps_same}
use Rattle.c_elaborator.specs.declared.work.Work.{Work}
use Rattle.c_elaborator.specs.Work.{Shows}
use Rattle.c_elaborator.specs.Parts.{token_of}
use Rattle.c_declarators.proofs.Quietly.{given_quietly}
use Rattle.c_declarators.proofs.Tagging.{named_is, of_kind}
use Rattle.c_declarators.proofs.tags.named_tag.Goals as goal

pub returns-then-is_of_kind : goal.returns-then-is_of_kind
returns-then-is_of_kind c =
    let w : Work = c.args.work.now in
    let t : Lexeme = token_of w c.args.name in
    let n = c.in-Some-Recorded.tag in
    let kind : (s : State) → Shows w s → kind_at s n c.args.kind ≡ true =
    λ s h. sym (c.is_of_kind.ensures w.nodes.p s h.stands) ∙ c.if-is_of_kind.true in
    given_quietly w w.nodes _ _ _ (λ s. n) (keeps_same w.nodes c.requires) tt
    (λ s h. named_is c.args.here c.args.kind t s (Some (Recorded n))
    (sym (c.found_tag.ensures s h)
    ∙ ap (option_map tagging_of) (c.in-Some-Recorded.is ∙ ap (λ x. Some x) c.in-Some-Recorded.field-0-is))
    ∙ of_kind c.args.kind t n s (kind s h))
    (λ s h. (refl, kind s h))
