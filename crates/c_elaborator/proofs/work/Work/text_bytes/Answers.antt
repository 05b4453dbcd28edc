use Rattle.std.proofs.Common.{ap, ◌∙◌, [], ◌∷◌, ◌++◌}
use Rattle.c_tree.specs.Values.{characters_of}
use Rattle.c_tree.specs.Expressions.{pieces}
use Rattle.c_elaborator.proofs.work.Work.text_bytes.Goals as goal

pub returns : goal.returns
returns c xs h =
    c.in_ok-push.ensures.items
    ∙ ap (λ bs. bs ++ 0 ∷ []) (c.in_ok-append_pieces.ensures xs h
    ∙ ap (λ bs. bs ++ pieces xs) (c.in_ok-append_text.ensures
    ∙ ap (λ bs. bs ++ characters_of c.text.result.now) c.new-bytes.ensures.items
    ∙ ap characters_of c.text.ensures))
