use Rattle.std.proofs.Common.{◌+◌, min, refl, ap, ◌∙◌}
use Rattle.c_phrases.proofs.Specifying.{gathered_more}
use Rattle.c_phrases.proofs.steps.Gathered.with.Goals as goal

pub returns-clause-gathered : goal.returns-clause-gathered
returns-clause-gathered c =
    gathered_more c.args.part.root.kind _ _ _ c.is_typedef_word.ensures c.is_typedef_node.ensures c.names_type.ensures
    refl refl
    (c.saturating_add.ensures ∙ ap (λ v. min (c.args.self.type_names + v) 4_294_967_295) c.from.ensures)
