use Rattle.std.proofs.Common.{length, sym, ap, ◌∙◌}
use Rattle.std.proofs.lemmas.Bool.{eqb-true, eqb-false}
use Rattle.c_tree.specs.Scopes.{find_name}
use Rattle.c_tree.specs.Expressions.{called_library, library_number}
use Rattle.c_elaborator.specs.declared.work.Name.{Name}
use Rattle.c_elaborator.specs.Parts.{token_of}
use Rattle.c_readings.proofs.Calling.{named_alone, named_with}
use Rattle.c_readings.proofs.expressions.named_library.Goals as goal

pub returns-then-is_empty : goal.returns-then-is_empty
returns-then-is_empty c = λ t xs h s k.
    let n = c.args.node.now in
    let w = c.args.work.now in
    let e = eqb-true (length c.as_slice.result.now) 0 (sym c.is_empty.ensures ∙ c.if-is_empty.true) in
    ap (called_library s) (named_alone w t n.kids (ap length (sym c.as_slice.ensures) ∙ e) xs h.parts)
    ∙ ap (λ x. library_number (find_name s.scopes x))
    (h.text ∙ ap (λ (m : Name). (token_of w m).text) (sym c.name_of.ensures)) ∙ c.called_library.ensures s k

pub returns-else-is_empty : goal.returns-else-is_empty
returns-else-is_empty c = λ t xs h s k.
    let n = c.args.node.now in
    let w = c.args.work.now in
    let e = eqb-false (length c.as_slice.result.now) 0 (sym c.is_empty.ensures ∙ c.if-is_empty.false) in
    ap (called_library s) (named_with w t n.kids (λ z. e (ap length c.as_slice.ensures ∙ z)) xs h.parts)
