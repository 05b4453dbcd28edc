use Rattle.std.proofs.Common.{refl, ap}
use Rattle.c_tree.specs.Scopes.{give}
use Rattle.c_declarators.specs.Parts.{any_scope}
use Rattle.c_declarators.specs.Forming.{formed_in}
use Rattle.c_declarators.proofs.Quietly.{given_quietly}
use Rattle.c_declarators.proofs.Wrapping.{formed_is}
use Rattle.c_declarators.proofs.typing.formed.Goals as goal

pub returns : goal.returns
returns c = λ ws a.
    given_quietly c.args.work.now c.form.new.nodes _ _ _
    (λ s. formed_in c.form.new.nodes c.in_ok-form.field-0) c.in_ok-form.ensures.keeps c.in_ok-form.ensures.there
    (λ s h. ap (λ x. give x s) (formed_is any_scope c.args.work.now c.form.new.nodes c.in_ok-form.field-0 c.args.of
    c.args.wraps.now ws s c.in_ok-form.ensures a h))
    (λ s h. refl)
