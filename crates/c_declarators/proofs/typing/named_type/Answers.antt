use Rattle.std.proofs.Common.{refl, ap, ◌∙◌, false}
use Rattle.c_tree.specs.Scopes.{give, ◌>>◌}
use Rattle.c_tree.specs.Declarators as meant
use Rattle.c_tree.specs.Declarators.{judge}
use Rattle.c_elaborator.specs.Answers.{TypeThere, IsType}
use Rattle.c_declarators.specs.Parts.{any_scope}
use Rattle.c_declarators.specs.Forming.{formed_in}
use Rattle.c_declarators.proofs.Quietly.{given_quietly, judged_err, judged_ok}
use Rattle.c_declarators.proofs.Wrapping.{formed_is, faults_in}
use Rattle.c_declarators.proofs.typing.named_type.Goals as goal

pub returns-in-Err : goal.returns-in-Err
returns-in-Err c = λ ws a.
    let x : meant.Formed = formed_in c.form.new.nodes c.in_ok-formed.formed in
    judged_err c.args.work.now (record c.args.work.now { nodes = c.form.new.nodes }) _
    (λ s. judge x false false c.args.pos) (λ s. give x.of) TypeThere IsType c.in-Err.refusal
    (λ s h. ap (λ (f : meant.Formed). (judge f false false c.args.pos >> give f.of) s)
    (formed_is any_scope c.args.work.now c.form.new.nodes c.in_ok-formed.formed c.args.of c.args.wraps.now ws s
    c.in_ok-formed.ensures a h))
    (λ s h. c.in-Err.ensures x (faults_in c.form.new.nodes c.in_ok-formed.formed))

pub returns-in-Ok : goal.returns-in-Ok
returns-in-Ok c = λ ws a.
    let x : meant.Formed = formed_in c.form.new.nodes c.in_ok-formed.formed in
    given_quietly c.args.work.now c.form.new.nodes _ _ _
    (λ s. x.of) c.in_ok-formed.ensures.keeps c.in_ok-formed.ensures.there
    (λ s h. ap (λ (f : meant.Formed). (judge f false false c.args.pos >> give f.of) s)
    (formed_is any_scope c.args.work.now c.form.new.nodes c.in_ok-formed.formed c.args.of c.args.wraps.now ws s
    c.in_ok-formed.ensures a h)
    ∙ judged_ok (judge x false false c.args.pos) (give x.of) s
    (c.in-Ok.ensures x (faults_in c.form.new.nodes c.in_ok-formed.formed)))
    (λ s h. refl)
