use Rattle.std.proofs.Common.{ℕ, length, Ok, sym, ap, subst, ◌∙◌}
use Rattle.std.proofs.lemmas.List.{length-map}
use Rattle.c_tree.specs.Scopes.{change}
use Rattle.c_tree.specs.Declarators.{bind_parameter}
use Rattle.c_elaborator.specs.Answers.{Answers, quietly, NothingThere, IsNothing}
use Rattle.c_declarators.specs.Parts.{param_in}
use Rattle.c_readings.proofs.rules.declare_parameter.Goals as goal

pub returns-clause-answers : goal.returns-clause-answers
returns-clause-answers c =
    let u = c.args.work.now in
    subst (λ (n : ℕ). Answers quietly u c.bind_parameter.new.work
    (change (bind_parameter n (param_in u c.args.p))) NothingThere IsNothing (Ok tt))
    (c.in_ok-k.ensures ∙ ap length c.as_slice.ensures.value ∙ sym (length-map c.args.params.now.items (param_in u)))
    c.in_ok-bind_parameter.ensures
