use Rattle.std.proofs.Common.{List, ℕ, sym, ap, ◌∙◌}
use Rattle.std.specs.Prelude.{bytes_eq, codes}
use Rattle.c_tree.specs.Types.{Function, int, no_types, same}
use Rattle.c_tree.specs.Programs.{is_there}
use Rattle.c_tree.specs.Views.{types_of, type_at}
use Rattle.c_plain_parts.proofs.MainFunction.{no_body_no_main, main_parts}
use Rattle.c_plain_parts.proofs.Shown.{function_is, body_there}
use Rattle.c_plain_rules.proofs.main_function.is_main.Goals as goal

pub returns-in-None : goal.returns-in-None
returns-in-None c = λ s r h e. no_body_no_main r
    (body_there c.args.work.now s c.args.k r h e ∙ ap is_there (sym (rw c.in-None.is at c.definition-found.ensures)))

pub returns-in-Some : goal.returns-in-Some
returns-in-Some c = λ s r h e.
    let w = c.args.work.now in
    let d = function_is w s c.args.k c.function_at-f.result.now r h c.function_at-f.ensures e in
    main_parts r c.is_named_main-is_named.result c.is_main_type-is_typed.result
    (body_there w s c.args.k r h e ∙ ap is_there (sym (rw c.in-Some.is at c.definition-found.ensures)))
    (ap (λ (t : List ℕ). bytes_eq t (codes "main")) (sym (c.text-text.ensures ∙ d.text))
    ∙ c.is_named_main-is_named.ensures)
    (ap (λ t. same t (Function int no_types)) (sym d.of)
    ∙ ap (λ cs. same (type_at (types_of cs) c.function_at-f.result.now.of) (Function int no_types))
    (sym c.as_slice.ensures) ∙ c.is_main_type-is_typed.ensures) ∙ c.both.ensures
