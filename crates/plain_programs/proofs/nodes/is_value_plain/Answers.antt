use Rattle.std.proofs.Common.{◌≡◌, List, false, Some, ap, sym, subst, ◌∙◌}
use Rattle.std.specs.Prelude.{slice_get}
use Rattle.std.proofs.lemmas.Bool.{not-true}
use Rattle.std.proofs.lemmas.Option.{same_Some}
use Rattle.c_tree.specs.declared.typed.CType.{CType}
use Rattle.c_tree.specs.declared.typed.Expr.{Expr}
use Rattle.c_tree.specs.Passed.{by_pointer}
use Rattle.passing_steps.specs.Numbered.{type_in}
use Rattle.plain_programs.proofs.nodes.is_value_plain.Goals as goal

pub returns-in-Some : goal.returns-in-Some
returns-in-Some c = λ t d g.
    let p = c.args.p.now in
    let e = c.in-Some.e.now in
    let at : slice_get p.exprs c.args.a ≡ Some e =
    ap (λ (es : List Expr). slice_get es c.args.a) (sym c.as_slice.ensures) ∙ c.in-Some.ensures in
    let same : e ≡ d = same_Some e d (sym at ∙ g) in
    subst (λ (x : Expr). by_pointer (type_in p.types x.of) ≡ false) same
    (ap (λ (ts : List CType). by_pointer (type_in ts e.of)) (sym c.as_slice-in-Some.ensures)
    ∙ sym c.by_pointer.ensures ∙ not-true _ t)
