use Rattle.std.proofs.Common.{ℕ, sym, subst}
use Rattle.c_tree.specs.declared.typed.Expr.{Expr}
use Rattle.c_expressions.specs.Nodes.{OperandsBefore}
use Rattle.c_initializers.specs.Forms.{IsFormOf, StandsBefore}
use Rattle.c_expressions.proofs.Levels.{item_at}
use Rattle.c_initializers.proofs.FormLaws.{form-is}
use Rattle.c_initializers.proofs.forms.form_of.Goals as goal

pub returns : goal.returns
returns c =
    let n = c.args.node in
    let x = c.index-as_slice-node.result in
    let f = c.form_from.result in
    let at = item_at c.args.nodes.now.p.exprs c.as_slice.result.now n x x c.as_slice.ensures c.requires.there
    c.index-as_slice-node.is in
    form-is c.args.nodes.now n x f at
    (subst (λ (y : Expr). IsFormOf y.kind f) (sym c.index-as_slice-node.is) c.form_from.ensures.is)
    (subst (λ (y : Expr). (k : ℕ) → OperandsBefore k y.kind → StandsBefore f k) (sym c.index-as_slice-node.is)
    c.form_from.ensures.before n (c.requires.whole.typed n x at).before)
