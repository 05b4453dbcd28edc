use Rattle.std.proofs.Common.{◌≡◌, ℕ, List, not, sym, subst}
use Rattle.ck_base.specs.declared.positions.Pos.{Pos}
use Rattle.c_tree.specs.declared.typed.Expr.{Expr}
use Rattle.c_tree.specs.Types.{Ty}
use Rattle.c_tree.specs.Terms.{Term}
use Rattle.c_tree.specs.Statics.{is_value_start}
use Rattle.c_tree.specs.Views.{kind_term}
use Rattle.c_expressions.proofs.Levels.{item_at}
use Rattle.c_initializers.proofs.FormLaws.{value-is}
use Rattle.c_initializers.proofs.forms.reads.Goals as goal

pub returns : goal.returns
returns c =
    let x = c.index-as_slice-node.result in
    value-is c.args.nodes.now c.args.node x (not c.is_load.result)
    (item_at c.args.nodes.now.p.exprs c.as_slice.result.now c.args.node x x c.as_slice.ensures c.requires.there
    c.index-as_slice-node.is)
    (subst (λ (y : Expr). (ts : List Ty) (t : Ty) (p : Pos) (go : ℕ → Term) →
    is_value_start (kind_term ts y.kind t p go) ≡ not c.is_load.result)
    (sym c.index-as_slice-node.is) c.is_load.ensures)
