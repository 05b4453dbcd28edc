use Rattle.std.proofs.Common.{◌∷◌, [], length, refl, subst, sym}
use Rattle.c_tree.specs.declared.typed.StmtKind.TheVariants as stmts
use Rattle.c_copy.specs.Copying.{AllBelow}
use Rattle.c_passing.specs.Passes.{IsReturned}
use Rattle.c_passing.proofs.Building.{value_returned}
use Rattle.c_passing.proofs.statements.of_return.Goals as goal

pub returns-in-Some : goal.returns-in-Some
returns-in-Some c = subst (λ v. IsReturned c.args.source.now (stmts.Return v) c.given_back.result) (sym c.in-Some.is)
    (value_returned c.args.source.now c.in-Some.a c.given_back.result c.given_back.ensures)

pub given_back-requires : goal.given_back-requires
given_back-requires c =
    let there : AllBelow (length c.args.source.now.program.now.exprs) (c.in-Some.a ∷ []) =
    rw c.in-Some.is at c.requires in
    there 0 c.in-Some.a refl
