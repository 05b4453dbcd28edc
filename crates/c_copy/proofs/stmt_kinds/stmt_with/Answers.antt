use Rattle.std.proofs.Common.{◌≡◌, ℕ, List, [], ◌∷◌, ◌+◌, length, sym, subst, ◌∙◌, length-append}
use Rattle.std.proofs.lemmas.Result.{IfOk-weaker}
use Rattle.c_tree.specs.declared.typed.StmtKind.{StmtKind}
use Rattle.c_tree.specs.declared.typed.StmtKind.TheVariants as stmts
use Rattle.c_copy.specs.Copying.{IsStmtWith}
use Rattle.c_copy.proofs.stmt_kinds.stmt_with.Goals as goal

pub returns-in-If : goal.returns-in-If
returns-in-If c = rw (c.in-If.is, c.one.ensures) (c.if_with.ensures _ _)

pub returns-in-For : goal.returns-in-For
returns-in-For c =
    let a = c.in-For in
    let n : length c.args.ys.now ≡ length a.first + 1 =
    (rw a.is at c.requires.parts) ∙ length-append a.first (a.body ∷ []) in
    IfOk-weaker c.for_with.result _ _
    (λ k h.
    subst (λ (s : StmtKind). IsStmtWith s c.args.xs.now c.args.ys.now k) (sym a.is)
    (subst (λ (vs : List ℕ). IsStmtWith (stmts.For vs a.first a.test a.step a.body) c.args.xs.now c.args.ys.now k)
    c.as_slice-in-For.ensures (h a.first a.body n)))
    c.for_with.ensures
