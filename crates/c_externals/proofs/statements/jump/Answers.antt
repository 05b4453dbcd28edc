use Rattle.std.proofs.Common.{sym, refl}
use Rattle.std.proofs.lemmas.Result.{err_from_is_err_and, IfOk-weaker}
use Rattle.c_externals.specs.Statements.{jump_from}
use Rattle.c_phrases.proofs.Made.{grows_same, grows_to, bind_is, fails_bind}
use Rattle.c_externals.proofs.Parted.{leaf_reads}
use Rattle.c_phrases.proofs.Paying.{took, noded, then_owed, owes}
use Rattle.c_externals.proofs.statements.jump.Goals as goal

pub returns-in_err-expect-clause-tree : goal.returns-in_err-expect-clause-tree
unfolding jump_from
returns-in_err-expect-clause-tree c =
    λ names h. let p = err_from_is_err_and c.from_residual.result c.from_residual.ensures.1 in rw (p.1, p.2)
    (fails_bind _ _ _ c.in_err-expect.ensures.found)

pub returns-clause-tree : goal.returns-clause-tree
unfolding jump_from
returns-clause-tree c = λ names h. leaf_reads _ c.expect.new.self _ c.leaf.result c.leaf.ensures.tree
    c.leaf.ensures.grows c.leaf.ensures.rest (grows_to grows_same (sym c.in_ok-expect.ensures.nodes)) names
    (bind_is _ c.in_ok-expect.ensures.found)

pub returns-clause-size : goal.returns-clause-size
returns-clause-size c = IfOk-weaker c.leaf.result _ _
    (λ p e. owes (then_owed {m = 0} (took c.args.cursor.now c.expect.new.self c.expect.ensures.nodes
    c.in_ok-expect.ensures.size)
    (noded c.expect.new.self c.leaf.new.self e c.leaf.ensures.rest) refl)) c.leaf.ensures.size
