use Rattle.std.proofs.lemmas.Result.{err_from_is_err_and}
use Rattle.c_elab.proofs.Externals.{declared_done, declared_fails}
use Rattle.c_elab.proofs.elaboration.declare.Goals as goal

pub returns-in_err-declaration : goal.returns-in_err-declaration
returns-in_err-declaration c =
    let q = err_from_is_err_and c.from_residual.result c.from_residual.ensures.1 in λ t xs e a.
    rw (q.1, q.2) (declared_fails c.args.work.now c.declaration.new.work t xs c.args.pos _ e
    (c.in_err-declaration.ensures xs a))

pub returns : goal.returns
returns c = λ t xs e a. declared_done c.args.work.now c.declaration.new.work t xs c.args.pos c.in_ok-declaration.field-0
    e (c.in_ok-declaration.ensures xs a)
