use Rattle.std.proofs.Common.{sym, ◌∙◌}
use Rattle.c_tree.specs.declared.typed.FunDef.{FunDef}
use Rattle.cheri_c_sem.specs.Compatible.{compatible}
use Rattle.mean_run.proofs.Calling.{index_none, index_some}
use Rattle.mean_run.proofs.calls.is_compatible.Goals as goal

pub returns-in-None : goal.returns-in-None
returns-in-None c = λ vars.
    let p = c.args.s.now.p.now in
    index_none (λ (f : FunDef). compatible p.types c.args.of f.of) p.funs c.args.g (sym c.in-None.ensures)

pub returns-in-Some : goal.returns-in-Some
returns-in-Some c = λ vars.
    let p = c.args.s.now.p.now in
    (rw c.as_slice.ensures at c.compatible.ensures)
    ∙ index_some (λ (f : FunDef). compatible p.types c.args.of f.of) p.funs c.args.g c.in-Some.d.now
    (sym c.in-Some.ensures)
