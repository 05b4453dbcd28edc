use Rattle.std.proofs.lemmas.Result.{err_from_is_err_and}
use Rattle.c_tree.specs.Programs.{reading}
use Rattle.c_elaborator.specs.declared.work.Work.{Work}
use Rattle.c_elaborator.proofs.Sequencing.{type_there}
use Rattle.c_statements.proofs.Initializing.{local_unfilled, local_incomplete, local_filled_so}
use Rattle.c_statements.proofs.filling.initialize_local.Goals as goal

pub fill_local-requires : goal.fill_local-requires
fill_local-requires c =
    let u : Work = c.args.work.now in
    let v : Work = c.initializer.new.work in
    let a = c.in_ok-filled.ensures c.requires.part.syntax c.requires.part.is in
    record { whole = a.whole; there = type_there u v c.args.of a.grows.keeps c.requires.there; filled = a.there }

pub init_actions-requires : goal.init_actions-requires
init_actions-requires c =
    let b = c.in_ok-slots.ensures in record { whole = b.whole; slots = rw c.as_slice.ensures.value b.there }

pub returns-in_err-filled : goal.returns-in_err-filled
returns-in_err-filled c = let e = err_from_is_err_and c.from_residual.result c.from_residual.ensures.1 in λ x p.
    rw (e.1, e.2) (local_unfilled c.args.work.now c.initializer.new.work c.initializer.new.work c.args.k c.args.name
    c.args.of (reading x) c.args.b.first _ (c.in_err-filled.ensures x p))

pub returns-in_err-slots : goal.returns-in_err-slots
returns-in_err-slots c =
    let e = err_from_is_err_and c.from_residual-in_err-slots.result c.from_residual-in_err-slots.ensures.1 in λ x p.
    rw (e.1, e.2) (local_incomplete c.args.work.now c.initializer.new.work c.fill_local.new.work c.fill_local.new.work
    c.args.k c.args.name c.args.of (reading x) c.args.b.first c.in_ok-filled.filled _ c.requires.there
    (c.in_ok-filled.ensures x p) c.in_err-slots.ensures)

pub returns : goal.returns
returns c = λ x p.
    local_filled_so c.args.work.now c.initializer.new.work c.fill_local.new.work c.init_actions.new.work c.args.k
    c.args.name c.args.of (reading x) c.args.b.first c.in_ok-filled.filled c.in_ok-slots.slots c.init_actions.result
    c.requires.there
    (c.in_ok-filled.ensures x p) c.in_ok-slots.ensures (rw c.as_slice.ensures.value at c.init_actions.ensures)
