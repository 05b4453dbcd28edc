use Rattle.std.proofs.lemmas.Result.{err_from_is_err_and}
use Rattle.c_tree.specs.Programs.{reading}
use Rattle.c_statements.proofs.Initializing.{static_unfilled, static_incomplete, static_filled_so}
use Rattle.c_statements.proofs.filling.initialize_values.Goals as goal

pub fill_static-requires : goal.fill_static-requires
fill_static-requires c = let a = c.in_ok-filled.ensures c.requires.part.syntax c.requires.part.is in
    record { whole = a.whole; filled = a.there }

pub returns-in_err-filled : goal.returns-in_err-filled
returns-in_err-filled c =
    let e = err_from_is_err_and c.from_residual.result c.from_residual.ensures.1 in λ x p.
    rw (e.1, e.2) (static_unfilled c.args.work.now c.initializer.new.work c.initializer.new.work c.args.k c.args.name
    c.static_type-of.result (reading x) c.args.b.first _ c.static_type-of.ensures.is (c.in_err-filled.ensures x p))

pub returns-in_err-fill_static : goal.returns-in_err-fill_static
returns-in_err-fill_static c =
    let e = err_from_is_err_and c.from_residual-in_err-fill_static.result c.from_residual-in_err-fill_static.ensures.1
    in λ x p.
    rw (e.1, e.2) (static_incomplete c.args.work.now c.initializer.new.work c.fill_static.new.work
    c.fill_static.new.work c.args.k c.args.name c.static_type-of.result
    (reading x) c.args.b.first c.in_ok-filled.filled _ c.static_type-of.ensures.is
    (c.in_ok-filled.ensures x p) c.in_err-fill_static.ensures)

pub returns : goal.returns
returns c = λ x p.
    static_filled_so c.args.work.now c.initializer.new.work c.fill_static.new.work c.args.k c.args.name
    c.static_type-of.result
    (reading x) c.args.b.first c.in_ok-filled.filled c.no_items.result c.static_type-of.ensures.is
    (c.in_ok-filled.ensures x p) c.in_ok-fill_static.ensures c.no_items.ensures.vars c.no_items.ensures.actions
