use Rattle.std.proofs.Common.{◌≡◌, true, false, sym, ◌∙◌, arith}
use Rattle.std.specs.Prelude.{slice_get}
use Rattle.cheri_c_sem.specs.Types.{is_simple}
use Rattle.mean_run.specs.Views.{vars_at}
use Rattle.mean_run.proofs.Counts.{few}
use Rattle.mean_run.proofs.Stating.{not_false, not_true}
use Rattle.mean_run.proofs.state.State.initialized.Goals as goal

pub returns-then-is_object-clause-does : goal.returns-then-is_object-clause-does
returns-then-is_object-clause-does g c = λ fit small e.
    let p = c.args.s.now.p.now in
    let vars = vars_at p c.args.f in
    let simple : is_simple (slice_get vars c.args.x) ≡ false =
    not_true _ (sym c.is_object.ensures ∙ c.if-is_object.true) in
    let least = few vars c.args.x in
    let count = c.before-then-is_object.ensures p c.requires.locals in
    rw (simple, ← count) (c.initialize_object.ensures.does fit small (omega arith) e)

pub returns-else-is_object-clause-does : goal.returns-else-is_object-clause-does
returns-else-is_object-clause-does g c = λ fit small e.
    let p = c.args.s.now.p.now in
    let simple : is_simple (slice_get (vars_at p c.args.f) c.args.x) ≡ true =
    not_false _ (sym c.is_object.ensures ∙ c.if-is_object.false) in
    rw simple (c.initialize_variable.ensures p (g.B.Operations.meaning c.args.m.now)
    (g.B.Operations.held c.args.m.now) e)
