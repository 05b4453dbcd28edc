use Rattle.std.proofs.Common.{ℕ, Ok, sym, ap, ◌∙◌}
use Rattle.cap_machine.proofs.Passed.{checked_passes}
use Rattle.cap_machine.proofs.kept.cause_of.Goals as goal

pub returns-in-Ok : goal.returns-in-Ok
returns-in-Ok c =
    let passed = checked_passes c.args.c.now c.args.at _ c.args.a (sym c.in-Ok.ensures) in
    sym c.in-Ok.ensures ∙ ap (λ (x : ℕ). Ok x) (sym passed.0)
