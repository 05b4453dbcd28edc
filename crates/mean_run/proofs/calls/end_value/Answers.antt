use Rattle.std.proofs.Common.{sym, ◌∙◌}
use Rattle.mean_run.proofs.calls.end_value.Goals as goal

pub returns-else-is_main : goal.returns-else-is_main
returns-else-is_main g c = λ n.
    rw (← c.in-Some.ensures, sym c.is_main.ensures ∙ c.if-is_main.false) (c.end_of.ensures n)
