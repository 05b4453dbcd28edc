use Rattle.std.proofs.Common.{◌≡◌, take, map}
use Rattle.c_passing.specs.Lists.{hidden_for_each}
use Rattle.c_passing.specs.Passes.{written_term}
use Rattle.c_passing.proofs.calls.hide_arguments.Given as goal
use Rattle.passing_steps.specs.Steps.{Hides}

abbrev pub invariant-loop-x : goal.invariant-loop-x
invariant-loop-x l = record {
  hides : Hides l.source l.initial.out l.out
      (λ names. hidden_for_each names l.pos (map (written_term l.source) (take l.x-index l.xs)));
  rest : l.out ≡ record l.initial.out { vars = l.out.vars };
}
