use Rattle.std.proofs.Common.{ap, ◌∙◌}
use Rattle.std.specs.Prelude.{sum_by}
use Rattle.std.proofs.lemmas.List.{take_all}
use Rattle.program_needs.specs.Needs.{counted}
use Rattle.program_needs.proofs.Locals.{var_room, sum_locals}
use Rattle.program_needs.proofs.needs.local_room.Goals as goal

pub returns : goal.returns
returns c =
    c.loop-v.invariant ∙ ap (λ vs. counted (sum_by (var_room c.args.p.now.types) vs))
    (take_all c.loop-v.v-index c.as_slice-vars.result.now c.loop-v-test.false ∙ c.as_slice-vars.ensures)
    ∙ ap counted (sum_locals c.args.p.now.types c.args.f.now.vars)
