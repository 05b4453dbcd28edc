use Rattle.std.proofs.Common.{◌∙◌}
use Rattle.c_plain_rules.proofs.Shown.{function_is}
use Rattle.c_finish.proofs.Firsts.{definition_met}
use Rattle.c_finish.proofs.Functions.{routine_is}
use Rattle.c_finish.proofs.routines.routine.Goals as goal

pub returns-clause-there : goal.returns-clause-there
returns-clause-there c =
    let w = c.args.work.now in
    let m = definition_met c.args.k w.definitions.items c.args.d.now c.requires.definition in
    (c.requires.shown.shows.closed.definitions m.0 c.args.d.now m.1).body

pub returns-clause-is : goal.returns-clause-is
returns-clause-is c = λ s r h e.
    let w = c.args.work.now in
    routine_is w s c.args.k c.function_at-f.result.now r c.args.d.now c.from_vec.result c.from_vec-2.result h
    (function_is w s c.args.k c.function_at-f.result.now r h c.function_at-f.ensures e) e c.requires.definition
    (c.from_vec.ensures ∙ c.in_ok-params.ensures ∙ c.as_slice.ensures.value)
    (c.from_vec-2.ensures ∙ c.in_ok-vars.ensures ∙ c.as_slice-2.ensures.value)
